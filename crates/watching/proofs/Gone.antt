-- A kept voxel taken out of the body.
use mathlib.Core.Path.{◌≡◌, ap, sym, ◌∙◌}
use mathlib.Core.Bool.{Bool, true, not, ◌&&◌}
use mathlib.Core.List.{List}
use Prim.Native.Nat.{ℕ, ◌-◌, ◌%◌, ◌≤◌, ◌<◌}
use native.Mathlib.Omega.{arith}
use native.Mathlib.Decide.{ℕ_discrete, dec_lt}
use lib.Dec.{eqb}
use lib.IntN.{ℤ}
use lib.ListN.{length, length-set, get_or-eq_default}
use lib.Seq.{get_or-set_same, get_or-set_other}
use borrow.Author.Tests.{eqb-true, eq-eqb, ne_eqb}
use Rattle.prelude.proofs.Bools.{and_zero, and_one, not-both}
use Rattle.rules.specs.declared.Sides.{Sides}
use Rattle.rules.specs.Grid.{size}
use Rattle.rules.specs.Status.{status_of, kept_byte, is_kept}
use Rattle.rules.proofs.Topology.Removal.{AllInner}
use Rattle.rules.proofs.Topology.Start.{border-inner}
use Rattle.neighbourhood.proofs.Bodies.{kept-inner}
use Rattle.judging.specs.Judge.{less_one}
use Rattle.entries.specs.Entries.{taken_out}
use Rattle.watching.specs.Watching.{Held}

module _ (s : Sides) (dist : List ℤ) (status : List ℕ) (held : Held s dist status) where
  -- every kept voxel lies within
  pub all-inner : AllInner s (is_kept status)
  all-inner j k = let n = kept-inner s status held.body j (below j k) k in (n.below, border-inner s j n.below n.off-border)
    where
      below : (j : ℕ) → is_kept status j ≡ true → j < size s
      below j k = elim (dec_lt j (size s)) [
        | yes h ↦ h
        | no h ↦ not-both (is_kept status j) k (unfold is_kept kept_byte in
            ap (λ (n : ℕ). eqb (n % 2) 1) (let past : length status ≤ j = omega (arith, held.body.statuses.lent) in get_or-eq_default status 0 past))
      ]

  module _ (i : ℕ) (below : i < size s) (kept : is_kept status i ≡ true) where
    abbrev x : ℕ
    x = status_of status i

    pub gone-below : i < length status
    gone-below = omega (arith, below, held.body.statuses.lent)

    pub gone-odd : x % 2 ≡ 1
    unfolding is_kept kept_byte
    gone-odd = eqb-true (x % 2) 1 kept

    -- its own byte, and the others
    gone-byte : (j : ℕ) → j ≡ i → status_of (taken_out status i) j ≡ x - 1
    gone-byte j e = ap (status_of (taken_out status i)) e ∙ get_or-set_same status i (x - 1) 0 gone-below

    same_byte : (j : ℕ) → (j ≡ i → ⊥) → status_of (taken_out status i) j ≡ status_of status j
    same_byte j n = get_or-set_other status i j (x - 1) 0 n

    pub gone-kept : (j : ℕ) → is_kept (taken_out status i) j ≡ less_one (is_kept status) i j
    unfolding is_kept kept_byte
    gone-kept j = go (ℕ_discrete j i)
      where
        even : (x - 1) % 2 ≡ 1 → ⊥
        even e = omega (arith, gone-odd)

        go : Dec (j ≡ i) → eqb (status_of (taken_out status i) j % 2) 1 ≡ (eqb (status_of status j % 2) 1 && not (eqb j i))
        go (yes e) =
            ap (λ (y : ℕ). eqb (y % 2) 1) (gone-byte j e)
            ∙ ne_eqb ((x - 1) % 2) 1 even
            ∙ sym (ap (λ (t : Bool). eqb (status_of status j % 2) 1 && not t) (eq-eqb j i e) ∙ and_zero (eqb (status_of status j % 2) 1))
        go (no n) =
            ap (λ (y : ℕ). eqb (y % 2) 1) (same_byte j n)
            ∙ sym (ap (λ (t : Bool). eqb (status_of status j % 2) 1 && not t) (ne_eqb j i n) ∙ and_one (eqb (status_of status j % 2) 1))

    few : (j : ℕ) → status_of (taken_out status i) j ≤ 3
    few j = elim (ℕ_discrete j i) [
      | yes e ↦ omega (arith, gone-byte j e, held.body.statuses.few i)
      | no n ↦ omega (arith, same_byte j n, held.body.statuses.few j)
    ]

    pub gone_held : Held s dist (taken_out status i)
    gone_held =
        record {
          body = record {
            sides = held.body.sides;
            statuses = record { lent = length-set status i (x - 1) ∙ held.body.statuses.lent; few = few };
            border = λ j h b. gone-kept j ∙ ap (λ (t : Bool). t && not (eqb j i)) (held.body.border j h b);
          };
          distances = held.distances;
        }
