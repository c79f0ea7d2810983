-- A kept voxel's distance made negative: -w, or -1 where w = 0; of one voxel and of all.
use mathlib.Core.Path.{◌≡◌, refl, sym, ap, ◌∙◌, subst}
use mathlib.Core.Bool.{Bool, true, false, cond, true≢false}
use mathlib.Core.List.{List, map}
use Prim.Native.Nat.{ℕ, zero, suc, ◌+◌, ◌-◌, ◌≤◌, ◌<◌}
use native.Mathlib.Omega.{arith}
use native.Mathlib.Decide.{ℕ_discrete}
use lib.IntN.{ℤ, pos, negsuc, ◌-ℤ◌, +ℤ_idl}
use lib.ListN.{length, set, length-set}
use lib.Seq.{get_or-set_same, get_or-set_other}
use Rattle.std.specs.Int.{int_max}
use borrow.Author.Tests.{lt-ltb}
use Rattle.prelude.proofs.Ranges.{is-map-range}
use Rattle.rules.specs.Grid.{range, is_negative, distance_at}
use Rattle.rules.specs.Status.{status_of, kept_byte, is_kept}
use Rattle.rules.specs.Machine.{closed, closed_at}
use Rattle.closing.specs.Closing.{closed_if}

module _ (d : ℤ) (x : ℕ) where
  pub closed-gone : kept_byte x ≡ false → closed_if d x ≡ d
  unfolding closed_if
  closed-gone e = ap (λ (t : Bool). cond t (closed d) d) e

  module _ (k : kept_byte x ≡ true) where
    closed-kept : closed_if d x ≡ closed d
    unfolding closed_if
    closed-kept = ap (λ (t : Bool). cond t (closed d) d) k

    pub closed-negative : is_negative d ≡ true → closed_if d x ≡ d
    unfolding closed
    closed-negative e = closed-kept ∙ go d e
      where
        go : (z : ℤ) → is_negative z ≡ true → closed z ≡ z
        go (pos w) e = absurd (true≢false (sym e))
        go (negsuc w) e = refl

    -- -w, and -1 where w = 0: the greater of w and 1 is turned
    pub closed-outer : is_negative d ≡ false → pos 0 -ℤ int_max d (pos 1) ≡ closed_if d x
    unfolding closed
    closed-outer e = go d e ∙ sym closed-kept
      where
        go : (z : ℤ) → is_negative z ≡ false → pos 0 -ℤ int_max z (pos 1) ≡ closed z
        go (pos zero) e = refl
        go (pos (suc zero)) e = refl
        go (pos (suc (suc w))) e =
            let n = suc (suc w) in
            let greater : int_max (pos n) (pos 1) ≡ pos n = ap (λ (t : Bool). cond t (pos n) (pos 1)) (lt-ltb 1 n (omega arith)) in
            let one_less : suc w ≡ n - 1 = omega arith in
            ap (λ (z : ℤ). pos 0 -ℤ z) greater ∙ +ℤ_idl (negsuc (suc w)) ∙ ap negsuc one_less
        go (negsuc w) e = absurd (true≢false e)

-- ---- all voxels below i closed

pub record Closing (before : List ℤ) (status : List ℕ) (dist : List ℤ) (i : ℕ) : Type 0 where
  pub up_to : i ≤ length status
  pub given : length before ≡ length status
  pub size : length dist ≡ length before
  pub done : (j : ℕ) → j < i → distance_at dist j ≡ closed_at before status j
  pub rest : (j : ℕ) → i ≤ j → distance_at dist j ≡ distance_at before j

module _ (before : List ℤ) (status : List ℕ) where
  pub closing-start : length before ≡ length status → Closing before status before 0
  closing-start e =
      record { up_to = omega arith; given = e; size = refl; done = λ j h. let z : ⊥ = omega arith in absurd z; rest = λ j h. refl }

  pub closing-step :
      (dist : List ℤ) (i : ℕ) (v : ℤ)
      → Closing before status dist i
      → i < length status
      → v ≡ closed_if (distance_at dist i) (status_of status i)
      → Closing before status (set dist i v) (i + 1)
  unfolding closed_at closed_if is_kept
  closing-step dist i v c h e =
      record {
        up_to = omega arith;
        given = c.given;
        size = length-set dist i v ∙ c.size;
        done = λ j l. at j l (ℕ_discrete j i);
        rest = λ j l. get_or-set_other dist i j v (pos 0) (λ q. omega arith) ∙ c.rest j (omega arith);
      }
    where
      at : (j : ℕ) → j < i + 1 → Dec (j ≡ i) → distance_at (set dist i v) j ≡ closed_at before status j
      at j l (no f) = get_or-set_other dist i j v (pos 0) f ∙ c.done j (omega arith)
      at j l (yes f) =
          subst (λ (k : ℕ). distance_at (set dist i v) k ≡ closed_at before status k) (sym f)
          (get_or-set_same dist i v (pos 0) (omega (arith, c.size, c.given)) ∙ e
          ∙ ap (λ (x : ℤ). closed_if x (status_of status i)) (c.rest i (omega arith)))

  pub closing-done : (dist : List ℤ) (i : ℕ) → Closing before status dist i → length status ≤ i → dist ≡ map (closed_at before status) (range 0 (length status))
  closing-done dist i c h =
      is-map-range (closed_at before status) (pos 0) (length status) dist (c.size ∙ c.given) (λ j l. c.done j (omega arith))
