-- A removal and an examination keep the status bytes fit: 0, 1 or 3, 0 on the border, 1 in S.
use mathlib.Core.Path.{◌≡◌, refl, ap, sym, ◌∙◌, subst}
use mathlib.Core.Logic.{inl, inr}
use mathlib.Core.Bool.{Bool, true, false, not, cond, ◌&&◌}
use mathlib.Core.List.{List}
use Rattle.std.specs.Prelude.{Option, None, Some}
use Prim.Native.Nat.{ℕ, zero, suc, ◌≤◌, ◌<◌}
use native.Mathlib.Omega.{arith}
use native.Mathlib.Decide.{dec_lt, ℕ_discrete}
use borrow.Author.Tests.{eqb-true}
use lib.Dec.{eqb}
use lib.IntN.{ℤ, pos}
use lib.ListN.{length, set, length-set, get_or-eq_default}
use lib.Seq.{get_or-set_same, get_or-set_other}
use Rattle.cells.specs.Cells.{passes}
use Rattle.prelude.proofs.Bools.{and-true, two, not-both}
use Rattle.prelude.proofs.Ranges.{get_d-map-range, length-map-range}
use Rattle.rules.specs.declared.Sides.{Sides}
use Rattle.rules.specs.Grid.{size, voxels, on_border, touch, is_negative}
use Rattle.rules.specs.Status.{Progress, status_of, kept_byte, pending_byte, woken, rested, is_kept, is_pending, removable, test_at, status_without, without}
use Rattle.rules.specs.Status.{first_of, goes, examined_as, examine, examining, carving}
use Rattle.rules.specs.Marks.{Marked}
use Rattle.rules.specs.Machine.{is_inside, outside, may_go}
use Rattle.rules.specs.Choice.{Order}
use Rattle.rules.specs.Fit.{Known, FitVoxels}
use Rattle.rules.proofs.Foremost.{first-foremost}

-- ---- bytes that are 0, 1 or 3

pub known_kept : (x : ℕ) → Known x → kept_byte x ≡ false → x ≡ 0
unfolding kept_byte
known_kept x (inl e) h = e
known_kept x (inr (inl e)) h = not-both (kept_byte x) (ap kept_byte e) h
known_kept x (inr (inr e)) h = not-both (kept_byte x) (ap kept_byte e) h

pub known-pending : (x : ℕ) → Known x → pending_byte x ≡ true → x ≡ 3
unfolding pending_byte
known-pending x (inl e) h = not-both (pending_byte x) h (ap pending_byte e)
known-pending x (inr (inl e)) h = not-both (pending_byte x) h (ap pending_byte e)
known-pending x (inr (inr e)) h = e

pub known-settled : (x : ℕ) → Known x → kept_byte x ≡ true → pending_byte x ≡ false → x ≡ 1
unfolding kept_byte pending_byte
known-settled x (inl e) k p = not-both (kept_byte x) k (ap kept_byte e)
known-settled x (inr (inl e)) k p = e
known-settled x (inr (inr e)) k p = not-both (pending_byte x) (ap pending_byte e) p

known-woken : (x : ℕ) → Known x → kept_byte x ≡ true → woken x ≡ 3
unfolding kept_byte pending_byte woken
known-woken x (inl e) h = not-both (kept_byte x) h (ap kept_byte e)
known-woken x (inr (inl e)) h = ap woken e
known-woken x (inr (inr e)) h = ap woken e

known-rested : (x : ℕ) → Known x → pending_byte x ≡ true → rested x ≡ 1
unfolding rested
known-rested x k h = ap rested (known-pending x k h)

-- beyond the distances nothing is inside
pub inside-below : (dist : List ℤ) (i : ℕ) → is_inside dist i ≡ true → i < length dist
unfolding is_inside
inside-below dist i e =
    elim (dec_lt i (length dist)) [
      | yes h ↦ h
      | no n ↦ not-both (is_inside dist i) e (ap is_negative (get_or-eq_default dist (pos 0) (let h : length dist ≤ i = omega arith in h)))
    ]

-- nor may it go
pub inside-stays : (m : Marked) (dist : List ℤ) (i : ℕ) → is_inside dist i ≡ true → may_go m dist i ≡ false
unfolding may_go outside
inside-stays m dist i e = ap (λ (t : Bool). not t && not (m.pinned i)) e

module _ (s : Sides) (dist : List ℤ) (status : List ℕ) (fit : FitVoxels s dist status) where
  -- a voxel inside is not pending
  inside-waits : (i : ℕ) → is_inside dist i ≡ true → is_pending status i ≡ false
  unfolding is_pending pending_byte
  inside-waits i e = ap pending_byte (fit.inner i e)

  pub pending-outside : (i : ℕ) → is_pending status i ≡ true → outside dist i ≡ true
  unfolding outside
  pending-outside i e = elim (two (is_inside dist i)) [ inl h ↦ not-both (is_pending status i) e (inside-waits i h) | inr h ↦ ap not h ]

  pub pending-kept : (i : ℕ) → is_pending status i ≡ true → is_kept status i ≡ true
  unfolding is_pending is_kept kept_byte
  pending-kept i e = ap kept_byte (known-pending (status_of status i) (fit.known i) e)

  -- a kept voxel is off the border
  pub kept-inner : (i : ℕ) → i < size s → is_kept status i ≡ true → on_border s i ≡ false
  unfolding is_kept kept_byte
  kept-inner i h e = elim (two (on_border s i)) [ inl b ↦ not-both (is_kept status i) e (ap kept_byte (fit.border i h b)) | inr b ↦ b ]

  -- ---- without a voxel that may go, where none inside may

  module _ (free : ℕ → Bool) (inside-stays : (j : ℕ) → is_inside dist j ≡ true → free j ≡ false) (i : ℕ) (may : free i ≡ true) where
    abbrev after : List ℕ
    after = without s free status i

    length-after : length after ≡ size s
    unfolding without voxels
    length-after = length-map-range (status_without s free status i) (size s)

    at_after : (j : ℕ) → j < size s → status_of after j ≡ status_without s free status i j
    unfolding without voxels
    at_after j h = get_d-map-range (status_without s free status i) 0 (size s) j h

    beyond-after : (j : ℕ) → size s ≤ j → status_of after j ≡ 0
    beyond-after j h = get_or-eq_default after 0 (omega (arith, length-after))

    known-without : (j : ℕ) → Known (status_without s free status i j)
    unfolding status_without is_kept
    known-without j = go (eqb j i) (removable free status j && touch s i j) refl
      where
        go : (e t : Bool) → (removable free status j && touch s i j) ≡ t → Known (cond e 0 (cond t (woken (status_of status j)) (status_of status j)))
        go true t h = inl refl
        go false true h =
            let r = (and-true (removable free status j) (touch s i j) h).0 in
            inr (inr (known-woken (status_of status j) (fit.known j) (and-true (is_kept status j) (free j) (unfold removable in r)).0))
        go false false h = fit.known j

    border-without : (j : ℕ) → j < size s → on_border s j ≡ true → status_without s free status i j ≡ 0
    unfolding status_without removable is_kept kept_byte
    border-without j h b = go (eqb j i) (kept_byte (status_of status j)) (ap kept_byte (fit.border j h b))
      where
        go : (e k : Bool) → k ≡ false → cond e 0 (cond ((k && free j) && touch s i j) (woken (status_of status j)) (status_of status j)) ≡ 0
        go true k q = refl
        go false true q = not-both true refl q
        go false false q = fit.border j h b

    inner-without : (j : ℕ) → is_inside dist j ≡ true → status_without s free status i j ≡ 1
    unfolding status_without removable
    inner-without j e = go (eqb j i) (is_kept status j) (free j) refl (inside-stays j e)
      where
        go : (q k f : Bool) → eqb j i ≡ q → f ≡ false → cond q 0 (cond ((k && f) && touch s i j) (woken (status_of status j)) (status_of status j)) ≡ 1
        go true k f q h = not-both (free j) (ap free (eqb-true j i q) ∙ may) (inside-stays j e)
        go false k true q h = not-both true refl h
        go false true false q h = fit.inner j e
        go false false false q h = fit.inner j e

    pub fit-without : FitVoxels s dist after
    fit-without =
        record {
          lent = record { sides = fit.lent.sides; distances = fit.lent.distances; statuses = length-after };
          known = λ j. elim (dec_lt j (size s)) [
            | yes h ↦ subst Known (sym (at_after j h)) (known-without j)
            | no n ↦ inl (beyond-after j (omega arith))
          ];
          border = λ j h b. at_after j h ∙ border-without j h b;
          inner = λ j e. at_after j (omega (arith, inside-below dist j e, fit.lent.distances)) ∙ inner-without j e;
        }

  -- ---- a pending voxel that stays

  module _ (i : ℕ) (below : i < size s) (waits : is_pending status i ≡ true) where
    abbrev stayed : List ℕ
    stayed = set status i (rested (status_of status i))

    at-itself : status_of stayed i ≡ 1
    unfolding is_pending
    at-itself =
        get_or-set_same status i (rested (status_of status i)) 0 (omega (arith, fit.lent.statuses))
        ∙ known-rested (status_of status i) (fit.known i) waits

    at-another : (j : ℕ) → (j ≡ i → ⊥) → status_of stayed j ≡ status_of status j
    at-another j n = get_or-set_other status i j (rested (status_of status i)) 0 n

    pub fit-stayed : FitVoxels s dist stayed
    fit-stayed =
        record {
          lent = record {
            sides = fit.lent.sides;
            distances = fit.lent.distances;
            statuses = length-set status i (rested (status_of status i)) ∙ fit.lent.statuses;
          };
          known = λ j. elim (ℕ_discrete j i) [
            | yes e ↦ inr (inl (ap (status_of stayed) e ∙ at-itself))
            | no n ↦ subst Known (sym (at-another j n)) (fit.known j)
          ];
          border = λ j h b. elim (ℕ_discrete j i) [
            | yes e ↦ not-both (on_border s i) (ap (on_border s) (sym e) ∙ b) (kept-inner i below (pending-kept i waits))
            | no n ↦ at-another j n ∙ fit.border j h b
          ];
          inner = λ j e. elim (ℕ_discrete j i) [
            | yes q ↦ ap (status_of stayed) q ∙ at-itself
            | no n ↦ at-another j n ∙ fit.inner j e
          ];
        }

    pub fit-examined : (free : ℕ → Bool) → ((j : ℕ) → is_inside dist j ≡ true → free j ≡ false) → FitVoxels s dist (examine s free status i)
    unfolding examine goes
    fit-examined free inside-stays = go (passes (test_at s status i) && free i) refl
      where
        go : (t : Bool) → (passes (test_at s status i) && free i) ≡ t → FitVoxels s dist (examined_as t s free status i)
        go true e = fit-without free inside-stays i (and-true (passes (test_at s status i)) (free i) e).1
        go false e = fit-stayed

-- ---- a run of examinations, in any order

module _ (s : Sides) (dist : List ℤ) (free : ℕ → Bool) (inside-stays : (j : ℕ) → is_inside dist j ≡ true → free j ≡ false)
    (ahead : ℕ → ℕ → Bool) (order : Order ahead) where
  pub fit-carving : (limit : ℕ) (status : List ℕ) → FitVoxels s dist status → FitVoxels s dist (carving s free ahead limit status).status
  unfolding carving
  fit-carving zero status fit = fit
  fit-carving (suc limit) status fit = go (first_of s ahead (is_pending status)) refl (λ i. fit-carving limit (examine s free status i))
    where
      next : Option ℕ → Progress
      next o = examining s free status (λ i. carving s free ahead limit (examine s free status i)) o

      go : (o : Option ℕ) → first_of s ahead (is_pending status) ≡ o
          → ((i : ℕ) → let after = examine s free status i in
          FitVoxels s dist after → FitVoxels s dist (carving s free ahead limit after).status)
          → FitVoxels s dist (next o).status
      go None e rest = fit
      go (Some i) e rest =
          let first = first-foremost s ahead order (is_pending status) i e in
          rest i (fit-examined s dist status fit i first.below first.chosen free inside-stays)
