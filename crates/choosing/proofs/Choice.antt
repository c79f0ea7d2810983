-- The choice of a place, step by step: what is left to look at gives the place that is served.
use mathlib.Core.Path.{◌≡◌, refl, ap, ap₂, sym, ◌∙◌}
use mathlib.Core.Bool.{Bool, true, false, not, cond, ◌&&◌}
use mathlib.Core.List.{List, [], ◌∷◌, ◌++◌}
use Rattle.std.specs.Prelude.{Option, None, Some}
use Prim.Native.Nat.{ℕ, suc, ◌+◌, ◌-◌, ◌≤◌, ◌<◌}
use native.Mathlib.Omega.{arith}
use native.Mathlib.Numerals.{add-one}
use lib.ListN.{length, get_or, take, drop, drop_of_length-le}
use lib.Seq.{drop-cons}
use Rattle.cells.specs.Groups.{any, filter, cons_if}
use Rattle.rules.specs.Grid.{range, is_in}
use Rattle.rules.specs.Status.{is_pending}
use Rattle.office.specs.declared.Grids.{Grids}
use Rattle.office.specs.Parts.{total}
use Rattle.office.specs.Order.{queue, first_waiting}
use Rattle.office.specs.Serve.{grid_at, waits}
use Rattle.office.proofs.Step.{part-size}
use Rattle.fitness.proofs.Pending.{any-pending-is}
use Rattle.serving_checks.specs.Given.{sizes_of, grids_of}
use Rattle.serving_checks.proofs.Places.{part-is}

-- what is pending in the part of a grid
pub part-waits : (g : Grids) (status : List ℕ) → length status ≡ total (sizes_of g) → (p from to : ℕ)
    → from ≡ total (take p (sizes_of g)) → to ≡ total (take (p + 1) (sizes_of g))
    → let part = take (to - from) (drop from status) in any (is_pending part) (range 0 (length part)) ≡ waits (grids_of g [] status) p
unfolding waits grid_at
part-waits g status e p from to start end =
    ap (λ (l : List ℕ). any (is_pending l) (range 0 (length l))) (part-is (sizes_of g) p from to start end status)
    ∙ any-pending-is (grid_at (grids_of g [] status) p) (part-size (grids_of g [] status) status e p)

-- ---- the order record from k on

module _ (w : ℕ → Bool) (places : List ℕ) where
  abbrev pub rest : ℕ → Option ℕ
  rest k = first_waiting w (drop k places)

  pub rest-next : (k : ℕ) → k < length places → (t : Bool) → w (get_or places k 0) ≡ t → rest k ≡ cond t (Some (get_or places k 0)) (rest (k + 1))
  unfolding first_waiting
  rest-next k h t e =
      ap (first_waiting w) (drop-cons places k 0 h ∙ ap (λ (j : ℕ). get_or places k 0 ∷ drop j places) (sym (add-one k)))
      ∙ ap (λ (t : Bool). cond t (Some (get_or places k 0)) (rest (k + 1))) e

  pub rest-none : (k : ℕ) → length places ≤ k → rest k ≡ None
  unfolding first_waiting
  rest-none k h = ap (first_waiting w) (drop_of_length-le places {i = k} h)

-- ---- the places never served, from p on, and then the order record

module _ (w : ℕ → Bool) (n : ℕ) (order : List ℕ) where
  abbrev free : ℕ → Bool
  free p = not (is_in order p)

  abbrev pub left : ℕ → Option ℕ
  left p = first_waiting w (filter free (range p (n - p)) ++ order)

  pub left-start : first_waiting w (queue n order) ≡ left 0
  unfolding queue
  left-start = let e : n ≡ n - 0 = omega arith in ap (λ (m : ℕ). first_waiting w (filter free (range 0 m) ++ order)) e

  module _ (p : ℕ) (h : p < n) (v t : Bool) (told : v ≡ t) (e : v ≡ (free p && w p)) where
    pub left-next : left p ≡ cond t (Some p) (left (p + 1))
    unfolding first_waiting filter range
    left-next =
        let m : n - p ≡ suc (n - suc p) = omega arith in
        ap (λ (m : ℕ). first_waiting w (filter free (range p m) ++ order)) m
        ∙ go (free p)
        ∙ ap₂ (λ (t : Bool) (q : ℕ). cond t (Some p) (left q)) (sym e ∙ told) (sym (add-one p))
      where
        go : (f : Bool) → first_waiting w (cons_if f p (filter free (range (suc p) (n - suc p))) ++ order) ≡ cond (f && w p) (Some p) (left (suc p))
        go true = refl
        go false = refl

  pub left-none : (p : ℕ) → n ≤ p → left p ≡ first_waiting w order
  unfolding filter range
  left-none p h = let m : n - p ≡ 0 = omega arith in ap (λ (m : ℕ). first_waiting w (filter free (range p m) ++ order)) m
