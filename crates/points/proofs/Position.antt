-- A position's point: as the code finds it, and that this is what crossing answers there.
use mathlib.Core.Path.{◌≡◌, refl, sym, ap, ◌∙◌}
use mathlib.Core.Logic.{inl, inr}
use mathlib.Core.Bool.{Bool, true, false, cond, ◌||◌}
use mathlib.Core.List.{List}
use Rattle.std.specs.Prelude.{Option, None}
use Prim.Native.Nat.{ℕ, ◌+◌, ◌/◌, ◌%◌, ◌≤◌, ◌<◌}
use native.Mathlib.Omega.{arith}
use borrow.Author.Tests.{le-ltb, leb-false}
use lib.Dec.{ltb}
use lib.IntN.{ℤ}
use Rattle.prelude.proofs.Bools.{two}
use Rattle.rules.specs.declared.Sides.{Sides}
use Rattle.rules.specs.Grid.{voxel, size, fit_sides, is_negative, distance_at}
use Rattle.rules.specs.Checks.{Check, first_failing, AllHold}
use Rattle.rules.specs.Answer.{Outcome, Buffers, done, outcome, untouched}
use Rattle.rules.specs.Machine.{State, lent_to, finished_checks}
use Rattle.rules.proofs.Checks.{call-refused, call-done, hold-none, held_first}
use Rattle.surface.specs.declared.Point.{Point}
use Rattle.surface.specs.Surface.{no_next, next_index, crossing_at, next_checks, crossing_checks, crossing, HasNext}
use Rattle.surface.specs.Coordinates.{stride}
use Rattle.surface.proofs.Indices.{next-below, next-index}
use Rattle.surface.proofs.Between.{same_sign}
use Rattle.surface.proofs.Crossable.{six, neither}
use Rattle.points.specs.Listing.{point_in, point_at}
use Rattle.points.specs.Positions.{point_on}

-- ---- from sides and distances

module _ (s : Sides) (dist : List ℤ) (p : ℕ) where
  abbrev i : ℕ
  i = p / 3

  abbrev axis : ℕ
  axis = p % 3

  pub no-next : no_next s i axis ≡ true → None ≡ point_on s dist p
  unfolding point_on
  no-next e = sym (ap (λ (t : Bool). cond t None (crossing_at s dist i axis)) e)

  pub with-next : no_next s i axis ≡ false → crossing_at s dist i axis ≡ point_on s dist p
  unfolding point_on
  with-next e = sym (ap (λ (t : Bool). cond t None (crossing_at s dist i axis)) e)

  -- the test of number 6: the axis of a position is 2 at most
  pub six-is : (t : Bool) → t ≡ (ltb 2 axis || no_next s i axis) → no_next s i axis ≡ t
  six-is t e = sym (e ∙ ap (λ (u : Bool). u || no_next s i axis) (le-ltb 2 axis (omega arith)))

  module _ (f : fit_sides s ≡ true) where
    pub has-next : i < size s → no_next s i axis ≡ false → HasNext s i axis
    unfolding no_next
    has-next h e = record { fit = f; here = h; there = leb-false _ _ e }

    -- past the last voxel there is no next one
    pub past_end : i < size s → size s ≤ i + stride axis s → None ≡ point_on s dist p
    past_end h l =
        elim (two (no_next s i axis)) [
          | inl e ↦ no-next e
          | inr e ↦ (let z : ⊥ = omega (arith, next-index s f i axis, next-below s i axis (has-next h e)) in absurd z)
        ]

    -- distances of one sign have no crossing, whether there is a next voxel or not
    pub one-sign : is_negative (distance_at dist i) ≡ is_negative (distance_at dist (i + stride axis s)) → None ≡ point_on s dist p
    unfolding crossing_at
    one-sign h =
        elim (two (no_next s i axis)) [
          | inl e ↦ no-next e
          | inr e ↦
              same_sign axis (voxel s i) (distance_at dist i) (distance_at dist (next_index s i axis))
              (h ∙ ap (λ (n : ℕ). is_negative (distance_at dist n)) (sym (next-index s f i axis)))
              ∙ with-next e
        ]

-- ---- from crossing's rule

module _ (g : State) (h : AllHold (finished_checks g)) (p : ℕ) (l : p / 3 < size g.rec.sides) where
  abbrev s : Sides
  s = g.rec.sides

  abbrev checks : List Check
  checks = crossing_checks (p / 3) (p % 3) g

  abbrev refuse : ℕ → Outcome Buffers (Option Point)
  refuse m = untouched (lent_to g) m

  abbrev answered : Outcome Buffers (Option Point)
  answered = outcome (done (crossing_at s g.dist (p / 3) (p % 3))) (lent_to g)

  abbrev t : Bool
  t = no_next s (p / 3) (p % 3)

  low : t ≡ (ltb 2 (p % 3) || t)
  low = sym (ap (λ (u : Bool). u || t) (le-ltb 2 (p % 3) (omega arith)))

  number : (m : ℕ) → first_failing (next_checks (p / 3) (p % 3) s) ≡ m → m ≡ first_failing checks
  number m e =
      held_first (finished_checks g) (next_checks (p / 3) (p % 3) s) (first_failing (finished_checks g)) refl refl (hold-none (finished_checks g) h) m (sym e)

  pub point-is : point_at g p ≡ point_on s g.dist p
  unfolding point_at crossing
  point-is =
      elim (two t) [
        | inl e ↦
            ap (λ (o : Outcome Buffers (Option Point)). point_in o.answer)
            (sym (call-refused refuse answered checks 6 (number 6 (six (p / 3) (p % 3) s l t low e)) (λ z. omega arith)))
            ∙ no-next s g.dist p e
        | inr e ↦
            ap (λ (o : Outcome Buffers (Option Point)). point_in o.answer)
            (sym (call-done refuse answered checks 0 (number 0 (neither (p / 3) (p % 3) s l t low e)) refl refl answered refl))
            ∙ with-next s g.dist p e
      ]
