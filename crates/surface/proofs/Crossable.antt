-- Crossing's own checks: their number by what the code found, and what holds where none fails.
use mathlib.Core.Path.{◌≡◌, sym, ◌∙◌}
use mathlib.Core.Bool.{Bool, true, false, ◌||◌}
use mathlib.Core.List.{[], ◌∷◌}
use Prim.Native.Nat.{ℕ, ◌≤◌, ◌<◌}
use borrow.Author.Tests.{le-leb, lt-leb, ltb-false, leb-false}
use lib.Dec.{leb, ltb}
use Rattle.prelude.proofs.Bools.{or-false}
use Rattle.rules.specs.declared.Sides.{Sides}
use Rattle.rules.specs.Grid.{size}
use Rattle.rules.specs.Checks.{◌when◌, first_failing, AllHold}
use Rattle.rules.specs.Machine.{State, finished_checks}
use Rattle.rules.proofs.Checks.{fails-first, holds-first, hold-append, held_at}
use Rattle.rules.proofs.Fit.{ended}
use Rattle.surface.specs.Surface.{no_next, next_checks, crossing_checks, Crossable}

-- ---- 5 and 6

module _ (i axis : ℕ) (s : Sides) where
  pub five : size s ≤ i → first_failing (next_checks i axis s) ≡ 5
  five h = fails-first 5 (leb (size s) i) _ (le-leb _ _ h)

  module _ (h : i < size s) (t : Bool) (e : t ≡ (ltb 2 axis || no_next s i axis)) where
    after-five : first_failing (next_checks i axis s) ≡ first_failing (6 when (ltb 2 axis || no_next s i axis) ∷ [])
    after-five = holds-first 5 (leb (size s) i) _ (lt-leb _ _ h)

    pub six : t ≡ true → first_failing (next_checks i axis s) ≡ 6
    six f = after-five ∙ fails-first 6 _ [] (sym e ∙ f)

    pub neither : t ≡ false → first_failing (next_checks i axis s) ≡ 0
    unfolding first_failing
    neither f = after-five ∙ holds-first 6 _ [] (sym e ∙ f)

-- ---- where none fails

pub crossable-held : (i axis : ℕ) (g : State) → AllHold (crossing_checks i axis g) → Crossable i axis g
unfolding no_next
crossable-held i axis g h =
    let s = g.rec.sides in
    let held = held_at (crossing_checks i axis g) h in
    let e = ended g (hold-append (finished_checks g) (next_checks i axis s) h).0 in
    let six = or-false (ltb 2 axis) (no_next s i axis) (held 6) in
    record {
      ended = e;
      low = ltb-false _ _ six.0;
      next = record { fit = e.fit.voxels.lent.sides; here = leb-false (size s) i (held 5); there = leb-false _ _ six.1 };
    }
