-- What the checks of `points` give where none fails, and its walk by what the code finds.
use mathlib.Core.Path.{◌≡◌, refl, sym, ap, ◌∙◌}
use mathlib.Core.List.{List, [], ◌∷◌}
use Prim.Native.Nat.{ℕ, ◌-◌, ◌*◌, ◌/◌}
use native.Mathlib.Omega.{arith}
use borrow.Author.Tests.{ltb-false}
use lib.Dec.{ltb}
use lib.Ieee.{Float}
use lib.ListN.{length}
use Rattle.rules.specs.Grid.{size}
use Rattle.rules.specs.Checks.{◌when◌, first_failing, AllHold}
use Rattle.rules.specs.Answer.{Outcome}
use Rattle.rules.specs.Machine.{State, finished_checks}
use Rattle.rules.proofs.Checks.{hold-append}
use Rattle.rules.proofs.Refusals.{passed}
use Rattle.rules.proofs.Fit.{ended}
use Rattle.points.specs.declared.Listing.{Listing}
use Rattle.points.specs.Listing.{Walk, point_at, written, listing, points_checks, Listable}
use Rattle.points.specs.Positions.{point_on}
use Rattle.points.proofs.Position.{point-is}
use Rattle.points.proofs.Walking.{walk-ext}

module _ (p : ℕ) (g : State) (e : 0 ≡ first_failing (points_checks p g)) where
  held : (AllHold (finished_checks g)) × (AllHold (5 when ltb (3 * size g.rec.sides) p ∷ []))
  held = hold-append (finished_checks g) (5 when ltb (3 * size g.rec.sides) p ∷ []) (passed (points_checks p g) refl e)

  pub listable : Listable p g
  listable = record { ended = ended g held.0; within = ltb-false _ _ held.1.0 }

  -- a listing of what the code finds is one of what crossing answers
  pub listing-is :
      (out : List Float) (o : Outcome (List Float) Listing)
      → o ≡ listing (point_on g.rec.sides g.dist) (3 * size g.rec.sides - p) p out
      → o ≡ listing (point_at g) (3 * size g.rec.sides - p) p out
  unfolding listing
  listing-is out o f =
      let s = g.rec.sides in
      let w = listable.within in
      f
      ∙ ap (λ (x : Walk). written x out)
      (walk-ext (point_on s g.dist) (point_at g) (3 * size s - p) (length out / 3) p (λ q l h. sym (point-is g held.0 q (omega arith))))
