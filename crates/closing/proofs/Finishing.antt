-- finish: what it answers.
use mathlib.Core.Path.{◌≡◌, ap, ◌∙◌}
use mathlib.Core.Bool.{true}
use mathlib.Core.List.{List, map}
use Prim.Native.Nat.{ℕ}
use lib.IntN.{ℤ}
use lib.ListN.{length}
use Rattle.rules.specs.declared.Record.{Record}
use Rattle.rules.specs.Answer.{done, outcome, buffers}
use Rattle.rules.specs.Grid.{size, range, voxels}
use Rattle.rules.specs.Machine.{State, closed_at, as_finished, finished_of}

module _ (g : State) where
  pub finished-is :
      (dist : List ℤ) (next : Record)
      → length g.status ≡ size g.rec.sides
      → dist ≡ map (closed_at g.dist g.status) (range 0 (length g.status))
      → next ≡ as_finished g.rec
      → outcome (done next) (buffers dist g.status) ≡ finished_of g
  unfolding finished_of voxels
  finished-is dist next e f h =
      let d = f ∙ ap (λ (n : ℕ). map (closed_at g.dist g.status) (range 0 n)) e in
      λ j. outcome (done (h j)) (buffers (d j) g.status)

-- the finished record, with the Euler number as the machine holds it
pub same-record : (r : Record) (euler : ℤ) → euler ≡ r.euler
    → record {
      sides = r.sides;
      allowed = r.allowed;
      openings = r.openings;
      removals = r.removals;
      examinations = r.examinations;
      euler = euler;
      finished = true;
    }
    ≡ as_finished r
same-record r euler e = λ j.
    record {
      sides = r.sides;
      allowed = r.allowed;
      openings = r.openings;
      removals = r.removals;
      examinations = r.examinations;
      euler = e j;
      finished = true;
    }
