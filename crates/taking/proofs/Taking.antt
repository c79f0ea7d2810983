-- take: the voxel it works on, and what it answers.
use mathlib.Core.Path.{◌≡◌}
use mathlib.Core.Bool.{Bool}
use mathlib.Core.List.{List}
use Prim.Native.Nat.{ℕ}
use lib.IntN.{pos}
use Rattle.local_test.specs.declared.Groups.{Groups}
use Rattle.local_test.specs.Answers.{GroupsOf}
use Rattle.rules.specs.declared.Record.{Record}
use Rattle.rules.specs.Answer.{done, outcome, buffers}
use Rattle.rules.specs.Status.{test_at, without}
use Rattle.rules.specs.Machine.{State, count, taken}
use Rattle.rules.specs.Fit.{Takeable}
use Rattle.waking.specs.Waking.{Removable}
use Rattle.waking.proofs.Fitting.{kept-removable}

pub take-removable : (marks : List ℕ) (i : ℕ) (g : State) → Takeable marks i g → Removable g.rec.sides g.dist g.status i
take-removable marks i g t = kept-removable g t.marking.working.fit i t.below t.kept

module _ (free : ℕ → Bool) (g : State) where
  pub taken_is :
      (i : ℕ) (r : Groups) (next : Record) (status : List ℕ)
      → GroupsOf (test_at g.rec.sides g.status i) r
      → next ≡ count g.rec 0 1 0 (pos 0)
      → status ≡ without g.rec.sides free g.status i
      → outcome (done (record { k = r.k; m = r.m; face = r.face; next = next })) (buffers g.dist status) ≡ taken free i g
  unfolding taken
  taken_is i r next status e f h = λ j. outcome (done (record { k = (e j).k; m = (e j).m; face = (e j).face; next = f j })) (buffers g.dist (h j))
