-- `front::insert` meets its contract.
use mathlib.Core.Path.{refl}
use Rattle.front.proofs.Inserting.{moving-start, moving-step}
use Rattle.front.proofs.insert.Goals as goal

pub loop-front-init : goal.loop-front-init
loop-front-init c = moving-start _ _ _ c.requires.0 c.requires.1

pub loop-front-preserved : goal.loop-front-preserved
loop-front-preserved c =
    moving-step _ _ _ _ _ c.loop-front.invariant _ refl c.loop-front-test.true
