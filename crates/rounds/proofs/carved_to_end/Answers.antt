-- `rounds::carved_to_end` meets its contract.
use mathlib.Core.Path.{ap, ◌∙◌}
use mir.Syntax.{w32}
use mir.Val.{SFits}
use mir.Facts.{to_z-of_z}
use Rattle.rounds.proofs.Ended.{line-ended}
use Rattle.text.specs.Written.{printed}
use borrow.Author.Rules.{rules}
use Rattle.rounds.proofs.carved_to_end.Goals as goal
use Rattle.rounds.proofs.carved_to_end.Goals.{After-carved_line}

euler-fits : (c : After-carved_line) → SFits w32 c.finish_on-ended.result.euler
euler-fits c = search rules

pub returns : goal.returns
returns c =
    c.carved_line.ensures
    ∙ ap printed (line-ended _ _ _ _ _ _ _ _ _ _ (c.carve_and_open-carved.auto.status ∙ c.requires) c.carve_and_open-carved.ensures c.finish_on-ended.ensures
    c.kept_voxels-kept.ensures (to_z-of_z (euler-fits c)))
