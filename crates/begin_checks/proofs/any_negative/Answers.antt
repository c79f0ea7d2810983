-- `any_negative`: found, or among the values still to come.
use Rattle.std.proofs.Common.{◌∙◌, ◌||◌, false, rules}
use Rattle.std.proofs.lemmas.Iterator.{YieldsList-from_slice}
use Rattle.std.proofs.lemmas.Iterator.Consumers.{fold_from_yields_List}
use Rattle.rules.specs.Grid.{measured_negative}
use Rattle.loops.proofs.Spans.{fold-any}
use Rattle.begin_checks.proofs.any_negative.Goals as goal

pub returns : goal.returns
returns c =
    fold_from_yields_List _ (λ found v. found || measured_negative v) false c.fold.result c.fold.ensures.ran (YieldsList-from_slice c.args.values.now cc) (λ a x b q k. search rules)
    ∙ fold-any measured_negative false c.args.values.now
