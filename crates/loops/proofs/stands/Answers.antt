-- `stands`: found, or among the bytes still to come.
use Rattle.std.proofs.Common.{◌∙◌, ◌||◌, false, eqb, rules}
use Rattle.std.proofs.lemmas.Iterator.{YieldsList-from_slice}
use Rattle.std.proofs.lemmas.Iterator.Consumers.{fold_from_yields_List}
use Rattle.loops.proofs.Spans.{fold-any}
use Rattle.loops.proofs.stands.Goals as goal

pub returns : goal.returns
returns c =
    let v = c.args.v in
    fold_from_yields_List _ (λ found b. found || eqb b v) false c.fold.result c.fold.ensures.ran (YieldsList-from_slice c.args.bytes.now cc) (λ a x b q k. search rules)
    ∙ fold-any (λ b. eqb b v) false c.args.bytes.now
