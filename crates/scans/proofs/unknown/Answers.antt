-- `scans::unknown` meets its contract: some status found, as a fold.
use Rattle.std.proofs.Common.{◌∙◌, ◌||◌, ℕ, Bool, not, false, eqb, rules}
use Rattle.std.proofs.lemmas.Iterator.{YieldsList-from_slice}
use Rattle.std.proofs.lemmas.Iterator.Consumers.{fold_from_yields_List}
use Rattle.loops.proofs.Spans.{fold-any, any-read}
use Rattle.scans.specs.Scans.{unknown_at}
use Rattle.scans.proofs.unknown.Goals as goal

abbrev bad : ℕ → Bool
bad s = not (eqb s 0 || (eqb s 1 || eqb s 3))

pub returns : goal.returns
unfolding unknown_at
returns c =
    let xs = c.args.status.now in
    fold_from_yields_List _ (λ t s. t || bad s) false c.fold.result c.fold.ensures.ran (YieldsList-from_slice xs cc) (λ a x b q k. search rules)
    ∙ fold-any bad false xs
    ∙ any-read bad 0 xs
