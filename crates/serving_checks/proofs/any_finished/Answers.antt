-- `serving_checks::any_finished` meets its contract: `any` over the records.
use mathlib.Core.Path.{ap, ◌∙◌}
use mathlib.Core.Bool.{Bool}
use mathlib.Core.List.{List}
use lib.ListN.{take}
use borrow.Author.Rules.{rules}
use borrow.Author.Tests.{tests}
use Rattle.std.proofs.lemmas.Iterator.{YieldsList-from_slice}
use Rattle.std.proofs.lemmas.Iterator.Search.{any_from_yields_List}
use Rattle.cells.specs.Groups.{any}
use Rattle.rules.specs.declared.Record.{Record}
use Rattle.office.specs.Serve.{no_record}
use Rattle.order_record.proofs.Places.{take-listed, any-is}
use Rattle.serving_checks.proofs.any_finished.Goals as goal

abbrev test : Record → Bool
test r = r.finished

pub returns : goal.returns
returns c =
    let g = c.args.g in
    let part = take g.count g.records in
    any_from_yields_List test _ _ _ c.any.ensures.ran (YieldsList-from_slice part cc) (λ x b q k. search (rules, tests))
    ∙ any-is test part ∙ ap (λ (l : List Record). any test l) (take-listed no_record g.count g.records (search rules))
