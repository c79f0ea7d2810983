-- `text::put_field` meets its contract.
use mathlib.Core.List.{◌++◌}
use borrow.Author.Rules.{rules}
use Rattle.text.proofs.Writing.{written_then}
use Rattle.text.proofs.put_field.Goals as goal

pub returns : goal.returns
returns c =
    written_then (λ t. c.args.name.now ++ t) (search rules) c.put_number-start.ensures c.put_word.ensures
