-- `text::put_refused` meets its contract.
use mathlib.Core.List.{◌++◌}
use Prim.Native.Nat.{◌≤◌}
use native.Mathlib.Omega.{arith}
use lib.ListN.{length}
use Rattle.text.specs.Line.{refused_word, number}
use Rattle.text.proofs.Writing.{written_then}
use Rattle.text.proofs.Lines.{refused-text}
use Rattle.text.proofs.put_refused.Goals as goal

pub returns : goal.returns
returns c =
    let room : 160 ≤ length c.args.out.now = omega (arith, c.requires) in
    let field = rw c.from.ensures at c.put_field.ensures in
    refused-text c.args.n c.requires (written_then (λ t. refused_word ++ number c.args.n t) room c.put-end.ensures field)
