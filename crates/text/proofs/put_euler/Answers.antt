-- `text::put_euler` meets its contract.
use mathlib.Core.Path.{subst}
use mathlib.Core.List.{◌∷◌, ◌++◌}
use Prim.Native.Nat.{◌≤◌}
use native.Mathlib.Omega.{arith}
use lib.IntN.{ℤ}
use lib.ListN.{length, drop}
use mir.Syntax.{w32}
use mir.Val.{SFits, to_z, of_z}
use mir.Facts.{to_z-of_z}
use borrow.Author.Rules.{rules}
use Rattle.text.specs.Written.{Written}
use Rattle.text.specs.Line.{signed_number, euler_word}
use Rattle.text.proofs.Writing.{written_then}
use Rattle.text.proofs.put_euler.Goals as goal
use Rattle.text.proofs.put_euler.Goals.{After-slice_known-4-1}

n-fits : (c : After-slice_known-4-1) → SFits w32 c.args.n
n-fits c = search rules

pub returns : goal.returns
returns c =
    let room : 160 ≤ length c.args.out.now = omega (arith, c.requires) in
    let old = c.args.out.now in
    let held : ℤ = to_z w32 (of_z w32 c.args.n) in
    subst (λ (z : ℤ). Written 29 160 c.put_word.result old c.put_word.new.out (euler_word ++ signed_number z (0x0A ∷ drop 160 old)))
    (to_z-of_z (n-fits c))
    (written_then (λ t. euler_word ++ t) room (written_then (signed_number held) room c.put-end.ensures c.put_signed-number.ensures) c.put_word.ensures)
