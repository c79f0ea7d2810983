-- `text::put_carved` meets its contract.
use mathlib.Core.List.{◌++◌}
use Prim.Native.Nat.{◌≤◌}
use lib.ListN.{length}
use mir.Syntax.{w32}
use mir.Val.{SFits}
use mir.Facts.{to_z-of_z}
use Rattle.text.specs.Line.{number, kept_word, removed_word, opened_word, examined_word}
use native.Mathlib.Omega.{arith}
use Rattle.text.proofs.Writing.{written_then}
use Rattle.text.proofs.Lines.{carved-text}
use borrow.Author.Rules.{rules}
use Rattle.text.proofs.put_carved.Goals as goal
use Rattle.text.proofs.put_carved.Goals.{After-slice_known-6-1}

euler-fits : (c : After-slice_known-6-1) → SFits w32 c.args.s.euler
euler-fits c = search rules

pub returns : goal.returns
returns c =
    let s = c.args.s in
    let room : 160 ≤ length c.args.out.now = omega (arith, c.requires) in
    let examined = written_then (λ t. examined_word ++ number s.examined t) room c.put_euler-euler.ensures c.put_field-examined.ensures in
    let opened = written_then (λ t. opened_word ++ number s.opened t) room examined c.put_field-opened.ensures in
    let removed = written_then (λ t. removed_word ++ number s.removed t) room opened c.put_field-removed.ensures in
    let kept = written_then (λ t. kept_word ++ number s.kept t) room removed c.put_field.ensures in
    carved-text s.kept s.removed s.opened s.examined _ s.euler (to_z-of_z (euler-fits c)) c.requires kept
