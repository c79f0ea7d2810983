-- `writing::write_header` meets its contract.
use mathlib.Core.Path.{ap, ◌∙◌}
use Prim.Native.Nat.{◌≤◌}
use native.Mathlib.Omega.{arith}
use lib.ListN.{length, length-set, length-drop}
use borrow.Author.Rules.{rules}
use Rattle.rules.proofs.Places.{fit}
use Rattle.file_records.proofs.Laying.{is-spread}
use Rattle.file_records.proofs.write_header.Goals as goal
use Rattle.file_records.proofs.write_header.Goals.{Start}

room : (c : Start) → 7 ≤ length c.args.file.now
room c = c.requires.1

pub bounds-file-1 : goal.bounds-file-1
bounds-file-1 c = simp length-set (omega (arith, room (goal.at.bounds-file-1 c).Start))

pub overflow_cast-file : goal.overflow_cast-file
overflow_cast-file c = let f = fit _ c.requires.0 in record { fits = omega (arith, f.a-high, f.b-high, f.c-high) }

pub bounds-file-2 : goal.bounds-file-2
bounds-file-2 c = simp length-set (omega (arith, room (goal.at.bounds-file-2 c).Start))

pub overflow_cast-file-2 : goal.overflow_cast-file-2
overflow_cast-file-2 c = let f = fit _ c.requires.0 in record { fits = omega (arith, f.a-high, f.b-high, f.c-high) }

pub bounds-file-3 : goal.bounds-file-3
bounds-file-3 c = simp length-set (omega (arith, room (goal.at.bounds-file-3 c).Start))

pub overflow_cast-file-3 : goal.overflow_cast-file-3
overflow_cast-file-3 c = let f = fit _ c.requires.0 in record { fits = omega (arith, f.a-high, f.b-high, f.c-high) }

pub bounds-file-4 : goal.bounds-file-4
bounds-file-4 c = simp length-set (omega (arith, room (goal.at.bounds-file-4 c).Start))

pub put_word-requires : goal.put_word-requires
put_word-requires c = (simp length-set (omega (arith, room (goal.at.put_word-requires c).Start)), search rules)

pub returns : goal.returns
returns c =
    c.put_word.ensures ∙ rw (c.from.ensures, is-spread 0 7 c.args.file.now (room (goal.at.returns c).Start))

pub shape_of-file : goal.shape_of-file
shape_of-file c =
    ap length (returns c) ∙ omega (arith, length-drop 7 c.args.file.now, room (goal.at.shape_of-file c).Start)
