-- `writing::write_values` meets its contract.
use Prim.Native.Nat.{◌+◌, ◌*◌, ◌≤◌}
use native.Mathlib.Omega.{arith}
use lib.ListN.{length}
use mir.Facts.{to_z-of_z}
use borrow.Author.Rules.{sfits_of}
use Rattle.format.proofs.Holding.{held_at}
use Rattle.file_records.proofs.Values.{laid-start, laid-room, laid_next, laid_done}
use mir.Syntax.{w32}
use Rattle.words.specs.Widths.{bytes_in}
use Rattle.file_records.proofs.write_values.Goals as goal
use Rattle.file_records.proofs.write_values.Goals.{In-loop-i}

-- in the loop: the next value lies in the bytes
room : (c : In-loop-i) → let width = bytes_in c.args.width in
    width * c.loop-i.i + width ≤ length c.loop-i.bytes
room c = laid-room _ _ _ _ _ c.loop-i.invariant (omega arith)

pub loop-i-init : goal.loop-i-init
loop-i-init c = laid-start _ _ _ c.requires.0 c.requires.1

pub put_value_at-requires : goal.put_value_at-requires
put_value_at-requires c =
    let i = c.loop-i.invariant in
    (room (goal.at.put_value_at-requires c).In-loop-i, rw (to_z-of_z (sfits_of {w = w32} c.put_value_at-arg-in-loop-i-1.given)) (held_at i.held _ (omega arith)))

pub loop-i-preserved : goal.loop-i-preserved
loop-i-preserved c =
    rw c.put_value_at.ensures
    (laid_next _ _ _ _ _ c.loop-i.invariant _ (omega arith) (to_z-of_z (sfits_of {w = w32} c.put_value_at-arg-in-loop-i-1.given)))

pub shape_of-bytes : goal.shape_of-bytes
shape_of-bytes c = c.loop-i.invariant.long

pub returns : goal.returns
returns c = laid_done _ _ _ _ _ c.loop-i.invariant (omega arith)
