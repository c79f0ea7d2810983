-- `frame_row`: a row on the border, or the ends of any other.
use Rattle.std.proofs.Common.{arith}
use Rattle.practice.proofs.Framing.{edge-framed, row-framed}
use Rattle.practice.proofs.frame_row.Goals as goal

pub returns-then-y-sides : goal.returns-then-y-sides
returns-then-y-sides c =
    let a = c.args in
    edge-framed a.sides a.row a.values.now c.border.new.values c.if-y-sides.true (omega arith) c.border.ensures

pub returns-else-y-sides : goal.returns-else-y-sides
returns-else-y-sides c =
    let a = c.args in
    row-framed a.sides a.row a.values.now c.border-else-y-sides.new.values c.border-else-y-sides-2.new.values c.if-y-sides.false c.requires.a-low
    (omega arith) (omega arith) (omega arith) c.border-else-y-sides.ensures c.border-else-y-sides-2.ensures
