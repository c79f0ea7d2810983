-- `passed`: v stands nowhere from first up to i.
use Rattle.std.proofs.Common.{◌+◌, ◌∙◌, arith, sym}
use Rattle.loops.proofs.Orders.{absent-join}
use Rattle.loops.proofs.Searching.{absent-span}
use Rattle.loops.proofs.passed.Goals as goal

pub loop-i-preserved : goal.loop-i-preserved
loop-i-preserved c =
    let bytes = c.args.bytes.now in
    let none = absent-span bytes c.args.v c.loop-i.i (c.loop-i.i + 64) (omega arith) (omega arith) (sym c.stands.ensures ∙ c.if-not-stands.true) in
    record {
      low = omega arith;
      high = omega arith;
      none_before = absent-join bytes c.loop-i.i c.loop-i.invariant.none_before none;
    }
