-- `status::rested` meets its contract: a pending byte is 2 or more.
use Prim.Native.Nat.{◌/◌, ◌%◌}
use native.Mathlib.Omega.{arith}
use borrow.Author.Rules.{rules}
use borrow.Author.Tests.{eqb-true}
use Rattle.rules.specs.Status.{pending_byte, rested}
use Rattle.status.proofs.rested.Goals as goal

pub overflow_sub-result : goal.overflow_sub-result
unfolding pending_byte
overflow_sub-result c = omega (arith, eqb-true (c.args.x / 2 % 2) 1 c.requires)

pub returns : goal.returns
unfolding rested
returns c = search rules
