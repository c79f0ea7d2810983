-- `local_test::face_bits` meets its contract: six bits in sum, each at its number.
use native.Mathlib.Omega.{arith}
use Prim.Native.Nat.{ℕ, ◌/◌, ◌^◌, ◌≤◌}
use lib.Bits.{bit_and, and_le_r}
use Rattle.local_test.proofs.Faces.{by_number}
use Rattle.local_test.proofs.face_bits.Goals as goal

record Small (t : ℕ) : Type 0 where
  low_x : bit_and (t / 2 ^ 24) 1 ≤ 1
  high-x : bit_and (t / 2 ^ 27) 2 ≤ 2
  low-y : bit_and (t / 2 ^ 18) 4 ≤ 4
  high-y : bit_and (t / 2 ^ 29) 8 ≤ 8
  low-z : bit_and (t / 2 ^ 4) 16 ≤ 16
  high-z : bit_and (t / 2 ^ 39) 32 ≤ 32

small : (t : ℕ) → Small t
small t =
    record {
      low_x = and_le_r (t / 2 ^ 24) 1;
      high-x = and_le_r (t / 2 ^ 27) 2;
      low-y = and_le_r (t / 2 ^ 18) 4;
      high-y = and_le_r (t / 2 ^ 29) 8;
      low-z = and_le_r (t / 2 ^ 4) 16;
      high-z = and_le_r (t / 2 ^ 39) 32;
    }

pub overflow_add-result : goal.overflow_add-result
overflow_add-result c = record { fits = let s = small c.args.t in omega arith }

pub overflow_add-result-2 : goal.overflow_add-result-2
overflow_add-result-2 c = record { fits = let s = small c.args.t in omega arith }

pub overflow_add-result-3 : goal.overflow_add-result-3
overflow_add-result-3 c = record { fits = let s = small c.args.t in omega arith }

pub overflow_add-result-4 : goal.overflow_add-result-4
overflow_add-result-4 c = record { fits = let s = small c.args.t in omega arith }

pub overflow_add-result-5 : goal.overflow_add-result-5
overflow_add-result-5 c = record { fits = let s = small c.args.t in omega arith }

pub returns : goal.returns
returns c = let n = by_number c.args.t in omega (arith, n.low_x, n.high-x, n.low-y, n.high-y, n.low-z, n.high-z, n.all)
