-- `writing::written_length` meets its contract.
use mathlib.Core.Path.{ap}
use Prim.Native.Nat.{ℕ, ◌+◌, ◌*◌, ◌≤◌}
use native.Mathlib.Omega.{arith}
use Rattle.format.specs.File.{header_length}
use Rattle.writing.proofs.Layers.{records-end}
use Rattle.writing.proofs.written_length.Goals as goal
use Rattle.writing.proofs.written_length.Goals.{After-struct_known-1}

small : (c : After-struct_known-1) → header_length + c.args.sides.c * c.layer_length.result ≤ 1048775
small c =
    let s = c.args.sides in
    records-end s s.c c.layer_length.result c.requires (omega arith) c.layer_length.ensures.1

pub overflow_mul-result : goal.overflow_mul-result
overflow_mul-result c = omega (arith, small c)

pub overflow_add-result : goal.overflow_add-result
overflow_add-result c = omega (arith, small c)

pub returns : goal.returns
returns c = ap (λ (n : ℕ). header_length + c.args.sides.c * n) c.layer_length.ensures.0
