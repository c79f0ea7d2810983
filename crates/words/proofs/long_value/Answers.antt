-- `words::long_value` meets its contract.
use mathlib.Core.Path.{◌≡◌, ap, ◌∙◌}
use Prim.Native.Nat.{◌-◌}
use native.Mathlib.Omega.{arith}
use mir.Syntax.{w32}
use mir.Val.{to_z}
use Rattle.words.proofs.Turning.{by_bits}
use Rattle.words.proofs.long_value.Goals as goal

pub returns-then-n-lt2147483648 : goal.returns-then-n-lt2147483648
returns-then-n-lt2147483648 c = by_bits _

pub returns-else-n-lt2147483648 : goal.returns-else-n-lt2147483648
returns-else-n-lt2147483648 c =
    let n = c.args.n in
    let e : 4294967295 - (4294967295 - n) ≡ n = omega arith in
    ap (to_z w32) e ∙ by_bits n
