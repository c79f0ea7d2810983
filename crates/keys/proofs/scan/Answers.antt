-- `keys::scan` meets its contract: where no marks are lent none is hurried.
use mathlib.Core.Path.{ap, ◌∙◌}
use mathlib.Core.Bool.{Bool}
use Prim.Native.Nat.{ℕ}
use native.Mathlib.Omega.{arith}
use lib.ListN.{length}
use mathlib.Core.Path.{◌≡◌}
use Rattle.std.proofs.lemmas.Bool.Decides.{nat_tests}
use Rattle.keys.specs.Key.{greatest, width, bit_key}
use Rattle.keys.proofs.Ranks.{none-hurried}
use Rattle.keys.proofs.scan.Goals as goal

pub returns-then-is_empty : goal.returns-then-is_empty
returns-then-is_empty c =
    let a = c.args in
    let none : length a.marks.now ≡ 0 = grind (arith, nat_tests) in
    c.plain_scan.ensures ∙ ap (λ (h : ℕ → Bool). greatest (bit_key h a.dist.now a.at a.set) 0 width) (none-hurried a.marks.now none)
