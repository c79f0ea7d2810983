-- `byte` by its three tests.
use mathlib.Core.Path.{◌≡◌, refl, ap, ◌∙◌}
use mathlib.Core.Bool.{Bool, true, false, not, ◌&&◌}
use Prim.Native.Nat.{◌+◌, ◌*◌, ◌≤◌}
use native.Mathlib.Omega.{arith}
use borrow.Author.Tests.{le-leb}
use lib.IntN.{ℤ, pos, negsuc}
use lib.Signed.{le_z}
use mir.Facts.{to_z-of_z}
use mir.Syntax.{w32}
use mir.Val.{SFits, bool_byte, to_z, of_z}
use Rattle.rules.specs.Grid.{is_negative}
use Rattle.status.proofs.Bytes.{as_number}
use Rattle.splitting.specs.Split.{byte_by}
use Rattle.splitting.proofs.byte.Goals as goal
use Rattle.splitting.proofs.byte.Goals.{After-from-2}

made : (kept exposed inner : Bool) → bool_byte kept + 2 * bool_byte ((kept && exposed) && not inner) ≡ byte_by kept exposed inner
made false exposed inner = refl
made true false false = refl
made true false true = refl
made true true false = refl
made true true true = refl

few : (t : Bool) → bool_byte t ≤ 1
few t = (as_number t refl).1

not-negative : (z : ℤ) → le_z (pos 0) z ≡ not (is_negative z)
not-negative (pos n) = le-leb 0 n (omega arith)
not-negative (negsuc n) = refl

-- the test at hand
outside : {z : ℤ} → SFits w32 z → le_z (pos 0) (to_z w32 (of_z w32 z)) ≡ not (is_negative z)
outside {z} h = ap (le_z (pos 0)) (to_z-of_z h) ∙ not-negative z

abbrev waits : After-from-2 → Bool
waits c = (c.is_kept-kept.result && not c.is_kept.result) && le_z (pos 0) (to_z w32 (of_z w32 c.args.d))

pub overflow_mul-result : goal.overflow_mul-result
overflow_mul-result c = record { fits = omega (arith, c.from-2.ensures, few (waits c)) }

pub overflow_add-result : goal.overflow_add-result
overflow_add-result c = record { fits = omega (arith, c.from.ensures, c.from-2.ensures, few c.is_kept-kept.result, few (waits c)) }

pub returns : goal.returns
returns c =
    let e =
    ap (λ (t : Bool). bool_byte c.is_kept-kept.result + 2 * bool_byte ((c.is_kept-kept.result && not c.is_kept.result) && t)) (outside c.ranges.d)
    ∙ made c.is_kept-kept.result (not c.is_kept.result) (is_negative c.args.d)
    ∙ (λ i. byte_by (c.is_kept-kept.ensures i) (not (c.is_kept.ensures i)) (is_negative c.args.d)) in
    omega (arith, c.from.ensures, c.from-2.ensures)
