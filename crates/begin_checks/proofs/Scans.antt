-- Scans: the values of a part of the grid, one after the other, and rows after one another.
use mathlib.Core.Path.{◌≡◌, refl, sym, ap, ◌∙◌}
use mathlib.Core.Bool.{Bool}
use mathlib.Core.List.{List}
use Prim.Native.Nat.{ℕ, zero, suc, ◌+◌, ◌-◌, ◌*◌, ◌≤◌}
use native.Mathlib.Omega.{arith}
use native.Mathlib.Nat.{mul-zero, mul-add}
use lib.ListN.{length, get_or, take, drop}
use Rattle.loops.proofs.Spans.{any-span}
use Rattle.std.specs.List.{list_any, range_with_len}
use Rattle.cells.specs.Groups.{any}
use Rattle.prelude.proofs.Ranges.{any-run-none, scan-join}
use Rattle.rules.specs.Grid.{range}

-- the elements of a slice, by their indices in the whole
pub any-slice : {A : Type 0} (p : A → Bool) (d : A) (xs : List A) (first end n : ℕ) → end ≡ first + n → end ≤ length xs
    → any p (take (end - first) (drop first xs)) ≡ any (λ i. p (get_or xs i d)) (range first n)
any-slice {A = A} p d xs first end n e h =
    let m : end - first ≡ n = omega arith in
    ap (λ (k : ℕ). any p (take k (drop first xs))) m ∙ any-span p d xs first n (omega arith)

-- n rows of a voxels from row k on
pub any-rows : (p : ℕ → Bool) (a k n : ℕ) → list_any (λ r. any p (range (a * r) a)) (range_with_len k n) ≡ any p (range (a * k) (a * n))
any-rows p a k zero = sym (any-run-none p (a * k) (a * 0) (mul-zero a))
any-rows p a k (suc n) =
    scan-join p (a * k) a (a * n) (a * (k + 1)) (a * suc n) _ _ refl (any-rows p a (k + 1) n) (omega (arith, mul-add a k 1)) (omega (arith, mul-add a 1 n))
