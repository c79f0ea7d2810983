-- A test of the border voxels, row by row: in a row the first and the last voxel lie on the border, the others if the row does.
use mathlib.Core.Path.{◌≡◌, sym, ap, ap₂, ◌∙◌}
use mathlib.Core.Bool.{Bool, true, false, ◌&&◌, ◌||◌}
use Prim.Native.Nat.{ℕ, ◌+◌, ◌-◌, ◌*◌, ◌/◌, ◌%◌, ◌≤◌, ◌<◌}
use native.Mathlib.Omega.{arith}
use native.Mathlib.Nat.{mod-eq_of_lt, div-eq_of_lt, add-mul-div_left, add-mul-mod_self_left}
use lib.Dec.{eqb}
use Rattle.cells.specs.Groups.{any}
use Rattle.prelude.proofs.Ranges.{any-run-ext, any-run-one, any-run-none-of, scan-join}
use Rattle.rules.specs.declared.Sides.{Sides}
use Rattle.rules.specs.Grid.{range, on_border}
use Rattle.loops.proofs.Rows.{edge, row-edge, row_first, row_last, row-middle}

-- row y of layer z
pub edge_at : (s : Sides) (y z : ℕ) → y < s.b → edge s (y + s.b * z) ≡ (eqb y 0 || eqb (y + 1) s.b) || (eqb z 0 || eqb (z + 1) s.c)
edge_at s y z h =
    let in-layer : (y + s.b * z) % s.b ≡ y = add-mul-mod_self_left y s.b z ∙ mod-eq_of_lt h in
    let layer : (y + s.b * z) / s.b ≡ z = add-mul-div_left y z (omega arith) ∙ omega (arith, div-eq_of_lt h) in
    ap₂ (λ (y z : ℕ). (eqb y 0 || eqb (y + 1) s.b) || (eqb z 0 || eqb (z + 1) s.c)) in-layer layer

module _ (s : Sides) (p : ℕ → Bool) (r : ℕ) where
  abbrev first : ℕ
  first = s.a * r

  abbrev on : ℕ → Bool
  on i = on_border s i && p i

  at : (i : ℕ) (t : Bool) → on_border s i ≡ t → on i ≡ t && p i
  at i t e = ap (λ (u : Bool). u && p i) e

  -- a row on the border
  pub row-on-border : edge s r ≡ true → any p (range first s.a) ≡ any on (range first s.a)
  row-on-border e = any-run-ext p on first s.a (λ i l h. sym (at i true (row-edge s r e i l h)))

  -- any other
  pub row_ends : (last : ℕ) → 3 ≤ s.a → last + 1 ≡ first + s.a → edge s r ≡ false → p first || p last ≡ any on (range first s.a)
  row_ends last w e f =
      let left : any on (range first 1) ≡ p first = any-run-one on first ∙ at first true (row_first s r (omega arith)) in
      let right : any on (range last 1) ≡ p last = any-run-one on last ∙ at last true (row_last s r last (omega arith) e) in
      let middle : any on (range (first + 1) (s.a - 2)) ≡ false =
      any-run-none-of on (first + 1) (s.a - 2) (λ i l h. at i false (row-middle s r f i (omega arith) (omega arith))) in
      let after = scan-join on (first + 1) (s.a - 2) 1 last (s.a - 1) false _ (sym middle) (sym right) (omega arith) (omega arith) in
      scan-join on first 1 (s.a - 1) (first + 1) s.a _ _ (sym left) after (omega arith) (omega arith)
