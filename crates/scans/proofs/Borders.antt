-- Number 7 row by row on the border, and its three scans as one.
use mathlib.Core.Path.{◌≡◌, sym, ap, ap₂, ◌∙◌}
use mathlib.Core.Bool.{Bool, true, false, not, cond, ◌||◌, ◌&&◌}
use mathlib.Core.List.{List}
use Prim.Native.Nat.{ℕ, suc, ◌+◌, ◌*◌, ◌≤◌, ◌<◌}
use native.Mathlib.Omega.{arith}
use native.Mathlib.Nat.{mul-le-mul_left, mul-suc, mul-add}
use lib.Dec.{eqb}
use lib.IntN.{ℤ, pos}
use lib.ListN.{length}
use mir.Syntax.{w32}
use mir.Val.{SFits, of_z}
use Rattle.cells.specs.Groups.{any}
use Rattle.prelude.proofs.Bools.{and_zero, and_one}
use Rattle.prelude.proofs.Ranges.{any-or}
use Rattle.prelude.proofs.Signs.{sign_bit, sign-held}
use Rattle.rules.specs.declared.Sides.{Sides}
use Rattle.rules.specs.Grid.{size, range, is_negative}
use Rattle.rules.specs.Machine.{unfit_voxel}
use Rattle.rules.specs.Fit.{Sized}
use Rattle.loops.specs.Rows.{Row}
use Rattle.loops.proofs.Rows.{row_of, rows_few, rows_more}
use Rattle.loops.proofs.Borders.{edge_at, row-on-border, row_ends}
use Rattle.scans.specs.Scans.{unknown_at, used_at, used_border_at, unheld_at, held_up}

-- ---- row y of layer z

-- a row follows the rows before it in its layer, and a layer the layers before it
pub row-start : (s : Sides) (y z : ℕ) → s.a * (y + s.b * z) ≡ s.a * (s.b * z) + s.a * y
row-start s y z = omega (arith, mul-add s.a y (s.b * z))

pub layers-more : (a b z : ℕ) → a * (b * (z + 1)) ≡ a * (b * z) + a * b
layers-more a b z = ap (λ (n : ℕ). a * n) (rows_more b z) ∙ mul-add a (b * z) b

module _ (s : Sides) (y z : ℕ) (hy : y < s.b) where
  abbrev r : ℕ
  r = y + s.b * z

  pub record RowIn (n : ℕ) : Type 0 where
    pub row : Row s n r
    pub rows : r < 4096

  pub row_in : (n : ℕ) → Sized s n → z < s.c → RowIn n
  row_in n g hz =
      let l : s.b * suc z ≤ s.b * s.c = mul-le-mul_left s.b hz in
      let h : r < s.b * s.c = omega (arith, mul-suc s.b z) in
      record { row = row_of s n r g.sides g.len h; rows = omega (arith, rows_few s g.sides) }

  module _ (status : List ℕ) where
    pub used-on-border : (eqb y 0 || eqb (y + 1) s.b) || (eqb z 0 || eqb (z + 1) s.c) ≡ true
        → any (used_at status) (range (s.a * r) s.a) ≡ any (used_border_at s status) (range (s.a * r) s.a)
    unfolding used_border_at
    used-on-border e = row-on-border s (used_at status) r (edge_at s y z hy ∙ e)

    pub used-ends : (last : ℕ) → 3 ≤ s.a → last + 1 ≡ s.a * r + s.a → (eqb y 0 || eqb (y + 1) s.b) || (eqb z 0 || eqb (z + 1) s.c) ≡ false
        → used_at status (s.a * r) || used_at status last ≡ any (used_border_at s status) (range (s.a * r) s.a)
    unfolding used_border_at
    used-ends last w h e = row_ends s (used_at status) r last w h (edge_at s y z hy ∙ e)

-- ---- number 7 in three scans

module _ (s : Sides) (dist : List ℤ) (status : List ℕ) (l : length status ≡ size s) where
  pub three-scans :
      (p q r : Bool)
      → p ≡ any (unknown_at status) (range 0 (length status))
      → q ≡ any (used_border_at s status) (range 0 (size s))
      → r ≡ any (unheld_at dist status) (range 0 (length status))
      → p || (q || r) ≡ any (unfit_voxel s dist status) (range 0 (size s))
  unfolding unfit_voxel unknown_at used_border_at used_at unheld_at
  three-scans p q r e f g =
      let v = range 0 (size s) in
      let t : q || r ≡ any (λ i. used_border_at s status i || unheld_at dist status i) v =
      ap₂ ◌||◌ f (g ∙ ap (λ (n : ℕ). any (unheld_at dist status) (range 0 n)) l) ∙ sym (any-or (used_border_at s status) (unheld_at dist status) v) in
      ap₂ ◌||◌ (e ∙ ap (λ (n : ℕ). any (unknown_at status) (range 0 n)) l) t
      ∙ sym (any-or (unknown_at status) (λ i. used_border_at s status i || unheld_at dist status i) v)

-- ---- the sign of a voxel's distance, counted only where it may not be negative
pub sign-held-up : (d : ℤ) (s : ℕ) → SFits w32 d → sign_bit (of_z w32 (held_up d s)) ≡ is_negative d && not (eqb s 1)
unfolding held_up
sign-held-up d s h = by-test (eqb s 1)
  where
    by-test : (t : Bool) → sign_bit (of_z w32 (cond t (pos 0) d)) ≡ is_negative d && not t
    by-test true = sym (and_zero (is_negative d))
    by-test false = sign-held d h ∙ sym (and_one (is_negative d))
