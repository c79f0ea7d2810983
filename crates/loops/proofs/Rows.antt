-- Rows of a grid: where they lie, the coordinates of their voxels, and what lies on the border.
use mathlib.Core.Path.{◌≡◌, sym, ap, ap₂, ◌∙◌, subst}
use mathlib.Core.Bool.{Bool, true, false, ◌||◌}
use mathlib.Core.List.{List}
use Prim.Native.Nat.{ℕ, suc, ◌+◌, ◌-◌, ◌*◌, ◌/◌, ◌%◌, ◌≤◌, ◌<◌}
use native.Mathlib.Omega.{arith}
use native.Mathlib.Numerals.{add-one}
use native.Mathlib.Nat.{mul-le-mul, mul-le-mul_left, mul-suc, mul_comm, mul_assoc, mul-add, mul-one, add_comm}
use native.Mathlib.Nat.{mod-lt, mod-eq_of_lt, div-eq_of_lt, div-lt_iff_lt-mul, div-div-eq-div-mul, add-mul-div_left, add-mul-mod_self_left}
use lib.Dec.{eqb}
use borrow.Author.Tests.{eq-eqb, ne_eqb}
use Rattle.prelude.proofs.Bools.{or-one}
use Rattle.rules.specs.declared.Sides.{Sides}
use Rattle.rules.specs.Grid.{Voxel, fit_sides, size, voxel, end, on_border}
use Rattle.rules.proofs.Places.{fit, voxel-eq}
use Rattle.loops.specs.InPlace.{Each}
use Rattle.loops.specs.Rows.{Row}
use Rattle.loops.proofs.InPlace.{each-join}

module _ (s : Sides) where
  pub row-voxel : (r x : ℕ) → x < s.a → voxel s (s.a * r + x) ≡ record { x = x; y = r % s.b; z = r / s.b }
  unfolding voxel
  row-voxel r x h =
      let e : (s.a * r + x) / s.a ≡ r =
      ap (λ (n : ℕ). n / s.a) (add_comm (s.a * r) x) ∙ add-mul-div_left x r (omega arith) ∙ omega (arith, div-eq_of_lt h) in
      voxel-eq _ _
      (ap (λ (n : ℕ). n % s.a) (add_comm (s.a * r) x) ∙ add-mul-mod_self_left x s.a r ∙ mod-eq_of_lt h)
      (ap (λ (n : ℕ). n % s.b) e)
      (sym (div-div-eq-div-mul (s.a * r + x) s.a s.b) ∙ ap (λ (n : ℕ). n / s.b) e)

  -- a row ends within the grid
  pub row_in : (r : ℕ) → r < s.b * s.c → s.a * r + s.a ≤ size s
  unfolding size
  row_in r h =
      let m = mul-le-mul_left s.a (let q : suc r ≤ s.b * s.c = h in q) in
      omega (arith, mul-suc s.a r, mul_assoc s.a s.b s.c)

  -- what a function that works on a row may go by
  pub row_of : (n r : ℕ) → fit_sides s ≡ true → n ≡ size s → r < s.b * s.c → Row s n r
  unfolding size
  row_of n r e q h =
      let F = fit s e in
      let m = mul-le-mul (mul-le-mul F.a-high F.b-high) F.c-high in
      let b-pos : 0 < s.b = omega (arith, F.b-low) in
      record {
        fit = e;
        len = q;
        few = omega arith;
        a-low = F.a-low;
        a-high = F.a-high;
        b-low = F.b-low;
        b-high = F.b-high;
        c-high = F.c-high;
        y-in = mod-lt r b-pos;
        z-in = (div-lt_iff_lt-mul b-pos).1 (omega (arith, mul_comm s.b s.c));
        last = omega (arith, row_in r h);
      }

  pub rows_few : fit_sides s ≡ true → s.b * s.c ≤ 4096
  rows_few e = let F = fit s e in omega (arith, mul-le-mul F.b-high F.c-high)

  -- all rows
  pub rows_all : s.a * (s.b * s.c) ≡ size s
  unfolding size
  rows_all = sym (mul_assoc s.a s.b s.c)

  -- the first and the last row of a layer, and every row of the first and the last layer, lie on the border
  abbrev pub edge : ℕ → Bool
  edge r = (eqb (r % s.b) 0 || eqb (r % s.b + 1) s.b) || (eqb (r / s.b) 0 || eqb (r / s.b + 1) s.c)

  pub border-in-row : (r x : ℕ) → x < s.a → on_border s (s.a * r + x) ≡ end s.a x || edge r
  unfolding on_border
  border-in-row r x h =
      ap (λ (v : Voxel). end s.a v.x || (end s.b v.y || end s.c v.z)) (row-voxel r x h)
      ∙ ap₂ (λ (p q : ℕ). end s.a x || ((eqb (r % s.b) 0 || eqb p s.b) || (eqb (r / s.b) 0 || eqb q s.c)))
      (sym (add-one (r % s.b))) (sym (add-one (r / s.b)))

  -- ---- which voxels of a row lie on the border

  module _ (r : ℕ) where
    in_row : (i : ℕ) → s.a * r ≤ i → i < s.a * r + s.a → on_border s i ≡ end s.a (i - s.a * r) || edge r
    in_row i l h =
        ap (on_border s) (let e : i ≡ s.a * r + (i - s.a * r) = omega arith in e) ∙ border-in-row r (i - s.a * r) (omega arith)

    pub row-edge : edge r ≡ true → (i : ℕ) → s.a * r ≤ i → i < s.a * r + s.a → on_border s i ≡ true
    row-edge e i l h = in_row i l h ∙ ap (λ (t : Bool). end s.a (i - s.a * r) || t) e ∙ or-one (end s.a (i - s.a * r))

    pub row_first : 0 < s.a → on_border s (s.a * r) ≡ true
    row_first w =
        in_row (s.a * r) (omega arith) (omega arith)
        ∙ ap (λ (t : Bool). (t || eqb (suc (s.a * r - s.a * r)) s.a) || edge r) (eq-eqb (s.a * r - s.a * r) 0 (omega arith))

    pub row_last : (last : ℕ) → 0 < s.a → last + 1 ≡ s.a * r + s.a → on_border s last ≡ true
    row_last last w e =
        in_row last (omega arith) (omega arith)
        ∙ ap (λ (t : Bool). (eqb (last - s.a * r) 0 || t) || edge r) (eq-eqb (suc (last - s.a * r)) s.a (omega arith))
        ∙ ap (λ (t : Bool). t || edge r) (or-one (eqb (last - s.a * r) 0))

    pub row-middle : edge r ≡ false → (i : ℕ) → s.a * r < i → i + 1 < s.a * r + s.a → on_border s i ≡ false
    row-middle f i l h =
        in_row i (omega arith) (omega arith)
        ∙ ap₂ (λ (t u : Bool). (t || u) || edge r)
        (ne_eqb (i - s.a * r) 0 (λ z. omega arith)) (ne_eqb (suc (i - s.a * r)) s.a (λ z. omega arith))
        ∙ f

-- one row more
pub rows_more : (a r : ℕ) → a * (r + 1) ≡ a * r + a
rows_more a r = omega (arith, mul-add a r 1, mul-one a)

-- a pass over the rows before this one, and over this one
pub each_row : {A : Type 0} (d : A) (f : ℕ → A → A) (a r : ℕ) (l l' l'' : List A) → Each d f 0 (a * r) l l'
    → Each d f (a * r) (a * r + a) l' l'' → Each d f 0 (a * (r + 1)) l l''
each_row d f a r l l' l'' E F =
    subst (λ (n : ℕ). Each d f 0 n l l'') (sym (rows_more a r)) (each-join d f 0 (a * r) (a * r + a) l l' l'' (omega arith) (omega arith) E F)
