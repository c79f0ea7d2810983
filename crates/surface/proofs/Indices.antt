-- Coordinates and index of a voxel of a fit grid: no sum or product that the code makes wraps, and where the next voxel along an axis lies.
use mathlib.Core.Path.{◌≡◌, sym, ap, ◌∙◌, subst}
use mathlib.Core.Bool.{true}
use Prim.Native.Nat.{ℕ, zero, suc, ◌+◌, ◌*◌, ◌≤◌, ◌<◌}
use native.Mathlib.Nat.{mul-le-mul, mul-add, mul-one}
use native.Mathlib.Omega.{arith}
use Rattle.rules.specs.declared.Sides.{Sides}
use Rattle.rules.specs.Grid.{Voxel, voxel, index, size, fit_sides}
use Rattle.rules.proofs.Places.{InGrid, fit, voxel-in, index-lt, voxel-index, index-voxel}
use Rattle.surface.specs.declared.Coordinates.{Coordinates}
use Rattle.surface.specs.Surface.{coordinate, side, next, next_index, HasNext}
use Rattle.surface.specs.Coordinates.{voxel_of, UpTo, stride}
use Rattle.surface.proofs.Axis.{along-le}

module _ (s : Sides) (f : fit_sides s ≡ true) where
  pub a-pos : 0 < s.a
  a-pos = let h = fit s f in omega arith

  pub b-pos : 0 < s.b
  b-pos = let h = fit s f in omega arith

  pub ab-le : s.a * s.b ≤ 4096
  ab-le = let h = fit s f in mul-le-mul h.a-high h.b-high

  pub voxel-up-to : (i : ℕ) (r : Coordinates) → i < size s → voxel_of r ≡ voxel s i → UpTo 63 r
  voxel-up-to i r l e =
      let h = fit s f in
      let g : InGrid s (voxel_of r) = subst (λ (v : Voxel). InGrid s v) (sym e) (voxel-in s i a-pos b-pos l) in
      record {
        x-le = under r.x s.a g.x-in h.a-high;
        y-le = under r.y s.b g.y-in h.b-high;
        z-le = under r.z s.c g.z-in h.c-high;
      }
    where
      under : (x n : ℕ) → x < n → n ≤ 64 → x ≤ 63
      under x n l h = omega arith

  pub stride-le : (axis : ℕ) → stride axis s ≤ 4096
  stride-le axis = let h = fit s f in along-le axis 1 s.a (s.a * s.b) 4096 (omega arith) (omega arith) ab-le

-- ---- the next voxel

next-in : (s : Sides) (axis : ℕ) (v : Voxel) → InGrid s v → coordinate axis v + 1 < side axis s → InGrid s (next axis v)
next-in s zero v g h = record { x-in = h; y-in = g.y-in; z-in = g.z-in }
next-in s (suc zero) v g h = record { x-in = g.x-in; y-in = h; z-in = g.z-in }
next-in s (suc (suc n)) v g h = record { x-in = g.x-in; y-in = g.y-in; z-in = h }

pub index-next : (s : Sides) (axis : ℕ) (v : Voxel) → index s (next axis v) ≡ index s v + stride axis s
unfolding index
index-next s zero v = omega arith
index-next s (suc zero) v =
    let t = s.b * v.z in
    let e : s.a * (v.y + 1 + t) ≡ s.a * (v.y + t) + s.a =
    omega (arith, mul-add s.a (v.y + t) 1, mul-one s.a, ap (λ (n : ℕ). s.a * n) (move v.y t)) in
    omega arith
  where
    move : (y t : ℕ) → y + 1 + t ≡ y + t + 1
    move y t = omega arith
index-next s (suc (suc n)) v =
    let e : s.b * (v.z + 1) ≡ s.b * v.z + s.b = omega (arith, mul-add s.b v.z 1, mul-one s.b) in
    let h : v.y + s.b * (v.z + 1) ≡ v.y + s.b * v.z + s.b = omega arith in
    omega (arith, ap (λ (k : ℕ). s.a * k) h, mul-add s.a (v.y + s.b * v.z) s.b)

module _ (s : Sides) (i axis : ℕ) (has : HasNext s i axis) where
  next-inside : InGrid s (next axis (voxel s i))
  next-inside = next-in s axis (voxel s i) (voxel-in s i (a-pos s has.fit) (b-pos s has.fit) has.here) has.there

  pub next-below : next_index s i axis < size s
  unfolding next_index
  next-below = index-lt s (next axis (voxel s i)) next-inside

  pub voxel-next : voxel s (next_index s i axis) ≡ next axis (voxel s i)
  unfolding next_index
  voxel-next = voxel-index s (next axis (voxel s i)) next-inside.x-in next-inside.y-in

-- whether it lies in the grid or not
pub next-index : (s : Sides) → fit_sides s ≡ true → (i axis : ℕ) → next_index s i axis ≡ i + stride axis s
unfolding next_index
next-index s f i axis = index-next s axis (voxel s i) ∙ ap (λ (n : ℕ). n + stride axis s) (index-voxel s i (a-pos s f) (b-pos s f))
