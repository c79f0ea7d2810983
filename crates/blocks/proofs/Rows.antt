-- Where the eight voxels of a block lie, row of blocks by row.
use mathlib.Core.Path.{◌≡◌, ap, sym, ◌∙◌}
use mathlib.Core.Bool.{true}
use mathlib.Core.List.{[], ◌∷◌}
use Prim.Native.Nat.{ℕ, ◌+◌, ◌*◌, ◌/◌, ◌%◌, ◌≤◌, ◌<◌}
use native.Mathlib.Omega.{arith}
use native.Mathlib.Nat.{mul-add, mul_assoc, mul_comm, mul-le-mul, mul-le-mul_left}
use Rattle.rules.specs.declared.Sides.{Sides}
use Rattle.rules.specs.Grid.{Voxel, fit_sides, size, index, voxel, range}
use Rattle.rules.proofs.Places.{fit, index-lt, voxel-in}
use Rattle.loops.specs.Rows.{Row}
use Rattle.loops.proofs.Rows.{row_of, row-voxel, rows_all}
use Rattle.coarse.specs.Blocks.{halved, part_of, eight}
use Rattle.coarse.specs.Eight.{Even}
use Rattle.blocks.specs.Work.{corners, corner, Blocked}

-- the voxel of a block at an offset
part-at : (s : Sides) (v : Voxel) (o n at : ℕ) → n ≡ o % 2 + s.a * (o / 2 % 2) + s.a * s.b * (o / 4)
    → at ≡ s.a * (2 * v.y + s.b * (2 * v.z)) + 2 * v.x → at + n ≡ index s (part_of v o)
unfolding index
part-at s v o n at e f =
    let a = s.a in
    let b = s.b in
    let y : ℕ = 2 * v.y in
    let z : ℕ = 2 * v.z in
    let p = ap (λ (k : ℕ). a * k) (mul-add b z (o / 4)) ∙ mul-add a (b * z) (b * (o / 4)) in
    let q = mul-add a (y + o / 2 % 2) (b * (z + o / 4)) in
    let q₁ = mul-add a y (o / 2 % 2) in
    let q₂ = mul_assoc a b (o / 4) in
    let q₃ = mul-add a y (b * z) in
    omega arith

module _ (s h : Sides) (n blocks r : ℕ) (B : Blocked s n blocks) (e : h ≡ halved s) (in-grid : r < h.b * h.c) where
  pub half-row : Row h blocks r
  half-row = row_of h blocks r (rw e B.half-sides) (rw e B.blocks-len) in-grid

  -- its first block, and the first voxel of that
  abbrev first : ℕ
  first = h.a * r

  abbrev from : ℕ
  from = s.a * (2 * (r % h.b) + s.b * (2 * (r / h.b)))

  -- the numbers on the way are small
  pub bz-few : s.b * (2 * (r / h.b)) ≤ 8192
  bz-few =
      let w = half-row in
      mul-le-mul (let f = fit s B.sides in f.b-high) (let t : 2 * (r / h.b) ≤ 128 = omega (arith, w.z-in, w.c-high) in t)

  pub from-few : from ≤ 1000000
  from-few =
      let w = half-row in
      omega (
        arith,
        mul-le-mul (let f = fit s B.sides in f.a-high)
            (let t : 2 * (r % h.b) + s.b * (2 * (r / h.b)) ≤ 8320 = omega (arith, bz-few, w.y-in, w.b-high) in t),
      )

  pub corner_is : (x : ℕ) → x < h.a → corner s (first + x) ≡ from + 2 * x
  corner_is x l =
      ap (λ (v : Voxel). s.a * (2 * v.y + s.b * (2 * v.z)) + 2 * v.x)
      (ap (λ (k : Sides). voxel k (first + x)) (sym e) ∙ row-voxel h r x l)

-- ---- the eight voxels of a block

module _ (s : Sides) (n blocks : ℕ) (B : Blocked s n blocks) (j : ℕ) where
  abbrev v : Voxel
  v = voxel (halved s) j

  abbrev at : ℕ
  at = corner s j

  pub corners-are : corners s.a (s.a * s.b) at ≡ eight s j
  unfolding eight range
  corners-are =
      let a = s.a in
      let m = s.a * s.b in
      let e₀ : at ≡ index s (part_of v 0) = omega (arith, part-at s v 0 0 at (omega arith) (omega arith)) in
      let e₁ : at + 1 ≡ index s (part_of v 1) = part-at s v 1 1 at (omega arith) (omega arith) in
      let e₂ : at + a ≡ index s (part_of v 2) = part-at s v 2 a at (omega arith) (omega arith) in
      let e₃ : at + a + 1 ≡ index s (part_of v 3) = omega (arith, part-at s v 3 (a + 1) at (omega arith) (omega arith)) in
      let e₄ : at + m ≡ index s (part_of v 4) = part-at s v 4 m at (omega arith) (omega arith) in
      let e₅ : at + m + 1 ≡ index s (part_of v 5) = omega (arith, part-at s v 5 (m + 1) at (omega arith) (omega arith)) in
      let e₆ : at + a + m ≡ index s (part_of v 6) = omega (arith, part-at s v 6 (a + m) at (omega arith) (omega arith)) in
      let e₇ : at + a + m + 1 ≡ index s (part_of v 7) = omega (arith, part-at s v 7 (a + m + 1) at (omega arith) (omega arith)) in
      λ k. e₀ k ∷ e₁ k ∷ e₂ k ∷ e₃ k ∷ e₄ k ∷ e₅ k ∷ e₆ k ∷ e₇ k ∷ []

  -- the last of the eight lies in the grid
  pub corners-room : j < size (halved s) → at + 1 + s.a + s.a * s.b < n
  unfolding halved
  corners-room l =
      let e = B.even in
      let w = fit (halved s) B.half-sides in
      let i = voxel-in (halved s) j (omega (arith, w.a-low)) (omega (arith, w.b-low)) l in
      let last = index-lt s (part_of v 7) (record {
        x-in = omega (arith, i.x-in, e.a-even);
        y-in = omega (arith, i.y-in, e.b-even);
        z-in = omega (arith, i.z-in, e.c-even);
      }) in
      omega (arith, part-at s v 7 (1 + s.a + s.a * s.b) at (omega arith) (omega arith), B.len)

pub layer-few : (s : Sides) → fit_sides s ≡ true → s.a * s.b ≤ 4096
layer-few s e = let f = fit s e in mul-le-mul f.a-high f.b-high

-- ---- how many rows and blocks there are

-- past the last row all blocks are done
pub past-rows : (h : Sides) (r : ℕ) → h.b * h.c ≤ r → size h ≤ h.a * r
past-rows h r e = omega (arith, rows_all h, mul-le-mul_left h.a e)

pub eighth : (s : Sides) → Even s → size s / 8 ≡ size (halved s)
unfolding size halved
eighth s e =
    let p : ℕ = s.a / 2 in
    let q : ℕ = s.b / 2 in
    let r : ℕ = s.c / 2 in
    let f : s.a * s.b * s.c ≡ 2 * p * (2 * q) * (2 * r) = sym (λ k. e.a-even k * e.b-even k * e.c-even k) in
    let twice : (x y : ℕ) → x * (2 * y) ≡ 2 * (x * y) = λ x y. sym (mul_assoc x 2 y) ∙ ap (λ (k : ℕ). k * y) (mul_comm x 2) ∙ mul_assoc 2 x y in
    let g₁ : 2 * p * (2 * q) ≡ 4 * (p * q) = omega (arith, twice (2 * p) q, mul_assoc 2 p q) in
    let g₂ : 4 * (p * q) * (2 * r) ≡ 8 * (p * q * r) = omega (arith, twice (4 * (p * q)) r, mul_assoc 4 (p * q) r) in
    let h : s.a * s.b * s.c ≡ 8 * (p * q * r) = f ∙ ap (λ (k : ℕ). k * (2 * r)) g₁ ∙ g₂ in
    omega arith
