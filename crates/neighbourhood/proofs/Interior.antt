-- A voxel off the border: the voxels that touch it are those at the 27 positions around it, each at one of them.
use mathlib.Core.Path.{◌≡◌, sym, ap, ◌∙◌}
use mathlib.Core.Bool.{true, false, ◌||◌}
use Prim.Native.Nat.{ℕ, suc, ◌+◌, ◌-◌, ◌*◌, ◌/◌, ◌%◌, ◌≤◌, ◌<◌}
use native.Mathlib.Omega.{arith}
use native.Mathlib.Nat.{mul-add, mul-one, mul_assoc, mul-le-mul, mul-le-mul_left}
use borrow.Author.Tests.{eqb-false, leb-true, le-leb}
use lib.Dec.{eqb, leb}
use Rattle.prelude.proofs.Bools.{and-true, true-and, or-false}
use Rattle.rules.specs.declared.Sides.{Sides}
use Rattle.rules.specs.Grid.{size, Voxel, voxel, index, neighbour, end, on_border, gap, near, touch}
use Rattle.rules.proofs.Places.{Fit, fit, InGrid, voxel-eq, voxel-index, index-voxel, index-lt, voxel-in}
use Rattle.rules.specs.Neighbours.{Inner}
use Rattle.neighbourhood.specs.Neighbourhood.{offset, first_around, around, Room}

pub record Interior (s : Sides) (v : Voxel) : Type 0 where
  pub x-low : 1 ≤ v.x
  pub x-high : v.x + 1 < s.a
  pub y-low : 1 ≤ v.y
  pub y-high : v.y + 1 < s.b
  pub z-low : 1 ≤ v.z
  pub z-high : v.z + 1 < s.c

inner-side : (side x : ℕ) → x < side → end side x ≡ false → (1 ≤ x) × (x + 1 < side)
inner-side side x h e =
    let p = or-false (eqb x 0) (eqb (suc x) side) e in
    let q = eqb-false x 0 p.0 in
    let r = eqb-false (suc x) side p.1 in
    (omega arith, omega arith)

-- the last position is the farthest from the first
pub offset-most : (a l p : ℕ) → p < 27 → offset a l p ≤ offset a l 26
offset-most a l p h =
    let y : a * (p / 3 % 3) ≤ a * 2 = mul-le-mul_left a (let k : p / 3 % 3 ≤ 2 = omega arith in k) in
    let z : l * (p / 9) ≤ l * 2 = mul-le-mul_left l (let k : p / 9 ≤ 2 = omega arith in k) in
    omega arith

-- the coordinates' weights in an index
index-sum : (s : Sides) (v : Voxel) → index s v ≡ v.x + s.a * v.y + s.a * s.b * v.z
unfolding index
index-sum s v = omega (arith, mul-add s.a v.y (s.b * v.z), mul_assoc s.a s.b v.z)

axis-step : (w p d q : ℕ) → q + 1 ≡ p + d → w * q + w ≡ w * p + w * d
axis-step w p d q e = omega (arith, mul-add w q 1, mul-one w, ap (λ (n : ℕ). w * n) e, mul-add w p d)

near_step : (x d : ℕ) → d < 3 → 1 ≤ x → leb (gap x (x + d - 1)) 1 ≡ true
unfolding gap
near_step x d h l = le-leb ((x - (x + d - 1)) + (x + d - 1 - x)) 1 (omega arith)

near-digit : (x y : ℕ) → 1 ≤ x → leb (gap x y) 1 ≡ true → (y + 1 - x < 3) × (y ≡ x + (y + 1 - x) - 1)
unfolding gap
near-digit x y l e = let h = leb-true ((x - y) + (y - x)) 1 e in (omega arith, omega arith)

digits_same : (p q : ℕ) → p % 3 ≡ q % 3 → p / 3 % 3 ≡ q / 3 % 3 → p / 9 ≡ q / 9 → p ≡ q
digits_same p q e f g = sym (whole p) ∙ (λ i. e i + 3 * f i + 9 * g i) ∙ whole q
  where
    whole : (p : ℕ) → p % 3 + 3 * (p / 3 % 3) + 9 * (p / 9) ≡ p
    whole p = omega arith

module _ (s : Sides) (i : ℕ) (n : Inner s i) where
  abbrev v : Voxel
  v = voxel s i

  abbrev l : ℕ
  l = s.a * s.b

  sides : Fit s
  sides = fit s n.sides

  has-index : index s v ≡ i
  has-index = index-voxel s i (omega (arith, sides.a-low)) (omega (arith, sides.b-low))

  pub interior : Interior s v
  unfolding on_border
  interior =
      let g = voxel-in s i (omega (arith, sides.a-low)) (omega (arith, sides.b-low)) n.below in
      let p = or-false (end s.a v.x) (end s.b v.y || end s.c v.z) n.off-border in
      let q = or-false (end s.b v.y) (end s.c v.z) p.1 in
      let x = inner-side s.a v.x g.x-in p.0 in
      let y = inner-side s.b v.y g.y-in q.0 in
      let z = inner-side s.c v.z g.z-in q.1 in
      record { x-low = x.0; x-high = x.1; y-low = y.0; y-high = y.1; z-low = z.0; z-high = z.1 }

  pub layer-small : l ≤ 4096
  layer-small = let m : l ≤ 64 * 64 = mul-le-mul sides.a-high sides.b-high in omega arith

  -- the first voxel of the neighbourhood
  pub first_below : 1 + s.a + l ≤ i
  first_below =
      let k = interior in
      let e = sym has-index ∙ index-sum s v in
      let y : s.a * 1 ≤ s.a * v.y = mul-le-mul_left s.a k.y-low in
      let z : l * 1 ≤ l * v.z = mul-le-mul_left l k.z-low in
      omega (arith, k.x-low)

  -- ---- the voxel at a position

  neighbour-in : (p : ℕ) → p < 27 → InGrid s (neighbour v p)
  neighbour-in p h =
      let k = interior in
      let x : p % 3 < 3 = omega arith in
      let y : p / 3 % 3 < 3 = omega arith in
      let z : p / 9 < 3 = omega arith in
      record { x-in = omega (arith, k.x-low, k.x-high); y-in = omega (arith, k.y-low, k.y-high); z-in = omega (arith, k.z-low, k.z-high) }

  pub around-index : (p : ℕ) → index s (neighbour v p) ≡ around s i p
  unfolding around
  around-index p =
      let k = interior in
      let u = neighbour v p in
      let e = sym has-index ∙ index-sum s v in
      let f = index-sum s u in
      let y = axis-step s.a v.y (p / 3 % 3) u.y (omega (arith, k.y-low)) in
      let z = axis-step l v.z (p / 9) u.z (omega (arith, k.z-low)) in
      let x : u.x + 1 ≡ v.x + p % 3 = omega (arith, k.x-low) in
      let b = first_below in
      omega arith

  pub around-voxel : (p : ℕ) → p < 27 → voxel s (around s i p) ≡ neighbour v p
  around-voxel p h =
      let g = neighbour-in p h in
      ap (voxel s) (sym (around-index p)) ∙ voxel-index s (neighbour v p) g.x-in g.y-in

  pub around-below : (p : ℕ) → p < 27 → around s i p < size s
  around-below p h = let g = index-lt s (neighbour v p) (neighbour-in p h) in omega (arith, around-index p)

  pub around-middle : around s i 13 ≡ i
  unfolding around
  around-middle = let b = first_below in omega arith

  pub room : Room s.a l (first_around s i) (size s)
  unfolding around
  room = record { row = sides.a-high; layer = layer-small; ends = around-below 26 (omega arith) }

  -- no two positions have the same voxel
  pub around-apart : (p q : ℕ) → p < 27 → q < 27 → around s i p ≡ around s i q → p ≡ q
  around-apart p q h k e =
      let w : neighbour v p ≡ neighbour v q = sym (around-voxel p h) ∙ ap (voxel s) e ∙ around-voxel q k in
      let f = interior in
      let x : v.x + p % 3 - 1 ≡ v.x + q % 3 - 1 = ap (λ (u : Voxel). u.x) w in
      let y : v.y + p / 3 % 3 - 1 ≡ v.y + q / 3 % 3 - 1 = ap (λ (u : Voxel). u.y) w in
      let z : v.z + p / 9 - 1 ≡ v.z + q / 9 - 1 = ap (λ (u : Voxel). u.z) w in
      let dx : p % 3 ≡ q % 3 = digit v.x (p % 3) (q % 3) f.x-low x in
      let dy : p / 3 % 3 ≡ q / 3 % 3 = digit v.y (p / 3 % 3) (q / 3 % 3) f.y-low y in
      let dz : p / 9 ≡ q / 9 = digit v.z (p / 9) (q / 9) f.z-low z in
      digits_same p q dx dy dz
    where
      digit : (x d e : ℕ) → 1 ≤ x → x + d - 1 ≡ x + e - 1 → d ≡ e
      digit x d e low f = omega arith

  -- ---- touching is lying in the neighbourhood

  pub around-touch : (p : ℕ) → p < 27 → touch s i (around s i p) ≡ true
  unfolding touch near
  around-touch p h =
      let k = interior in
      ap (near v) (around-voxel p h)
      ∙ true-and _ _ (near_step v.x (p % 3) (omega arith) k.x-low)
      (true-and _ _ (near_step v.y (p / 3 % 3) (omega arith) k.y-low) (near_step v.z (p / 9) (omega arith) k.z-low))

  pub touch-around : (j : ℕ) → touch s i j ≡ true → (p : ℕ) × (p < 27) × (j ≡ around s i p)
  unfolding touch near
  touch-around j t =
      let k = interior in
      let u = voxel s j in
      let f = and-true (leb (gap v.x u.x) 1) _ t in
      let g = and-true (leb (gap v.y u.y) 1) (leb (gap v.z u.z) 1) f.1 in
      let x = near-digit v.x u.x k.x-low f.0 in
      let y = near-digit v.y u.y k.y-low g.0 in
      let z = near-digit v.z u.z k.z-low g.1 in
      let dx = u.x + 1 - v.x in
      let dy = u.y + 1 - v.y in
      let dz = u.z + 1 - v.z in
      let p = dx + 3 * dy + 9 * dz in
      let px : p % 3 ≡ dx = digits-x dx dy dz x.0 in
      let py : p / 3 % 3 ≡ dy = digits-y dx dy dz x.0 y.0 in
      let pz : p / 9 ≡ dz = digits-z dx dy dz x.0 y.0 in
      let w : u ≡ neighbour v p =
      voxel-eq u (neighbour v p) (x.1 ∙ ap (λ (d : ℕ). v.x + d - 1) (sym px)) (y.1 ∙ ap (λ (d : ℕ). v.y + d - 1) (sym py))
      (z.1 ∙ ap (λ (d : ℕ). v.z + d - 1) (sym pz)) in
      let back = index-voxel s j (omega (arith, sides.a-low)) (omega (arith, sides.b-low)) in
      (p, digits-below dx dy dz x.0 y.0 z.0, sym back ∙ ap (index s) w ∙ around-index p)
    where
      digits-x : (x y z : ℕ) → x < 3 → (x + 3 * y + 9 * z) % 3 ≡ x
      digits-x x y z h = omega arith

      digits-y : (x y z : ℕ) → x < 3 → y < 3 → (x + 3 * y + 9 * z) / 3 % 3 ≡ y
      digits-y x y z h k = omega arith

      digits-z : (x y z : ℕ) → x < 3 → y < 3 → (x + 3 * y + 9 * z) / 9 ≡ z
      digits-z x y z h k = omega arith

      digits-below : (x y z : ℕ) → x < 3 → y < 3 → z < 3 → x + 3 * y + 9 * z < 27
      digits-below x y z h k m = omega arith
