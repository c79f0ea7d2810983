-- The block around a voxel that is not on the border: its places, the voxels there, and which of them contain a cell.
use mathlib.Core.Path.{◌≡◌, refl, ap, ap₂}
use mathlib.Core.Logic.{◌⊎◌, inl, inr, ◌≢◌}
use mathlib.Core.Bool.{Bool, true, not, ◌&&◌, ◌||◌}
use Prim.Native.Nat.{ℕ, suc, ◌+◌, ◌-◌, ◌*◌, ◌/◌, ◌%◌, ◌≤◌, ◌<◌}
use native.Mathlib.Omega.{arith}
use lib.Dec.{leb, eqb}
use borrow.Author.Tests.{leb-true, leb-false, le-leb, eqb-true, eqb-false, ne_eqb}
use Rattle.cells.specs.Groups.{any, filter}
use Rattle.cells.specs.Cells.{spans, contains, positions}
use Rattle.prelude.proofs.Bools.{and-true, true-and, or-true, or-false}
use Rattle.prelude.proofs.Lists.{Mem, any_false, mem-filter}
use Rattle.closed_sets.proofs.EveryBlock.{contains-trans}
use Rattle.rules.specs.declared.Sides.{Sides}
use Rattle.rules.specs.Grid.{Voxel, index, voxel, range, gap, near, touch, reaches, neighbour, neighbourhood_of}
use Rattle.rules.proofs.Places.{InGrid, voxel-eq}
use Rattle.prelude.proofs.Ranges.{mem-range}

-- ---- voxels that touch

pub record Close (u v : Voxel) : Type 0 where
  pub x-up : v.x ≤ suc u.x
  pub x-down : u.x ≤ suc v.x
  pub y-up : v.y ≤ suc u.y
  pub y-down : u.y ≤ suc v.y
  pub z-up : v.z ≤ suc u.z
  pub z-down : u.z ≤ suc v.z

gap-one : (p q : ℕ) → leb (gap p q) 1 ≡ true → (q ≤ suc p) × (p ≤ suc q)
unfolding gap
gap-one p q e = let h : p - q + (q - p) ≤ 1 = leb-true (p - q + (q - p)) 1 e in (omega arith, omega arith)

one-gap : (p q : ℕ) → q ≤ suc p → p ≤ suc q → leb (gap p q) 1 ≡ true
unfolding gap
one-gap p q h k = le-leb (p - q + (q - p)) 1 (omega arith)

pub near-close : (u v : Voxel) → near u v ≡ true → Close u v
unfolding near
near-close u v e =
    let r = and-true (leb (gap u.x v.x) 1) (leb (gap u.y v.y) 1 && leb (gap u.z v.z) 1) e in
    let t = and-true (leb (gap u.y v.y) 1) (leb (gap u.z v.z) 1) r.1 in
    let x = gap-one u.x v.x r.0 in
    let y = gap-one u.y v.y t.0 in
    let z = gap-one u.z v.z t.1 in
    record { x-up = x.0; x-down = x.1; y-up = y.0; y-down = y.1; z-up = z.0; z-down = z.1 }

pub close-near : (u v : Voxel) → Close u v → near u v ≡ true
unfolding near
close-near u v h =
    true-and (leb (gap u.x v.x) 1) (leb (gap u.y v.y) 1 && leb (gap u.z v.z) 1) (one-gap u.x v.x h.x-up h.x-down) (
    true-and (leb (gap u.y v.y) 1) (leb (gap u.z v.z) 1) (one-gap u.y v.y h.y-up h.y-down)
    (one-gap u.z v.z h.z-up h.z-down))

pub touch-close : (s : Sides) (i j : ℕ) → touch s i j ≡ true → Close (voxel s i) (voxel s j)
unfolding touch
touch-close s i j e = near-close (voxel s i) (voxel s j) e

pub close-touch : (s : Sides) (i j : ℕ) → Close (voxel s i) (voxel s j) → touch s i j ≡ true
unfolding touch
close-touch s i j h = close-near (voxel s i) (voxel s j) h

-- ---- the voxel v stands at the place p of the block around u

pub record At (u v : Voxel) (p : ℕ) : Type 0 where
  pub low : p < 27
  pub x-at : suc v.x ≡ u.x + p % 3
  pub y-at : suc v.y ≡ u.y + p / 3 % 3
  pub z-at : suc v.z ≡ u.z + p / 9

pub at_same : (u v w : Voxel) (p : ℕ) → At u v p → At u w p → v ≡ w
at_same u v w p h k = voxel-eq v w (omega (arith, h.x-at, k.x-at)) (omega (arith, h.y-at, k.y-at)) (omega (arith, h.z-at, k.z-at))

pub at-middle : (u : Voxel) (p : ℕ) → At u u p → p ≡ 13
at-middle u p h = omega (arith, h.x-at, h.y-at, h.z-at)

digits : (a b c : ℕ) → a ≤ 2 → b ≤ 2 → c ≤ 2
    → let p : ℕ = a + 3 * b + 9 * c in (p % 3 ≡ a) × (p / 3 % 3 ≡ b) × (p / 9 ≡ c) × (p < 27)
digits a b c ha hb hc = (omega arith, omega arith, omega arith, omega arith)

pub close_at : (u v : Voxel) → Close u v → (p : ℕ) × (At u v p)
close_at u v h =
    let a : ℕ = suc v.x - u.x in
    let b : ℕ = suc v.y - u.y in
    let c : ℕ = suc v.z - u.z in
    let d = digits a b c (omega (arith, h.x-up)) (omega (arith, h.y-up)) (omega (arith, h.z-up)) in (
      a + 3 * b + 9 * c,
      record {
        low = d.3;
        x-at = omega (arith, d.0, h.x-down);
        y-at = omega (arith, d.1, h.y-down);
        z-at = omega (arith, d.2, h.z-down);
      },
    )

-- ---- a voxel of the grid that is not on the border

pub record Inner (s : Sides) (u : Voxel) : Type 0 where
  pub x-low : 1 ≤ u.x
  pub x-high : suc u.x < s.a
  pub y-low : 1 ≤ u.y
  pub y-high : suc u.y < s.b
  pub z-low : 1 ≤ u.z
  pub z-high : suc u.z < s.c

pub inner-in : (s : Sides) (u : Voxel) → Inner s u → InGrid s u
inner-in s u h = record { x-in = omega (arith, h.x-high); y-in = omega (arith, h.y-high); z-in = omega (arith, h.z-high) }

pub neighbour-at : (s : Sides) (u : Voxel) → Inner s u → (p : ℕ) → p < 27 → (At u (neighbour u p) p) × (InGrid s (neighbour u p))
neighbour-at s u h p l = (
  record { low = l; x-at = omega (arith, h.x-low); y-at = omega (arith, h.y-low); z-at = omega (arith, h.z-low) },
  record { x-in = omega (arith, h.x-high); y-in = omega (arith, h.y-high); z-in = omega (arith, h.z-high) },
)

reaches-inner : (side x d : ℕ) → 1 ≤ x → suc x < side → d ≤ 2 → reaches side x d ≡ true
reaches-inner side x d h k l = true-and (leb 1 (x + d)) (leb (x + d) side) (le-leb 1 (x + d) (omega arith)) (le-leb (x + d) side (omega arith))

-- the block reads the voxel at each place
pub neighbourhood-at : (s : Sides) (found : ℕ → Bool) (u v : Voxel) (p : ℕ) → Inner s u → At u v p → neighbourhood_of s found u p ≡ found (index s v)
unfolding neighbourhood_of
neighbourhood-at s found u v p h k =
    let l = k.low in
    ap₂ ◌&&◌ (reaches-inner s.a u.x (p % 3) h.x-low h.x-high (omega arith)) (
    ap₂ ◌&&◌ (reaches-inner s.b u.y (p / 3 % 3) h.y-low h.y-high (omega arith)) (
    ap₂ ◌&&◌ (reaches-inner s.c u.z (p / 9) h.z-low h.z-high (omega arith))
    (ap (λ (w : Voxel). found (index s w)) (at_same u (neighbour u p) v p (neighbour-at s u h p l).0 k))))

-- ---- the 26 places

pub place-low : (p : ℕ) → Mem p positions → (p < 27) × (p ≢ 13)
unfolding any
place-low p m =
    let h = or-false (leb 27 p) (eqb p 13) (any_false (λ q. leb 27 q || eqb q 13) positions refl p m) in
    (leb-false 27 p h.0, eqb-false p 13 h.1)

pub low-place : (p : ℕ) → p < 27 → p ≢ 13 → Mem p positions
unfolding filter range
low-place p h n =
    mem-filter (λ q. not (eqb q 13)) (range 0 27) p (mem-range 0 27 p (omega arith) (omega arith)) (ap not (ne_eqb p 13 n))

-- a voxel other than the middle one stands at one of them
pub at_place : (u v : Voxel) (p : ℕ) → At u v p → u ≢ v → Mem p positions
at_place u v p h n = low-place p h.low (λ e. n (at_same u u v p (middle e) h))
  where
    middle : p ≡ 13 → At u u p
    middle e = record { low = h.low; x-at = omega arith; y-at = omega arith; z-at = omega arith }

-- ---- the voxel v, in the block around u, contains the cell c

pub record Contains (u : Voxel) (c : ℕ) (v : Voxel) : Type 0 where
  pub place : ℕ
  pub at : At u v place
  pub has : contains place c ≡ true

pub contains-spans : (p c : ℕ) → contains p c ≡ true → (spans (p % 3) (c % 3) ≡ true) × (spans (p / 3 % 3) (c / 3 % 3) ≡ true) × (spans (p / 9) (c / 9) ≡ true)
unfolding contains
contains-spans p c e =
    let r = and-true (spans (p % 3) (c % 3)) (spans (p / 3 % 3) (c / 3 % 3) && spans (p / 9) (c / 9)) e in
    let t = and-true (spans (p / 3 % 3) (c / 3 % 3)) (spans (p / 9) (c / 9)) r.1 in
    (r.0, t.0, t.1)

pub spans-contains : (p c : ℕ) → spans (p % 3) (c % 3) ≡ true → spans (p / 3 % 3) (c / 3 % 3) ≡ true → spans (p / 9) (c / 9) ≡ true → contains p c ≡ true
unfolding contains
spans-contains p c f g h =
    true-and (spans (p % 3) (c % 3)) (spans (p / 3 % 3) (c / 3 % 3) && spans (p / 9) (c / 9)) f
    (true-and (spans (p / 3 % 3) (c / 3 % 3)) (spans (p / 9) (c / 9)) g h)

-- along an axis: two voxels of the block with the same piece
spans-close : (a b c : ℕ) → a ≤ 2 → b ≤ 2 → spans a c ≡ true → spans b c ≡ true → b ≤ suc a
spans-close a b c ha hb e f = go (or-true (eqb a 1) (eqb a c) e) (or-true (eqb b 1) (eqb b c) f)
  where
    go : (eqb a 1 ≡ true) ⊎ (eqb a c ≡ true) → (eqb b 1 ≡ true) ⊎ (eqb b c ≡ true) → b ≤ suc a
    go (inl p) q = omega (arith, eqb-true a 1 p)
    go (inr p) (inl q) = omega (arith, eqb-true b 1 q)
    go (inr p) (inr q) = omega (arith, eqb-true a c p, eqb-true b c q)

pub contains-close : (u : Voxel) (c : ℕ) (v w : Voxel) → Contains u c v → Contains u c w → Close v w
contains-close u c v w h k =
    let p = h.place in
    let q = k.place in
    let a = h.at in
    let b = k.at in
    let e = contains-spans p c h.has in
    let f = contains-spans q c k.has in
    record {
      x-up = omega (arith, spans-close (p % 3) (q % 3) (c % 3) (omega arith) (omega arith) e.0 f.0);
      x-down = omega (arith, spans-close (q % 3) (p % 3) (c % 3) (omega arith) (omega arith) f.0 e.0);
      y-up = omega (arith, spans-close (p / 3 % 3) (q / 3 % 3) (c / 3 % 3) (omega arith) (omega arith) e.1 f.1);
      y-down = omega (arith, spans-close (q / 3 % 3) (p / 3 % 3) (c / 3 % 3) (omega arith) (omega arith) f.1 e.1);
      z-up = omega (arith, spans-close (p / 9) (q / 9) (c / 9) (omega arith) (omega arith) e.2 f.2);
      z-down = omega (arith, spans-close (q / 9) (p / 9) (c / 9) (omega arith) (omega arith) f.2 e.2);
    }

-- a voxel that contains a cell contains the cells on its border
pub contains-border : (u : Voxel) (c d : ℕ) (v : Voxel) → contains c d ≡ true → Contains u c v → Contains u d v
contains-border u c d v e h = record { place = h.place; at = h.at; has = contains-trans h.place c d h.has e }
