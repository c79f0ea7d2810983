-- A voxel of the box has a face neighbour outside it exactly at an end of the box.
use mathlib.Core.Path.{◌≡◌, refl, sym, ap, ap₂, ◌∙◌}
use mathlib.Core.Logic.{inl, inr}
use mathlib.Core.Bool.{Bool, true, false, not, ◌&&◌, ◌||◌}
use Prim.Native.Nat.{ℕ, suc, ◌+◌, ◌-◌, ◌/◌, ◌%◌, ◌≤◌, ◌<◌}
use native.Mathlib.Omega.{arith}
use lib.Dec.{eqb, leb}
use borrow.Author.Tests.{eqb-true, eqb-false, le-leb, leb-true, lt-leb}
use Rattle.cells.specs.Groups.{any}
use Rattle.prelude.proofs.Bools.{two, and-true, true-and, both_ways, or-zero, and_one}
use Rattle.rules.specs.declared.Sides.{Sides}
use Rattle.rules.specs.Grid.{Voxel, size, index, voxel, reaches, neighbour, neighbourhood_of, neighbourhood}
use Rattle.rules.specs.Begin.{exposed}
use Rattle.rules.proofs.Places.{InGrid, voxel-index, index-lt}
use Rattle.bounding_box.specs.declared.Bounds.{Bounds}
use Rattle.bounding_box.specs.Bounds.{Proper, reach, within, on_side}

-- along one axis, a neighbour at this digit is still in the box
stays : ℕ → ℕ → ℕ → ℕ → Bool
stays low high x digit = leb (suc low) (x + digit) && leb (x + digit) (suc high)

stays-low : (low high x : ℕ) → low ≤ x → x ≤ high → not (stays low high x 0) ≡ eqb x low
unfolding stays
stays-low low high x h k =
    elim (two (eqb x low)) [
      | inl e ↦ let q = eqb-true x low e in rw (e, lt-leb (suc low) (x + 0) (omega arith))
      | inr e ↦ let q = eqb-false x low e in rw (e, le-leb (suc low) (x + 0) (omega arith), le-leb (x + 0) (suc high) (omega arith))
    ]

stays_same : (low high x : ℕ) → low ≤ x → x ≤ high → stays low high x 1 ≡ true
unfolding stays
stays_same low high x h k = rw (le-leb (suc low) (x + 1) (omega arith), le-leb (x + 1) (suc high) (omega arith))

stays-high : (low high x : ℕ) → low ≤ x → x ≤ high → not (stays low high x 2) ≡ eqb x high
unfolding stays
stays-high low high x h k =
    elim (two (eqb x high)) [
      | inl e ↦ let q = eqb-true x high e in rw (e, le-leb (suc low) (x + 2) (omega arith), lt-leb (x + 2) (suc high) (omega arith))
      | inr e ↦ let q = eqb-false x high e in rw (e, le-leb (suc low) (x + 2) (omega arith), le-leb (x + 2) (suc high) (omega arith))
    ]

-- along one axis: a neighbour in the grid and in the box
reach-stays : (side low high x digit : ℕ) → reaches side x digit ≡ true → reach low high (x + digit - 1) ≡ true
    → stays low high x digit ≡ true
unfolding stays
reach-stays side low high x digit r e =
    let p = and-true (leb 1 (x + digit)) (leb (x + digit) side) r in
    let q = and-true (leb low (x + digit - 1)) (leb (x + digit - 1) high) e in
    let a = leb-true 1 (x + digit) p.0 in
    let b = leb-true low (x + digit - 1) q.0 in
    let c = leb-true (x + digit - 1) high q.1 in
    true-and (leb (suc low) (x + digit)) (leb (x + digit) (suc high))
    (le-leb (suc low) (x + digit) (omega arith)) (le-leb (x + digit) (suc high) (omega arith))

stays-reach : (side low high x digit : ℕ) → high < side → stays low high x digit ≡ true
    → (reaches side x digit ≡ true) × (reach low high (x + digit - 1) ≡ true) × (x + digit - 1 < side)
unfolding stays
stays-reach side low high x digit h e =
    let p = and-true (leb (suc low) (x + digit)) (leb (x + digit) (suc high)) e in
    let a = leb-true (suc low) (x + digit) p.0 in
    let b = leb-true (x + digit) (suc high) p.1 in (
      true-and (leb 1 (x + digit)) (leb (x + digit) side) (le-leb 1 (x + digit) (omega arith)) (le-leb (x + digit) side (omega arith)),
      true-and (leb low (x + digit - 1)) (leb (x + digit - 1) high)
          (le-leb low (x + digit - 1) (omega arith)) (le-leb (x + digit - 1) high (omega arith)),
      omega arith,
    )

abbrev around : Sides → Bounds → ℕ → ℕ → Bool
around s b i p =
    stays b.x0 b.x1 (voxel s i).x (p % 3)
    && (stays b.y0 b.y1 (voxel s i).y (p / 3 % 3) && stays b.z0 b.z1 (voxel s i).z (p / 9))

module _ (s : Sides) (b : Bounds) (I : Proper s b) (kept : ℕ → Bool) (is : (j : ℕ) → j < size s → kept j ≡ within b (voxel s j)) (i p : ℕ) where
  -- a neighbour in the grid has its own index
  found_within : InGrid s (neighbour (voxel s i) p) → kept (index s (neighbour (voxel s i) p)) ≡ within b (neighbour (voxel s i) p)
  found_within g =
      let n = neighbour (voxel s i) p in
      is (index s n) (index-lt s n g) ∙ ap (within b) (voxel-index s n g.x-in g.y-in)

  on : neighbourhood s kept i p ≡ true → around s b i p ≡ true
  unfolding neighbourhood neighbourhood_of within
  on e =
      let v = voxel s i in
      let n = neighbour v p in
      let rx = reaches s.a v.x (p % 3) in
      let ry = reaches s.b v.y (p / 3 % 3) in
      let rz = reaches s.c v.z (p / 9) in
      let f = kept (index s n) in
      let e1 = and-true rx (ry && (rz && f)) e in
      let e2 = and-true ry (rz && f) e1.1 in
      let e3 = and-true rz f e2.1 in
      let g : InGrid s n =
      record {
        x-in = grid s.a v.x (p % 3) e1.0;
        y-in = grid s.b v.y (p / 3 % 3) e2.0;
        z-in = grid s.c v.z (p / 9) e3.0;
      } in
      let w = sym (found_within g) ∙ e3.1 in
      let w1 = and-true (reach b.x0 b.x1 n.x) (reach b.y0 b.y1 n.y && reach b.z0 b.z1 n.z) w in
      let w2 = and-true (reach b.y0 b.y1 n.y) (reach b.z0 b.z1 n.z) w1.1 in
      true-and _ _ (reach-stays s.a b.x0 b.x1 v.x (p % 3) e1.0 w1.0)
      (true-and _ _ (reach-stays s.b b.y0 b.y1 v.y (p / 3 % 3) e2.0 w2.0)
      (reach-stays s.c b.z0 b.z1 v.z (p / 9) e3.0 w2.1))
    where
      grid : (side x digit : ℕ) → reaches side x digit ≡ true → x + digit - 1 < side
      grid side x digit r =
          let q = and-true (leb 1 (x + digit)) (leb (x + digit) side) r in
          let l = leb-true 1 (x + digit) q.0 in
          let h = leb-true (x + digit) side q.1 in
          omega arith

  off : around s b i p ≡ true → neighbourhood s kept i p ≡ true
  unfolding neighbourhood neighbourhood_of within
  off e =
      let v = voxel s i in
      let n = neighbour v p in
      let sx = stays b.x0 b.x1 v.x (p % 3) in
      let sy = stays b.y0 b.y1 v.y (p / 3 % 3) in
      let sz = stays b.z0 b.z1 v.z (p / 9) in
      let e1 = and-true sx (sy && sz) e in
      let e2 = and-true sy sz e1.1 in
      let x = stays-reach s.a b.x0 b.x1 v.x (p % 3) I.x-in e1.0 in
      let y = stays-reach s.b b.y0 b.y1 v.y (p / 3 % 3) I.y-in e2.0 in
      let z = stays-reach s.c b.z0 b.z1 v.z (p / 9) I.z-in e2.1 in
      let f = found_within (record { x-in = x.2; y-in = y.2; z-in = z.2 }) in
      let w =
      true-and (reach b.x0 b.x1 n.x) (reach b.y0 b.y1 n.y && reach b.z0 b.z1 n.z) x.1
      (true-and (reach b.y0 b.y1 n.y) (reach b.z0 b.z1 n.z) y.1 z.1) in
      true-and (reaches s.a v.x (p % 3)) (reaches s.b v.y (p / 3 % 3) && (reaches s.c v.z (p / 9) && kept (index s n)))
      x.0
      (true-and (reaches s.b v.y (p / 3 % 3)) (reaches s.c v.z (p / 9) && kept (index s n)) y.0
      (true-and (reaches s.c v.z (p / 9)) (kept (index s n)) z.0 (f ∙ w)))

  neighbourhood-around : neighbourhood s kept i p ≡ around s b i p
  neighbourhood-around = both_ways (neighbourhood s kept i p) (around s b i p) on off

ends : (low high p : ℕ) → reach low high p ≡ true → (low ≤ p) × (p ≤ high)
ends low high p e = let q = and-true (leb low p) (leb p high) e in (leb-true low p q.0, leb-true p high q.1)

-- a voxel of the box is exposed exactly at an end of the box
module _ (s : Sides) (b : Bounds) (I : Proper s b) (kept : ℕ → Bool) (is : (j : ℕ) → j < size s → kept j ≡ within b (voxel s j)) (i : ℕ)
    (in-box : within b (voxel s i) ≡ true) where
  v : Voxel
  v = voxel s i

  x-bounds : (b.x0 ≤ v.x) × (v.x ≤ b.x1)
  unfolding v within
  x-bounds =
      let e = (and-true (reach b.x0 b.x1 v.x) (reach b.y0 b.y1 v.y && reach b.z0 b.z1 v.z) in-box).0 in
      ends b.x0 b.x1 v.x e

  y-bounds : (b.y0 ≤ v.y) × (v.y ≤ b.y1)
  unfolding v within
  y-bounds =
      let e = (and-true (reach b.x0 b.x1 v.x) (reach b.y0 b.y1 v.y && reach b.z0 b.z1 v.z) in-box).1 in
      ends b.y0 b.y1 v.y (and-true (reach b.y0 b.y1 v.y) (reach b.z0 b.z1 v.z) e).0

  z-bounds : (b.z0 ≤ v.z) × (v.z ≤ b.z1)
  unfolding v within
  z-bounds =
      let e = (and-true (reach b.x0 b.x1 v.x) (reach b.y0 b.y1 v.y && reach b.z0 b.z1 v.z) in-box).1 in
      ends b.z0 b.z1 v.z (and-true (reach b.y0 b.y1 v.y) (reach b.z0 b.z1 v.z) e).1

  same-x : stays b.x0 b.x1 v.x 1 ≡ true
  same-x = stays_same b.x0 b.x1 v.x x-bounds.0 x-bounds.1

  same-y : stays b.y0 b.y1 v.y 1 ≡ true
  same-y = stays_same b.y0 b.y1 v.y y-bounds.0 y-bounds.1

  same-z : stays b.z0 b.z1 v.z 1 ≡ true
  same-z = stays_same b.z0 b.z1 v.z z-bounds.0 z-bounds.1

  -- one step along x, along y, along z
  along-x : (p digit : ℕ) → p % 3 ≡ digit → p / 3 % 3 ≡ 1 → p / 9 ≡ 1 → neighbourhood s kept i p ≡ stays b.x0 b.x1 v.x digit
  unfolding v
  along-x p digit e f g =
      neighbourhood-around s b I kept is i p
      ∙ ap₂ ◌&&◌ (ap (stays b.x0 b.x1 v.x) e)
      (ap₂ ◌&&◌ (ap (stays b.y0 b.y1 v.y) f ∙ same-y) (ap (stays b.z0 b.z1 v.z) g ∙ same-z))
      ∙ and_one (stays b.x0 b.x1 v.x digit)

  along-y : (p digit : ℕ) → p % 3 ≡ 1 → p / 3 % 3 ≡ digit → p / 9 ≡ 1 → neighbourhood s kept i p ≡ stays b.y0 b.y1 v.y digit
  unfolding v
  along-y p digit e f g =
      neighbourhood-around s b I kept is i p
      ∙ ap₂ ◌&&◌ (ap (stays b.x0 b.x1 v.x) e ∙ same-x)
      (ap₂ ◌&&◌ (ap (stays b.y0 b.y1 v.y) f) (ap (stays b.z0 b.z1 v.z) g ∙ same-z))
      ∙ and_one (stays b.y0 b.y1 v.y digit)

  along-z : (p digit : ℕ) → p % 3 ≡ 1 → p / 3 % 3 ≡ 1 → p / 9 ≡ digit → neighbourhood s kept i p ≡ stays b.z0 b.z1 v.z digit
  unfolding v
  along-z p digit e f g =
      neighbourhood-around s b I kept is i p
      ∙ ap₂ ◌&&◌ (ap (stays b.x0 b.x1 v.x) e ∙ same-x)
      (ap₂ ◌&&◌ (ap (stays b.y0 b.y1 v.y) f ∙ same-y) (ap (stays b.z0 b.z1 v.z) g))

  pub exposed-side : exposed s kept i ≡ on_side b (voxel s i)
  unfolding exposed any on_side v
  exposed-side =
      let x = x-bounds in
      let y = y-bounds in
      let z = z-bounds in
      ap₂ ◌||◌ (ap not (along-z 4 0 refl refl refl) ∙ stays-low b.z0 b.z1 v.z z.0 z.1)
      (ap₂ ◌||◌ (ap not (along-y 10 0 refl refl refl) ∙ stays-low b.y0 b.y1 v.y y.0 y.1)
      (ap₂ ◌||◌ (ap not (along-x 12 0 refl refl refl) ∙ stays-low b.x0 b.x1 v.x x.0 x.1)
      (ap₂ ◌||◌ (ap not (along-x 14 2 refl refl refl) ∙ stays-high b.x0 b.x1 v.x x.0 x.1)
      (ap₂ ◌||◌ (ap not (along-y 16 2 refl refl refl) ∙ stays-high b.y0 b.y1 v.y y.0 y.1)
      (ap (λ (t : Bool). t || false) (ap not (along-z 22 2 refl refl refl) ∙ stays-high b.z0 b.z1 v.z z.0 z.1)
      ∙ or-zero (eqb v.z b.z1))))))
