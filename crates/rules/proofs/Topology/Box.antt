-- A solid box inside the grid: its voxels by index, and the shape of this body: in one piece, and so is the rest of the grid.
use mathlib.Core.Path.{◌≡◌, refl, ap, ap₂, sym, ◌∙◌, subst, fun_ext}
use mathlib.Core.Logic.{◌⊎◌, inl, inr}
use mathlib.Core.Bool.{Bool, true, false, not, ◌&&◌}
use Prim.Native.Nat.{ℕ, zero, suc, ◌+◌, ◌-◌, ◌≤◌, ◌<◌}
use native.Mathlib.Omega.{arith}
use lib.Dec.{ltb, eqb}
use lib.IntN.{pos}
use borrow.Author.Tests.{ltb-true, lt-ltb, eq-eqb}
use Rattle.cells.specs.Linked.{Linked, stay, step, OnePiece}
use Rattle.prelude.proofs.Bools.{and-true, true-and, and_zero, and-false, both_ways, not-true}
use Rattle.cells.proofs.Chains.{append, before, reverse, carry}
use Rattle.rules.specs.declared.Sides.{Sides}
use Rattle.rules.specs.Grid.{Voxel, index, voxel, size, gap, near, touch, apart, taxicab, share_face}
use Rattle.rules.specs.Body.{body_of, euler_of}
use Rattle.rules.proofs.Places.{InGrid, voxel-eq, voxel-index, index-voxel, index-lt, voxel-in}
use Rattle.rules.proofs.Inside.{touch-back}
use Rattle.rules.proofs.Topology.Around.{close-near}
use Rattle.rules.proofs.Topology.Surface.{body-true, body-in}
use Rattle.rules.proofs.Topology.Removal.{AllInner, background, face-turn}
use Rattle.rules.proofs.Topology.Moves.{Shape}
use Rattle.rules.proofs.Topology.BoxCells.{among, among_in, in-among, among_below, Bounds, box, euler-box}

-- the box holds a voxel, and none on the border
pub record Fits (s : Sides) (b : Bounds) : Type 0 where
  pub x-low : 1 ≤ b.x0
  pub x-some : b.x0 ≤ b.x1
  pub x-high : suc b.x1 < s.a
  pub y-low : 1 ≤ b.y0
  pub y-some : b.y0 ≤ b.y1
  pub y-high : suc b.y1 < s.b
  pub z-low : 1 ≤ b.z0
  pub z-some : b.z0 ≤ b.z1
  pub z-high : suc b.z1 < s.c

abbrev pub inside-box : Bounds → Voxel → Bool
inside-box b v = box b v.x v.y v.z

-- its voxels, by index
unfoldable pub boxed : Sides → Bounds → ℕ → Bool
boxed s b i = ltb i (size s) && inside-box b (voxel s i)

pub record InBounds (b : Bounds) (v : Voxel) : Type 0 where
  pub x-from : b.x0 ≤ v.x
  pub x-to : v.x ≤ b.x1
  pub y-from : b.y0 ≤ v.y
  pub y-to : v.y ≤ b.y1
  pub z-from : b.z0 ≤ v.z
  pub z-to : v.z ≤ b.z1

in_bounds : (b : Bounds) (v : Voxel) → inside-box b v ≡ true → InBounds b v
unfolding box
in_bounds b v e =
    let p = and-true (among b.x0 b.x1 v.x) (among b.y0 b.y1 v.y && among b.z0 b.z1 v.z) e in
    let q = and-true (among b.y0 b.y1 v.y) (among b.z0 b.z1 v.z) p.1 in
    let x = in-among b.x0 b.x1 v.x p.0 in
    let y = in-among b.y0 b.y1 v.y q.0 in
    let z = in-among b.z0 b.z1 v.z q.1 in
    record { x-from = x.0; x-to = x.1; y-from = y.0; y-to = y.1; z-from = z.0; z-to = z.1 }

bounds-in : (b : Bounds) (v : Voxel) → InBounds b v → inside-box b v ≡ true
unfolding box
bounds-in b v h =
    ap₂ ◌&&◌ (among_in b.x0 b.x1 v.x h.x-from h.x-to) (
    ap₂ ◌&&◌ (among_in b.y0 b.y1 v.y h.y-from h.y-to) (among_in b.z0 b.z1 v.z h.z-from h.z-to))

module _ (s : Sides) (b : Bounds) (fits : Fits s b) where
  index-of : (i : ℕ) → index s (voxel s i) ≡ i
  index-of i = index-voxel s i (omega (arith, fits.x-high)) (omega (arith, fits.y-high))

  voxel-of : (v : Voxel) → InGrid s v → voxel s (index s v) ≡ v
  voxel-of v g = voxel-index s v g.x-in g.y-in

  inside-grid : (v : Voxel) → inside-box b v ≡ true → InGrid s v
  inside-grid v e =
      let h = in_bounds b v e in
      record { x-in = omega (arith, h.x-to, fits.x-high); y-in = omega (arith, h.y-to, fits.y-high); z-in = omega (arith, h.z-to, fits.z-high) }

  boxed-index : (v : Voxel) → InGrid s v → boxed s b (index s v) ≡ inside-box b v
  unfolding boxed
  boxed-index v g = ap₂ ◌&&◌ (lt-ltb (index s v) (size s) (index-lt s v g)) (ap (inside-box b) (voxel-of v g))

  boxed-inner : AllInner s (boxed s b)
  unfolding boxed
  boxed-inner j e =
      let r = and-true (ltb j (size s)) (inside-box b (voxel s j)) e in
      let h = in_bounds b (voxel s j) r.1 in (
        ltb-true j (size s) r.0,
        record {
          x-low = omega (arith, h.x-from, fits.x-low);
          x-high = omega (arith, h.x-to, fits.x-high);
          y-low = omega (arith, h.y-from, fits.y-low);
          y-high = omega (arith, h.y-to, fits.y-high);
          z-low = omega (arith, h.z-from, fits.z-low);
          z-high = omega (arith, h.z-to, fits.z-high);
        },
      )

  -- ---- the Euler number

  body-box : body_of s (boxed s b) ≡ box b
  body-box = fun_ext (λ x. fun_ext (λ y. fun_ext (λ z. same (record { x = x; y = y; z = z }))))
    where
      same : (v : Voxel) → body_of s (boxed s b) v.x v.y v.z ≡ inside-box b v
      same v =
          both_ways (body_of s (boxed s b) v.x v.y v.z) (inside-box b v)
          (λ e. let r = body-true s (boxed s b) v e in sym (boxed-index v r.0) ∙ r.1)
          (λ e. let g = inside-grid v e in body-in s (boxed s b) v g ∙ boxed-index v g ∙ e)

  boxed-euler : euler_of s (body_of s (boxed s b)) ≡ pos 1
  boxed-euler =
      ap (euler_of s) body-box
      ∙ euler-box s b fits.x-some (omega (arith, fits.x-high)) fits.y-some (omega (arith, fits.y-high)) fits.z-some (omega (arith, fits.z-high))

  -- ---- the body is in one piece: each voxel is linked to the box's lowest

  lowest : Voxel
  lowest = record { x = b.x0; y = b.y0; z = b.z0 }

  -- so many steps down along each axis
  slide : (d e f : ℕ) (v : Voxel) → InBounds b v → v.x ≡ d + b.x0 → v.y ≡ e + b.y0 → v.z ≡ f + b.z0 → Linked (inside-box b) near v lowest
  unfolding lowest
  slide zero zero zero v h i j k =
      subst (Linked (inside-box b) near v) (voxel-eq v lowest (omega arith) (omega arith) (omega arith)) (stay (bounds-in b v h))
  slide (suc d) e f v h i j k =
      let w : Voxel = record { x = d + b.x0; y = v.y; z = v.z } in
      before (bounds-in b v h) (close-near v w (omega arith)) (slide d e f w (omega (arith, h)) refl j k)
  slide zero (suc e) f v h i j k =
      let w : Voxel = record { x = v.x; y = e + b.y0; z = v.z } in
      before (bounds-in b v h) (close-near v w (omega arith)) (slide zero e f w (omega (arith, h)) i refl k)
  slide zero zero (suc f) v h i j k =
      let w : Voxel = record { x = v.x; y = v.y; z = f + b.z0 } in
      before (bounds-in b v h) (close-near v w (omega arith)) (slide zero zero f w (omega (arith, h)) i j refl)

  to-lowest : (i : ℕ) → boxed s b i ≡ true → Linked (boxed s b) (touch s) i (index s lowest)
  unfolding boxed touch
  to-lowest i e =
      let v = voxel s i in
      let r = (and-true (ltb i (size s)) (inside-box b v) e).1 in
      let h = in_bounds b v r in
      subst (λ (j : ℕ). Linked (boxed s b) (touch s) j (index s lowest)) (index-of i) (
      carry (index s) (λ u m. boxed-index u (inside-grid u m) ∙ m)
      (λ u w m n t. ap₂ near (voxel-of u (inside-grid u m)) (voxel-of w (inside-grid w n)) ∙ t)
      (slide (v.x - b.x0) (v.y - b.y0) (v.z - b.z0) v h (omega (arith, h.x-from)) (omega (arith, h.y-from)) (omega (arith, h.z-from))))

  boxed-one-piece : OnePiece (boxed s b) (touch s)
  boxed-one-piece i j e f = append (to-lowest i e) (reverse (touch-back s) (to-lowest j f))

  -- ---- the background is in one piece: each of its voxels is linked to the grid's first

  outside : Voxel → Bool
  outside v = body_of s (background s (boxed s b)) v.x v.y v.z

  beside : Voxel → Voxel → Bool
  beside u v = eqb (apart u v) 1

  Out : Voxel → Type 0
  Out v = (among b.x0 b.x1 v.x ≡ false) ⊎ ((among b.y0 b.y1 v.y ≡ false) ⊎ (among b.z0 b.z1 v.z ≡ false))

  out-inside : (v : Voxel) → Out v → inside-box b v ≡ false
  unfolding box Out
  out-inside v (inl e) = ap (λ (t : Bool). t && (among b.y0 b.y1 v.y && among b.z0 b.z1 v.z)) e
  out-inside v (inr (inl e)) =
      ap (λ (t : Bool). among b.x0 b.x1 v.x && (t && among b.z0 b.z1 v.z)) e ∙ and_zero (among b.x0 b.x1 v.x)
  out-inside v (inr (inr e)) =
      ap (λ (t : Bool). among b.x0 b.x1 v.x && (among b.y0 b.y1 v.y && t)) e
      ∙ ap (λ (t : Bool). among b.x0 b.x1 v.x && t) (and_zero (among b.y0 b.y1 v.y))
      ∙ and_zero (among b.x0 b.x1 v.x)

  inside-out : (v : Voxel) → inside-box b v ≡ false → Out v
  unfolding box Out
  inside-out v e =
      elim (and-false (among b.x0 b.x1 v.x) (among b.y0 b.y1 v.y && among b.z0 b.z1 v.z) e) [
        | inl h ↦ inl h
        | inr h ↦ inr (and-false (among b.y0 b.y1 v.y) (among b.z0 b.z1 v.z) h)
      ]

  out-outside : (v : Voxel) → InGrid s v → Out v → outside v ≡ true
  unfolding outside
  out-outside v g o =
      body-in s (background s (boxed s b)) v g
      ∙ true-and (ltb (index s v) (size s)) (not (boxed s b (index s v))) (lt-ltb (index s v) (size s) (index-lt s v g))
      (ap not (boxed-index v g ∙ out-inside v o))

  -- along an axis, from its first voxel
  walk : (f : ℕ → Voxel) → ((i : ℕ) → beside (f i) (f (suc i)) ≡ true) → (n : ℕ) → ((i : ℕ) → i ≤ n → outside (f i) ≡ true)
      → Linked outside beside (f 0) (f n)
  walk f next zero h = stay (h 0 (omega arith))
  walk f next (suc n) h = step (walk f next n (λ i l. h i (omega arith))) (next n) (h (suc n) (omega arith))

  vox : ℕ → ℕ → ℕ → Voxel
  vox x y z = record { x = x; y = y; z = z }

  next-x : (y z i : ℕ) → beside (vox i y z) (vox (suc i) y z) ≡ true
  unfolding beside vox apart gap
  next-x y z i = eq-eqb ((i - suc i) + (suc i - i) + ((y - y) + (y - y)) + ((z - z) + (z - z))) 1 (omega arith)

  next-y : (x z i : ℕ) → beside (vox x i z) (vox x (suc i) z) ≡ true
  unfolding beside vox apart gap
  next-y x z i = eq-eqb ((x - x) + (x - x) + ((i - suc i) + (suc i - i)) + ((z - z) + (z - z))) 1 (omega arith)

  next-z : (x y i : ℕ) → beside (vox x y i) (vox x y (suc i)) ≡ true
  unfolding beside vox apart gap
  next-z x y i = eq-eqb ((x - x) + (x - x) + ((y - y) + (y - y)) + ((i - suc i) + (suc i - i))) 1 (omega arith)

  -- round the box: a coordinate 0 is outside it
  from_first : (v : Voxel) → InGrid s v → Out v → Linked outside beside (vox 0 0 0) v
  unfolding vox Out
  from_first v g o = append up-z (go o)
    where
      at : (x y z : ℕ) → x ≤ v.x → y ≤ v.y → z ≤ v.z → Out (vox x y z) → outside (vox x y z) ≡ true
      at x y z hx hy hz o = out-outside (vox x y z) (record { x-in = omega (arith, g.x-in); y-in = omega (arith, g.y-in); z-in = omega (arith, g.z-in) }) o

      first-x : among b.x0 b.x1 0 ≡ false
      first-x = among_below b.x0 b.x1 0 fits.x-low

      first-y : among b.y0 b.y1 0 ≡ false
      first-y = among_below b.y0 b.y1 0 fits.y-low

      up-z : Linked outside beside (vox 0 0 0) (vox 0 0 v.z)
      up-z = walk (λ i. vox 0 0 i) (next-z 0 0) v.z (λ i l. at 0 0 i (omega arith) (omega arith) l (inl first-x))

      go : Out v → Linked outside beside (vox 0 0 v.z) v
      go (inl e) =
          append (walk (λ i. vox i 0 v.z) (next-x 0 v.z) v.x (λ i l. at i 0 v.z l (omega arith) (omega arith) (inr (inl first-y))))
          (walk (λ i. vox v.x i v.z) (next-y v.x v.z) v.y (λ i l. at v.x i v.z (omega arith) l (omega arith) (inl e)))
      go (inr o) =
          append (walk (λ i. vox 0 i v.z) (next-y 0 v.z) v.y (λ i l. at 0 i v.z (omega arith) l (omega arith) (inl first-x)))
          (walk (λ i. vox i v.y v.z) (next-x v.y v.z) v.x (λ i l. at i v.y v.z l (omega arith) (omega arith) (inr o)))

  from-origin : (i : ℕ) → background s (boxed s b) i ≡ true → Linked (background s (boxed s b)) (share_face s) (index s (vox 0 0 0)) i
  unfolding outside beside share_face taxicab
  from-origin i e =
      let r = and-true (ltb i (size s)) (not (boxed s b i)) e in
      let g = voxel-in s i (omega (arith, fits.x-high)) (omega (arith, fits.y-high)) (ltb-true i (size s) r.0) in
      let o : inside-box b (voxel s i) ≡ false = sym (boxed-index (voxel s i) g) ∙ ap (boxed s b) (index-of i) ∙ not-true (boxed s b i) r.1 in
      subst (λ (j : ℕ). Linked (background s (boxed s b)) (share_face s) (index s (vox 0 0 0)) j) (index-of i) (
      carry (index s) (λ u m. (body-true s (background s (boxed s b)) u m).1)
      (λ u w m n t.
      ap₂ (λ (u w : Voxel). eqb (apart u w) 1) (voxel-of u (body-true s (background s (boxed s b)) u m).0)
      (voxel-of w (body-true s (background s (boxed s b)) w n).0)
      ∙ t)
      (from_first (voxel s i) g (inside-out (voxel s i) o)))

  boxed-background : OnePiece (background s (boxed s b)) (share_face s)
  boxed-background i j e f = append (reverse (face-turn s) (from-origin i e)) (from-origin j f)

  pub boxed-shape : (opened : ℕ) → Shape s (boxed s b) opened (pos 1)
  boxed-shape opened = record { inner = boxed-inner; outside = boxed-background; counted = sym boxed-euler; unopened = λ _. (boxed-one-piece, refl) }
