-- The box of begin is the smallest that holds S, and lies off the grid's border where S does.
use mathlib.Core.Path.{◌≡◌, ap₂, subst}
use mathlib.Core.Logic.{◌⊎◌, inl, inr}
use mathlib.Core.Bool.{true, false, ◌&&◌, ◌||◌}
use mathlib.Core.List.{List, map}
use Prim.Native.Nat.{ℕ, suc, ◌≤◌, ◌<◌}
use native.Mathlib.Omega.{arith}
use lib.Dec.{leb, ltb, eqb}
use lib.IntN.{ℤ}
use borrow.Author.Tests.{leb-true, le-leb, eqb-false, ne_eqb}
use Rattle.cells.specs.Groups.{any}
use Rattle.prelude.proofs.Bools.{and-true, true-and, and-false, or-false, two, not-both}
use Rattle.prelude.proofs.Lists.{Mem, any_false}
use Rattle.rules.specs.declared.Sides.{Sides}
use Rattle.rules.specs.Grid.{size, voxel, voxels, end, on_border, measured_negative, value_at}
use Rattle.rules.specs.Begin.{least, greatest, is_in, inside, between, in_box}
use Rattle.rules.specs.Meaning.{Between, Boxed, BoxIsSmallest, BoxIsOffBorder}
use Rattle.rules.proofs.InsideLeast.{least-le, least-mem, le-greatest, greatest-is, mem-map, map-mem}
use Rattle.rules.proofs.Inside.{is_in-mem, mem-is_in, mem-voxels, negative-lt, inside-members}
use Rattle.rules.proofs.Distance.{voxel-inside}

-- ---- one axis

module _ (S : List ℕ) (coordinate : ℕ → ℕ) (side i : ℕ) where
  ps : List ℕ
  ps = map coordinate S

  in_between : coordinate i < side → between side ps (coordinate i) ≡ true → Between S coordinate i
  unfolding ps
  in_between h e =
      let r = and-true (leb (least side ps) (coordinate i)) (leb (coordinate i) (greatest 0 ps)) e in
      let l = leb-true (least side ps) (coordinate i) r.0 in
      let k = leb-true (coordinate i) (greatest 0 ps) r.1 in
      let low = map-mem coordinate S (least side ps) (least-mem side ps (omega arith)) in
      record {
        low = low.0;
        high = (top k low.0 low.1 (greatest-is 0 ps)).0;
        low-listed = mem-is_in S low.0 low.1;
        high-listed = mem-is_in S (top k low.0 low.1 (greatest-is 0 ps)).0 (top k low.0 low.1 (greatest-is 0 ps)).1;
        above_low = subst (λ (n : ℕ). n ≤ coordinate i) low.2 l;
        below-high = (top k low.0 low.1 (greatest-is 0 ps)).2;
      }
    where
      top : coordinate i ≤ greatest 0 ps → (j : ℕ) → Mem j S → (greatest 0 ps ≡ 0) ⊎ (Mem (greatest 0 ps) ps)
          → (k : ℕ) × (Mem k S) × (coordinate i ≤ coordinate k)
      top k j m (inl e) = (j, m, omega arith)
      top k j m (inr n) = let r = map-mem coordinate S (greatest 0 ps) n in (r.0, r.1, subst (λ (n : ℕ). coordinate i ≤ n) r.2 k)

  between_in : Between S coordinate i → between side ps (coordinate i) ≡ true
  unfolding ps
  between_in b =
      let low = least-le side ps (coordinate b.low) (mem-map coordinate S b.low (is_in-mem S b.low b.low-listed)) in
      let high = le-greatest 0 ps (coordinate b.high) (mem-map coordinate S b.high (is_in-mem S b.high b.high-listed)) in
      true-and (leb (least side ps) (coordinate i)) (leb (coordinate i) (greatest 0 ps))
      (le-leb (least side ps) (coordinate i) (omega (arith, b.above_low)))
      (le-leb (coordinate i) (greatest 0 ps) (omega (arith, b.below-high)))

  -- off both ends, where S is
  between-off : ((j : ℕ) → is_in S j ≡ true → coordinate j < side) → ((j : ℕ) → is_in S j ≡ true → end side (coordinate j) ≡ false)
      → Between S coordinate i → end side (coordinate i) ≡ false
  between-off within off b =
      let p = (or-false (eqb (coordinate b.low) 0) (eqb (suc (coordinate b.low)) side) (off b.low b.low-listed)).0 in
      let q = (or-false (eqb (coordinate b.high) 0) (eqb (suc (coordinate b.high)) side) (off b.high b.high-listed)).1 in
      let l = b.above_low in
      let h = b.below-high in
      let k = within b.high b.high-listed in
      ap₂ ◌||◌ (ne_eqb (coordinate i) 0 (λ e. eqb-false (coordinate b.low) 0 p (omega arith)))
      (ne_eqb (suc (coordinate i)) side (λ e. eqb-false (suc (coordinate b.high)) side q (omega arith)))

-- ---- the box

pub box-boxed : (s : Sides) (S : List ℕ) (i : ℕ) → i < size s → in_box s S i ≡ true → Boxed s S i
unfolding in_box ps
box-boxed s S i h e =
    let x : ℕ → ℕ = λ j. (voxel s j).x in
    let y : ℕ → ℕ = λ j. (voxel s j).y in
    let z : ℕ → ℕ = λ j. (voxel s j).z in
    let g = voxel-inside s i h in
    let p = and-true (between s.a (map x S) (x i)) (between s.b (map y S) (y i) && between s.c (map z S) (z i)) e in
    let q = and-true (between s.b (map y S) (y i)) (between s.c (map z S) (z i)) p.1 in
    record {
      along-x = in_between S x s.a i g.x-in p.0;
      along-y = in_between S y s.b i g.y-in q.0;
      along-z = in_between S z s.c i g.z-in q.1;
    }

pub boxed-box : (s : Sides) (S : List ℕ) (i : ℕ) → Boxed s S i → in_box s S i ≡ true
unfolding in_box ps
boxed-box s S i b =
    let x : ℕ → ℕ = λ j. (voxel s j).x in
    let y : ℕ → ℕ = λ j. (voxel s j).y in
    let z : ℕ → ℕ = λ j. (voxel s j).z in
    true-and (between s.a (map x S) (x i)) (between s.b (map y S) (y i) && between s.c (map z S) (z i)) (between_in S x s.a i b.along-x)
    (true-and (between s.b (map y S) (y i)) (between s.c (map z S) (z i)) (between_in S y s.b i b.along-y) (between_in S z s.c i b.along-z))

pub box-is-smallest : BoxIsSmallest
box-is-smallest s S i h = (box-boxed s S i h, boxed-box s S i)

-- S is in the box
pub in-box : (s : Sides) (S : List ℕ) (i : ℕ) → is_in S i ≡ true → in_box s S i ≡ true
in-box s S i m = boxed-box s S i (record { along-x = self (λ j. (voxel s j).x); along-y = self (λ j. (voxel s j).y); along-z = self (λ j. (voxel s j).z) })
  where
    self : (coordinate : ℕ → ℕ) → Between S coordinate i
    self coordinate = record { low = i; high = i; low-listed = m; high-listed = m; above_low = omega arith; below-high = omega arith }

-- ---- the border

-- off the border along each axis
border-off : (s : Sides) (i : ℕ) → on_border s i ≡ false
    → (end s.a (voxel s i).x ≡ false) × (end s.b (voxel s i).y ≡ false) × (end s.c (voxel s i).z ≡ false)
unfolding on_border
border-off s i e =
    let p = or-false (end s.a (voxel s i).x) (end s.b (voxel s i).y || end s.c (voxel s i).z) e in
    let q = or-false (end s.b (voxel s i).y) (end s.c (voxel s i).z) p.1 in
    (p.0, q.0, q.1)

pub box-off-border : (s : Sides) (S : List ℕ) → ((j : ℕ) → is_in S j ≡ true → j < size s)
    → ((j : ℕ) → is_in S j ≡ true → on_border s j ≡ false) → (i : ℕ) → i < size s → in_box s S i ≡ true → on_border s i ≡ false
unfolding on_border
box-off-border s S within off i h e =
    let b = box-boxed s S i h e in
    ap₂ ◌||◌
    (between-off S (λ j. (voxel s j).x) s.a i (λ j m. (voxel-inside s j (within j m)).x-in) (λ j m. (border-off s j (off j m)).0) b.along-x)
    (ap₂ ◌||◌
    (between-off S (λ j. (voxel s j).y) s.b i (λ j m. (voxel-inside s j (within j m)).y-in) (λ j m. (border-off s j (off j m)).1) b.along-y)
    (between-off S (λ j. (voxel s j).z) s.c i (λ j m. (voxel-inside s j (within j m)).z-in) (λ j m. (border-off s j (off j m)).2) b.along-z))

module _ (s : Sides) (values : List ℤ) (clear : (i : ℕ) → i < size s → on_border s i ≡ true → measured_negative (value_at values i) ≡ false) where
  pub inside-off-border : (i : ℕ) → is_in (inside s values) i ≡ true → on_border s i ≡ false
  inside-off-border i m =
      let n = inside-members s values i m in
      let q = (and-true (ltb i (size s)) (measured_negative (value_at values i)) n).1 in
      elim (two (on_border s i)) [ inl o ↦ not-both (measured_negative (value_at values i)) q (clear i (negative-lt s values i n) o) | inr o ↦ o ]

pub box-is-off-border : BoxIsOffBorder
box-is-off-border s values clear =
    box-off-border s (inside s values) (λ j m. negative-lt s values j (inside-members s values j m)) (inside-off-border s values clear)

-- begin's third check
pub checked-border : (s : Sides) (values : List ℤ) → any (λ i. on_border s i && measured_negative (value_at values i)) (voxels s) ≡ false
    → (i : ℕ) → i < size s → on_border s i ≡ true → measured_negative (value_at values i) ≡ false
checked-border s values none i h o =
    let f = any_false (λ i. on_border s i && measured_negative (value_at values i)) (voxels s) none i (mem-voxels s i h) in
    elim (and-false (on_border s i) (measured_negative (value_at values i)) f) [
      | inl f ↦ not-both (on_border s i) o f
      | inr f ↦ f
    ]
