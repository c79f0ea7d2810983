-- The first voxel of the greatest key is the voxel to open.
use mathlib.Core.Path.{◌≡◌, refl, sym, ap, ◌∙◌}
use mathlib.Core.Logic.{inl, inr}
use mathlib.Core.Bool.{Bool, true, false, not, cond, ◌&&◌}
use mathlib.Core.List.{List}
use Rattle.std.specs.Prelude.{None, Some}
use Prim.Native.Nat.{ℕ, ◌+◌, ◌-◌, ◌*◌, ◌≤◌, ◌<◌}
use native.Mathlib.Omega.{arith}
use native.Mathlib.Nat.{mul-le-mul, mul-le-mul_left}
use borrow.Author.Tests.{lt-ltb, le-ltb}
use lib.IntN.{ℤ, pos, negsuc}
use lib.Signed.{lt_z}
use Rattle.prelude.proofs.Bools.{and-true, true-and, two, not-true}
use Rattle.rules.specs.declared.Sides.{Sides}
use Rattle.rules.specs.Grid.{size, is_negative, distance_at}
use Rattle.rules.specs.Begin.{exposed}
use Rattle.rules.specs.Status.{is_kept, removable, first_of, openable}
use Rattle.rules.specs.Machine.{is_inside, outside, may_go, farther}
use Rattle.rules.specs.Marks.{Marked, marked}
use Rattle.rules.specs.Choice.{Foremost}
use Rattle.rules.proofs.Places.{fit}
use Rattle.rules.proofs.Foremost.{farther-order, none_first, foremost-first-of}
use Rattle.neighbourhood.proofs.Interior.{first_below, room}
use Rattle.neighbourhood.proofs.Bodies.{kept-inner}
use Rattle.searching.specs.Argmax.{enclosed, surface_at, shown_at, height_of, height_at, key_at, rank, Leading, Layers, Searchable}
use Rattle.searching.proofs.Argmax.{rank-some}
use Rattle.searching.proofs.Surface.{exposed-is}

-- ---- distances by their ranks

not-less : (x y : ℤ) → 0 < rank x → rank y ≤ rank x → lt_z x y ≡ false
not-less (pos m) (pos n) p h = le-ltb m n (omega arith)
not-less (pos m) (negsuc n) p h = refl
not-less (negsuc m) y p h = let z : ⊥ = omega arith in absurd z

less : (x y : ℤ) → 0 < rank x → rank x < rank y → lt_z x y ≡ true
less (pos m) (pos n) p h = lt-ltb m n (omega arith)
less (pos m) (negsuc n) p h = let z : ⊥ = omega arith in absurd z
less (negsuc m) y p h = let z : ⊥ = omega arith in absurd z

-- ---- rows and layers of a grid

pub layers : (s : Sides) (dist : List ℤ) (marks status : List ℕ) → Searchable s dist marks status → Layers s.a (s.a * s.b) (size s)
unfolding size
layers s dist marks status g =
    let f = fit s g.body.sides in
    let ab : s.a * 3 ≤ s.a * s.b = mul-le-mul_left s.a f.b-low in
    let abc : s.a * s.b * 3 ≤ s.a * s.b * s.c = mul-le-mul_left (s.a * s.b) f.c-low in
    let most : s.a * s.b ≤ 64 * 64 = mul-le-mul f.a-high f.b-high in
    let low = f.a-low in
    record { one = omega arith; row = omega arith; layer = omega arith; ends = omega arith }

-- ---- what can be opened, and where

module _ (s : Sides) (dist : List ℤ) (marks status : List ℕ) (g : Searchable s dist marks status) where
  abbrev m : Marked
  m = marked marks

  abbrev l : ℕ
  l = s.a * s.b

  abbrev first : ℕ
  first = 1 + s.a + l

  abbrev may : ℕ → Bool
  may = openable s (may_go m dist) status

  abbrev key : ℕ → ℕ
  key = key_at m dist status s.a l

  -- a kept voxel lies among those searched
  kept-range : (j : ℕ) → j < size s → is_kept status j ≡ true → (first ≤ j) × (j < size s - first)
  kept-range j h k =
      let n = kept-inner s status g.body j h k in
      let b = first_below s j n in
      let r = (room s j n).ends in
      (b, omega arith)

  -- kept, outside S, on the surface and not pinned
  open-split : (j : ℕ) → j < size s → may j ≡ true
      → (is_kept status j ≡ true) × (is_negative (distance_at dist j) ≡ false) × (shown_at m status s.a l j ≡ true)
  unfolding openable removable may_go outside is_inside surface_at shown_at
  open-split j h e =
      let p = and-true (is_kept status j && may_go m dist j) (exposed s (is_kept status) j) e in
      let q = and-true (is_kept status j) (may_go m dist j) p.0 in
      let r = and-true (not (is_negative (distance_at dist j))) (not (m.pinned j)) q.1 in
      let x = exposed-is s status j (kept-inner s status g.body j h q.0) in
      (q.0, not-true _ r.0, true-and (surface_at status s.a l j) _ (true-and _ _ q.0 (sym x ∙ p.1)) r.1)

  open-join : (j : ℕ) → j < size s → shown_at m status s.a l j ≡ true → is_negative (distance_at dist j) ≡ false → may j ≡ true
  unfolding openable removable may_go outside is_inside surface_at shown_at
  open-join j h e d =
      let w = and-true (surface_at status s.a l j) (not (m.pinned j)) e in
      let p = and-true (is_kept status j) (not (enclosed status s.a l j)) w.0 in
      true-and _ _ (true-and _ _ p.0 (true-and _ _ (ap not d) w.1)) (exposed-is s status j (kept-inner s status g.body j h p.0) ∙ p.1)

  key-open : (j : ℕ) → j < size s → may j ≡ true → (key j ≡ rank (distance_at dist j)) × (0 < rank (distance_at dist j))
  unfolding key_at height_at height_of
  key-open j h e =
      let p = open-split j h e in
      (ap (λ (t : Bool). rank (cond t (distance_at dist j) (negsuc 0))) p.2, rank-some (distance_at dist j) p.1)

  open-key : (j : ℕ) → j < size s → 0 < key j → may j ≡ true
  unfolding key_at height_at height_of
  open-key j h p =
      elim (two (shown_at m status s.a l j)) [
        | inl e ↦
            (let q = ap (λ (t : Bool). rank (cond t (distance_at dist j) (negsuc 0))) e in
            open-join j h e (sign (distance_at dist j) (let r : 0 < rank (distance_at dist j) = omega arith in r)))
        | inr e ↦ (let q = ap (λ (t : Bool). rank (cond t (distance_at dist j) (negsuc 0))) e in let z : ⊥ = omega arith in absurd z)
      ]
    where
      sign : (x : ℤ) → 0 < rank x → is_negative x ≡ false
      sign (pos n) p = refl
      sign (negsuc n) p = let z : ⊥ = omega arith in absurd z

  -- ---- the search

  module _ (most : ℕ) (top : (j : ℕ) → first ≤ j → j < size s - first → key j ≤ most) where
    pub nothing : most ≡ 0 → first_of s (farther dist) may ≡ None
    nothing z =
        none_first s (farther dist) (farther-order dist) may
        (λ j h.
        elim (two (may j)) [
          | inr e ↦ e
          | inl e ↦
              (let k = key-open j h e in
              let r = kept-range j h (open-split j h e).0 in
              let b : ⊥ = omega (arith, k.0, k.1, top j r.0 r.1) in
              absurd b)
        ])

    module _ (p : 0 < most) (i : ℕ) (w : Leading key first (size s - first) most i) where
      below : i < size s
      below = omega (arith, w.high)

      chosen : may i ≡ true
      chosen = open-key i below (omega (arith, w.own))

      own-rank : (rank (distance_at dist i) ≡ most) × (0 < rank (distance_at dist i))
      own-rank = let k = key-open i below chosen in (sym k.0 ∙ w.own, k.1)

      first-open : Foremost s (farther dist) may i
      unfolding farther
      first-open =
          record {
            below = below;
            chosen = chosen;
            farthest =
                λ j h e.
                (let k = key-open j h e in
                let r = kept-range j h (open-split j h e).0 in
                not-less (distance_at dist i) (distance_at dist j) own-rank.1 (omega (arith, own-rank.0, k.0, top j r.0 r.1)));
            earliest =
                λ j u e.
                (let h : j < size s = omega (arith, below) in
                let k = key-open j h e in
                let r = kept-range j h (open-split j h e).0 in
                less (distance_at dist j) (distance_at dist i) k.1 (omega (arith, own-rank.0, k.0, w.earliest j r.0 u)));
          }

      pub at_first : first_of s (farther dist) may ≡ Some i
      at_first = foremost-first-of s (farther dist) (farther-order dist) may i first-open
