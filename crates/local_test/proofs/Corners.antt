-- k by the corners: an edge is copied to both of its corners, where words tell at once which corners have which edges.
use mathlib.Core.Path.{◌≡◌, refl, sym, ap, ap₂, ◌∙◌, subst}
use mathlib.Core.Logic.{inl, inr}
use mathlib.Core.Bool.{Bool, true, false, cond, ◌&&◌, ◌||◌, true≢false}
use mathlib.Core.List.{[]}
use Prim.Native.Nat.{ℕ, ◌+◌, ◌-◌, ◌*◌, ◌/◌, ◌%◌, ◌^◌, ◌<◌}
use native.Mathlib.Omega.{arith}
use lib.Bits.{bit_and, bit_or, bit_xor}
use lib.Count.{ones}
use lib.Dec.{eqb, leb, lit<}
use borrow.Author.Tests.{eqb-true}
use Rattle.prelude.specs.Lists.{range}
use Rattle.prelude.proofs.Bools.{or-true, true-and}
use Rattle.cells.specs.Groups.{cons_if, filter}
use Rattle.cells.specs.Cells.{bit, contains, touched, dimension, test}
use Rattle.closed_sets.specs.Rank.{rank_of4, rank_by, rank}
use Rattle.closed_sets.proofs.EveryBlock.{touched-closed, k-by-rank}
use Rattle.bits.specs.Bits.{has, bits, spaced}
use Rattle.bits.proofs.Bits.{has-or, has-and, has-shr, has-shl-in, masked, unlike, ones-bits, ones-less, length-cons_if}
use Rattle.bits.proofs.Spaced.{has-spaced, spaced-and, spaced-xor, ones-spaced}
use Rattle.local_test.specs.Touched.{TouchedBy, odd_rank, cells_of}
use Rattle.local_test.proofs.Counts.{is_of, corner-mask, counted}

-- ---- edges at their corners: stride j, the edges m

abbrev pub ends : ℕ → ℕ → ℕ → ℕ
ends j m t = bit_or ((bit_and t m * 2 ^ j) % 2 ^ 64) (bit_and t m / 2 ^ j)

module _ (j m t c : ℕ) (h : c < 64) where
  either : has (ends j m t) c ≡ (leb j c && (has t (c - j) && has m (c - j))) || (has t (j + c) && has m (j + c))
  either =
      has-or ((bit_and t m * 2 ^ j) % 2 ^ 64) (bit_and t m / 2 ^ j) c
      ∙ ap₂ ◌||◌ (has-shl-in 64 (bit_and t m) j c h ∙ ap (λ (b : Bool). leb j c && b) (has-and t m (c - j)))
      (has-shr (bit_and t m) j c ∙ has-and t m (j + c))

  -- the corner's edge is the one above it, or the one below it
  above : has m (c - j) ≡ false → has m (j + c) ≡ true → has (ends j m t) c ≡ has t (j + c)
  above n y =
      either ∙ ap₂ (λ (p q : Bool). (leb j c && (has t (c - j) && p)) || (has t (j + c) && q)) n y ∙ go (leb j c) (has t (c - j)) (has t (j + c))
    where
      go : (l p q : Bool) → ((l && (p && false)) || (q && true)) ≡ q
      go true true true = refl
      go true true false = refl
      go true false true = refl
      go true false false = refl
      go false p true = refl
      go false p false = refl

  below : leb j c ≡ true → has m (c - j) ≡ true → has m (j + c) ≡ false → has (ends j m t) c ≡ has t (c - j)
  below l y n =
      either
      ∙ ap (λ (b : Bool). (b && (has t (c - j) && has m (c - j))) || (has t (j + c) && has m (j + c))) l
      ∙ ap₂ (λ (p q : Bool). (has t (c - j) && p) || (has t (j + c) && q)) y n
      ∙ go (has t (c - j)) (has t (j + c))
    where
      go : (p q : Bool) → ((p && true) || (q && false)) ≡ p
      go true q = refl
      go false true = refl
      go false false = refl

abbrev pub edges_x : ℕ
edges_x = 0x04004000004004

abbrev pub edges_y : ℕ
edges_y = 0x00440000000440

abbrev pub edges_z : ℕ
edges_z = 0x00000440440000

module _ (t : ℕ) where
  abbrev x : ℕ
  x = ends 2 edges_x t

  abbrev y : ℕ
  y = ends 6 edges_y t

  abbrev z : ℕ
  z = ends 18 edges_z t

  -- the edges at the even corners 0, 8, 20 and 24
  record AtCorners : Type 0 where
    x0 : cells_of x 0 ≡ cells_of t 1
    y0 : cells_of y 0 ≡ cells_of t 3
    z0 : cells_of z 0 ≡ cells_of t 9
    x8 : cells_of x 8 ≡ cells_of t 7
    y8 : cells_of y 8 ≡ cells_of t 5
    z8 : cells_of z 8 ≡ cells_of t 17
    x20 : cells_of x 20 ≡ cells_of t 19
    y20 : cells_of y 20 ≡ cells_of t 23
    z20 : cells_of z 20 ≡ cells_of t 11
    x24 : cells_of x 24 ≡ cells_of t 25
    y24 : cells_of y 24 ≡ cells_of t 21
    z24 : cells_of z 24 ≡ cells_of t 15

  at-corners : AtCorners
  unfolding has
  at-corners =
      record {
        x0 = above 2 edges_x t 0 (lit< tt) refl refl;
        y0 = above 6 edges_y t 0 (lit< tt) refl refl;
        z0 = above 18 edges_z t 0 (lit< tt) refl refl;
        x8 = below 2 edges_x t 16 (lit< tt) refl refl refl;
        y8 = below 6 edges_y t 16 (lit< tt) refl refl refl;
        z8 = above 18 edges_z t 16 (lit< tt) refl refl;
        x20 = below 2 edges_x t 40 (lit< tt) refl refl refl;
        y20 = above 6 edges_y t 40 (lit< tt) refl refl;
        z20 = below 18 edges_z t 40 (lit< tt) refl refl refl;
        x24 = above 2 edges_x t 48 (lit< tt) refl refl;
        y24 = below 6 edges_y t 48 (lit< tt) refl refl refl;
        z24 = below 18 edges_z t 48 (lit< tt) refl refl refl;
      }

-- ---- even corners with an edge

-- the even corners, by four answers
abbrev evens : Bool → Bool → Bool → Bool → ℕ → Bool
evens a b c d p = cond (eqb p 0) a (cond (eqb p 8) b (cond (eqb p 20) c (cond (eqb p 24) d false)))

evens-in : (q : ℕ → Bool) {a b c d : Bool} → (a ≡ true → q 0 ≡ true) → (b ≡ true → q 8 ≡ true) → (c ≡ true → q 20 ≡ true) → (d ≡ true → q 24 ≡ true)
    → (p : ℕ) → evens a b c d p ≡ true → q p ≡ true
evens-in q {a} {b} {c} {d} e0 e8 e20 e24 p = at0 (eqb p 0) refl
  where
    there : (k : ℕ) → eqb p k ≡ true → q k ≡ true → q p ≡ true
    there k e h = subst (λ (n : ℕ). q n ≡ true) (sym (eqb-true p k e)) h

    at24 : (u : Bool) → eqb p 24 ≡ u → cond u d false ≡ true → q p ≡ true
    at24 true e h = there 24 e (e24 h)
    at24 false e h = absurd (true≢false (sym h))

    at20 : (u : Bool) → eqb p 20 ≡ u → cond u c (cond (eqb p 24) d false) ≡ true → q p ≡ true
    at20 true e h = there 20 e (e20 h)
    at20 false e h = at24 (eqb p 24) refl h

    at8 : (u : Bool) → eqb p 8 ≡ u → cond u b (cond (eqb p 20) c (cond (eqb p 24) d false)) ≡ true → q p ≡ true
    at8 true e h = there 8 e (e8 h)
    at8 false e h = at20 (eqb p 20) refl h

    at0 : (u : Bool) → eqb p 0 ≡ u → cond u a (cond (eqb p 8) b (cond (eqb p 20) c (cond (eqb p 24) d false))) ≡ true → q p ≡ true
    at0 true e h = there 0 e (e0 h)
    at0 false e h = at8 (eqb p 8) refl h

ones-evens : (a b c d : Bool) → ones (bits 27 (evens a b c d)) ≡ bit a + bit b + bit c + bit d
unfolding filter range
ones-evens a b c d =
    ones-bits 27 (evens a b c d)
    ∙ length-cons_if a 0 (cons_if b 8 (cons_if c 20 (cons_if d 24 [])))
    ∙ omega (arith, length-cons_if b 8 (cons_if c 20 (cons_if d 24 [])), length-cons_if c 20 (cons_if d 24 []), length-cons_if d 24 [])

abbrev pub even_corners : ℕ
even_corners = 0x01010000010001

masked-evens : (w : ℕ) → bit_and w even_corners ≡ bits 54 (spaced (evens (cells_of w 0) (cells_of w 8) (cells_of w 20) (cells_of w 24)))
unfolding has bits spaced
masked-evens w = masked 54 w even_corners (lit< tt)

-- ---- k

module _ (kept : ℕ → Bool) where
  abbrev s : ℕ → Bool
  s = touched kept

  -- a corner of a touched edge is touched
  corner : (c e f g : ℕ) → contains e c ≡ true → contains f c ≡ true → contains g c ≡ true → is_of 0 c ≡ true → ((s e || s f) || s g) ≡ true
      → (s c && is_of 0 c) ≡ true
  corner c e f g p q r k h =
      true-and (s c) (is_of 0 c) (elim (or-true (s e || s f) (s g) h) [
        | inl i ↦ elim (or-true (s e) (s f) i) [ inl l ↦ touched-closed kept e c p l | inr l ↦ touched-closed kept f c q l ]
        | inr l ↦ touched-closed kept g c r l
      ]) k

  -- the touched edges at the even corners
  abbrev edged : ℕ → Bool
  edged = evens ((s 1 || s 3) || s 9) ((s 7 || s 5) || s 17) ((s 19 || s 23) || s 11) ((s 25 || s 21) || s 15)

  edged-corners : (c : ℕ) → edged c ≡ true → (s c && is_of 0 c) ≡ true
  unfolding contains dimension
  edged-corners =
      evens-in (λ c. s c && is_of 0 c) (corner 0 1 3 9 refl refl refl refl) (corner 8 7 5 17 refl refl refl refl) (corner 20 19 23 11 refl refl refl refl)
      (corner 24 25 21 15 refl refl refl refl)

  module _ (t : ℕ) (e : TouchedBy kept t) where
    cell : (c : ℕ) → c < 27 → cells_of t c ≡ s c
    cell c h = ap (λ (n : ℕ). cells_of n c) e ∙ has-spaced 27 s c h

    abbrev joined : ℕ
    joined = bit_or (bit_or (x t) (y t)) (z t)

    three-at : (c : ℕ) {p q r : Bool} → cells_of (x t) c ≡ p → cells_of (y t) c ≡ q → cells_of (z t) c ≡ r → cells_of joined c ≡ (p || q) || r
    three-at c p q r = has-or (bit_or (x t) (y t)) (z t) (2 * c) ∙ ap₂ ◌||◌ (has-or (x t) (y t) (2 * c) ∙ ap₂ ◌||◌ p q) r

    abbrev at : AtCorners t
    at = at-corners t

    edged-is : bit_and joined even_corners ≡ bits 54 (spaced edged)
    edged-is =
        masked-evens joined
        ∙ (λ i. bits 54 (spaced (evens
        (three-at 0 (at.x0 ∙ cell 1 (lit< tt)) (at.y0 ∙ cell 3 (lit< tt)) (at.z0 ∙ cell 9 (lit< tt)) i)
        (three-at 8 (at.x8 ∙ cell 7 (lit< tt)) (at.y8 ∙ cell 5 (lit< tt)) (at.z8 ∙ cell 17 (lit< tt)) i)
        (three-at 20 (at.x20 ∙ cell 19 (lit< tt)) (at.y20 ∙ cell 23 (lit< tt)) (at.z20 ∙ cell 11 (lit< tt)) i)
        (three-at 24 (at.x24 ∙ cell 25 (lit< tt)) (at.y24 ∙ cell 21 (lit< tt)) (at.z24 ∙ cell 15 (lit< tt)) i))))

    -- the touched corners without the even ones that have an edge
    unsaved : ones (bit_xor (bit_and t 0x11011000011011) (bit_and joined even_corners)) + ones (bits 27 edged) ≡ (test kept).corners
    unsaved =
        let corners : ℕ → Bool = λ c. s c && is_of 0 c in
        let a : bit_and t 0x11011000011011 ≡ bits 54 (spaced corners) = ap₂ bit_and e corner-mask ∙ spaced-and 54 s (is_of 0) in
        let both : ones (bit_xor (bit_and t 0x11011000011011) (bit_and joined even_corners)) ≡ ones (bits 27 (λ c. unlike (corners c) (edged c))) =
        ap ones (ap₂ bit_xor a edged-is ∙ spaced-xor 54 corners edged) ∙ ones-spaced 27 (λ c. unlike (corners c) (edged c)) in
        let all : ones (bits 27 corners) ≡ (test kept).corners = sym (ones-spaced 27 corners) ∙ ap ones (sym a) ∙ (counted kept t e).corners in
        omega (arith, both, all, ones-less 27 corners edged (λ c _. edged-corners c))

    odd-rank : odd_rank (cells_of (x t)) (cells_of (y t)) (cells_of (z t)) + ones (bits 27 edged) ≡ rank s
    unfolding rank rank_by
    odd-rank =
        let x0 = at.x0 ∙ cell 1 (lit< tt) in
        let y0 = at.y0 ∙ cell 3 (lit< tt) in
        let z0 = at.z0 ∙ cell 9 (lit< tt) in
        let x8 = at.x8 ∙ cell 7 (lit< tt) in
        let y8 = at.y8 ∙ cell 5 (lit< tt) in
        let z8 = at.z8 ∙ cell 17 (lit< tt) in
        let x20 = at.x20 ∙ cell 19 (lit< tt) in
        let y20 = at.y20 ∙ cell 23 (lit< tt) in
        let z20 = at.z20 ∙ cell 11 (lit< tt) in
        let x24 = at.x24 ∙ cell 25 (lit< tt) in
        let y24 = at.y24 ∙ cell 21 (lit< tt) in
        let z24 = at.z24 ∙ cell 15 (lit< tt) in
        ap₂ ◌+◌
        (λ i. rank_of4 ((x0 i && y0 i) || (x8 i && y8 i)) ((x0 i && z0 i) || (x20 i && z20 i)) ((y0 i && z0 i) || (y24 i && z24 i))
        ((y8 i && z8 i) || (y20 i && z20 i)) ((x8 i && z8 i) || (x24 i && z24 i)) ((x20 i && y20 i) || (x24 i && y24 i)))
        (ones-evens _ _ _ _)
        ∙ omega arith

    pub groups-by-corners :
        (test kept).k + odd_rank (cells_of (x t)) (cells_of (y t)) (cells_of (z t))
        ≡ ones (bit_xor (bit_and t 0x11011000011011) (bit_and joined even_corners))
    groups-by-corners = omega (arith, unsaved, odd-rank, k-by-rank kept)
