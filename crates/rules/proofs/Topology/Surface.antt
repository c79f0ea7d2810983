-- The cells of a kept voxel's surface: touched in its block is covered by the body without it, and the test counts them.
use mathlib.Core.Path.{◌≡◌, refl, ap, ap₂, sym, ◌∙◌, subst}
use mathlib.Core.Logic.{◌⊎◌, inl, inr, ◌≢◌}
use mathlib.Core.Bool.{Bool, true, false, not, cond, ◌&&◌}
use mathlib.Core.List.{List, [], ◌∷◌}
use Prim.Native.Nat.{ℕ, zero, suc, ◌+◌, ◌/◌, ◌%◌, ◌≤◌, ◌<◌}
use native.Mathlib.Omega.{arith}
use lib.Dec.{ltb, eqb}
use lib.ListN.{length}
use borrow.Author.Tests.{ltb-true, lt-ltb, eqb-true, eqb-false, eq-eqb, ne_eqb}
use Rattle.cells.specs.Groups.{filter, cons_if}
use Rattle.cells.specs.Cells.{spans, contains, positions, touched, bit, dimension, count_of, test_of, test}
use Rattle.prelude.proofs.Bools.{and-true, true-and, or-true, true-or, both_ways, not-true}
use Rattle.prelude.proofs.Lists.{Mem, here, there, any-true, true-any}
use Rattle.closed_sets.proofs.EveryBlock.{euler}
use Rattle.rules.specs.declared.Sides.{Sides}
use Rattle.rules.specs.Grid.{Voxel, index, voxel, neighbour, neighbourhood_of}
use Rattle.rules.specs.Body.{Voxels, body_of, Piece, plane, stretch, covered, Has}
use Rattle.rules.proofs.Places.{InGrid, voxel-index}
use Rattle.rules.proofs.Topology.Sum.{win, win3}
use Rattle.rules.proofs.Topology.Cells.{covered-in, covered_out, count_at}
use Rattle.rules.proofs.Topology.Around.{At, at-middle, close_at, Inner, inner-in, neighbour-at, neighbourhood-at, place-low, at_place, Contains}
use Rattle.rules.proofs.Topology.Around.{contains-spans, spans-contains}

-- a set of indices without one
unfoldable pub omit : (ℕ → Bool) → ℕ → ℕ → Bool
omit p i j = p j && not (eqb j i)

pub omit-true : (p : ℕ → Bool) (i j : ℕ) → omit p i j ≡ true → (p j ≡ true) × (j ≢ i)
unfolding omit
omit-true p i j e = let r = and-true (p j) (not (eqb j i)) e in (r.0, eqb-false j i (not-true (eqb j i) r.1))

pub true-omit : (p : ℕ → Bool) (i j : ℕ) → p j ≡ true → j ≢ i → omit p i j ≡ true
unfolding omit
true-omit p i j e n = true-and (p j) (not (eqb j i)) e (ap not (ne_eqb j i n))

-- ---- a voxel of the grid as a voxel of the body

pub body-true : (s : Sides) (p : ℕ → Bool) (v : Voxel) → body_of s p v.x v.y v.z ≡ true → (InGrid s v) × (p (index s v) ≡ true)
unfolding body_of
body-true s p v e =
    let a = and-true (ltb v.x s.a) (ltb v.y s.b && (ltb v.z s.c && p (index s v))) e in
    let b = and-true (ltb v.y s.b) (ltb v.z s.c && p (index s v)) a.1 in
    let c = and-true (ltb v.z s.c) (p (index s v)) b.1 in
    (record { x-in = ltb-true v.x s.a a.0; y-in = ltb-true v.y s.b b.0; z-in = ltb-true v.z s.c c.0 }, c.1)

pub body-in : (s : Sides) (p : ℕ → Bool) (v : Voxel) → InGrid s v → body_of s p v.x v.y v.z ≡ p (index s v)
unfolding body_of
body-in s p v g = ap₂ ◌&&◌ (lt-ltb v.x s.a g.x-in) (ap₂ ◌&&◌ (lt-ltb v.y s.b g.y-in) (ap₂ ◌&&◌ (lt-ltb v.z s.c g.z-in) refl))

-- ---- along an axis: the piece of the voxel at x that a digit stands for

abbrev pub piece_at : ℕ → ℕ → Piece
piece_at x zero = plane x
piece_at x (suc zero) = stretch x
piece_at x (suc (suc d)) = plane (suc x)

spans-has : (x u d e : ℕ) → suc u ≡ x + e → d ≤ 2 → spans e d ≡ true → Has u (piece_at x d)
spans-has x u d e h l k = go d l (or-true (eqb e 1) (eqb e d) k)
  where
    go : (d : ℕ) → d ≤ 2 → (eqb e 1 ≡ true) ⊎ (eqb e d ≡ true) → Has u (piece_at x d)
    go zero l (inl k) = inl (omega (arith, eqb-true e 1 k))
    go zero l (inr k) = inr (omega (arith, eqb-true e 0 k))
    go (suc zero) l (inl k) = omega (arith, eqb-true e 1 k)
    go (suc zero) l (inr k) = omega (arith, eqb-true e 1 k)
    go (suc (suc d)) l (inl k) = inr (omega (arith, eqb-true e 1 k))
    go (suc (suc d)) l (inr k) = inl (omega (arith, eqb-true e (suc (suc d)) k))

has-spans : (x u d e : ℕ) → suc u ≡ x + e → d ≤ 2 → Has u (piece_at x d) → spans e d ≡ true
has-spans x u zero e h l (inl k) = true-or (eqb e 1) (eqb e 0) (inl (eq-eqb e 1 (omega arith)))
has-spans x u zero e h l (inr k) = true-or (eqb e 1) (eqb e 0) (inr (eq-eqb e 0 (omega arith)))
has-spans x u (suc zero) e h l k = true-or (eqb e 1) (eqb e 1) (inl (eq-eqb e 1 (omega arith)))
has-spans x u (suc (suc d)) e h l (inl k) = true-or (eqb e 1) (eqb e (suc (suc d))) (inr (eq-eqb e (suc (suc d)) (omega arith)))
has-spans x u (suc (suc d)) e h l (inr k) = true-or (eqb e 1) (eqb e (suc (suc d))) (inl (eq-eqb e 1 (omega arith)))

has-close : (x u d : ℕ) → Has u (piece_at x d) → (u ≤ suc x) × (x ≤ suc u)
has-close x u zero (inl k) = (omega arith, omega arith)
has-close x u zero (inr k) = (omega arith, omega arith)
has-close x u (suc zero) k = (omega arith, omega arith)
has-close x u (suc (suc d)) (inl k) = (omega arith, omega arith)
has-close x u (suc (suc d)) (inr k) = (omega arith, omega arith)

module _ (s : Sides) (kept : ℕ → Bool) (u : Voxel) (inner : Inner s u) where
  abbrev others : ℕ → Bool
  others = omit kept (index s u)

  index-other : (v : Voxel) → InGrid s v → index s v ≢ index s u → u ≢ v
  index-other v g n e = n (ap (index s) (sym e))

  other-index : (v : Voxel) → InGrid s v → u ≢ v → index s v ≢ index s u
  other-index v g n e =
      let h = inner-in s u inner in
      n (sym (voxel-index s u h.x-in h.y-in) ∙ ap (voxel s) (sym e) ∙ voxel-index s v g.x-in g.y-in)

  -- a cell is touched in the block exactly if another voxel of the body contains it
  pub touched-contains : (c : ℕ) → touched (neighbourhood_of s kept u) c ≡ true → (v : Voxel) × (InGrid s v) × (others (index s v) ≡ true) × (Contains u c v)
  unfolding touched
  touched-contains c e =
      let r = any-true (λ p. contains p c && neighbourhood_of s kept u p) positions e in
      let p = r.0 in
      let low = place-low p r.1 in
      let t = and-true (contains p c) (neighbourhood_of s kept u p) r.2 in
      let n = neighbour-at s u inner p low.0 in
      let v : Voxel = neighbour u p in
      let other : u ≢ v = λ q. low.1 (at-middle u p (subst (λ (w : Voxel). At u w p) (sym q) n.0)) in (
        v,
        n.1,
        true-omit kept (index s u) (index s v) (sym (neighbourhood-at s kept u v p inner n.0) ∙ t.1) (other-index v n.1 other),
        record { place = p; at = n.0; has = t.0 },
      )

  pub contains-touched : (c : ℕ) (v : Voxel) → InGrid s v → others (index s v) ≡ true → Contains u c v → touched (neighbourhood_of s kept u) c ≡ true
  unfolding touched
  contains-touched c v g e h =
      let p = h.place in
      let r = omit-true kept (index s u) (index s v) e in
      true-any (λ p. contains p c && neighbourhood_of s kept u p) positions p (at_place u v p h.at (index-other v g r.1))
      (true-and (contains p c) (neighbourhood_of s kept u p) h.has (neighbourhood-at s kept u v p inner h.at ∙ r.0))

  abbrev rest : Voxels
  rest = body_of s others

  abbrev is_covered : ℕ → Bool
  is_covered c = covered rest (piece_at u.x (c % 3)) (piece_at u.y (c / 3 % 3)) (piece_at u.z (c / 9))

  covered-touched : (c : ℕ) → c < 27 → is_covered c ≡ touched (neighbourhood_of s kept u) c
  covered-touched c l = both_ways (is_covered c) (touched (neighbourhood_of s kept u) c) there back
    where
      there : is_covered c ≡ true → touched (neighbourhood_of s kept u) c ≡ true
      there e =
          let h = covered-in rest (piece_at u.x (c % 3)) (piece_at u.y (c / 3 % 3)) (piece_at u.z (c / 9)) e in
          let v : Voxel = record { x = h.x; y = h.y; z = h.z } in
          let b = body-true s others v h.is-in in
          let cx = has-close u.x h.x (c % 3) h.has-x in
          let cy = has-close u.y h.y (c / 3 % 3) h.has-y in
          let cz = has-close u.z h.z (c / 9) h.has-z in
          let r = close_at u v (record { x-up = cx.0; x-down = cx.1; y-up = cy.0; y-down = cy.1; z-up = cz.0; z-down = cz.1 }) in
          let p = r.0 in
          let a = r.1 in
          contains-touched c v b.0 b.1 (record {
            place = p;
            at = a;
            has =
                spans-contains p c (has-spans u.x h.x (c % 3) (p % 3) a.x-at (omega arith) h.has-x)
                (has-spans u.y h.y (c / 3 % 3) (p / 3 % 3) a.y-at (omega arith) h.has-y)
                (has-spans u.z h.z (c / 9) (p / 9) a.z-at (omega arith) h.has-z);
          })

      back : touched (neighbourhood_of s kept u) c ≡ true → is_covered c ≡ true
      back e =
          let r = touched-contains c e in
          let v = r.0 in
          let h = r.3 in
          let p = h.place in
          let a = h.at in
          let t = contains-spans p c h.has in
          covered_out rest (piece_at u.x (c % 3)) (piece_at u.y (c / 3 % 3)) (piece_at u.z (c / 9)) (record {
            x = v.x;
            y = v.y;
            z = v.z;
            has-x = spans-has u.x v.x (c % 3) (p % 3) a.x-at (omega arith) t.0;
            has-y = spans-has u.y v.y (c / 3 % 3) (p / 3 % 3) a.y-at (omega arith) t.1;
            has-z = spans-has u.z v.z (c / 9) (p / 9) a.z-at (omega arith) t.2;
            is-in = body-in s others v r.1 ∙ r.2;
          })

-- ---- the test's numbers of touched cells

-- f summed over the cells of dimension d
unfoldable tally : ℕ → (ℕ → ℕ) → List ℕ → ℕ
tally d f [] = 0
tally d f (c ∷ cs) = cond (eqb (dimension c) d) (f c) 0 + tally d f cs

tally-ext : (d : ℕ) (f g : ℕ → ℕ) (cs : List ℕ) → ((c : ℕ) → Mem c cs → f c ≡ g c) → tally d f cs ≡ tally d g cs
unfolding tally
tally-ext d f g [] h = refl
tally-ext d f g (c ∷ cs) h = ap₂ (λ (x y : ℕ). cond (eqb (dimension c) d) x 0 + y) (h c here) (tally-ext d f g cs (λ c m. h c (there m)))

count_of-tally : (d : ℕ) (p : ℕ → Bool) (cs : List ℕ) → count_of d (filter p cs) ≡ tally d (λ c. bit (p c)) cs
unfolding tally count_of filter
count_of-tally d p [] = refl
count_of-tally d p (c ∷ cs) = go (p c) (eqb (dimension c) d) refl (count_of-tally d p cs)
  where
    q : ℕ → Bool
    q c = eqb (dimension c) d

    go : (t e : Bool) → q c ≡ e → length (filter q (filter p cs)) ≡ tally d (λ c. bit (p c)) cs
        → length (filter q (cons_if t c (filter p cs))) ≡ cond e (bit t) 0 + tally d (λ c. bit (p c)) cs
    go true true k h = ap (λ (e : Bool). length (cons_if e c (filter q (filter p cs)))) k ∙ omega arith
    go true false k h = ap (λ (e : Bool). length (cons_if e c (filter q (filter p cs)))) k ∙ omega arith
    go false true k h = omega arith
    go false false k h = omega arith

module _ (s : Sides) (kept : ℕ → Bool) (u : Voxel) (inner : Inner s u) where
  abbrev counted : Bool → Bool → Bool → ℕ
  counted k l m = count_at u.x u.y u.z k l m (body_of s (omit kept (index s u)))

  tally-touched : (d : ℕ) → count_of d (filter (touched (neighbourhood_of s kept u)) positions) ≡ tally d (λ c. bit (is_covered s kept u inner c)) positions
  tally-touched d =
      count_of-tally d (touched (neighbourhood_of s kept u)) positions
      ∙ tally-ext d (λ c. bit (touched (neighbourhood_of s kept u) c)) (λ c. bit (is_covered s kept u inner c)) positions
      (λ c m. ap (λ (t : Bool). bit t) (sym (covered-touched s kept u inner c (place-low c m).0)))

  corners-counted : (test (neighbourhood_of s kept u)).corners ≡ counted true true true
  unfolding test test_of tally dimension count_at win3 win
  corners-counted = tally-touched 0 ∙ omega arith

  edges-counted : (test (neighbourhood_of s kept u)).edges ≡ counted false true true + counted true false true + counted true true false
  unfolding test test_of tally dimension count_at win3 win
  edges-counted = tally-touched 1 ∙ omega arith

  faces-counted : (test (neighbourhood_of s kept u)).faces ≡ counted true false false + counted false true false + counted false false true
  unfolding test test_of tally dimension count_at win3 win
  faces-counted = tally-touched 2 ∙ omega arith

  -- Euler's formula on the voxel's surface, with the cells that the body without it covers
  pub surface-euler :
      (test (neighbourhood_of s kept u)).m + counted true true true + (counted true false false + counted false true false + counted false false true)
      ≡ (test (neighbourhood_of s kept u)).k + 1 + (counted false true true + counted true false true + counted true true false)
  surface-euler = omega (arith, euler (neighbourhood_of s kept u), corners-counted, edges-counted, faces-counted)
