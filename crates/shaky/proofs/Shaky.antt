-- Two grids whose values are the same, or not negative and at most e apart: the same is filled, S is the same, and the worked distances are the same, or
-- not negative and at most e apart, too. One shaky shot is such a pair.
use mathlib.Core.Path.{◌≡◌, refl, ap, sym, ◌∙◌}
use mathlib.Core.Logic.{inl, inr}
use mathlib.Core.Bool.{Bool, true, false, not, cond, ◌&&◌, ◌||◌}
use mathlib.Core.List.{List, [], ◌∷◌, map}
use Prim.Native.Nat.{ℕ, zero, suc, ◌+◌, ◌≤◌, ◌<◌}
use native.Mathlib.Omega.{arith}
use native.Mathlib.Decide.{ℕ_discrete, dec_lt}
use borrow.Author.Tests.{ltb-true, ltb-false}
use lib.Dec.{ltb}
use lib.IntN.{ℤ, pos, negsuc, nat_abs, +ℤ_invr}
use lib.ListN.{length, get_or, get_or-eq_default}
use Rattle.cells.specs.Groups.{any, filter, groups}
use Rattle.prelude.proofs.Bools.{two, not-both}
use Rattle.prelude.proofs.Lists.{any-ext, filter-ext}
use Rattle.prelude.proofs.Ranges.{get_d-map-range, length-map-range}
use Rattle.rules.specs.declared.Sides.{Sides}
use Rattle.rules.specs.Value.{is_missing}
use Rattle.rules.specs.Grid.{size, range, voxels, on_border, touch, share_face, gap, missing, measured_negative, measured_non_negative, amount, value_at, distance_at}
use Rattle.rules.specs.Fill.{gaps, around, enclosed, enclosed_gaps, in_some, filled_in, filled}
use Rattle.rules.specs.Begin.{is_in, negatives, largest, inside, facing, greatest_facing, distance, worked_at, worked}
use Rattle.rules.proofs.Distance.{greatest-beside}
use Rattle.rules.proofs.Demand.{by-begin}
use Rattle.coarse.specs.Blocks.{halved, eight, lesser, least_from, least_of, block_distance, block_distances}
use Rattle.coarse.proofs.Promises.{coarse-body-is}
use Rattle.coarse.specs.Starts.{AcceptedGrid, plain, coarse, handed_by}
use Rattle.shaky.specs.Shaky.{away, OneShot, Shaken, Moved}
use Rattle.shaky.specs.Shaky.{OneShakyShot, ManyShakyShots, ShakyBlocks}

-- ---- values that are the same, or not negative and at most e apart

data Near (e : ℕ) : ℤ → ℤ → Type 0 where
  same : (w : ℤ) → Near e w w
  moved : (x y : ℕ) → gap x y ≤ e → Near e (pos x) (pos y)

gap-away : (x y : ℕ) → away (pos x) (pos y) ≡ gap x y
unfolding gap
gap-away x zero = omega arith
gap-away x (suc y) =
    elim (two (ltb x (suc y))) [
      | inl t ↦ let h = ltb-true x (suc y) t in rw t (omega arith)
      | inr t ↦ let h = ltb-false x (suc y) t in rw t (omega arith)
    ]

near-away : {e : ℕ} {u w : ℤ} → Near e u w → away u w ≤ e
near-away (same w) = omega (arith, ap nat_abs (+ℤ_invr w))
near-away (moved x y h) = omega (arith, gap-away x y)

near-moved : {e : ℕ} (u w : ℤ) → Moved e u w → Near e u w
unfolding measured_non_negative
near-moved (pos x) (pos y) m = let h = m.by in moved x y (omega (arith, gap-away x y))
near-moved (pos x) (negsuc y) m = not-both false m.other refl
near-moved (negsuc x) w m = not-both false m.one refl

-- a function of values that does not look at the amount of one that is not negative
near_same : {A : Type 0} (f : ℤ → A) → ((x y : ℕ) → f (pos x) ≡ f (pos y)) → {e : ℕ} {u w : ℤ} → Near e u w → f u ≡ f w
near_same f blind (same w) = refl
near_same f blind (moved x y h) = blind x y

near-amount : {e : ℕ} {u w : ℤ} → Near e u w → (amount u ≤ amount w + e) × (amount w ≤ amount u + e)
unfolding gap
near-amount (same w) = (omega arith, omega arith)
near-amount (moved x y h) = (omega arith, omega arith)

-- lists made of such values, beyond their ends too
near-map : {e : ℕ} (f g : ℕ → ℤ) (d : ℤ) (n : ℕ) → ((i : ℕ) → Near e (f i) (g i)) → (i : ℕ)
    → Near e (get_or (map f (range 0 n)) i d) (get_or (map g (range 0 n)) i d)
near-map f g d n near i =
    elim (dec_lt i n) [
      | yes h ↦ rw (get_d-map-range f d n i h, get_d-map-range g d n i h) (near i)
      | no h ↦ rw (beyond f h, beyond g h) (same d)
    ]
  where
    beyond : (f : ℕ → ℤ) → (i < n → ⊥) → get_or (map f (range 0 n)) i d ≡ d
    beyond f h =
        let l : length (map f (range 0 n)) ≤ i = omega (arith, length-map-range f n) in
        get_or-eq_default (map f (range 0 n)) d l

-- ---- grids of such values: what is filled, and S

module _ (s : Sides) (p q : List ℤ) (e : ℕ) (near : (i : ℕ) → Near e (value_at p i) (value_at q i)) where
  same-negative : (i : ℕ) → measured_negative (value_at p i) ≡ measured_negative (value_at q i)
  unfolding measured_negative
  same-negative i = near_same (λ w. measured_negative w) (λ x y. refl) (near i)

  same-measured : (i : ℕ) → measured_non_negative (value_at p i) ≡ measured_non_negative (value_at q i)
  unfolding measured_non_negative
  same-measured i = near_same (λ w. measured_non_negative w) (λ x y. refl) (near i)

  same-missing : (i : ℕ) → is_missing (value_at p i) ≡ is_missing (value_at q i)
  unfolding is_missing
  same-missing i = near_same is_missing (λ x y. refl) (near i)

  same-enclosed : (g : List ℕ) → enclosed s p g ≡ enclosed s q g
  unfolding enclosed
  same-enclosed g =
      ap (λ (t : Bool). not (any (on_border s) g) && not t)
      (any-ext (λ j. not (measured_negative (value_at p j))) (λ j. not (measured_negative (value_at q j))) (around s g) (λ j _. ap not (same-negative j)))

  same-gaps : enclosed_gaps s p ≡ enclosed_gaps s q
  unfolding enclosed_gaps gaps
  same-gaps =
      filter-ext (enclosed s p) (enclosed s q) (gaps s p) (λ g _. same-enclosed g)
      ∙ ap (λ (l : List ℕ). filter (enclosed s q) (groups (share_face s) l))
      (filter-ext (λ i. is_missing (value_at p i)) (λ i. is_missing (value_at q i)) (voxels s) (λ i _. same-missing i))

  near-filled : (i : ℕ) → Near e (value_at (filled s p) i) (value_at (filled s q) i)
  unfolding filled filled_in voxels
  near-filled =
      rw same-gaps
      (near-map (λ i. cond (in_some (enclosed_gaps s q) i) (negsuc 0) (value_at p i)) (λ i. cond (in_some (enclosed_gaps s q) i) (negsuc 0) (value_at q i))
      missing (size s) (λ i. go (in_some (enclosed_gaps s q) i) (near i)))
    where
      go : (t : Bool) {u w : ℤ} → Near e u w → Near e (cond t (negsuc 0) u) (cond t (negsuc 0) w)
      go true n = same (negsuc 0)
      go false n = n

  near-inside : inside s p ≡ inside s q
  unfolding inside negatives
  near-inside =
      ap (λ (l : List ℕ). largest s (groups (touch s) l))
      (filter-ext (λ i. measured_negative (value_at p i)) (λ i. measured_negative (value_at q i)) (voxels s) (λ i _. same-negative i))

-- ---- M, and the worked distances

-- M of one grid is at most e more than M of another with the same voxels measured not negative, each at most e more there
greatest-away : (s : Sides) (p q : List ℤ) (e : ℕ) (S : List ℕ)
    → ((i : ℕ) → (measured_non_negative (value_at p i) ≡ measured_non_negative (value_at q i)) × (amount (value_at p i) ≤ amount (value_at q i) + e))
    → greatest_facing s p S ≤ greatest_facing s q S + e
greatest-away s p q e S less =
    elim (greatest-beside s p S).reached [
      | inl f ↦ omega (arith, (greatest-beside s q S).one)
      | inr r ↦
          let i = r.0 in
          omega (arith, r.4, (less i).1, (greatest-beside s q S).none-greater i r.1 (sym (less i).0 ∙ r.2) r.3)
    ]

module _ (s : Sides) (p q : List ℤ) (e : ℕ) (near : (i : ℕ) → Near e (value_at p i) (value_at q i)) where
  near-greatest : (S : List ℕ) → gap (greatest_facing s p S) (greatest_facing s q S) ≤ e
  unfolding gap
  near-greatest S =
      omega (
        arith,
        greatest-away s p q e S (λ i. (same-measured s p q e near i, (near-amount (near i)).0)),
        greatest-away s q p e S (λ i. (sym (same-measured s p q e near i), (near-amount (near i)).1)),
      )

  -- its value; M; or M and the steps to S, which are the same in both
  near-worked-at : (S : List ℕ) (i : ℕ) → Near e (worked_at s p S (greatest_facing s p S) i) (worked_at s q S (greatest_facing s q S) i)
  unfolding worked_at gap
  near-worked-at S i =
      rw (same-measured s p q e near i)
      (go (is_in S i || (measured_non_negative (value_at q i) && facing s S i)) (facing s S i))
    where
      M : List ℤ → ℕ
      M values = greatest_facing s values S

      go : (t f : Bool)
          → Near e (cond t (value_at p i) (pos (cond f (M p) (M p + distance s S i)))) (cond t (value_at q i) (pos (cond f (M q) (M q + distance s S i))))
      go true f = near i
      go false true = moved (M p) (M q) (near-greatest S)
      go false false =
          let h = near-greatest S in
          moved (M p + distance s S i) (M q + distance s S i) (unfold gap in omega arith)

  near-worked : (i : ℕ) → Near e (distance_at (worked s p (inside s p)) i) (distance_at (worked s q (inside s q)) i)
  unfolding worked voxels
  near-worked =
      let S = inside s q in
      rw (near-inside s p q e near)
      (near-map (worked_at s p S (greatest_facing s p S)) (worked_at s q S (greatest_facing s q S)) (pos 0) (size s) (near-worked-at S))

-- ---- two accepted grids

dist-is : {s : Sides} {values : List ℤ} (a : AcceptedGrid s values) → let used = filled s values in (handed_by a).dist ≡ worked s used (inside s used)
dist-is {s} {values} (plain T marks dist status r e) =
    let used = filled s values in
    by-begin (λ g. g.dist ≡ worked s used (inside s used)) s T values marks dist status (λ accepted. refl) r e
dist-is {s} {values} (coarse T marks lent c e) = (coarse-body-is s T values marks lent c e).distances

module _ (s : Sides) (p q : List ℤ) (e : ℕ) (shaken : Shaken e p q) where
  near-used : (i : ℕ) → Near e (value_at (filled s p) i) (value_at (filled s q) i)
  near-used =
      near-filled s p q e (λ i. elim (shaken i) [
        | inl f ↦ rw f (same (value_at q i))
        | inr m ↦ near-moved (value_at p i) (value_at q i) m
      ])

  near-begun : (i : ℕ) → let v = filled s p in let w = filled s q in Near e (distance_at (worked s v (inside s v)) i) (distance_at (worked s w (inside s w)) i)
  near-begun = near-worked s (filled s p) (filled s q) e near-used

pub many-shaky-shots : ManyShakyShots
many-shaky-shots s p q one other e shaken =
    (near-inside s (filled s p) (filled s q) e (near-used s p q e shaken), λ i. rw (dist-is one, dist-is other) (near-away (near-begun s p q e shaken i)))

-- one shot is many
shot-shaken : (p q : List ℤ) (v e : ℕ) → OneShot p q v e → Shaken e p q
shot-shaken p q v e shot i =
    elim (ℕ_discrete i v) [
      | yes f ↦ rw f (inr (record { one = shot.one; other = shot.other; by = omega (arith, shot.by) }))
      | no n ↦ inl (shot.elsewhere i n)
    ]

pub one-shaky-shot : OneShakyShot
one-shaky-shot s p q one other v e shot = many-shaky-shots s p q one other e (shot-shaken p q v e shot)

-- ---- blocks

-- the lesser of two such values
near-lesser-pos : (e x y x' y' : ℕ) → gap x y ≤ e → gap x' y' ≤ e → Near e (lesser (pos x) (pos x')) (lesser (pos y) (pos y'))
unfolding gap
near-lesser-pos e x y x' y' h h' =
    elim (two (ltb x' x)) [
      | inl t ↦ elim (two (ltb y' y)) [
        | inl u ↦ rw (t, u) (moved x' y' h')
        | inr u ↦ rw (t, u) (moved x' y (omega (arith, ltb-true x' x t, ltb-false y' y u)))
      ]
      | inr t ↦ elim (two (ltb y' y)) [
        | inl u ↦ rw (t, u) (moved x y' (omega (arith, ltb-false x' x t, ltb-true y' y u)))
        | inr u ↦ rw (t, u) (moved x y h)
      ]
    ]

near-lesser : {e : ℕ} {u w u' w' : ℤ} → Near e u w → Near e u' w' → Near e (lesser u u') (lesser w w')
unfolding gap
near-lesser (same u) (same w) = same (lesser u w)
near-lesser (same (negsuc x)) (moved y z h) = same (negsuc x)
near-lesser {e} (same (pos x)) (moved y z h) = near-lesser-pos e x x y z (omega arith) h
near-lesser (moved x y h) (same (negsuc z)) = same (negsuc z)
near-lesser {e} (moved x y h) (same (pos z)) = near-lesser-pos e x y z z h (omega arith)
near-lesser {e} (moved x y h) (moved x' y' h') = near-lesser-pos e x y x' y' h h'

near-least : {e : ℕ} (f g : ℕ → ℤ) → ((i : ℕ) → Near e (f i) (g i)) → (is : List ℕ) {u w : ℤ} → Near e u w
    → Near e (least_from u (map f is)) (least_from w (map g is))
unfolding least_from
near-least f g near [] n = n
near-least f g near (i ∷ is) n = near-lesser (near i) (near-least f g near is n)

near-blocks : (s : Sides) (dist other : List ℤ) {e : ℕ} → ((i : ℕ) → Near e (distance_at dist i) (distance_at other i))
    → (j : ℕ) → Near e (distance_at (block_distances s dist) j) (distance_at (block_distances s other) j)
unfolding block_distances block_distance voxels
near-blocks s dist other {e} near =
    near-map (block_distance s dist) (block_distance s other) (pos 0) (size (halved s)) (λ j. go (eight s j))
  where
    go : (is : List ℕ) → Near e (least_of (map (distance_at dist) is)) (least_of (map (distance_at other) is))
    go [] = same (pos 0)
    go (i ∷ is) = near-least (distance_at dist) (distance_at other) near is (near i)

pub shaky-blocks : ShakyBlocks
shaky-blocks s T p marks lent c f s' T' q marks' lent' c' g sides e shaken j =
    let one = coarse-body-is s T p marks lent c f in
    let other = coarse-body-is s' T' q marks' lent' c' g in
    rw (one.least, one.distances, other.least, other.distances, ← sides)
    (near-away (near-blocks s _ _ (near-begun s p q e shaken) j))
