-- S of begin: the largest group of measured negative voxels, of equal ones the one with the smallest index, and no other set.
use mathlib.Core.Path.{◌≡◌, refl, ap, sym, ◌∙◌, subst}
use mathlib.Core.Logic.{◌⊎◌, inl, inr}
use mathlib.Core.Bool.{Bool, true, false, cond, ◌&&◌}
use mathlib.Core.List.{List, [], ◌∷◌}
use Prim.Native.Nat.{ℕ, ◌≤◌, ◌<◌}
use native.Mathlib.Omega.{arith}
use native.Mathlib.Decide.{dec_lt}
use lib.Dec.{ltb, eqb}
use lib.ListN.{length, get_or}
use lib.IntN.{ℤ}
use borrow.Author.Tests.{ltb-true, ltb-false, lt-ltb, eqb-true, eqb-false}
use Rattle.cells.specs.Groups.{filter, groups}
use Rattle.cells.specs.Linked.{Linked, stay, step, OnePiece}
use Rattle.prelude.proofs.Bools.{and-true, true-and, and-false, or-true, or-false, both_ways}
use Rattle.prelude.proofs.Lists.{Mem, here, there, mem-cons, filter-mem, mem-filter}
use Rattle.cells.proofs.Chains.{last-member, follow}
use Rattle.cells.proofs.Groups.{At, mem-none, at_lt, group-filled, group_of, group-member, group-linked, linked-group}
use Rattle.cells.proofs.GroupsAre.{among-mem, mem-among, mem-get_d, get_d-mem}
use Rattle.cells.proofs.GroupsSize.{Distinct, distinct-length, distinct_filter, distinct-at, groups-distinct}
use Rattle.rules.specs.declared.Sides.{Sides}
use Rattle.rules.specs.Grid.{Voxel, size, voxel, range, voxels, gap, near, touch, measured_negative, value_at}
use Rattle.rules.specs.Begin.{least, is_in, negatives, larger, largest, inside}
use Rattle.rules.specs.Meaning.{negative, GroupOf, EveryGroupIsFound, found, IsInside, InsideIsFound, FoundIsInside}
use Rattle.prelude.proofs.Ranges.{range-mem, mem-range}
use Rattle.rules.proofs.Foremost.{Rising, range-rising}
use Rattle.rules.proofs.InsideLeast.{least-le, least-mem}

-- ---- touching

pub gap-turn : (p q : ℕ) → gap p q ≡ gap q p
unfolding gap
gap-turn p q = omega arith

pub near-turn : (u v : Voxel) → near u v ≡ near v u
unfolding near
near-turn u v = rw (gap-turn u.x v.x, gap-turn u.y v.y, gap-turn u.z v.z)

pub touch-turn : (s : Sides) (i j : ℕ) → touch s i j ≡ touch s j i
unfolding touch
touch-turn s i j = near-turn (voxel s i) (voxel s j)

pub touch-back : (s : Sides) (i j : ℕ) → touch s i j ≡ true → touch s j i ≡ true
touch-back s i j e = touch-turn s j i ∙ e

-- ---- the list of voxels

pub rising-distinct : (xs : List ℕ) → Rising xs → Distinct xs
rising-distinct [] r = tt
rising-distinct (x ∷ xs) r = (λ m. (let h = r.0 x m in omega arith), rising-distinct xs r.1)

pub voxels-distinct : (s : Sides) → Distinct (voxels s)
unfolding voxels
voxels-distinct s = rising-distinct (range 0 (size s)) (range-rising 0 (size s))

pub voxels-mem : (s : Sides) (i : ℕ) → Mem i (voxels s) → i < size s
unfolding voxels
voxels-mem s i m = let h = range-mem 0 (size s) i m in omega arith

pub mem-voxels : (s : Sides) (i : ℕ) → i < size s → Mem i (voxels s)
unfolding voxels
mem-voxels s i h = mem-range 0 (size s) i (omega arith) (omega arith)

pub is_in-mem : (xs : List ℕ) (i : ℕ) → is_in xs i ≡ true → Mem i xs
unfolding is_in
is_in-mem xs i e = among-mem xs i e

pub mem-is_in : (xs : List ℕ) (i : ℕ) → Mem i xs → is_in xs i ≡ true
unfolding is_in
mem-is_in xs i m = mem-among xs i m

mem-length : (xs : List ℕ) (i : ℕ) → Mem i xs → 1 ≤ length xs
mem-length xs i here = omega arith
mem-length xs i (there m) = omega arith

-- ---- the largest of some groups

-- g is as large as h, and if no larger, then its smallest index is no greater
record AsGood (s : Sides) (g h : List ℕ) : Type 0 where
  size' : length h ≤ length g
  tie : length g ≡ length h → least (size s) g ≤ least (size s) h

good-trans : (s : Sides) (g h k : List ℕ) → AsGood s g h → AsGood s h k → AsGood s g k
good-trans s g h k a b =
    record {
      size' = (let p = a.size' in let q = b.size' in omega arith);
      tie = λ e.
          (let p = a.size' in
          let q = b.size' in
          let e₁ : length g ≡ length h = omega arith in
          let e₂ : length h ≡ length k = omega arith in
          let t = a.tie e₁ in
          let u = b.tie e₂ in
          omega arith);
    }

larger-good : (s : Sides) (g h : List ℕ) → larger s g h ≡ true → AsGood s g h
unfolding larger
larger-good s g h e = go (or-true (ltb (length h) (length g)) (eqb (length g) (length h) && ltb (least (size s) g) (least (size s) h)) e)
  where
    go : (ltb (length h) (length g) ≡ true) ⊎ (eqb (length g) (length h) && ltb (least (size s) g) (least (size s) h) ≡ true) → AsGood s g h
    go (inl p) = let l = ltb-true (length h) (length g) p in record { size' = omega arith; tie = λ q. omega arith }
    go (inr p) =
        let r = and-true (eqb (length g) (length h)) (ltb (least (size s) g) (least (size s) h)) p in
        let q = eqb-true (length g) (length h) r.0 in
        let l = ltb-true (least (size s) g) (least (size s) h) r.1 in
        record { size' = omega arith; tie = λ q. omega arith }

larger-not : (s : Sides) (g h : List ℕ) → larger s g h ≡ false → AsGood s h g
unfolding larger
larger-not s g h e =
    let r = or-false (ltb (length h) (length g)) (eqb (length g) (length h) && ltb (least (size s) g) (least (size s) h)) e in
    let l = ltb-false (length h) (length g) r.0 in
    record { size' = l; tie = λ q. go q (and-false (eqb (length g) (length h)) (ltb (least (size s) g) (least (size s) h)) r.1) }
  where
    go : length h ≡ length g → (eqb (length g) (length h) ≡ false) ⊎ (ltb (least (size s) g) (least (size s) h) ≡ false)
        → least (size s) h ≤ least (size s) g
    go q (inl p) = absurd (eqb-false (length g) (length h) p (sym q))
    go q (inr p) = ltb-false (least (size s) g) (least (size s) h) p

largest-good : (s : Sides) (gs : List (List ℕ))
    → ((h : List ℕ) → Mem h gs → AsGood s (largest s gs) h) × (1 ≤ length (largest s gs) → Mem (largest s gs) gs)
unfolding largest
largest-good s [] = (λ h m. absurd (mem-none m), λ l. (let z : ⊥ = omega arith in absurd z))
largest-good s (g ∷ gs) = go (larger s h g) refl (largest-good s gs)
  where
    h : List ℕ
    h = largest s gs

    go : (t : Bool) → larger s h g ≡ t → ((k : List ℕ) → Mem k gs → AsGood s h k) × (1 ≤ length h → Mem h gs)
        → ((k : List ℕ) → Mem k (g ∷ gs) → AsGood s (cond t h g) k) × (1 ≤ length (cond t h g) → Mem (cond t h g) (g ∷ gs))
    go true e ih =
        (λ k m. elim (mem-cons m) [ inl q ↦ subst (λ (x : List ℕ). AsGood s h x) (sym q) (larger-good s h g e) | inr n ↦ ih.0 k n ], λ l. there (ih.1 l))
    go false e ih = (
      λ k m. elim (mem-cons m) [
        | inl q ↦ subst (λ (x : List ℕ). AsGood s g x) (sym q) (record { size' = omega arith; tie = λ q. omega arith })
        | inr n ↦ good-trans s g h k (larger-not s h g e) (ih.0 k n)
      ],
      λ l. here,
    )

-- ---- the groups of measured negative voxels

module _ (s : Sides) (values : List ℤ) where
  -- in one group
  Near : ℕ → ℕ → Type 0
  Near i j = Linked (negative s values) (touch s) i j

  negative-mem : (i : ℕ) → Mem i (negatives s values) → negative s values i ≡ true
  unfolding negatives
  negative-mem i m =
      let r = filter-mem (λ i. measured_negative (value_at values i)) (voxels s) i m in
      true-and (ltb i (size s)) (measured_negative (value_at values i)) (lt-ltb i (size s) (voxels-mem s i r.0)) r.1

  mem-negative : (i : ℕ) → negative s values i ≡ true → Mem i (negatives s values)
  unfolding negatives
  mem-negative i e =
      let r = and-true (ltb i (size s)) (measured_negative (value_at values i)) e in
      mem-filter (λ i. measured_negative (value_at values i)) (voxels s) i (mem-voxels s i (ltb-true i (size s) r.0)) r.1

  pub negative-lt : (i : ℕ) → negative s values i ≡ true → i < size s
  negative-lt i e = ltb-true i (size s) (and-true (ltb i (size s)) (measured_negative (value_at values i)) e).0

  all : List (List ℕ)
  all = groups (touch s) (negatives s values)

  all-distinct : (k : ℕ) → Distinct (get_or all k [])
  unfolding all negatives
  all-distinct k =
      distinct-at (groups (touch s) (negatives s values)) k
      (groups-distinct (touch s) (negatives s values) (distinct_filter (λ i. measured_negative (value_at values i)) (voxels s) (voxels-distinct s)))

  all-filled : (k : ℕ) → k < length all → (i : ℕ) × (At all k i)
  unfolding all
  all-filled k h = group-filled (touch s) (touch-back s) (negative s values) (negatives s values) negative-mem mem-negative k h

  all_of : (i : ℕ) → negative s values i ≡ true → (k : ℕ) × (At all k i)
  unfolding all
  all_of i e = group_of (touch s) (touch-back s) (negative s values) (negatives s values) negative-mem mem-negative i e

  all-negative : (k i : ℕ) → At all k i → negative s values i ≡ true
  unfolding all
  all-negative k i a = group-member (touch s) (touch-back s) (negative s values) (negatives s values) negative-mem mem-negative k i a

  all-linked : (k i j : ℕ) → At all k i → At all k j → Near i j
  unfolding all Near
  all-linked k i j a b = group-linked (touch s) (touch-back s) (negative s values) (negatives s values) negative-mem mem-negative k i j a b

  all_whole : (k i j : ℕ) → Near i j → At all k i → At all k j
  unfolding all Near
  all_whole k i j l a = linked-group (touch s) (touch-back s) (negative s values) (negatives s values) negative-mem mem-negative k l a

  -- the size of a voxel's group, by any test that finds it
  found-size : (k v : ℕ) (test : ℕ → Bool) → At all k v → GroupOf s values v test → found s test ≡ length (get_or all k [])
  unfolding Near
  found-size k v test a g =
      distinct-length (filter test (voxels s)) (get_or all k []) (distinct_filter test (voxels s) (voxels-distinct s)) (all-distinct k)
      (λ i m. let r = filter-mem test (voxels s) i m in all_whole k v i (g.linked i (voxels-mem s i r.0) r.1) a)
      (λ i b. mem-filter test (voxels s) i (mem-voxels s i (negative-lt i (all-negative k i b))) (g.whole i (all-linked k v i a b)))

pub every-group-is-found : EveryGroupIsFound
unfolding Near
every-group-is-found s values v e =
    let r = all_of s values v e in
    let g : List ℕ = get_or (all s values) r.0 [] in (
      is_in g,
      record {
        linked = λ i h t. all-linked s values r.0 v i r.1 (is_in-mem g i t);
        whole = λ i l. mem-is_in g i (all_whole s values r.0 v i l r.1);
      },
    )

-- ---- S

module _ (s : Sides) (values : List ℤ) (v : ℕ) (e : negative s values v ≡ true) where
  best : (h : List ℕ) → Mem h (all s values) → AsGood s (inside s values) h
  unfolding inside all
  best h m = (largest-good s (groups (touch s) (negatives s values))).0 h m

  some : 1 ≤ length (inside s values)
  some =
      let r = all_of s values v e in
      let g : List ℕ = get_or (all s values) r.0 [] in
      let b = best g (get_d-mem [] (all s values) r.0 (at_lt (all s values) r.0 v r.1)) in
      omega (arith, b.size', mem-length g v r.1)

  -- S is the group at a place
  place : (k : ℕ) × (k < length (all s values)) × (get_or (all s values) k [] ≡ inside s values)
  unfolding inside all
  place = mem-get_d [] (inside s values) (groups (touch s) (negatives s values)) ((largest-good s (groups (touch s) (negatives s values))).1 some)

  inside-at : (i : ℕ) → Mem i (inside s values) → At (all s values) place.0 i
  inside-at i m = subst (λ (g : List ℕ). Mem i g) (sym place.2) m

  at-inside : (i : ℕ) → At (all s values) place.0 i → Mem i (inside s values)
  at-inside i a = subst (λ (g : List ℕ). Mem i g) place.2 a

  inside-negative : (i : ℕ) → Mem i (inside s values) → negative s values i ≡ true
  inside-negative i m = all-negative s values place.0 i (inside-at i m)

  seed : ℕ
  seed = least (size s) (inside s values)

  seed-mem : Mem seed (inside s values)
  unfolding seed
  seed-mem =
      let r = all-filled s values place.0 place.1 in
      let m = at-inside r.0 r.1 in
      let l = least-le (size s) (inside s values) r.0 m in
      let h = negative-lt s values r.0 (inside-negative r.0 m) in
      least-mem (size s) (inside s values) (omega arith)

  seed-le : (i : ℕ) → Mem i (inside s values) → seed ≤ i
  unfolding seed
  seed-le i m = least-le (size s) (inside s values) i m

  inside-group : (i : ℕ) → Mem i (inside s values) → GroupOf s values i (is_in (inside s values))
  unfolding Near
  inside-group i m =
      record {
        linked = λ j h t. all-linked s values place.0 i j (inside-at i m) (inside-at j (is_in-mem (inside s values) j t));
        whole = λ j l. mem-is_in (inside s values) j (at-inside j (all_whole s values place.0 i j l (inside-at i m)));
      }

  inside-size : found s (is_in (inside s values)) ≡ length (inside s values)
  inside-size =
      found-size s values place.0 seed (is_in (inside s values)) (inside-at seed seed-mem) (inside-group seed seed-mem)
      ∙ ap (λ (g : List ℕ). length g) place.2

  against : (w : ℕ) (other : ℕ → Bool) → negative s values w ≡ true → GroupOf s values w other
      → (found s other ≤ found s (is_in (inside s values))) × (found s other ≡ found s (is_in (inside s values)) → seed ≤ w)
  unfolding seed
  against w other f g =
      let r = all_of s values w f in
      let h : List ℕ = get_or (all s values) r.0 [] in
      let b = best h (get_d-mem [] (all s values) r.0 (at_lt (all s values) r.0 w r.1)) in
      let p = found-size s values r.0 w other r.1 g in (
        omega (arith, b.size', p, inside-size),
        λ q. omega (arith, b.tie (omega (arith, p, q, inside-size)), least-le (size s) h w r.1),
      )

  inside_found : IsInside s values (is_in (inside s values))
  inside_found =
      record {
        seed = seed;
        seeded = inside-negative seed seed-mem;
        group = inside-group seed seed-mem;
        smallest = λ i h t. seed-le i (is_in-mem (inside s values) i t);
        largest = λ w other f g. (against w other f g).0;
        first = λ w other f g l. (let a = against w other f g in apart w (found s other) (found s (is_in (inside s values))) a.0 a.1 l);
      }
    where
      apart : (w m n : ℕ) → m ≤ n → (m ≡ n → seed ≤ w) → w < seed → m < n
      apart w m n h f l = go (dec_lt m n)
        where
          go : Dec (m < n) → m < n
          go (yes k) = k
          go (no k) = let q : m ≡ n = omega arith in (let z : ⊥ = omega (arith, f q) in absurd z)

pub inside-is-found : InsideIsFound
inside-is-found s values v e = inside_found s values v e

-- ---- no other set is S

-- two tests that find S find the same voxels
pub found-same : (s : Sides) (values : List ℤ) (p q : ℕ → Bool) → IsInside s values p → IsInside s values q → (i : ℕ) → i < size s
    → p i ≡ true → q i ≡ true
found-same s values p q a b i h e =
    let same-seed = go (dec_lt a.seed b.seed) (dec_lt b.seed a.seed) in
    b.group.whole i (subst (λ (r : ℕ). Linked (negative s values) (touch s) r i) same-seed (a.group.linked i h e))
  where
    go : Dec (a.seed < b.seed) → Dec (b.seed < a.seed) → a.seed ≡ b.seed
    go (yes l) d =
        let u = b.first a.seed p a.seeded a.group l in
        let w = a.largest b.seed q b.seeded b.group in
        let z : ⊥ = omega arith in
        absurd z
    go (no l) (yes k) =
        let u = a.first b.seed q b.seeded b.group k in
        let w = b.largest a.seed p a.seeded a.group in
        let z : ⊥ = omega arith in
        absurd z
    go (no l) (no k) = omega arith

pub found-is-inside : FoundIsInside
found-is-inside s values test a i h =
    let b = inside-is-found s values a.seed a.seeded in
    both_ways (is_in (inside s values) i) (test i)
    (found-same s values (is_in (inside s values)) test b a i h) (found-same s values test (is_in (inside s values)) a b i h)

-- ---- what S is to others

module _ (s : Sides) (values : List ℤ) (v : ℕ) (e : negative s values v ≡ true) where
  pub inside-some : (i : ℕ) × (is_in (inside s values) i ≡ true)
  inside-some = (seed s values v e, mem-is_in (inside s values) (seed s values v e) (seed-mem s values v e))

  pub inside-touched : (i j : ℕ) → is_in (inside s values) i ≡ true → touch s i j ≡ true → negative s values j ≡ true → is_in (inside s values) j ≡ true
  inside-touched i j m t n =
      let a = is_in-mem (inside s values) i m in
      (inside-group s values v e i a).whole j (step (stay (inside-negative s values v e i a)) t n)

  -- S is in one piece
  pub inside-one-piece : OnePiece (is_in (inside s values)) (touch s)
  inside-one-piece i j m n =
      let a = is_in-mem (inside s values) i m in
      let l = (inside-group s values v e i a).linked j (negative-lt s values j (inside-negative s values v e j (is_in-mem (inside s values) j n))) n in
      follow (λ k. Linked (is_in (inside s values)) (touch s) i k)
      (λ k h p t q. step p t (inside-touched k h (last-member p) t q)) l (stay m)

-- the members of S are measured negative voxels of the grid
pub inside-members : (s : Sides) (values : List ℤ) (i : ℕ) → is_in (inside s values) i ≡ true → negative s values i ≡ true
unfolding inside all
inside-members s values i m =
    let a = is_in-mem (inside s values) i m in
    let gs : List (List ℕ) = groups (touch s) (negatives s values) in
    let q = mem-get_d [] (largest s gs) gs ((largest-good s gs).1 (mem-length (inside s values) i a)) in
    all-negative s values q.0 i (subst (λ (g : List ℕ). Mem i g) (sym q.2) a)
