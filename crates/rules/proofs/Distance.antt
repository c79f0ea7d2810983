-- Index and coordinates give each other back. The distance of a voxel from S is the number of steps to the nearest voxel of S; at 0 it is in S, at 1 beside it.
use mathlib.Core.Path.{◌≡◌, refl, ap, ap₂, sym, ◌∙◌, subst}
use mathlib.Core.Logic.{◌⊎◌, inl, inr}
use mathlib.Core.Bool.{Bool, true, false, cond, ◌&&◌, ◌||◌}
use mathlib.Core.List.{List, map}
use Prim.Native.Nat.{ℕ, zero, suc, ◌+◌, ◌*◌, ◌≤◌, ◌<◌}
use native.Mathlib.Omega.{arith}
use native.Mathlib.Nat.{zero-mul}
use lib.Dec.{eqb}
use lib.IntN.{ℤ, pos}
use borrow.Author.Tests.{eqb-true, eq-eqb}
use Rattle.cells.specs.Groups.{filter}
use Rattle.prelude.proofs.Bools.{and-true, true-and, not-both, both_ways}
use Rattle.prelude.proofs.Lists.{Mem, any-true, true-any, filter-mem, mem-filter}
use Rattle.rules.specs.declared.Sides.{Sides}
use Rattle.rules.specs.Grid.{size, index, voxel, gap, apart, taxicab, share_face, voxels, measured_non_negative, amount, value_at}
use Rattle.rules.specs.Begin.{greatest, is_in, inside, facing, greatest_facing, distance, worked_at}
use Rattle.rules.specs.Meaning.{VoxelOfIndex, IndexOfVoxel, negative, SomeVoxels, Nearest, DistanceIsNearest, DistanceTells}
use Rattle.rules.specs.Meaning.{GreatestBeside, GreatestIsBeside}
use Rattle.rules.proofs.Places.{InGrid, voxel-eq, index-voxel, voxel-index, index-lt, voxel-in}
use Rattle.rules.proofs.InsideLeast.{least-le, least-mem, start-le, le-greatest, greatest-is, mem-map, map-mem}
use Rattle.rules.proofs.Inside.{voxels-mem, mem-voxels, is_in-mem, mem-is_in, negative-lt, inside-some, inside-members}

-- ---- a grid with a voxel has no empty side

pub sides-positive : (s : Sides) (i : ℕ) → i < size s → (0 < s.a) × (0 < s.b) × (0 < s.c)
unfolding size
sides-positive s i h = (go-a s.a s.b s.c i h, go-b s.a s.b s.c i h, go-c s.a s.b s.c i h)
  where
    go-a : (a b c i : ℕ) → i < a * b * c → 0 < a
    go-a zero b c i h = let z : ⊥ = omega (arith, zero-mul b, zero-mul c, h) in absurd z
    go-a (suc a) b c i h = omega arith

    go-b : (a b c i : ℕ) → i < a * b * c → 0 < b
    go-b a zero c i h = let z : ⊥ = omega (arith, zero-mul c, h) in absurd z
    go-b a (suc b) c i h = omega arith

    go-c : (a b c i : ℕ) → i < a * b * c → 0 < c
    go-c a b zero i h = omega arith
    go-c a b (suc c) i h = omega arith

pub voxel-inside : (s : Sides) (i : ℕ) → i < size s → InGrid s (voxel s i)
voxel-inside s i h = let p = sides-positive s i h in voxel-in s i p.0 p.1 h

pub voxel-of-index : VoxelOfIndex
voxel-of-index s i h = let p = sides-positive s i h in (voxel-inside s i h, index-voxel s i p.0 p.1)

pub index-of-voxel : IndexOfVoxel
index-of-voxel s v g = (index-lt s v g, voxel-index s v g.x-in g.y-in)

-- ---- steps

gap-lt : (n p q : ℕ) → p < n → q < n → gap p q < n
unfolding gap
gap-lt n p q h k = omega arith

pub gap-zero : (p q : ℕ) → gap p q ≡ 0 → p ≡ q
unfolding gap
gap-zero p q e = omega arith

pub gap-none : (p : ℕ) → gap p p ≡ 0
unfolding gap
gap-none p = omega arith

pub taxicab-lt : (s : Sides) (i j : ℕ) → i < size s → j < size s → taxicab s i j < s.a + s.b + s.c
unfolding taxicab apart
taxicab-lt s i j h k =
    let p = voxel-inside s i h in
    let q = voxel-inside s j k in
    let x = gap-lt s.a (voxel s i).x (voxel s j).x p.x-in q.x-in in
    let y = gap-lt s.b (voxel s i).y (voxel s j).y p.y-in q.y-in in
    let z = gap-lt s.c (voxel s i).z (voxel s j).z p.z-in q.z-in in
    omega arith

pub taxicab-self : (s : Sides) (i : ℕ) → taxicab s i i ≡ 0
unfolding taxicab apart
taxicab-self s i = rw (gap-none (voxel s i).x, gap-none (voxel s i).y, gap-none (voxel s i).z)

pub taxicab-zero : (s : Sides) (i j : ℕ) → i < size s → taxicab s i j ≡ 0 → i ≡ j
unfolding taxicab apart
taxicab-zero s i j h e =
    let p = sides-positive s i h in
    let x = gap-zero (voxel s i).x (voxel s j).x (omega arith) in
    let y = gap-zero (voxel s i).y (voxel s j).y (omega arith) in
    let z = gap-zero (voxel s i).z (voxel s j).z (omega arith) in
    sym (index-voxel s i p.0 p.1) ∙ ap (index s) (voxel-eq (voxel s i) (voxel s j) x y z) ∙ index-voxel s j p.0 p.1

-- ---- the nearest voxel of S

module _ (s : Sides) (S : List ℕ) where
  pub distance-le : (i j : ℕ) → is_in S j ≡ true → distance s S i ≤ taxicab s i j
  unfolding distance
  distance-le i j m = least-le (s.a + s.b + s.c) (map (taxicab s i) S) (taxicab s i j) (mem-map (taxicab s i) S j (is_in-mem S j m))

module _ (s : Sides) (S : List ℕ) (v : SomeVoxels s S) (i : ℕ) (h : i < size s) where
  pub distance-lt : distance s S i < s.a + s.b + s.c
  distance-lt = let p = v.filled in omega (arith, distance-le s S i p.0 p.1, taxicab-lt s i p.0 h (v.within p.0 p.1))

  pub distance-nearest : Nearest s S i (distance s S i)
  unfolding distance
  distance-nearest =
      let r = map-mem (taxicab s i) S (distance s S i) (least-mem (s.a + s.b + s.c) (map (taxicab s i) S) distance-lt) in
      record { nearest = r.0; listed = mem-is_in S r.0 r.1; away = sym r.2; none-nearer = distance-le s S i }

  pub nearest-distance : (d : ℕ) → Nearest s S i d → distance s S i ≡ d
  nearest-distance d n =
      let p = distance-nearest in
      let l = distance-le s S i n.nearest n.listed in
      let k = n.none-nearer p.nearest p.listed in
      omega (arith, p.away, n.away)

  pub in-distance : is_in S i ≡ true → distance s S i ≡ 0
  in-distance m = omega (arith, distance-le s S i i m, taxicab-self s i)

  pub distance-in : distance s S i ≡ 0 → is_in S i ≡ true
  distance-in e =
      let p = distance-nearest in
      subst (λ (j : ℕ). is_in S j ≡ true) (sym (taxicab-zero s i p.nearest h (p.away ∙ e))) p.listed

  pub facing-distance : is_in S i ≡ false → facing s S i ≡ true → distance s S i ≡ 1
  unfolding facing share_face
  facing-distance o f =
      let r = any-true (share_face s i) S f in
      let e = eqb-true (taxicab s i r.0) 1 r.2 in
      let l = distance-le s S i r.0 (mem-is_in S r.0 r.1) in
      let z : distance s S i ≡ 0 → ⊥ = λ q. not-both (is_in S i) (distance-in q) o in
      omega arith

  pub distance-facing : distance s S i ≡ 1 → facing s S i ≡ true
  unfolding facing share_face
  distance-facing e =
      let p = distance-nearest in
      true-any (share_face s i) S p.nearest (is_in-mem S p.nearest p.listed) (eq-eqb (taxicab s i p.nearest) 1 (p.away ∙ e))

  -- both tests by the distance alone
  pub in-eqb : is_in S i ≡ eqb (distance s S i) 0
  in-eqb =
      both_ways (is_in S i) (eqb (distance s S i) 0) (λ m. eq-eqb (distance s S i) 0 (in-distance m)) (λ e. distance-in (eqb-true (distance s S i) 0 e))

  pub facing-eqb : is_in S i ≡ false → facing s S i ≡ eqb (distance s S i) 1
  facing-eqb o =
      both_ways (facing s S i) (eqb (distance s S i) 1) (λ f. eq-eqb (distance s S i) 1 (facing-distance o f))
      (λ e. distance-facing (eqb-true (distance s S i) 1 e))

pub distance-is-nearest : DistanceIsNearest
distance-is-nearest s S v i h d = (λ e. subst (λ (n : ℕ). Nearest s S i n) e (distance-nearest s S v i h), nearest-distance s S v i h d)

pub distance-tells : DistanceTells
distance-tells s S v i h = ((in-distance s S v i h, distance-in s S v i h), λ o. (facing-distance s S v i h o, distance-facing s S v i h))

-- S of begin
pub inside-voxels : (s : Sides) (values : List ℤ) (v : ℕ) → negative s values v ≡ true → SomeVoxels s (inside s values)
inside-voxels s values v e = record { filled = inside-some s values v e; within = λ i m. negative-lt s values i (inside-members s values i m) }

-- ---- the worked distance by d alone

pub worked-by-distance : (s : Sides) (values : List ℤ) (S : List ℕ) (M : ℕ) → SomeVoxels s S → (i : ℕ) → i < size s
    → worked_at s values S M i
    ≡ cond (eqb (distance s S i) 0 || (measured_non_negative (value_at values i) && eqb (distance s S i) 1)) (value_at values i)
    (pos (cond (eqb (distance s S i) 1) M (M + distance s S i)))
unfolding worked_at
worked-by-distance s values S M v i h = go (is_in S i) refl
  where
    n : Bool
    n = measured_non_negative (value_at values i)

    d : ℕ
    d = distance s S i

    form : Bool → Bool → ℤ
    form p q = cond (p || (n && q)) (value_at values i) (pos (cond q M (M + d)))

    go : (t : Bool) → is_in S i ≡ t → form (is_in S i) (facing s S i) ≡ form (eqb d 0) (eqb d 1)
    go true e =
        ap (λ (p : Bool). form p (facing s S i)) e ∙ sym (ap (λ (p : Bool). form p (eqb d 1)) (sym (in-eqb s S v i h) ∙ e))
    go false e = ap₂ form (in-eqb s S v i h) (facing-eqb s S v i h e)

-- ---- M

pub greatest-beside : (s : Sides) (values : List ℤ) (S : List ℕ) → GreatestBeside s values S (greatest_facing s values S)
unfolding greatest_facing
greatest-beside s values S =
    record { one = start-le 1 amounts; none-greater = none; reached = reached (greatest-is 1 amounts) }
  where
    beside : ℕ → Bool
    beside i = measured_non_negative (value_at values i) && facing s S i

    amounts : List ℕ
    amounts = map (λ i. amount (value_at values i)) (filter beside (voxels s))

    none : (i : ℕ) → i < size s → measured_non_negative (value_at values i) ≡ true → facing s S i ≡ true → amount (value_at values i) ≤ greatest 1 amounts
    none i h m f =
        le-greatest 1 amounts (amount (value_at values i))
        (mem-map (λ i. amount (value_at values i)) (filter beside (voxels s)) i
        (mem-filter beside (voxels s) i (mem-voxels s i h) (true-and (measured_non_negative (value_at values i)) (facing s S i) m f)))

    reached : (greatest 1 amounts ≡ 1) ⊎ (Mem (greatest 1 amounts) amounts)
        → (greatest 1 amounts ≡ 1)
        ⊎ ((i : ℕ) × (i < size s) × (measured_non_negative (value_at values i) ≡ true) × (facing s S i ≡ true) × (amount (value_at values i) ≡ greatest 1 amounts))
    reached (inl e) = inl e
    reached (inr m) =
        let r = map-mem (λ i. amount (value_at values i)) (filter beside (voxels s)) (greatest 1 amounts) m in
        let q = filter-mem beside (voxels s) r.0 r.1 in
        let p = and-true (measured_non_negative (value_at values r.0)) (facing s S r.0) q.1 in
        inr (r.0, voxels-mem s r.0 q.0, p.0, p.1, sym r.2)

pub beside-unique : (s : Sides) (values : List ℤ) (S : List ℕ) (m n : ℕ) → GreatestBeside s values S m → GreatestBeside s values S n → m ≤ n
beside-unique s values S m n a b =
    elim a.reached [
      | inl e ↦ omega (arith, b.one)
      | inr r ↦ omega (arith, b.none-greater r.0 r.1 r.2 r.3, r.4)
    ]

pub greatest-is-beside : GreatestIsBeside
greatest-is-beside s values S M = (
  λ e. subst (λ (n : ℕ). GreatestBeside s values S n) e (greatest-beside s values S),
  λ b.
      let a = greatest-beside s values S in
      let p = beside-unique s values S M (greatest_facing s values S) b a in
      let q = beside-unique s values S (greatest_facing s values S) M a b in
      omega arith,
)
