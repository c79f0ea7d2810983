-- Splitting each voxel of a body in two by two by two keeps its Euler number.
use mathlib.Core.Path.{◌≡◌, refl, ap, ◌∙◌}
use mathlib.Core.Bool.{Bool, true, false, ◌||◌}
use Prim.Native.Nat.{ℕ, zero, suc, ◌+◌, ◌*◌, ◌/◌}
use native.Mathlib.Omega.{arith}
use lib.IntN.{+ℤ_idr}
use Rattle.cells.specs.Cells.{bit}
use Rattle.rules.specs.declared.Sides.{Sides}
use Rattle.rules.specs.Body.{Voxels, Piece, plane, stretch, some, covered, sum, sum3, corners, edges, faces, cubes, euler_of}
use Rattle.rules.proofs.Topology.Sum.{sum-ext}
use Rattle.rules.proofs.Topology.Cells.{some-ext, piece, extent, count}
use Rattle.prelude.proofs.Differences.{add-difference}

-- ---- along one axis: an even plane lies on a coarse plane, an odd one and every stretch within a coarse stretch

or_self : (p : Bool) → (p || p) ≡ p
or_self true = refl
or_self false = refl

module _ (t : ℕ → Bool) where
  abbrev half : ℕ → Bool
  half x = t (x / 2)

  some-even : (k : Bool) (i : ℕ) → some (piece k (2 * i)) half ≡ some (piece k i) t
  unfolding some
  some-even true zero = refl
  some-even true (suc i) =
      let e : 2 * suc i ≡ suc (suc (2 * i)) = omega arith in
      let p : suc (2 * i) / 2 ≡ i = omega arith in
      let q : suc (suc (2 * i)) / 2 ≡ suc i = omega arith in
      ap (λ (n : ℕ). some (plane n) half) e ∙ ap (λ (n : ℕ). t n || t (suc (suc (2 * i)) / 2)) p ∙ ap (λ (n : ℕ). t i || t n) q
  some-even false i = let p : 2 * i / 2 ≡ i = omega arith in ap t p

  some-odd : (k : Bool) (i : ℕ) → some (piece k (suc (2 * i))) half ≡ some (piece false i) t
  unfolding some
  some-odd true i =
      let p : 2 * i / 2 ≡ i = omega arith in
      let q : suc (2 * i) / 2 ≡ i = omega arith in
      ap (λ (n : ℕ). t n || t (suc (2 * i) / 2)) p ∙ ap (λ (n : ℕ). t i || t n) q ∙ or_self (t i)
  some-odd false i = let q : suc (2 * i) / 2 ≡ i = omega arith in ap t q

-- fine pieces of a kind: the coarse ones of that kind, and the coarse stretches
module _ (f P S : ℕ → ℕ) (even : (i : ℕ) → f (2 * i) ≡ P i) (odd : (i : ℕ) → f (suc (2 * i)) ≡ S i) where
  sum_twice : (n : ℕ) → sum (2 * n) f ≡ sum n P + sum n S
  unfolding sum
  sum_twice zero = refl
  sum_twice (suc n) =
      let e : 2 * suc n ≡ suc (suc (2 * n)) = omega arith in
      ap (λ (m : ℕ). sum m f) e ∙ omega (arith, sum_twice n, even n, odd n)

  sum-fine : (k : Bool) (n : ℕ) → sum (extent k (2 * n)) f ≡ sum (extent k n) P + sum n S
  unfolding sum
  sum-fine true n = omega (arith, sum_twice n, even n)
  sum-fine false n = sum_twice n

sum-add : (n : ℕ) (f g : ℕ → ℕ) → sum n (λ i. f i + g i) ≡ sum n f + sum n g
unfolding sum
sum-add zero f g = refl
sum-add (suc n) f g = omega (arith, sum-add n f g)

-- ---- one axis after the other

abbrev finer-x : Voxels → Voxels
finer-x body x y z = body (x / 2) y z

abbrev finer-y : Voxels → Voxels
finer-y body x y z = body x (y / 2) z

abbrev finer-z : Voxels → Voxels
finer-z body x y z = body x y (z / 2)

abbrev double-x : Sides → Sides
double-x s = record { a = 2 * s.a; b = s.b; c = s.c }

abbrev double-y : Sides → Sides
double-y s = record { a = s.a; b = 2 * s.b; c = s.c }

abbrev double-z : Sides → Sides
double-z s = record { a = s.a; b = s.b; c = 2 * s.c }

module _ (s : Sides) (body : Voxels) where
  count-x : (k l m : Bool) → count (double-x s) k l m (finer-x body) ≡ count s k l m body + count s false l m body
  unfolding count sum3 covered
  count-x k l m =
      let cell : Piece → ℕ → ℕ → ℕ = λ p j h. bit (some p (λ x. some (piece l j) (λ y. some (piece m h) (λ z. body x y z)))) in
      let fine : ℕ → ℕ → ℕ → ℕ = λ i j h. bit (some (piece k i) (λ x. some (piece l j) (λ y. some (piece m h) (λ z. body (x / 2) y z)))) in
      let B : ℕ = extent l s.b in
      let C : ℕ = extent m s.c in
      sum-fine (λ i. sum B (λ j. sum C (λ h. fine i j h))) (λ i. sum B (λ j. sum C (λ h. cell (piece k i) j h)))
      (λ i. sum B (λ j. sum C (λ h. cell (stretch i) j h)))
      (λ i. sum-ext B (λ j. sum C (λ h. fine (2 * i) j h)) (λ j. sum C (λ h. cell (piece k i) j h)) (λ j _.
      sum-ext C (λ h. fine (2 * i) j h) (λ h. cell (piece k i) j h) (λ h _.
      ap (λ (t : Bool). bit t) (some-even (λ x. some (piece l j) (λ y. some (piece m h) (λ z. body x y z))) k i))))
      (λ i. sum-ext B (λ j. sum C (λ h. fine (suc (2 * i)) j h)) (λ j. sum C (λ h. cell (stretch i) j h)) (λ j _.
      sum-ext C (λ h. fine (suc (2 * i)) j h) (λ h. cell (stretch i) j h) (λ h _.
      ap (λ (t : Bool). bit t) (some-odd (λ x. some (piece l j) (λ y. some (piece m h) (λ z. body x y z))) k i))))
      k s.a

  count-y : (k l m : Bool) → count (double-y s) k l m (finer-y body) ≡ count s k l m body + count s k false m body
  unfolding count sum3 covered
  count-y k l m =
      let cell : ℕ → Piece → ℕ → ℕ = λ i q h. bit (some (piece k i) (λ x. some q (λ y. some (piece m h) (λ z. body x y z)))) in
      let fine : ℕ → ℕ → ℕ → ℕ = λ i j h. bit (some (piece k i) (λ x. some (piece l j) (λ y. some (piece m h) (λ z. body x (y / 2) z)))) in
      let A : ℕ = extent k s.a in
      let C : ℕ = extent m s.c in
      sum-ext A (λ i. sum (extent l (2 * s.b)) (λ j. sum C (λ h. fine i j h)))
      (λ i. sum (extent l s.b) (λ j. sum C (λ h. cell i (piece l j) h)) + sum s.b (λ j. sum C (λ h. cell i (stretch j) h))) (λ i _.
      sum-fine (λ j. sum C (λ h. fine i j h)) (λ j. sum C (λ h. cell i (piece l j) h)) (λ j. sum C (λ h. cell i (stretch j) h))
      (λ j. sum-ext C (λ h. fine i (2 * j) h) (λ h. cell i (piece l j) h) (λ h _.
      ap (λ (t : Bool). bit t) (some-ext (piece k i) (λ x. some (piece l (2 * j)) (λ y. some (piece m h) (λ z. body x (y / 2) z)))
      (λ x. some (piece l j) (λ y. some (piece m h) (λ z. body x y z))) (λ x _. some-even (λ y. some (piece m h) (λ z. body x y z)) l j))))
      (λ j. sum-ext C (λ h. fine i (suc (2 * j)) h) (λ h. cell i (stretch j) h) (λ h _.
      ap (λ (t : Bool). bit t) (some-ext (piece k i) (λ x. some (piece l (suc (2 * j))) (λ y. some (piece m h) (λ z. body x (y / 2) z)))
      (λ x. some (stretch j) (λ y. some (piece m h) (λ z. body x y z))) (λ x _. some-odd (λ y. some (piece m h) (λ z. body x y z)) l j))))
      l s.b)
      ∙ sum-add A (λ i. sum (extent l s.b) (λ j. sum C (λ h. cell i (piece l j) h))) (λ i. sum s.b (λ j. sum C (λ h. cell i (stretch j) h)))

  count-z : (k l m : Bool) → count (double-z s) k l m (finer-z body) ≡ count s k l m body + count s k l false body
  unfolding count sum3 covered
  count-z k l m =
      let cell : ℕ → ℕ → Piece → ℕ = λ i j r. bit (some (piece k i) (λ x. some (piece l j) (λ y. some r (λ z. body x y z)))) in
      let fine : ℕ → ℕ → ℕ → ℕ = λ i j h. bit (some (piece k i) (λ x. some (piece l j) (λ y. some (piece m h) (λ z. body x y (z / 2))))) in
      let A : ℕ = extent k s.a in
      let B : ℕ = extent l s.b in
      let P : ℕ → ℕ → ℕ = λ i j. sum (extent m s.c) (λ h. cell i j (piece m h)) in
      let S : ℕ → ℕ → ℕ = λ i j. sum s.c (λ h. cell i j (stretch h)) in
      sum-ext A (λ i. sum B (λ j. sum (extent m (2 * s.c)) (λ h. fine i j h))) (λ i. sum B (P i) + sum B (S i)) (λ i _.
      sum-ext B (λ j. sum (extent m (2 * s.c)) (λ h. fine i j h)) (λ j. P i j + S i j) (λ j _.
      sum-fine (λ h. fine i j h) (λ h. cell i j (piece m h)) (λ h. cell i j (stretch h))
      (λ h. ap (λ (t : Bool). bit t) (
      some-ext (piece k i) (λ x. some (piece l j) (λ y. some (piece m (2 * h)) (λ z. body x y (z / 2))))
      (λ x. some (piece l j) (λ y. some (piece m h) (λ z. body x y z))) (λ x _.
      some-ext (piece l j) (λ y. some (piece m (2 * h)) (λ z. body x y (z / 2))) (λ y. some (piece m h) (λ z. body x y z)) (λ y _.
      some-even (λ z. body x y z) m h))))
      (λ h. ap (λ (t : Bool). bit t) (
      some-ext (piece k i) (λ x. some (piece l j) (λ y. some (piece m (suc (2 * h))) (λ z. body x y (z / 2))))
      (λ x. some (piece l j) (λ y. some (stretch h) (λ z. body x y z))) (λ x _.
      some-ext (piece l j) (λ y. some (piece m (suc (2 * h))) (λ z. body x y (z / 2))) (λ y. some (stretch h) (λ z. body x y z)) (λ y _.
      some-odd (λ z. body x y z) m h))))
      m s.c)
      ∙ sum-add B (P i) (S i))
      ∙ sum-add A (λ i. sum B (P i)) (λ i. sum B (S i))

-- ---- the Euler number, from the eight counts

module _ (s t : Sides) (body other : Voxels) where
  euler-counts :
      count s true true true body + (count s true false false body + count s false true false body + count s false false true body)
      + (count t false true true other + count t true false true other + count t true true false other + count t false false false other)
      ≡ count t true true true other + (count t true false false other + count t false true false other + count t false false true other)
      + (count s false true true body + count s true false true body + count s true true false body + count s false false false body)
      → euler_of t other ≡ euler_of s body
  unfolding euler_of corners edges faces cubes count covered some
  euler-counts h =
      add-difference (corners s body) (edges s body) (faces s body) (cubes s body) 0 0 (corners t other) (edges t other) (faces t other) (cubes t other)
      (omega arith)
      ∙ +ℤ_idr (euler_of s body)

euler-x : (s : Sides) (body : Voxels) → euler_of (double-x s) (finer-x body) ≡ euler_of s body
euler-x s body =
    euler-counts s (double-x s) body (finer-x body) (omega (
      arith,
      count-x s body true true true,
      count-x s body true true false,
      count-x s body true false true,
      count-x s body true false false,
      count-x s body false true true,
      count-x s body false true false,
      count-x s body false false true,
      count-x s body false false false,
    ))

euler-y : (s : Sides) (body : Voxels) → euler_of (double-y s) (finer-y body) ≡ euler_of s body
euler-y s body =
    euler-counts s (double-y s) body (finer-y body) (omega (
      arith,
      count-y s body true true true,
      count-y s body true true false,
      count-y s body true false true,
      count-y s body true false false,
      count-y s body false true true,
      count-y s body false true false,
      count-y s body false false true,
      count-y s body false false false,
    ))

euler-z : (s : Sides) (body : Voxels) → euler_of (double-z s) (finer-z body) ≡ euler_of s body
euler-z s body =
    euler-counts s (double-z s) body (finer-z body) (omega (
      arith,
      count-z s body true true true,
      count-z s body true true false,
      count-z s body true false true,
      count-z s body true false false,
      count-z s body false true true,
      count-z s body false true false,
      count-z s body false false true,
      count-z s body false false false,
    ))

-- ---- each voxel in eight

unfoldable pub finer : Voxels → Voxels
finer body x y z = body (x / 2) (y / 2) (z / 2)

abbrev pub doubled : Sides → Sides
doubled s = record { a = 2 * s.a; b = 2 * s.b; c = 2 * s.c }

pub euler-finer : (s : Sides) (body : Voxels) → euler_of (doubled s) (finer body) ≡ euler_of s body
unfolding finer
euler-finer s body =
    euler-x (double-y (double-z s)) (finer-y (finer-z body)) ∙ euler-y (double-z s) (finer-z body) ∙ euler-z s body
