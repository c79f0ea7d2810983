-- A solid box of voxels has the Euler number 1.
use mathlib.Core.Path.{◌≡◌, refl, ap, sym, ◌∙◌}
use mathlib.Core.Logic.{inl, inr}
use mathlib.Core.Bool.{Bool, true, false, ◌&&◌, ◌||◌}
use Prim.Native.Nat.{ℕ, zero, suc, ◌+◌, ◌-◌, ◌*◌, ◌≤◌, ◌<◌}
use native.Mathlib.Omega.{arith}
use native.Mathlib.Decide.{dec_le}
use lib.Dec.{leb}
use lib.IntN.{pos}
use borrow.Author.Tests.{leb-true, le-leb, lt-leb}
use Rattle.cells.specs.Cells.{bit}
use Rattle.prelude.proofs.Bools.{and-true, true-and, and_zero}
use Rattle.prelude.proofs.Differences.{difference}
use Rattle.rules.specs.declared.Sides.{Sides}
use Rattle.rules.specs.Body.{Voxels, Piece, plane, stretch, some, covered, sum, sum3, corners, edges, faces, cubes, euler_of, Has}
use Rattle.rules.proofs.Topology.Sum.{Off, local, sum-ext, win-all}
use Rattle.rules.proofs.Topology.Cells.{some_out, some-none, some-ext, piece, extent, count}

-- low ≤ i ≤ high
unfoldable pub among : ℕ → ℕ → ℕ → Bool
among low high i = leb low i && leb i high

pub record Bounds : Type 0 where
  pub x0 : ℕ
  pub x1 : ℕ
  pub y0 : ℕ
  pub y1 : ℕ
  pub z0 : ℕ
  pub z1 : ℕ

unfoldable pub box : Bounds → Voxels
box b x y z = among b.x0 b.x1 x && (among b.y0 b.y1 y && among b.z0 b.z1 z)

pub among_in : (low high i : ℕ) → low ≤ i → i ≤ high → among low high i ≡ true
unfolding among
among_in low high i h k = true-and (leb low i) (leb i high) (le-leb low i h) (le-leb i high k)

pub in-among : (low high i : ℕ) → among low high i ≡ true → (low ≤ i) × (i ≤ high)
unfolding among
in-among low high i e = let r = and-true (leb low i) (leb i high) e in (leb-true low i r.0, leb-true i high r.1)

pub among_below : (low high i : ℕ) → i < low → among low high i ≡ false
unfolding among
among_below low high i h = ap (λ (t : Bool). t && leb i high) (lt-leb low i h)

among-above : (low high i : ℕ) → high < i → among low high i ≡ false
unfolding among
among-above low high i h = ap (λ (t : Bool). leb low i && t) (lt-leb i high h) ∙ and_zero (leb low i)

-- ---- along one axis: planes are one more than stretches

sum-zero : (n : ℕ) → sum n (λ i. 0) ≡ 0
unfolding sum
sum-zero zero = refl
sum-zero (suc n) = omega (arith, sum-zero n)

-- a sum that is 1 on the w places from p on, and 0 elsewhere
sum-range : (n w p : ℕ) (f : ℕ → ℕ) → p + w ≤ n → ((i : ℕ) → p ≤ i → i < p + w → f i ≡ 1) → ((i : ℕ) → Off w p i → f i ≡ 0) → sum n f ≡ w
sum-range n w p f l h o =
    omega (arith, local n w p f (λ i. 0) l (λ i _ d. o i d), win-all w p 1 f h, win-all w p 0 (λ i. 0) (λ i _ _. refl), sum-zero n)

-- how many pieces of a kind a stretch of voxels has
unfoldable axis : Bool → ℕ → ℕ → ℕ → ℕ
axis k n low high = sum (extent k n) (λ i. bit (some (piece k i) (among low high)))

module _ (n low high : ℕ) (some_in : low ≤ high) (in-side : high < n) where
  stretches : axis false n low high ≡ suc high - low
  unfolding axis some
  stretches =
      sum-range n (suc high - low) low (λ i. bit (among low high i)) (omega arith)
      (λ i l k. ap (λ (t : Bool). bit t) (among_in low high i l (omega arith))) off
    where
      off : (i : ℕ) → Off (suc high - low) low i → bit (among low high i) ≡ 0
      off i (inl o) = ap (λ (t : Bool). bit t) (among_below low high i o)
      off i (inr o) = ap (λ (t : Bool). bit t) (among-above low high i (omega arith))

  planes : axis true n low high ≡ suc (suc high) - low
  unfolding axis
  planes =
      sum-range (suc n) (suc (suc high) - low) low (λ i. bit (some (plane i) (among low high))) (omega arith)
      (λ i l k. ap (λ (t : Bool). bit t) (on i l (omega arith) (dec_le i high)))
      (λ i o. ap (λ (t : Bool). bit t) (some-none (plane i) (among low high) (λ j m. off i j o m)))
    where
      on : (i : ℕ) → low ≤ i → i ≤ suc high → Dec (i ≤ high) → some (plane i) (among low high) ≡ true
      on i l k (yes e) = some_out (plane i) (among low high) i (inl refl) (among_in low high i l e)
      on i l k (no e) = some_out (plane i) (among low high) high (inr (omega arith)) (among_in low high high some_in (omega arith))

      off : (i j : ℕ) → Off (suc (suc high) - low) low i → Has j (plane i) → among low high j ≡ false
      off i j (inl o) (inl m) = among_below low high j (omega arith)
      off i j (inl o) (inr m) = among_below low high j (omega arith)
      off i j (inr o) (inl m) = among-above low high j (omega arith)
      off i j (inr o) (inr m) = among-above low high j (omega arith)

  planes-stretches : axis true n low high ≡ suc (axis false n low high)
  planes-stretches = omega (arith, planes, stretches)

-- ---- the cells of a box are products

sum-right : (n k : ℕ) (f : ℕ → ℕ) → sum n (λ i. f i * k) ≡ sum n f * k
unfolding sum
sum-right zero k f = omega arith
sum-right (suc n) k f = omega (arith, sum-right n k f)

sum_left : (n k : ℕ) (f : ℕ → ℕ) → sum n (λ i. k * f i) ≡ k * sum n f
unfolding sum
sum_left zero k f = omega arith
sum_left (suc n) k f = omega (arith, sum_left n k f)

bit_and : (p q : Bool) → bit (p && q) ≡ bit p * bit q
bit_and true q = omega arith
bit_and false q = omega arith

and-or : (p q r : Bool) → (p || q) && r ≡ ((p && r) || (q && r))
and-or true q true = refl
and-or true q false = sym (and_zero q)
and-or false q r = refl

and_or_left : (p q r : Bool) → p && (q || r) ≡ ((p && q) || (p && r))
and_or_left true q r = refl
and_or_left false q r = refl

some-and : (s : Piece) (p : ℕ → Bool) (b : Bool) → some s (λ x. p x && b) ≡ (some s p && b)
unfolding some
some-and (plane zero) p b = refl
some-and (plane (suc i)) p b = sym (and-or (p i) (p (suc i)) b)
some-and (stretch i) p b = refl

and-some : (s : Piece) (b : Bool) (p : ℕ → Bool) → some s (λ x. b && p x) ≡ (b && some s p)
unfolding some
and-some (plane zero) b p = refl
and-some (plane (suc i)) b p = sym (and_or_left b (p i) (p (suc i)))
and-some (stretch i) b p = refl

products : (p q r P Q R : ℕ) → P ≡ suc p → Q ≡ suc q → R ≡ suc r
    → P * (Q * R) + (P * (q * r) + p * (Q * r) + p * (q * R)) ≡ p * (Q * R) + P * (q * R) + P * (Q * r) + p * (q * r) + 1
products p q r P Q R e f g = rw (e, f, g) (expand p q r)
  where
    expand : (p q r : ℕ) → suc p * (suc q * suc r) + (suc p * (q * r) + p * (suc q * r) + p * (q * suc r))
        ≡ p * (suc q * suc r) + suc p * (q * suc r) + suc p * (suc q * r) + p * (q * r) + 1
    expand p q r = omega arith

module _ (s : Sides) (b : Bounds) where
  X : ℕ → Bool
  X = among b.x0 b.x1

  Y : ℕ → Bool
  Y = among b.y0 b.y1

  Z : ℕ → Bool
  Z = among b.z0 b.z1

  covered-box : (p q r : Piece) → covered (box b) p q r ≡ (some p X && (some q Y && some r Z))
  unfolding covered box X Y Z
  covered-box p q r =
      some-ext p (λ x. some q (λ y. some r (λ z. X x && (Y y && Z z)))) (λ x. X x && (some q Y && some r Z)) (λ x _.
      some-ext q (λ y. some r (λ z. X x && (Y y && Z z))) (λ y. X x && (Y y && some r Z)) (λ y _.
      and-some r (X x) (λ z. Y y && Z z) ∙ ap (λ (t : Bool). X x && t) (and-some r (Y y) Z))
      ∙ and-some q (X x) (λ y. Y y && some r Z) ∙ ap (λ (t : Bool). X x && t) (some-and q Y (some r Z)))
      ∙ some-and p X (some q Y && some r Z)

  count-box : (k l m : Bool) → count s k l m (box b) ≡ axis k s.a b.x0 b.x1 * (axis l s.b b.y0 b.y1 * axis m s.c b.z0 b.z1)
  unfolding count axis sum3 X Y Z
  count-box k l m =
      let A : ℕ = extent k s.a in
      let B : ℕ = extent l s.b in
      let C : ℕ = extent m s.c in
      let f : ℕ → ℕ = λ i. bit (some (piece k i) X) in
      let g : ℕ → ℕ = λ j. bit (some (piece l j) Y) in
      let h : ℕ → ℕ = λ o. bit (some (piece m o) Z) in
      let cell : ℕ → ℕ → ℕ → ℕ = λ i j o. bit (covered (box b) (piece k i) (piece l j) (piece m o)) in
      sum-ext A (λ i. sum B (λ j. sum C (λ o. cell i j o))) (λ i. f i * (sum B g * sum C h)) (λ i _.
      sum-ext B (λ j. sum C (λ o. cell i j o)) (λ j. f i * (g j * sum C h)) (λ j _.
      sum-ext C (λ o. cell i j o) (λ o. f i * (g j * h o)) (λ o _.
      ap (λ (t : Bool). bit t) (covered-box (piece k i) (piece l j) (piece m o))
      ∙ bit_and (some (piece k i) X) (some (piece l j) Y && some (piece m o) Z)
      ∙ ap (λ (t : ℕ). f i * t) (bit_and (some (piece l j) Y) (some (piece m o) Z)))
      ∙ sum_left C (f i) (λ o. g j * h o) ∙ ap (λ (t : ℕ). f i * t) (sum_left C (g j) h))
      ∙ sum_left B (f i) (λ j. g j * sum C h) ∙ ap (λ (t : ℕ). f i * t) (sum-right B (sum C h) g))
      ∙ sum-right A (sum B g * sum C h) f

  cubes-count : cubes s (box b) ≡ count s false false false (box b)
  unfolding cubes count covered some
  cubes-count = refl

  pub euler-box : b.x0 ≤ b.x1 → b.x1 < s.a → b.y0 ≤ b.y1 → b.y1 < s.b → b.z0 ≤ b.z1 → b.z1 < s.c → euler_of s (box b) ≡ pos 1
  unfolding euler_of corners edges faces count
  euler-box hx ix hy iy hz iz =
      difference 1 (corners s (box b)) (edges s (box b)) (faces s (box b)) (cubes s (box b))
      (omega (
        arith,
        cubes-count,
        count-box true true true,
        count-box false true true,
        count-box true false true,
        count-box true true false,
        count-box true false false,
        count-box false true false,
        count-box false false true,
        count-box false false false,
        products (axis false s.a b.x0 b.x1) (axis false s.b b.y0 b.y1) (axis false s.c b.z0 b.z1)
            (axis true s.a b.x0 b.x1) (axis true s.b b.y0 b.y1) (axis true s.c b.z0 b.z1)
            (planes-stretches s.a b.x0 b.x1 hx ix) (planes-stretches s.b b.y0 b.y1 hy iy) (planes-stretches s.c b.z0 b.z1 hz iz),
      ))
