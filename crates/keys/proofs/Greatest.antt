-- Laws of the greatest of a stretch.
use mathlib.Core.Path.{◌≡◌, refl, sym, ap, ap₂, ◌∙◌}
use mathlib.Core.Logic.{◌⊎◌, inl, inr}
use Prim.Native.Nat.{ℕ, zero, suc, ◌+◌, ◌≤◌, ◌<◌, max}
use native.Mathlib.Omega.{arith}
use native.Mathlib.Nat.{eq-or-lt_of_le}
use native.Mathlib.Decide.{dec_le}
use Rattle.keys.specs.Key.{greatest}

pub greatest-empty : (f : ℕ → ℕ) (a k : ℕ) → k ≡ 0 → 0 ≡ greatest f a k
unfolding greatest
greatest-empty f a k e = sym (ap (greatest f a) e)

pub greatest-add : (f : ℕ → ℕ) (a k m : ℕ) → greatest f a (k + m) ≡ max (greatest f a k) (greatest f (a + k) m)
unfolding greatest
greatest-add f a zero m =
    let e : a ≡ a + 0 = omega arith in
    let n : 0 + m ≡ m = omega arith in
    let g = ap₂ (greatest f) e n in
    omega arith
greatest-add f a (suc k) m =
    let n : suc k + m ≡ suc (k + m) = omega arith in
    let e : suc a + k ≡ a + suc k = omega arith in
    let one = ap (greatest f a) n in
    let ih = greatest-add f (suc a) k m in
    let at = ap (λ (x : ℕ). greatest f x m) e in
    omega arith

greatest-one : (f : ℕ → ℕ) (a : ℕ) → greatest f a 1 ≡ f a
unfolding greatest
greatest-one f a = omega arith

pub greatest-more : (f : ℕ → ℕ) (a k : ℕ) → greatest f a (k + 1) ≡ max (greatest f a k) (f (a + k))
greatest-more f a k = greatest-add f a k 1 ∙ ap (max (greatest f a k)) (greatest-one f (a + k))

pub greatest-same : (f g : ℕ → ℕ) (a k : ℕ) → ((j : ℕ) → a ≤ j → j < a + k → f j ≡ g j) → greatest f a k ≡ greatest g a k
unfolding greatest
greatest-same f g a zero h = refl
greatest-same f g a (suc k) h =
    ap₂ max (h a (omega arith) (omega arith)) (greatest-same f g (suc a) k (λ j l u. h j (omega arith) (omega arith)))

pub greatest-le : (f : ℕ → ℕ) (a k j : ℕ) → a ≤ j → j < a + k → f j ≤ greatest f a k
unfolding greatest
greatest-le f a zero j l u = let z : ⊥ = omega arith in absurd z
greatest-le f a (suc k) j l u =
    elim (eq-or-lt_of_le l) [
      | inl e ↦ let q = ap f e in omega arith
      | inr n ↦ let r = greatest-le f (suc a) k j n (omega arith) in omega arith
    ]

-- the greatest is 0 or one of them
pub greatest-of : (f : ℕ → ℕ) (a k : ℕ) → (greatest f a k ≡ 0) ⊎ ((j : ℕ) × (a ≤ j) × (j < a + k) × (greatest f a k ≡ f j))
unfolding greatest
greatest-of f a zero = inl refl
greatest-of f a (suc k) =
    elim (dec_le (greatest f (suc a) k) (f a)) [
      | yes h ↦ inr (a, omega arith, omega arith, omega arith)
      | no h ↦
          elim (greatest-of f (suc a) k) [
            | inl z ↦ let b : ⊥ = omega arith in absurd b
            | inr w ↦ let l = w.1 in let u = w.2 in let e = w.3 in inr (w.0, omega arith, omega arith, omega arith)
          ]
    ]

pub greatest-none : (f : ℕ → ℕ) (a k : ℕ) → ((j : ℕ) → a ≤ j → f j ≡ 0) → greatest f a k ≡ 0
greatest-none f a k h = elim (greatest-of f a k) [ inl z ↦ z | inr w ↦ w.3 ∙ h w.0 w.1 ]

-- one of them grows to w
pub greatest-raise :
    (f g : ℕ → ℕ) (a k j w : ℕ) → a ≤ j → j < a + k → g j ≡ max (f j) w → ((i : ℕ) → (i ≡ j → ⊥) → f i ≡ g i)
    → greatest g a k ≡ max (greatest f a k) w
unfolding greatest
greatest-raise f g a zero j w l u z same = let b : ⊥ = omega arith in absurd b
greatest-raise f g a (suc k) j w l u z same =
    elim (eq-or-lt_of_le l) [
      | inl e ↦
          let x = ap f e in
          let y = ap g e in
          let r = greatest-same f g (suc a) k (λ i m v. same i (λ q. omega arith)) in
          omega arith
      | inr n ↦
          let x = same a (λ q. omega arith) in
          let r = greatest-raise f g (suc a) k j w n (omega arith) z same in
          omega arith
    ]

-- .. from 0
pub greatest-lift :
    (f g : ℕ → ℕ) (a k j : ℕ) → a ≤ j → j < a + k → f j ≡ 0 → ((i : ℕ) → (i ≡ j → ⊥) → f i ≡ g i)
    → greatest g a k ≡ max (greatest f a k) (g j)
greatest-lift f g a k j l u z same = greatest-raise f g a k j (g j) l u (omega arith) same

-- the same numbers from elsewhere
pub greatest-moved :
    (f g : ℕ → ℕ) (a b k : ℕ) → ((t : ℕ) → b ≤ t → t < b + k → f t ≡ g (a + t)) → greatest f b k ≡ greatest g (a + b) k
unfolding greatest
greatest-moved f g a b zero h = refl
greatest-moved f g a b (suc k) h =
    let e : a + suc b ≡ suc (a + b) = omega arith in
    ap₂ max (h b (omega arith) (omega arith))
    (greatest-moved f g a (suc b) k (λ t l u. h t (omega arith) (omega arith)) ∙ ap (λ (x : ℕ). greatest g x k) e)
