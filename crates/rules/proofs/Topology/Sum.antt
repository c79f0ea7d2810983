-- Sums over the numbers below n, and what a change inside a window does to them.
use mathlib.Core.Path.{◌≡◌, refl, ap, ◌∙◌}
use mathlib.Core.Logic.{◌⊎◌, inl, inr}
use Prim.Native.Nat.{ℕ, zero, suc, ◌+◌, ◌-◌, ◌*◌, ◌≤◌, ◌<◌}
use native.Mathlib.Omega.{arith}
use Rattle.rules.specs.Body.{sum, sum3}

-- f p + f (p + 1) + .. of w terms
unfoldable pub win : ℕ → ℕ → (ℕ → ℕ) → ℕ
win zero p f = zero
win (suc w) p f = f p + win w (suc p) f

pub sum-ext : (n : ℕ) (f g : ℕ → ℕ) → ((i : ℕ) → i < n → f i ≡ g i) → sum n f ≡ sum n g
unfolding sum
sum-ext zero f g h = refl
sum-ext (suc n) f g h = omega (arith, sum-ext n f g (λ i l. h i (omega arith)), h n (omega arith))

win-last : (w p : ℕ) (f : ℕ → ℕ) → win (suc w) p f ≡ win w p f + f (p + w)
unfolding win
win-last zero p f = let e : p ≡ p + 0 = omega arith in omega (arith, ap f e)
win-last (suc w) p f = let e : suc p + w ≡ p + suc w = omega arith in omega (arith, ap f e, win-last w (suc p) f)

sum-win : (w p : ℕ) (f : ℕ → ℕ) → sum (p + w) f ≡ sum p f + win w p f
unfolding sum win
sum-win zero p f = let e : p + 0 ≡ p = omega arith in omega (arith, ap (λ (x : ℕ). sum x f) e)
sum-win (suc w) p f =
    let e : p + suc w ≡ suc (p + w) = omega arith in
    ap (λ (x : ℕ). sum x f) e ∙ omega (arith, sum-win w p f, win-last w p f)

-- i is not among the w places from p on
abbrev pub Off : ℕ → ℕ → ℕ → Type 0
Off w p i = (i < p) ⊎ (p + w ≤ i)

-- if f and g agree below n off the window, their sums differ by what the window has
pub local : (n w p : ℕ) (f g : ℕ → ℕ) → p + w ≤ n → ((i : ℕ) → i < n → Off w p i → f i ≡ g i) → sum n f + win w p g ≡ sum n g + win w p f
unfolding sum
local n w p f g l h = go (n - (p + w)) n (omega arith) h
  where
    go : (d n : ℕ) → n ≡ d + (p + w) → ((i : ℕ) → i < n → Off w p i → f i ≡ g i) → sum n f + win w p g ≡ sum n g + win w p f
    go zero n e h =
        let b : n ≡ p + w = omega arith in
        let x : sum p f ≡ sum p g = sum-ext p f g (λ i k. h i (omega arith) (inl k)) in
        let y : sum n f ≡ sum p f + win w p f = ap (λ (m : ℕ). sum m f) b ∙ sum-win w p f in
        let z : sum n g ≡ sum p g + win w p g = ap (λ (m : ℕ). sum m g) b ∙ sum-win w p g in
        omega arith
    go (suc d) n e h =
        let m : ℕ = d + (p + w) in
        let b : n ≡ suc m = omega arith in
        let ih : sum m f + win w p g ≡ sum m g + win w p f = go d m refl (λ i k c. h i (omega arith) c) in
        let x : f m ≡ g m = h m (omega arith) (inr (omega arith)) in
        let y : sum n f ≡ sum m f + f m = ap (λ (k : ℕ). sum k f) b in
        let z : sum n g ≡ sum m g + g m = ap (λ (k : ℕ). sum k g) b in
        omega arith

-- windows of families that balance at each place
win-two : (w p : ℕ) (f g s t : ℕ → ℕ) → ((i : ℕ) → i < p + w → f i + t i ≡ g i + s i) → win w p f + win w p t ≡ win w p g + win w p s
unfolding win
win-two zero p f g s t h = refl
win-two (suc w) p f g s t h = omega (arith, h p (omega arith), win-two w (suc p) f g s t (λ i l. h i (omega arith)))

-- ---- three coordinates

unfoldable pub win3 : ℕ → ℕ → ℕ → ℕ → ℕ → ℕ → (ℕ → ℕ → ℕ → ℕ) → ℕ
win3 u v w p q r f = win u p (λ x. win v q (λ y. win w r (λ z. f x y z)))

local2 : (b c v w q r : ℕ) (f g : ℕ → ℕ → ℕ) → q + v ≤ b → r + w ≤ c → ((y z : ℕ) → y < b → z < c → (Off v q y) ⊎ (Off w r z) → f y z ≡ g y z)
    → sum b (λ y. sum c (f y)) + win v q (λ y. win w r (g y)) ≡ sum b (λ y. sum c (g y)) + win v q (λ y. win w r (f y))
local2 b c v w q r f g lv lw h =
    omega (
      arith,
      local b v q (λ y. sum c (f y)) (λ y. sum c (g y)) lv (λ y ly o. sum-ext c (f y) (g y) (λ z lz. h y z ly lz (inl o))),
      win-two v q (λ y. sum c (f y)) (λ y. sum c (g y)) (λ y. win w r (f y)) (λ y. win w r (g y))
          (λ y ly. local c w r (f y) (g y) lw (λ z lz o. h y z (omega arith) lz (inr o))),
    )

-- f and g agree inside the grid wherever a coordinate is off the window
pub local3 : (a b c u v w p q r : ℕ) (f g : ℕ → ℕ → ℕ → ℕ) → p + u ≤ a → q + v ≤ b → r + w ≤ c
    → ((x y z : ℕ) → (Off u p x) ⊎ ((Off v q y) ⊎ (Off w r z)) → f x y z ≡ g x y z)
    → sum3 a b c f + win3 u v w p q r g ≡ sum3 a b c g + win3 u v w p q r f
unfolding sum3 win3
local3 a b c u v w p q r f g lu lv lw h =
    let F : (ℕ → ℕ → ℕ) → ℕ = λ k. sum b (λ y. sum c (k y)) in
    let W : (ℕ → ℕ → ℕ) → ℕ = λ k. win v q (λ y. win w r (k y)) in
    omega (
      arith,
      local a u p (λ x. F (f x)) (λ x. F (g x)) lu
          (λ x lx o. sum-ext b (λ y. sum c (f x y)) (λ y. sum c (g x y)) (λ y ly. sum-ext c (f x y) (g x y) (λ z lz. h x y z (inl o)))),
      win-two u p (λ x. F (f x)) (λ x. F (g x)) (λ x. W (f x)) (λ x. W (g x))
          (λ x lx. local2 b c v w q r (f x) (g x) lv lw (λ y z ly lz o. h x y z (inr o))),
    )

-- a window whose places all have the value v
pub win-all : (w p v : ℕ) (f : ℕ → ℕ) → ((i : ℕ) → p ≤ i → i < p + w → f i ≡ v) → win w p f ≡ w * v
unfolding win
win-all zero p v f h = omega arith
win-all (suc w) p v f h = omega (arith, h p (omega arith) (omega arith), win-all w (suc p) v f (λ i l k. h i (omega arith) (omega arith)))

pub win3-all : (u v w p q r : ℕ) (f : ℕ → ℕ → ℕ → ℕ)
    → ((i j k : ℕ) → p ≤ i → i < p + u → q ≤ j → j < q + v → r ≤ k → k < r + w → f i j k ≡ 1) → win3 u v w p q r f ≡ u * (v * w)
unfolding win3
win3-all u v w p q r f h =
    win-all u p (v * w) (λ x. win v q (λ y. win w r (f x y))) (λ i a b.
    win-all v q w (λ y. win w r (f i y)) (λ j c d. win-all w r 1 (f i j) (λ k e g. h i j k a b c d e g) ∙ omega arith))
