-- Half an ulp, for any format: a fraction that `round` hands back is off by half a unit in the last place at most.
use mathlib.Core.Path.{◌≡◌, sym, ap, ◌∙◌, subst}
use Prim.Native.Nat.{ℕ, suc, ◌+◌, ◌-◌, ◌*◌, ◌/◌, ◌%◌, ◌^◌, ◌≤◌, ◌<◌, compare, Ordering}
use native.Mathlib.Nat.{le_trans, le_of_eq, lt_of_le_of_lt, add-mul, suc-mul, mul_comm, mul_assoc, mul_left_comm, mul-pos}
use native.Mathlib.Nat.{mul-le-mul_left, mul-le-mul_right, mul-lt-mul_of_pos_right, mod-lt, div-add-mod', div-lt_iff_lt-mul, mul-one, div-one, mod-one}
use native.Mathlib.Omega.{arith}
use mathlib.Core.Bool.{not}
use lib.Dec.{T, is_le, compare_is_eq, eqb, leb→le, nleb→lt, eqb→eq, eqb_refl}
use lib.Arith.{lt_of_le-ne}
use lib.Pow.{pow-add, pow_pos, pow_mono, pow-lt}
use lib.Ieee.{Format, prec, low, size, nearest}
use lib.Ieee.Fits.{two}
use lib.Ieee.Digits.{size-le, back}
use lib.Ieee.Nearest.{closest, closest_mono}
use lib.Ieee.Order.{drop}
use lib.Ieee.Scale.{grid}

-- ---- what `compare` says
abbrev Cmp : Ordering → ℕ → ℕ → Type 0
Cmp Ordering.lt a b = a < b
Cmp Ordering.eq a b = a ≡ b
Cmp Ordering.gt a b = b < a

cmp : (a b : ℕ) → Cmp (compare a b) a b
cmp a b = go (compare a b) (leb→le a b) (nleb→lt a b) (eqb→eq a b) (λ (e : a ≡ b). subst (λ (x : ℕ). T (eqb a x)) e (eqb_refl a))
  where
    go : (o : Ordering) → (T (is_le o) → a ≤ b) → (T (not (is_le o)) → b < a) → (T (compare_is_eq o) → a ≡ b) → (a ≡ b → T (compare_is_eq o)) → Cmp o a b
    go Ordering.lt h k e n = lt_of_le-ne (h tt) n
    go Ordering.eq h k e n = e tt
    go Ordering.gt h k e n = k tt

-- ---- x and y differ by z at most
abbrev pub Off : ℕ → ℕ → ℕ → Type 0
Off x y z = (x ≤ y + z) × (y ≤ x + z)

bit : (w : ℕ) → w % 2 ≤ 1
bit w = omega arith

-- the nearest whole number w or w + 1 to w + r / b, times b
half_of : (w r b : ℕ) (o : Ordering) → r < b → Cmp o (r * 2) b → Off (nearest w o * b * 2) ((w * b + r) * 2) b
half_of w r b Ordering.lt l c = omega arith
half_of w r b Ordering.eq l c =
    let e : (w + w % 2) * b ≡ w * b + w % 2 * b = add-mul w (w % 2) b in
    let g : w % 2 * b ≤ 1 * b = mul-le-mul_right b (bit w) in
    omega arith
half_of w r b Ordering.gt l c =
    let e : suc w * b ≡ w * b + b = suc-mul w b in
    omega arith

pub closest-half : (a b : ℕ) → 0 < b → Off (closest a b * b * 2) (a * 2) b
closest-half a b B =
    subst (λ (z : ℕ). Off (closest a b * b * 2) (z * 2) b) (div-add-mod' a b)
    (half_of (a / b) (a % b) b (compare (a % b * 2) b) (mod-lt a B) (cmp (a % b * 2) b))

-- a whole number that the fraction does not pass, the nearest does not pass
pub closest-le : (a b c : ℕ) → 0 < b → a ≤ c * b → closest a b ≤ c
closest-le a b c B h =
    le_trans (closest_mono a b c 1 B (pow_pos 0) (le_trans (le_of_eq (mul-one a)) h))
    (le_of_eq (ap (λ (x : ℕ). nearest x (compare (c % 1 * 2) 1)) (div-one c) ∙ ap (λ (x : ℕ). nearest c (compare (x * 2) 1)) (mod-one c)))

-- ---- `round`'s result in units of the format's smallest value
spare : (z p j : ℕ) → z ≤ p + j → z - p ≤ j
spare z p j h = omega arith

-- a fraction below 2 ^ (prec + j) units drops j digits at most
pub drop_le : (p n den j : ℕ) → 0 < den → n < 2 ^ (p + j) * den → drop p n den ≤ j
drop_le p n den j D h = spare (size (n / den)) p j (size-le (n / den) (p + j) ((div-lt_iff_lt-mul D).1 h))

pub grid-half : (f : Format) (num den j : ℕ) → 0 < den → num * 2 ^ low f < 2 ^ (prec f + j) * den
    → Off (grid f num den * den * 2) (num * 2 ^ low f * 2) (den * 2 ^ j)
grid-half f num den j D h =
    let n = num * 2 ^ low f in
    let k = drop (prec f) n den in
    let K = closest n (den * 2 ^ k) in
    let half = closest-half n (den * 2 ^ k) (mul-pos D (pow_pos k)) in
    let e : K * 2 ^ k * den ≡ K * (den * 2 ^ k) = mul_assoc K (2 ^ k) den ∙ ap (λ (x : ℕ). K * x) (mul_comm (2 ^ k) den) in
    let g : den * 2 ^ k ≤ den * 2 ^ j = mul-le-mul_left den (pow_mono (drop_le (prec f) n den j D h)) in
    widen (K * 2 ^ k * den) (K * (den * 2 ^ k)) (n * 2) (den * 2 ^ k) (den * 2 ^ j) e g half
  where
    widen : (x y z u v : ℕ) → x ≡ y → u ≤ v → Off (y * 2) z u → Off (x * 2) z v
    widen x y z u v e g h = omega arith

-- a fraction that is 2 ^ c units at most rounds to 2 ^ c at most
wider : (p c : ℕ) → 2 ≤ p → c < p + c
wider p c h = omega arith

pub grid-le : (f : Format) (num den c : ℕ) → 0 < den → num * 2 ^ low f ≤ 2 ^ c * den → grid f num den ≤ 2 ^ c
grid-le f num den c D h =
    let n = num * 2 ^ low f in
    let k = drop (prec f) n den in
    let kl : k ≤ c = drop_le (prec f) n den c D (lt_of_le_of_lt h (mul-lt-mul_of_pos_right (pow-lt (wider (prec f) c (two f))) D)) in
    let e : 2 ^ (c - k) * 2 ^ k ≡ 2 ^ c = sym (pow-add 2 (c - k) k) ∙ ap (λ (x : ℕ). 2 ^ x) (back c k kl) in
    let g : 2 ^ (c - k) * (den * 2 ^ k) ≡ 2 ^ c * den = mul_left_comm (2 ^ (c - k)) den (2 ^ k) ∙ ap (λ (x : ℕ). den * x) e ∙ mul_comm den (2 ^ c) in
    le_trans (mul-le-mul_right (2 ^ k) (closest-le n (den * 2 ^ k) (2 ^ (c - k)) (mul-pos D (pow_pos k)) (le_trans h (le_of_eq (sym g))))) (le_of_eq e)
