-- Laws of `bits` and `has`: what the machine's operations on bits do to sets of small numbers.
use mathlib.Core.Path.{◌≡◌, refl, sym, ap, ap₂, ◌∙◌, subst}
use mathlib.Core.Bool.{Bool, true, false, not, ◌&&◌, ◌||◌, true≢false}
use mathlib.Core.List.{List}
use Prim.Native.Nat.{ℕ, zero, suc, ◌+◌, ◌-◌, ◌*◌, ◌/◌, ◌%◌, ◌^◌, ◌≤◌, ◌<◌, min, max}
use native.Mathlib.Nat.{add-zero, zero-add, suc-add, add-suc, mul_assoc, pow-suc, div-one, le_of_suc-le-suc, not-suc-le-zero, lt_of_le_of_lt}
use native.Mathlib.Omega.{arith}
use lib.Dec.{eqb, leb, lit<}
use lib.Arith.{digits_div, digits_mod, digits_lt}
use lib.Pow.{shr-shr, shl-shr, shl_exact, pow-add, field, mod-mod-pow}
use lib.Bits.{bit_and, bit_or, bit_xor, differ, and_step, or_step, xor_step, and_shr}
use lib.Bits.{or_shr, and_zero_l, xor_zero_l, or_shifted_r, shifted_even, and_mask, and_le_r}
use lib.Count.{ones, ones_in, ones_step}
use lib.ListN.{length}
use borrow.Author.Tests.{leb-true, leb-false}
use Rattle.prelude.specs.Lists.{range}
use Rattle.cells.specs.Groups.{filter, cons_if}
use Rattle.cells.specs.Cells.{bit}
use Rattle.prelude.proofs.Bools.{and-true, and_comm}
use Rattle.bits.specs.Bits.{has, bits}

-- ---- one digit

pub bit-lt : (b : Bool) → bit b < 2
bit-lt true = lit< tt
bit-lt false = lit< tt

bit-one : (b : Bool) → eqb (bit b) 1 ≡ b
bit-one true = refl
bit-one false = refl

abbrev odd : ℕ → Bool
odd x = eqb (x % 2) 1

odd-bit : (x : ℕ) → x % 2 ≡ bit (odd x)
odd-bit x = below_two (x % 2) (omega arith)
  where
    below_two : (y : ℕ) → y < 2 → y ≡ bit (eqb y 1)
    below_two zero h = refl
    below_two (suc zero) h = refl
    below_two (suc (suc y)) h = let z : ⊥ = omega arith in absurd z

-- ---- the digits of a set

abbrev pub next : (ℕ → Bool) → ℕ → Bool
next s c = s (suc c)

bits-half : (n : ℕ) (s : ℕ → Bool) → bits (suc n) s / 2 ≡ bits n (next s)
unfolding bits
bits-half n s = digits_div (bits n (next s)) (bit-lt (s 0))

bits-odd : (n : ℕ) (s : ℕ → Bool) → bits (suc n) s % 2 ≡ bit (s 0)
unfolding bits
bits-odd n s = digits_mod (bits n (next s)) (bit-lt (s 0))

pub bits-lt : (n : ℕ) (s : ℕ → Bool) → bits n s < 2 ^ n
unfolding bits
bits-lt zero s = lit< tt
bits-lt (suc n) s =
    subst (λ (x : ℕ). bits n (next s) * 2 + bit (s 0) < x) (sym (pow-suc 2 n)) (digits_lt (bits-lt n (next s)) (bit-lt (s 0)))

pub bits-ext : (n : ℕ) (s r : ℕ → Bool) → ((c : ℕ) → c < n → s c ≡ r c) → bits n s ≡ bits n r
unfolding bits
bits-ext zero s r h = refl
bits-ext (suc n) s r h =
    ap₂ (λ (x y : ℕ). x * 2 + y) (bits-ext n (next s) (next r) (λ c l. h (suc c) (omega arith))) (ap bit (h 0 (omega arith)))

-- the set of a number's digits, and the number of a set's digits
pub has-bits : (n : ℕ) (s : ℕ → Bool) (c : ℕ) → c < n → has (bits n s) c ≡ s c
unfolding has
has-bits n s c h = ap (λ (x : ℕ). eqb x 1) (digit n s c h) ∙ bit-one (s c)
  where
    digit : (n : ℕ) (s : ℕ → Bool) (c : ℕ) → c < n → bits n s / 2 ^ c % 2 ≡ bit (s c)
    digit zero s c h = absurd (not-suc-le-zero h)
    digit (suc n) s zero h = ap (λ (x : ℕ). x % 2) (div-one (bits (suc n) s)) ∙ bits-odd n s
    digit (suc n) s (suc c) h =
        ap (λ (x : ℕ). x % 2) (sym (shr-shr (bits (suc n) s) 1 c ∙ ap (λ (x : ℕ). bits (suc n) s / 2 ^ x) (omega arith)))
        ∙ ap (λ (x : ℕ). x / 2 ^ c % 2) (bits-half n s)
        ∙ digit n (next s) c (le_of_suc-le-suc h)

pub has-shr : (x j c : ℕ) → has (x / 2 ^ j) c ≡ has x (j + c)
unfolding has
has-shr x j c = ap odd (shr-shr x j c)

pub bits-has : (n x : ℕ) → x < 2 ^ n → x ≡ bits n (has x)
unfolding bits has
bits-has zero x h = let e : x < 1 = h in omega arith
bits-has (suc n) x h =
    let l : x < 2 ^ n * 2 = subst (λ (y : ℕ). x < y) (pow-suc 2 n) h in
    let low : bit (has x 0) ≡ x % 2 = ap (λ (y : ℕ). bit (odd y)) (div-one x) ∙ sym (odd-bit x) in
    let high : x / 2 ≡ bits n (next (has x)) =
    bits-has n (x / 2) (omega arith) ∙ bits-ext n (has (x / 2)) (next (has x)) (λ c k. has-shr x 1 c ∙ ap (has x) (omega arith)) in
    omega arith

-- ---- an operation that goes digit by digit

module _
    (op digit : ℕ → ℕ → ℕ)
    (rule : Bool → Bool → Bool)
    (step : (a b : ℕ) → op a b ≡ op (a / 2) (b / 2) * 2 + digit (a % 2) (b % 2))
    (digits : (p q : Bool) → digit (bit p) (bit q) ≡ bit (rule p q))
  where
    odd-op : (a b : ℕ) → odd (op a b) ≡ rule (odd a) (odd b)
    odd-op a b =
        ap odd (step a b ∙ ap (λ (d : ℕ). op (a / 2) (b / 2) * 2 + d) (ap₂ digit (odd-bit a) (odd-bit b) ∙ digits (odd a) (odd b)))
        ∙ ap (λ (x : ℕ). eqb x 1) (digits_mod (op (a / 2) (b / 2)) (bit-lt (rule (odd a) (odd b))))
        ∙ bit-one (rule (odd a) (odd b))

    has-op : ((a b k : ℕ) → op a b / 2 ^ k ≡ op (a / 2 ^ k) (b / 2 ^ k)) → (a b c : ℕ) → has (op a b) c ≡ rule (has a c) (has b c)
    unfolding has
    has-op shr a b c = ap odd (shr a b c) ∙ odd-op (a / 2 ^ c) (b / 2 ^ c)

    bits-op : op 0 0 ≡ 0 → (n : ℕ) (s r : ℕ → Bool) → op (bits n s) (bits n r) ≡ bits n (λ c. rule (s c) (r c))
    unfolding bits
    bits-op none zero s r = none
    bits-op none (suc n) s r =
        step (bits (suc n) s) (bits (suc n) r)
        ∙ ap₂ (λ (x y : ℕ). op x y * 2 + digit (bits (suc n) s % 2) (bits (suc n) r % 2)) (bits-half n s) (bits-half n r)
        ∙ ap₂ (λ (x y : ℕ). op (bits n (next s)) (bits n (next r)) * 2 + digit x y) (bits-odd n s) (bits-odd n r)
        ∙ ap₂ (λ (x y : ℕ). x * 2 + y) (bits-op none n (next s) (next r)) (digits (s 0) (r 0))

and-bit : (p q : Bool) → min (bit p) (bit q) ≡ bit (p && q)
and-bit true true = refl
and-bit true false = refl
and-bit false true = refl
and-bit false false = refl

or-bit : (p q : Bool) → max (bit p) (bit q) ≡ bit (p || q)
or-bit true true = refl
or-bit true false = refl
or-bit false true = refl
or-bit false false = refl

abbrev pub unlike : Bool → Bool → Bool
unlike true q = not q
unlike false q = q

xor-bit : (p q : Bool) → differ (bit p) (bit q) ≡ bit (unlike p q)
xor-bit true true = refl
xor-bit true false = refl
xor-bit false true = refl
xor-bit false false = refl

pub has-or : (a b c : ℕ) → has (bit_or a b) c ≡ has a c || has b c
has-or = has-op bit_or max ◌||◌ or_step or-bit or_shr

pub has-and : (a b c : ℕ) → has (bit_and a b) c ≡ has a c && has b c
has-and = has-op bit_and min ◌&&◌ and_step and-bit and_shr

pub bits-and : (n : ℕ) (s r : ℕ → Bool) → bit_and (bits n s) (bits n r) ≡ bits n (λ c. s c && r c)
bits-and = bits-op bit_and min ◌&&◌ and_step and-bit (and_zero_l 0)

pub bits-xor : (n : ℕ) (s r : ℕ → Bool) → bit_xor (bits n s) (bits n r) ≡ bits n (λ c. unlike (s c) (r c))
bits-xor = bits-op bit_xor differ unlike xor_step xor-bit (xor_zero_l 0)

-- the low digit
pub low : (x : ℕ) → bit_and x 1 ≡ bit (has x 0)
unfolding has
low x = and_mask x 1 ∙ odd-bit x ∙ ap (λ (y : ℕ). bit (odd y)) (sym (div-one x))

-- what a mask of n digits leaves
pub masked : (n x mask : ℕ) → mask < 2 ^ n → bit_and x mask ≡ bits n (λ c. has mask c && has x c)
masked n x mask h =
    bits-has n (bit_and x mask) (lt_of_le_of_lt (and_le_r x mask) h)
    ∙ bits-ext n (has (bit_and x mask)) (λ c. has mask c && has x c) (λ c _. has-and x mask c ∙ and_comm (has x c) (has mask c))

-- ---- shifts to the left

shl-low : (x j c : ℕ) → c < j → has (x * 2 ^ j) c ≡ false
unfolding has
shl-low x j c h =
    let d : ℕ = j - suc c in
    let e : j ≡ suc d + c = omega arith in
    ap (λ (i : ℕ). has (x * 2 ^ i) c) e
    ∙ ap (λ (y : ℕ). has y c) (ap (λ (y : ℕ). x * y) (pow-add 2 (suc d) c) ∙ sym (mul_assoc x (2 ^ suc d) (2 ^ c)))
    ∙ ap odd (shl-shr (x * 2 ^ suc d) c)
    ∙ ap (λ (y : ℕ). eqb y 1) (shifted_even x d)

shl-high : (x j d : ℕ) → has (x * 2 ^ j) (j + d) ≡ has x d
unfolding has
shl-high x j d = ap odd (sym (shr-shr (x * 2 ^ j) j d) ∙ ap (λ (y : ℕ). y / 2 ^ d) (shl-shr x j))

pub has-shl : (x j c : ℕ) → has (x * 2 ^ j) c ≡ leb j c && has x (c - j)
has-shl x j c = by-case (leb j c) refl
  where
    by-case : (b : Bool) → leb j c ≡ b → has (x * 2 ^ j) c ≡ b && has x (c - j)
    by-case true e =
        let h : j ≤ c = leb-true j c e in
        let d : c ≡ j + (c - j) = omega arith in
        ap (has (x * 2 ^ j)) d ∙ shl-high x j (c - j)
    by-case false e = shl-low x j c (leb-false j c e)

-- the same in a word of w digits, at a digit of the word
pub has-mod : (x w c : ℕ) → c < w → has (x % 2 ^ w) c ≡ has x c
unfolding has
has-mod x w c h =
    let d : ℕ = w - suc c in
    let e : w ≡ suc d + c = omega arith in
    ap (λ (v : ℕ). odd (x % 2 ^ v / 2 ^ c)) e ∙ ap odd (field x (suc d) c) ∙ ap (λ (y : ℕ). eqb y 1) (halves (x / 2 ^ c) d)
  where
    halves : (y d : ℕ) → y % 2 ^ suc d % 2 ≡ y % 2
    halves y d = let e : suc d ≡ d + 1 = omega arith in ap (λ (v : ℕ). y % 2 ^ v % 2) e ∙ mod-mod-pow y d 1

pub has-shl-in : (w x j c : ℕ) → c < w → has ((x * 2 ^ j) % 2 ^ w) c ≡ leb j c && has x (c - j)
has-shl-in w x j c h = has-mod (x * 2 ^ j) w c h ∙ has-shl x j c

-- ---- sets side by side

bits-append : (m n : ℕ) (s : ℕ → Bool) → bits (m + n) s ≡ bits m s + bits n (λ c. s (m + c)) * 2 ^ m
unfolding bits
bits-append zero n s =
    let e : bits (0 + n) s ≡ bits n (λ c. s (0 + c)) =
    ap (λ (k : ℕ). bits k s) (zero-add n) ∙ bits-ext n s (λ c. s (0 + c)) (λ c h. ap s (sym (zero-add c))) in
    omega arith
bits-append (suc m) n s =
    let B : ℕ = bits n (λ c. s (suc m + c)) in
    let same : bits n (λ c. s (suc (m + c))) ≡ B =
    bits-ext n (λ c. s (suc (m + c))) (λ c. s (suc m + c)) (λ c h. ap s (sym (suc-add m c))) in
    let e : bits (suc m + n) s ≡ bits (m + n) (next s) * 2 + bit (s 0) = ap (λ (k : ℕ). bits k s) (suc-add m n) in
    let i : bits (m + n) (next s) ≡ bits m (next s) + B * 2 ^ m =
    bits-append m n (next s) ∙ ap (λ (x : ℕ). bits m (next s) + x * 2 ^ m) same in
    let p : B * 2 ^ suc m ≡ B * 2 ^ m * 2 = ap (λ (x : ℕ). B * x) (pow-suc 2 m) ∙ sym (mul_assoc B (2 ^ m) 2) in
    omega arith

-- three sets of n, as code joins them in w bits
pub three : (w n : ℕ) (s : ℕ → Bool) → n + n + n ≤ w
    → {x y z : ℕ} → x ≡ bits n s → y ≡ bits n (λ c. s (n + c)) → z ≡ bits n (λ c. s ((n + n) + c))
    → bit_or (bit_or x ((y * 2 ^ n) % 2 ^ w)) ((z * 2 ^ (n + n)) % 2 ^ w) ≡ bits ((n + n) + n) s
three w n s h {x} {y} {z} p q r =
    let ly : y < 2 ^ n = subst (λ (v : ℕ). v < 2 ^ n) (sym q) (bits-lt n (λ c. s (n + c))) in
    let lz : z < 2 ^ n = subst (λ (v : ℕ). v < 2 ^ n) (sym r) (bits-lt n (λ c. s ((n + n) + c))) in
    let two : bit_or x ((y * 2 ^ n) % 2 ^ w) ≡ bits (n + n) s =
    ap₂ bit_or p (shl_exact n n w ly (omega arith) ∙ ap (λ (v : ℕ). v * 2 ^ n) q)
    ∙ or_shifted_r (bits n (λ c. s (n + c))) n (bits n s) (bits-lt n s)
    ∙ omega (arith, bits-append n n s) in
    ap₂ bit_or two (shl_exact n (n + n) w lz (omega arith) ∙ ap (λ (v : ℕ). v * 2 ^ (n + n)) r)
    ∙ or_shifted_r (bits n (λ c. s ((n + n) + c))) (n + n) (bits (n + n) s) (bits-lt (n + n) s)
    ∙ omega (arith, bits-append (n + n) n s)

-- ---- a test at each number below n, by computation

abbrev pub all_below : ℕ → (ℕ → Bool) → Bool
all_below zero f = true
all_below (suc n) f = f 0 && all_below n (next f)

pub below : (n : ℕ) (f : ℕ → Bool) → all_below n f ≡ true → (i : ℕ) → i < n → f i ≡ true
below zero f t i h = absurd (not-suc-le-zero h)
below (suc n) f t zero h = (and-true (f 0) (all_below n (next f)) t).0
below (suc n) f t (suc i) h = below n (next f) (and-true (f 0) (all_below n (next f)) t).1 i (le_of_suc-le-suc h)

-- ---- counts of ones

pub length-cons_if : (b : Bool) (c : ℕ) (cs : List ℕ) → length (cons_if b c cs) ≡ bit b + length cs
length-cons_if true c cs = omega arith
length-cons_if false c cs = omega arith

pub ones-more : (n : ℕ) (s : ℕ → Bool) → ones (bits (suc n) s) ≡ bit (s 0) + ones (bits n (next s))
ones-more n s = ones_step (bits (suc n) s) ∙ ap₂ (λ (x y : ℕ). x + ones y) (bits-odd n s) (bits-half n s)

ones-range : (k n : ℕ) (s : ℕ → Bool) → ones (bits n (λ i. s (k + i))) ≡ length (filter s (range k n))
unfolding bits ones ones_in filter range
ones-range k zero s = refl
ones-range k (suc n) s =
    ones-more n (λ i. s (k + i))
    ∙ ap (λ (x : ℕ). bit (s x) + ones (bits n (λ i. s (k + suc i)))) (add-zero k)
    ∙ ap (λ (x : ℕ). bit (s k) + x)
    (ap ones (bits-ext n (λ i. s (k + suc i)) (λ i. s (suc k + i)) (λ i _. ap s (add-suc k i ∙ sym (suc-add k i)))) ∙ ones-range (suc k) n s)
    ∙ sym (length-cons_if (s k) k (filter s (range (suc k) n)))

pub ones-bits : (n : ℕ) (s : ℕ → Bool) → ones (bits n s) ≡ length (filter s (range 0 n))
ones-bits n s = ap ones (bits-ext n s (λ i. s (0 + i)) (λ i _. ap s (sym (zero-add i)))) ∙ ones-range 0 n s

-- a set without a part of it
pub ones-less : (n : ℕ) (s r : ℕ → Bool) → ((c : ℕ) → c < n → r c ≡ true → s c ≡ true)
    → ones (bits n (λ c. unlike (s c) (r c))) + ones (bits n r) ≡ ones (bits n s)
unfolding bits ones ones_in
ones-less zero s r h = refl
ones-less (suc n) s r h =
    omega (
      arith,
      ones-more n (λ c. unlike (s c) (r c)),
      ones-more n r,
      ones-more n s,
      ones-less n (next s) (next r) (λ c l. h (suc c) (omega arith)),
      one (s 0) (r 0) (h 0 (omega arith)),
    )
  where
    one : (p q : Bool) → (q ≡ true → p ≡ true) → bit (unlike p q) + bit q ≡ bit p
    one true true f = refl
    one true false f = refl
    one false true f = absurd (true≢false (sym (f refl)))
    one false false f = refl
