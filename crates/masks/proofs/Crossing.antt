-- The pending voxels of eight times eight bytes as the bits of one number, and bits that change places.
use mathlib.Core.Path.{◌≡◌, refl, sym, ap, ap₂, ◌∙◌}
use mathlib.Core.Bool.{Bool, true, false, not, cond, ◌&&◌, ◌||◌, true≢false}
use mathlib.Core.Logic.{◌⊎◌, inl, inr}
use Prim.Native.Nat.{ℕ, zero, suc, ◌+◌, ◌-◌, ◌*◌, ◌/◌, ◌%◌, ◌^◌, ◌≤◌, ◌<◌}
use native.Mathlib.Nat.{lt_of_le_of_lt, mul-one, mod-lt, mod-eq_of_lt, mul-le-mul_right, zero-div}
use native.Mathlib.Omega.{arith}
use borrow.Author.Tests.{eqb-true, ltb-true, leb-true}
use lib.Dec.{eqb, leb, ltb, lit<}
use lib.Pow.{shl_exact, shr_le}
use lib.Bits.{bit_and, bit_or, bit_xor, and_le_r, xor_lt}
use Rattle.prelude.proofs.Bools.{or-zero, and_zero, and_one, not-true, two}
use Rattle.bits.specs.Bits.{has}
use Rattle.bits.proofs.Bits.{has-shr, has-shl, has-and, has-or, has-bits, bits-has, bits-xor, below, all_below, unlike}
use Rattle.masks.specs.Bits.{crossed, partner}

pub has-none : (t : ℕ) → has 0 t ≡ false
unfolding has
has-none t = ap (λ (x : ℕ). eqb (x % 2) 1) (zero-div (2 ^ t))

-- ---- eight numbers, of each the bit 1 of every byte, side by side

abbrev mask : ℕ
mask = 144680345676153346

alike : (p q : Bool) → not (unlike p q) ≡ true → p ≡ q
alike true true e = refl
alike true false e = sym e
alike false true e = e
alike false false e = refl

masked-lt : (x : ℕ) → bit_and x mask < 2 ^ 58
masked-lt x = lt_of_le_of_lt (and_le_r x mask) (lit< tt)

-- the mask's digits moved down by 1, and up by k
abbrev down_at : ℕ → Bool
down_at t = not (unlike (has mask (1 + t)) (eqb (t % 8) 0))

abbrev up_at : ℕ → ℕ → Bool
up_at k t = not (unlike (leb k t && has mask (t - k)) (eqb (t % 8) (suc k)))

swap : (p q r : Bool) → p && (q && r) ≡ q && (p && r)
swap true q r = refl
swap false true r = refl
swap false false r = refl

module _ (t : ℕ) (h : t < 64) where
  -- .. are those at remainder c
  down : has mask (1 + t) ≡ eqb (t % 8) 0
  unfolding has
  down = alike _ _ (below 64 down_at refl t h)

  up : (k : ℕ) → k < 7 → (leb k t && has mask (t - k)) ≡ eqb (t % 8) (suc k)
  unfolding has
  up k l = alike _ _ (below 64 (up_at k) (below 7 (λ k. all_below 64 (up_at k)) refl k l) t h)

  -- so a number's bits that pass the mask come to remainder c
  settled :
      (c x i : ℕ) (y m : Bool) → y ≡ has x i && m → m ≡ eqb (t % 8) c → (t % 8 ≡ c → i ≡ 8 * (t / 8) + 1)
      → y ≡ eqb (t % 8) c && has x (8 * (t / 8) + 1)
  settled c x i y m e s p =
      elim (two (eqb (t % 8) c)) [
        | inl q ↦
            e ∙ ap (λ (b : Bool). has x i && b) (s ∙ q) ∙ and_one (has x i) ∙ ap (has x) (p (eqb-true (t % 8) c q))
            ∙ sym (ap (λ (b : Bool). b && has x (8 * (t / 8) + 1)) q)
        | inr q ↦
            e ∙ ap (λ (b : Bool). has x i && b) (s ∙ q) ∙ and_zero (has x i)
            ∙ sym (ap (λ (b : Bool). b && has x (8 * (t / 8) + 1)) q)
      ]

  moved_down : (x : ℕ) → has (bit_and x mask / 2) t ≡ eqb (t % 8) 0 && has x (8 * (t / 8) + 1)
  moved_down x = settled 0 x (1 + t) _ _ (has-shr (bit_and x mask) 1 t ∙ has-and x mask (1 + t)) down (λ e. omega arith)

  moved_up :
      (k x : ℕ) → k < 7 → has ((bit_and x mask * 2 ^ k) % 2 ^ 64) t ≡ eqb (t % 8) (suc k) && has x (8 * (t / 8) + 1)
  moved_up k x l =
      settled (suc k) x (t - k) _ _
      (ap (λ (y : ℕ). has y t) (shl_exact 58 k 64 (masked-lt x) (omega arith))
      ∙ has-shl (bit_and x mask) k t
      ∙ ap (λ (b : Bool). leb k t && b) (has-and x mask (t - k))
      ∙ swap (leb k t) (has x (t - k)) (has mask (t - k)))
      (up k l) (λ e. omega arith)

  moved_none : (x : ℕ) → has (bit_and x mask) t ≡ eqb (t % 8) 1 && has x (8 * (t / 8) + 1)
  moved_none x =
      ap (λ (y : ℕ). has y t) (sym (shl_exact 58 0 64 (masked-lt x) (omega arith) ∙ mul-one (bit_and x mask))) ∙ moved_up 0 x (omega arith)

  pub gathered :
      (f : ℕ → Bool) (x0 x1 x2 x3 x4 x5 x6 x7 : ℕ)
      → has x0 (8 * (t / 8) + 1) ≡ f 0 → has x1 (8 * (t / 8) + 1) ≡ f 1 → has x2 (8 * (t / 8) + 1) ≡ f 2 → has x3 (8 * (t / 8) + 1) ≡ f 3
      → has x4 (8 * (t / 8) + 1) ≡ f 4 → has x5 (8 * (t / 8) + 1) ≡ f 5 → has x6 (8 * (t / 8) + 1) ≡ f 6 → has x7 (8 * (t / 8) + 1) ≡ f 7
      → has
      (bit_or (bit_or (bit_or (bit_or (bit_or (bit_or (bit_or (bit_and x0 mask / 2) (bit_and x1 mask)) ((bit_and x2 mask * 2 ^ 1) % 2 ^ 64))
      ((bit_and x3 mask * 2 ^ 2) % 2 ^ 64)) ((bit_and x4 mask * 2 ^ 3) % 2 ^ 64)) ((bit_and x5 mask * 2 ^ 4) % 2 ^ 64))
      ((bit_and x6 mask * 2 ^ 5) % 2 ^ 64)) ((bit_and x7 mask * 2 ^ 6) % 2 ^ 64)) t
      ≡ f (t % 8)
  gathered f x0 x1 x2 x3 x4 x5 x6 x7 e0 e1 e2 e3 e4 e5 e6 e7 =
      or-of _ _ (or-of _ _ (or-of _ _ (or-of _ _ (or-of _ _ (or-of _ _ (or-of _ _ (moved_down x0 ∙ by 0 e0) (moved_none x1 ∙ by 1 e1))
      (moved_up 1 x2 (omega arith) ∙ by 2 e2)) (moved_up 2 x3 (omega arith) ∙ by 3 e3)) (moved_up 3 x4 (omega arith) ∙ by 4 e4))
      (moved_up 4 x5 (omega arith) ∙ by 5 e5)) (moved_up 5 x6 (omega arith) ∙ by 6 e6)) (moved_up 6 x7 (omega arith) ∙ by 7 e7)
      ∙ pick (t % 8) (omega arith)
    where
      by : (c : ℕ) {p q : Bool} → p ≡ q → (eqb (t % 8) c && p) ≡ (eqb (t % 8) c && q)
      by c e = ap (λ (b : Bool). eqb (t % 8) c && b) e

      or-of : (x y : ℕ) {p q : Bool} → has x t ≡ p → has y t ≡ q → has (bit_or x y) t ≡ p || q
      or-of x y e d = has-or x y t ∙ ap₂ ◌||◌ e d

      pick :
          (i : ℕ) → i < 8
          → ((((((((eqb i 0 && f 0) || (eqb i 1 && f 1)) || (eqb i 2 && f 2)) || (eqb i 3 && f 3)) || (eqb i 4 && f 4)) || (eqb i 5 && f 5))
          || (eqb i 6 && f 6)) || (eqb i 7 && f 7))
          ≡ f i
      pick zero l = simp or-zero
      pick (suc zero) l = simp or-zero
      pick (suc (suc zero)) l = simp or-zero
      pick (suc (suc (suc zero))) l = simp or-zero
      pick (suc (suc (suc (suc zero)))) l = simp or-zero
      pick (suc (suc (suc (suc (suc zero))))) l = simp or-zero
      pick (suc (suc (suc (suc (suc (suc zero)))))) l = simp or-zero
      pick (suc (suc (suc (suc (suc (suc (suc zero))))))) l = refl
      pick (suc (suc (suc (suc (suc (suc (suc (suc i)))))))) l = let z : ⊥ = omega arith in absurd z

-- ---- each bit of a mask and the bit s above it change places

has-xor : (a b c : ℕ) → a < 2 ^ 64 → b < 2 ^ 64 → c < 64 → has (bit_xor a b) c ≡ unlike (has a c) (has b c)
has-xor a b c ha hb h =
    ap (λ (y : ℕ). has y c) (ap₂ bit_xor (bits-has 64 a ha) (bits-has 64 b hb) ∙ bits-xor 64 (has a) (has b))
    ∙ has-bits 64 (λ i. unlike (has a i) (has b i)) c h

unlike-none : (p : Bool) → unlike p false ≡ p
unlike-none true = refl
unlike-none false = refl

unlike-back : (p q : Bool) → unlike p (unlike p q) ≡ q
unlike-back true true = refl
unlike-back true false = refl
unlike-back false q = refl

unlike-other : (p r : Bool) → unlike p (unlike r p) ≡ r
unlike-other true true = refl
unlike-other true false = refl
unlike-other false true = refl
unlike-other false false = refl

exchanged-bit :
    (p q r m l n : Bool) → (m && (l && n)) ≡ false
    → unlike (unlike p (unlike p q && m)) (l && (unlike r p && n)) ≡ cond m q (cond (l && n) r p)
exchanged-bit p q r true true true e = absurd (true≢false e)
exchanged-bit p q r true true false e = simp (and_one, and_zero, unlike-none, unlike-back)
exchanged-bit p q r true false n e = simp (and_one, unlike-none, unlike-back)
exchanged-bit p q r false true true e = simp (and_one, and_zero, unlike-none, unlike-other)
exchanged-bit p q r false true false e = simp (and_zero, unlike-none)
exchanged-bit p q r false false n e = simp (and_zero, unlike-none)

cond-at : (f : ℕ → Bool) (m n : Bool) (a b c : ℕ) → cond m (f a) (cond n (f b) (f c)) ≡ f (cond m a (cond n b c))
cond-at f true n a b c = refl
cond-at f false true a b c = refl
cond-at f false false a b c = refl

module _ (x mask s : ℕ) (small : x < 2 ^ 64) (high : mask * 2 ^ s < 2 ^ 64) (low : mask < 2 ^ 64) where
  abbrev changing : ℕ
  changing = bit_and (bit_xor x (x / 2 ^ s)) mask

  changing-le : changing ≤ mask
  changing-le = and_le_r (bit_xor x (x / 2 ^ s)) mask

  changing-lt : changing < 2 ^ 64
  changing-lt = lt_of_le_of_lt changing-le low

  changing-has : (c : ℕ) → c < 64 → has changing c ≡ unlike (has x c) (has x (s + c)) && has mask c
  changing-has c h =
      has-and (bit_xor x (x / 2 ^ s)) mask c
      ∙ ap (λ (b : Bool). b && has mask c)
      (has-xor x (x / 2 ^ s) c small (lt_of_le_of_lt (shr_le x s) small) h ∙ ap (unlike (has x c)) (has-shr x s c))

  moved-has : (c : ℕ) → c < 64 → has ((changing * 2 ^ s) % 2 ^ 64) c ≡ leb s c && (unlike (has x (c - s)) (has x (s + (c - s))) && has mask (c - s))
  moved-has c h =
      ap (λ (y : ℕ). has y c) (mod-eq_of_lt (lt_of_le_of_lt (mul-le-mul_right (2 ^ s) changing-le) high))
      ∙ has-shl changing s c
      ∙ ap (λ (b : Bool). leb s c && b) (changing-has (c - s) (omega arith))

  pub exchanged :
      (c : ℕ) → c < 64 → (has mask c && (leb s c && has mask (c - s))) ≡ false
      → has (bit_xor (bit_xor x changing) ((changing * 2 ^ s) % 2 ^ 64)) c ≡ has x (partner mask s c)
  exchanged c h free =
      has-xor (bit_xor x changing) ((changing * 2 ^ s) % 2 ^ 64) c (xor_lt 64 x changing small changing-lt) (mod-lt (changing * 2 ^ s) (lit< tt)) h
      ∙ ap₂ unlike (has-xor x changing c small changing-lt h ∙ ap (unlike (has x c)) (changing-has c h)) (moved-has c h ∙ back (two (leb s c)))
      ∙ exchanged-bit (has x c) (has x (s + c)) (has x (c - s)) (has mask c) (leb s c) (has mask (c - s)) free
      ∙ cond-at (has x) (has mask c) (leb s c && has mask (c - s)) (s + c) (c - s) c
    where
      back : (leb s c ≡ true) ⊎ (leb s c ≡ false) → leb s c && (unlike (has x (c - s)) (has x (s + (c - s))) && has mask (c - s))
          ≡ leb s c && (unlike (has x (c - s)) (has x c) && has mask (c - s))
      back (inl e) =
          let u : s ≤ c = leb-true s c e in
          let i : s + (c - s) ≡ c = omega arith in
          ap (λ (j : ℕ). leb s c && (unlike (has x (c - s)) (has x j) && has mask (c - s))) i
      back (inr e) =
          ap (λ (b : Bool). b && (unlike (has x (c - s)) (has x (s + (c - s))) && has mask (c - s))) e
          ∙ sym (ap (λ (b : Bool). b && (unlike (has x (c - s)) (has x c) && has mask (c - s))) e)

-- ---- the transpose, in three such exchanges

abbrev apart : ℕ → ℕ → ℕ → Bool
apart mask s c = not (has mask c && (leb s c && has mask (c - s)))

pub apart-7 : (c : ℕ) → c < 64 → (has 47851476196393130 c && (leb 7 c && has 47851476196393130 (c - 7))) ≡ false
unfolding has
apart-7 c h = not-true _ (below 64 (apart 47851476196393130 7) refl c h)

pub apart-14 : (c : ℕ) → c < 64 → (has 225176545447116 c && (leb 14 c && has 225176545447116 (c - 14))) ≡ false
unfolding has
apart-14 c h = not-true _ (below 64 (apart 225176545447116 14) refl c h)

pub apart-28 : (c : ℕ) → c < 64 → (has 4042322160 c && (leb 28 c && has 4042322160 (c - 28))) ≡ false
unfolding has
apart-28 c h = not-true _ (below 64 (apart 4042322160 28) refl c h)

abbrev last : ℕ → ℕ
last c = partner 4042322160 28 c

abbrev middle : ℕ → ℕ
middle c = partner 225176545447116 14 c

abbrev first : ℕ → ℕ
first c = partner 47851476196393130 7 c

pub record Transposed (c : ℕ) : Type 0 where
  pub last-in : last c < 64
  pub middle-in : middle (last c) < 64
  pub is : first (middle (last c)) ≡ crossed c

pub transposed : (c : ℕ) → c < 64 → Transposed c
unfolding has
transposed c h =
    record {
      last-in = ltb-true _ 64 (below 64 (λ c. ltb (last c) 64) refl c h);
      middle-in = ltb-true _ 64 (below 64 (λ c. ltb (middle (last c)) 64) refl c h);
      is = eqb-true _ _ (below 64 (λ c. eqb (first (middle (last c))) (crossed c)) refl c h);
    }
