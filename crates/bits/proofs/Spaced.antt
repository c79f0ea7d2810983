-- Sets whose digits stand two apart: the machine's operations do to them what they do to sets side by side.
use mathlib.Core.Path.{◌≡◌, refl, sym, ap, ap₂, ◌∙◌}
use mathlib.Core.Bool.{Bool, true, false, ◌&&◌}
use Prim.Native.Nat.{ℕ, zero, suc, ◌+◌, ◌*◌, ◌/◌, ◌%◌, ◌<◌}
use native.Mathlib.Nat.{zero-add}
use native.Mathlib.Omega.{arith}
use lib.Bits.{bit_and, bit_xor}
use lib.Count.{ones}
use lib.Dec.{eqb}
use borrow.Author.Tests.{eq-eqb}
use Rattle.cells.specs.Cells.{bit}
use Rattle.bits.specs.Bits.{has, bits, spaced}
use Rattle.bits.proofs.Bits.{next, bits-ext, has-bits, bits-and, bits-xor, unlike, ones-more}

-- ---- one digit

pub spaced-even : (s : ℕ → Bool) (c : ℕ) → spaced s (2 * c) ≡ s c
unfolding spaced
spaced-even s c =
    let e : 2 * c % 2 ≡ 0 = omega arith in
    let h : 2 * c / 2 ≡ c = omega arith in
    ap₂ (λ (b : Bool) (d : ℕ). b && s d) (eq-eqb (2 * c % 2) 0 e) h

pub has-spaced : (n : ℕ) (s : ℕ → Bool) (c : ℕ) → c < n → has (bits (n * 2) (spaced s)) (2 * c) ≡ s c
has-spaced n s c h = has-bits (n * 2) (spaced s) (2 * c) (omega arith) ∙ spaced-even s c

-- ---- all digits

pub spaced-and : (n : ℕ) (s r : ℕ → Bool) → bit_and (bits n (spaced s)) (bits n (spaced r)) ≡ bits n (spaced (λ c. s c && r c))
unfolding spaced
spaced-and n s r =
    bits-and n (spaced s) (spaced r)
    ∙ bits-ext n (λ c. spaced s c && spaced r c) (spaced (λ c. s c && r c)) (λ c _. both (eqb (c % 2) 0) (s (c / 2)) (r (c / 2)))
  where
    both : (e p q : Bool) → ((e && p) && (e && q)) ≡ (e && (p && q))
    both true p q = refl
    both false p q = refl

pub spaced-xor : (n : ℕ) (s r : ℕ → Bool) → bit_xor (bits n (spaced s)) (bits n (spaced r)) ≡ bits n (spaced (λ c. unlike (s c) (r c)))
unfolding spaced
spaced-xor n s r =
    bits-xor n (spaced s) (spaced r)
    ∙ bits-ext n (λ c. unlike (spaced s c) (spaced r c)) (spaced (λ c. unlike (s c) (r c))) (λ c _. both (eqb (c % 2) 0) (s (c / 2)) (r (c / 2)))
  where
    both : (e p q : Bool) → unlike (e && p) (e && q) ≡ (e && unlike p q)
    both true p q = refl
    both false p q = refl

-- ---- counts of ones

pub ones-spaced : (n : ℕ) (s : ℕ → Bool) → ones (bits (n * 2) (spaced s)) ≡ ones (bits n s)
unfolding spaced bits
ones-spaced zero s = refl
ones-spaced (suc n) s =
    let e : suc n * 2 ≡ suc (suc (n * 2)) = omega arith in
    ap (λ (k : ℕ). ones (bits k (spaced s))) e
    ∙ ones-more (suc (n * 2)) (spaced s)
    ∙ ap (λ (x : ℕ). bit (s 0) + x)
    (ones-more (n * 2) (next (spaced s))
    ∙ zero-add (ones (bits (n * 2) (next (next (spaced s)))))
    ∙ ap ones (bits-ext (n * 2) (next (next (spaced s))) (spaced (next s)) (λ c _. two-on c))
    ∙ ones-spaced n (next s))
    ∙ sym (ones-more n s)
  where
    two-on : (c : ℕ) → spaced s (suc (suc c)) ≡ spaced (next s) c
    two-on c =
        let e : suc (suc c) % 2 ≡ c % 2 = omega arith in
        let h : suc (suc c) / 2 ≡ suc (c / 2) = omega arith in
        ap₂ (λ (m d : ℕ). eqb m 0 && s d) e h
