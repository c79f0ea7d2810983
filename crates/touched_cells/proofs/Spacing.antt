-- The low bits of a number set two apart in five steps: a step moves the upper half of every group up.
use mathlib.Core.Path.{◌≡◌, refl, sym, ap, ◌∙◌}
use mathlib.Core.Bool.{Bool, true, false, ◌&&◌, ◌||◌}
use mathlib.Core.List.{List, []}
use Prim.Native.Nat.{ℕ, ◌-◌, ◌*◌, ◌/◌, ◌%◌, ◌^◌, ◌<◌}
use native.Mathlib.Nat.{lt_of_le_of_lt, mul-le-mul_right, mod-eq_of_lt}
use lib.Dec.{eqb, leb, lit<}
use lib.Bits.{bit_and, bit_or, and_le_r}
use Rattle.cells.specs.Groups.{any, cons_if, filter}
use Rattle.prelude.proofs.Bools.{and_comm, or-zero}
use Rattle.prelude.proofs.Lists.{any-ext}
use Rattle.bits.specs.Bits.{has, bits, spaced}
use Rattle.bits.proofs.Bits.{has-or, has-and, has-shl, bits-has, bits-ext, below}
use Rattle.touched_cells.proofs.Sources.{any-cons_if, any-filter, bind, any-bind, within, any_same}

-- a step by j bits, of which the mask m keeps some
abbrev move : ℕ → ℕ → ℕ → ℕ
move j m x = bit_and (bit_or x ((x * 2 ^ j) % 2 ^ 64)) m

-- the bits from which a step fills bit c
abbrev sources : ℕ → ℕ → ℕ → List ℕ
sources j m c = cons_if (has m c) c (cons_if (has m c && leb j c) (c - j) [])

module _ (j m x : ℕ) (fits : x * 2 ^ j < 2 ^ 64) where
  move-has : (c : ℕ) → has (move j m x) c ≡ any (has x) (sources j m c)
  unfolding any
  move-has c =
      has-and (bit_or x ((x * 2 ^ j) % 2 ^ 64)) m c
      ∙ ap (λ (t : Bool). t && has m c)
      (has-or x ((x * 2 ^ j) % 2 ^ 64) c ∙ ap (λ (t : Bool). has x c || t) (ap (λ (y : ℕ). has y c) (mod-eq_of_lt fits) ∙ has-shl x j c))
      ∙ split (has m c) (leb j c) (has x c) (has x (c - j))
      ∙ sym
      (any-cons_if (has m c) (has x) c (cons_if (has m c && leb j c) (c - j) [])
      ∙ ap (λ (t : Bool). (has m c && has x c) || t) (any-cons_if (has m c && leb j c) (has x) (c - j) []))
    where
      split : (t l p q : Bool) → ((p || (l && q)) && t) ≡ ((t && p) || (((t && l) && q) || false))
      split true true true q = refl
      split true true false true = refl
      split true true false false = refl
      split true false true q = refl
      split true false false q = refl
      split false l true q = refl
      split false true false true = refl
      split false true false false = refl
      split false false false q = refl

  back : (cs : List ℕ) → any (has (move j m x)) cs ≡ any (has x) (bind (sources j m) cs)
  back cs = any-ext (has (move j m x)) (λ d. any (has x) (sources j m d)) cs (λ d _. move-has d) ∙ any-bind (has x) (sources j m) cs

-- a number that a mask has bounded does not leave the word
masked-fits : (x m j : ℕ) → m * 2 ^ j < 2 ^ 64 → bit_and x m * 2 ^ j < 2 ^ 64
masked-fits x m j h = lt_of_le_of_lt (mul-le-mul_right (2 ^ j) (and_le_r x m)) h

moved-fits : (i m x j : ℕ) → m * 2 ^ j < 2 ^ 64 → move i m x * 2 ^ j < 2 ^ 64
moved-fits i m x j h = masked-fits (bit_or x ((x * 2 ^ i) % 2 ^ 64)) m j h

-- ---- the five steps

abbrev low : ℕ
low = 0x7FFFFFF

abbrev five : ℕ → List ℕ
five c =
    bind (sources 16 0x0000FFFF0000FFFF) (bind (sources 8 0x00FF00FF00FF00FF) (bind (sources 4 0x0F0F0F0F0F0F0F0F)
    (bind (sources 2 0x3333333333333333) (sources 1 0x15555555555555 c))))

abbrev origin : ℕ → List ℕ
origin c = filter (has low) (five c)

abbrev half : ℕ → List ℕ
half c = cons_if (eqb (c % 2) 0) (c / 2) []

one-origin : (c : ℕ) → c < 54 → (within (origin c) (half c) && within (half c) (origin c)) ≡ true
unfolding any filter has
one-origin = below 54 (λ c. within (origin c) (half c) && within (half c) (origin c)) refl

module _ (kept : ℕ) where
  abbrev x : ℕ
  x = bit_and kept low

  abbrev x16 : ℕ
  x16 = move 16 0x0000FFFF0000FFFF x

  abbrev x8 : ℕ
  x8 = move 8 0x00FF00FF00FF00FF x16

  abbrev x4 : ℕ
  x4 = move 4 0x0F0F0F0F0F0F0F0F x8

  abbrev x2 : ℕ
  x2 = move 2 0x3333333333333333 x4

  abbrev x1 : ℕ
  x1 = move 1 0x15555555555555 x2

  all-five : (c : ℕ) → has x1 c ≡ any (has x) (five c)
  all-five c =
      move-has 1 0x15555555555555 x2 (moved-fits 2 0x3333333333333333 x4 1 (lit< tt)) c
      ∙ back 2 0x3333333333333333 x4 (moved-fits 4 0x0F0F0F0F0F0F0F0F x8 2 (lit< tt)) _
      ∙ back 4 0x0F0F0F0F0F0F0F0F x8 (moved-fits 8 0x00FF00FF00FF00FF x16 4 (lit< tt)) _
      ∙ back 8 0x00FF00FF00FF00FF x16 (moved-fits 16 0x0000FFFF0000FFFF x 8 (lit< tt)) _
      ∙ back 16 0x0000FFFF0000FFFF x (masked-fits kept low 16 (lit< tt)) _

  any-half : (c : ℕ) → any (has kept) (half c) ≡ spaced (has kept) c
  unfolding any spaced
  any-half c = any-cons_if (eqb (c % 2) 0) (has kept) (c / 2) [] ∙ or-zero (eqb (c % 2) 0 && has kept (c / 2))

  spaced-has : (c : ℕ) → c < 54 → has x1 c ≡ spaced (has kept) c
  spaced-has c h =
      all-five c
      ∙ any-ext (has x) (λ v. has low v && has kept v) (five c) (λ v _. has-and kept low v ∙ and_comm (has kept v) (has low v))
      ∙ sym (any-filter (has low) (has kept) (five c))
      ∙ any_same (has kept) (origin c) (half c) (one-origin c h)
      ∙ any-half c

  pub two-apart : x1 ≡ bits 54 (spaced (has kept))
  two-apart =
      bits-has 54 x1 (lt_of_le_of_lt (and_le_r (bit_or x2 ((x2 * 2 ^ 1) % 2 ^ 64)) 0x15555555555555) (lit< tt))
      ∙ bits-ext 54 (has x1) (spaced (has kept)) spaced-has
