-- The lowest numbered bare face from the bits of the touched cells.
use mathlib.Core.Path.{◌≡◌, refl, sym, ap, ap₂, ◌∙◌}
use mathlib.Core.Bool.{Bool, true, false, not, cond, ◌&&◌}
use mathlib.Core.List.{List, [], ◌∷◌}
use Prim.Native.Nat.{ℕ, zero, suc, ◌+◌, ◌*◌, ◌/◌, ◌%◌, ◌^◌, ◌<◌}
use native.Mathlib.Omega.{arith}
use lib.Bits.{bit_and}
use lib.Count.{count_trailing_zeros, under}
use lib.Dec.{ltb, lit<}
use lib.ListN.{length}
use borrow.Author.Tests.{ltb-true}
use Rattle.cells.specs.Groups.{any}
use Rattle.cells.specs.Cells.{bit, touched, numbered_faces, before, test}
use Rattle.cells.specs.Faces.{face_at}
use Rattle.cells.proofs.Faces.{before-ext, face-before}
use Rattle.closed_sets.proofs.EveryBlock.{all_in}
use Rattle.prelude.proofs.Lists.{Mem}
use Rattle.bits.specs.Bits.{has, bits, spaced}
use Rattle.bits.proofs.Bits.{has-shr, bits-ext, masked}
use Rattle.bits.proofs.Spaced.{has-spaced}
use Rattle.local_test.specs.Touched.{TouchedBy, cells_of}

-- ---- one more than a number has its lowest 1 where the number has its lowest 0

-- a list's members as digits, the first lowest
digits : (ℕ → Bool) → List ℕ → ℕ
digits p [] = 0
digits p (c ∷ cs) = digits p cs * 2 + bit (p c)

trailing : (d : ℕ) (p : ℕ → Bool) (cs : List ℕ) → length cs < d → count_trailing_zeros d (digits p cs + 1) ≡ before (λ c. not (p c)) cs
unfolding digits before count_trailing_zeros
trailing zero p cs h = let z : ⊥ = omega arith in absurd z
trailing (suc d) p [] h = refl
trailing (suc d) p (c ∷ cs) h = go (p c) (trailing d p cs (omega arith))
  where
    go : (t : Bool) → count_trailing_zeros d (digits p cs + 1) ≡ before (λ c. not (p c)) cs
        → let x = digits p cs * 2 + bit t + 1 in under (x % 2) (count_trailing_zeros d (x / 2)) ≡ cond (not t) 0 (suc (before (λ c. not (p c)) cs))
    go true r =
        let even : (digits p cs * 2 + 1 + 1) % 2 ≡ 0 = omega arith in
        let half : (digits p cs * 2 + 1 + 1) / 2 ≡ digits p cs + 1 = omega arith in
        ap₂ (λ (m n : ℕ). under m (count_trailing_zeros d n)) even half ∙ ap suc r
    go false r =
        let odd : (digits p cs * 2 + 0 + 1) % 2 ≡ 1 = omega arith in
        ap (λ (m : ℕ). under m (count_trailing_zeros d ((digits p cs * 2 + 0 + 1) / 2))) odd

-- ---- the faces by their numbers

-- bit n of the cells moved down by j
one_bit : (t j mask : ℕ) → mask < 2 ^ 6 → bit_and (t / 2 ^ j) mask ≡ bits 6 (λ c. has mask c && has t (j + c))
one_bit t j mask h =
    masked 6 (t / 2 ^ j) mask h
    ∙ bits-ext 6 (λ c. has mask c && has (t / 2 ^ j) c) (λ c. has mask c && has t (j + c)) (λ c _. ap (λ (b : Bool). has mask c && b) (has-shr t j c))

pub record ByNumber (t : ℕ) : Type 0 where
  pub low_x : bit_and (t / 2 ^ 24) 1 ≡ bit (has t 24)
  pub high-x : bit_and (t / 2 ^ 27) 2 ≡ bit (has t 28) * 2
  pub low-y : bit_and (t / 2 ^ 18) 4 ≡ bit (has t 20) * 4
  pub high-y : bit_and (t / 2 ^ 29) 8 ≡ bit (has t 32) * 8
  pub low-z : bit_and (t / 2 ^ 4) 16 ≡ bit (has t 8) * 16
  pub high-z : bit_and (t / 2 ^ 39) 32 ≡ bit (has t 44) * 32
  pub all : bits 6 (λ n. cells_of t (face_at n))
      ≡ bit (has t 24) + bit (has t 28) * 2 + bit (has t 20) * 4 + bit (has t 32) * 8 + bit (has t 8) * 16 + bit (has t 44) * 32

pub by_number : (t : ℕ) → ByNumber t
unfolding has bits
by_number t =
    record {
      low_x = one_bit t 24 1 (lit< tt) ∙ omega arith;
      high-x = one_bit t 27 2 (lit< tt) ∙ omega arith;
      low-y = one_bit t 18 4 (lit< tt) ∙ omega arith;
      high-y = one_bit t 29 8 (lit< tt) ∙ omega arith;
      low-z = one_bit t 4 16 (lit< tt) ∙ omega arith;
      high-z = one_bit t 39 32 (lit< tt) ∙ omega arith;
      all = omega arith;
    }

pub faces-trailing : (t : ℕ) {x : ℕ} → x ≡ bits 6 (λ n. cells_of t (face_at n)) + 1 → count_trailing_zeros 64 x ≡ before (λ c. not (cells_of t c)) numbered_faces
unfolding bits digits
faces-trailing t e = ap (count_trailing_zeros 64) e ∙ trailing 64 (cells_of t) numbered_faces (omega arith)

-- ---- the face of the test, from the touched cells t

pub face-of : (kept : ℕ → Bool) (t : ℕ) → TouchedBy kept t → before (λ c. not (cells_of t c)) numbered_faces ≡ (test kept).face
face-of kept t e =
    ap (λ (x : ℕ). before (λ c. not (cells_of x c)) numbered_faces) e
    ∙ before-ext (λ c. not (cells_of (bits 54 (spaced (touched kept))) c)) (λ c. not (touched kept c)) numbered_faces
    (λ c m. ap not (has-spaced 27 (touched kept) c (low c m)))
    ∙ sym (face-before kept)
  where
    low : (c : ℕ) → Mem c numbered_faces → c < 27
    low c m = unfold any in ltb-true c 27 (all_in (λ c. ltb c 27) numbered_faces refl c m)
