-- Bytes joined, and the test whether any byte has a bit.
use mathlib.Core.Path.{◌≡◌, refl, ap, sym, ◌∙◌}
use mathlib.Core.Bool.{Bool, true, not, ◌||◌}
use mathlib.Core.List.{List, [], ◌∷◌}
use Prim.Native.Nat.{ℕ, zero, suc, ◌-◌, ◌≤◌, ◌<◌}
use native.Mathlib.Omega.{arith}
use borrow.Author.Tests.{ne_eqb}
use lib.Bits.{bit_or, or_add_and, and_le_r}
use lib.Dec.{eqb}
use lib.ListN.{length, take, drop}
use Rattle.std.specs.List.{fold}
use Rattle.cells.specs.Groups.{any}
use Rattle.prelude.proofs.Bools.{or-zero, or_assoc}
use Rattle.loops.specs.Joined.{BitTest, Joined}
use Rattle.loops.proofs.Spans.{any-span}

module _ (p : ℕ → Bool) (t : BitTest p) where
  fold-joined : (all : ℕ) (xs : List ℕ) → p (fold bit_or all xs) ≡ p all || any p xs
  unfolding any
  fold-joined all [] = sym (or-zero (p all))
  fold-joined all (x ∷ xs) = fold-joined (bit_or all x) xs ∙ ap (λ (u : Bool). u || any p xs) (t.either all x) ∙ or_assoc (p all) (p x) (any p xs)

-- the bytes from first up to end, one after the other
pub joined_all : (l : List ℕ) (first end : ℕ) → first ≤ end → end ≤ length l → Joined l first end (fold bit_or 0 (take (end - first) (drop first l)))
joined_all l first end h k =
    record {
      each = λ p t. fold-joined p t 0 (take (end - first) (drop first l))
          ∙ ap (λ (u : Bool). u || any p (take (end - first) (drop first l))) t.none
          ∙ any-span p 0 l first (end - first) (omega arith);
    }

-- a number other than 0 has a bit
pub nonzero-test : BitTest (λ x. not (eqb x 0))
nonzero-test = record { none = refl; either = either }
  where
    positive : (n : ℕ) → 0 < n → not (eqb n 0) ≡ true
    positive n h = ap not (ne_eqb n 0 (λ e. omega arith))

    either : (x y : ℕ) → not (eqb (bit_or x y) 0) ≡ not (eqb x 0) || not (eqb y 0)
    either zero y = refl
    either (suc n) y =
        positive (bit_or (suc n) y) (omega (arith, or_add_and (suc n) y, and_le_r (suc n) y))
        ∙ ap (λ (t : Bool). t || not (eqb y 0)) (sym (positive (suc n) (omega arith)))
