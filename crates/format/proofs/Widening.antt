-- Widening a value of 16 bits, and getting it back.
use mathlib.Core.Path.{◌≡◌, refl, ap, sym, subst, ◌∙◌}
use mathlib.Core.Logic.{⊎_elim}
use mathlib.Core.Bool.{Bool, true, false, not, ◌&&◌}
use Prim.Native.Nat.{ℕ, suc, ◌+◌, ◌-◌, ◌<◌}
use native.Mathlib.Omega.{arith}
use lib.Dec.{eqb, ltb}
use lib.IntN.{ℤ, pos, negsuc}
use borrow.Author.Tests.{ltb-true, ltb-false, le-ltb, lt-leb, ne_eqb, eqb-true, eqb-false}
use Rattle.prelude.proofs.Bools.{two}
use Rattle.rules.specs.Value.{missing, is_missing, beyond, stray}
use Rattle.format.specs.Bytes.{word, signed, widened, narrowed, value_of}
use Rattle.format.specs.Widening.{sixteen_bits, Widening}
use Rattle.format.proofs.Bytes.{narrowed-pos}

-- by the sign, and by the mark
signed-from : (h n : ℕ) → ltb n h ≡ true → signed h n ≡ pos n
unfolding signed
signed-from h n e = rw e refl

signed_below : (h n : ℕ) → ltb n h ≡ false → signed h n ≡ negsuc (h + h - 1 - n)
unfolding signed
signed_below h n e = rw e refl

widened-other : (h k : ℕ) → eqb (suc k) h ≡ false → widened h (negsuc k) ≡ negsuc k
unfolding widened
widened-other h k e = rw e refl

module _ (P : ℤ → Type 0) where
  -- what holds from 0 to 32,767, of the mark and from -32,767 to -1 holds of every number of 16 bits
  sixteen : ((n : ℕ) → n < 32768 → P (pos n)) → P (negsuc 32767) → ((k : ℕ) → k < 32767 → P (negsuc k)) → (n : ℕ) → P (signed 32768 n)
  sixteen from mark below n =
      ⊎_elim
      (λ t. subst P (sym (signed-from 32768 n t)) (from n (ltb-true n 32768 t)))
      (λ f. subst P (sym (signed_below 32768 n f)) (negative (65535 - n) (omega (arith, ltb-false n 32768 f))))
      (two (ltb n 32768))
    where
      negative : (k : ℕ) → k < 32768 → P (negsuc k)
      negative k l =
          ⊎_elim
          (λ t. subst (λ (x : ℕ). P (negsuc x)) (sym (eqb-true k 32767 t)) mark)
          (λ f. below k (let ne = eqb-false k 32767 f in omega arith))
          (two (eqb k 32767))

-- ---- what becomes of a value

from-0 : (n : ℕ) → widened 32768 (pos n) ≡ pos n
unfolding widened
from-0 n = refl

back-from-0 : (n : ℕ) → narrowed 32768 (widened 32768 (pos n)) ≡ pos n
back-from-0 n = ap (narrowed 32768) (from-0 n) ∙ narrowed-pos 32768 n

mark-widened : widened 32768 (negsuc 32767) ≡ missing
unfolding widened
mark-widened = refl

mark-back : narrowed 32768 (widened 32768 (negsuc 32767)) ≡ negsuc 32767
unfolding widened narrowed is_missing
mark-back = refl

below-0 : (k : ℕ) → k < 32767 → widened 32768 (negsuc k) ≡ negsuc k
below-0 k l = widened-other 32768 k (ne_eqb (suc k) 32768 (λ e. let z : ⊥ = omega arith in z))

back-below-0 : (k : ℕ) → k < 32767 → narrowed 32768 (widened 32768 (negsuc k)) ≡ negsuc k
unfolding narrowed is_missing
back-below-0 k l = rw (below-0 k l, ne_eqb k 2147483647 (λ e. let z : ⊥ = omega arith in z)) refl

-- ---- in the range

fit-from-0 : (n : ℕ) → n < 32768 → stray (widened 32768 (pos n)) ≡ false
unfolding beyond
fit-from-0 n l = ap stray (from-0 n) ∙ le-ltb 1000000000 n (omega arith)

fit-mark : stray (widened 32768 (negsuc 32767)) ≡ false
unfolding widened beyond is_missing
fit-mark = refl

fit-below-0 : (k : ℕ) → k < 32767 → stray (widened 32768 (negsuc k)) ≡ false
unfolding beyond
fit-below-0 k l = ap stray (below-0 k l) ∙ ap (λ (t : Bool). t && not (is_missing (negsuc k))) (lt-leb 1000000000 k (omega arith))

unmarked : (v : ℤ) → (v ≡ negsuc 32767 → ⊥) → widened 32768 v ≡ v
unmarked (pos n) d = from-0 n
unmarked (negsuc k) d = widened-other 32768 k (ne_eqb (suc k) 32768 (λ e. d (ap negsuc (let q : k ≡ 32767 = omega arith in q))))

-- of four bytes the mark is the one of 32 bits already
as-it-is : (v : ℤ) → widened 2147483648 v ≡ v
unfolding widened
as-it-is (pos n) = refl
as-it-is (negsuc k) =
    ⊎_elim
    (λ t. rw t (ap negsuc (let q : 2147483647 ≡ k = let e = eqb-true (suc k) 2147483648 t in omega arith in q)))
    (λ f. rw f refl)
    (two (eqb (suc k) 2147483648))

pub widening : Widening
unfolding value_of
widening =
    record {
      got-back = λ file at. sixteen (λ v. narrowed 32768 (widened 32768 v) ≡ v) (λ n l. back-from-0 n) mark-back back-below-0 (word 2 file at);
      mark = λ file at e. ap (widened 32768) e ∙ mark-widened;
      others = λ file at d. unmarked (sixteen_bits file at) d;
      in-range = λ file at. sixteen (λ v. stray (widened 32768 v) ≡ false) fit-from-0 fit-mark fit-below-0 (word 2 file at);
      wide = λ file at. as-it-is (signed 2147483648 (word 4 file at));
    }
