-- The digits of a number, written the last one first.
use mathlib.Core.Path.{◌≡◌, refl, ap, sym, ◌∙◌}
use mathlib.Core.List.{List, ◌∷◌, ◌++◌}
use Prim.Native.Nat.{ℕ, zero, suc, ◌+◌, ◌*◌, ◌/◌, ◌%◌, ◌^◌, ◌≤◌, ◌<◌}
use native.Mathlib.Omega.{arith}
use native.Mathlib.Nat.{div-lt_iff_lt-mul, pow-suc}
use borrow.Author.Tests.{lt-ltb, le-ltb}
use lib.ListN.{length, take, drop}
use Rattle.text.specs.Line.{decimal, number}
use Rattle.text.specs.Written.{Written}
use Rattle.text.proofs.Writing.{written_none, written_then}

decimal-more : (k n : ℕ) (text : List ℕ) → 10 ≤ n → decimal (suc k) n text ≡ decimal k (n / 10) ((n % 10 + 0x30) ∷ text)
unfolding decimal
decimal-more k n text h = simp (le-ltb n 10 h)

decimal-last : (k n : ℕ) (text : List ℕ) → n < 10 → decimal (suc k) n text ≡ (n + 0x30) ∷ text
unfolding decimal
decimal-last k n text h = simp (lt-ltb n 10 h)

-- the text so far, and the digits of rest still to be written before it, of which there are at most one and some more
pub record Digits (at : ℕ) (whole old out : List ℕ) (start rest : ℕ) : Type 0 where
  pub long : length out ≡ length old
  pub text : List ℕ
  pub used : ℕ
  pub more : ℕ
  pub all : used + suc more ≡ 20
  pub written : Written used at start old out text
  pub small : rest < 10 ^ suc more
  pub reads : decimal (suc more) rest text ≡ whole

module _ (at : ℕ) (old : List ℕ) where
  pub digits-start : (n : ℕ) → n < 2 ^ 64 → Digits at (number n (drop at old)) old old at n
  digits-start n h =
      record { long = refl; text = drop at old; used = 0; more = 19; all = refl; written = written_none old at; small = omega arith; reads = refl }

  module _ (whole out : List ℕ) (start rest : ℕ) (room : at ≤ length old) (d : Digits at whole old out start rest) where
    pub digits-next :
        (new : List ℕ) (next : ℕ)
        → 10 ≤ rest
        → length new ≡ length out
        → Written 1 start next out new ((rest % 10 + 0x30) ∷ drop start out)
        → Digits at whole old new next (rest / 10)
    digits-next new next h l w = go d.more d.all d.small d.reads
      where
        go : (k : ℕ) → d.used + suc k ≡ 20 → rest < 10 ^ suc k → decimal (suc k) rest d.text ≡ whole → Digits at whole old new next (rest / 10)
        go zero a s r = let z : ⊥ = omega arith in absurd z
        go (suc k) a s r =
            record {
              long = l ∙ d.long;
              text = (rest % 10 + 0x30) ∷ d.text;
              used = d.used + 1;
              more = k;
              all = omega arith;
              written = written_then (λ t. (rest % 10 + 0x30) ∷ t) room d.written w;
              small =
                  let q : rest < 10 ^ suc k * 10 = omega (arith, pow-suc 10 (suc k)) in
                  (div-lt_iff_lt-mul {k = 10} {x = rest} {y = 10 ^ suc k} (omega arith)).1 q;
              reads = sym (decimal-more (suc k) rest d.text h) ∙ r;
            }

    pub digits-done :
        (new : List ℕ) (next : ℕ) → rest < 10 → Written 1 start next out new ((rest + 0x30) ∷ drop start out) → Written 20 at next old new whole
    digits-done new next h w =
        let v = written_then (λ t. (rest + 0x30) ∷ t) room d.written w in
        record {
          near = omega (arith, v.near, d.all);
          below = v.below;
          reads = v.reads ∙ ap (λ (t : List ℕ). take next old ++ t) (sym (decimal-last d.more rest d.text h) ∙ d.reads);
        }
