-- Texts written one before the other: a text before one that was written, and the loop that writes a word.
use mathlib.Core.Path.{◌≡◌, refl, ap, ap₂, sym, ◌∙◌}
use mathlib.Core.List.{List, [], ◌∷◌, ◌++◌}
use Prim.Native.Nat.{ℕ, zero, suc, ◌+◌, ◌-◌, ◌≤◌, ◌<◌}
use native.Mathlib.Omega.{arith}
use lib.ListN.{length, take, drop, set}
use lib.Seq.{length-take-le, take-append-le, take-take, drop_at, set_split}
use Rattle.text.specs.Written.{Written}

-- nothing is written yet
pub written_none : (old : List ℕ) (at : ℕ) → Written 0 at at old old (drop at old)
written_none old at = record { near = omega arith; below = omega arith; reads = sym (take-drop at old) }
  where
    take-drop : (n : ℕ) (l : List ℕ) → take n l ++ drop n l ≡ l
    take-drop zero l = refl
    take-drop (suc n) [] = refl
    take-drop (suc n) (x ∷ l) = ap (λ (t : List ℕ). x ∷ t) (take-drop n l)

module _ {m k at mid start : ℕ} {old between new text : List ℕ} (f : List ℕ → List ℕ) where
  -- a text, then what is made of it by writing more before it
  pub written_then :
      at ≤ length old → Written m at mid old between text → Written k mid start between new (f (drop mid between)) → Written (m + k) at start old new (f text)
  written_then h v w =
      let room : mid ≤ length old = omega (arith, v.below) in
      let long = length-take-le mid old room in
      let same : take start between ≡ take start old =
      ap (take start) v.reads ∙ take-append-le start (take mid old) text (omega (arith, w.below)) ∙ take-take start mid old w.below in
      let rest : drop mid between ≡ text = ap (drop mid) v.reads ∙ drop_at (take mid old) text mid long in
      record {
        near = omega (arith, v.near, w.near);
        below = omega (arith, v.below, w.below);
        reads = w.reads ∙ ap₂ (λ (a b : List ℕ). a ++ f b) same rest;
      }

pub put-before :
    (l : List ℕ) (at byte : ℕ) → 0 < at → at ≤ length l → Written 1 at (at - 1) l (set l (at - 1) byte) (byte ∷ drop at l)
put-before l zero byte h k = elim h [ ]
put-before l (suc i) byte h k =
    let e : suc i - 1 ≡ i = omega arith in
    rw e (record { near = omega arith; below = omega arith; reads = set_split l i byte (omega arith) })

-- ---- a word, of which the first left bytes are still to be written

pub record Spelt (word : List ℕ) (at : ℕ) (old out : List ℕ) (start left : ℕ) : Type 0 where
  pub long : length out ≡ length old
  pub within : left ≤ length word
  pub written : Written (length word - left) at start old out (drop left word ++ drop at old)
