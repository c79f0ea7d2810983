-- A run of stores in a list: what stands before its end, and what stands after it.
use mathlib.Core.Path.{◌≡◌, refl, ap, ◌∙◌}
use mathlib.Core.List.{List, [], ◌∷◌, ◌++◌}
use Prim.Native.Nat.{ℕ, suc, ◌+◌, ◌≤◌}
use native.Mathlib.Omega.{arith}
use lib.ListN.{length, take, drop, set, length-append}
use lib.Seq.{sets, sets-eq, length-take-le, take_at, drop-set-lt}

module _ {A : Type 0} where
  pub take-sets : (vs l : List A) (i : ℕ) → i + length vs ≤ length l → take (i + length vs) (sets l i vs) ≡ take i l ++ vs
  take-sets vs l i h =
      let rest : List A = drop (i + length vs) l in
      let n : length (take i l ++ vs) ≡ i + length vs =
      length-append (take i l) vs ∙ ap (λ (m : ℕ). m + length vs) (length-take-le i l (omega arith)) in
      ap (take (i + length vs)) (sets-eq vs l i h) ∙ take_at (take i l ++ vs) rest (i + length vs) n

  pub drop-sets : (vs l : List A) (i n : ℕ) → i + length vs ≤ n → drop n (sets l i vs) ≡ drop n l
  drop-sets [] l i n h = refl
  drop-sets (a ∷ vs) l i n h = drop-sets vs (set l i a) (suc i) n (omega arith) ∙ drop-set-lt n l i a (omega arith)
