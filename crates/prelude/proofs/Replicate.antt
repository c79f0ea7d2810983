-- The start of a list that is one element over and over.
use mathlib.Core.Path.{◌≡◌, refl, ap}
use mathlib.Core.List.{List, ◌∷◌}
use Prim.Native.Nat.{ℕ, zero, suc, ◌≤◌}
use native.Mathlib.Omega.{arith}
use lib.ListN.{take, replicate}

pub take-replicate : {A : Type 0} (k n : ℕ) (x : A) → k ≤ n → take k (replicate n x) ≡ replicate k x
take-replicate zero n x h = refl
take-replicate (suc k) zero x h = let z : ⊥ = omega arith in absurd z
take-replicate (suc k) (suc n) x h = ap (λ (l : List _). x ∷ l) (take-replicate k n x (omega arith))
