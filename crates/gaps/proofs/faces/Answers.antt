-- `faces`: the offsets of the six face positions.
use mathlib.Core.Path.{◌≡◌}
use mathlib.Core.List.{List, [], ◌∷◌}
use Prim.Native.Nat.{ℕ}
use native.Mathlib.Omega.{arith}
use Rattle.gaps.proofs.faces.Goals as goal

six : {p q r s t u p' q' r' s' t' u' : ℕ} → p ≡ p' → q ≡ q' → r ≡ r' → s ≡ s' → t ≡ t' → u ≡ u'
    → ◌≡◌ {A = List ℕ} (p ∷ q ∷ r ∷ s ∷ t ∷ u ∷ []) (p' ∷ q' ∷ r' ∷ s' ∷ t' ∷ u' ∷ [])
six a b c d e f = cc

pub returns : goal.returns
returns c = six (omega arith) (omega arith) (omega arith) (omega arith) (omega arith) (omega arith)
