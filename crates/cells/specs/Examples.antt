-- Document 01's nine worked local tests: the kept neighbours, then k and m. proofs/Examples.antt proves them by computation.
use Rattle.std.specs.Prelude.{◌≡◌, Bool, true, false, not, List, [], ◌∷◌, ℕ, eqb}
use Rattle.cells.specs.Groups.{any}
use Rattle.cells.specs.Cells.{dimension, Test, test}

-- k and m of a block, as a pair of digits
unfoldable pub km : (ℕ → Bool) → List ℕ
km kept = (test kept).k ∷ (test kept).m ∷ []

-- just the given neighbours are kept
unfoldable pub only : List ℕ → ℕ → Bool
only kept p = any (eqb p) kept

pub record LocalTests : Type 0 where
  pub none : km (λ p. false) ≡ 0 ∷ 1 ∷ []
  pub all : km (λ p. true) ≡ 1 ∷ 0 ∷ []
  pub one-face : km (only (4 ∷ [])) ≡ 1 ∷ 1 ∷ []
  pub one-corner : km (only (0 ∷ [])) ≡ 1 ∷ 1 ∷ []
  pub two-opposite-faces : km (only (4 ∷ 22 ∷ [])) ≡ 2 ∷ 1 ∷ []
  pub four-side-faces : km (only (10 ∷ 12 ∷ 14 ∷ 16 ∷ [])) ≡ 1 ∷ 2 ∷ []
  pub five-faces : km (only (4 ∷ 10 ∷ 12 ∷ 14 ∷ 16 ∷ [])) ≡ 1 ∷ 1 ∷ []
  pub eight-corners : km (λ p. eqb (dimension p) 0) ≡ 8 ∷ 1 ∷ []
  pub corners-and-edges : km (λ p. not (eqb (dimension p) 2)) ≡ 1 ∷ 6 ∷ []

-- the test gives no constant
abbrev pub TestVaries : Type 0
TestVaries = (c : Test) → ((kept : ℕ → Bool) → test kept ≡ c) → ⊥

-- document 02's CR 8: all neighbours are kept but the one named, and its face is the lowest numbered bare one; all kept, and none
abbrev pub face_without : ℕ → ℕ
face_without p = (test (λ q. not (eqb p q))).face

pub record BareFaces : Type 0 where
  pub low_x : face_without 12 ≡ 0
  pub high-x : face_without 14 ≡ 1
  pub low-y : face_without 10 ≡ 2
  pub high-y : face_without 16 ≡ 3
  pub low-z : face_without 4 ≡ 4
  pub high-z : face_without 22 ≡ 5
  pub none_bare : face_without 13 ≡ 6
  -- low x before high x, and before low z
  pub first : (test (λ p. false)).face ≡ 0
