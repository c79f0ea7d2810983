-- Document 02's CR 8, "Which side it came out by": what the lowest numbered bare face is, and other faces that it is not. proofs/Faces.antt proves it.
use Rattle.std.specs.Prelude.{◌≡◌, Bool, true, false, not, List, [], ◌∷◌, ℕ, ◌≤◌, ◌<◌, get_or}
use Rattle.cells.specs.Cells.{touched, numbered_faces, before, test, passes}

-- the cell of a face's number, which is also the place of the neighbour across it
abbrev pub face_at : ℕ → ℕ
face_at n = get_or numbered_faces n 13

-- the face of that number is bare, and every lower numbered one is touched; 6 where none is bare
pub record LowestBare (kept : ℕ → Bool) (n : ℕ) : Type 0 where
  pub few : n ≤ 6
  pub bare : n < 6 → touched kept (face_at n) ≡ false
  pub lower : (l : ℕ) → l < n → touched kept (face_at l) ≡ true

abbrev pub FaceIsLowest : Type 0
FaceIsLowest = (kept : ℕ → Bool) → LowestBare kept (test kept).face

-- a face is touched by the neighbour across it alone
abbrev pub FaceIsAcross : Type 0
FaceIsAcross = (kept : ℕ → Bool) (n : ℕ) → n < 6 → touched kept (face_at n) ≡ kept (face_at n)

-- ---- wrong faces

-- the first bare one of a list is not the face, for some block
abbrev pub OtherFaces : List ℕ → Type 0
OtherFaces order = ((kept : ℕ → Bool) → (test kept).face ≡ before (λ c. not (touched kept c)) order) → ⊥

pub record WrongFaces : Type 0 where
  pub high-before-low : OtherFaces (14 ∷ 12 ∷ 16 ∷ 10 ∷ 22 ∷ 4 ∷ [])
  pub z-before-x : OtherFaces (4 ∷ 22 ∷ 10 ∷ 16 ∷ 12 ∷ 14 ∷ [])
  -- by the place in the block
  pub by_place : OtherFaces (4 ∷ 10 ∷ 12 ∷ 14 ∷ 16 ∷ 22 ∷ [])
  -- touched for bare
  pub touched-faces : ((kept : ℕ → Bool) → (test kept).face ≡ before (touched kept) numbered_faces) → ⊥
  -- 6 for a voxel that passes
  pub six-for-passing : ((kept : ℕ → Bool) → passes (test kept) ≡ true → (test kept).face ≡ 6) → ⊥
