-- Document 02's CR 8, "Which side it came out by": what the faces say that take, open and carve answer. proofs/Faces.antt proves it.
use Rattle.std.specs.Prelude.{◌≡◌, Bool, true, false, List, [], ◌∷◌, ℕ, zero, suc, ◌≤◌, ◌<◌, leb, length, None, Some}
use Rattle.cells.specs.Groups.{any, cons_if}
use Rattle.cells.specs.Faces.{face_at}
use Rattle.rules.specs.declared.Sides.{Sides}
use Rattle.rules.specs.Grid.{neighbourhood}
use Rattle.rules.specs.declared.Carving.{Carving}
use Rattle.rules.specs.declared.Opening.{Opening}
use Rattle.rules.specs.Answer.{done, Removal}
use Rattle.rules.specs.Status.{is_kept, is_pending, test_at, first_of, goes, examine}
use Rattle.rules.specs.Marks.{marked}
use Rattle.rules.specs.Machine.{State, may_go, sooner, carve, take, open_next}

-- voxel i comes out by that face: the neighbour across it is not kept, and those across the lower numbered faces are
pub record ComesOut (s : Sides) (status : List ℕ) (i face : ℕ) : Type 0 where
  pub one-of-six : face < 6
  pub clear : neighbourhood s (is_kept status) i (face_at face) ≡ false
  pub lower : (l : ℕ) → l < face → neighbourhood s (is_kept status) i (face_at l) ≡ true

-- ---- take and open, on any state: never 6

abbrev pub TakeHasFace : Type 0
TakeHasFace = (marks : List ℕ) (i : ℕ) (g : State) (a : Removal) → (take marks i g).answer ≡ done a → ComesOut g.rec.sides g.status i a.face

abbrev pub OpenHasFace : Type 0
OpenHasFace = (marks : List ℕ) (g : State) (a : Opening) → (open_next marks g).answer ≡ done a → ComesOut g.rec.sides g.status a.index a.face

-- ---- carve

-- the faces of its removals, in their order
unfoldable pub faces_of : Sides → (ℕ → Bool) → (ℕ → ℕ → Bool) → ℕ → List ℕ → List ℕ
faces_of s free ahead zero status = []
faces_of s free ahead (suc limit) status =
    elim (first_of s ahead (is_pending status)) [
      | None ↦ []
      | Some i ↦ cons_if (goes s free status i) (test_at s status i).face (faces_of s free ahead limit (examine s free status i))
    ]

abbrev pub last_or : ℕ → List ℕ → ℕ
last_or n [] = n
last_or n (face ∷ faces) = last_or face faces

-- the last of them is answered, and 6 is where there is none
pub record CarveFaces (faces : List ℕ) (a : Carving) : Type 0 where
  pub number : a.removed ≡ length faces
  pub last : a.face ≡ last_or 6 faces
  pub each-of-six : any (leb 6) faces ≡ false
  pub none-removed : a.removed ≡ 0 → a.face ≡ 6
  pub some-removed : 1 ≤ a.removed → a.face < 6

abbrev pub CarveHasFace : Type 0
CarveHasFace =
    (marks : List ℕ) (limit : ℕ) (g : State) (a : Carving) → (carve marks limit g).answer ≡ done a
    → let m = marked marks in CarveFaces (faces_of g.rec.sides (may_go m g.dist) (sooner m g.dist) limit g.status) a
