-- Document 02's CR 13, "One shaky shot": "Nothing is said of the kept bodies, which may differ widely." They may where carving ends with something left
-- to open, and cannot where nothing is left: that body depends on S alone. proofs/Bodies.antt proves both.
use Rattle.std.specs.Prelude.{◌≡◌, Bool, false, List, [], ◌∷◌, map, ℕ, ◌<◌, ℤ, pos, set}
use Rattle.rules.specs.declared.Sides.{Sides}
use Rattle.rules.specs.Grid.{size, is_in}
use Rattle.rules.specs.Fill.{filled}
use Rattle.rules.specs.Answer.{refused}
use Rattle.rules.specs.Begin.{inside}
use Rattle.rules.specs.Status.{status_of, is_kept, any_pending}
use Rattle.rules.specs.Machine.{State, open_next}
use Rattle.rules.specs.Demand.{Call, run}
use Rattle.rules.specs.Cases.{sides, start, carved_to}
use Rattle.coarse.specs.Examples.{grid}
use Rattle.judging.specs.Own.{PinNothing}
use Rattle.judging.specs.Guarantee.{AcceptedList, left_by, NoneExposed}
use Rattle.shaky.specs.Shaky.{OfTwo, OneShot, Shaken}

-- ---- nothing is left to open

-- what calls keep after which open answers 15 and pins nothing; or what a removal list leaves that judge accepts, with no voxel outside S exposed
pub data NothingToOpen (s : Sides) (S : ℕ → Bool) (begun : State) : (ℕ → Bool) → Type 0 where
  after-calls : (calls : List Call) (lent : List ℕ) → PinNothing lent → (open_next lent (run calls begun).end).answer ≡ refused 15
      → NothingToOpen s S begun (is_kept (run calls begun).end.status)
  after_list : (l : AcceptedList s begun) → NoneExposed s S (left_by l) → NothingToOpen s S begun (left_by l)

-- the same body, whatever shook
abbrev pub ShakenSameBody : Type 0
ShakenSameBody =
    OfTwo (λ s p q one other.
    (e : ℕ) → Shaken e p q → (kept kept' : ℕ → Bool)
    → NothingToOpen s (is_in (inside s (filled s p))) one kept → NothingToOpen s (is_in (inside s (filled s q))) other kept'
    → (i : ℕ) → i < size s → kept i ≡ kept' i)

-- ---- something is left to open

-- a grid of 5 with these voxels at -5, and the voxel v measured as x
abbrev pub shot_at : Sides → List ℕ → ℕ → ℤ → List ℤ
shot_at s low v x = set (grid s low) v x

-- 5, 5, 4: a tube of sixteen voxels along z. Of the two voxels in it, 37 and 62, one may go, and then the other closes the tube and stays.
abbrev pub pipe : Sides
pipe = sides 5 5 4

abbrev pub tube : ℤ → List ℤ
tube x = shot_at pipe (31 ∷ 32 ∷ 33 ∷ 36 ∷ 38 ∷ 41 ∷ 42 ∷ 43 ∷ 56 ∷ 57 ∷ 58 ∷ 61 ∷ 63 ∷ 66 ∷ 67 ∷ 68 ∷ []) 62 x

-- carved to its end, with T = 0 and no marks
pub record Carved (values : List ℤ) (statuses : List ℕ) : Type 0 where
  pub ended : any_pending pipe (carved_to 9 (start pipe 0 values)).status ≡ false
  pub kept : map (status_of (carved_to 9 (start pipe 0 values)).status) (37 ∷ 62 ∷ []) ≡ statuses

-- voxel 62 measured as 5 and as 6: the first body keeps it and loses 37, the second the other way round
pub record OtherBodies : Type 0 where
  pub shot : OneShot (tube (pos 5)) (tube (pos 6)) 62 1
  pub one : Carved (tube (pos 5)) (0 ∷ 1 ∷ [])
  pub other : Carved (tube (pos 6)) (1 ∷ 0 ∷ [])
