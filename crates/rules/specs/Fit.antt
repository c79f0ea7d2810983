-- What holds where no check of a call fails, by name: of a grid that begin accepts, of a state that checks 1, 2 and 7 let through, and of what each
-- call asks besides.
use Rattle.std.specs.Prelude.{◌≡◌, ◌⊎◌, true, false, List, ℕ, ◌*◌, ◌≤◌, ◌<◌, ℤ, nat_abs, length}
use Rattle.cells.specs.Cells.{passes}
use Rattle.prelude.specs.Lists.{any}
use Rattle.rules.specs.declared.Sides.{Sides}
use Rattle.rules.specs.Value.{stray}
use Rattle.rules.specs.Grid.{fit_sides, size, on_border, measured_negative, value_at}
use Rattle.rules.specs.Meaning.{negative}
use Rattle.rules.specs.Status.{status_of, is_kept, any_pending, test_at}
use Rattle.rules.specs.Marks.{marked, stray_mark}
use Rattle.rules.specs.Machine.{State, is_inside, may_go, to_open, is_none}

-- fit sides, and as many elements as there are voxels
pub record Sized (s : Sides) (n : ℕ) : Type 0 where
  pub sides : fit_sides s ≡ true
  pub len : n ≡ size s

-- ---- begin

-- 1, 2, 28, 3 and 4: a grid that begin accepts
pub record Beginnable (s : Sides) (values : List ℤ) : Type 0 where
  pub sides : fit_sides s ≡ true
  pub len : length values ≡ size s
  pub known : any stray values ≡ false
  pub border : (i : ℕ) → i < size s → on_border s i ≡ true → measured_negative (value_at values i) ≡ false
  pub some : ℕ
  pub some-negative : negative s values some ≡ true

-- ---- checks 1, 2 and 7

-- a grid of fit sides, and buffers of its size
pub record Lent (s : Sides) (dist : List ℤ) (status : List ℕ) : Type 0 where
  pub sides : fit_sides s ≡ true
  pub distances : length dist ≡ size s
  pub statuses : length status ≡ size s

abbrev pub Known : ℕ → Type 0
Known x = (x ≡ 0) ⊎ ((x ≡ 1) ⊎ (x ≡ 3))

-- the buffers: every status is 0, 1 or 3, 0 on the border, and 1 in S
pub record FitVoxels (s : Sides) (dist : List ℤ) (status : List ℕ) : Type 0 where
  pub lent : Lent s dist status
  pub known : (i : ℕ) → Known (status_of status i)
  pub border : (i : ℕ) → i < size s → on_border s i ≡ true → status_of status i ≡ 0
  pub inner : (i : ℕ) → is_inside dist i ≡ true → status_of status i ≡ 1

pub record FitState (g : State) : Type 0 where
  pub voxels : FitVoxels g.rec.sides g.dist g.status
  pub openings : g.rec.openings ≤ g.rec.allowed
  pub removals : g.rec.removals ≤ size g.rec.sides
  pub examinations : g.rec.examinations ≤ 27 * size g.rec.sides
  pub euler : nat_abs g.rec.euler ≤ 8 * size g.rec.sides

-- ---- the calls

-- 8: a call that works on an unfinished grid
pub record Working (g : State) : Type 0 where
  pub fit : FitState g
  pub unfinished : g.rec.finished ≡ false

-- 9: one that looks at a finished one
pub record Ended (g : State) : Type 0 where
  pub fit : FitState g
  pub finished : g.rec.finished ≡ true

-- 2 and 29 besides: one that is lent marks
pub record Marking (marks : List ℕ) (g : State) : Type 0 where
  pub working : Working g
  pub lent : length marks ≡ size g.rec.sides
  pub known : stray_mark marks ≡ false

-- take: 5, 10, 11, 30, 12
pub record Takeable (marks : List ℕ) (i : ℕ) (g : State) : Type 0 where
  pub marking : Marking marks g
  pub below : i < size g.rec.sides
  pub kept : is_kept g.status i ≡ true
  pub outer : is_inside g.dist i ≡ false
  pub unpinned : (marked marks).pinned i ≡ false
  pub passing : passes (test_at g.rec.sides g.status i) ≡ true

-- open and finish: 13
pub record Quiet (g : State) : Type 0 where
  pub working : Working g
  pub quiet : any_pending g.rec.sides g.status ≡ false

-- open: 14, 15
pub record Openable (marks : List ℕ) (g : State) : Type 0 where
  pub marking : Marking marks g
  pub quiet : Quiet g
  pub left : g.rec.openings ≡ g.rec.allowed → ⊥
  pub found : is_none (to_open (may_go (marked marks) g.dist) g) ≡ false
