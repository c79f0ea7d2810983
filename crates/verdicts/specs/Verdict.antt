-- What the functions of judge ask of each other.
use Rattle.std.specs.Prelude.{◌≡◌, Bool, List, [], ◌∷◌, ℕ, ◌≤◌, ℤ, length}
use Rattle.rules.specs.declared.Sides.{Sides}
use Rattle.rules.specs.Machine.{is_inside}
use Rattle.rules.specs.Checks.{Check, ◌when◌, first_failing}
use Rattle.rules.specs.Refusals.{number_in}
use Rattle.rules.specs.Fit.{FitVoxels}
use Rattle.judging.specs.declared.Judgement.{Judgement}
use Rattle.judging.specs.Judge.{entry_count, entries_in, start_from, some_passes, leaves, list_checks, judgement_of}
use Rattle.entries.specs.Entries.{put_back, Listed}
use Rattle.tallies.specs.declared.Tally.{Tally}
use Rattle.verdicts.specs.declared.End.{End}

-- at the end
abbrev pub end_checks : Sides → (ℕ → Bool) → (ℕ → Bool) → List Check
end_checks s S kept = 33 when some_passes s S kept ∷ []

pub record Walkable (s : Sides) (dist : List ℤ) (status : List ℕ) (T : ℕ) : Type 0 where
  pub fit : FitVoxels s dist status
  pub few : T ≤ 65535

abbrev pub judgement_at : Tally → Judgement
judgement_at t = record { removed = t.removed; opened = t.opened; euler = t.euler }

-- the number, what the entries come to where there is none, and how the bytes come back
pub record Walked (s : Sides) (dist : List ℤ) (T : ℕ) (list before after : List ℕ) (e : End) : Type 0 where
  pub number : number_in e.verdict ≡ first_failing (list_checks s (is_inside dist) T list (entry_count list) 0 (start_from before))
  pub answer : number_in e.verdict ≡ 0 → judgement_at e.tally ≡ judgement_of (leaves s (start_from before) (entries_in list))
  pub listed : Listed list e.tally.removed (length after)
  pub same : length after ≡ length before
  pub back : put_back list e.tally.removed after ≡ before
