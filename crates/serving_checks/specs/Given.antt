-- The grids that serve is given, and its checks but for 35.
use Rattle.std.specs.Prelude.{◌≡◌, true, not, ◌&&◌, ◌||◌, List, [], ◌∷◌, ◌++◌, ℕ, ◌≤◌, ◌<◌, eqb, ℤ, length, get_or}
use Rattle.cells.specs.Groups.{any}
use Rattle.rules.specs.Grid.{range, fit_sides}
use Rattle.rules.specs.Checks.{Check, ◌when◌}
use Rattle.rules.specs.Marks.{stray_mark}
use Rattle.rules.specs.Machine.{unfit}
use Rattle.office.specs.declared.Grids.{Grids}
use Rattle.office.specs.declared.Order.{Order}
use Rattle.office.specs.Parts.{total}
use Rattle.office.specs.Order.{unfit_order}
use Rattle.office.specs.Serve.{Office, office, sizes, no_record, grid_at, within}
use Rattle.office.specs.Structs.{records_of, places_of}

-- the grids alone: the order record does not matter to them
abbrev pub grids_of : Grids → List ℤ → List ℕ → Office
grids_of g dist status = office (records_of g) [] dist status

abbrev pub sizes_of : Grids → List ℕ
sizes_of g = sizes (grids_of g [] [])

-- ---- what 34 and 1 give, and what 2 does

pub record Sized (g : Grids) : Type 0 where
  pub few : g.count ≤ 16
  pub sides : (p : ℕ) → p < g.count → fit_sides (get_or g.records p no_record).sides ≡ true

pub record LaidOut (g : Grids) (dist : List ℤ) (status : List ℕ) : Type 0 where
  pub sized : Sized g
  pub distances : length dist ≡ total (sizes_of g)
  pub statuses : length status ≡ total (sizes_of g)

-- ---- the checks but for 35, which the choice of a place makes

-- 34, 1 and 2, of buffers of these lengths
abbrev pub layout_checks : ℕ → Grids → ℕ → ℕ → ℕ → List Check
layout_checks limit g dist status marks =
    let n = total (sizes_of g) in
    34 when not (within 1 1000 limit && within 1 16 g.count)
    ∷ 1 when any (λ r. not (fit_sides r.sides)) (records_of g)
    ∷ 2 when not (eqb dist n && (eqb status n && eqb marks n))
    ∷ []

-- 7, 29 and 8
abbrev pub state_checks : List ℕ → Grids → Order → List ℤ → List ℕ → List Check
state_checks marks g o dist status =
    7 when (any (λ p. unfit (grid_at (grids_of g dist status) p)) (range 0 g.count) || unfit_order g.count (places_of o))
    ∷ 29 when stray_mark marks
    ∷ 8 when any (λ r. r.finished) (records_of g)
    ∷ []

abbrev pub grid_checks : List ℕ → ℕ → Grids → Order → List ℤ → List ℕ → List Check
grid_checks marks limit g o dist status = layout_checks limit g (length dist) (length status) (length marks) ++ state_checks marks g o dist status
