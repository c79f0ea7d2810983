-- Document 02's CR 14, "Many scans at once": the rule of serve.
use Rattle.std.specs.Prelude.{Bool, false, not, ◌&&◌, ◌||◌, List, [], ◌∷◌, map, ℕ, leb, eqb, length, get_or, set, ℤ, pos, Option}
use Rattle.cells.specs.Groups.{any}
use Rattle.rules.specs.declared.Record.{Record}
use Rattle.rules.specs.Grid.{range, fit_sides, size}
use Rattle.rules.specs.Checks.{Check, ◌when◌, unless}
use Rattle.rules.specs.declared.Carving.{Carving}
use Rattle.rules.specs.Answer.{Reply, refused, done, Outcome, outcome, untouched}
use Rattle.rules.specs.Marks.{stray_mark}
use Rattle.rules.specs.Status.{any_pending}
use Rattle.rules.specs.Machine.{State, state, unfit, the_voxel, carve}
use Rattle.office.specs.declared.Serving.{Serving}
use Rattle.office.specs.Parts.{total, part_at, put}
use Rattle.office.specs.Order.{unfit_order, queue, first_waiting, served_last}

-- ---- "1 to 16 begun grids together, at places from 0, laid end to end in the lent buffers, with an order record of the places served so far"

pub record Office : Type 0 where
  pub records : List Record
  pub order : List ℕ
  pub dist : List ℤ
  pub status : List ℕ

abbrev pub office : List Record → List ℕ → List ℤ → List ℕ → Office
office records order dist status = record { records = records; order = order; dist = dist; status = status }

abbrev pub grids : Office → ℕ
grids o = length o.records

abbrev pub sizes : Office → List ℕ
sizes o = map (λ r. size r.sides) o.records

-- no place past the last grid is looked at
abbrev pub no_record : Record
no_record =
    record { sides = record { a = 0; b = 0; c = 0 }; allowed = 0; openings = 0; removals = 0; examinations = 0; euler = pos 0; finished = false }

-- the grid at a place
unfoldable pub grid_at : Office → ℕ → State
grid_at o p = state (get_or o.records p no_record) (part_at (sizes o) o.dist p) (part_at (sizes o) o.status p)

-- something is pending there
unfoldable pub waits : Office → ℕ → Bool
waits o p = let g = grid_at o p in any_pending g.rec.sides g.status

unfoldable pub to_serve : Office → Option ℕ
to_serve o = first_waiting (waits o) (queue (grids o) o.order)

-- ---- "Checks: before all others, number 34 for a limit or number of grids out of range, and 35 after carve's checks, each made on all grids before
-- the next, when nothing is pending anywhere"; the marks of all grids are laid end to end too

abbrev pub within : ℕ → ℕ → ℕ → Bool
within low high x = leb low x && leb x high

-- "each as long as the sum of their n, else number 2"
unfoldable pub wrong_lengths : List ℕ → Office → Bool
wrong_lengths marks o =
    let n = total (sizes o) in not (eqb (length o.dist) n && (eqb (length o.status) n && eqb (length marks) n))

abbrev pub serve_checks : List ℕ → ℕ → Office → List Check
serve_checks marks limit o =
    34 when not (within 1 1000 limit && within 1 16 (grids o))
    ∷ 1 when any (λ r. not (fit_sides r.sides)) o.records
    ∷ 2 when wrong_lengths marks o
    ∷ 7 when (any (λ p. unfit (grid_at o p)) (range 0 (grids o)) || unfit_order (grids o) o.order)
    ∷ 29 when stray_mark marks
    ∷ 8 when any (λ r. r.finished) o.records
    ∷ 35 when not (any (waits o) (range 0 (grids o)))
    ∷ []

-- ---- "One call serves one grid .. and answers its place and carve's answer": Serving

abbrev pub placed : ℕ → Reply Carving → Reply Serving
placed p (refused n) = refused n
placed p (done c) = done (record { place = p; carving = c })

-- what a call leaves beside its answer: the order record and both buffers, after a refusal as they were given
pub record Left : Type 0 where
  pub order : List ℕ
  pub dist : List ℤ
  pub status : List ℕ

abbrev pub left : List ℕ → List ℤ → List ℕ → Left
left order dist status = record { order = order; dist = dist; status = status }

-- carve, on the grid at the place with its part of the marks
unfoldable pub served_at : List ℕ → ℕ → Office → ℕ → Outcome Left Serving
served_at marks limit o p =
    let ns = sizes o in
    let c = carve (part_at ns marks p) limit (grid_at o p) in
    outcome (placed p c.answer) (left (served_last p o.order) (put ns o.dist p c.lent.dist) (put ns o.status p c.lent.status))

-- nothing to serve was refused with 35, so the_voxel's none does not come
unfoldable pub serve : List ℕ → ℕ → Office → Outcome Left Serving
serve marks limit o = unless (serve_checks marks limit o) (untouched (left o.order o.dist o.status)) (served_at marks limit o (the_voxel (to_serve o)))

-- ---- what holds after a call: the record of the grid served is the one that carve answered

abbrev pub records_after : List Record → Reply Serving → List Record
records_after records (refused n) = records
records_after records (done a) = set records a.place a.carving.next

unfoldable pub after_serve : Office → Outcome Left Serving → Office
after_serve o r = office (records_after o.records r.answer) r.lent.order r.lent.dist r.lent.status
