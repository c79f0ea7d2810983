-- The choice of a place: what it asks of the grids and the order record, and what it finds.
use Rattle.std.specs.Prelude.{◌≡◌, List, ℕ, ◌≤◌, ◌<◌, length, get_or, Some, Result, Ok, Err}
use Rattle.rules.specs.declared.Refusal.{Refusal}
use Rattle.rules.specs.Checks.{first_failing}
use Rattle.rules.specs.Refusals.{number_of}
use Rattle.office.specs.declared.Grids.{Grids}
use Rattle.office.specs.declared.Order.{Order}
use Rattle.office.specs.Parts.{total}
use Rattle.office.specs.Serve.{Office, to_serve, serve_checks}
use Rattle.serving_checks.specs.Given.{sizes_of, Sized}

-- the status bytes of all grids are laid end to end
pub record LaidIn (g : Grids) (status : List ℕ) : Type 0 where
  pub sized : Sized g
  pub statuses : length status ≡ total (sizes_of g)

-- and no place in the order record is past the last grid
pub record Choosing (g : Grids) (o : Order) (status : List ℕ) : Type 0 where
  pub laid : LaidIn g status
  pub few : o.len ≤ 16
  pub below : (k : ℕ) → k < o.len → get_or o.places k 0 < g.count

-- no check fails, and the place is the one to serve; or the first check that fails
abbrev pub Looked : Result ℕ Refusal → List ℕ → ℕ → Office → Type 0
Looked (Ok p) marks limit o = (0 ≡ first_failing (serve_checks marks limit o)) × (to_serve o ≡ Some p)
Looked (Err refusal) marks limit o = number_of refusal ≡ first_failing (serve_checks marks limit o)
