-- Document 02's CR 14: what the structs mean that serve is given and hands back.
use Rattle.std.specs.Prelude.{List, ◌++◌, map, ℕ, ◌-◌, ℤ, length, get_or, replicate}
use Rattle.rules.specs.declared.Record.{Record}
use Rattle.rules.specs.Grid.{range}
use Rattle.rules.specs.Answer.{Reply, refused, done, Outcome, outcome}
use Rattle.office.specs.declared.Grids.{Grids}
use Rattle.office.specs.declared.Order.{Order}
use Rattle.office.specs.declared.Serving.{Serving}
use Rattle.office.specs.Serve.{Office, office, no_record, Left}

-- ---- what it is given

-- so many elements from an array's first on; d stands for those that it has not, so that there are always so many
unfoldable pub listed : {A : Type 0} → A → ℕ → List A → List A
listed d n l = map (λ i. get_or l i d) (range 0 n)

abbrev pub records_of : Grids → List Record
records_of g = listed no_record g.count g.records

abbrev pub places_of : Order → List ℕ
places_of o = listed 0 o.len o.places

abbrev pub office_given : Grids → Order → List ℤ → List ℕ → Office
office_given g o dist status = office (records_of g) (places_of o) dist status

-- ---- what it hands back beside its answer: the order record as a struct, and both buffers

pub record Kept : Type 0 where
  pub order : Order
  pub dist : List ℤ
  pub status : List ℕ

abbrev pub kept : Order → List ℤ → List ℕ → Kept
kept order dist status = record { order = order; dist = dist; status = status }

-- up to 16 places in a struct: what is not used of the array is 0
unfoldable pub packed : List ℕ → Order
packed places = record { len = length places; places = places ++ replicate (16 - length places) 0 }

-- after a refusal the struct is the one given, every byte of it; else it holds the rule's list
abbrev pub order_after : Order → Reply Serving → List ℕ → Order
order_after given (refused n) order = given
order_after given (done a) order = packed order

abbrev pub as_struct : Order → Outcome Left Serving → Outcome Kept Serving
as_struct given r = outcome r.answer (kept (order_after given r.answer r.lent.order) r.lent.dist r.lent.status)
