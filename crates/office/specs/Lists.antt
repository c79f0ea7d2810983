-- Document 02's CR 14: "Over every list of such calls on the same freshly begun grids, the first with an empty order record and each later one with what
-- the last one left". proofs/Lists.antt and proofs/Starts.antt prove what is stated here.
use Rattle.std.specs.Prelude.{◌≡◌, ◌≢◌, Bool, true, false, List, [], ◌∷◌, map, ℕ, ◌≤◌, ◌<◌, eqb, length, take, ℤ}
use Rattle.std.proofs.Math.Option.{some}
use Rattle.std.proofs.Math.ListN.{get_elem?}
use Rattle.cells.specs.Groups.{any, filter}
use Rattle.rules.specs.declared.Sides.{Sides}
use Rattle.rules.specs.declared.Carving.{Carving}
use Rattle.rules.specs.Answer.{Reply, refused, done}
use Rattle.rules.specs.Marks.{stray_mark}
use Rattle.rules.specs.Machine.{State, after, carve}
use Rattle.rules.specs.Demand.{Call, carve_up_to, run, Sums, nothing, both, of_carve, Demand}
use Rattle.coarse.specs.Starts.{AcceptedGrid, handed_by, Promised}
use Rattle.office.specs.Parts.{total, laid, part_at}
use Rattle.office.specs.declared.Serving.{Serving}
use Rattle.office.specs.Serve.{Office, office, grids, sizes, grid_at, waits, left, serve, after_serve}

-- ---- one call

-- the grids not served are as they were
abbrev pub OthersStay : Type 0
OthersStay =
    (marks : List ℕ) (limit : ℕ) (o : Office) (a : Serving)
    → let r = serve marks limit o in r.answer ≡ done a → (q : ℕ) → q ≢ a.place → grid_at (after_serve o r) q ≡ grid_at o q

-- a refused call leaves the order record and both buffers as they were given
abbrev pub RefusedLeavesAll : Type 0
RefusedLeavesAll =
    (marks : List ℕ) (limit : ℕ) (o : Office) (n : ℕ)
    → let r = serve marks limit o in r.answer ≡ refused n → r.lent ≡ left o.order o.dist o.status

-- ---- a list of calls, each with marks and a limit of its own: what holds after it, and its services, which are the calls not refused

pub record Request : Type 0 where
  pub marks : List ℕ
  pub limit : ℕ

-- the place, its grid's part of the marks, the limit, and carve's answer
pub record Service : Type 0 where
  pub place : ℕ
  pub marks : List ℕ
  pub limit : ℕ
  pub carving : Carving

abbrev pub noted : Office → Request → Reply Serving → List Service → List Service
noted o c (refused n) rest = rest
noted o c (done a) rest =
    record { place = a.place; marks = part_at (sizes o) c.marks a.place; limit = c.limit; carving = a.carving } ∷ rest

unfoldable pub after_all : List Request → Office → Office
after_all [] o = o
after_all (c ∷ cs) o = after_all cs (after_serve o (serve c.marks c.limit o))

unfoldable pub services : List Request → Office → List Service
services [] o = []
services (c ∷ cs) o = let r = serve c.marks c.limit o in noted o c r.answer (services cs (after_serve o r))

abbrev pub of_place : ℕ → Service → Bool
of_place x c = eqb c.place x

-- the place is among the first k services, where there are k
abbrev pub ServedWithin : ℕ → ℕ → List Service → Type 0
ServedWithin k x log = k ≤ length log → any (of_place x) (take k log) ≡ true

-- "a grid with something pending is served within as many calls that aren't refused as there are grids": in any office, so after any list of calls too
abbrev pub ServedInTime : Type 0
ServedInTime = (o : Office) (next : List Request) (x : ℕ) → x < grids o → waits o x ≡ true → ServedWithin (grids o) x (services next o)

-- ---- freshly begun grids, by plain or coarse starts

-- a grid that was accepted, with its sides and values
pub record Start : Type 0 where
  pub sides : Sides
  pub values : List ℤ
  pub by : AcceptedGrid sides values

-- the grid as the start left it
unfoldable pub begun : Start → State
begun a = handed_by a.by

-- grids laid end to end, with an order record
unfoldable pub office_of : List ℕ → List State → Office
office_of order gs = office (map (λ g. g.rec) gs) order (laid (map (λ g. g.dist) gs)) (laid (map (λ g. g.status) gs))

unfoldable pub fresh : List Start → Office
fresh starts = office_of [] (map begun starts)

-- ---- each grid alone

abbrev pub carves_of : List Service → List Call
carves_of own = map (λ c. carve_up_to c.marks c.limit) own

-- what the same carve calls answer, made on a grid alone
abbrev pub answers_alone : List Service → State → List (Reply Carving)
answers_alone [] g = []
answers_alone (c ∷ own) g = let r = carve c.marks c.limit g in r.answer ∷ answers_alone own (after (λ r. r.next) g r)

-- "each grid's results are those of the same carve calls made on it alone": their answers, and the record and its parts of both buffers after them
pub record AsAlone (alone : State) (own : List Service) (now : State) : Type 0 where
  pub answers : map (λ c. done c.carving) own ≡ answers_alone own alone
  pub end : now ≡ (run (carves_of own) alone).end

abbrev pub EachAsAlone : Type 0
EachAsAlone =
    (starts : List Start) (calls : List Request) (x : ℕ) (a : Start) → get_elem? starts x ≡ some a
    → let o = fresh starts in AsAlone (begun a) (filter (of_place x) (services calls o)) (grid_at (after_all calls o) x)

-- so demand 3 holds of each grid, with the sums of what it answered
abbrev pub sums_of : List Service → Sums
sums_of [] = nothing
sums_of (c ∷ own) = both (of_carve (done c.carving)) (sums_of own)

abbrev pub DemandOfEach : Type 0
DemandOfEach =
    (starts : List Start) (calls : List Request) (x : ℕ) (a : Start) → get_elem? starts x ≡ some a
    → let o = fresh starts in
    let own = filter (of_place x) (services calls o) in
    Promised (λ s T values marks start begun. Demand s values marks start begun (carves_of own) (grid_at (after_all calls o) x) (sums_of own)) a.by

-- ---- who is refused

-- 1 to 16 grids, a limit of 1 to 1,000, and marks of the summed length, none over 3
pub record InRange (o : Office) (c : Request) : Type 0 where
  pub some-grid : 1 ≤ grids o
  pub few-grids : grids o ≤ 16
  pub low : 1 ≤ c.limit
  pub high : c.limit ≤ 1000
  pub long : length c.marks ≡ total (sizes o)
  pub known : stray_mark c.marks ≡ false

-- such a call, on what a list of calls left, is refused only with 35, and only where nothing is pending anywhere
abbrev pub RefusedOnlyWhenQuiet : Type 0
RefusedOnlyWhenQuiet =
    (starts : List Start) (before : List Request) (c : Request)
    → let o = after_all before (fresh starts) in
    InRange o c → (n : ℕ) → (serve c.marks c.limit o).answer ≡ refused n → (n ≡ 35) × ((x : ℕ) → x < grids o → waits o x ≡ false)
