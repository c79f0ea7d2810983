-- Serving by another rule, part by part, and that none of them is the rule: a worked call tells each (proofs/Wrong.antt).
use Rattle.std.specs.Prelude.{◌≡◌, Bool, true, not, cond, ◌&&◌, ◌||◌, List, [], ◌∷◌, ◌++◌, map, reverse, ℕ, leb, ltb, eqb, length, drop, Option}
use Rattle.cells.specs.Groups.{any, filter}
use Rattle.rules.specs.Grid.{range, is_in, fit_sides}
use Rattle.rules.specs.Checks.{Check, ◌when◌, unless}
use Rattle.rules.specs.Answer.{refused, Outcome, outcome, Answers}
use Rattle.rules.specs.Marks.{stray_mark}
use Rattle.rules.specs.Machine.{State, unfit, marked_checks, the_voxel, carve}
use Rattle.office.specs.Parts.{laid, part_at, put}
use Rattle.office.specs.Order.{names_twice, unfit_order, queue, first_waiting, others, served_last}
use Rattle.office.specs.declared.Serving.{Serving}
use Rattle.office.specs.Serve.{Office, office, grids, sizes, grid_at, waits, to_serve, within, wrong_lengths, placed, Left, left, serve}
use Rattle.office.specs.Lists.{office_of}
use Rattle.office.specs.Examples.{no_mark, waiting}

-- ---- serve in parts: its checks, who is chosen, the grid and the marks of a place, and the order record after a service and after a refusal

unfoldable pub serve_by : (List ℕ → ℕ → Office → List Check) → (Office → Option ℕ) → (Office → ℕ → State) → (Office → List ℕ → ℕ → List ℕ)
    → (ℕ → List ℕ → List ℕ) → (ℕ → List ℕ → List ℕ) → List ℕ → ℕ → Office → Outcome Left Serving
serve_by checks chosen grid own moved kept marks limit o =
    let p = the_voxel (chosen o) in
    let c = carve (own o marks p) limit (grid o p) in
    let ns = sizes o in
    unless (checks marks limit o) (λ n. outcome (refused n) (left (kept n o.order) o.dist o.status))
    (outcome (placed p c.answer) (left (moved p o.order) (put ns o.dist p c.lent.dist) (put ns o.status p c.lent.status)))

-- the checks in parts: what is in range, which order records are unfit, and the order of them, where the order record's 7 is one by itself
unfoldable pub checks_by : (ℕ → ℕ → Bool) → (ℕ → List ℕ → Bool) → (Check → Check → Check → Check → Check → Check → Check → Check → List Check)
    → List ℕ → ℕ → Office → List Check
checks_by in_range unfit_record ordered marks limit o =
    ordered
    (34 when not (in_range limit (grids o)))
    (1 when any (λ r. not (fit_sides r.sides)) o.records)
    (2 when wrong_lengths marks o)
    (7 when any (λ p. unfit (grid_at o p)) (range 0 (grids o)))
    (7 when unfit_record (grids o) o.order)
    (29 when stray_mark marks)
    (8 when any (λ r. r.finished) o.records)
    (35 when not (any (waits o) (range 0 (grids o))))

-- the rule's own parts
abbrev pub allowed : ℕ → ℕ → Bool
allowed limit n = within 1 1000 limit && within 1 16 n

abbrev pub in_order : Check → Check → Check → Check → Check → Check → Check → Check → List Check
in_order a b c d e f g h = a ∷ b ∷ c ∷ d ∷ e ∷ f ∷ g ∷ h ∷ []

abbrev pub its_marks : Office → List ℕ → ℕ → List ℕ
its_marks o marks p = part_at (sizes o) marks p

abbrev pub as_given : ℕ → List ℕ → List ℕ
as_given n order = order

abbrev pub ServeInParts : Type 0
ServeInParts =
    (marks : List ℕ) (limit : ℕ) (o : Office)
    → serve marks limit o ≡ serve_by (checks_by allowed unfit_order in_order) to_serve grid_at its_marks served_last as_given marks limit o

-- ---- with one of them another

abbrev pub Other : (List ℕ → ℕ → Office → Outcome Left Serving) → Type 0
Other other = ((marks : List ℕ) (limit : ℕ) (o : Office) → serve marks limit o ≡ other marks limit o) → ⊥

abbrev pub OtherChecks : (List ℕ → ℕ → Office → List Check) → Type 0
OtherChecks checks = Other (serve_by checks to_serve grid_at its_marks served_last as_given)

abbrev pub OtherRange : (ℕ → ℕ → Bool) → Type 0
OtherRange in_range = OtherChecks (checks_by in_range unfit_order in_order)

abbrev pub OtherRecord : (ℕ → List ℕ → Bool) → Type 0
OtherRecord unfit_record = OtherChecks (checks_by allowed unfit_record in_order)

abbrev pub OtherOrder : (Check → Check → Check → Check → Check → Check → Check → Check → List Check) → Type 0
OtherOrder ordered = OtherChecks (checks_by allowed unfit_order ordered)

abbrev pub OtherChoice : (Office → Option ℕ) → Type 0
OtherChoice chosen = Other (serve_by (checks_by allowed unfit_order in_order) chosen grid_at its_marks served_last as_given)

abbrev pub OtherGrid : (Office → ℕ → State) → Type 0
OtherGrid grid = Other (serve_by (checks_by allowed unfit_order in_order) to_serve grid its_marks served_last as_given)

abbrev pub OtherMarks : (Office → List ℕ → ℕ → List ℕ) → Type 0
OtherMarks own = Other (serve_by (checks_by allowed unfit_order in_order) to_serve grid_at own served_last as_given)

abbrev pub OtherMove : (ℕ → List ℕ → List ℕ) → Type 0
OtherMove moved = Other (serve_by (checks_by allowed unfit_order in_order) to_serve grid_at its_marks moved as_given)

abbrev pub OtherRefusal : (ℕ → List ℕ → List ℕ) → Type 0
OtherRefusal kept = Other (serve_by (checks_by allowed unfit_order in_order) to_serve grid_at its_marks served_last kept)

-- carve's checks of one grid after the other
abbrev pub grid_by_grid : List ℕ → ℕ → Office → List Check
grid_by_grid marks limit o =
    34 when not (allowed limit (grids o))
    ∷ laid (map (λ p. marked_checks (its_marks o marks p) (grid_at o p)) (range 0 (grids o)))
    ++ (7 when unfit_order (grids o) o.order ∷ 35 when not (any (waits o) (range 0 (grids o))) ∷ [])

-- the first that waits of these places, and those never served
abbrev pub first_in : (Office → List ℕ) → Office → Option ℕ
first_in places o = first_waiting (waits o) (places o)

abbrev pub never_served : Office → List ℕ
never_served o = filter (λ p. not (is_in o.order p)) (range 0 (grids o))

-- every part but the first starts one late
abbrev pub late_at : Office → ℕ → State
late_at o p = cond (eqb p 0) (grid_at o p) (grid_at (office o.records o.order (drop 1 o.dist) (drop 1 o.status)) p)

pub record WrongServings : Type 0 where
  -- the limit of 1,000 and 16 grids are refused; those of 1,001 and 17 are not
  pub limit-below-1000 : OtherRange (λ limit n. within 1 999 limit && within 1 16 n)
  pub fifteen-grids : OtherRange (λ limit n. within 1 1000 limit && within 1 15 n)
  pub limit-of-1001 : OtherRange (λ limit n. within 1 1001 limit && within 1 16 n)
  pub seventeen-grids : OtherRange (λ limit n. within 1 1000 limit && within 1 17 n)
  -- 7 for an order record as long as there are grids; none for a place named twice; none for one past the last grid
  pub order-as-long : OtherRecord (λ n order. leb n (length order) || unfit_order n order)
  pub twice-unseen : OtherRecord (λ n order. ltb n (length order) || any (leb n) order)
  pub past-unseen : OtherRecord (λ n order. ltb n (length order) || names_twice order)
  -- the order record's 7 before 1, after 29, after 8
  pub order-before-sides : OtherOrder (λ a b c d e f g h. a ∷ e ∷ b ∷ c ∷ d ∷ f ∷ g ∷ h ∷ [])
  pub order-after-marks : OtherOrder (λ a b c d e f g h. a ∷ b ∷ c ∷ d ∷ f ∷ e ∷ g ∷ h ∷ [])
  pub order-after-finished : OtherOrder (λ a b c d e f g h. a ∷ b ∷ c ∷ d ∷ f ∷ g ∷ e ∷ h ∷ [])
  -- 34 after 1; 29 before 7, after 8; 35 before 8; a finished grid is skipped
  pub range-after-sides : OtherOrder (λ a b c d e f g h. b ∷ a ∷ c ∷ d ∷ e ∷ f ∷ g ∷ h ∷ [])
  pub marks-before-unfit : OtherOrder (λ a b c d e f g h. a ∷ b ∷ c ∷ f ∷ d ∷ e ∷ g ∷ h ∷ [])
  pub marks-after-finished : OtherOrder (λ a b c d e f g h. a ∷ b ∷ c ∷ d ∷ e ∷ g ∷ f ∷ h ∷ [])
  pub quiet-before-finished : OtherOrder (λ a b c d e f g h. a ∷ b ∷ c ∷ d ∷ e ∷ f ∷ h ∷ g ∷ [])
  pub finished-skipped : OtherOrder (λ a b c d e f g h. a ∷ b ∷ c ∷ d ∷ e ∷ f ∷ h ∷ [])
  pub grid-by-grid : OtherChecks grid_by_grid
  -- the highest place never served; the one served last; one served before, though others never were; the lowest place, whoever was served
  pub highest-never-served : OtherChoice (first_in (λ o. reverse (never_served o) ++ o.order))
  pub served-last-first : OtherChoice (first_in (λ o. never_served o ++ reverse o.order))
  pub served-before-never : OtherChoice (first_in (λ o. o.order ++ never_served o))
  pub lowest-always : OtherChoice (first_in (λ o. range 0 (grids o)))
  -- a grid with nothing pending
  pub nothing-pending : OtherChoice (λ o. first_waiting (λ p. true) (queue (grids o) o.order))
  -- a place that was served before stays where it stands; comes first; is named again
  pub order-not-moved : OtherMove (λ p order. cond (is_in order p) order (served_last p order))
  pub order-to-the-front : OtherMove (λ p order. p ∷ others p order)
  pub order-named-again : OtherMove (λ p order. order ++ (p ∷ []))
  -- the order record is forgotten at 35
  pub order-forgotten : OtherRefusal (λ n order. cond (eqb n 35) [] order)
  pub marks-of-the-first : OtherMarks (λ o marks p. part_at (sizes o) marks 0)
  pub part-one-late : OtherGrid late_at

-- ---- no serve that always refuses, or gives a constant

abbrev pub ServeAnswers : Type 0
ServeAnswers = Answers (λ (limit : ℕ). let o = office_of [] (waiting ∷ []) in (serve (no_mark o) limit o).answer)
