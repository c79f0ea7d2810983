-- Document 02's CR 9, "Pinned and hurried together": the rule before it, by which a mark of 3 asked for both, and what stays the same.
-- proofs/PinFirst.antt proves it.
use Rattle.std.specs.Prelude.{◌≡◌, false, not, ◌&&◌, ◌||◌, List, [], ◌∷◌, ◌++◌, map, ℕ, ◌*◌, ◌≤◌, eqb, ℤ}
use Rattle.rules.specs.declared.Sides.{Sides}
use Rattle.rules.specs.declared.Record.{Record}
use Rattle.rules.specs.Grid.{size}
use Rattle.rules.specs.Checks.{unless}
use Rattle.rules.specs.declared.Carving.{Carving}
use Rattle.rules.specs.declared.Opening.{Opening}
use Rattle.rules.specs.Answer.{done, Outcome, untouched, Buffers, buffers, Removal}
use Rattle.rules.specs.Marks.{Marked, mark_of, marked}
use Rattle.rules.specs.Begin.{begin_checks, begun, begin}
use Rattle.rules.specs.Status.{is_kept, is_pending, any_pending}
use Rattle.rules.specs.Machine.{State, state, after, lent_to, may_go, sooner, marked_checks, carved, carve, voxel_checks, taken, take, to_open, the_voxel}
use Rattle.rules.specs.Machine.{quiet_checks, opening_checks, opened, open_next}
use Rattle.rules.specs.Demand.{carve_up_to, run}

-- ---- what mark bytes asked for

unfoldable pub marked_before : List ℕ → Marked
marked_before marks =
    record {
      pinned = λ i. eqb (mark_of marks i) 1 || eqb (mark_of marks i) 3;
      hurried = λ i. eqb (mark_of marks i) 2 || eqb (mark_of marks i) 3;
    }

-- the pin rule comes first and alone: of the same marks it leaves the pins, and no hurry of a pinned voxel
abbrev pub pin_first : Marked → Marked
pin_first m = record { pinned = m.pinned; hurried = λ i. m.hurried i && not (m.pinned i) }

abbrev pub FirstAndAlone : Type 0
FirstAndAlone = (marks : List ℕ) → marked marks ≡ pin_first (marked_before marks)

-- ---- the calls where the lent marks ask for these sets: with `marked marks` they are the calls themselves (`ByMarks`)

unfoldable pub begin_by : Marked → Sides → ℕ → List ℤ → List ℕ → List ℤ → List ℕ → Outcome Buffers Record
begin_by m s T values marks dist status = unless (begin_checks s values marks dist status) (untouched (buffers dist status)) (begun s T values m)

unfoldable pub carve_by : Marked → List ℕ → ℕ → State → Outcome Buffers Carving
carve_by m marks limit g = unless (marked_checks marks g) (untouched (lent_to g)) (carved (may_go m g.dist) (sooner m g.dist) limit g)

unfoldable pub take_by : Marked → List ℕ → ℕ → State → Outcome Buffers Removal
take_by m marks i g = unless (marked_checks marks g ++ voxel_checks m i g) (untouched (lent_to g)) (taken (may_go m g.dist) i g)

unfoldable pub open_by : Marked → List ℕ → State → Outcome Buffers Opening
open_by m marks g =
    let free = may_go m g.dist in
    unless (marked_checks marks g ++ (quiet_checks g ++ opening_checks free g)) (untouched (lent_to g)) (opened free (the_voxel (to_open free g)) g)

-- every call that is lent these marks is the one by these sets
pub record CallsBy (m : Marked) (marks : List ℕ) : Type 0 where
  pub begins : (s : Sides) (T : ℕ) (values dist : List ℤ) (status : List ℕ) → begin s T values marks dist status ≡ begin_by m s T values marks dist status
  pub carves : (limit : ℕ) (g : State) → carve marks limit g ≡ carve_by m marks limit g
  pub takes : (i : ℕ) (g : State) → take marks i g ≡ take_by m marks i g
  pub opens : (g : State) → open_next marks g ≡ open_by m marks g

abbrev pub ByMarks : Type 0
ByMarks = (marks : List ℕ) → CallsBy (marked marks) marks

-- ---- with no mark of 3 nothing changes at all

abbrev pub WithoutThrees : Type 0
WithoutThrees = (marks : List ℕ) → ((i : ℕ) → mark_of marks i ≡ 3 → ⊥) → CallsBy (marked_before marks) marks

-- ---- with no mark changed from begin on, a carve run straight from begin to its end keeps the same voxels

-- the state after carves of so many examinations each, every one lent the same marks
unfoldable pub carves_by : Marked → List ℕ → List ℕ → State → State
carves_by m marks [] g = g
carves_by m marks (limit ∷ limits) g = carves_by m marks limits (after (λ r. r.next) g (carve_by m marks limit g))

-- now and before are the states that begin left by either rule
pub record KeepsTheSame (s : Sides) (marks : List ℕ) (now before : State) : Type 0 where
  -- distances and kept voxels are the same, and pending is what was pending, less the pinned
  pub begun-distances : now.dist ≡ before.dist
  pub begun_kept : (i : ℕ) → is_kept now.status i ≡ is_kept before.status i
  pub begun-pending : (i : ℕ) → is_pending now.status i ≡ (is_pending before.status i && not ((marked marks).pinned i))
  -- whatever the limits of the carves that come to the end, by either rule
  pub end_kept : (limits limits_before : List ℕ)
      → let end = (run (map (carve_up_to marks) limits) now).end in
      let end_before = carves_by (marked_before marks) marks limits_before before in
      any_pending s end.status ≡ false → any_pending s end_before.status ≡ false → (i : ℕ) → is_kept end.status i ≡ is_kept end_before.status i
  -- one carve comes to it by 27 n examinations
  pub ends : (limit : ℕ) → 27 * size s ≤ limit → any_pending s (run (carve_up_to marks limit ∷ []) now).end.status ≡ false
  pub ended-before : (limit : ℕ) → 27 * size s ≤ limit → any_pending s (carves_by (marked_before marks) marks (limit ∷ []) before).status ≡ false

-- a grid that begin accepts: by the rule before it answered the same record
abbrev pub PinFirst : Type 0
PinFirst =
    (s : Sides) (T : ℕ) (values : List ℤ) (marks : List ℕ) (dist : List ℤ) (status : List ℕ) (r : Record)
    → (begin s T values marks dist status).answer ≡ done r
    → let now = begin s T values marks dist status in
    let before = begin_by (marked_before marks) s T values marks dist status in
    (before.answer ≡ done r)
    × (KeepsTheSame s marks (state r now.lent.dist now.lent.status) (state r before.lent.dist before.lent.status))
