-- Document 02's CR 7: with marks all 0 every call is as before. The rules before it, and that they stand; proofs/Unmarked.antt proves it.
use Rattle.std.specs.Prelude.{◌≡◌, not, cond, ◌&&◌, List, [], ◌∷◌, ◌++◌, map, ℕ, zero, suc, leb, eqb, length, ℤ, pos, None, Some}
use Rattle.cells.specs.Groups.{any}
use Rattle.cells.specs.Cells.{passes}
use Rattle.rules.specs.declared.Sides.{Sides}
use Rattle.rules.specs.declared.Record.{Record}
use Rattle.rules.specs.Value.{stray}
use Rattle.rules.specs.Grid.{fit_sides, size, voxels, on_border, measured_negative, value_at, is_in}
use Rattle.rules.specs.Checks.{◌when◌, unless}
use Rattle.rules.specs.declared.Carving.{Carving}
use Rattle.rules.specs.declared.Opening.{Opening}
use Rattle.rules.specs.Answer.{done, Outcome, outcome, untouched, Buffers, buffers, Removal}
use Rattle.rules.specs.Fill.{filled}
use Rattle.rules.specs.Marks.{no_marks}
use Rattle.rules.specs.Begin.{inside, worked, in_box, exposed, new_record, begin}
use Rattle.rules.specs.Status.{is_kept, is_pending, any_pending, test_at, first_of, examined_as, Progress, progress, counted}
use Rattle.rules.specs.Machine.{State, lent_to, is_inside, outside, farther, count, working_checks, carve, taken, take, to_open, the_voxel, quiet_checks}
use Rattle.rules.specs.Machine.{opening_checks, opened, open_next}

-- ---- begin: each kept voxel outside S with a face neighbour not kept is pending

unfoldable pub begin_before : Sides → ℕ → List ℤ → List ℤ → List ℕ → Outcome Buffers Record
begin_before s T values dist status =
    let used = filled s values in
    let S = inside s used in
    let kept = in_box s S in
    unless (
    1 when not (fit_sides s)
    ∷ 2 when not (eqb (length values) (size s) && (eqb (length dist) (size s) && eqb (length status) (size s)))
    ∷ 28 when any stray values
    ∷ 3 when any (λ i. on_border s i && measured_negative (value_at values i)) (voxels s)
    ∷ 4 when not (any (λ i. measured_negative (value_at values i)) (voxels s))
    ∷ []
    )
    (untouched (buffers dist status))
    (outcome (done (new_record s T))
    (buffers (worked s used S) (map (λ i. cond (kept i) (cond (not (is_in S i) && exposed s kept i) 3 1) 0) (voxels s))))

-- ---- carve: the greatest worked distance first, and gone where it passes

unfoldable pub carving_before : Sides → List ℤ → ℕ → List ℕ → Progress
carving_before s dist zero status = progress 0 0 6 status
carving_before s dist (suc limit) status =
    elim (first_of s (farther dist) (is_pending status)) [
      | None ↦ progress 0 0 6 status
      | Some i ↦
          counted (passes (test_at s status i)) (test_at s status i).face
          (carving_before s dist limit (examined_as (passes (test_at s status i)) s (outside dist) status i))
    ]

unfoldable pub carve_before : ℕ → State → Outcome Buffers Carving
carve_before limit g =
    let s = g.rec.sides in
    let r = carving_before s g.dist limit g.status in
    unless (working_checks g) (untouched (lent_to g))
    (outcome
    (done (
    record {
      examined = r.examined;
      removed = r.removed;
      pending = any_pending s r.status;
      face = r.face;
      next = count g.rec r.examined r.removed 0 (pos 0);
    }
    ))
    (buffers g.dist r.status))

-- ---- take and open: a voxel outside S may go

unfoldable pub take_before : ℕ → State → Outcome Buffers Removal
take_before i g =
    unless (
    working_checks g
    ++ (
    5 when leb (size g.rec.sides) i
    ∷ 10 when not (is_kept g.status i)
    ∷ 11 when is_inside g.dist i
    ∷ 12 when not (passes (test_at g.rec.sides g.status i))
    ∷ []
    )
    )
    (untouched (lent_to g))
    (taken (outside g.dist) i g)

unfoldable pub open_before : State → Outcome Buffers Opening
open_before g =
    let free = outside g.dist in
    unless (working_checks g ++ (quiet_checks g ++ opening_checks free g)) (untouched (lent_to g)) (opened free (the_voxel (to_open free g)) g)

-- ---- with marks all 0 nothing changes

pub record AsBefore : Type 0 where
  pub begun : (s : Sides) (T : ℕ) (values dist : List ℤ) (status : List ℕ)
      → begin s T values (no_marks s) dist status ≡ begin_before s T values dist status
  pub carved : (limit : ℕ) (g : State) → carve (no_marks g.rec.sides) limit g ≡ carve_before limit g
  pub taken : (i : ℕ) (g : State) → take (no_marks g.rec.sides) i g ≡ take_before i g
  pub opened : (g : State) → open_next (no_marks g.rec.sides) g ≡ open_before g
