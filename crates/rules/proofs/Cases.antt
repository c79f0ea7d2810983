-- The cases, by computation from the rules; case C, the arc and the hollow, which take long, stand in the crate of all cases.
use mathlib.Core.Path.{refl}
use Rattle.cells.specs.Groups.{any, filter, reached, others, enter, gather, groups}
use Rattle.cells.specs.Cells.{contains, joined, touched, group_count, dimension, count_of, before, test_of, test, passes}
use Rattle.rules.specs.Grid.{fit_sides, size, index, voxel, range, voxels, on_border, gap, near, touch, apart, taxicab, share_face}
use Rattle.rules.specs.Value.{is_missing, beyond, measured_negative, measured_non_negative}
use Rattle.rules.specs.Grid.{neighbourhood_of, neighbourhood}
use Rattle.rules.specs.Checks.{unless}
use Rattle.rules.specs.Fill.{gaps, around, enclosed, enclosed_gaps, in_some, filled_in, filled}
use Rattle.rules.specs.Begin.{least, greatest, is_in, negatives, larger, largest, inside, facing, greatest_facing, distance, worked_at, worked, in_box}
use Rattle.rules.specs.Begin.{exposed, waits_first, status_at, start_status, begun_on, begun, begin}
use Rattle.rules.specs.PinFirst.{marked_before, begin_by}
use Rattle.rules.specs.Marks.{pinned_mark, hurried_mark, marked, stray_mark, wrong_marks, no_marks}
use Rattle.rules.specs.Status.{kept_byte, pending_byte, woken, rested, is_kept, is_pending, any_pending, test_at, prefer, foremost, first_of, removable}
use Rattle.rules.specs.Status.{status_without, without, goes, examine, carving, openable}
use Rattle.rules.specs.Machine.{is_inside, outside, may_go, farther, sooner, unfit_counts, unfit_voxel, unfit, wrong_length, carved, carve, taken, take}
use Rattle.rules.specs.Machine.{to_open, opened, open_next, closed, closed_at, finished_of, finish}
use Rattle.rules.specs.Cases.{start_with, carved_with, start, carved_to, plain_carve, plain_take, plain_open, ended}
use Rattle.rules.specs.Cases.{case_a, plate, values_c, case_c, layer_d, values_d, case_d, values_arc, arc, bar, values_two, two_groups, cube}
use Rattle.rules.specs.Cases.{wall, walled, hollow, mark_at, mark_d, begun_d, threes_d, deep, rod, bar_of, mark_bar, block, carved_face}
use Rattle.rules.specs.Cases.{CaseA, CaseD, Bar, Discarded, Numbers, LongTunnels, BehindTheFace, Pinned, Hurried, PinnedAndHurried}
use Rattle.rules.specs.Cases.{ThreesTakenOff, HurriedDeep, MarksLater, MarkNumbers, WhichSide}

-- ---- all that a case computes with: to unfold `all-rules` is to unfold the rules

unfoldable local-rules : Unit {0}
unfolding any filter reached others enter gather groups contains joined touched group_count dimension count_of before test_of test passes
local-rules = tt

unfoldable grid-rules : Unit {0}
unfolding fit_sides size index voxel range voxels on_border gap near touch apart taxicab share_face neighbourhood_of neighbourhood
grid-rules = tt

unfoldable measuring-rules : Unit {0}
unfolding is_missing beyond measured_negative measured_non_negative unless least greatest is_in negatives larger largest inside facing greatest_facing
measuring-rules = tt

unfoldable fill-rules : Unit {0}
unfolding gaps around enclosed enclosed_gaps in_some filled_in filled
fill-rules = tt

unfoldable begin-rules : Unit {0}
unfolding measuring-rules fill-rules distance worked_at worked in_box exposed waits_first status_at start_status begun_on begun begin
begin-rules = tt

unfoldable status-rules : Unit {0}
unfolding kept_byte pending_byte woken rested is_kept is_pending any_pending test_at status_without without goes examine carving openable
status-rules = tt

unfoldable order-rules : Unit {0}
unfolding prefer foremost first_of removable is_inside outside may_go farther sooner pinned_mark hurried_mark marked stray_mark wrong_marks no_marks
order-rules = tt

unfoldable call-rules : Unit {0}
unfolding unfit_counts unfit_voxel unfit wrong_length carved carve taken take to_open opened open_next closed closed_at finished_of finish
call-rules = tt

unfoldable case-calls : Unit {0}
unfolding start_with carved_with start carved_to plain_carve plain_take plain_open ended
case-calls = tt

unfoldable mark-cases : Unit {0}
unfolding mark_at mark_d begun_d threes_d deep rod bar_of mark_bar
mark-cases = tt

unfoldable worked-cases : Unit {0}
unfolding case-calls case_a plate values_c case_c layer_d values_d case_d values_arc arc bar values_two two_groups cube wall walled hollow mark-cases block carved_face
worked-cases = tt

unfoldable pub all-rules : Unit {0}
unfolding local-rules grid-rules begin-rules status-rules order-rules call-rules worked-cases
all-rules = tt

pub case-a : CaseA
unfolding all-rules
case-a = record { worked = refl; nothing-pending = refl }

pub case-d : CaseD
unfolding all-rules
case-d = record { before = refl; first = refl; second = refl }

pub the-bar : Bar
unfolding all-rules
the-bar = record { stays = refl; pending-refused = refl; not-finished = refl; farthest-opened = refl; earliest-opened = refl }

pub discarded : Discarded
unfolding all-rules
discarded = record { first = refl; worked = refl; gone = refl }

pub the-numbers : Numbers
unfolding all-rules
the-numbers =
    record {
      side = refl;
      length = refl;
      openings = refl;
      removals = refl;
      examinations = refl;
      euler = refl;
      finished = refl;
      index = refl;
      gone = refl;
      inside = refl;
      unfit-first = refl;
      finished-first = refl;
      pending-first = refl;
      allowed-first = refl;
      removals-of-n = refl;
    }

pub long-tunnels : LongTunnels
unfolding all-rules
long-tunnels =
    record {
      too-high = refl;
      too-low = refl;
      lowest = refl;
      side-first = refl;
      length-first = refl;
      border-after = refl;
      none_after = refl;
      taken = refl;
    }

pub behind-the-face : BehindTheFace
unfolding all-rules
behind-the-face = record { inside = (refl, refl); held = refl; open-face = (refl, refl); two-gaps = (refl, refl); border = refl }

pub pinned-case : Pinned
unfolding all-rules
pinned-case =
    record {
      begun = refl;
      carved = refl;
      taken-beside = refl;
      on-s = refl;
      outside-the-box = refl;
      on-the-border = refl;
    }

pub hurried-case : Hurried
unfolding all-rules
hurried-case =
    record {
      begun = refl;
      on-s = refl;
      gone = refl;
      first = refl;
      before-farther = refl;
      farther-of-two = refl;
      earlier-of-equals = refl;
    }

pub both-case : PinnedAndHurried
unfolding all-rules
both-case =
    record {
      begun = refl;
      begun-deep = refl;
      first = refl;
      examined = refl;
      removed = refl;
      taken-beside = refl;
      not_taken = refl;
      farther-first = refl;
      stays = refl;
    }

pub threes-taken-off : ThreesTakenOff
unfolding all-rules marked_before begin_by
threes-taken-off = record { now = refl; before = refl }

pub hurried-deep : HurriedDeep
unfolding all-rules
hurried-deep =
    record {
      plain = refl;
      hurried = refl;
      later = refl;
    }

pub marks-later : MarksLater
unfolding all-rules
marks-later =
    record {
      still-pending = refl;
      pinned-later = refl;
      taken-off = refl;
      opened-beside = refl;
      hurry-unseen = refl;
      all-pinned = refl;
    }

pub mark-numbers : MarkNumbers
unfolding all-rules
mark-numbers =
    record {
      gone-first = refl;
      inside-first = refl;
      not_taken = refl;
      before-test = refl;
      side-first = refl;
      length = refl;
      length-first = refl;
      unfit-first = refl;
      stray = refl;
      finished-after = refl;
      begun-length = refl;
      value-first = refl;
      border-after = refl;
      none_after = refl;
    }

pub which-side : WhichSide
unfolding all-rules
which-side =
    record {
      taken = refl;
      opened = refl;
      carved = refl;
      first-of-two = refl;
      last-of-two = refl;
      none-examined = refl;
      none-pending = refl;
      none_passes = refl;
      stays-last = refl;
    }
