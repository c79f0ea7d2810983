-- The worked lists, by computation from the rules.
use mathlib.Core.Path.{refl}
use Rattle.rules.specs.Demand.{call, run}
use Rattle.rules.proofs.Cases.{all-rules}
use Rattle.judging.specs.Judge.{entries_in, goes, leaves, can_pass, some_passes, can_open, allows, list_checks, body_left, judge}
use Rattle.judging.specs.Own.{list_bytes, removed_by, entries_of, own_list}
use Rattle.judging.specs.Examples.{body, resting_d, ring, arc, two_within, cross, ListsOfD, RecordOfD, ListsOfC, SmallBodies}

-- to unfold this is to unfold all that a worked list computes with
unfoldable pub judge-rules : Unit {0}
unfolding all-rules call run entries_in goes leaves can_pass some_passes can_open allows list_checks body_left judge list_bytes removed_by entries_of own_list
judge-rules = tt

pub lists-of-d : ListsOfD
unfolding judge-rules
lists-of-d =
    record {
      ours = refl;
      turned = refl;
      made = refl;
      pinned = refl;
      short = refl;
      empty = refl;
      twice = refl;
      inner = refl;
      cut = refl;
      marked = refl;
      far = refl;
      marked-first = refl;
      far-first = refl;
      broken-first = refl;
    }

pub record-of-d : RecordOfD
unfolding judge-rules
record-of-d = record { side = refl; length = refl; unfit = refl; finished = refl; counted = refl }

pub lists-of-c : ListsOfC
unfolding judge-rules
lists-of-c = record { nothing = refl; opened = refl; none_allowed = refl; not-passing = refl }

pub small-bodies : SmallBodies
unfolding judge-rules body resting_d ring arc two_within cross
small-bodies =
    record {
      at_rest = refl;
      at-rest-short = refl;
      opens-passing = refl;
      opens-early = refl;
      opens-late = refl;
      both-ordinary = refl;
      opens-within = refl;
      opened-before = refl;
      one-too-many = refl;
      nearer = refl;
      farther = refl;
      left-passing = refl;
      made = refl;
    }
