-- What the entries of a removal list come to, in the rule's words.
use Rattle.std.specs.Prelude.{◌≡◌, Bool, true, cond, List, ℕ, ◌+◌, ◌*◌, ◌^◌, ◌≤◌, ◌<◌, pos, nat_abs, ◌+ℤ◌, ◌-ℤ◌, length}
use Rattle.cells.specs.Cells.{test}
use Rattle.rules.specs.declared.Sides.{Sides}
use Rattle.rules.specs.Grid.{neighbourhood}
use Rattle.rules.specs.Neighbours.{Inner}
use Rattle.rules.specs.Status.{is_kept}
use Rattle.neighbourhood.specs.Neighbourhood.{Statuses}
use Rattle.judging.specs.Judge.{entry_length, Entry, Body}
use Rattle.entries.specs.Entries.{index_of}
use Rattle.tallies.specs.declared.Tally.{Tally}

abbrev pub entry : Bool → ℕ → Entry
entry opens i = record { opens = opens; at = i }

abbrev pub body_of : List ℕ → Tally → Body
body_of status t = record { kept = is_kept status; removed = t.removed; opened = t.opened; euler = t.euler }

unfoldable pub tally_after : Sides → (ℕ → Bool) → Entry → Tally → Tally
tally_after s kept e t =
    let x = test (neighbourhood s kept e.at) in
    record {
      removed = t.removed + 1;
      opened = cond e.opens (t.opened + 1) t.opened;
      euler = cond e.opens (t.euler +ℤ (pos x.k -ℤ pos x.m)) t.euler;
      last = cond e.opens t.removed t.last;
    }

-- counts that have room for one entry: k is 8 at most, and m 6
pub record Roomy (t : Tally) : Type 0 where
  pub few : t.opened ≤ 65535
  pub small : nat_abs t.euler ≤ 1 + 8 * t.opened

pub record Countable (s : Sides) (status : List ℕ) (i : ℕ) (t : Tally) : Type 0 where
  pub voxel : Inner s i
  pub statuses : Statuses s status
  pub roomy : Roomy t
  pub long : t.removed < 2 ^ 62

-- the next entry is whole, and its voxel kept
pub record Stepping (s : Sides) (status list : List ℕ) (t : Tally) : Type 0 where
  pub countable : Countable s status (index_of list t.removed) t
  pub whole : entry_length * t.removed + entry_length ≤ length list
  pub kept : is_kept status (index_of list t.removed) ≡ true
