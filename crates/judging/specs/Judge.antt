-- Document 02's CR 11, "The other supplier's removal list": the rule of judge, over the bytes of a list.
use Rattle.std.specs.Prelude.{Bool, not, cond, ◌&&◌, ◌||◌, List, [], ◌∷◌, ◌++◌, map, ℕ, zero, suc, ◌+◌, ◌*◌, ◌/◌, leb, ltb, eqb, length, ℤ, pos, ◌+ℤ◌, ◌-ℤ◌}
use Rattle.cells.specs.Groups.{any}
use Rattle.cells.specs.Cells.{test, passes}
use Rattle.rules.specs.declared.Sides.{Sides}
use Rattle.rules.specs.Grid.{size, range, voxels, neighbourhood}
use Rattle.rules.specs.Begin.{exposed}
use Rattle.rules.specs.Checks.{Check, ◌when◌, unless}
use Rattle.rules.specs.Answer.{Reply, refused, done, Outcome, outcome, untouched, Buffers}
use Rattle.rules.specs.Status.{is_kept}
use Rattle.rules.specs.Machine.{State, lent_to, is_inside, working_checks}
use Rattle.format.specs.Bytes.{word, tagged}
use Rattle.judging.specs.declared.Judgement.{Judgement}

-- ---- "Records are hex 56 52 (ordinary) or hex 56 4F (opening), then a four-byte index"

abbrev pub entry_length : ℕ
entry_length = 6

pub record Entry : Type 0 where
  pub opens : Bool
  pub at : ℕ

abbrev pub entry_at : List ℕ → ℕ → Entry
entry_at list start = record { opens = tagged 0x4F list start; at = word 4 list (start + 2) }

-- as many as begin in the list, the last perhaps cut off
abbrev pub entry_count : List ℕ → ℕ
entry_count list = (length list + 5) / entry_length

unfoldable pub entries_in : List ℕ → List Entry
entries_in list = map (λ r. entry_at list (entry_length * r)) (range 0 (entry_count list))

-- ---- "Starting from the kept voxels of the lent status buffer, counts 0 and Euler number 1"

pub record Body : Type 0 where
  pub kept : ℕ → Bool
  pub removed : ℕ
  pub opened : ℕ
  pub euler : ℤ

abbrev pub start_from : List ℕ → Body
start_from status = record { kept = is_kept status; removed = 0; opened = 0; euler = pos 1 }

abbrev pub less_one : (ℕ → Bool) → ℕ → ℕ → Bool
less_one kept i j = kept j && not (eqb j i)

-- a voxel goes: k - m counts where it is an opening
unfoldable pub goes : Sides → Body → Entry → Body
goes s b e =
    let t = test (neighbourhood s b.kept e.at) in
    record {
      kept = less_one b.kept e.at;
      removed = suc b.removed;
      opened = cond e.opens (suc b.opened) b.opened;
      euler = cond e.opens (b.euler +ℤ (pos t.k -ℤ pos t.m)) b.euler;
    }

-- the body that some entries leave
unfoldable pub leaves : Sides → Body → List Entry → Body
leaves s b [] = b
leaves s b (e ∷ es) = leaves s (goes s b e) es

-- ---- what may go; S is the voxels of negative worked distance

module _ (s : Sides) (S : ℕ → Bool) where
  -- a kept outside voxel that passes
  unfoldable pub can_pass : (ℕ → Bool) → ℕ → Bool
  can_pass kept i = kept i && (not (S i) && passes (test (neighbourhood s kept i)))

  unfoldable pub some_passes : (ℕ → Bool) → Bool
  some_passes kept = any (can_pass kept) (voxels s)

  -- one with a face neighbour not kept, when none passes
  unfoldable pub can_open : (ℕ → Bool) → ℕ → Bool
  can_open kept i = kept i && (not (S i) && (exposed s kept i && not (some_passes kept)))

  -- "each voxel is kept and outside S at its turn, an ordinary one passes, an opening has a face neighbour not kept and comes when no kept outside
  -- voxel passes, there are at most T openings"
  unfoldable pub allows : ℕ → Body → Entry → Bool
  allows T b e = cond e.opens (can_open b.kept e.at && ltb b.opened T) (can_pass b.kept e.at)

  -- "for each record, before the next is looked at, 21 for fewer than 6 bytes left, 22, 5, then number 32 for a removal that breaks these rules"
  abbrev pub entry_checks : ℕ → List ℕ → ℕ → Body → List Check
  entry_checks T list start b =
      21 when ltb (length list) (start + entry_length)
      ∷ 22 when not (tagged 0x52 list start || tagged 0x4F list start)
      ∷ 5 when leb (size s) (entry_at list start).at
      ∷ 32 when not (allows T b (entry_at list start))
      ∷ []

  -- so many records, from record r on; "at the end 33 if a voxel still passes"
  unfoldable pub list_checks : ℕ → List ℕ → ℕ → ℕ → Body → List Check
  list_checks T list zero r b = 33 when some_passes b.kept ∷ []
  list_checks T list (suc left) r b =
      entry_checks T list (entry_length * r) b ++ list_checks T list left (suc r) (goes s b (entry_at list (entry_length * r)))

-- ---- the call: "Checks 1, 2, 7 and 8 come first"

-- "The answer is removals, openings and Euler number": Judgement
abbrev pub judge_checks : List ℕ → State → List Check
judge_checks list g =
    working_checks g ++ list_checks g.rec.sides (is_inside g.dist) g.rec.allowed list (entry_count list) 0 (start_from g.status)

-- the body that the whole list leaves
unfoldable pub body_left : List ℕ → State → Body
body_left list g = leaves g.rec.sides (start_from g.status) (entries_in list)

abbrev pub judgement_of : Body → Judgement
judgement_of b = record { removed = b.removed; opened = b.opened; euler = b.euler }

-- "the buffers end as they began"
unfoldable pub judge : List ℕ → State → Outcome Buffers Judgement
judge list g = unless (judge_checks list g) (untouched (lent_to g)) (outcome (done (judgement_of (body_left list g))) (lent_to g))
