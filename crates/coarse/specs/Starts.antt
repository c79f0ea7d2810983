-- A grid that is accepted, by begin or by begin coarse: statements about both starts at once are made of it.
use Rattle.std.specs.Prelude.{◌≡◌, List, ℕ, ℤ}
use Rattle.rules.specs.declared.Sides.{Sides}
use Rattle.rules.specs.declared.Record.{Record}
use Rattle.rules.specs.Fill.{filled}
use Rattle.rules.specs.Answer.{done}
use Rattle.rules.specs.Begin.{inside, in_box, begin}
use Rattle.rules.specs.Machine.{State, state}
use Rattle.rules.specs.Demand.{Promise}
use Rattle.coarse.specs.Blocks.{split_body}
use Rattle.coarse.specs.declared.CoarseStart.{CoarseStart}
use Rattle.coarse.specs.Coarse.{FourBuffers, begin_coarse}
use Rattle.coarse.specs.Promises.{coarse_state}

-- a call of begin, or of begin coarse, on these sides and values that is not refused, whatever T, the marks and what stood in the lent buffers
pub data AcceptedGrid (s : Sides) (values : List ℤ) : Type 0 where
  plain : (T : ℕ) (marks : List ℕ) (dist : List ℤ) (status : List ℕ) (r : Record)
      → (begin s T values marks dist status).answer ≡ done r → AcceptedGrid s values
  coarse : (T : ℕ) (marks : List ℕ) (lent : FourBuffers) (c : CoarseStart)
      → (begin_coarse s T values marks lent).answer ≡ done c → AcceptedGrid s values

-- the state that it hands out
abbrev pub handed_by : {s : Sides} {values : List ℤ} → AcceptedGrid s values → State
handed_by {s} {values} (plain T marks dist status r e) = let l = (begin s T values marks dist status).lent in state r l.dist l.status
handed_by {s} {values} (coarse T marks lent c e) = coarse_state (begin_coarse s T values marks lent).lent c

-- what is promised of it: a plain start starts with the box, a coarse one with the kept blocks that it leaves, split again
abbrev pub Promised : Promise → {s : Sides} {values : List ℤ} → AcceptedGrid s values → Type 0
Promised P {s} {values} (plain T marks dist status r e) =
    let used = filled s values in P s T used marks (in_box s (inside s used)) (handed_by (plain T marks dist status r e))
Promised P {s} {values} (coarse T marks lent c e) =
    P s T (filled s values) marks (split_body s (begin_coarse s T values marks lent).lent.blocks.status) (handed_by (coarse T marks lent c e))
