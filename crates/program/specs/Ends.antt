-- What the program's rounds come to: every carve empties the pending set, no call is refused as unfit, and open refuses for want of openings
-- or of a voxel. Proved in proofs/Ends.antt.
use Rattle.std.specs.Prelude.{◌≡◌, ◌⊎◌, false, List, [], ◌∷◌, ℕ, zero, suc}
use Rattle.rules.specs.Answer.{refused, done}
use Rattle.rules.specs.Status.{any_pending}
use Rattle.rules.specs.Marks.{marked}
use Rattle.rules.specs.Machine.{State, may_go, sooner, carved, carve, open_next, as_finished, finish}
use Rattle.rules.specs.Demand.{EveryBegun, Call, carve_up_to, open_one, run}
use Rattle.program.specs.Program.{no_limit, after_carve, all_rounds}

-- the program's calls, round after round
unfoldable pub rounds : List ℕ → ℕ → List Call
rounds marks zero = []
rounds marks (suc n) = carve_up_to marks no_limit ∷ open_one marks ∷ rounds marks n

-- after so many rounds, carve works, and leaves nothing pending
pub record CarvesToEmpty (marks : List ℕ) (g : State) : Type 0 where
  pub works : carve marks no_limit g ≡ carved (may_go (marked marks) g.dist) (sooner (marked marks) g.dist) no_limit g
  pub empties : any_pending g.rec.sides (after_carve marks g).status ≡ false

-- in the end nothing is pending, open has refused with 14 or 15, and finish works
pub record Through (marks : List ℕ) (g : State) : Type 0 where
  pub empty : any_pending g.rec.sides g.status ≡ false
  pub refuses : ((open_next marks g).answer ≡ refused 14) ⊎ ((open_next marks g).answer ≡ refused 15)
  pub finishes : (finish g).answer ≡ done (as_finished g.rec)

-- with the marks that begin was lent, whatever they are
abbrev pub EveryCarveEmpties : Type 0
EveryCarveEmpties = (n : ℕ) → EveryBegun (λ s T values marks begun. CarvesToEmpty marks (run (rounds marks n) begun).end)

abbrev pub RoundsGoThrough : Type 0
RoundsGoThrough = EveryBegun (λ s T values marks begun. Through marks (all_rounds marks begun))
