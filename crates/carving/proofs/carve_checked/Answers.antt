-- `carving::carve_checked` meets its contract: no check refuses, and the marks that are handed on ask for the same.
use mathlib.Core.Path.{◌≡◌, sym, ap, ◌∙◌}
use mathlib.Core.List.{List}
use Prim.Native.Nat.{ℕ}
use lib.ListN.{take}
use lib.Seq.{length-take-le}
use Rattle.rules.specs.declared.Carving.{Carving}
use Rattle.rules.specs.Answer.{Outcome, Buffers}
use Rattle.rules.specs.Marks.{Marked, marked}
use Rattle.rules.specs.Machine.{State, state, may_go, sooner, carved, carve}
use Rattle.rules.specs.Fit.{Marking}
use Rattle.rules.proofs.NeverUnfit.{is-carved}
use Rattle.marks.proofs.Lent.{used-same}
use Rattle.fitness.proofs.Marked.{few-marks}
use Rattle.carving.proofs.carve_checked.Goals as goal
use Rattle.carving.proofs.carve_checked.Goals.{Start}

abbrev lent-to : Start → State
lent-to c = state c.args.given c.args.dist.now c.args.status.now

-- what is answered where no check fails
abbrev worked : Marked → ℕ → State → Outcome Buffers Carving
worked m limit g = carved (may_go m g.dist) (sooner m g.dist) limit g

-- by marks that ask for the same
carve-same : (o : Outcome Buffers Carving) (used : Marked) (m : List ℕ) (limit : ℕ) (g : State)
    → Marking m g → used ≡ marked m → o ≡ worked used limit g → o ≡ carve m limit g
carve-same o used m limit g k same e = e ∙ ap (λ (t : Marked). worked t limit g) same ∙ sym (is-carved m limit g k)

pub slice_bounds-carve_fit-end : goal.slice_bounds-carve_fit-end
slice_bounds-carve_fit-end c = sym (length-take-le _ _ c.used-n.ensures.1)

pub returns : goal.returns
returns c =
    let m = c.args.marks.now in
    let g = lent-to (goal.at.returns c).Start in
    let k = c.requires.0 in
    let same : marked (take c.used-n.result m) ≡ marked m =
    ap (λ (n : ℕ). marked (take n m)) c.used-n.ensures.0 ∙ used-same m _ c.requires.1 (few-marks m g k) in
    carve-same _ _ m c.args.limit g k same c.carve_fit.ensures
