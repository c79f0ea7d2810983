-- `begin` is its rule: a refusal by its number, or the work with the marks that are to be read.
use native.Mathlib.Omega.{arith}
use mathlib.Core.Path.{◌≡◌, refl, sym, ap, ◌∙◌}
use mathlib.Core.List.{List}
use Prim.Native.Nat.{ℕ, ◌≤◌}
use lib.ListN.{length, take}
use lib.Seq.{length-take-le}
use Rattle.rules.specs.Checks.{Check}
use Rattle.rules.specs.Answer.{Reply, Outcome, outcome, untouched, Buffers, buffers}
use Rattle.rules.specs.declared.Record.{Record}
use Rattle.rules.specs.Grid.{size}
use Rattle.rules.specs.Marks.{marked}
use Rattle.rules.specs.Begin as rule
use Rattle.rules.specs.Begin.{begin_checks, begin}
use Rattle.rules.proofs.Refusals.{call-refused-by, call-passed}
use Rattle.marks.proofs.Lent.{few-sized, used-same}
use Rattle.gaps.specs.Work.{Accepted}
use Rattle.beginning.proofs.Calls.{accepted, begun-is, handed_reply}
use Rattle.beginning.proofs.begin.Goals as goal
use Rattle.beginning.proofs.begin.Goals.{In_ok-refusal, Start}

abbrev checks : Start → List Check
checks c = begin_checks c.args.sides c.args.values.now c.args.marks.now c.args.dist.now c.args.status.now

-- what is answered where no check fails
abbrev worked : Start → Outcome Buffers Record
worked c = rule.begun c.args.sides c.args.allowed c.args.values.now (marked c.args.marks.now)

pub returns-in_err-refusal : goal.returns-in_err-refusal
unfolding begin
returns-in_err-refusal c =
    let s = (goal.at.returns-in_err-refusal c).Start in
    let lent = buffers c.args.dist.now c.args.status.now in
    ap (λ (a : Reply Record). outcome a lent) (handed_reply _ _ c.from_residual.ensures.1)
    ∙ call-refused-by (untouched lent) (worked s) (checks s) _ c.in_err-refusal.ensures

pub slice_bounds-work_with-end : goal.slice_bounds-work_with-end
slice_bounds-work_with-end c = sym (length-take-le _ _ c.used-n.ensures.1)

-- what holds where no check fails
held : (c : In_ok-refusal) → let a = c.args in
    (Accepted a.sides a.values.now (length a.dist.now) (length a.status.now)) × (length a.marks.now ≡ size a.sides)
held c =
    let a = c.args in
    accepted a.sides a.values.now a.marks.now a.dist.now a.status.now c.in_ok-refusal.ensures

pub work_with-requires : goal.work_with-requires
work_with-requires c =
    let a = c.args in
    let p = held (goal.at.work_with-requires c).In_ok-refusal in
    let h : length (take c.used-n.result a.marks.now) ≤ size a.sides =
    omega (arith, length-take-le c.used-n.result a.marks.now c.used-n.ensures.1, c.used-n.ensures.1, p.1) in
    (p.0, h)

pub returns : goal.returns
unfolding begin
returns c =
    let m = c.args.marks.now in
    let same : marked (take c.used-n.result m) ≡ marked m =
    ap (λ (n : ℕ). marked (take n m)) c.used-n.ensures.0
    ∙ used-same m _ c.all-all.ensures (few-sized m c.args.sides (held (goal.at.returns c).In_ok-refusal).0.grid.sides (held (goal.at.returns c).In_ok-refusal).1) in
    call-passed (untouched (buffers c.args.dist.now c.args.status.now)) (worked (goal.at.returns c).Start) (checks (goal.at.returns c).Start)
    refl c.in_ok-refusal.ensures _ (begun-is _ _ _ _ _ _ _ _ c.new_record.ensures same c.work_with.ensures)
