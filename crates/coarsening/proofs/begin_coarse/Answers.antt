-- `begin_coarse` is its rule: a refusal by its number, or the work with the marks that are to be read.
use mathlib.Core.Path.{◌≡◌, refl, sym, ap, ◌∙◌}
use mathlib.Core.Logic.{◌⊎◌, inl, inr}
use mathlib.Core.Bool.{Bool, true, cond}
use mathlib.Core.List.{List}
use Prim.Native.Nat.{ℕ, ◌≤◌}
use lib.Dec.{eqb}
use lib.ListN.{length, take}
use lib.Seq.{length-take-le}
use Rattle.prelude.proofs.Bools.{two}
use Rattle.rules.specs.Grid.{fit_sides, size}
use Rattle.rules.specs.Fill.{filled}
use Rattle.rules.specs.Marks.{marked}
use Rattle.rules.specs.Checks.{Check, first_failing}
use Rattle.rules.specs.Answer.{Reply, Outcome, outcome, untouched, buffers}
use Rattle.rules.proofs.Refusals.{call-refused-by, call-passed}
use Rattle.beginning.proofs.Calls.{handed_reply}
use Rattle.marks.specs.Lent.{used_of}
use Rattle.marks.proofs.Lent.{few-sized, used-same}
use Rattle.coarse.specs.declared.CoarseStart.{CoarseStart}
use Rattle.coarse.specs.Coarse.{FourBuffers, four_buffers, coarse_checks, coarse_on, begin_coarse}
use Rattle.coarse_checks.specs.Lengths.{Lengths}
use Rattle.coarsening.proofs.Working.{marks-sized, acceptable, begun-is}
use Rattle.coarsening.proofs.begin_coarse.Goals as goal
use Rattle.coarsening.proofs.begin_coarse.Goals.{Start}

abbrev lent : Start → FourBuffers
lent c = let a = c.args in four_buffers (buffers a.dist.now a.status.now) (buffers a.block_dist.now a.block_status.now)

abbrev checks : Start → List Check
checks c = coarse_checks c.args.sides c.args.values.now c.args.marks.now (lent c)

-- what is answered where no check fails
abbrev worked : Start → Outcome FourBuffers CoarseStart
worked c = let a = c.args in coarse_on a.sides a.allowed (filled a.sides a.values.now) (marked a.marks.now)

-- four buffers are as long as they are
as_long : (l : FourBuffers) → Lengths l (length l.voxels.dist) (length l.voxels.status) (length l.blocks.dist) (length l.blocks.status)
as_long l = record { dist-len = refl; status-len = refl; block-dist-len = refl; block-status-len = refl }

pub returns-in_err-refusal : goal.returns-in_err-refusal
unfolding begin_coarse
returns-in_err-refusal c =
    let s = (goal.at.returns-in_err-refusal c).Start in
    ap (λ (a : Reply CoarseStart). outcome a (lent s)) (handed_reply _ _ c.from_residual.ensures.1)
    ∙ call-refused-by (untouched (lent s)) (worked s) (checks s) _ (c.in_err-refusal.ensures (lent s) (as_long (lent s)))

pub slice_bounds-work_out-end : goal.slice_bounds-work_out-end
slice_bounds-work_out-end c = sym (length-take-le _ _ c.used-n.ensures.1)

-- all marks are handed on, or none
lengths : (all used : ℕ) (m : List ℕ) (n : ℕ) → used ≡ used_of all (length m) → used ≤ length m → length m ≡ n
    → (length (take used m) ≡ 0) ⊎ (length (take used m) ≡ n)
unfolding used_of
lengths all used m n u h long =
    let e = length-take-le used m h ∙ u in
    elim (two (eqb all 0)) [
      | inl z ↦ inl (e ∙ ap (λ (t : Bool). cond t 0 (length m)) z)
      | inr z ↦ inr (e ∙ ap (λ (t : Bool). cond t 0 (length m)) z ∙ long)
    ]

pub work_out-examined-requires : goal.work_out-examined-requires
work_out-examined-requires c =
    let a = c.args in
    let l = lent (goal.at.work_out-examined-requires c).Start in
    let none = c.in_ok-refusal.ensures l (as_long l) in
    let long : length a.marks.now ≡ size a.sides = marks-sized a.sides a.values.now a.marks.now l none in
    acceptable a.sides a.values.now a.marks.now l none _
    (lengths c.all-all.result c.used-n.result a.marks.now _ c.used-n.ensures.0 c.used-n.ensures.1 long)

pub returns : goal.returns
unfolding begin_coarse
returns c =
    let a = c.args in
    let m = a.marks.now in
    let l = c.work_out-examined.new in
    let s = (goal.at.returns c).Start in
    let none : 0 ≡ first_failing (checks s) = c.in_ok-refusal.ensures (lent s) (as_long (lent s)) in
    let long : length m ≡ size a.sides = marks-sized a.sides a.values.now m (lent s) none in
    let sides-fit : fit_sides a.sides ≡ true =
    (acceptable a.sides a.values.now m (lent s) none 0 (inl refl)).accepted.grid.sides in
    let same : marked (take c.used-n.result m) ≡ marked m =
    ap (λ (k : ℕ). marked (take k m)) c.used-n.ensures.0 ∙ used-same m _ c.all-all.ensures (few-sized m a.sides sides-fit long) in
    call-passed (untouched (lent s)) (worked s) (checks s) refl none _
    (begun-is _ _ _ _ _ _ (four_buffers (buffers l.dist l.status) (buffers l.block_dist l.block_status)) _ c.ready.ensures same
    c.work_out-examined.ensures)
