-- `visit`: a flood, or nothing.
use mathlib.Core.Path.{refl, sym, ◌∙◌, subst}
use mathlib.Core.List.{List}
use Prim.Native.Nat.{ℕ}
use native.Mathlib.Omega.{arith}
use Rattle.pushing.specs.Push.{fill_of}
use Rattle.floods.specs.Flood.{near_by, Floodable, Flooded}
use Rattle.floods.proofs.Offsets.{spanned-single, offset_near}
use Rattle.gaps.specs.Gaps.{flooded, passed}
use Rattle.gaps.proofs.OpenGaps.{floodable}
use Rattle.gaps.proofs.visit.Goals as goal

pub overflow_sub-i : goal.overflow_sub-i
overflow_sub-i c = c.requires.0.low c.args.i c.requires.1

pub opens-requires : goal.opens-requires
opens-requires c =
    let a = c.args in
    λ k h. c.requires.0.high a.i _ c.requires.1 (offset_near a.offsets.now a.back a.i k h)

pub flood-requires : goal.flood-requires
flood-requires c =
    let a = c.args in (
      omega arith,
      omega arith,
      subst (λ (o : List ℕ). Floodable o a.back (fill_of a.label.now a.work.now 0) a.i) (sym (spanned-single a.offsets.now))
          (floodable a.offsets.now a.back a.i a.label.now a.work.now c.requires.0 c.requires.1),
    )

pub returns-then-opens : goal.returns-then-opens
returns-then-opens c =
    let a = c.args in
    flooded (sym c.opens.ensures ∙ c.if-opens.true) c.flood.result
    (subst (λ (o : List ℕ). Flooded (near_by o a.back) (fill_of a.label.now a.work.now 0)
    (fill_of c.flood.new.label c.flood.new.work c.flood.result) a.i) (spanned-single a.offsets.now) c.flood.ensures)

pub returns-else-opens : goal.returns-else-opens
returns-else-opens c = passed (sym c.opens.ensures ∙ c.if-opens.false) refl
