-- `rounds::carve_and_open` meets its contract.
use mathlib.Core.Path.{◌∙◌}
use native.Mathlib.Omega.{arith}
use Rattle.rules.specs.Machine.{state, open_next}
use Rattle.program.specs.Program.{after_open}
use Rattle.rounds.proofs.Answers.{after-answer, opens-answer}
use Rattle.rounds.proofs.Going.{going_start, going_next, going_done}
use Rattle.rounds.proofs.carve_and_open.Goals as goal

pub loop-opening-init : goal.loop-opening-init
loop-opening-init c = (c.carve_on-carved.auto.status, going_start _ _ _ _ _ _ c.carve_on-carved.ensures)

pub loop-opening-smaller : goal.loop-opening-smaller
unfolding after_open
loop-opening-smaller c =
    let a = c.args in
    let l = c.loop-opening in
    let g = state l.carved a.dist.now l.status in
    (
    going_next a.marks.now a.dist.now _ l.carved l.status l.invariant.1 _ _ c.open_next.new.status _
    (opens-answer a.marks.now g a.dist.now c.in-Ok.is c.open_next.ensures)
    (after-answer (λ r. r.next) l.carved a.dist.now (open_next a.marks.now g) c.in-Ok.is c.open_next.ensures)
    c.carve_on-carved-in-Ok.ensures
    ).1

pub loop-opening-preserved : goal.loop-opening-preserved
unfolding after_open
loop-opening-preserved c =
    let a = c.args in
    let l = c.loop-opening in
    let g = state l.carved a.dist.now l.status in (
      c.carve_on-carved-in-Ok.auto.status ∙ c.open_next.auto.status ∙ l.invariant.0,
      (
          going_next a.marks.now a.dist.now _ l.carved l.status l.invariant.1 _ _ c.open_next.new.status _
          (opens-answer a.marks.now g a.dist.now c.in-Ok.is c.open_next.ensures)
          (after-answer (λ r. r.next) l.carved a.dist.now (open_next a.marks.now g) c.in-Ok.is c.open_next.ensures)
          c.carve_on-carved-in-Ok.ensures
          ).0,
    )

pub returns : goal.returns
unfolding after_open
returns c =
    let a = c.args in
    let l = c.loop-opening in
    let g = state l.carved a.dist.now l.status in
    going_done a.marks.now a.dist.now _ l.carved l.status l.invariant.1 _
    (opens-answer a.marks.now g a.dist.now c.in_default.is c.open_next.ensures)
    (after-answer (λ r. r.next) l.carved a.dist.now (open_next a.marks.now g) c.in_default.is c.open_next.ensures)
