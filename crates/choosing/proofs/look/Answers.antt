-- `choosing::look` meets its contract: 35 where the choice finds no place, and else the place.
use Rattle.choosing.proofs.Checked as checked
use Rattle.choosing.proofs.look.Goals as goal

pub returns-in_err-refusal : goal.returns-in_err-refusal
returns-in_err-refusal c =
    let a = c.args in
    checked.looked-refused a.marks.now a.limit a.g a.o a.dist.now a.status.now _ _ c.from_residual.ensures.1 c.in_err-refusal.ensures

pub choose-requires : goal.choose-requires
choose-requires c =
    let a = c.args in
    checked.choosing a.marks.now a.limit a.g a.o a.dist.now a.status.now c.in_ok-refusal.ensures

pub returns : goal.returns
returns c =
    let a = c.args in
    checked.looked a.marks.now a.limit a.g a.o a.dist.now a.status.now c.in_ok-refusal.ensures _ c.choose.ensures _ c.ok_or.ensures.value
