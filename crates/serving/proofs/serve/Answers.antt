-- `serving::serve` meets its contract: one equation against its rule, on all inputs.
use mathlib.Core.Path.{refl, ap}
use Rattle.rules.specs.Answer.{untouched}
use Rattle.rules.specs.Machine.{the_voxel}
use Rattle.rules.proofs.Refusals.{call-refused-by, passed}
use Rattle.office.specs.Serve as rule
use Rattle.office.specs.Serve.{Office, left, to_serve, serve_checks, served_at}
use Rattle.office.specs.Structs.{office_given, as_struct}
use Rattle.serving.proofs.serve.Goals as goal
use Rattle.serving.proofs.serve.Goals.{Start}

abbrev given : Start → Office
given c = let a = c.args in office_given a.g a.o a.dist.now a.status.now

pub serve_at-requires : goal.serve_at-requires
serve_at-requires c =
    let looked = c.in-Ok.ensures in
    (passed (serve_checks c.args.marks.now c.args.limit (given (goal.at.serve_at-requires c).Start)) refl looked.0, looked.1)

pub returns-in-Err : goal.returns-in-Err
unfolding rule.serve
returns-in-Err c =
    let O = given (goal.at.returns-in-Err c).Start in
    let m = c.args.marks.now in
    ap (as_struct c.args.o) (call-refused-by (untouched (left O.order O.dist O.status)) (served_at m c.args.limit O (the_voxel (to_serve O)))
    (serve_checks m c.args.limit O) _ c.in-Err.ensures)
