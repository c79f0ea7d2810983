-- `office_replies::grids_in` meets its contract: each record is read in.
use Rattle.prelude.proofs.Filling.{Filling}
use Rattle.replies.specs.Structs.{record_in, no_record}
use Rattle.office_replies.specs.Serving.{record_at}
use Rattle.office_replies.proofs.grids_in.Given as goal

abbrev pub invariant-loop-p : goal.invariant-loop-p
invariant-loop-p l = Filling (record_at l.c) (record_in no_record) 16 l.records l.p
