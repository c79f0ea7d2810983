-- What each struct holds for each reply. After a refusal the numbers are 0, the face too, where 0 means nothing, and `next` is the record given.
use Rattle.std.specs.Prelude.{false, not, eqb, pos}
use Rattle.cells.specs.Cells.{bit}
use Rattle.rules.specs.declared.Record.{Record}
use Rattle.rules.specs.declared.Carving.{Carving}
use Rattle.rules.specs.declared.Opening.{Opening}
use Rattle.rules.specs.Answer.{Reply, refused, done, Removal}
use Rattle.coarse.specs.declared.CoarseStart.{CoarseStart}
use Rattle.replies.specs.declared.CRecord.{CRecord}
use Rattle.replies.specs.declared.BeginAnswer.{BeginAnswer}
use Rattle.replies.specs.declared.BeginCoarseAnswer.{BeginCoarseAnswer}
use Rattle.replies.specs.declared.CarveAnswer.{CarveAnswer}
use Rattle.replies.specs.declared.TakeAnswer.{TakeAnswer}
use Rattle.replies.specs.declared.OpenAnswer.{OpenAnswer}
use Rattle.replies.specs.declared.FinishAnswer.{FinishAnswer}

-- ---- the record: any byte but 0 is finished

abbrev pub record_in : CRecord → Record
record_in c =
    record {
      sides = c.sides;
      allowed = c.allowed;
      openings = c.openings;
      removals = c.removals;
      examinations = c.examinations;
      euler = c.euler;
      finished = not (eqb c.finished 0);
    }

abbrev pub record_out : Record → CRecord
record_out r =
    record {
      sides = r.sides;
      allowed = r.allowed;
      openings = r.openings;
      removals = r.removals;
      examinations = r.examinations;
      euler = r.euler;
      finished = bit r.finished;
    }

-- a record that every call refuses, as its sides are 0
abbrev pub no_record : CRecord
no_record =
    record {
      sides = record { a = 0; b = 0; c = 0 };
      allowed = 0;
      openings = 0;
      removals = 0;
      examinations = 0;
      euler = pos 0;
      finished = 0;
    }

-- ---- the answers

abbrev pub begin_struct : Reply Record → BeginAnswer
begin_struct (refused n) = record { refusal = n; next = no_record }
begin_struct (done next) = record { refusal = 0; next = record_out next }

abbrev pub begin_coarse_struct : Reply CoarseStart → BeginCoarseAnswer
begin_coarse_struct (refused n) = record { refusal = n; examined = 0; next = no_record }
begin_coarse_struct (done a) = record { refusal = 0; examined = a.examined; next = record_out a.next }

abbrev pub carve_struct : CRecord → Reply Carving → CarveAnswer
carve_struct given (refused n) = record { refusal = n; examined = 0; removed = 0; pending = false; face = 0; next = given }
carve_struct given (done a) =
    record { refusal = 0; examined = a.examined; removed = a.removed; pending = a.pending; face = a.face; next = record_out a.next }

abbrev pub take_struct : CRecord → Reply Removal → TakeAnswer
take_struct given (refused n) = record { refusal = n; k = 0; m = 0; face = 0; next = given }
take_struct given (done a) = record { refusal = 0; k = a.k; m = a.m; face = a.face; next = record_out a.next }

abbrev pub open_struct : CRecord → Reply Opening → OpenAnswer
open_struct given (refused n) = record { refusal = n; index = 0; k = 0; m = 0; face = 0; next = given }
open_struct given (done a) = record { refusal = 0; index = a.index; k = a.k; m = a.m; face = a.face; next = record_out a.next }

abbrev pub finish_struct : CRecord → Reply Record → FinishAnswer
finish_struct given (refused n) = record { refusal = n; next = given }
finish_struct given (done next) = record { refusal = 0; next = record_out next }
