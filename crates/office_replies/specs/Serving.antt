-- What serve is given by C, and what its struct holds for each reply. After a refusal the numbers are 0, `next` is a record that every call refuses,
-- and the order record is the one given.
use Rattle.std.specs.Prelude.{false, map, ℕ, get_or}
use Rattle.rules.specs.declared.Record.{Record}
use Rattle.rules.specs.Grid.{range}
use Rattle.rules.specs.Answer.{Reply, refused, done, Outcome, Buffers, buffers}
use Rattle.office.specs.declared.Grids.{Grids}
use Rattle.office.specs.declared.Order.{Order}
use Rattle.office.specs.declared.Serving.{Serving}
use Rattle.office.specs.Serve.{Left}
use Rattle.replies.specs.Reply.{Returned, returned}
use Rattle.replies.specs.Structs.{record_in, record_out, no_record}
use Rattle.office.specs.Structs.{Kept, as_struct}
use Rattle.office_replies.specs.declared.CGrids.{CGrids}
use Rattle.office_replies.specs.declared.ServeAnswer.{ServeAnswer}

-- the record at a place, read in as every call reads one
abbrev pub record_at : CGrids → ℕ → Record
record_at c p = record_in (get_or c.records p no_record)

abbrev pub grids_in : CGrids → Grids
grids_in c = record { count = c.count; records = map (record_at c) (range 0 16) }

abbrev pub serve_struct : Reply Serving → Order → ServeAnswer
serve_struct (refused n) order =
    record { refusal = n; place = 0; examined = 0; removed = 0; pending = false; face = 0; next = no_record; order = order }
serve_struct (done a) order =
    let c = a.carving in
    record {
      refusal = 0;
      place = a.place;
      examined = c.examined;
      removed = c.removed;
      pending = c.pending;
      face = c.face;
      next = record_out c.next;
      order = order;
    }

-- the outcome, written out: the struct, and both buffers
abbrev pub kept_out : Outcome Kept Serving → Returned ServeAnswer Buffers
kept_out o = returned (serve_struct o.answer o.lent.order) (buffers o.lent.dist o.lent.status)

abbrev pub served_out : Order → Outcome Left Serving → Returned ServeAnswer Buffers
served_out given o = kept_out (as_struct given o)
