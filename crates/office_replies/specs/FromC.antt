-- Calls of serve from C: what a maker keeps between two of them, and that a list of them leaves what the list leaves by the rule. So what holds over
-- every list of calls holds of lists of calls from C. proofs/FromC.antt proves it.
use Rattle.std.specs.Prelude.{◌≡◌, cond, List, [], ◌∷◌, ℕ, eqb, ℤ, length, set}
use Rattle.office.specs.declared.Order.{Order}
use Rattle.office.specs.Serve.{Office, serve}
use Rattle.office.specs.Lists.{Request, after_all}
use Rattle.office.specs.Structs.{office_given}
use Rattle.office_replies.specs.declared.CGrids.{CGrids}
use Rattle.office_replies.specs.declared.ServeAnswer.{ServeAnswer}
use Rattle.office_replies.specs.Serving.{grids_in, served_out}

-- what C holds between two calls
pub record HeldOffice : Type 0 where
  pub grids : CGrids
  pub order : Order
  pub dist : List ℤ
  pub status : List ℕ

-- the office that a call makes of it
abbrev pub office_in : HeldOffice → Office
office_in h = office_given (grids_in h.grids) h.order h.dist h.status

-- after a call that is not refused its `next` is put at its `place`
abbrev pub put_back : CGrids → ServeAnswer → CGrids
put_back g a = cond (eqb a.refusal 0) (record { count = g.count; records = set g.records a.place a.next }) g

-- and after any call the order record is the struct's
unfoldable pub serve_from_c : Request → HeldOffice → HeldOffice
serve_from_c c h =
    let r = served_out h.order (serve c.marks c.limit (office_in h)) in
    record { grids = put_back h.grids r.answer; order = r.answer.order; dist = r.lent.dist; status = r.lent.status }

unfoldable pub all_from_c : List Request → HeldOffice → HeldOffice
all_from_c [] h = h
all_from_c (c ∷ cs) h = all_from_c cs (serve_from_c c h)

-- a list of calls from C leaves the office that the list leaves by the rule; the struct has 16 records, as C's array has
abbrev pub ServeListsAgree : Type 0
ServeListsAgree = (calls : List Request) (h : HeldOffice) → length h.grids.records ≡ 16 → office_in (all_from_c calls h) ≡ after_all calls (office_in h)
