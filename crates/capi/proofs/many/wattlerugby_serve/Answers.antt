-- `capi::many::wattlerugby_serve` meets its contract: the struct is the outcome written out.
use mathlib.Core.Path.{◌≡◌, ap, ◌∙◌}
use mathlib.Core.List.{List}
use Prim.Native.Nat.{ℕ}
use lib.IntN.{ℤ}
use borrow.Author.Rules.{rules}
use Rattle.rules.specs.Answer.{Outcome}
use Rattle.office.specs.declared.Grids.{Grids}
use Rattle.office.specs.declared.Order.{Order}
use Rattle.office.specs.declared.Serving.{Serving}
use Rattle.office.specs.Serve.{serve}
use Rattle.office.specs.Structs.{Kept, as_struct, office_given}
use Rattle.office_replies.specs.Serving.{kept_out, served_out}
use Rattle.capi.proofs.many.wattlerugby_serve.Goals as goal

-- serve's outcome on the grids as they were read in
written_out : (m : List ℕ) (limit : ℕ) (o : Order) (dist : List ℤ) (status : List ℕ) (r : Outcome Kept Serving) (g h : Grids)
    → r ≡ as_struct o (serve m limit (office_given g o dist status)) → g ≡ h
    → kept_out r ≡ served_out o (serve m limit (office_given h o dist status))
written_out m limit o dist status r g h e q = ap kept_out e ∙ ap (λ (x : Grids). served_out o (serve m limit (office_given x o dist status))) q

pub returns : goal.returns
returns c =
    let a = c.args in
    rw c.serve_answer.ensures
    (written_out a.marks.now a.limit a.order a.dist.now a.status.now _ _ _ c.serve.ensures c.grids_in-g.ensures)
