-- `gridfile::refusal` meets its contract.
use mathlib.Core.Path.{refl, ap, sym, ◌∙◌}
use borrow.Author.Tests.{ltb-false}
use Rattle.rules.specs.declared.Sides.{Sides}
use Rattle.rules.specs.Grid.{fit_sides, size}
use Rattle.rules.specs.Checks.{first_failing, AllHold}
use Rattle.rules.proofs.Checks.{all_hold, held_at}
use Rattle.rules.proofs.Refusals.{handed_on, refused-before, passed-before}
use Rattle.format.specs.File.{header_checks, records_checks}
use Rattle.format.proofs.Headers.{header-fits, header-long}
use Rattle.gridfile.proofs.refusal.Goals as goal
use Rattle.gridfile.proofs.refusal.Goals.{In_ok-header_refusal}

-- past the header's checks
held : (c : In_ok-header_refusal) → let a = c.args in AllHold (header_checks a.greatest a.file.now a.lent)
held c = all_hold _ refl (sym c.in_ok-header_refusal.ensures)

pub returns-in_err-header_refusal : goal.returns-in_err-header_refusal
returns-in_err-header_refusal c = handed_on _ _ c.from_residual.ensures.1 ∙ refused-before _ _ _ c.in_err-header_refusal.ensures

pub sides_in-requires : goal.sides_in-requires
sides_in-requires c =
    let a = c.args in
    ltb-false _ _ (held_at (header_checks a.greatest a.file.now a.lent) (held c) 21)

pub records_refusal-requires : goal.records_refusal-requires
records_refusal-requires c =
    let a = c.args in
    let h = held (goal.at.records_refusal-requires c).In_ok-header_refusal in (
      ap fit_sides c.sides_in.ensures ∙ header-fits a.greatest a.file.now a.lent h,
      header-long a.greatest a.file.now a.lent h ∙ ap size (sym c.sides_in.ensures),
    )

pub returns : goal.returns
returns c =
    let a = c.args in
    passed-before (header_checks a.greatest a.file.now a.lent) _ refl c.in_ok-header_refusal.ensures _
    (c.records_refusal.ensures ∙ ap (λ (s : Sides). first_failing (records_checks s a.file.now)) c.sides_in.ensures)
