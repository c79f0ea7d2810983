-- `line::voxels_in` meets its contract.
use mathlib.Core.Path.{◌≡◌, ap, sym, ◌∙◌}
use native.Mathlib.Omega.{arith}
use borrow.Author.Rules.{rules}
use Rattle.rules.specs.Grid.{fit_sides, size}
use Rattle.format.specs.File.{sides_in, fit_up_to}
use Rattle.format.proofs.Headers.{fit_up_to-fits}
use Rattle.program.specs.Program.{greatest_side}
use Rattle.line.proofs.Reading.{lent_for-short, lent_for-unfit, lent_for-fit, size_fits}
use Rattle.line.proofs.voxels_in.Goals as goal
use Rattle.line.proofs.voxels_in.Goals.{After-fit_up_to}

-- the test of the sides
fit : (c : After-fit_up_to) → let a = c.args in fit_up_to greatest_side (sides_in a.file.now) ≡ c.fit_up_to.result
fit c = sym (c.fit_up_to.ensures ∙ ap (fit_up_to greatest_side) c.sides_in-sides.ensures)

pub returns-then-file-lt7 : goal.returns-then-file-lt7
returns-then-file-lt7 c = (lent_for-short _ c.if-file-lt7.true, search rules)

pub voxel_count-requires : goal.voxel_count-requires
voxel_count-requires c =
    ap fit_sides c.sides_in-sides.ensures ∙ fit_up_to-fits greatest_side _ (fit (goal.at.voxel_count-requires c).After-fit_up_to ∙ c.if-fit_up_to.true)

pub returns-then-fit_up_to : goal.returns-then-fit_up_to
returns-then-fit_up_to c =
    let fits = fit (goal.at.returns-then-fit_up_to c).After-fit_up_to ∙ c.if-fit_up_to.true in
    let n = c.voxel_count.ensures.0 ∙ ap size c.sides_in-sides.ensures in
    (n ∙ lent_for-fit _ c.if-file-lt7.false fits, omega (arith, n, size_fits _ fits))

pub returns : goal.returns
returns c =
    (lent_for-unfit _ c.if-file-lt7.false (fit (goal.at.returns c).After-fit_up_to ∙ c.if-fit_up_to.false), search rules)
