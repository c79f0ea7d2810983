-- `gridfile::header_refusal` meets its contract.
use mathlib.Core.Path.{◌≡◌, ap, sym, ◌∙◌}
use mathlib.Core.Bool.{true, false}
use lib.Dec.{ltb, eqb}
use lib.ListN.{length}
use borrow.Author.Tests.{lt-ltb, le-ltb, eq-eqb, ne_eqb}
use Rattle.rules.specs.Grid.{fit_sides, size}
use Rattle.rules.specs.Checks.{first_failing}
use Rattle.format.specs.Bytes.{tagged}
use Rattle.format.specs.File.{sides_in, fit_up_to}
use Rattle.format.proofs.Headers.{fit_up_to-fits}
use Rattle.gridfile.proofs.header_refusal.Goals as goal
use Rattle.gridfile.proofs.header_refusal.Goals.{After-fit_up_to, After-voxel_count, Else-file-lt7, Else-not-fit_up_to, Else-not-is_tagged}

-- the checks, by what the code found at each
enough : (c : Else-file-lt7) → ltb (length c.args.file.now) 7 ≡ false
enough c = le-ltb _ 7 c.if-file-lt7.false

right : (c : Else-not-is_tagged) → tagged 0x48 c.args.file.now 0 ≡ true
right c = sym c.is_tagged.ensures ∙ c.if-not-is_tagged.false

fit : (c : After-fit_up_to) → let a = c.args in
    fit_up_to a.greatest (sides_in a.file.now) ≡ c.fit_up_to.result
fit c = sym (c.fit_up_to.ensures ∙ ap (fit_up_to _) c.sides_in-sides.ensures)

fits : (c : Else-not-fit_up_to) → let a = c.args in
    fit_up_to a.greatest (sides_in a.file.now) ≡ true
fits c = fit (goal.at.voxel_count-requires c).After-fit_up_to ∙ c.if-not-fit_up_to.false

count : (c : After-voxel_count) → let a = c.args in
    c.voxel_count.result ≡ size (sides_in a.file.now)
count c = c.voxel_count.ensures.0 ∙ ap size c.sides_in-sides.ensures

pub returns-then-file-lt7 : goal.returns-then-file-lt7
unfolding first_failing
returns-then-file-lt7 c = simp (lt-ltb _ 7 c.if-file-lt7.true)

pub returns-then-not-is_tagged : goal.returns-then-not-is_tagged
unfolding first_failing
returns-then-not-is_tagged c =
    let wrong : tagged 0x48 c.args.file.now 0 ≡ false = sym c.is_tagged.ensures ∙ c.if-not-is_tagged.true in
    simp (enough (goal.at.returns-then-not-is_tagged c).Else-file-lt7, wrong)

pub returns-then-not-fit_up_to : goal.returns-then-not-fit_up_to
unfolding first_failing
returns-then-not-fit_up_to c =
    simp (enough (goal.at.returns-then-not-fit_up_to c).Else-file-lt7, right (goal.at.returns-then-not-fit_up_to c).Else-not-is_tagged, fit (goal.at.returns-then-not-fit_up_to c).After-fit_up_to, c.if-not-fit_up_to.true)

pub voxel_count-requires : goal.voxel_count-requires
voxel_count-requires c = ap fit_sides c.sides_in-sides.ensures ∙ fit_up_to-fits _ _ (fits c)

pub returns-then-lent-voxel_count : goal.returns-then-lent-voxel_count
unfolding first_failing
returns-then-lent-voxel_count c =
    let a = c.args in
    let wrong : eqb a.lent (size (sides_in a.file.now)) ≡ false = ne_eqb _ _ (λ e. c.if-lent-voxel_count.true (e ∙ sym (count (goal.at.returns-then-lent-voxel_count c).After-voxel_count))) in
    simp (enough (goal.at.returns-then-lent-voxel_count c).Else-file-lt7, right (goal.at.returns-then-lent-voxel_count c).Else-not-is_tagged, fits (goal.at.returns-then-lent-voxel_count c).Else-not-fit_up_to, wrong)

pub returns : goal.returns
unfolding first_failing
returns c =
    let a = c.args in
    let right-size : eqb a.lent (size (sides_in a.file.now)) ≡ true = eq-eqb _ _ (c.if-lent-voxel_count.false ∙ count (goal.at.returns c).After-voxel_count) in
    simp (enough (goal.at.returns c).Else-file-lt7, right (goal.at.returns c).Else-not-is_tagged, fits (goal.at.returns c).Else-not-fit_up_to, right-size)
