-- `writing::size_refusal` meets its contract.
use mathlib.Core.Path.{◌≡◌, ap, sym, ◌∙◌}
use mathlib.Core.Bool.{true, not}
use lib.Dec.{eqb}
use lib.ListN.{length}
use borrow.Author.Tests.{eq-eqb, ne_eqb}
use Rattle.rules.specs.Grid.{fit_sides, size}
use Rattle.rules.proofs.Checks.{fails-first, holds-first, hold-none}
use Rattle.format.specs.Written.{size_checks}
use Rattle.writing.proofs.size_refusal.Goals as goal
use Rattle.writing.proofs.size_refusal.Goals.{Else-not-fit_sides, Else-values-voxel_count}

-- the checks, by what the code found at each
fits : (c : Else-not-fit_sides) → fit_sides c.args.sides ≡ true
fits c = sym c.fit_sides.ensures ∙ c.if-not-fit_sides.false

long : (c : Else-values-voxel_count) → let a = c.args in eqb (length a.values.now) (size a.sides) ≡ true
long c = eq-eqb _ _ (c.if-values-voxel_count.false ∙ c.voxel_count.ensures.0)

pub returns-then-not-fit_sides : goal.returns-then-not-fit_sides
returns-then-not-fit_sides c = sym (fails-first 1 _ _ (ap not (sym c.fit_sides.ensures ∙ c.if-not-fit_sides.true)))

pub voxel_count-requires : goal.voxel_count-requires
voxel_count-requires c = fits c

pub returns-then-values-voxel_count : goal.returns-then-values-voxel_count
returns-then-values-voxel_count c =
    let wrong = ne_eqb _ _ (λ e. c.if-values-voxel_count.true (e ∙ sym c.voxel_count.ensures.0)) in
    sym (holds-first 1 _ _ (ap not (fits (goal.at.returns-then-values-voxel_count c).Else-not-fit_sides)) ∙ fails-first 2 _ _ (ap not wrong))

pub returns : goal.returns
returns c =
    let a = c.args in
    sym (hold-none (size_checks a.sides a.values.now) (ap not (fits (goal.at.returns c).Else-not-fit_sides), (ap not (long c), tt)))
