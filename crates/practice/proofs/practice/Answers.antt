-- `practice` meets its contract.
use Rattle.std.proofs.Common.{◌≡◌, true, length, sym, ap, ◌∙◌}
use Rattle.prelude.proofs.Ranges.{length-map-range}
use Rattle.rules.specs.Grid.{fit_sides, size}
use Rattle.practice.proofs.Calling.{sides-refused, length-refused, filled}
use Rattle.practice.proofs.practice.Goals as goal
use Rattle.practice.proofs.practice.Goals.{Else-not-fit_sides, Else-values-voxel_count}

fits : (c : Else-not-fit_sides) → fit_sides c.args.sides ≡ true
fits c = sym c.fit_sides.ensures ∙ c.if-not-fit_sides.false

long : (c : Else-values-voxel_count) → let a = c.args in length a.values.now ≡ size a.sides
long c = c.if-values-voxel_count.false ∙ c.voxel_count.ensures.0

pub returns-then-not-fit_sides : goal.returns-then-not-fit_sides
returns-then-not-fit_sides c = sides-refused _ _ _ (sym c.fit_sides.ensures ∙ c.if-not-fit_sides.true)

pub returns-then-values-voxel_count : goal.returns-then-values-voxel_count
returns-then-values-voxel_count c = length-refused _ _ _ (fits (goal.at.returns-then-values-voxel_count c).Else-not-fit_sides) (λ e. c.if-values-voxel_count.true (e ∙ sym c.voxel_count.ensures.0))

pub frame-requires : goal.frame-requires
frame-requires c =
    record { sides = fits (goal.at.frame-requires c).Else-not-fit_sides; len = ap length c.draw.ensures ∙ length-map-range _ _ ∙ long (goal.at.frame-requires c).Else-values-voxel_count }

pub returns : goal.returns
returns c =
    filled _ _ _ (fits (goal.at.returns c).Else-not-fit_sides) (long (goal.at.returns c).Else-values-voxel_count) _ _ c.draw.ensures c.frame.ensures

pub voxel_count-requires : goal.voxel_count-requires
voxel_count-requires c = fits c
