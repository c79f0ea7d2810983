-- `watching::passes_around` meets its contract.
use Rattle.std.proofs.Common.{◌≡◌, ◌+◌, ◌<◌, ◌∙◌, ap, arith}
use Rattle.rules.specs.Grid.{size}
use Rattle.rules.specs.Status.{is_kept}
use Rattle.rules.specs.Machine.{is_inside}
use Rattle.format.proofs.Sizes.{size_small}
use Rattle.neighbourhood.specs.Neighbourhood.{around}
use Rattle.neighbourhood.proofs.Interior.{layer-small, room, around-below}
use Rattle.judging.specs.Judge.{can_pass}
use Rattle.watching.specs.Watching.{passes_around}
use Rattle.watching.proofs.passes_around.Goals as goal
use Rattle.watching.proofs.passes_around.Goals.{After-offset}

pub first_around-requires : goal.first_around-requires
first_around-requires c = c.requires.1

pub overflow_mul-s : goal.overflow_mul-s
overflow_mul-s c = record { fits = let b = layer-small _ _ c.requires.1 in omega arith }

pub offset-requires : goal.offset-requires
offset-requires c =
    let r = room c.args.s c.args.i c.requires.1 in
    record { row = r.row; layer = r.layer; below = c.requires.2 }

-- the voxel at position p
at_position : (c : After-offset) → c.first_around.result + c.offset.result ≡ around c.args.s c.args.i c.args.p
unfolding around
at_position c = omega (arith, c.first_around.ensures, c.offset.ensures)

in-grid : (c : After-offset) → c.first_around.result + c.offset.result < size c.args.s
in-grid c = omega (arith, at_position c, around-below c.args.s c.args.i c.requires.1 c.args.p c.requires.2)

pub overflow_add-j : goal.overflow_add-j
overflow_add-j c = record { fits = omega (arith, in-grid c, size_small c.args.s c.requires.0.body.sides) }

pub can_pass-requires : goal.can_pass-requires
can_pass-requires c = (c.requires.0, in-grid (goal.at.can_pass-requires c).After-offset)

pub returns : goal.returns
unfolding passes_around
returns c = c.can_pass.ensures ∙ ap (can_pass c.args.s (is_inside c.args.dist.now) (is_kept c.args.status.now)) (at_position (goal.at.returns c).After-offset)
