-- `work_out` leaves what the rule says.
use borrow.Author.Rules.{rules}
use Rattle.beginning.proofs.Settling.{enclosed, settled}
use Rattle.beginning.proofs.work_out.Goals as goal

pub enclose-b-requires : goal.enclose-b-requires
enclose-b-requires c =
    enclosed c.args.sides c.args.values.now c.requires.grid _ c.work_distances.ensures.steps

pub settle-requires : goal.settle-requires
settle-requires c = let g = c.requires.grid in search rules

pub returns : goal.returns
returns c =
    record {
      distances = c.work_distances.ensures.distances;
      statuses =
          settled c.args.sides c.args.values.now c.requires.grid _ c.work_distances.ensures.steps c.enclose-b.result c.enclose-b.ensures
          _ c.settle.ensures;
    }
