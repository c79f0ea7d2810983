-- `both`: up, then down.
use Rattle.sweeps.proofs.Spreading.{both_ways, slab-again}
use Rattle.sweeps.proofs.both.Goals as goal

pub down-requires : goal.down-requires
down-requires c =
    slab-again c.args.d.now c.up.new.d c.args.st c.args.m c.args.at c.requires c.up.ensures.len c.up.ensures.lower

pub returns : goal.returns
returns c =
    let a = c.args in
    both_ways a.st a.m a.at a.d.now c.up.new.d c.down.new.d c.up.ensures c.down.ensures
