-- `rows`: nothing to sweep, or the layer transposed, swept and transposed back.
use Rattle.distances.proofs.Layers.{level-both, layer-slab, rows_both}
use Rattle.distances.proofs.rows.Goals as goal

pub both-requires : goal.both-requires
both-requires c =
    layer-slab c.args.d.now c.args.st c.args.m c.args.at c.requires.0 c.requires.1 c.transpose.new.to c.transpose.ensures

pub returns-then-not-level : goal.returns-then-not-level
returns-then-not-level c =
    rows_both c.args.d.now c.args.st c.args.m c.args.at c.requires.0 c.requires.1 c.transpose.new.to c.transpose.ensures
    c.both.new.d c.transpose-then-not-level.new.to c.both.ensures c.transpose-then-not-level.ensures

pub returns-else-not-level : goal.returns-else-not-level
returns-else-not-level c =
    level-both c.args.d.now c.args.st c.args.m c.args.at c.requires.0 (c.level.ensures c.if-not-level.false)
