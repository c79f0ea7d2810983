-- `start` leaves what the rule says.
use mathlib.Core.Path.{refl}
use Rattle.block_start.proofs.Starting.{labelled, started}
use Rattle.block_start.proofs.start.Goals as goal

pub enclose-b-requires : goal.enclose-b-requires
enclose-b-requires c =
    labelled c.args.h c.args.blocks.now _ c.requires c.args.status.now c.label.new.status refl c.label.ensures

pub returns : goal.returns
returns c =
    started c.args.h c.args.blocks.now _ c.requires c.args.status.now c.label.new.status refl c.label.ensures
    c.enclose-b.result c.enclose-b.ensures _ c.settle.ensures
