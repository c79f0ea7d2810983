-- `carving::carve_all` meets its contract.
use borrow.Author.Rules.{rules}
use Rattle.carving.proofs.Carving.{lending}
use Rattle.carving.proofs.carve_all.Goals as goal

pub carve-requires : goal.carve-requires
carve-requires c =
    lending c.args.s c.args.dist.now c.args.status.now _ _ _ c.requires (search rules) (search rules) (search rules)
