-- `exchange` meets its contract.
use Rattle.masks.proofs.Crossing.{exchanged}
use Rattle.masks.proofs.exchange.Goals as goal

pub returns : goal.returns
returns c = λ i h. exchanged c.args.x c.args.mask c.args.s c.ranges.x.fits c.requires.fits c.ranges.mask.fits i h (c.requires.apart i h)
