-- `stretch` meets its contract: its bits give its greatest key.
use mathlib.Core.Path.{refl}
use native.Mathlib.Omega.{arith}
use Rattle.keys.proofs.Scanning.{shown-readable, shown-greatest}
use Rattle.rules.specs.Marks.{marked}
use Rattle.keys.proofs.stretch.Goals as goal

pub scan-requires : goal.scan-requires
scan-requires c =
    shown-readable (marked c.args.marks.now).hurried _ c.args.status.now _ _ c.requires.0 c.pending_bits.ensures (omega (arith, c.requires.1))

pub returns : goal.returns
returns c =
    let a = c.args in
    shown-greatest (marked a.marks.now).hurried _ a.status.now _ _ c.requires.0 c.pending_bits.ensures a.k _ refl c.scan.ensures
