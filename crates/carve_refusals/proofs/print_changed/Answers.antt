-- `carve_refusals::print_changed` meets its contract: the part that is lent is as long as it is asked for.
use mathlib.Core.Path.{sym}
use lib.ListN.{length-set}
use lib.Seq.{length-take-le}
use Rattle.carve_refusals.proofs.print_changed.Goals as goal

pub slice_bounds-print_line-end : goal.slice_bounds-print_line-end
slice_bounds-print_line-end g c = sym (length-take-le _ _ (simp length-set c.requires.1))
