-- The worked calls of serve, by computation from the rules.
use mathlib.Core.Path.{refl}
use Rattle.rules.proofs.Cases.{all-rules}
use Rattle.office.specs.Parts.{total, laid, cut, put}
use Rattle.office.specs.Order.{unfit_order, queue, first_waiting, others, served_last}
use Rattle.office.specs.Serve.{grid_at, waits, to_serve, wrong_lengths, served_at, serve, after_serve}
use Rattle.office.specs.Lists.{after_all, services, office_of}
use Rattle.office.specs.Examples.{three, single, ThreeGrids, Refusals}

-- to unfold this is to unfold all that a worked call computes with
unfoldable order-rules : Unit {0}
unfolding all-rules total laid cut put unfit_order queue first_waiting others served_last
order-rules = tt

unfoldable pub serve-rules : Unit {0}
unfolding order-rules grid_at waits to_serve wrong_lengths served_at serve after_serve after_all services office_of three single
serve-rules = tt

pub three-grids : ThreeGrids
unfolding serve-rules
three-grids =
    record {
      in-turn = refl;
      order = refl;
      first-grid = refl;
      last-grid = refl;
      refused-between = refl;
      longest-ago = refl;
      never-served = refl;
      pinned = refl;
      hurried = refl;
    }

pub refusals : Refusals
unfolding serve-rules
refusals =
    record {
      limit-low = refl;
      limit-high = refl;
      no-grid = refl;
      many-grids = refl;
      side = refl;
      length = refl;
      marks-length = refl;
      unfit = refl;
      order-long = refl;
      order-twice = refl;
      order-past = refl;
      mark = refl;
      finished = refl;
      finished-beside = refl;
      quiet = refl;
    }
