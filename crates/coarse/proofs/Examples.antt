-- The small grids, by computation from the rules.
use mathlib.Core.Path.{refl}
use Rattle.rules.proofs.Cases.{all-rules}
use Rattle.rules.proofs.Pinned.{gone-stays-gone}
use Rattle.rules.proofs.Border.{pinned-stays}
use Rattle.coarse.specs.Blocks.{halved, block_of, eight, least_from, block_distance, block_distances, block_marks, split_body}
use Rattle.coarse.specs.Coarse.{negative_blocks, block_box, first_status, coarse_run, near_border, unfit_coarse, wrong_lengths, coarse_on, begin_coarse}
use Rattle.coarse.specs.Examples.{grid, lent, coarse_of, two_blocks, plain, coarse, pin}
use Rattle.coarse.specs.Examples.{RunOfBlocks, TwoBlocks, SplitBlocks, CoarseNumbers, PinOutsideTheBox}

-- to unfold `coarse-rules` is to unfold the rules
unfoldable pub coarse-rules : Unit {0}
unfolding all-rules halved block_of eight least_from block_distance block_distances block_marks split_body negative_blocks block_box first_status coarse_run
    near_border unfit_coarse wrong_lengths coarse_on begin_coarse grid lent coarse_of
coarse-rules = tt

pub run-of-blocks : RunOfBlocks
unfolding coarse-rules
run-of-blocks = record { examined = refl; kept = refl; pinned-unexamined = refl; pinned-kept = refl; pinned-beyond = refl; least = refl }

pub two_blocks_lem : TwoBlocks
unfolding coarse-rules two_blocks
two_blocks_lem = record { answer = refl; statuses = refl }

pub split-blocks : SplitBlocks
unfolding coarse-rules
split-blocks = record { unmarked = refl; hurried = refl; pinned = refl }

pub coarse-numbers : CoarseNumbers
unfolding coarse-rules
coarse-numbers =
    record {
      six = refl;
      odd = refl;
      low = refl;
      apart = refl;
      along-x = refl;
      along-y = refl;
      along-z = refl;
      length-first = refl;
      border-first = refl;
      none_first = refl;
      untouched = refl;
    }

pub pin-outside-the-box : PinOutsideTheBox
unfolding coarse-rules plain coarse
pin-outside-the-box =
    record {
      plain-ends = refl;
      coarse-ends = refl;
      plain-gone = gone-stays-gone plain 129 refl;
      coarse-kept = λ calls pins. pinned-stays pin coarse calls pins 129 refl refl;
    }
