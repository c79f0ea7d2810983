-- `layers::read_layer` meets its contract: the stretch of a layer that was read lies in the file.
use mathlib.Core.Path.{sym, subst}
use native.Mathlib.Omega.{arith}
use Rattle.rules.specs.Answer.{done}
use Rattle.layers.proofs.Reading.{Within, found_within}
use Rattle.layers.proofs.read_layer.Goals as goal
use Rattle.layers.proofs.read_layer.Goals.{In_ok-span}

lies : (c : In_ok-span) → Within c.args.file.now (done c.in_ok-span.span)
lies c = let a = c.args in subst (Within a.file.now) (sym c.in_ok-span.ensures) (found_within a.sides a.file.now a.start)

pub slice_bounds-result-count : goal.slice_bounds-result-count
slice_bounds-result-count c = (lies (goal.at.slice_bounds-result-count c).In_ok-span).0

pub slice_bounds-result-start : goal.slice_bounds-result-start
slice_bounds-result-start c = let l = lies (goal.at.slice_bounds-result-start c).In_ok-span in omega arith

pub slice_bounds-result-end : goal.slice_bounds-result-end
slice_bounds-result-end c = let l = lies (goal.at.slice_bounds-result-end c).In_ok-span in omega arith
