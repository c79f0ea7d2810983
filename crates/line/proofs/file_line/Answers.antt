-- `line::file_line` meets its contract.
use mathlib.Core.Path.{ap, ◌∙◌}
use Prim.Native.Nat.{ℕ}
use lib.ListN.{replicate}
use lib.IntN.{pos}
use Rattle.prelude.proofs.Replicate.{take-replicate}
use Rattle.line.proofs.Reading.{lent_length}
use Rattle.program.specs.Program.{zeros}
use borrow.Author.Rules.{rules}
use Rattle.line.proofs.file_line.Goals as goal

pub slice_bounds-line_in-end : goal.slice_bounds-line_in-end
slice_bounds-line_in-end c = lent_length _ 13824 (pos 0) c.voxels_in-n.ensures.1

pub slice_bounds-line_in-end-2 : goal.slice_bounds-line_in-end-2
slice_bounds-line_in-end-2 c = lent_length _ 13824 0 c.voxels_in-n.ensures.1

pub slice_bounds-line_in-end-3 : goal.slice_bounds-line_in-end-3
slice_bounds-line_in-end-3 c = lent_length _ 13824 (pos 0) c.voxels_in-n.ensures.1

pub slice_bounds-line_in-end-4 : goal.slice_bounds-line_in-end-4
slice_bounds-line_in-end-4 c = lent_length _ 13824 0 c.voxels_in-n.ensures.1

pub line_in-requires : goal.line_in-requires
line_in-requires c =
    let v = c.voxels_in-n.ensures in
    record {
      values = take-replicate _ 13824 (pos 0) v.1 ∙ ap zeros v.0;
      marks = take-replicate _ 13824 0 v.1 ∙ ap (λ (n : ℕ). replicate n 0) v.0;
      distances = take-replicate _ 13824 (pos 0) v.1 ∙ ap zeros v.0;
      statuses = take-replicate _ 13824 0 v.1 ∙ ap (λ (n : ℕ). replicate n 0) v.0;
    }
