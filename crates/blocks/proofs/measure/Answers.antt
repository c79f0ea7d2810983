-- `measure`: each block has the least distance of its eight voxels.
use mathlib.Core.Path.{◌≡◌, ap, ◌∙◌}
use mathlib.Core.List.{List, map}
use Prim.Native.Nat.{ℕ, ◌*◌, ◌<◌}
use native.Mathlib.Omega.{arith}
use borrow.Author.Rules.{rules}
use lib.IntN.{pos}
use lib.ListN.{length, get_or}
use Rattle.prelude.proofs.Ranges.{is-map-range}
use Rattle.rules.specs.Grid.{size, voxels, distance_at}
use Rattle.coarse.specs.Blocks.{halved, least_of, block_distance, block_distances}
use Rattle.blocks.specs.Work.{corners, corner}
use Rattle.blocks.proofs.Rows.{layer-few, corners-are, corners-room}
use Rattle.blocks.proofs.measure.Goals as goal

pub overflow_mul-l : goal.overflow_mul-l
overflow_mul-l c = omega (arith, layer-few c.args.s c.requires.sides)

pub fill_with-requires-clause-callable : goal.fill_with-requires-clause-callable
fill_with-requires-clause-callable c = λ j l. let r = corners-room c.args.s _ _ c.requires j l in search rules

pub returns : goal.returns
unfolding block_distances block_distance voxels
returns c =
    let a = c.args in
    let each : (j : ℕ) → j < length a.blocks.now
    → get_or c.fill_with.new.blocks j (pos 0) ≡ least_of (map (distance_at a.dist.now) (corners a.s.a (a.s.a * a.s.b) (corner a.s j))) =
    λ j l. let h = c.fill_with.ensures j (pos 0) l in search rules in
    is-map-range (block_distance a.s a.dist.now) (pos 0) (size (halved a.s)) c.fill_with.new.blocks (omega (arith, c.requires.blocks-len))
    (λ j l. each j (omega (arith, c.requires.blocks-len))
    ∙ ap (λ (js : List ℕ). least_of (map (distance_at a.dist.now) js)) (corners-are a.s _ _ c.requires j))
