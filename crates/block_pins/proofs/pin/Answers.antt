-- `pin`: a block has the byte of its eight voxels.
use mathlib.Core.Path.{◌≡◌, ap, ◌∙◌}
use mathlib.Core.Bool.{cond}
use mathlib.Core.List.{List}
use Prim.Native.Nat.{ℕ, ◌*◌, ◌<◌}
use native.Mathlib.Omega.{arith}
use borrow.Author.Rules.{rules}
use lib.ListN.{length, get_or}
use Rattle.prelude.proofs.Ranges.{is-map-range}
use Rattle.cells.specs.Groups.{any}
use Rattle.rules.specs.Grid.{size, voxels}
use Rattle.rules.specs.Marks.{marked}
use Rattle.coarse.specs.Blocks.{halved, block_marks}
use Rattle.blocks.specs.Work.{corners, corner}
use Rattle.blocks.proofs.Rows.{layer-few, corners-are, corners-room}
use Rattle.block_pins.specs.Pins.{pin_at}
use Rattle.block_pins.proofs.Pins.{pins-are}
use Rattle.block_pins.proofs.pin.Goals as goal

pub overflow_mul-l : goal.overflow_mul-l
overflow_mul-l c = omega (arith, layer-few c.args.s c.requires.sides)

pub fill_with-requires-clause-callable : goal.fill_with-requires-clause-callable
fill_with-requires-clause-callable c = λ j l. let r = corners-room c.args.s _ _ c.requires j l in search rules

pub returns : goal.returns
unfolding voxels block_marks
returns c =
    let a = c.args in
    let each : (j : ℕ) → j < length a.pins.now
    → get_or c.fill_with.new.blocks j 0 ≡ cond (any (marked a.marks.now).pinned (corners a.s.a (a.s.a * a.s.b) (corner a.s j))) 1 0 =
    λ j l. let h = c.fill_with.ensures j 0 l in search rules in
    pins-are a.s a.marks.now _ c.requires c.fill_with.new.blocks
    (is-map-range (λ j. pin_at a.s (marked a.marks.now) j 0) 0 (size (halved a.s)) c.fill_with.new.blocks (omega (arith, c.requires.blocks-len))
    (λ j l. each j (omega (arith, c.requires.blocks-len))
    ∙ ap (λ (js : List ℕ). cond {A = ℕ} (any (marked a.marks.now).pinned js) 1 0) (corners-are a.s _ _ c.requires j)))
