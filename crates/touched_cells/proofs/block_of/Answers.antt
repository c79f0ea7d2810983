-- `touched_cells::block_of` meets its contract: each layer from its nine bits.
use mathlib.Core.Path.{sym, subst}
use mathlib.Core.List.{List, [], ◌∷◌}
use Prim.Native.Nat.{ℕ}
use Rattle.touched_cells.specs.Block.{Unpacked}
use Rattle.touched_cells.proofs.Blocks.{unpacked}
use Rattle.touched_cells.proofs.block_of.Goals as goal

pub returns : goal.returns
returns c =
    let kept = c.args.kept in
    subst (λ (block : List (List ℕ)). Unpacked kept block)
    (λ i. sym c.layer_of.ensures i ∷ sym c.layer_of-2.ensures i ∷ sym c.layer_of-3.ensures i ∷ []) (unpacked kept c.spaced_bits-code.ensures)
