-- `split_row`: a row whose blocks lie at an end of the grid, or any other.
use mathlib.Core.Bool.{Bool, ◌||◌}
use Rattle.coarse.specs.Coarse.{near_end}
use mathlib.Core.Path.{◌≡◌, refl, sym, ap, ◌∙◌}
use lib.IntN.{ℤ}
use lib.ListN.{length-take, length-drop}
use Prim.Native.Nat.{ℕ, ◌/◌, ◌%◌}
use native.Mathlib.Omega.{arith}
use borrow.Author.Rules.{rules}
use Rattle.splitting.specs.Split.{block_row, across}
use Rattle.splitting.proofs.Splitting.{Inward, inward, row-edge, row-inner, paired}
use Rattle.splitting.proofs.split_row.Goals as goal
use Rattle.splitting.proofs.split_row.Goals.{After-block_row-above, Else-near_end-2, then-near_end, else-near_end}

pub overflow_mul-first : goal.overflow_mul-first
overflow_mul-first c = let R = c.requires.1 in search rules

pub nonzero_rem-y : goal.nonzero_rem-y
nonzero_rem-y c = let R = c.requires.1 in search rules

pub nonzero_div-z : goal.nonzero_div-z
nonzero_div-z c = let R = c.requires.1 in search rules

pub overflow_add-end : goal.overflow_add-end
overflow_add-end c = let R = c.requires.1 in search rules

pub returns-then-near_end-2 : goal.returns-then-near_end-2
returns-then-near_end-2 c =
    let a = c.args in
    let ends : c.if-near_end.value ≡ near_end a.s.b (a.row % a.s.b) || near_end a.s.c (a.row / a.s.b) = elim c.if-near_end.branch [
      | then-near_end w ↦
          w.value-is ∙ w.if-near_end.true ∙ ap (λ (t : Bool). t || near_end a.s.c (a.row / a.s.b)) (sym (sym c.near_end.ensures ∙ w.if-near_end.true))
      | else-near_end w ↦
          w.value-is ∙ w.near_end-else-near_end.ensures
          ∙ ap (λ (t : Bool). t || near_end a.s.c (a.row / a.s.b)) (sym (sym c.near_end.ensures ∙ w.if-near_end.false))
    ] in
    row-edge a.s a.dist.now a.blocks.now _ c.requires.0 a.row c.requires.1 (sym ends ∙ c.if-near_end-2.true) a.status.now c.fill.new.self refl c.fill.ensures.len
    (λ k h. c.fill.ensures.clones k 0 (omega (arith, c.fill.ensures.len)) refl)

-- a row off the ends of the grid
off-ends : (c : Else-near_end-2) → let a = c.args in Inward a.s (a.row % a.s.b) (a.row / a.s.b)
off-ends c =
    let a = c.args in
    let ends : c.if-near_end.value ≡ near_end a.s.b (a.row % a.s.b) || near_end a.s.c (a.row / a.s.b) = elim c.if-near_end.branch [
      | then-near_end w ↦
          w.value-is ∙ w.if-near_end.true ∙ ap (λ (t : Bool). t || near_end a.s.c (a.row / a.s.b)) (sym (sym c.near_end.ensures ∙ w.if-near_end.true))
      | else-near_end w ↦
          w.value-is ∙ w.near_end-else-near_end.ensures
          ∙ ap (λ (t : Bool). t || near_end a.s.c (a.row / a.s.b)) (sym (sym c.near_end.ensures ∙ w.if-near_end.false))
    ] in
    inward a.s (a.row % a.s.b) (a.row / a.s.b) (sym ends ∙ c.if-near_end-2.false)

pub block_row-own-requires : goal.block_row-own-requires
block_row-own-requires c = let R = c.requires.1 in search rules

pub across-requires : goal.across-requires
across-requires c = let R = c.requires.1 in let i = off-ends (goal.at.across-requires c).Else-near_end-2 in search rules

pub block_row-beside-requires : goal.block_row-beside-requires
block_row-beside-requires c =
    let R = c.requires.1 in
    record { a-few = R.a-high; b-few = R.b-high; y-few = omega (arith, R.y-in, R.b-high, c.across.ensures); z-few = omega (arith, R.z-in, R.c-high) }

pub across-requires-else-near_end-2 : goal.across-requires-else-near_end-2
across-requires-else-near_end-2 c = let R = c.requires.1 in let i = off-ends (goal.at.across-requires-else-near_end-2 c).Else-near_end-2 in search rules

pub block_row-above-requires : goal.block_row-above-requires
block_row-above-requires c =
    let R = c.requires.1 in
    record { a-few = R.a-high; b-few = R.b-high; y-few = omega (arith, R.y-in, R.b-high); z-few = omega (arith, R.z-in, R.c-high, c.across-else-near_end-2.ensures) }

-- the three rows of blocks
module _ (c : After-block_row-above) where
  abbrev y : ℕ
  y = c.args.row % c.args.s.b

  abbrev z : ℕ
  z = c.args.row / c.args.s.b

  beside-is : c.block_row-beside.result ≡ block_row c.args.s (across y) (z / 2)
  beside-is = c.block_row-beside.ensures ∙ ap (λ (n : ℕ). block_row c.args.s n (z / 2)) c.across.ensures

  above-is : c.block_row-above.result ≡ block_row c.args.s (y / 2) (across z)
  above-is = c.block_row-above.ensures ∙ ap (block_row c.args.s (y / 2)) c.across-else-near_end-2.ensures

pub pairs-requires : goal.pairs-requires
pairs-requires c =
    let a = c.args in
    let R = c.requires.1 in
    let q = (goal.at.pairs-requires c).After-block_row-above in
    paired a.s a.dist.now a.blocks.now _ c.requires.0 a.row c.requires.1 c.block_row-own.result c.block_row-beside.result
    c.block_row-above.result c.block_row-own.ensures (beside-is q) (above-is q) (off-ends (goal.at.pairs-requires c).Else-near_end-2)
    _ _ (omega (arith, R.last, length-take {A = ℕ}, length-drop {A = ℕ}))
    (omega (arith, R.last, c.requires.0.distances, c.requires.0.statuses, length-take {A = ℤ}, length-drop {A = ℤ}))

pub returns-else-near_end-2 : goal.returns-else-near_end-2
returns-else-near_end-2 c =
    let a = c.args in
    let q = (goal.at.returns-else-near_end-2 c).After-block_row-above in
    row-inner a.s a.dist.now a.blocks.now _ c.requires.0 a.row c.requires.1 c.block_row-own.result c.block_row-beside.result
    c.block_row-above.result c.block_row-own.ensures (beside-is q) (above-is q) a.status.now c.pairs.new.row refl c.pairs.ensures
