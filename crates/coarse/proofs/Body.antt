-- A grid that begin and number 31 let through, its gaps filled: what the coarse run works on, and the body that its kept blocks are.
use mathlib.Core.Path.{◌≡◌, ap, sym, ◌∙◌, subst, fun_ext}
use mathlib.Core.Bool.{Bool, true, ◌&&◌}
use mathlib.Core.List.{List}
use Prim.Native.Nat.{ℕ, ◌<◌}
use native.Mathlib.Omega.{arith}
use lib.Dec.{ltb}
use lib.IntN.{ℤ, pos}
use lib.ListN.{length}
use borrow.Author.Tests.{lt-ltb}
use Rattle.prelude.proofs.Bools.{true-and}
use Rattle.prelude.proofs.Ranges.{get_d-map-range, length-map-range}
use Rattle.rules.specs.declared.Sides.{Sides}
use Rattle.rules.specs.Grid.{fit_sides, Voxel, size, index, voxel, voxels, is_in, is_negative}
use Rattle.rules.specs.Begin.{inside, worked}
use Rattle.rules.specs.Fit.{Beginnable}
use Rattle.rules.specs.Marks.{Marked}
use Rattle.rules.specs.Status.{Progress, is_kept}
use Rattle.rules.specs.Machine.{is_inside}
use Rattle.rules.proofs.Places.{Fit, fit, fit_sides_lem}
use Rattle.rules.proofs.Inside.{inside-some, inside-members, negative-lt}
use Rattle.rules.proofs.Topology.Around.{Inner}
use Rattle.rules.proofs.Topology.Moves.{Shape}
use Rattle.rules.proofs.Topology.Start.{in_grid, worked-signs}
use Rattle.rules.proofs.Demand.{Startable}
use Rattle.coarse.specs.Blocks.{halved, half_of, block_of, block_distance, block_distances, block_marks, split_body}
use Rattle.coarse.specs.Coarse.{coarse_run}
use Rattle.coarse.proofs.SplitCells.{doubled}
use Rattle.coarse.proofs.Split.{block_index, split_of, split-shape}
use Rattle.coarse.proofs.Eight.{block-voxel, block-lt, in-eight, of-eight, negative-part, part-negative}
use Rattle.coarse.proofs.Run.{run-shape, run-negative}
use Rattle.coarse.proofs.Fitness.{CoarseFit}

module _ (s : Sides) (values : List ℤ) (accepted : Beginnable s values) (off : CoarseFit s values) where
  abbrev h : Sides
  h = halved s

  abbrev S : List ℕ
  S = inside s values

  abbrev dist : List ℤ
  dist = worked s values S

  abbrev blocks : List ℤ
  blocks = block_distances s dist

  pub half-fit : Fit h
  unfolding halved
  half-fit =
      let f = fit s accepted.sides in
      record {
        a-low = omega (arith, off.a-low);
        a-high = omega (arith, f.a-high);
        b-low = omega (arith, off.b-low);
        b-high = omega (arith, f.b-high);
        c-low = omega (arith, off.c-low);
        c-high = omega (arith, f.c-high);
      }

  pub half-sides : fit_sides h ≡ true
  half-sides = fit_sides_lem h half-fit

  pub length-blocks : length blocks ≡ size h
  unfolding block_distances voxels
  length-blocks = length-map-range (block_distance s dist) (size h)

  block-sign : (j : ℕ) → j < size h → is_inside blocks j ≡ is_negative (block_distance s dist j)
  unfolding is_inside block_distances voxels
  block-sign j l = ap (λ (w : ℤ). is_negative w) (get_d-map-range (block_distance s dist) (pos 0) (size h) j l)

  -- number 31 keeps the negative blocks off the border of their grid
  pub blocks-off : (j : ℕ) → j < size h → is_inside blocks j ≡ true → Inner h (voxel h j)
  unfolding is_inside halved
  blocks-off j l e =
      let r = negative-part s dist j (sym (block-sign j l) ∙ e) in
      let i = r.0 in
      let p = of-eight s off.even i j l r.1 in
      let n = inside-members s values i (sym (worked-signs s values i p.0) ∙ r.2) in
      let x = off.x-off i n in
      let y = off.y-off i n in
      let z = off.z-off i n in
      subst (λ (w : Voxel). Inner h w) (sym (ap (voxel h) (sym p.1) ∙ block-voxel s off.even i p.0)) (record {
        x-low = omega (arith, x.0);
        x-high = omega (arith, x.1, off.even.a-even);
        y-low = omega (arith, y.0);
        y-high = omega (arith, y.1, off.even.b-even);
        z-low = omega (arith, z.0);
        z-high = omega (arith, z.1, off.even.c-even);
      })

  -- ---- the blocks that have a voxel of S

  inside-below : (i : ℕ) → is_in S i ≡ true → i < size s
  inside-below i m = negative-lt s values i (inside-members s values i m)

  block_inside : (i : ℕ) → is_in S i ≡ true → (block_of s i < size h) × (is_inside blocks (block_of s i) ≡ true)
  unfolding is_inside
  block_inside i m =
      let l = inside-below i m in
      let b = block-lt s off.even i l in
      (b, block-sign (block_of s i) b ∙ part-negative s dist (block_of s i) i (in-eight s off.even i l) (worked-signs s values i l ∙ m))

  pub some_block : (j : ℕ) × (j < size h) × (is_inside blocks j ≡ true)
  some_block = let r = inside-some s values accepted.some accepted.some-negative in let b = block_inside r.0 r.1 in (block_of s r.0, b.0, b.1)

  -- ---- the run, and its kept blocks split again

  module _ (m : Marked) where
    abbrev run : Progress
    run = coarse_run h (block_marks s m) blocks

    abbrev body : ℕ → Bool
    body = split_body s run.status

    split-sides : doubled h ≡ s
    unfolding halved
    split-sides = λ i. record { a = off.even.a-even i; b = off.even.b-even i; c = off.even.c-even i }

    same_body : (i : ℕ) → in_grid s body i ≡ split_of h (is_kept run.status) i
    unfolding in_grid split_body split_of block_of block_index
    same_body i = ap (λ (t : Sides). ltb i (size t) && is_kept run.status (index h (half_of (voxel t i)))) (sym split-sides)

    pub body-shape : Shape s (in_grid s body) 0 (pos 1)
    body-shape =
        subst (λ (k : ℕ → Bool). Shape s k 0 (pos 1)) (sym (fun_ext same_body))
        (subst (λ (t : Sides). Shape t (split_of h (is_kept run.status)) 0 (pos 1)) split-sides
        (split-shape h (omega (arith, half-fit.a-low)) (omega (arith, half-fit.b-low)) (is_kept run.status) 0 (pos 1)
        (run-shape h half-fit (block_marks s m) blocks blocks-off some_block.0 some_block.1 some_block.2)))

    pub body-holds : (i : ℕ) → is_in S i ≡ true → in_grid s body i ≡ true
    unfolding in_grid split_body
    body-holds i e =
        let b = block_inside i e in
        true-and (ltb i (size s)) (is_kept run.status (block_of s i)) (lt-ltb i (size s) (inside-below i e))
        (run-negative h half-fit (block_marks s m) blocks blocks-off some_block.0 some_block.1 some_block.2 (block_of s i) b.0 b.1)

    -- what a coarse start works from
    pub split-start : Startable s values body
    split-start = record { accepted = accepted; shape = body-shape; holds = body-holds }
