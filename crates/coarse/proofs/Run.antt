-- The coarse run over any grid of blocks whose negative ones lie off the border: it ends, negative blocks and the pinned ones of the box stay, and the
-- body that it leaves is in one piece with the Euler number 1.
use mathlib.Core.Path.{◌≡◌, refl, ap, ◌∙◌}
use mathlib.Core.Logic.{inl, inr}
use mathlib.Core.Bool.{Bool, true, false, not, ◌&&◌}
use mathlib.Core.List.{List}
use Prim.Native.Nat.{ℕ, ◌+◌, ◌<◌}
use native.Mathlib.Omega.{arith}
use lib.IntN.{ℤ, pos}
use lib.ListN.{length}
use Rattle.cells.specs.Cells.{passes}
use Rattle.prelude.proofs.Bools.{and_zero, both_ways, not-both, two}
use Rattle.prelude.proofs.Lists.{filter-mem, mem-filter}
use Rattle.prelude.proofs.Ranges.{none_below}
use Rattle.rules.specs.declared.Sides.{Sides}
use Rattle.rules.specs.Grid.{size, voxel, voxels, is_in}
use Rattle.rules.specs.Meaning.{found}
use Rattle.rules.specs.Fit.{FitVoxels}
use Rattle.rules.specs.Marks.{Marked}
use Rattle.rules.specs.Status.{Progress, is_kept, is_pending, any_pending, test_at}
use Rattle.rules.specs.Machine.{is_inside, outside, may_go, sooner}
use Rattle.rules.proofs.Places.{Fit, fit_sides_lem}
use Rattle.rules.proofs.Inside.{voxels-mem, mem-voxels, is_in-mem, mem-is_in}
use Rattle.rules.proofs.FitKept.{inside-below}
use Rattle.rules.proofs.Foremost.{sooner-order}
use Rattle.rules.proofs.Topology.Around.{Inner}
use Rattle.rules.proofs.Topology.Count.{found_all}
use Rattle.rules.proofs.Topology.Moves.{Shape}
use Rattle.rules.proofs.Topology.Steps.{Sound, tally}
use Rattle.rules.proofs.Topology.Calls.{carving-sound, carving-ends}
use Rattle.rules.proofs.Topology.Start.{in_grid, kept-at-first, start-sound, box-shape, box-holds}
use Rattle.rules.proofs.Pinned.{still-carving}
use Rattle.rules.proofs.NeverUnfit.{fit-sound, start-known}
use Rattle.coarse.specs.Coarse.{negative_blocks, block_box, first_status, coarse_run}

module _ (h : Sides) (sides : Fit h) (m : Marked) (dist : List ℤ)
    (off : (j : ℕ) → j < size h → is_inside dist j ≡ true → Inner h (voxel h j)) (first : ℕ) (below : first < size h)
    (some-negative : is_inside dist first ≡ true) where
  abbrev B : List ℕ
  B = negative_blocks h dist

  abbrev total : ℕ
  total = found h (block_box h dist)

  abbrev run : Progress
  run = coarse_run h m dist

  listed : (j : ℕ) → is_in B j ≡ true → (j < size h) × (is_inside dist j ≡ true)
  unfolding negative_blocks
  listed j e = let r = filter-mem (is_inside dist) (voxels h) j (is_in-mem B j e) in (voxels-mem h j r.0, r.1)

  lists : (j : ℕ) → j < size h → is_inside dist j ≡ true → is_in B j ≡ true
  unfolding negative_blocks
  lists j l e = mem-is_in B j (mem-filter (is_inside dist) (voxels h) j (mem-voxels h j l) e)

  off-border : (j : ℕ) → is_in B j ≡ true → (j < size h) × (Inner h (voxel h j))
  off-border j e = let r = listed j e in (r.0, off j r.0 r.1)

  -- ---- at the start

  box-body : Shape h (in_grid h (block_box h dist)) 0 (pos 1)
  unfolding block_box
  box-body = box-shape h sides B off-border first (lists first below some-negative)

  box-has : (j : ℕ) → is_in B j ≡ true → in_grid h (block_box h dist) j ≡ true
  unfolding block_box
  box-has = box-holds h sides B off-border first (lists first below some-negative)

  pub first-sound : (held : ℕ → Bool) → ((j : ℕ) → m.pinned j ≡ true → held j ≡ true)
      → Sound h (is_in B) held total (first_status h m dist) (tally 0 0 0 (pos 1))
  unfolding first_status
  first-sound = start-sound h m B (block_box h dist) box-body box-has

  pub first-fit : length dist ≡ size h → FitVoxels h dist (first_status h m dist)
  unfolding first_status
  first-fit n =
      let sound = first-sound (λ j. true) (λ j e. refl) in
      fit-sound h (is_in B) (λ j. true) total dist (first_status h m dist) (tally 0 0 0 (pos 1)) sound
      (record { sides = fit_sides_lem h sides; distances = n; statuses = sound.lent }) (start-known h m B (block_box h dist))
      (λ j e. lists j (omega (arith, inside-below dist j e)) e)

  -- ---- the run: what may go is what is neither negative nor pinned

  may-go-blocks : (j : ℕ) → j < size h → may_go m dist j ≡ (not (is_in B j) && not (m.pinned j))
  unfolding may_go outside
  may-go-blocks j l =
      ap (λ (t : Bool). not t && not (m.pinned j)) (both_ways (is_inside dist j) (is_in B j) (lists j l) (λ e. (listed j e).1))

  run_sound : Sound h (is_in B) m.pinned total run.status (tally (run.examined + 0) (run.removed + 0) 0 (pos 1))
  unfolding coarse_run
  run_sound =
      carving-sound h (is_in B) m.pinned m.pinned (may_go m dist) (sooner m dist) (sooner-order m dist) total (λ j e. e) may-go-blocks
      _ (first_status h m dist) (tally 0 0 0 (pos 1)) (first-sound m.pinned (λ j e. e))

  pub run-shape : Shape h (is_kept run.status) 0 (pos 1)
  run-shape = run_sound.inv.shape

  pub run_ends : any_pending h run.status ≡ false
  unfolding coarse_run
  run_ends =
      carving-ends h (is_in B) m.pinned m.pinned (may_go m dist) (sooner m dist) (sooner-order m dist) total (λ j e. e) may-go-blocks
      _ (first_status h m dist) (tally 0 0 0 (pos 1)) (first-sound m.pinned (λ j e. e)) (omega (arith, found_all h (block_box h dist)))

  pub run-negative : (j : ℕ) → j < size h → is_inside dist j ≡ true → is_kept run.status j ≡ true
  run-negative j l e = run_sound.inv.inside j (lists j l e)

  pub run-pinned : (j : ℕ) → j < size h → block_box h dist j ≡ true → m.pinned j ≡ true → is_kept run.status j ≡ true
  unfolding coarse_run first_status
  run-pinned j l b p =
      (still-carving h (may_go m dist) j true stays (sooner m dist) (sooner-order m dist) _ (first_status h m dist)
      (record { lent = (first-sound m.pinned (λ j e. e)).lent; kept = kept-at-first h m B (block_box h dist) j l ∙ b })).kept
    where
      stays : true ≡ true → may_go m dist j ≡ false
      stays t = unfold may_go in ap (λ (u : Bool). outside dist j && not u) p ∙ and_zero (outside dist j)

  pub run-fails : (j : ℕ) → is_kept run.status j ≡ true → is_inside dist j ≡ false → m.pinned j ≡ false → passes (test_at h run.status j) ≡ false
  unfolding any_pending voxels test_at
  run-fails j k n p =
      run_sound.inv.failing j k (elim (two (is_in B j)) [ inl e ↦ not-both (is_inside dist j) (listed j e).1 n | inr e ↦ e ]) p
      (none_below (is_pending run.status) (size h) run_ends j (run-shape.inner j k).0)
