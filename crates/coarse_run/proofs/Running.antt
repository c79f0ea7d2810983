-- Where no voxel has a mark no block is pinned; and the run, from the first status to the last.
use mathlib.Core.Path.{◌≡◌, refl, ap, sym, ◌∙◌, subst, fun_ext}
use mathlib.Core.Bool.{false}
use mathlib.Core.List.{List, []}
use Prim.Native.Nat.{ℕ, ◌*◌, ◌≤◌}
use native.Mathlib.Omega.{arith}
use lib.IntN.{ℤ}
use lib.ListN.{length, get_or-eq_default}
use Rattle.prelude.proofs.Lists.{false-any}
use Rattle.rules.specs.declared.Sides.{Sides}
use Rattle.rules.specs.Grid.{size}
use Rattle.rules.specs.Fit.{FitVoxels}
use Rattle.rules.specs.Marks.{pinned_mark, hurried_mark, marked, unmarked}
use Rattle.rules.specs.Status.{Progress, carving}
use Rattle.rules.specs.Machine.{may_go, sooner}
use Rattle.rules.proofs.Places.{fit}
use Rattle.rules.proofs.Unmarked.{marked-none}
use Rattle.rules.proofs.Topology.Start.{border-inner}
use Rattle.loops.specs.InPlace.{Each}
use Rattle.first_marks.specs.FirstMarks.{marked_status_at}
use Rattle.beginning.proofs.FirstMarks.{marked-is}
use Rattle.examining.specs.declared.Tally.{Tally}
use Rattle.examining.specs.Examining.{Tallied}
use Rattle.coarse.specs.Blocks.{eight, block_marks}
use Rattle.coarse.specs.Coarse.{negative_blocks, block_box, first_status, coarse_run}
use Rattle.coarse.proofs.Run.{first-fit}
use Rattle.block_start.proofs.Starting.{negative-in}
use Rattle.coarse_run.specs.Run.{Runnable, Ran}

none-pinned : (s : Sides) → marked [] ≡ block_marks s (marked [])
unfolding marked pinned_mark hurried_mark block_marks
none-pinned s = λ i. record { pinned = fun_ext (λ j. sym (false-any (marked []).pinned (eight s j) (λ k m. refl))) i; hurried = λ j. false }

pub unpinned : (s : Sides) (marks : List ℕ) → length marks ≡ 0 → marked [] ≡ block_marks s (marked marks)
unpinned s marks e =
    none-pinned s
    ∙ ap (block_marks s) (sym (marked-none marks (λ i. get_or-eq_default marks 0 (let h : length marks ≤ i = omega arith in h))))

module _ (h : Sides) (blocks : List ℤ) (n : ℕ) (R : Runnable h blocks n) (pins : List ℕ) where
  pub marked_start : (before after : List ℕ) → before ≡ first_status h unmarked blocks
      → Each 0 (marked_status_at blocks (marked pins)) 0 (length pins) before after → after ≡ first_status h (marked pins) blocks
  unfolding first_status
  marked_start = marked-is h (negative_blocks h blocks) (block_box h blocks) blocks (negative-in h blocks) pins

  pub fit-start : (status : List ℕ) → status ≡ first_status h (marked pins) blocks → FitVoxels h blocks status
  fit-start status e =
      let S = R.startable in
      subst (FitVoxels h blocks) (sym e)
      (first-fit h (fit h S.fit) (marked pins) blocks (λ j l i. border-inner h j l (R.inner j l i)) S.some S.some_in S.some-negative S.len)

  pub ran : (before after : List ℕ) (limit : ℕ) (t : Tally) → before ≡ first_status h (marked pins) blocks
      → Tallied h (marked pins) blocks limit before after t → limit ≡ 27 * size h → Ran h (marked pins) blocks after t.examined
  unfolding coarse_run
  ran before after limit t e T f =
      let m = marked pins in
      let q = T.rule ∙ (λ k. carving h (may_go m blocks) (sooner m blocks) (f k) (e k)) in
      record { bytes = ap (λ (p : Progress). p.status) q; count = ap (λ (p : Progress). p.examined) q }
