-- The work of the coarse begin, in the order of the code, and what holds where no check fails.
use mathlib.Core.Path.{◌≡◌, refl, ap, sym, ◌∙◌, subst}
use mathlib.Core.Logic.{◌⊎◌, inl, inr}
use mathlib.Core.Bool.{true, false}
use mathlib.Core.List.{List, map}
use Prim.Native.Nat.{ℕ, ◌/◌, ◌≤◌, ◌<◌}
use native.Mathlib.Omega.{arith}
use borrow.Author.Tests.{eqb-true}
use lib.Dec.{eqb}
use lib.IntN.{ℤ}
use lib.ListN.{length}
use Rattle.prelude.proofs.Bools.{two, and-true, or-false, not-false, not-both}
use Rattle.prelude.proofs.Ranges.{length-map-range}
use Rattle.rules.specs.declared.Sides.{Sides}
use Rattle.rules.specs.Grid.{fit_sides, size, voxels, on_border, is_in}
use Rattle.rules.specs.Fill.{filled}
use Rattle.rules.specs.Marks.{Marked, marked, wrong_marks}
use Rattle.rules.specs.Begin.{inside, worked, start_status, new_record}
use Rattle.rules.specs.Status.{Progress, is_kept}
use Rattle.rules.specs.Machine.{is_inside}
use Rattle.rules.specs.Answer.{done, outcome, buffers}
use Rattle.rules.specs.Fit.{Beginnable}
use Rattle.rules.specs.Checks.{first_failing}
use Rattle.rules.proofs.Checks.{fails_at, held_at}
use Rattle.rules.proofs.Refusals.{passed}
use Rattle.rules.proofs.Fit.{beginnable-by}
use Rattle.rules.proofs.Fill.{beginnable-filled}
use Rattle.rules.proofs.NeverUnfit.{inner-border}
use Rattle.rules.proofs.Topology.Start.{worked-signs}
use Rattle.loops.specs.InPlace.{Each}
use Rattle.first_marks.specs.FirstMarks.{marked_status_at}
use Rattle.beginning.proofs.FirstMarks.{marked-is}
use Rattle.coarse.specs.declared.CoarseStart.{CoarseStart}
use Rattle.coarse.specs.Blocks.{halved, block_distances, block_marks, split_body}
use Rattle.coarse.specs.Coarse.{coarse_run, FourBuffers, four_buffers, wrong_lengths, coarse_checks, coarse_on}
use Rattle.coarse.proofs.Fitness.{CoarseFit, coarse-fit, filled-as-fit}
use Rattle.coarse.proofs.Body.{half-fit, half-sides, length-blocks, blocks-off, some_block}
use Rattle.coarse.proofs.Run.{run-shape}
use Rattle.blocks.specs.Work.{Blocked}
use Rattle.blocks.proofs.Rows.{eighth}
use Rattle.coarse_run.specs.Run.{Pinnable, Runnable, Ran}
use Rattle.splitting.specs.Split.{byte_of, Splittable}
use Rattle.splitting.proofs.Splitting.{split-start}
use Rattle.coarsening.specs.Work.{Acceptable, WorkedOut}

-- ---- the work

module _ (s : Sides) (values : List ℤ) (ml dl sl bl cl : ℕ) (A : Acceptable s values ml dl sl bl cl) where
  abbrev h : Sides
  h = halved s

  abbrev used : List ℤ
  used = filled s values

  abbrev S : List ℕ
  S = inside s used

  abbrev D : List ℤ
  D = worked s used S

  given : Beginnable s used
  given = beginnable-filled s values A.accepted.grid

  off : CoarseFit s used
  off = coarse-fit s used (filled-as-fit s values A.accepted.grid ∙ A.fit-coarse)

  pub blocked : (n : ℕ) → n ≡ dl → Blocked s n bl
  blocked n e =
      record {
        sides = given.sides;
        half-sides = half-sides s used given off;
        even = off.even;
        len = e ∙ A.accepted.dist-len;
        blocks-len = A.block-dist-len ∙ eighth s off.even;
      }

  pub pinnable : (n : ℕ) → n ≡ sl → Pinnable s ml n
  pinnable n e =
      record {
        sides = given.sides;
        half-sides = half-sides s used given off;
        even = off.even;
        len = e ∙ A.accepted.status-len;
        marks-len = A.marks-len;
      }

  -- the blocks' marks have room in the voxels' status
  pub room : (n : ℕ) → n ≤ size h → n ≤ sl
  room n e = omega (arith, eighth s off.even, A.accepted.status-len)

  -- marks, distances and status go together
  pub together : (n : ℕ) → n ≡ dl → (f : ℕ → ℕ) (status : List ℕ) → status ≡ map f (voxels s) → (ml ≤ length status) × (n ≡ length status)
  unfolding voxels
  together n e f status g =
      let x = A.accepted.dist-len in
      let y : length status ≡ size s = ap length g ∙ length-map-range f (size s) in
      (elim A.marks-len [ inl z ↦ omega arith | inr q ↦ omega arith ], omega arith)

  module _ (dist : List ℤ) (d : dist ≡ D) (blocks : List ℤ) (b : blocks ≡ block_distances s dist) (half : Sides) (e : half ≡ h) where
    same_blocks : blocks ≡ block_distances s D
    same_blocks = b ∙ ap (block_distances s) d

    runs : (n : ℕ) → n ≡ cl → Runnable h (block_distances s D) n
    runs n q =
        let j = some_block s used given off in
        record {
          startable = record {
            fit = half-sides s used given off;
            len = length-blocks s used given off;
            same = q ∙ A.block-status-len ∙ eighth s off.even;
            some = j.0;
            some_in = j.1;
            some-negative = j.2;
          };
          inner = λ j l i. inner-border h j (blocks-off s used given off j l i);
        }

    pub runnable : (n : ℕ) → n ≡ cl → (k : ℕ) → k ≤ size h → (Runnable half blocks n) × (k ≤ size half)
    runnable n q k l = (
      subst (λ (x : Sides). Runnable x blocks n) (sym e) (subst (λ (x : List ℤ). Runnable h x n) (sym same_blocks) (runs n q)),
      subst (λ (x : Sides). k ≤ size x) (sym e) l,
    )

    module _ (marks pins : List ℕ) (p : marked pins ≡ block_marks s (marked marks)) (bytes : List ℕ) (n : ℕ) (r : Ran half (marked pins) blocks bytes n) where
      abbrev end : Progress
      end = coarse_run h (block_marks s (marked marks)) (block_distances s D)

      ended : coarse_run half (marked pins) blocks ≡ end
      ended = λ i. coarse_run (e i) (p i) (same_blocks i)

      same_bytes : bytes ≡ end.status
      same_bytes = r.bytes ∙ ap (λ (x : Progress). x.status) ended

      border : (j : ℕ) → j < size h → on_border h j ≡ true → is_kept bytes j ≡ false
      border j l o =
          let f = some_block s used given off in
          ap (λ (x : List ℕ). is_kept x j) same_bytes
          ∙ elim (two (is_kept end.status j)) [
            | inl t ↦
                not-both (on_border h j) o
                (inner-border h j
                ((run-shape h (half-fit s used given off) (block_marks s (marked marks)) (block_distances s D) (blocks-off s used given off) f.0 f.1 f.2
                ).inner j t).1)
            | inr g ↦ g
          ]

      pub splittable : length dist ≡ dl → length bytes ≡ cl → (k : ℕ) → k ≡ sl → Splittable s dist bytes k
      splittable x y k z =
          record {
            sides = given.sides;
            even = off.even;
            statuses = z ∙ A.accepted.status-len;
            distances = x ∙ A.accepted.dist-len;
            blocks-len = y ∙ A.block-status-len ∙ eighth s off.even;
            border = border;
          }

      signs : (i : ℕ) → i < size s → is_inside dist i ≡ is_in S i
      signs i l = ap (λ (x : List ℤ). is_inside x i) d ∙ worked-signs s used i l

      pub worked-out : (before after : List ℕ) → before ≡ map (byte_of s dist (split_body s bytes)) (voxels s)
          → Each 0 (marked_status_at dist (marked marks)) 0 (length marks) before after
          → WorkedOut s (marked marks) used n (four_buffers (buffers dist after) (buffers blocks bytes))
      unfolding coarse_on
      worked-out before after w E =
          let t : after ≡ start_status s (marked marks) S (split_body s end.status) =
          marked-is s S (split_body s bytes) dist signs marks before after (w ∙ split-start s dist S (split_body s bytes) signs) E
          ∙ ap (λ (x : List ℕ). start_status s (marked marks) S (split_body s x)) same_bytes in
          let k : n ≡ end.examined = r.count ∙ ap (λ (x : Progress). x.examined) ended in
          record {
            worked =
                λ T i. outcome (done (record { next = new_record s T; examined = k i }))
                (four_buffers (buffers (d i) (t i)) (buffers (same_blocks i) (same_bytes i)));
          }

-- ---- the call

-- what holds where no check fails
module _ (s : Sides) (values : List ℤ) (marks : List ℕ) (l : FourBuffers) (e : 0 ≡ first_failing (coarse_checks s values marks l)) where
  held : (k : ℕ) → fails_at k (coarse_checks s values marks l) ≡ false
  held = held_at (coarse_checks s values marks l) (passed (coarse_checks s values marks l) refl e)

  pub marks-sized : length marks ≡ size s
  unfolding wrong_marks
  marks-sized = eqb-true (length marks) (size s) (not-false _ (or-false (wrong_lengths s values l) _ (held 2)).1)

  pub acceptable : (m : ℕ) → (m ≡ 0) ⊎ (m ≡ size s)
      → Acceptable s values m (length l.voxels.dist) (length l.voxels.status) (length l.blocks.dist) (length l.blocks.status)
  unfolding wrong_lengths
  acceptable m f =
      let all = not-false _ (or-false (wrong_lengths s values l) _ (held 2)).0 in
      let v = and-true (eqb (length values) (size s)) _ all in
      let d = and-true (eqb (length l.voxels.dist) (size s)) _ v.1 in
      let t = and-true (eqb (length l.voxels.status) (size s)) _ d.1 in
      let b = and-true (eqb (length l.blocks.dist) (size s / 8)) _ t.1 in
      record {
        accepted = record {
          grid = beginnable-by s values (not-false (fit_sides s) (held 1)) (eqb-true _ _ v.0) (held 28) (held 3) (not-false _ (held 4));
          dist-len = eqb-true _ _ d.0;
          status-len = eqb-true _ _ t.0;
        };
        fit-coarse = held 31;
        block-dist-len = eqb-true _ _ b.0;
        block-status-len = eqb-true _ _ b.1;
        marks-len = f;
      }

pub begun-is : (s : Sides) (T : ℕ) (m m' : Marked) (values : List ℤ) (n : ℕ) (left : FourBuffers) (r : CoarseStart)
    → r ≡ record { next = new_record s T; examined = n } → m ≡ m' → WorkedOut s m values n left → outcome (done r) left ≡ coarse_on s T values m'
begun-is s T m m' values n left r e f w =
    ap (λ (x : CoarseStart). outcome (done x) left) e ∙ w.worked T ∙ ap (λ (x : Marked). coarse_on s T values x) f
