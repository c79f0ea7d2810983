-- Serving by another rule answers something else: by computation, each on one call that tells the two apart.
use mathlib.Core.Path.{◌≡◌, refl, ap, sym, ◌∙◌}
use mathlib.Core.Bool.{Bool, true, false, cond, ◌||◌}
use mathlib.Core.List.{List, [], ◌∷◌, ◌++◌}
use Prim.Native.Nat.{ℕ, ◌+◌}
use lib.Dec.{eqb}
use lib.ListN.{length, get_or, set, replicate}
use borrow.Author.Tests.{eq-eqb}
use Rattle.prelude.proofs.Bools.{not-both}
use Rattle.cells.specs.Groups.{any}
use Rattle.rules.specs.Grid.{range}
use Rattle.rules.specs.Checks.{unless}
use Rattle.rules.specs.Answer.{Reply, refused, done, Outcome}
use Rattle.rules.specs.Machine.{State, unfit}
use Rattle.rules.specs.Cases.{case_d, mark_d}
use Rattle.rules.proofs.Answers.{answers}
use Rattle.office.specs.declared.Serving.{Serving}
use Rattle.office.specs.Serve.{Office, grids, grid_at, Left, served_at, serve}
use Rattle.office.specs.Lists.{office_of}
use Rattle.office.specs.Examples.{no_mark, waiting, resting, ended, overcounted, sideless}
use Rattle.office.specs.Wrong.{serve_by, checks_by, ServeInParts, Other, WrongServings, ServeAnswers}
use Rattle.office.proofs.Examples.{serve-rules}

-- ---- the rule's own parts make the rule

pub serve-in-parts : ServeInParts
unfolding serve served_at serve_by checks_by unless
serve-in-parts marks limit o = rw (either (any (λ p. unfit (grid_at o p)) (range 0 (grids o))))
  where
    either : {R : Type 0} (t u : Bool) (x y : R) → cond (t || u) x y ≡ cond t x (cond u x y)
    either true u x y = refl
    either false u x y = refl

-- ---- two answers that differ

-- the number of a refusal, or 100 and the place that was served
told : Outcome Left Serving → ℕ
told r = number r.answer
  where
    number : Reply Serving → ℕ
    number (refused n) = n
    number (done a) = 100 + a.place

-- how many voxels went
gone : Outcome Left Serving → ℕ
gone r = removed r.answer
  where
    removed : Reply Serving → ℕ
    removed (refused n) = 0
    removed (done a) = a.carving.removed

-- the first place of the order record, or 99; how long the order record is
foremost : Outcome Left Serving → ℕ
foremost r = get_or r.lent.order 0 99

long : Outcome Left Serving → ℕ
long r = length r.lent.order

-- on these grids with these marks the rule gives m, and the other n
module _ {other : List ℕ → ℕ → Office → Outcome Left Serving} (see : Outcome Left Serving → ℕ) (limit : ℕ) (order : List ℕ) (gs : List State) where
  with_marks : (marks : List ℕ) (m n : ℕ) → let o = office_of order gs in
      see (serve marks limit o) ∷ see (other marks limit o) ∷ [] ≡ m ∷ n ∷ [] → eqb m n ≡ false → Other other
  with_marks marks m n e d h =
      let o = office_of order gs in
      let r : see (serve marks limit o) ≡ m = cc in
      let s : see (other marks limit o) ≡ n = cc in
      not-both (eqb m n) (eq-eqb m n (sym r ∙ ap see (h marks limit o) ∙ s)) d

  -- with no voxel marked
  on : (m n : ℕ) → let o = office_of order gs in
      see (serve (no_mark o) limit o) ∷ see (other (no_mark o) limit o) ∷ [] ≡ m ∷ n ∷ [] → eqb m n ≡ false → Other other
  on m n = with_marks (no_mark (office_of order gs)) m n

  -- with the first voxel's mark 4
  on_stray : (m n : ℕ) → let o = office_of order gs in
      see (serve (set (no_mark o) 0 4) limit o) ∷ see (other (set (no_mark o) 0 4) limit o) ∷ [] ≡ m ∷ n ∷ [] → eqb m n ≡ false → Other other
  on_stray m n = with_marks (set (no_mark (office_of order gs)) 0 4) m n

pub wrong-servings : WrongServings
unfolding serve-rules serve_by checks_by told gone foremost long
wrong-servings =
    record {
      limit-below-1000 = on told 1000 [] (waiting ∷ []) 100 34 refl refl;
      fifteen-grids = on told 1 [] (replicate 16 resting) 35 34 refl refl;
      limit-of-1001 = on told 1001 [] (waiting ∷ []) 34 100 refl refl;
      seventeen-grids = on told 1 [] (replicate 17 resting) 34 35 refl refl;
      order-as-long = on told 1 (0 ∷ []) (waiting ∷ []) 100 7 refl refl;
      twice-unseen = on told 1 (1 ∷ 1 ∷ []) (waiting ∷ resting ∷ []) 7 100 refl refl;
      past-unseen = on told 1 (1 ∷ []) (waiting ∷ []) 7 100 refl refl;
      order-before-sides = on told 1 (1 ∷ []) (sideless ∷ []) 1 7 refl refl;
      order-after-marks = on_stray told 1 (1 ∷ []) (waiting ∷ []) 7 29 refl refl;
      order-after-finished = on told 1 (1 ∷ []) (ended ∷ []) 7 8 refl refl;
      range-after-sides = on told 0 [] (sideless ∷ []) 34 1 refl refl;
      marks-before-unfit = on_stray told 1 [] (overcounted ∷ []) 7 29 refl refl;
      marks-after-finished = on_stray told 1 [] (ended ∷ []) 29 8 refl refl;
      quiet-before-finished = on told 1 [] (ended ∷ []) 8 35 refl refl;
      finished-skipped = on told 1 [] (ended ∷ waiting ∷ []) 8 101 refl refl;
      grid-by-grid = on told 1 [] (ended ∷ overcounted ∷ []) 7 8 refl refl;
      highest-never-served = on told 1 [] (waiting ∷ waiting ∷ []) 100 101 refl refl;
      served-last-first = on told 1 (0 ∷ 1 ∷ []) (waiting ∷ waiting ∷ []) 100 101 refl refl;
      served-before-never = on told 1 (0 ∷ []) (waiting ∷ waiting ∷ []) 101 100 refl refl;
      lowest-always = on told 1 (0 ∷ []) (waiting ∷ waiting ∷ []) 101 100 refl refl;
      nothing-pending = on told 1 [] (resting ∷ waiting ∷ []) 101 100 refl refl;
      order-not-moved = on foremost 1 (0 ∷ 1 ∷ []) (waiting ∷ waiting ∷ []) 1 0 refl refl;
      order-to-the-front = on foremost 1 (0 ∷ []) (waiting ∷ waiting ∷ []) 0 1 refl refl;
      order-named-again = on long 1 (0 ∷ []) (waiting ∷ []) 1 2 refl refl;
      order-forgotten = on long 1 (0 ∷ []) (resting ∷ []) 1 0 refl refl;
      marks-of-the-first = with_marks gone 1 (0 ∷ []) (case_d ∷ case_d ∷ []) (replicate 48 0 ++ mark_d 22 1) 0 1 refl refl;
      part-one-late = on told 1 [] (resting ∷ waiting ∷ resting ∷ []) 101 7 refl refl;
    }

pub serve-answers : ServeAnswers
unfolding serve-rules
serve-answers = answers (λ limit. let o = office_of [] (waiting ∷ []) in (serve (no_mark o) limit o).answer) 1 0 34 refl refl
