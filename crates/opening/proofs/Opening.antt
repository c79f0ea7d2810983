-- open: the voxel it works on, and what it answers.
use mathlib.Core.Path.{◌≡◌, refl, sym, ap, ◌∙◌}
use mathlib.Core.Bool.{Bool, ◌&&◌}
use mathlib.Core.List.{List, [], ◌∷◌, ◌++◌}
use Rattle.std.specs.Prelude.{Option, None, Some}
use Prim.Native.Nat.{ℕ}
use borrow.Author.Tests.{eqb-false}
use lib.Dec.{eqb}
use lib.IntN.{ℤ, pos, ◌-ℤ◌}
use Rattle.cells.specs.Cells.{Test}
use Rattle.local_test.specs.declared.Groups.{Groups}
use Rattle.local_test.specs.Answers.{GroupsOf}
use Rattle.prelude.proofs.Bools.{and-true}
use Rattle.rules.specs.declared.Record.{Record}
use Rattle.rules.specs.declared.Opening.{Opening}
use Rattle.rules.specs.Answer.{done, Outcome, outcome, untouched, Buffers, buffers}
use Rattle.rules.specs.Checks.{Check, ◌when◌, first_failing}
use Rattle.rules.specs.Begin.{exposed}
use Rattle.rules.specs.Status.{is_kept, test_at, without, removable, openable}
use Rattle.rules.specs.Marks.{marked}
use Rattle.rules.specs.Machine.{State, lent_to, may_go, farther, count, to_open, is_none}
use Rattle.rules.specs.Machine.{the_voxel, open_checks, opened, open_next, marked_checks, quiet_checks}
use Rattle.rules.specs.Fit.{Marking}
use Rattle.rules.proofs.Foremost.{farther-order, first-foremost}
use Rattle.neighbourhood.proofs.Bodies.{fit-body}
use Rattle.waking.specs.Waking.{Removable}
use Rattle.waking.proofs.Fitting.{kept-removable}
use Rattle.searching.specs.Argmax.{Searchable}
use Rattle.rules.specs.declared.Refusal.{Refusal}
use Rattle.rules.specs.Refusals.{number_of}
use Rattle.rules.proofs.Checks.{fails-first, holds-first, hold-append, held_at}
use Rattle.rules.proofs.Refusals.{refused-before, passed-before, passed, call-refused-by, call-passed}
use Rattle.rules.proofs.Fit.{marking}
use Rattle.opening.specs.Opening.{spent_checks, OpensAt}

-- ---- what the parts ask

pub searchable : (marks : List ℕ) (g : State) → Marking marks g → Searchable g.rec.sides g.dist marks g.status
searchable marks g m = let f = m.working.fit.voxels in record { body = fit-body _ _ g.dist f; lent = (f.lent.distances, m.lent) }

pub open-removable : (marks : List ℕ) (i : ℕ) (g : State) → OpensAt marks i g → Removable g.rec.sides g.dist g.status i
unfolding to_open openable removable
open-removable marks i g o =
    let s = g.rec.sides in
    let free = may_go (marked marks) g.dist in
    let m = first-foremost s (farther g.dist) (farther-order g.dist) (openable s free g.status) i o.found in
    let p = and-true (is_kept g.status i && free i) (exposed s (is_kept g.status) i) m.chosen in
    let q = and-true (is_kept g.status i) (free i) p.0 in
    kept-removable g o.working.fit i m.below q.0

-- ---- what it answers

module _ (free : ℕ → Bool) (g : State) where
  pub opened-is :
      (i : ℕ) (r : Groups) (next : Record) (status : List ℕ) (change : ℤ)
      → GroupsOf (test_at g.rec.sides g.status i) r
      → next ≡ count g.rec 0 1 1 change
      → change ≡ pos r.k -ℤ pos r.m
      → status ≡ without g.rec.sides free g.status i
      → outcome (done (record { index = i; k = r.k; m = r.m; face = r.face; next = next })) (buffers g.dist status) ≡ opened free i g
  unfolding opened
  opened-is i r next status change e f c h =
      let n : next ≡ count g.rec 0 1 1 (pos (test_at g.rec.sides g.status i).k -ℤ pos (test_at g.rec.sides g.status i).m) =
      f ∙ ap (count g.rec 0 1 1) (c ∙ ap (λ (u : Test). pos u.k -ℤ pos u.m) e) in
      λ j. outcome (done (record { index = i; k = (e j).k; m = (e j).m; face = (e j).face; next = n j })) (buffers g.dist (h j))

-- ---- open, by its checks up to 14 and what the search finds

module _ (marks : List ℕ) (g : State) where
  abbrev next : Option ℕ
  next = to_open (may_go (marked marks) g.dist) g

  abbrev last : List Check
  last = 15 when is_none next ∷ []

  abbrev spent : List Check
  spent = 14 when eqb g.rec.openings g.rec.allowed ∷ []

  abbrev answer : Outcome Buffers Opening
  answer = opened (may_go (marked marks) g.dist) (the_voxel next) g

  pub open-refused : (r : Refusal) → number_of r ≡ first_failing (spent_checks marks g) → untouched (lent_to g) (number_of r) ≡ open_next marks g
  unfolding open_next
  open-refused r e = call-refused-by (untouched (lent_to g)) answer (open_checks marks g) r (refused-before (spent_checks marks g) last r e)

  module _ (e : 0 ≡ first_failing (spent_checks marks g)) where
    checked : (Marking marks g) × (g.rec.openings ≡ g.rec.allowed → ⊥)
    checked =
        let h = passed (spent_checks marks g) refl e in
        (marking g marks (hold-append (marked_checks marks g) (quiet_checks g ++ spent) h).0, eqb-false _ _ (held_at (spent_checks marks g) h 14))

    pub open-fit : Marking marks g
    open-fit = checked.0

    pub open-nothing : next ≡ None → untouched (lent_to g) 15 ≡ open_next marks g
    unfolding open_next
    open-nothing f =
        call-refused-by (untouched (lent_to g)) answer (open_checks marks g) Refusal.NothingToOpen
        (passed-before (spent_checks marks g) last refl e 15 (sym (fails-first 15 (is_none next) [] (ap is_none f))))

    module _ (i : ℕ) (f : next ≡ Some i) where
      pub opens_at : OpensAt marks i g
      opens_at = record { working = checked.0.working; left = checked.1; found = f }

      pub open_done : (r : Outcome Buffers Opening) → r ≡ opened (may_go (marked marks) g.dist) i g → r ≡ open_next marks g
      unfolding open_next first_failing
      open_done r h =
          call-passed (untouched (lent_to g)) answer (open_checks marks g) refl
          (passed-before (spent_checks marks g) last refl e 0 (sym (holds-first 15 (is_none next) [] (ap is_none f)))) r
          (h ∙ ap (λ (o : Option ℕ). opened (may_go (marked marks) g.dist) (the_voxel o) g) (sym f))
