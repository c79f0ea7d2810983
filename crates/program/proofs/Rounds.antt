-- What the program's calls do to a record, and the rounds of carve and open.
use mathlib.Core.Path.{◌≡◌, refl, ap, sym, ◌∙◌}
use mathlib.Core.Bool.{Bool, true, false, not, true≢false}
use mathlib.Core.List.{List}
use Prim.Native.Nat.{ℕ, zero, suc, ◌+◌, ◌<◌}
use native.Mathlib.Omega.{arith}
use Rattle.rules.specs.Answer.{untouched}
use Rattle.rules.specs.Machine.{State, lent_to, after, may_go, sooner, marked_checks, carved, carve, open_checks, to_open, the_voxel, opened, open_next}
use Rattle.rules.specs.Machine.{finish_checks, finished_of, finish}
use Rattle.rules.specs.Marks.{marked}
use Rattle.rules.proofs.Checks.{by-checks}
use Rattle.rules.proofs.Fit.{openable}
use Rattle.program.specs.Program.{no_limit, is_refused, after_carve, after_open, opens, after_finish, carve_and_open, rounds_left}

-- the voxels that may go
abbrev free : List ℕ → State → ℕ → Bool
free marks g = may_go (marked marks) g.dist

-- ---- carve changes neither sides nor openings, and finishes nothing

pub record Same (g h : State) : Type 0 where
  pub sides : h.rec.sides ≡ g.rec.sides
  pub allowed : h.rec.allowed ≡ g.rec.allowed
  pub openings : h.rec.openings ≡ g.rec.openings
  pub finished : h.rec.finished ≡ g.rec.finished

pub carve-same : (marks : List ℕ) (g : State) → Same g (after_carve marks g)
unfolding after_carve carve carved
carve-same marks g =
    by-checks (untouched (lent_to g)) (carved (may_go (marked marks) g.dist) (sooner (marked marks) g.dist) no_limit g)
    (λ o. Same g (after (λ r. r.next) g o)) (marked_checks marks g)
    (λ n. record { sides = refl; allowed = refl; openings = refl; finished = refl })
    (λ p. record { sides = refl; allowed = refl; openings = omega arith; finished = refl })

-- ---- open

pub record Grown (g h : State) : Type 0 where
  pub sides : h.rec.sides ≡ g.rec.sides
  pub allowed : h.rec.allowed ≡ g.rec.allowed
  pub openings : h.rec.openings ≡ g.rec.openings + 1
  pub finished : h.rec.finished ≡ g.rec.finished
  pub left : g.rec.openings < g.rec.allowed

pub open-refused : (marks : List ℕ) (g : State) → opens marks g ≡ false → after_open marks g ≡ g
unfolding after_open opens open_next opened
open-refused marks g =
    by-checks (untouched (lent_to g)) (opened (free marks g) (the_voxel (to_open (free marks g) g)) g)
    (λ o. not (is_refused o.answer) ≡ false → after (λ r. r.next) g o ≡ g)
    (open_checks marks g) (λ n e. refl) (λ p e. absurd (true≢false e))

pub open_done : (marks : List ℕ) (g : State) → opens marks g ≡ true → Grown g (after_open marks g)
unfolding after_open opens open_next opened
open_done marks g =
    by-checks (untouched (lent_to g)) (opened (free marks g) (the_voxel (to_open (free marks g) g)) g)
    (λ o. not (is_refused o.answer) ≡ true → Grown g (after (λ r. r.next) g o))
    (open_checks marks g) (λ n e. absurd (true≢false (sym e)))
    (λ p e.
    let q = openable g marks p in
    let fit = q.quiet.working.fit in
    record { sides = refl; allowed = refl; openings = refl; finished = refl; left = omega (arith, fit.openings, q.left) })

open-sides : (marks : List ℕ) (g : State) (t : Bool) → opens marks g ≡ t → (after_open marks g).rec.sides ≡ g.rec.sides
open-sides marks g true e = (open_done marks g e).sides
open-sides marks g false e = ap (λ (h : State). h.rec.sides) (open-refused marks g e)

-- ---- finish

pub record Unmoved (g h : State) : Type 0 where
  pub sides : h.rec.sides ≡ g.rec.sides
  pub status : h.status ≡ g.status

pub finish-unmoved : (g : State) → Unmoved g (after_finish g)
unfolding after_finish finish finished_of
finish-unmoved g =
    by-checks (untouched (lent_to g)) (finished_of g) (λ o. Unmoved g (after (λ r. r) g o)) (finish_checks g)
    (λ n. record { sides = refl; status = refl }) (λ p. record { sides = refl; status = refl })

-- ---- the rounds

-- after a round's carve
abbrev pub after_round : List ℕ → Bool → ℕ → State → State
after_round marks true rounds h = carve_and_open marks rounds (after_open marks h)
after_round marks false rounds h = h

pub round : (marks : List ℕ) (rounds : ℕ) (g : State) (t : Bool) → opens marks (after_carve marks g) ≡ t
    → carve_and_open marks (suc rounds) g ≡ after_round marks t rounds (after_carve marks g)
unfolding carve_and_open
round marks rounds g t e =
    ap (λ (u : Bool). elim u [ true ↦ carve_and_open marks rounds (after_open marks (after_carve marks g)) | false ↦ after_carve marks g ]) e ∙ go t
  where
    go : (t : Bool) → elim t [ true ↦ carve_and_open marks rounds (after_open marks (after_carve marks g)) | false ↦ after_carve marks g ]
        ≡ after_round marks t rounds (after_carve marks g)
    go true = refl
    go false = refl

pub rounds-sides : (marks : List ℕ) (rounds : ℕ) (g : State) → (carve_and_open marks rounds g).rec.sides ≡ g.rec.sides
unfolding carve_and_open
rounds-sides marks zero g = refl
rounds-sides marks (suc rounds) g =
    go (opens marks (after_carve marks g)) refl (rounds-sides marks rounds (after_open marks (after_carve marks g))) ∙ (carve-same marks g).sides
  where
    go :
        (t : Bool)
        → opens marks (after_carve marks g) ≡ t
        → (carve_and_open marks rounds (after_open marks (after_carve marks g))).rec.sides ≡ (after_open marks (after_carve marks g)).rec.sides
        → (carve_and_open marks (suc rounds) g).rec.sides ≡ (after_carve marks g).rec.sides
    go true e ih = ap (λ (h : State). h.rec.sides) (round marks rounds g true e) ∙ ih ∙ open-sides marks (after_carve marks g) true e
    go false e ih = ap (λ (h : State). h.rec.sides) (round marks rounds g false e)

-- an open that is not refused uses one of the rounds up
pub round-used : (marks : List ℕ) (g : State) → opens marks (after_carve marks g) ≡ true
    → rounds_left g.rec ≡ suc (rounds_left (after_open marks (after_carve marks g)).rec)
round-used marks g e =
    let c = carve-same marks g in
    let o = open_done marks (after_carve marks g) e in
    omega (arith, c.openings, c.allowed, o.openings, o.allowed, o.left)
