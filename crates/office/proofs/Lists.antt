-- Every list of calls: each grid with something pending is served in time, and no grid disturbs another.
use mathlib.Core.Path.{◌≡◌, refl, ap, ap₂, sym, ◌∙◌, subst}
use mathlib.Core.Logic.{inl, inr, ◌≢◌}
use mathlib.Core.Bool.{true}
use mathlib.Core.List.{List, [], ◌∷◌, map}
use Prim.Native.Nat.{ℕ, zero, suc, ◌≤◌}
use native.Mathlib.Omega.{arith}
use native.Mathlib.Decide.{ℕ_discrete}
use lib.Dec.{eqb}
use borrow.Author.Tests.{eq-eqb, ne_eqb}
use Rattle.cells.specs.Groups.{any, filter}
use Rattle.prelude.proofs.Bools.{true-or}
use Rattle.rules.specs.declared.Carving.{Carving}
use Rattle.rules.specs.Answer.{Reply, refused, done, outcome}
use Rattle.rules.specs.Status.{any_pending}
use Rattle.rules.specs.Machine.{State, carve}
use Rattle.rules.specs.Demand.{carve_up_to, call, run, both, of_carve}
use Rattle.office.specs.Parts.{part_at}
use Rattle.office.specs.Order.{queue}
use Rattle.office.specs.declared.Serving.{Serving}
use Rattle.office.specs.Serve.{Office, grids, sizes, grid_at, waits, to_serve, left, after_serve}
use Rattle.office.specs.Lists.{OthersStay, RefusedLeavesAll, Request, Service, noted, after_all, services, of_place, ServedWithin, ServedInTime}
use Rattle.office.specs.Lists.{carves_of, answers_alone, AsAlone, sums_of}
use Rattle.office.proofs.Queue.{FitOrder, Stands, stands-in, moves-up}
use Rattle.office.proofs.Step.{Serves, by-serve}

-- ---- one call

pub done_refused : {A P : Type 0} (a : A) (n : ℕ) → done a ≡ refused n → P
done_refused a n e = let z : ◌≡◌ {A = ℕ} 0 1 = cc in let y : ⊥ = omega arith in absurd y

pub others-stay : OthersStay
others-stay marks limit o a =
    by-serve marks limit o (λ r. r.answer ≡ done a → (q : ℕ) → q ≢ a.place → grid_at (after_serve o r) q ≡ grid_at o q)
    (λ n e. done_refused a n (sym e))
    (λ b l s e q d. let same : b ≡ a = cc in s.elsewhere q (λ f. d (f ∙ ap (λ (a : Serving). a.place) same)))

pub refused-leaves-all : RefusedLeavesAll
refused-leaves-all marks limit o n =
    by-serve marks limit o (λ r. r.answer ≡ refused n → r.lent ≡ left o.order o.dist o.status) (λ m e. refl) (λ a l s. done_refused a n)

-- ---- x is served among the next k services, where fewer than k places stand before it

same-waits : (o next : Office) (x : ℕ) → grid_at next x ≡ grid_at o x → waits next x ≡ waits o x
unfolding waits
same-waits o next x e = ap (λ (g : State). any_pending g.rec.sides g.status) e

in-time : (k : ℕ) (next : List Request) (o : Office) (x : ℕ) → waits o x ≡ true → (FitOrder (grids o) o.order → Stands x k (queue (grids o) o.order))
    → 1 ≤ k → ServedWithin k x (services next o)
unfolding services after_serve
in-time k [] o x w stands = λ l h. let z : ⊥ = omega arith in absurd z
in-time k (c ∷ next) o x w stands =
    by-serve c.marks c.limit o (λ r. 1 ≤ k → ServedWithin k x (noted o c r.answer (services next (after_serve o r))))
    (λ _. in-time k next o x w stands)
    (λ a l s _. let after = after_serve o (outcome (done a) l) in turn k a after s (stands s.fit) (λ m. in-time m next after x))
  where
    turn : (k : ℕ) (a : Serving) (after : Office) → Serves c.marks c.limit o a after → Stands x k (queue (grids o) o.order)
        → ((m : ℕ) → waits after x ≡ true → (FitOrder (grids after) after.order → Stands x m (queue (grids after) after.order))
        → 1 ≤ m → ServedWithin m x (services next after))
        → ServedWithin k x (noted o c (done a) (services next after))
    turn zero a after s st rest h = let z : ⊥ = omega (arith, st.few) in absurd z
    turn (suc m) a after s st rest h =
        unfold any to_serve in
        true-or (eqb a.place x) _ (elim (ℕ_discrete a.place x) [
          | yes e ↦ inl (eq-eqb a.place x e)
          | no d ↦
              let e : x ≢ a.place = λ f. d (sym f) in
              let up = moves-up (waits o) (grids o) x a.place m o.order w s.chosen e st in
              inr (rest m (same-waits o after x (s.elsewhere x e) ∙ w) (λ _. rw (s.as_many, s.order) up) (omega (arith, up.few)) (omega arith))
        ])

pub served-in-time : ServedInTime
served-in-time o next x h w = in-time (grids o) next o x w (λ fit. stands-in (grids o) x o.order fit h) (omega arith)

-- ---- each grid's results are those of the same calls made on it alone

pub alone : (calls : List Request) (o : Office) (x : ℕ) → AsAlone (grid_at o x) (filter (of_place x) (services calls o)) (grid_at (after_all calls o) x)
unfolding services after_all after_serve filter run call
alone [] o x = record { answers = refl; end = refl }
alone (c ∷ calls) o x =
    by-serve c.marks c.limit o
    (λ r. let next = after_serve o r in
    AsAlone (grid_at o x) (filter (of_place x) (noted o c r.answer (services calls next))) (grid_at (after_all calls next) x))
    (λ _. alone calls o x)
    (λ a l s. let next = after_serve o (outcome (done a) l) in turn a next s (ℕ_discrete a.place x) (alone calls next x))
  where
    turn : (a : Serving) (next : Office) → Serves c.marks c.limit o a next → Dec (a.place ≡ x)
        → AsAlone (grid_at next x) (filter (of_place x) (services calls next)) (grid_at (after_all calls next) x)
        → AsAlone (grid_at o x) (filter (of_place x) (noted o c (done a) (services calls next))) (grid_at (after_all calls next) x)
    turn a next s (no d) r =
        rw (ne_eqb a.place x d)
        (subst (λ (g : State). AsAlone g (filter (of_place x) (services calls next)) (grid_at (after_all calls next) x)) (s.elsewhere x (λ e. d (sym e))) r)
    turn a next s (yes e) r =
        let own = filter (of_place x) (services calls next) in
        let marks = part_at (sizes o) c.marks a.place in
        let grid : grid_at o a.place ≡ grid_at o x = ap (grid_at o) e in
        let answered = ap (λ (g : State). (carve marks c.limit g).answer) (sym grid) ∙ s.answered in
        let carved = ap (grid_at next) (sym e) ∙ s.own ∙ ap (λ (g : State). (call (carve_up_to marks c.limit) g).end) grid in
        rw (eq-eqb a.place x e)
        (record {
          answers = ap₂ (λ (r : Reply Carving) (rs : List (Reply Carving)). r ∷ rs) (sym answered) (r.answers ∙ ap (answers_alone own) carved);
          end = r.end ∙ ap (λ (g : State). (run (carves_of own) g).end) carved;
        })

-- and so are their sums
pub sums-alone : (own : List Service) (g : State) → map (λ c. done c.carving) own ≡ answers_alone own g → sums_of own ≡ (run (carves_of own) g).answers
unfolding run call
sums-alone [] g e = refl
sums-alone (c ∷ own) g e =
    let first : done c.carving ≡ (carve c.marks c.limit g).answer = cc in
    let rest : map (λ c. done c.carving) own ≡ answers_alone own (call (carve_up_to c.marks c.limit) g).end = cc in
    ap₂ both (ap of_carve first) (sums-alone own (call (carve_up_to c.marks c.limit) g).end rest)
