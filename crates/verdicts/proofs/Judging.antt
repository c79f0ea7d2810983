-- judge, by the number of the whole list and what its entries come to, with both buffers as they began.
use Rattle.std.specs.Prelude.{Result, Ok, Err, IsErrAnd}
use mathlib.Core.Path.{◌≡◌, refl, ap, sym, ◌∙◌}
use mathlib.Core.Bool.{Bool, true}
use mathlib.Core.List.{List}
use Prim.Native.Nat.{ℕ, zero, suc, ◌*◌}
use Rattle.rules.specs.declared.Sides.{Sides}
use Rattle.rules.specs.Answer.{refused, done, outcome, untouched, buffers}
use Rattle.rules.specs.declared.Refusal.{Refusal}
use Rattle.rules.specs.Refusals.{number_of, replied}
use Rattle.rules.specs.Checks.{Check, first_failing, numbered}
use Rattle.rules.specs.Machine.{State, lent_to, is_inside, working_checks}
use Rattle.rules.proofs.Checks.{numbered-append}
use Rattle.rules.proofs.Refusals.{refused-before, passed-before, call-refused-by, call-passed}
use Rattle.judging.specs.Judge.{entry_length, entry_at, entry_count, entries_in, Body, start_from, goes, leaves, entry_checks, list_checks}
use Rattle.judging.specs.declared.Judgement.{Judgement}
use Rattle.judging.specs.Judge.{judgement_of, body_left, judge_checks, judge}

numbered-list : (s : Sides) (S : ℕ → Bool) (T : ℕ) (list : List ℕ) (left r : ℕ) (b : Body) → numbered (list_checks s S T list left r b) ≡ true
unfolding list_checks
numbered-list s S T list zero r b = refl
numbered-list s S T list (suc left) r b =
    let next = goes s b (entry_at list (entry_length * r)) in
    numbered-append (entry_checks s S T list (entry_length * r) b) (list_checks s S T list left (suc r) next) refl
    (numbered-list s S T list left (suc r) next)

module _ (list : List ℕ) (g : State) where
  pub judge-unfit : (l : Result Judgement Refusal) (e : Refusal) → IsErrAnd l (λ d. d ≡ e) → number_of e ≡ first_failing (working_checks g)
      → outcome (replied l) (lent_to g) ≡ judge list g
  unfolding judge
  judge-unfit (Ok j) e h f = absurd h
  judge-unfit (Err d) e h f =
      ap (λ (e : Refusal). outcome (refused (number_of e)) (lent_to g)) h
      ∙ call-refused-by (untouched (lent_to g)) _ (judge_checks list g) e (refused-before (working_checks g) _ e f)

  abbrev all : List Check
  all = list_checks g.rec.sides (is_inside g.dist) g.rec.allowed list (entry_count list) 0 (start_from g.status)

  module _ (z : 0 ≡ first_failing (working_checks g)) (m : ℕ) (q : m ≡ first_failing all) (status : List ℕ) (same : status ≡ g.status) where
    number : m ≡ first_failing (judge_checks list g)
    number = passed-before (working_checks g) _ refl z m q

    pub judge-refused : (l : Result Judgement Refusal) (e : Refusal) → IsErrAnd l (λ d. d ≡ e) → number_of e ≡ m
        → outcome (replied l) (buffers g.dist status) ≡ judge list g
    unfolding judge
    judge-refused (Ok j) e h f = absurd h
    judge-refused (Err d) e h f =
        (λ k. outcome (refused (number_of (h k))) (buffers g.dist (same k)))
        ∙ call-refused-by (untouched (lent_to g)) _ (judge_checks list g) e (f ∙ number)

    pub judge-accepted : m ≡ 0 → (j : Judgement) → j ≡ judgement_of (leaves g.rec.sides (start_from g.status) (entries_in list))
        → outcome (done j) (buffers g.dist status) ≡ judge list g
    unfolding judge body_left
    judge-accepted y j h =
        call-passed (untouched (lent_to g)) _ (judge_checks list g)
        (numbered-append (working_checks g) all refl
        (numbered-list g.rec.sides (is_inside g.dist) g.rec.allowed list (entry_count list) 0 (start_from g.status))) (sym y ∙ number) _
        (λ k. outcome (done (h k)) (buffers g.dist (same k)))
