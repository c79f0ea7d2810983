-- Judges by another rule answer something else: by computation, each on one list that tells the two apart.
use mathlib.Core.Path.{◌≡◌, refl, ap, ◌∙◌}
use mathlib.Core.List.{List, [], ◌∷◌, ◌++◌}
use Prim.Native.Nat.{ℕ, zero, suc, ◌*◌}
use native.Mathlib.Omega.{arith}
use lib.ListN.{set}
use lib.IntN.{ℤ, pos, nat_abs}
use Rattle.rules.specs.Checks.{Check, unless}
use Rattle.rules.specs.Answer.{Reply, refused, done}
use Rattle.rules.specs.Machine.{State, state, is_inside, count, lent_to, working_checks}
use Rattle.rules.specs.Cases.{case_c}
use Rattle.judging.specs.declared.Judgement.{Judgement}
use Rattle.judging.specs.Judge.{entry_length, entry_at, entry_count, Body, goes, list_checks, judgement_of, body_left, judge_checks, judge}
use Rattle.judging.specs.Own.{ordinary, opening, list_bytes}
use Rattle.judging.specs.Examples.{strange, body, resting_d, ring, arc, two_within, cross, opened_before}
use Rattle.judging.specs.Wrong.{list_by, judge_by, fresh, in_order, in_turn, still_passes, JudgeInParts, WrongJudges, JudgeAnswers}
use Rattle.rules.proofs.Answers.{answers}
use Rattle.judging.proofs.Accepted.{answer-alone}
use Rattle.judging.proofs.Examples.{judge-rules}

-- ---- the rule's own parts make the rule

list-in-parts : (list : List ℕ) (g : State) (left r : ℕ) (b : Body)
    → list_checks g.rec.sides (is_inside g.dist) g.rec.allowed list left r b ≡ list_by in_order in_turn still_passes list g left r b
unfolding list_checks list_by
list-in-parts list g zero r b = refl
list-in-parts list g (suc left) r b =
    let own = in_order _ _ _ _ in
    ap (λ (rest : List Check). own ++ rest) (list-in-parts list g left (suc r) (goes g.rec.sides b (entry_at list (entry_length * r))))

pub judge-in-parts : JudgeInParts
unfolding judge judge_by body_left
judge-in-parts list g =
    answer-alone (lent_to g) _ (judge_checks list g)
    ∙ ap (λ (rest : List Check). unless (working_checks g ++ rest) (λ n. refused n) (done (judgement_of (body_left list g))))
    (list-in-parts list g (entry_count list) 0 (fresh g))

-- ---- two answers that differ

another-number : {A : Type 0} (m n : ℕ) → (m ≡ n → ⊥) → ◌≡◌ {A = Reply A} (refused m) (refused n) → ⊥
another-number m n f e = f cc

-- the rule accepts, the other refuses
refuses : {A : Type 0} (a : A) (n : ℕ) → done a ≡ refused n → ⊥
refuses a n e = let z : ◌≡◌ {A = ℕ} 0 1 = cc in omega arith

-- the other accepts
accepts : {A : Type 0} (a : A) (n : ℕ) → refused n ≡ done a → ⊥
accepts a n e = let z : ◌≡◌ {A = ℕ} 0 1 = cc in omega arith

both-accept : {A : Type 0} (a b : A) → done a ≡ done b → a ≡ b
both-accept a b e = cc

-- D with the second of its two outside voxels the farther
uneven : State
uneven = let g = resting_d 0 in state g.rec (set g.dist 25 (pos 2)) g.status

-- a record that counted so much before
before : ℕ → ℤ → State
before removed change = let g = resting_d 0 in state (count g.rec 0 removed 0 change) g.dist g.status

pub wrong-judges : WrongJudges
unfolding judge-rules judge_by list_by body resting_d ring arc two_within cross uneven before
wrong-judges =
    record {
      removals-of-the-record = λ h.
          let z : ◌≡◌ {A = ℕ} 2 3 = ap (λ (j : Judgement). j.removed) (both-accept _ _ (h both_d (before 1 (pos 0)))) in omega arith;
      euler-of-the-record = λ h.
          let z : ◌≡◌ {A = ℕ} 1 2 = ap (λ (j : Judgement). nat_abs j.euler) (both-accept _ _ (h both_d (before 0 (pos 1)))) in omega arith;
      openings-of-the-record = λ h. refuses _ 32 (h (list_bytes (opening 37 ∷ [])) (opened_before (ring 1)));
      whole-list-first = λ h. another-number 32 21 (λ e. omega arith) (h (list_bytes (ordinary 21 ∷ []) ++ (0x56 ∷ [])) (resting_d 0));
      all-marks-first = λ h. another-number 32 22 (λ e. omega arith) (h (list_bytes (ordinary 21 ∷ []) ++ strange) (resting_d 0));
      all-indices-first = λ h. another-number 32 5 (λ e. omega arith) (h (list_bytes (ordinary 21 ∷ ordinary 48 ∷ [])) (resting_d 0));
      asks-for-quiet = λ h. refuses _ 13 (h [] (case_c 0));
      marks-before-length = λ h. another-number 21 22 (λ e. omega arith) (h (0x00 ∷ []) (resting_d 0));
      index-before-marks = λ h. another-number 22 5 (λ e. omega arith) (h (0x56 ∷ 0x50 ∷ 48 ∷ 0 ∷ 0 ∷ 0 ∷ []) (resting_d 0));
      turn-before-index = λ h. another-number 5 32 (λ e. omega arith) (h (list_bytes (ordinary 48 ∷ [])) (resting_d 0));
      opens-while-one-passes = λ h. accepts _ 32 (h (list_bytes (opening 22 ∷ ordinary 25 ∷ [])) (resting_d 1));
      opens-while-another-passes = λ h. accepts _ 32 (h (list_bytes (opening 37 ∷ [])) arc);
      opens-within = λ h. accepts _ 32 (h (list_bytes (opening 62 ∷ [])) cross);
      opens-farthest = λ h. refuses _ 32 (h (list_bytes (opening 44 ∷ ordinary 45 ∷ [])) two_within);
      takes-farthest = λ h. refuses _ 32 (h both_d uneven);
      takes-inside = λ h. another-number 32 33 (λ e. omega arith) (h (list_bytes (ordinary 21 ∷ [])) (resting_d 0));
      takes-failing = λ h. accepts _ 32 (h (list_bytes (ordinary 37 ∷ [])) (ring 1));
      takes-pending = λ h. refuses _ 32 (h both_d (resting_d 0));
      one-opening-more = λ h. accepts _ 32 (h (list_bytes (opening 37 ∷ [])) (ring 0));
      end-unchecked = λ h. accepts _ 33 (h [] (resting_d 0));
      end-asks-for-pending = λ h. accepts _ 33 (h [] (resting_d 0));
      removals-without-openings = λ h.
          let z : ◌≡◌ {A = ℕ} 1 0 = ap (λ (j : Judgement). j.removed) (both-accept _ _ (h (list_bytes (opening 37 ∷ [])) (ring 1))) in omega arith;
    }
  where
    both_d : List ℕ
    both_d = list_bytes (ordinary 22 ∷ ordinary 25 ∷ [])

pub judge-answers : JudgeAnswers
unfolding judge-rules body ring
judge-answers = answers (λ list. (judge list (ring 1)).answer) (list_bytes (opening 37 ∷ [])) (list_bytes (ordinary 37 ∷ [])) 32 refl refl
