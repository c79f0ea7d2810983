-- A call for C: the rule's outcome, with its reply written out as a struct whose first field is the refusal number, or 0.
use Rattle.std.specs.Prelude.{◌≡◌, true, List, ℕ}
use Rattle.rules.specs.Checks.{Check, numbered, first_failing, unless}
use Rattle.rules.specs.Answer.{Reply, refused, done, Outcome, outcome, untouched}

-- what a call for C leaves: the struct that it answers, and what it was lent
pub record Returned (B L : Type 0) : Type 0 where
  pub answer : B
  pub lent : L

abbrev pub returned : {B L : Type 0} → B → L → Returned B L
returned r l = record { answer = r; lent = l }

abbrev pub written_out : {A B L : Type 0} → (Reply A → B) → Outcome L A → Returned B L
written_out struct o = returned (struct o.answer) o.lent

-- ---- the number, for readers (proofs/Replies.antt): it is that of the first check that fails, and 0 exactly where none does

abbrev pub refusal_of : {A : Type 0} → Reply A → ℕ
refusal_of (refused n) = n
refusal_of (done a) = 0

abbrev pub NumberTells : {L A : Type 0} → List Check → L → A → L → Type 0
NumberTells cs lent a after = numbered cs ≡ true → refusal_of (unless cs (untouched lent) (outcome (done a) after)).answer ≡ first_failing cs
