-- What a call answers, in document 01's numbers and values: begin and finish the record, carve a Carving, take a Removal, open an Opening.
use Rattle.std.specs.Prelude.{◌≡◌, Bool, true, false, List, ℕ, ℤ}
use Rattle.rules.specs.declared.Record.{Record}
use Rattle.rules.specs.declared.Taken.{Taken}

-- a refusal number, or what was asked for
pub data Reply (A : Type 0) : Type 0 where
  refused : ℕ → Reply A
  done : A → Reply A

abbrev pub is_done : {A : Type 0} → Reply A → Bool
is_done (refused n) = false
is_done (done a) = true

-- after a call: its answer, and what it was lent
pub record Outcome (L A : Type 0) : Type 0 where
  pub answer : Reply A
  pub lent : L

abbrev pub outcome : {L A : Type 0} → Reply A → L → Outcome L A
outcome r l = record { answer = r; lent = l }

-- a refusal returns its number alone and writes nothing
abbrev pub untouched : {L A : Type 0} → L → ℕ → Outcome L A
untouched l n = outcome (refused n) l

-- what begin and every later call on a grid are lent: worked distances and status bytes
pub record Buffers : Type 0 where
  pub dist : List ℤ
  pub status : List ℕ

abbrev pub buffers : List ℤ → List ℕ → Buffers
buffers d s = record { dist = d; status = s }

-- take answers k, m and the face, with the record
pub record Removal : Type 0 where
  pub k : ℕ
  pub m : ℕ
  pub face : ℕ
  pub next : Record

abbrev pub taken_answer : Taken → Reply Removal
taken_answer (Taken.Gone k m face next) = done (record { k = k; m = m; face = face; next = next })
taken_answer (Taken.Refused n) = refused n

-- ---- a call that is forever refusing, or gives a constant, is none of ours

-- some input is not refused
abbrev pub Accepts : {I A : Type 0} → (I → Reply A) → Type 0
Accepts {I} {A} call = (i : I) × ((a : A) × (call i ≡ done a))

-- no answer is that of every input
abbrev pub NoConstant : {I A : Type 0} → (I → A) → Type 0
NoConstant {I} {A} call = (c : A) → ((i : I) → call i ≡ c) → ⊥

pub record Answers {I A : Type 0} (call : I → Reply A) : Type 0 where
  pub accepts : Accepts call
  pub varies : NoConstant call
