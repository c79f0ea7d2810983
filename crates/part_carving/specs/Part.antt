-- A carve in parts of longer buffers.
use Rattle.std.specs.Prelude.{List, ◌++◌, ℕ, ◌-◌, ◌≤◌, ℤ, length, take, drop}
use Rattle.rules.specs.declared.Carving.{Carving}
use Rattle.rules.specs.Answer.{Outcome, outcome, Buffers}

abbrev pub part : {A : Type 0} → List A → ℕ → ℕ → List A
part l from to = take (to - from) (drop from l)

pub record Within (from to : ℕ) (dist : List ℤ) (status marks : List ℕ) : Type 0 where
  pub ordered : from ≤ to
  pub in-dist : to ≤ length dist
  pub in-status : to ≤ length status
  pub in-marks : to ≤ length marks

-- carve's answer, and all status bytes with those that it left in the part
abbrev pub spliced : List ℕ → ℕ → ℕ → Outcome Buffers Carving → Outcome (List ℕ) Carving
spliced status from to c = outcome c.answer (take from status ++ (c.lent.status ++ drop (to - from) (drop from status)))
