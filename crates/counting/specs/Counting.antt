-- What a record's counts ask so that they can grow.
use Rattle.std.specs.Prelude.{ℕ, ◌+◌, ◌≤◌, ℤ, nat_abs}
use Rattle.rules.specs.declared.Record.{Record}

-- counts that have room for one call
pub record Countable (r : Record) (opened : ℕ) (change : ℤ) : Type 0 where
  pub examinations : r.examinations ≤ 7077888
  pub removals : r.removals ≤ 262144
  pub openings : r.openings + opened ≤ r.allowed
  pub euler : nat_abs r.euler ≤ 2097152
  pub small : nat_abs change ≤ 52
