-- Document 02, CR 2: a file without patches is read as document 01 has it, by its layers alone (proofs/WithoutPatches.antt).
use Rattle.std.specs.Prelude.{◌≡◌, List, ◌++◌, ℕ, ◌≤◌, length, ℤ}
use Rattle.rules.specs.Checks.{unless}
use Rattle.rules.specs.Answer.{Outcome, outcome, done, untouched}
use Rattle.format.specs.declared.Header.{Header}
use Rattle.format.specs.File.{sides_in, allowed_in, header_checks, layers_checks, layers_filled, layers_end, read_up_to}

abbrev pub layers_alone : List ℕ → List ℤ → Outcome (List ℤ) Header
layers_alone file lent =
    let s = sides_in file in
    outcome (done (record { sides = s; allowed = allowed_in file })) (layers_filled s file s.c 0 lent)

pub record WithoutPatches : Type 0 where
  pub layers-alone :
      (greatest : ℕ) (file : List ℕ) (lent : List ℤ)
      → let s = sides_in file in
      length file ≤ layers_end s file
      → read_up_to greatest file lent
      ≡ unless (header_checks greatest file (length lent) ++ layers_checks s file s.c 0) (untouched lent) (layers_alone file lent)
