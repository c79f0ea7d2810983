-- Document 01, "What the second supplier may hold us to": its worked cases as theorems of the rules, gathered into one list.
-- proofs/Cases.antt proves it by computation.
use Rattle.std.specs.Prelude.{◌≡◌, false, [], ◌∷◌, pos, negsuc, Some}
use Rattle.std.specs.Float.{fin}
use Rattle.cells.specs.Examples.{LocalTests}
use Rattle.rules.specs.Answer.{done, outcome}
use Rattle.rules.specs.Cases.{sides, case_a, ended, values_d, CaseA, CaseC, CaseD}
use Rattle.surface.specs.Surface.{crossing}
use Rattle.format.specs.File.{read}
use Rattle.format.specs.Examples.File.{file_d}
use Rattle.text.specs.Line.{carved_line, line_text}
use Rattle.program.specs.Program.{zeros, program_line}

pub record Cases : Type 0 where
  pub local-tests : LocalTests
  pub a : CaseA
  -- after finish, crossing 13, axis 0: (1.5, 1, 1), that is 3 times 2 ^ -1, and 1 times 2 ^ 0
  pub a_point :
      (crossing 13 0 (ended case_a)).answer
      ≡ done (Some (record { x = fin false 3 (negsuc 0); y = fin false 1 (pos 0); z = fin false 1 (pos 0) }))
  pub c : CaseC
  pub d : CaseD
  pub d-file : read file_d (zeros 48) ≡ outcome (done (record { sides = sides 4 4 3; allowed = 0 })) values_d
  -- kept 2 removed 2 opened 0 examined 2 euler 1
  pub d-line : program_line file_d ≡ carved_line 2 2 0 2 (pos 1)
  pub d-text :
      line_text (program_line file_d)
      ≡ 107 ∷ 101 ∷ 112 ∷ 116 ∷ 32 ∷ 50 ∷ 32 ∷ 114 ∷ 101 ∷ 109 ∷ 111 ∷ 118 ∷ 101 ∷ 100 ∷ 32 ∷ 50 ∷ 32 ∷ 111 ∷ 112 ∷ 101 ∷ 110 ∷ 101 ∷ 100 ∷ 32 ∷ 48
      ∷ 32 ∷ 101 ∷ 120 ∷ 97 ∷ 109 ∷ 105 ∷ 110 ∷ 101 ∷ 100 ∷ 32 ∷ 50 ∷ 32 ∷ 101 ∷ 117 ∷ 108 ∷ 101 ∷ 114 ∷ 32 ∷ 49 ∷ 10 ∷ []
