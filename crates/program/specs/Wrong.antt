-- Wrong programs, each told from the rule by a worked file. proofs/Wrong.antt shows it by computation.
use Rattle.std.specs.Prelude.{◌≡◌, cond, List, ℕ, ltb, length}
use Rattle.rules.specs.Grid.{size}
use Rattle.rules.specs.Answer.{NoConstant}
use Rattle.rules.specs.Machine.{State, after, carve}
use Rattle.format.specs.File.{sides_in, read_up_to}
use Rattle.text.specs.Line.{Line, refused_line, carved_line}
use Rattle.program.specs.Program.{after_carve, zeros, line_after_read, file_line, longest_input, program_line}

-- a round's carve ends after so many examinations
abbrev pub OtherLimit : ℕ → Type 0
OtherLimit limit = ((marks : List ℕ) (g : State) → after_carve marks g ≡ after (λ r. r.next) g (carve marks limit g)) → ⊥

-- sides up to another are taken
abbrev pub OtherSide : ℕ → Type 0
OtherSide greatest = ((file : List ℕ) → file_line file ≡ line_after_read (read_up_to greatest file (zeros (size (sides_in file))))) → ⊥

-- 25 behind the numbers that read and begin give
abbrev pub late_for : List ℕ → Line → Line
late_for file (refused_line n) = refused_line n
late_for file (carved_line kept removed opened examined euler) =
    cond (ltb longest_input (length file)) (refused_line 25) (carved_line kept removed opened examined euler)

pub record WrongPrograms : Type 0 where
  pub carves-once : OtherLimit 1
  pub takes-25 : OtherSide 25
  pub takes-no-24 : OtherSide 23
  pub has-25-last : ((file : List ℕ) → program_line file ≡ late_for file (file_line file)) → ⊥

-- nor is the program one that prints the same line for every file, or a refusal
pub record LineAnswers : Type 0 where
  pub not-refused : (file : List ℕ) × ((n : ℕ) → program_line file ≡ refused_line n → ⊥)
  pub varies : NoConstant program_line
