-- The worked cases, by computation from the rules.
use mathlib.Core.Path.{◌≡◌, refl, ap, ◌∙◌}
use mathlib.Core.Bool.{false}
use Rattle.std.specs.Prelude.{Some}
use lib.IntN.{pos, negsuc}
use lib.Ieee.{fin}
use Rattle.cells.proofs.Examples.{local-tests}
use Rattle.rules.specs.Answer.{done, outcome}
use Rattle.rules.specs.Cases.{sides, case_a, ended, values_d}
use Rattle.rules.proofs.Cases.{all-rules, case-a, case-d}
use Rattle.surface.specs.Surface.{crossing}
use Rattle.surface.proofs.Worked.{rule}
use Rattle.format.specs.File.{read}
use Rattle.format.specs.Examples.File.{file_d}
use Rattle.format.proofs.Examples.File as files
use Rattle.text.specs.Line.{decimal, line_text}
use Rattle.program.specs.Program.{zeros}
use Rattle.program.proofs.Examples as lines
use Rattle.cases.specs.Cases.{Cases}
use Rattle.cases.proofs.Carved.{case-c}

a_point :
    (crossing 13 0 (ended case_a)).answer
    ≡ done (Some (record { x = fin false 3 (negsuc 0); y = fin false 1 (pos 0); z = fin false 1 (pos 0) }))
unfolding all-rules rule
a_point = refl

d-file : read file_d (zeros 48) ≡ outcome (done (record { sides = sides 4 4 3; allowed = 0 })) values_d
unfolding all-rules
d-file = (files.examples).case-d

pub worked-cases : Cases
unfolding line_text decimal
worked-cases =
    record {
      local-tests = local-tests;
      a = case-a;
      a_point = a_point;
      c = case-c;
      d = case-d;
      d-file = d-file;
      d-line = (lines.examples).case-d;
      d-text = ap line_text (lines.examples).case-d ∙ refl;
    }
