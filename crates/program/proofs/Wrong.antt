-- Wrong programs are told from the rule by worked files.
use mathlib.Core.Path.{◌≡◌, refl, ap, sym, ◌∙◌}
use mathlib.Core.List.{List, []}
use Prim.Native.Nat.{ℕ}
use native.Mathlib.Omega.{arith}
use lib.ListN.{replicate, length-replicate}
use lib.IntN.{pos}
use Rattle.rules.specs.Cases.{sides, case_d}
use Rattle.rules.specs.Marks.{no_marks}
use Rattle.rules.specs.Machine.{State}
use Rattle.format.specs.Examples.File.{header, file_d}
use Rattle.text.specs.Line.{Line, refused_line, carved_line}
use Rattle.program.specs.Program.{file_line}
use Rattle.program.specs.Wrong.{late_for, WrongPrograms, LineAnswers}
use Rattle.program.proofs.Examples.{whole-program, too_long, examples}

-- the number of a line that tells of a refusal
number : Line → ℕ
number (refused_line n) = n
number (carved_line kept removed opened examined euler) = 0

-- the shortest input that is too long, of zeros
long : List ℕ
long = replicate 65537 0

wrong-mark : late_for long (file_line long) ≡ refused_line 22
unfolding whole-program long
wrong-mark = refl

pub wrong-programs : WrongPrograms
unfolding whole-program number long
wrong-programs =
    record {
      carves-once = λ h.
          let z : ◌≡◌ {A = ℕ} 2 1 = ap (λ (g : State). g.rec.examinations) (h (no_marks (sides 4 4 3)) case_d) in
          omega arith;
      takes-25 = λ h. let z : ◌≡◌ {A = ℕ} 1 21 = ap number (h (header 0x48 25 3 3)) in omega arith;
      takes-no-24 = λ h. let z : ◌≡◌ {A = ℕ} 21 1 = ap number (h (header 0x48 24 3 3)) in omega arith;
      has-25-last = λ h.
          let z : ◌≡◌ {A = ℕ} 25 22 =
          ap number (sym (too_long long (omega (arith, length-replicate {A = ℕ} 65537 0))) ∙ h long ∙ wrong-mark) in
          omega arith;
    }

pub line-answers : LineAnswers
unfolding number
line-answers =
    record {
      not-refused = (file_d, λ n e. told (sym examples.case-d ∙ e));
      varies = λ c h.
          let z : ◌≡◌ {A = ℕ} 0 21 = ap number (sym examples.case-d ∙ h file_d ∙ sym (h []) ∙ examples.no_header) in
          omega arith;
    }
  where
    told : {n : ℕ} → carved_line 2 2 0 2 (pos 1) ≡ refused_line n → ⊥
    told e = let z : ◌≡◌ {A = ℕ} 0 1 = cc in omega arith
