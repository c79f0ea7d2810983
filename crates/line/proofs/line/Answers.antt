-- `line::line` meets its contract.
use mathlib.Core.Path.{◌≡◌, ap, sym, ◌∙◌}
use mathlib.Core.Bool.{Bool, true, false, cond}
use mathlib.Core.List.{List}
use Prim.Native.Nat.{ℕ}
use lib.Dec.{ltb}
use lib.ListN.{length}
use borrow.Author.Rules.{rules}
use borrow.Author.Tests.{lt-ltb, le-ltb}
use Rattle.text.specs.Line.{refused_line}
use Rattle.text.specs.Written.{printed}
use Rattle.program.specs.Program.{file_line, longest_input, program_line}
use Rattle.line.proofs.line.Goals as goal

by_length : (input : List ℕ) (t : Bool) → ltb longest_input (length input) ≡ t → printed (cond t (refused_line 25) (file_line input)) ≡ printed (program_line input)
unfolding program_line
by_length input t e = ap (λ (u : Bool). printed (cond u (refused_line 25) (file_line input))) (sym e)

pub returns-then-input-gt65536 : goal.returns-then-input-gt65536
returns-then-input-gt65536 c = c.refused_line.ensures ∙ by_length _ true (lt-ltb _ _ c.if-input-gt65536.true)

pub returns : goal.returns
returns c = c.file_line.ensures ∙ by_length _ false (le-ltb _ _ c.if-input-gt65536.false)
