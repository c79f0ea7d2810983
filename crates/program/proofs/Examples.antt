-- The worked files, by computation.
use mathlib.Core.Path.{◌≡◌, refl, ap}
use mathlib.Core.Bool.{Bool, cond}
use mathlib.Core.List.{List}
use Prim.Native.Nat.{ℕ, ◌<◌}
use lib.ListN.{length}
use borrow.Author.Tests.{lt-ltb}
use Rattle.rules.proofs.Cases.{all-rules}
use Rattle.format.proofs.Examples.File.{reading-rules}
use Rattle.text.specs.Line.{refused_line}
use Rattle.program.specs.Program.{after_carve, after_open, opens, after_finish, carve_and_open, line_of, carved_to_end, line_from, line_after_read}
use Rattle.program.specs.Program.{file_line, longest_input, program_line}
use Rattle.program.specs.Examples.{Examples}

-- all that the program computes with
unfoldable pub whole-program : Unit {0}
unfolding all-rules reading-rules after_carve after_open opens after_finish carve_and_open line_of carved_to_end line_from line_after_read file_line program_line
whole-program = tt

pub too_long : (input : List ℕ) → longest_input < length input → program_line input ≡ refused_line 25
unfolding program_line
too_long input h = ap (λ (t : Bool). cond t (refused_line 25) (file_line input)) (lt-ltb longest_input (length input) h)

pub examples : Examples
unfolding whole-program
examples =
    record {
      case-d = refl;
      case-c = refl;
      case-c-opened = refl;
      no_header = refl;
      side-25 = refl;
      side-24 = refl;
      layer-repeated = refl;
      layer-skipped = refl;
      border = refl;
      mended = refl;
      wide = refl;
      out_of_range = refl;
      too_long = too_long;
    }
