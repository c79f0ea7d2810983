-- `line::begun_line` meets its contract.
use mathlib.Core.Path.{ap, ◌∙◌}
use Prim.Native.Nat.{ℕ}
use Rattle.text.specs.Line.{refused_line}
use Rattle.text.specs.Written.{printed}
use Rattle.line.proofs.Reading.{begin-long, ready, line-begun, line-begin-refused}
use Rattle.line.proofs.begun_line.Goals as goal

pub carved_to_end-requires : goal.carved_to_end-requires
carved_to_end-requires c =
    begin-long _ _ _ _ _ _ _ _ _ (ready _ _ _ _ _ _ _ _ _ c.begin.ensures _ c.in-Ok.is)

pub returns-in-Ok : goal.returns-in-Ok
returns-in-Ok c =
    line-begun _ _ _ _ _ _ _ _ _ c.begin.ensures _ c.in-Ok.is _ c.carved_to_end.ensures

pub returns-in-Err : goal.returns-in-Err
returns-in-Err c =
    line-begin-refused _ _ _ _ _ _ _ _ _ c.begin.ensures _ c.in-Err.is _
    (c.refused_line.ensures ∙ ap (λ (n : ℕ). printed (refused_line n)) c.from.ensures)
