-- `text::refused_line` meets its contract.
use mathlib.Core.Path.{refl}
use Rattle.text.proofs.Lines.{is-printed}
use Rattle.text.proofs.refused_line.Goals as goal

pub slice_bounds-put_refused-end : goal.slice_bounds-put_refused-end
slice_bounds-put_refused-end c = refl

pub put_refused-start-requires : goal.put_refused-start-requires
put_refused-start-requires c = refl

pub returns : goal.returns
returns c = is-printed _ _ _ _ c.put_refused-start.auto.out c.put_refused-start.ensures
