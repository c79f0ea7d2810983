-- `text::carved_line` meets its contract.
use mathlib.Core.Path.{refl}
use Rattle.text.proofs.Lines.{is-printed}
use Rattle.text.proofs.carved_line.Goals as goal

pub slice_bounds-put_carved-end : goal.slice_bounds-put_carved-end
slice_bounds-put_carved-end c = refl

pub put_carved-start-requires : goal.put_carved-start-requires
put_carved-start-requires c = refl

pub returns : goal.returns
returns c = is-printed _ _ _ _ c.put_carved-start.auto.out c.put_carved-start.ensures
