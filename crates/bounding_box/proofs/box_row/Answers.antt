-- `box_row`: three parts, and then the ends.
use Prim.Native.Nat.{ℕ}
use native.Mathlib.Omega.{arith}
use mathlib.Core.Path.{refl}
use lib.ListN.{length-take, length-drop, length-append}
use Rattle.bounding_box.proofs.Settling.{row_done}
use Rattle.bounding_box.proofs.box_row.Goals as goal

pub returns : goal.returns
returns c =
    let a = c.args in
    row_done a.low a.high a.other a.row.now c.requires.0 c.requires.1 c.fill.new.self c.loop-d.d-items c.fill-2.new.self
    c.loop-d.d-index _ _ (omega (arith, length-take {A = ℕ})) (λ k h. c.fill.ensures.clones k 0 (omega (arith, length-take {A = ℕ})) refl)
    (omega (arith, length-take {A = ℕ}, length-drop {A = ℕ}, length-append {A = ℕ}))
    (omega (arith, length-take {A = ℕ}, length-drop {A = ℕ}, length-append {A = ℕ})) c.loop-d.invariant
    (omega (arith, length-take {A = ℕ}, length-drop {A = ℕ}, length-append {A = ℕ}))
    (λ k h. c.fill-2.ensures.clones k 0 (omega (arith, length-take {A = ℕ}, length-drop {A = ℕ}, length-append {A = ℕ})) refl)
    c.chosen-p.ensures c.chosen-q.ensures
