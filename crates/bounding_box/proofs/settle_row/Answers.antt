-- `settle_row`: a row of the box, or one outside it.
use mathlib.Core.Path.{◌≡◌, refl, sym, ◌∙◌}
use mathlib.Core.Bool.{false, ◌&&◌}
use lib.ListN.{length, get_or}
use Rattle.loops.proofs.InPlace.{each-as}
use Rattle.prelude.proofs.Bools.{true-and, and_zero}
use Rattle.bounding_box.specs.Bounds.{reach, status_in, row_status}
use Rattle.loops.proofs.Parts.{each_whole}
use Rattle.bounding_box.proofs.Settling.{in_rows, contains-is, row-outside, row_inside}
use Rattle.bounding_box.proofs.settle_row.Goals as goal
use Rattle.bounding_box.proofs.settle_row.Goals.{else-contains-via-then-contains+else-contains-2, else-contains-via-else-contains}

pub returns-then-contains-2 : goal.returns-then-contains-2
returns-then-contains-2 c =
    let a = c.args in
    let b = a.b in
    let y = contains-is c.new.result b.y0 b.y1 a.y c.new.ensures.start c.new.ensures.end c.new.ensures.exhausted _ c.contains.ensures.value in
    let n = c.new-then-contains.ensures in
    let z = contains-is c.new-then-contains.result b.z0 b.z1 a.z n.start n.end n.exhausted _ c.contains-then-contains.ensures.value in
    each-as 0 (row_status b.x0 b.x1 c.rim.result) (λ x d. status_in b (record { x = x; y = a.y; z = a.z }) d) 0 (length a.row.now) a.row.now c.box_row.new.row
    (λ k l h. row_inside b a.y a.z (true-and _ _ (sym y ∙ c.if-contains.true) (sym z ∙ c.if-contains-2.true)) c.rim.result c.rim.ensures k (get_or a.row.now k 0))
    c.box_row.ensures

pub returns-else-contains : goal.returns-else-contains
returns-else-contains c =
    let a = c.args in
    let b = a.b in
    let y = contains-is c.new.result b.y0 b.y1 a.y c.new.ensures.start c.new.ensures.end c.new.ensures.exhausted _ c.contains.ensures.value in
    let out : in_rows b a.y a.z ≡ false = elim c.else-contains.branch [
      | else-contains-via-then-contains+else-contains-2 w ↦
          let n = w.new-then-contains.ensures in
          let z = contains-is w.new-then-contains.result b.z0 b.z1 a.z n.start n.end n.exhausted _ w.contains-then-contains.ensures.value in
          (λ i. reach b.y0 b.y1 a.y && (sym z ∙ w.if-contains-2.false) i) ∙ and_zero (reach b.y0 b.y1 a.y)
      | else-contains-via-else-contains w ↦ (λ i. (sym y ∙ w.if-contains.false) i && reach b.z0 b.z1 a.z)
    ] in
    each_whole 0 (λ x d. status_in b (record { x = x; y = a.y; z = a.z }) d) a.row.now c.fill.new.self c.fill.ensures.len
    (λ k h. c.fill.ensures.clones k 0 h refl ∙ row-outside b a.y a.z out k (get_or a.row.now k 0))
