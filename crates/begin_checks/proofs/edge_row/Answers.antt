-- `edge_row`: a row near an end, or the ends of any other.
use mathlib.Core.Path.{◌≡◌, refl, ap, sym, ◌∙◌}
use mathlib.Core.Bool.{Bool, ◌||◌}
use Prim.Native.Nat.{◌+◌, ◌-◌, ◌*◌, ◌/◌}
use native.Mathlib.Omega.{arith}
use Rattle.cells.specs.Groups.{any}
use Rattle.rules.specs.Grid.{range, measured_negative, missing}
use Rattle.begin_checks.specs.Given.{near_end, negative_at, edge_negative}
use Rattle.begin_checks.proofs.Scans.{any-slice}
use Rattle.begin_checks.proofs.Edges.{edge, row-on-edge, row_ends}
use Rattle.begin_checks.proofs.edge_row.Goals as goal
use Rattle.begin_checks.proofs.edge_row.Goals.{Joined-near_end, Else-near_end-2, After-any_negative-else-near_end-2, then-near_end, else-near_end}

-- whether the row lies there
near : (c : Joined-near_end) → let a = c.args in c.if-near_end.value ≡ edge a.sides a.width a.row
near c =
    let a = c.args in
    let z = near_end a.width a.sides.c (a.row / a.sides.b) in
    elim c.if-near_end.branch [
      | then-near_end w ↦ w.value-is ∙ w.if-near_end.true ∙ ap (λ (t : Bool). t || z) (sym w.if-near_end.true ∙ c.near_end.ensures)
      | else-near_end w ↦ w.value-is ∙ w.near_end-else-near_end.ensures ∙ ap (λ (t : Bool). t || z) (sym w.if-near_end.false ∙ c.near_end.ensures)
    ]

pub returns-then-near_end-2 : goal.returns-then-near_end-2
returns-then-near_end-2 c =
    let a = c.args in
    let first = a.sides.a * a.row in
    c.any_negative.ensures
    ∙ any-slice measured_negative missing a.values.now first _ a.sides.a refl c.requires.0.last
    ∙ row-on-edge a.sides a.width a.row (negative_at a.values.now)
    (sym (near (goal.at.returns-then-near_end-2 c).Joined-near_end) ∙ c.if-near_end-2.true)

-- the first and the last ones of any other
ends : (c : Else-near_end-2) → let a = c.args in edge a.sides a.width a.row ≡ c.if-near_end.value → let p = negative_at a.values.now in let first = a.sides.a * a.row in
    any p (range first a.width) || any p (range (first + a.sides.a - a.width) a.width)
    ≡ any (edge_negative a.sides a.width a.values.now) (range first a.sides.a)
ends c e = let a = c.args in row_ends a.sides a.width a.row (negative_at a.values.now) c.requires.1 (e ∙ c.if-near_end-2.false)

-- the first ones, as they were looked at
begins : (c : After-any_negative-else-near_end-2) → let a = c.args in
    c.any_negative-else-near_end-2.result ≡ any (negative_at a.values.now) (range (a.sides.a * a.row) a.width)
begins c =
    let a = c.args in
    let last = c.requires.0.last in
    let wide = c.requires.1 in
    c.any_negative-else-near_end-2.ensures
    ∙ any-slice measured_negative missing a.values.now (a.sides.a * a.row) _ a.width refl (omega arith)

pub returns-then-any_negative : goal.returns-then-any_negative
returns-then-any_negative c =
    let a = c.args in
    let g = goal.at.returns-then-any_negative c in
    let later = any (negative_at a.values.now) (range (a.sides.a * a.row + a.sides.a - a.width) a.width) in
    c.if-any_negative.true
    ∙ ap (λ (t : Bool). t || later) (sym c.if-any_negative.true ∙ begins g.After-any_negative-else-near_end-2)
    ∙ ends g.Else-near_end-2 (sym (near g.Joined-near_end))

pub returns-else-any_negative : goal.returns-else-any_negative
returns-else-any_negative c =
    let a = c.args in
    let g = goal.at.returns-else-any_negative c in
    let last = c.requires.0.last in
    let wide = c.requires.1 in
    let first = a.sides.a * a.row in
    let later = any (negative_at a.values.now) (range (first + a.sides.a - a.width) a.width) in
    c.any_negative-else-any_negative.ensures
    ∙ any-slice measured_negative missing a.values.now (first + a.sides.a - a.width) _ a.width (omega arith) last
    ∙ ap (λ (t : Bool). t || later) (sym c.if-any_negative.false ∙ begins g.After-any_negative-else-near_end-2)
    ∙ ends g.Else-near_end-2 (sym (near g.Joined-near_end))
