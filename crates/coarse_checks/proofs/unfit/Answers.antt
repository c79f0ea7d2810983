-- `unfit` is number 31: by a side, or by the scan of the edge.
use mathlib.Core.Path.{◌≡◌, ap, sym, ◌∙◌}
use mathlib.Core.Bool.{Bool, ◌||◌}
use Rattle.prelude.proofs.Bools.{or_assoc}
use Rattle.coarse.specs.Coarse.{unfit_side, unfit_sides}
use Rattle.coarse_checks.proofs.Numbers.{by_side, by-edge, wide}
use Rattle.coarse_checks.proofs.unfit.Goals as goal
use Rattle.coarse_checks.proofs.unfit.Goals.{Joined-unfit_side, Joined-unfit_side-2, then-unfit_side, else-unfit_side, then-unfit_side-2, else-unfit_side-2}

two-are : (c : Joined-unfit_side) → let s = c.args.sides in c.if-unfit_side.value ≡ unfit_side s.a || unfit_side s.b
two-are c =
    let b = unfit_side c.args.sides.b in
    elim c.if-unfit_side.branch [
      | then-unfit_side w ↦ w.value-is ∙ w.if-unfit_side.true ∙ ap (λ (t : Bool). t || b) (sym w.if-unfit_side.true ∙ c.unfit_side.ensures)
      | else-unfit_side w ↦ w.value-is ∙ w.unfit_side-else-unfit_side.ensures ∙ ap (λ (t : Bool). t || b) (sym w.if-unfit_side.false ∙ c.unfit_side.ensures)
    ]

sides-are : (c : Joined-unfit_side-2) → let s = c.args.sides in c.if-unfit_side.value ≡ unfit_side s.a || unfit_side s.b
    → c.if-unfit_side-2.value ≡ unfit_sides s
sides-are c two =
    let s = c.args.sides in
    let last = unfit_side s.c in
    let all = or_assoc (unfit_side s.a) (unfit_side s.b) last in
    elim c.if-unfit_side-2.branch [
      | then-unfit_side-2 w ↦ w.value-is ∙ w.if-unfit_side-2.true ∙ ap (λ (t : Bool). t || last) (sym w.if-unfit_side-2.true ∙ two) ∙ all
      | else-unfit_side-2 w ↦ w.value-is ∙ w.unfit_side-else-unfit_side-2.ensures ∙ ap (λ (t : Bool). t || last) (sym w.if-unfit_side-2.false ∙ two) ∙ all
    ]

pub returns-then-unfit_side-3 : goal.returns-then-unfit_side-3
returns-then-unfit_side-3 c =
    let a = c.args in
    let g = goal.at.returns-then-unfit_side-3 c in
    c.if-unfit_side-3.true ∙ by_side a.sides a.values.now (sym (sides-are g.Joined-unfit_side-2 (two-are g.Joined-unfit_side)) ∙ c.if-unfit_side-3.true)

pub edge_negative-requires : goal.edge_negative-requires
edge_negative-requires c =
    let g = goal.at.edge_negative-requires c in
    (c.requires, wide c.args.sides c.args.values.now (sym (sides-are g.Joined-unfit_side-2 (two-are g.Joined-unfit_side)) ∙ c.if-unfit_side-3.false))

pub returns-else-unfit_side-3 : goal.returns-else-unfit_side-3
returns-else-unfit_side-3 c =
    let a = c.args in
    let g = goal.at.returns-else-unfit_side-3 c in
    by-edge a.sides a.values.now (sym (sides-are g.Joined-unfit_side-2 (two-are g.Joined-unfit_side)) ∙ c.if-unfit_side-3.false) _ c.edge_negative.ensures
