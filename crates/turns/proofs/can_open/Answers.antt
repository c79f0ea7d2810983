-- `turns::can_open` meets its contract.
use native.Mathlib.Omega.{arith}
use Rattle.turns.proofs.Opening.{open_gone, layer, span, open-within, open-last}
use mathlib.Core.Path.{sym, ◌∙◌}
use mathlib.Core.Bool.{true≢false}
use Rattle.turns.proofs.can_open.Goals as goal
use Rattle.turns.proofs.can_open.Goals.{then-stands, else-stands}

pub stands-requires : goal.stands-requires
stands-requires c =
    let p = c.requires in
    (omega (arith, p.1, p.0.held.distances), omega (arith, p.1, p.0.held.body.statuses.lent))

pub overflow_mul-s : goal.overflow_mul-s
overflow_mul-s c =
    let p = c.requires in
    record { fits = omega (arith, layer _ _ _ p.0.held _ p.1 _ c.stands.ensures c.if-stands.true) }

pub on_surface-requires : goal.on_surface-requires
on_surface-requires c =
    let p = c.requires in
    span _ _ _ p.0.held _ p.1 _ c.stands.ensures c.if-stands.true

pub returns-then-on_surface : goal.returns-then-on_surface
returns-then-on_surface c =
    let p = c.requires in
    elim c.if-stands.branch [
      | then-stands w ↦ open-last _ _ _ p.0.held _ p.1 _ c.stands.ensures w.if-stands.true _ w.on_surface.ensures
          (sym w.value-is ∙ c.if-on_surface.true) _ c.some_pass.ensures
      | else-stands w ↦ absurd (true≢false (sym c.if-on_surface.true ∙ w.value-is ∙ w.if-stands.false))
    ]

pub returns-else-on_surface : goal.returns-else-on_surface
returns-else-on_surface c =
    let p = c.requires in
    c.if-on_surface.false
    ∙ elim c.if-stands.branch [
      | then-stands w ↦ open-within _ _ _ p.0.held _ p.1 _ c.stands.ensures w.if-stands.true _ w.on_surface.ensures
          (sym w.value-is ∙ c.if-on_surface.false)
      | else-stands w ↦ open_gone _ _ _ p.0.held _ p.1 _ c.stands.ensures w.if-stands.false
    ]
