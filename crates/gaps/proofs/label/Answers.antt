-- `label`: marks, floods from where gaps are open, and the labels that are left.
use mathlib.Core.Path.{sym, subst}
use mathlib.Core.List.{List}
use Prim.Native.Nat.{ℕ, ◌+◌, ◌*◌}
use native.Mathlib.Omega.{arith}
use native.Mathlib.Nat.{mul-le-mul}
use lib.ListN.{length}
use Rattle.rules.proofs.Places.{Fit, fit}
use Rattle.gaps.specs.Gaps.{GapsToFlood, OpenGapsFlooded}
use Rattle.gaps.proofs.Enclosing.{gaps-to-flood, labels-are}
use Rattle.gaps.proofs.label.Goals as goal
use Rattle.gaps.proofs.label.Goals.{Start}

fits : (s : Start) → Fit s.args.sides
fits s = fit s.args.sides s.requires.grid.sides

pub mark-requires : goal.mark-requires
mark-requires c = let p = c.requires in record { fit = p.grid.sides; len = p.grid.len; same = p.status-len }

pub overflow_mul-ab : goal.overflow_mul-ab
overflow_mul-ab c = let F = fits (goal.at.overflow_mul-ab c).Start in omega (arith, mul-le-mul F.a-high F.b-high)

pub faces-offsets-requires : goal.faces-offsets-requires
faces-offsets-requires c = let F = fits (goal.at.faces-offsets-requires c).Start in (F.a-high, mul-le-mul F.a-high F.b-high)

pub overflow_add-sides : goal.overflow_add-sides
overflow_add-sides c = let F = fits (goal.at.overflow_add-sides c).Start in omega (arith, F.a-high)

pub overflow_add-sides-2 : goal.overflow_add-sides-2
overflow_add-sides-2 c = let F = fits (goal.at.overflow_add-sides-2 c).Start in omega (arith, F.a-high, mul-le-mul F.a-high F.b-high)

pub flood_open_gaps-requires : goal.flood_open_gaps-requires
flood_open_gaps-requires c =
    let a = c.args in
    subst (λ (f : List ℕ). GapsToFlood f (1 + a.sides.a + a.sides.a * a.sides.b) c.mark.new.label (length a.dist.now)) (sym c.faces-offsets.ensures)
    (gaps-to-flood a.sides a.values.now c.requires.grid c.mark.new.label c.mark.ensures _ c.requires.dist-len)

pub returns : goal.returns
returns c =
    let a = c.args in
    labels-are a.sides a.values.now c.requires.grid c.mark.new.label c.mark.ensures c.flood_open_gaps.new.label
    (subst (λ (f : List ℕ). OpenGapsFlooded f (1 + a.sides.a + a.sides.a * a.sides.b) c.mark.new.label c.flood_open_gaps.new.label)
    c.faces-offsets.ensures
    c.flood_open_gaps.ensures) _ c.settle.ensures
