-- `find`: labels with the gaps filled, the search for the largest component, and its stretch of the work list.
use mathlib.Core.Path.{◌≡◌, sym, ◌∙◌, subst}
use mathlib.Core.List.{List}
use Prim.Native.Nat.{ℕ, ◌+◌, ◌*◌}
use native.Mathlib.Omega.{arith}
use native.Mathlib.Nat.{mul-le-mul}
use lib.IntN.{ℤ}
use lib.ListN.{length, replicate}
use Rattle.rules.specs.Grid.{size}
use Rattle.rules.proofs.Places.{Fit, fit}
use Rattle.rules.specs.Fill.{filled}
use Rattle.rules.specs.Fit.{Beginnable}
use Rattle.rules.proofs.Fill.{beginnable-filled}
use Rattle.floods.specs.Flood.{near_by}
use Rattle.components.specs.Search.{touching, Searchable, Longest}
use Rattle.components.proofs.Touched.{layers-touching}
use Rattle.components.proofs.Finding.{searchable, relabelled, relabels-found}
use borrow.Author.Rules.{rules}
use Rattle.components.proofs.find.Goals as goal
use Rattle.components.proofs.find.Goals.{After-largest-found, Start}

-- the values that count, with the gaps filled, and what holds of them
abbrev used : Start → List ℤ
used s = filled s.args.sides s.args.values.now

accepted : (s : Start) → Beginnable s.args.sides (used s)
accepted s = beginnable-filled s.args.sides s.args.values.now s.requires.grid

fits : (s : Start) → Fit s.args.sides
fits s = fit s.args.sides s.requires.grid.sides

pub overflow_mul-ab : goal.overflow_mul-ab
overflow_mul-ab c = let F = fits (goal.at.overflow_mul-ab c).Start in omega (arith, mul-le-mul F.a-high F.b-high)

pub overflow_mul-layers : goal.overflow_mul-layers
overflow_mul-layers c = let F = fits (goal.at.overflow_mul-layers c).Start in omega (arith, mul-le-mul F.a-high F.b-high)

pub overflow_add-a : goal.overflow_add-a
overflow_add-a c = let F = fits (goal.at.overflow_add-a c).Start in omega (arith, F.a-high)

pub overflow_add-a-2 : goal.overflow_add-a-2
overflow_add-a-2 c = let F = fits (goal.at.overflow_add-a-2 c).Start in omega (arith, F.a-high, mul-le-mul F.a-high F.b-high)

pub largest-found-requires : goal.largest-found-requires
largest-found-requires c =
    let a = c.args in (
      omega arith,
      omega arith,
      subst (λ (o : List ℕ). Searchable o (1 + a.sides.a + a.sides.a * a.sides.b) c.label.new.status (length c.label.new.dist))
          (sym (layers-touching a.sides.a (a.sides.a * a.sides.b)))
          (searchable a.sides (used (goal.at.largest-found-requires c).Start) (accepted (goal.at.largest-found-requires c).Start) c.label.new.status c.label.ensures _ (c.label.auto.dist ∙ c.requires.dist-len)),
    )

-- after the search
longest : (c : After-largest-found) → let a = c.args in
    Longest (near_by (touching a.sides.a (a.sides.a * a.sides.b)) (1 + a.sides.a + a.sides.a * a.sides.b)) c.label.new.status
    c.largest-found.new.work
    c.largest-found.result.start c.largest-found.result.end
longest c =
    let a = c.args in
    subst (λ (o : List ℕ). Longest (near_by o (1 + a.sides.a + a.sides.a * a.sides.b)) c.label.new.status c.largest-found.new.work
    c.largest-found.result.start c.largest-found.result.end) (layers-touching a.sides.a (a.sides.a * a.sides.b)) c.largest-found.ensures

-- the labels are as many as ever
whole : (c : After-largest-found) → length c.largest-found.new.label ≡ size c.args.sides
whole c = c.largest-found.auto.label ∙ c.label.auto.status ∙ c.requires.status-len

pub relabel-requires : goal.relabel-requires
relabel-requires c =
    let s = (goal.at.relabel-requires c).Start in
    let l = (goal.at.relabel-requires c).After-largest-found in
    let found = c.largest-found in
    relabelled c.args.sides (used s) (accepted s) c.label.new.status c.label.ensures found.new.work found.result.start found.result.end (longest l) _
    (c.fill.ensures.len ∙ whole l)

pub returns : goal.returns
returns c =
    let s = (goal.at.returns c).Start in
    let l = (goal.at.returns c).After-largest-found in
    let found = c.largest-found in
    let fars : c.fill.new.self ≡ replicate (length found.new.label) c.args.far = search rules in
    relabels-found c.args.sides (used s) (accepted s) c.label.new.status c.label.ensures found.new.work found.result.start found.result.end (longest l)
    c.args.far (length found.new.label) c.fill.new.self c.relabel.new.label (whole l) fars c.relabel.ensures
