-- `searching::to_open` meets its contract: the first voxel of the greatest height is the first that may be opened.
use mathlib.Core.Path.{sym, ◌∙◌, subst}
use Prim.Native.Nat.{ℕ, ◌+◌, ◌-◌, ◌*◌}
use native.Mathlib.Omega.{arith}
use borrow.Author.Rules.{rules}
use mir.Val.{SFits}
use mir.Syntax.{w32}
use Rattle.prelude.proofs.Signs.{held-negative}
use Rattle.rules.specs.Grid.{size}
use Rattle.rules.specs.Marks.{marked}
use Rattle.searching.specs.Argmax.{key_at, rank, Holding, Layers}
use Rattle.searching.proofs.Opening.{layers, nothing, at_first}
use Rattle.searching.proofs.Argmax.{rank-none, rank-some, leading-all}
use Rattle.searching.proofs.to_open.Goals as goal
use Rattle.searching.proofs.to_open.Goals.{After-highest-held}

-- the search over the grid's voxels
held :
    (c : After-highest-held)
    → let a = c.args in
    let l = a.s.a * a.s.b in
    Holding (key_at (marked a.marks.now) a.dist.now a.status.now a.s.a l) (1 + a.s.a + l) (size a.s - (1 + a.s.a + l))
    c.highest-held.result
held c =
    let a = c.args in
    let l = a.s.a * a.s.b in
    subst (λ (n : ℕ). Holding (key_at (marked a.marks.now) a.dist.now a.status.now a.s.a l) (1 + a.s.a + l) (n - (1 + a.s.a + l))
    c.highest-held.result)
    c.requires.body.statuses.lent c.highest-held.ensures

pub overflow_mul-l : goal.overflow_mul-l
overflow_mul-l c = record { fits = let y = layers _ _ _ _ c.requires in let b = y.layer in omega arith }

pub highest-held-requires : goal.highest-held-requires
highest-held-requires c =
    let a = c.args in
    let p = c.requires in
    let e = p.body.statuses.lent in (
      subst (Layers a.s.a (a.s.a * a.s.b)) (sym e) (layers a.s a.dist.now a.marks.now a.status.now p),
      (p.lent.0 ∙ sym e, p.lent.1 ∙ sym e),
    )

pub returns-then-held-lt0 : goal.returns-then-held-lt0
returns-then-held-lt0 c =
    let a = c.args in
    let r = c.highest-held.result in
    sym (nothing a.s a.dist.now a.marks.now a.status.now c.requires (rank r.height) (held (goal.at.returns-then-held-lt0 c).After-highest-held).top
    (rank-none r.height (sym (held-negative (let f : SFits w32 c.highest-held.result.height = search rules in f)) ∙ c.if-held-lt0.true)))

pub first_of-requires : goal.first_of-requires
first_of-requires c =
    let a = c.args in
    let p = c.requires in
    let r = c.highest-held.result in
    let g = held (goal.at.first_of-requires c).After-highest-held in
    let y = layers a.s a.dist.now a.marks.now a.status.now p in
    let e = p.body.statuses.lent in (
      record {
        span = record { one = y.one; row = y.row; low = omega (arith, g.low); order = g.span; high = omega (arith, g.high, y.ends, e) };
        greatest = g.greatest;
        some = rank-some r.height (sym (held-negative (let f : SFits w32 c.highest-held.result.height = search rules in f)) ∙ c.if-held-lt0.false);
      },
      (p.lent.0 ∙ sym e, p.lent.1 ∙ sym e),
    )

pub returns-else-held-lt0 : goal.returns-else-held-lt0
returns-else-held-lt0 c =
    let a = c.args in
    let r = c.highest-held.result in
    let g = held (goal.at.returns-else-held-lt0 c).After-highest-held in
    let p = rank-some r.height (sym (held-negative (let f : SFits w32 c.highest-held.result.height = search rules in f)) ∙ c.if-held-lt0.false) in
    let f = key_at (marked a.marks.now) a.dist.now a.status.now a.s.a (a.s.a * a.s.b) in
    sym (at_first a.s a.dist.now a.marks.now a.status.now c.requires (rank r.height) g.top p c.first_of.result
    (leading-all f (1 + a.s.a + a.s.a * a.s.b) (size a.s - (1 + a.s.a + a.s.a * a.s.b)) r c.first_of.result g p c.first_of.ensures))
