-- `watching::any_since` meets its contract: the entries are asked one after the other.
use mathlib.Core.Path.{sym, ap, subst, ◌∙◌}
use mathlib.Core.Bool.{Bool}
use Prim.Native.Nat.{ℕ, ◌-◌}
use native.Mathlib.Omega.{arith}
use Rattle.prelude.proofs.Lists.{true-any}
use Rattle.prelude.proofs.Ranges.{mem-range, any-run-none-of}
use Rattle.rules.specs.Grid.{range}
use Rattle.rules.specs.Neighbours.{Inner}
use Rattle.entries.specs.Entries.{index_of}
use Rattle.watching.specs.Watching.{any_around}
use Rattle.watching.proofs.Since.{some_since}
use Rattle.watching.proofs.any_since.Goals as goal
use Rattle.watching.proofs.any_since.Goals.{At-loop-r}

-- whether one goes around the voxel of an entry
abbrev near : At-loop-r → ℕ → Bool
near l r = let a = l.args in any_around a.s a.dist.now a.status.now (index_of a.list.now r)

pub index_of-i-requires : goal.index_of-i-requires
index_of-i-requires c = let p = c.requires in omega (arith, p.listed.whole, c.loop-r-test.true)

pub any_around-requires : goal.any_around-requires
any_around-requires c =
    let p = c.requires in
    (p.held, subst (Inner _) (sym c.index_of-i.ensures) (p.past c.loop-r.r c.loop-r-test.true))

pub returns-then-any_around : goal.returns-then-any_around
returns-then-any_around c =
    let a = c.args in
    let l = (goal.at.returns-then-any_around c).At-loop-r in
    sym (true-any (near l) (range a.from (a.to - a.from)) c.loop-r.r (mem-range a.from (a.to - a.from) c.loop-r.r (omega arith) (omega (arith, c.loop-r-test.true)))
    (ap (any_around a.s a.dist.now a.status.now) (sym c.index_of-i.ensures) ∙ sym c.any_around.ensures ∙ c.if-any_around.true))
    ∙ some_since _ _ _ _ _ _ c.requires

pub returns : goal.returns
returns c =
    let a = c.args in
    let l = (goal.at.returns c).At-loop-r in
    sym (any-run-none-of (near l) a.from (a.to - a.from) (λ q low high. c.loop-r.invariant q low (omega (arith, high))))
    ∙ some_since _ _ _ _ _ _ c.requires
