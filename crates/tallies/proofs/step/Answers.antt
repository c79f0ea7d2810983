-- `tallies::step` meets its contract.
use mathlib.Core.Path.{◌≡◌, ap, sym, ◌∙◌, subst}
use native.Mathlib.Omega.{arith}
use borrow.Author.Tests.{eqb-true}
use Prim.Native.Nat.{ℕ, ◌%◌}
use Rattle.rules.specs.Status.{kept_byte, is_kept, status_of}
use Rattle.entries.specs.Entries.{taken_out}
use Rattle.tallies.specs.Counts.{Countable}
use Rattle.tallies.proofs.step.Goals as goal
use Rattle.tallies.proofs.step.Goals.{After-slice_known-2-1}

pub tally_after-next-requires : goal.tally_after-next-requires
tally_after-next-requires c =
    subst (λ (k : ℕ). Countable c.args.s c.args.status.now k c.args.t) (sym c.index_of-i.ensures) c.requires.countable

pub bounds-status-i : goal.bounds-status-i
bounds-status-i c =
    let p = c.requires.countable in
    omega (arith, c.index_of-i.ensures, p.voxel.below, p.statuses.lent)

odd : (c : After-slice_known-2-1) → let i = c in status_of i.args.status.now i.index_of-i.result % 2 ≡ 1
unfolding is_kept kept_byte
odd c =
    let i = c in
    eqb-true _ 1 (ap (λ (k : ℕ). kept_byte (status_of i.args.status.now k)) i.index_of-i.ensures ∙ i.requires.kept)

pub overflow_sub-status : goal.overflow_sub-status
overflow_sub-status c = omega (arith, odd c)

pub bounds-status-i-2 : goal.bounds-status-i-2
bounds-status-i-2 c =
    let p = c.requires.countable in
    omega (arith, c.index_of-i.ensures, p.voxel.below, p.statuses.lent)

pub returns : goal.returns
returns c =
    let a = c.args in
    (rw (← c.is_tagged-opens.ensures, ← c.index_of-i.ensures) c.tally_after-next.ensures, ap (taken_out a.status.now) c.index_of-i.ensures)
