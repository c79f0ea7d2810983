-- `verdicts::walk` meets its contract: the voxels of the entries so far are gone, and those from there on decide.
use mathlib.Core.Path.{refl, sym, ◌∙◌}
use Prim.Native.Nat.{◌^◌, ◌<◌}
use native.Mathlib.Omega.{arith}
use lib.ListN.{length}
use borrow.Author.Rules.{rules}
use Rattle.tallies.proofs.Counts.{tally-more}
use Rattle.verdicts.proofs.Walking.{number-err, number-ok, walking_start, walking-refused, walking-step, walking-next, walking-end}
use Rattle.verdicts.proofs.walk.Goals as goal

pub loop-tally-init : goal.loop-tally-init
loop-tally-init c = walking_start _ _ _ _ _ c.requires

pub returns-then-is_err : goal.returns-then-is_err
returns-then-is_err c =
    let v = c.entry_refusal-verdict in
    walking-refused _ _ _ _ _ _ _ c.loop-tally.invariant c.loop-tally-test.true _ v.ensures
    (number-err v.result (sym c.is_err.ensures.value ∙ c.if-is_err.true)) _ refl

pub step-tally-requires : goal.step-tally-requires
step-tally-requires c =
    let v = c.entry_refusal-verdict in
    let long : length c.args.list.now < 2 ^ 64 = search rules in
    walking-step _ _ _ _ _ _ _ c.loop-tally.invariant c.loop-tally-test.true _ v.ensures
    (number-ok v.result (sym c.is_err.ensures.value ∙ c.if-is_err.false)) c.requires.few long

pub loop-tally-smaller : goal.loop-tally-smaller
loop-tally-smaller c = omega (arith, c.loop-tally-test.true, tally-more _ _ _ _ _ c.step-tally.ensures.0)

pub loop-tally-preserved : goal.loop-tally-preserved
loop-tally-preserved c =
    let v = c.entry_refusal-verdict in
    walking-next _ _ _ _ _ _ _ c.loop-tally.invariant c.loop-tally-test.true _ v.ensures
    (number-ok v.result (sym c.is_err.ensures.value ∙ c.if-is_err.false)) _ _ c.step-tally.ensures.1 c.step-tally.ensures.0

pub returns : goal.returns
returns c = walking-end _ _ _ _ _ _ _ c.loop-tally.invariant c.loop-tally-test.false _ c.end_refusal.ensures _ refl
