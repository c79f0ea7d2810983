-- `down`: the positions from q on have had their turn, and the one before them.
use Rattle.std.proofs.Common.{◌≡◌, ℕ, true, ◌+◌, ◌-◌, ◌*◌, ◌∙◌, ap, subst, arith}
use mathlib.Core.Path.{subst₂}
use Rattle.sweeps.specs.Sweep.{position_of, Lowered}
use Rattle.sweeps.proofs.Sweeping.{Sweeping, sweeping-start, sweeping-more, run-before}
use Rattle.sweeps.proofs.down.Goals as goal

pub loop-q-init : goal.loop-q-init
loop-q-init c =
    let a = c.args in
    (omega arith, subst (Sweeping a.st a.m a.at true a.d.now a.d.now) (omega arith) (sweeping-start a.st a.m a.at true a.d.now c.requires))

pub loop-q-preserved : goal.loop-q-preserved
loop-q-preserved c =
    let a = c.args in
    let l = c.loop-q in
    let q = l.q - 1 in
    let t = a.m + 1 - l.q in
    let run : a.at + q * a.st - a.st ≡ position_of a.at a.st a.m true t =
    run-before a.at a.st q (omega arith) ∙ ap (λ (x : ℕ). a.at + x * a.st) (omega arith) in
    let from : a.at + q * a.st ≡ position_of a.at a.st a.m true (t - 1) = ap (λ (x : ℕ). a.at + x * a.st) (omega arith) in (
      omega arith,
      subst (Sweeping a.st a.m a.at true a.d.now c.lower.new.d) (omega arith)
          (sweeping-more a.st a.m a.at true a.d.now c.requires l.d t l.invariant.1 (omega arith) c.lower.new.d
          (subst₂ (λ (x y : ℕ). Lowered x y a.st l.d c.lower.new.d) run from c.lower.ensures)),
    )
