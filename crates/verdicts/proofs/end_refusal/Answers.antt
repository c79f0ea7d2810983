-- `verdicts::end_refusal` meets its contract.
use mathlib.Core.Path.{sym, ◌∙◌}
use Rattle.rules.specs.Checks.{first_failing}
use Rattle.verdicts.proofs.end_refusal.Goals as goal

pub returns-then-some_pass : goal.returns-then-some_pass
unfolding first_failing
returns-then-some_pass c = simp (sym c.some_pass.ensures ∙ c.if-some_pass.true)

pub returns : goal.returns
unfolding first_failing
returns c = simp (sym c.some_pass.ensures ∙ c.if-some_pass.false)
