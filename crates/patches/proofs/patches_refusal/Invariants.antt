-- `patches::patches_refusal` meets its contract.
use Rattle.rules.proofs.Checks.{Deciding}
use Rattle.format.specs.Patch.{patches_checks}
use Rattle.patches.proofs.patches_refusal.Given as goal

abbrev pub invariant-loop-at : goal.invariant-loop-at
invariant-loop-at l = Deciding (patches_checks l.n l.file l.start) (patches_checks l.n l.file l.at)
