-- `patches::apply_patches` meets its contract.
use Rattle.patches.proofs.Patching.{Applying}
use Rattle.patches.proofs.apply_patches.Given as goal

abbrev pub invariant-loop-at : goal.invariant-loop-at
invariant-loop-at l = Applying l.file l.initial.values l.start l.values l.at
