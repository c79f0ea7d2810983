-- `relabel`: the voxels before this one have their label.
use Rattle.components.specs.Work.{Relabels}
use Rattle.components.proofs.relabel.Given as goal

abbrev pub invariant-loop-v : goal.invariant-loop-v
invariant-loop-v l = Relabels l.voxels 0 l.v-index l.initial.label l.label
