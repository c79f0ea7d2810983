-- `settle`: the voxels before this one have their last label.
use Rattle.loops.specs.InPlace.{Each}
use Rattle.labels.specs.Labels.{settled_of}
use Rattle.labels.proofs.settle.Given as goal

abbrev pub invariant-loop-d : goal.invariant-loop-d
invariant-loop-d l = Each 0 (λ k d. settled_of d) 0 l.d-index l.initial.label l.label
