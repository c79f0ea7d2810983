-- `relabel`: the voxels before this one have their label.
use Rattle.std.proofs.Common.{◌≡◌, get_or, pos, rules, arith, nat_abs, to_z, of_z, w32}
use Rattle.components.proofs.Relabelling.{relabels-more}
use Rattle.components.proofs.relabel.Goals as goal

pub overflow_cast-label : goal.overflow_cast-label
overflow_cast-label c =
    let w = c.requires.entries c.loop-v.v-index (omega arith) (omega arith) in
    let e : get_or c.args.voxels.now c.loop-v.v-index (pos 0) ≡ pos w.0 = w.1 in
    search rules

pub bounds-label-v : goal.bounds-label-v
bounds-label-v c =
    let w = c.requires.entries c.loop-v.v-index (omega arith) (omega arith) in
    let e : get_or c.args.voxels.now c.loop-v.v-index (pos 0) ≡ pos w.0 = w.1 in
    let h = w.2 in
    search rules

pub loop-v-preserved : goal.loop-v-preserved
loop-v-preserved c =
    let a = c.args in
    let l = c.loop-v in
    let w = c.requires.entries l.v-index (omega arith) (omega arith) in
    let e : get_or a.voxels.now l.v-index (pos 0) ≡ pos w.0 = w.1 in
    let is : nat_abs (to_z w32 (of_z w32 (get_or a.voxels.now l.v-index (pos 0)))) ≡ w.0 = search rules in
    rw is (relabels-more a.voxels.now 0 a.label.now l.v-index w.0 l.label (omega arith) e w.2 l.invariant)
