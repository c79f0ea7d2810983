-- `build` meets its contract: the offsets, the leaves from them, and the nodes above.
use mathlib.Core.Path.{◌∙◌}
use Prim.Native.Nat.{◌+◌}
use native.Mathlib.Omega.{arith}
use lib.ListN.{length}
use Rattle.rules.specs.Marks.{marked}
use Rattle.keys.specs.Key.{key_at}
use Rattle.keys.proofs.Ranks.{keyed}
use Rattle.offsets.proofs.Held.{held, held-group}
use Rattle.pending.proofs.Indexing.{indexed}
use Rattle.pending.proofs.build.Goals as goal

pub fill_leaves-requires : goal.fill_leaves-requires
fill_leaves-requires c =
    let lent = c.requires.lent in
    record {
      held = held _ _ _ (keyed _ _ _ lent) _ c.fill_offsets.ensures;
      count = c.count_groups-h.ensures;
      room = omega (arith, c.requires.grouped, c.count_groups-h.ensures, lent.same);
    }

pub returns : goal.returns
returns c =
    let lent = c.requires.lent in
    let h = c.count_groups-h.result in
    let O = c.fill_offsets.ensures in
    let e = c.count_groups-h.ensures in
    record {
      lent = lent;
      index =
          indexed (key_at (marked c.args.marks.now).hurried c.args.dist.now c.args.status.now) (length c.args.dist.now) _ _ h
          e O c.join_nodes.ensures.nodes
          (λ q u.
          c.join_nodes.ensures.leaves (h + q) (omega arith) ∙ held-group _ _ _ (keyed _ _ _ lent) _ O q _ (omega (arith, e)) (c.fill_leaves.ensures q u));
    }
