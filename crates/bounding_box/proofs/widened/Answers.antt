-- `widened`: any row with a voxel of S takes its first and its last in.
use Rattle.bounding_box.specs.Bounds.{taken}
use Rattle.bounding_box.proofs.Bounding.{last_after}
use Rattle.bounding_box.proofs.widened.Goals as goal

pub returns : goal.returns
returns c =
    let P = c.in-Some.ensures in
    taken c.in-Some.p c.unwrap_or-q.result P (last_after c.args.d.now _ _ c.in-Some.p c.unwrap_or-q.result c.last_of.result P c.last_of.ensures c.unwrap_or-q.ensures)
    (λ i. record {
      x0 = c.min.ensures i;
      x1 = c.max.ensures i;
      y0 = c.min-2.ensures i;
      y1 = c.max-2.ensures i;
      z0 = c.min-3.ensures i;
      z1 = c.max-3.ensures i;
    })
