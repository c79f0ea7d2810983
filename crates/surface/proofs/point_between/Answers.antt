-- `surface::point_between` meets its contract: the voxel's coordinates, and the sizes of both distances.
use mathlib.Core.Path.{◌≡◌, ap, ◌∙◌}
use lib.IntN.{nat_abs}
use mir.Facts.{to_z-of_z}
use Rattle.surface.proofs.point_between.Goals as goal

pub returns : goal.returns
returns c =
    let inside : c.from-p.result ≡ nat_abs c.args.inside = c.from-p.ensures ∙ c.unsigned_abs.ensures.value ∙ ap nat_abs (to_z-of_z c.ranges.inside) in
    let outside : c.from-q.result ≡ nat_abs c.args.outside = c.from-q.ensures ∙ c.unsigned_abs-2.ensures.value ∙ ap nat_abs (to_z-of_z c.ranges.outside) in
    let e = c.coordinates_of-v.ensures.0 in
    let g = c.point_from.ensures in
    cc
