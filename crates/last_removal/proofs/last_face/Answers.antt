-- `last_removal::last_face` meets its contract.
use Rattle.last_removal.proofs.last_face.Goals as goal

pub groups_at-requires : goal.groups_at-requires
groups_at-requires c = (c.requires.voxel _ c.in-Some.is, c.requires.statuses)
