-- An answer of the test as the code holds it.
use Rattle.std.specs.Prelude.{◌≡◌}
use Rattle.cells.specs.Cells.{Test}
use Rattle.local_test.specs.declared.Groups.{Groups}
use Rattle.local_test.specs.declared.Local.{Local}

abbrev pub as_test : Local → Test
as_test l = record { k = l.k; m = l.m; corners = l.corners; edges = l.edges; faces = l.faces; face = l.face }

-- the groups and the face are those of the test: with them it is the same
abbrev pub GroupsOf : Test → Groups → Type 0
GroupsOf t g = record { k = g.k; m = g.m; corners = t.corners; edges = t.edges; faces = t.faces; face = g.face } ≡ t
