-- `local_test::groups_of` meets its contract: its groups and face are the whole test's.
use mathlib.Core.Path.{◌≡◌, ap}
use Rattle.cells.specs.Cells.{Test}
use Rattle.local_test.specs.declared.Local.{Local}
use Rattle.local_test.specs.Answers.{as_test, GroupsOf}
use Rattle.local_test.proofs.groups_of.Goals as goal

-- with the test's own counts of corners, edges and faces they are the test
same-groups : (l : Local) (t : Test) → as_test l ≡ t → GroupsOf t (record { k = l.k; m = l.m; face = l.face })
same-groups l t e = λ i. record { k = (e i).k; m = (e i).m; corners = t.corners; edges = t.edges; faces = t.faces; face = (e i).face }

pub returns : goal.returns
returns c = same-groups _ _ c.local_test-k.ensures
