-- `local_test::local_test` meets its contract: the groups and counts of ones give the test.
use mathlib.Core.Path.{◌≡◌, ◌∙◌}
use native.Mathlib.Omega.{arith}
use borrow.Author.Rules.{rules}
use Rattle.cells.specs.Cells.{Test, test}
use Rattle.touched_cells.specs.Block.{kept_in}
use Rattle.local_test.specs.declared.Local.{Local}
use Rattle.local_test.specs.Answers.{as_test}
use Rattle.local_test.proofs.Counts.{Counted, counted}
use Rattle.local_test.proofs.Faces.{face-of}
use Rattle.local_test.proofs.local_test.Goals as goal
use Rattle.local_test.proofs.local_test.Goals.{After-touched-t, After-touched_groups-k}

known : (c : After-touched-t) → Counted (kept_in c.args.block) c.touched-t.result
known c = counted (kept_in c.args.block) c.touched-t.result c.touched-t.ensures

pub touched_groups-k-requires : goal.touched_groups-k-requires
touched_groups-k-requires c = (kept_in c.args.block, c.touched-t.ensures)

groups-are : (c : After-touched_groups-k) → let t = c.before in c.touched_groups-k.result ≡ (test (kept_in t.args.block)).k
groups-are c = let t = c.before in c.touched_groups-k.ensures (kept_in t.args.block) t.touched-t.ensures

pub bare_groups-requires : goal.bare_groups-requires
bare_groups-requires c =
    let f = known (goal.at.bare_groups-requires c).After-touched-t in
    let k = groups-are c in
    (omega arith, omega arith)

same_test : (l : Local) (t : Test) → l.k ≡ t.k → l.m ≡ t.m → l.corners ≡ t.corners → l.edges ≡ t.edges → l.faces ≡ t.faces → l.face ≡ t.face
    → as_test l ≡ t
same_test l t k m c e f n = λ i. record { k = k i; m = m i; corners = c i; edges = e i; faces = f i; face = n i }

pub returns : goal.returns
returns c =
    let kept = kept_in c.args.block in
    let f = known (goal.at.returns c).After-touched-t in
    let k = groups-are (goal.at.returns c).After-touched_groups-k in
    let m = c.bare_groups.ensures in
    same_test _ (test kept) k (omega arith) f.corners f.edges f.faces
    (c.bare_face.ensures ∙ face-of kept c.touched-t.result c.touched-t.ensures)
