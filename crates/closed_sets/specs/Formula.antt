-- Document 02, CR 3: the groups of bare cells by a formula, so that only the touched cells are searched (proofs/EveryBlock.antt).
use Rattle.std.specs.Prelude.{◌≡◌, Bool, ℕ, pos, ◌+ℤ◌, ◌-ℤ◌}
use Rattle.cells.specs.Cells.{test}

-- m = k + 1 - corners + edges - faces, counted among the touched cells, for every block
abbrev pub Formula : Type 0
Formula =
    (kept : ℕ → Bool)
    → let t = test kept in
    pos t.m ≡ pos t.k +ℤ pos 1 -ℤ pos t.corners +ℤ pos t.edges -ℤ pos t.faces
