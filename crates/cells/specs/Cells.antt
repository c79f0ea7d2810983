-- Document 01, "The local test": the cells of a cube's surface, touched and bare, their groups, k and m; by document 02's CR 8 the lowest numbered
-- bare face.
-- A place of the 3 by 3 by 3 block has the index x + 3 y + 9 z, with x, y, z in 0, 1, 2; 13 is the middle.
-- A cell of the middle cube's surface has the index of the neighbour that meets the cube in just that cell: a digit 0 or 2 says on which
-- side of the cube the cell lies along that axis, and a digit 1 that it runs along the axis.
use Rattle.std.specs.Prelude.{Bool, not, ◌&&◌, ◌||◌, cond, List, [], ◌∷◌, ℕ, suc, ◌+◌, ◌/◌, ◌%◌, eqb, length}
use Rattle.cells.specs.Groups.{any, filter, groups}

-- along one axis: a runs along it, or lies on the same side as b
abbrev pub spans : ℕ → ℕ → Bool
spans a b = eqb a 1 || eqb a b

-- the neighbour, or the cell, at v contains the cell c
unfoldable pub contains : ℕ → ℕ → Bool
contains v c = spans (v % 3) (c % 3) && (spans (v / 3 % 3) (c / 3 % 3) && spans (v / 9) (c / 9))

-- joined: one lies on the border of the other (that a cell is joined to itself changes no group)
unfoldable pub joined : ℕ → ℕ → Bool
joined c d = contains c d || contains d c

-- the 26 neighbours, and the 26 cells: every place but the middle
abbrev pub positions : List ℕ
positions =
    0 ∷ 1 ∷ 2 ∷ 3 ∷ 4 ∷ 5 ∷ 6 ∷ 7 ∷ 8 ∷ 9 ∷ 10 ∷ 11 ∷ 12 ∷ 14 ∷ 15 ∷ 16 ∷ 17 ∷ 18 ∷ 19 ∷ 20 ∷ 21 ∷ 22 ∷ 23 ∷ 24 ∷ 25 ∷ 26 ∷ []

-- the faces, and the six face neighbours
abbrev pub face_positions : List ℕ
face_positions = 4 ∷ 10 ∷ 12 ∷ 14 ∷ 16 ∷ 22 ∷ []

-- A block is given by its kept places. A cell is touched if a kept voxel other than the middle contains it, otherwise bare.
unfoldable pub touched : (ℕ → Bool) → ℕ → Bool
touched kept c = any (λ v. contains v c && kept v) positions

-- the number of groups of cells
unfoldable pub group_count : List ℕ → ℕ
group_count cs = length (groups joined cs)

abbrev pub bit : Bool → ℕ
bit t = cond t 1 0

-- the number of axes that a cell runs along: 0 for a corner, 1 for an edge, 2 for a face
unfoldable pub dimension : ℕ → ℕ
dimension c = bit (eqb (c % 3) 1) + bit (eqb (c / 3 % 3) 1) + bit (eqb (c / 9) 1)

-- how many of the cells have that dimension
unfoldable pub count_of : ℕ → List ℕ → ℕ
count_of d cs = length (filter (λ c. eqb (dimension c) d) cs)

-- the faces by their numbers 0 to 5: low x, high x, low y, high y, low z, high z
abbrev pub numbered_faces : List ℕ
numbered_faces = 12 ∷ 14 ∷ 10 ∷ 16 ∷ 4 ∷ 22 ∷ []

-- how many of a list stand before the first that passes the test; all of them, where none does
unfoldable pub before : (ℕ → Bool) → List ℕ → ℕ
before p [] = 0
before p (c ∷ cs) = cond (p c) 0 (suc (before p cs))

-- what the local test gives: the groups of touched cells and of bare ones, the kinds of the touched cells, and the lowest numbered bare face, or 6
pub record Test : Type 0 where
  pub k : ℕ
  pub m : ℕ
  pub corners : ℕ
  pub edges : ℕ
  pub faces : ℕ
  pub face : ℕ

unfoldable pub test_of : List ℕ → List ℕ → Test
test_of touched_cells bare_cells =
    record {
      k = group_count touched_cells;
      m = group_count bare_cells;
      corners = count_of 0 touched_cells;
      edges = count_of 1 touched_cells;
      faces = count_of 2 touched_cells;
      face = before (λ c. any (eqb c) bare_cells) numbered_faces;
    }

unfoldable pub test : (ℕ → Bool) → Test
test kept = test_of (filter (touched kept) positions) (filter (λ c. not (touched kept c)) positions)

unfoldable pub passes : Test → Bool
passes t = eqb t.k 1 && eqb t.m 1
