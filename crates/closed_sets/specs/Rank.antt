-- The rank of the edges in a set of cells: the number of groups that they save among the corners, each joining two of them.
-- Even corners are 0, 8, 20, 24 and odd ones 2, 6, 18, 26. An edge joins an even corner and an odd one, so an even corner with an edge in
-- the set is saved, and through it the odd corners at its edges are joined.
use Rattle.std.specs.Prelude.{Bool, ◌&&◌, ◌||◌, ℕ, ◌+◌}
use Rattle.cells.specs.Cells.{bit}

-- three corners, joined two by two or not
abbrev pub rank_of3 : Bool → Bool → Bool → ℕ
rank_of3 ab ac bc = bit (ab || ac) + bit (bc || (ab && ac))

-- four: those that the last is joined to are joined through it
abbrev pub rank_of4 : Bool → Bool → Bool → Bool → Bool → Bool → ℕ
rank_of4 ab ac bc ad bd cd = bit (ad || bd || cd) + rank_of3 (ab || (ad && bd)) (ac || (ad && cd)) (bc || (bd && cd))

-- by the edges at the even corners 0, 8, 20 and 24, along x, y and z; the odd ones are 2, 6, 18 and 26
unfoldable pub rank_by : (x0 y0 z0 x8 y8 z8 x20 y20 z20 x24 y24 z24 : Bool) → ℕ
rank_by x0 y0 z0 x8 y8 z8 x20 y20 z20 x24 y24 z24 =
    bit (x0 || y0 || z0) + bit (x8 || y8 || z8) + bit (x20 || y20 || z20) + bit (x24 || y24 || z24)
    + rank_of4 ((x0 && y0) || (x8 && y8)) ((x0 && z0) || (x20 && z20)) ((y0 && z0) || (y24 && z24))
    ((y8 && z8) || (y20 && z20)) ((x8 && z8) || (x24 && z24)) ((x20 && y20) || (x24 && y24))

unfoldable pub rank : (ℕ → Bool) → ℕ
rank s = rank_by (s 1) (s 3) (s 9) (s 7) (s 5) (s 17) (s 19) (s 23) (s 11) (s 25) (s 21) (s 15)
