-- The one enumeration: every closed set of cells, once.
use mathlib.Core.Path.{◌≡◌, refl}
use mathlib.Core.Bool.{Bool, true, false, ◌&&◌, cond}
use mathlib.Core.List.{List, [], ◌∷◌}
use Prim.Native.Nat.{ℕ, ◌+◌}
use lib.Dec.{eqb, leb}
use lib.ListN.{length, get_or}
use Rattle.cells.specs.Groups.{any, reached, others, enter}
use Rattle.cells.specs.Cells.{contains, joined, dimension, positions, bit}
use Rattle.closed_sets.specs.Rank.{rank_by}
use Rattle.closed_sets.proofs.Closed.{every_closed}

-- so far: the groups of the touched cells and of the bare ones, which edges are touched, the last one first, and the kinds of the touched cells
pub record Tally : Type 0 where
  pub touched_groups : List (List ℕ)
  pub bare_groups : List (List ℕ)
  pub edges_touched : List Bool
  pub corners : ℕ
  pub edges : ℕ
  pub faces : ℕ

abbrev pub noted : ℕ → Bool → List Bool → List Bool
noted c t es = cond (eqb (dimension c) 1) (t ∷ es) es

abbrev pub more : ℕ → ℕ → ℕ → ℕ
more d c n = n + bit (eqb (dimension c) d)

unfoldable pub touch : ℕ → Tally → Tally
touch c s =
    record {
      touched_groups = enter joined c s.touched_groups;
      bare_groups = s.bare_groups;
      edges_touched = noted c true s.edges_touched;
      corners = more 0 c s.corners;
      edges = more 1 c s.edges;
      faces = more 2 c s.faces;
    }

unfoldable pub spare : ℕ → Tally → Tally
spare c s =
    record {
      touched_groups = s.touched_groups;
      bare_groups = enter joined c s.bare_groups;
      edges_touched = noted c false s.edges_touched;
      corners = s.corners;
      edges = s.edges;
      faces = s.faces;
    }

-- the edges in the order of places are 1, 3, 5, 7, 9, 11, 15, 17, 19, 21, 23, 25
unfoldable pub rank_noted : List Bool → ℕ
rank_noted es =
    rank_by (at 11) (at 10) (at 7) (at 8) (at 9) (at 4) (at 3) (at 1) (at 6) (at 0) (at 2) (at 5)
  where
    at : ℕ → Bool
    at i = get_or es i false

unfoldable pub fits : Tally → Bool
fits s =
    eqb (length s.bare_groups + s.corners + s.faces) (length s.touched_groups + 1 + s.edges)
    && (eqb (length s.touched_groups + rank_noted s.edges_touched) s.corners && (leb (length s.touched_groups) 8 && leb (length s.bare_groups) 6))

abbrev pub nothing : Tally
nothing = record { touched_groups = []; bare_groups = []; edges_touched = []; corners = 0; edges = 0; faces = 0 }

pub all_fit : every_closed touch spare fits positions [] [] nothing ≡ true
unfolding every_closed touch spare fits any contains joined reached others enter dimension rank_noted rank_by
all_fit = refl
