-- The voxel to open: a key for each voxel, the greatest key by stretches of voxels, and the first voxel that has it.
use Rattle.std.specs.Prelude.{◌≡◌, Bool, not, cond, ◌&&◌, List, ℕ, ◌+◌, ◌-◌, ◌*◌, ◌≤◌, ◌<◌, ℤ, pos, negsuc, length}
use Rattle.std.specs.Int.Signed.{lt_z}
use Rattle.rules.specs.declared.Sides.{Sides}
use Rattle.rules.specs.Grid.{size, distance_at}
use Rattle.rules.specs.Status.{is_kept}
use Rattle.rules.specs.Marks.{Marked}
use Rattle.neighbourhood.specs.Neighbourhood.{Body}
use Rattle.searching.specs.declared.Held.{Held}

-- ---- the key of a voxel

-- the six face neighbours are kept: rows are a long, layers l
unfoldable pub enclosed : List ℕ → ℕ → ℕ → ℕ → Bool
enclosed status a l i =
    is_kept status (i - l)
    && (is_kept status (i - a) && (is_kept status (i - 1) && (is_kept status (i + 1) && (is_kept status (i + a) && is_kept status (i + l)))))

-- kept, and a face neighbour is not
unfoldable pub surface_at : List ℕ → ℕ → ℕ → ℕ → Bool
surface_at status a l i = is_kept status i && not (enclosed status a l i)

-- the same, and not pinned
unfoldable pub shown_at : Marked → List ℕ → ℕ → ℕ → ℕ → Bool
shown_at m status a l i = surface_at status a l i && not (m.pinned i)

-- the distance of a voxel that may be opened, otherwise -1
unfoldable pub height_of : ℤ → Bool → ℤ
height_of d surface = cond surface d (negsuc 0)

-- one more than a distance, 0 for a negative one
abbrev pub rank : ℤ → ℕ
rank (pos n) = n + 1
rank (negsuc n) = 0

-- the same of voxel i, pinned or not
unfoldable pub surface_height : List ℤ → List ℕ → ℕ → ℕ → ℕ → ℤ
surface_height dist status a l i = height_of (distance_at dist i) (surface_at status a l i)

unfoldable pub surface_key : List ℤ → List ℕ → ℕ → ℕ → ℕ → ℕ
surface_key dist status a l i = rank (surface_height dist status a l i)

unfoldable pub height_at : Marked → List ℤ → List ℕ → ℕ → ℕ → ℕ → ℤ
height_at m dist status a l i = height_of (distance_at dist i) (shown_at m status a l i)

unfoldable pub key_at : Marked → List ℤ → List ℕ → ℕ → ℕ → ℕ → ℕ
key_at m dist status a l i = rank (height_at m dist status a l i)

-- ---- the greatest key

-- among first, .., end - 1
pub record Greatest (f : ℕ → ℕ) (first end m : ℕ) : Type 0 where
  pub top : (j : ℕ) → first ≤ j → j < end → f j ≤ m
  pub some : 0 < m → (j : ℕ) × (first ≤ j) × (j < end) × (f j ≡ m)

unfoldable pub held_of : Held → ℤ → ℕ → ℕ → Held
held_of best height first end = cond (lt_z best.height height) (record { height = height; first = first; end = end }) best

-- the greatest key among first, .., i - 1, and the first stretch that has it
pub record Holding (f : ℕ → ℕ) (first i : ℕ) (h : Held) : Type 0 where
  pub low : first ≤ h.first
  pub span : h.first ≤ h.end
  pub high : h.end ≤ i
  pub greatest : Greatest f h.first h.end (rank h.height)
  pub top : (j : ℕ) → first ≤ j → j < i → f j ≤ rank h.height
  pub before : 0 < rank h.height → (j : ℕ) → first ≤ j → j < h.first → f j < rank h.height

-- the first of the greatest key m
pub record Leading (f : ℕ → ℕ) (first end m r : ℕ) : Type 0 where
  pub low : first ≤ r
  pub high : r < end
  pub own : f r ≡ m
  pub earliest : (j : ℕ) → first ≤ j → j < r → f j < m

-- ---- what is searched

-- a distance and a mark for each of n voxels
abbrev pub Lent : List ℤ → List ℕ → ℕ → Type 0
Lent dist marks n = (length dist ≡ n) × (length marks ≡ n)

-- voxels with a layer before them and one after, in buffers of n
pub record Span (a l first end n : ℕ) : Type 0 where
  pub one : 1 ≤ a
  pub row : a ≤ l
  pub low : l ≤ first
  pub order : first ≤ end
  pub high : end + l ≤ n

-- the stretch that has the greatest height, which is a voxel's
pub record Peak (f : ℕ → ℕ) (a l n : ℕ) (h : Held) : Type 0 where
  pub span : Span a l h.first h.end n
  pub greatest : Greatest f h.first h.end (rank h.height)
  pub some : 0 < rank h.height

-- rows and layers of a grid of n voxels
pub record Layers (a l n : ℕ) : Type 0 where
  pub one : 1 ≤ a
  pub row : a ≤ l
  pub layer : l ≤ 4096
  pub ends : 2 * (1 + a + l) ≤ n

-- a body, its distances and its marks
pub record Searchable (s : Sides) (dist : List ℤ) (marks status : List ℕ) : Type 0 where
  pub body : Body s status
  pub lent : Lent dist marks (size s)
