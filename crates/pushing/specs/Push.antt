-- Pushes on a work list. A voxel has the label 1 before a flood takes it and 2 after; one with any other label no flood takes.
use Rattle.std.specs.Prelude.{◌≡◌, Bool, cond, ℕ, ◌+◌, ◌*◌, ◌≤◌, eqb, ℤ, pos, length, get_or, set}
use mathlib.Core.List.{List, [], ◌∷◌, flat_map}
use Rattle.cells.specs.Groups.{filter}
use Rattle.rules.specs.Grid.{range}
use Rattle.pushing.specs.declared.Patch.{Patch}

-- labels, the work list, and where it ends
pub record Fill : Type 0 where
  pub labels : List ℕ
  pub work : List ℤ
  pub end : ℕ

abbrev pub fill_of : List ℕ → List ℤ → ℕ → Fill
fill_of l w e = record { labels = l; work = w; end = e }

abbrev pub pushed : ℕ → Fill → Fill
pushed j f = record { labels = set f.labels j 2; work = set f.work f.end (pos j); end = f.end + 1 }

-- voxel j joins the work list, if no flood has taken it
unfoldable pub push : ℕ → Fill → Fill
push j f = cond (eqb (get_or f.labels j 0) 1) (pushed j f) f

unfoldable pub push_all : List ℕ → Fill → Fill
push_all [] f = f
push_all (j ∷ js) f = push_all js (push j f)

abbrev pub labelled : ℕ → List ℕ → ℕ → Bool
labelled x l k = eqb (get_or l k 0) x

-- how many voxels a flood may still take
unfoldable pub untaken : List ℕ → ℕ
untaken l = length (filter (labelled 1 l) (range 0 (length l)))

-- the work list has room for all of them
pub record Ready (f : Fill) : Type 0 where
  pub same : length f.work ≡ length f.labels
  pub room : f.end + untaken f.labels ≤ length f.work
  pub small : length f.labels ≤ 262144

-- the voxels of a patch, row by row, from its first one on
abbrev pub patch_at : Patch → ℕ → List ℕ
patch_at p first = flat_map (λ r. range (first + r * p.step) p.wide) (range 0 p.rows)
