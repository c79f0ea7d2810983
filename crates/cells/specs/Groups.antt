-- Groups: what document 01 means by groups of cells, or of voxels, that are joined.
use Rattle.std.specs.Prelude.{Bool, cond, List, [], ◌∷◌, ◌++◌}
pub use Rattle.prelude.specs.Lists.{cons_if}
unfoldable pub use Rattle.prelude.specs.Lists.{any, filter}

-- Groups are made element by element: one more element makes a single group of all the groups in which it is joined to an element.
module _ {A : Type 0} (joined : A → A → Bool) where
  abbrev pub append_if : Bool → List A → List A → List A
  append_if t g xs = cond t (g ++ xs) xs

  -- the elements of the groups that x is joined to
  unfoldable pub reached : A → List (List A) → List A
  reached x [] = []
  reached x (g ∷ gs) = append_if (any (joined x) g) g (reached x gs)

  abbrev pub cons_unless : Bool → List A → List (List A) → List (List A)
  cons_unless t g gs = cond t gs (g ∷ gs)

  -- the groups that x is not joined to
  unfoldable pub others : A → List (List A) → List (List A)
  others x [] = []
  others x (g ∷ gs) = cons_unless (any (joined x) g) g (others x gs)

  unfoldable pub enter : A → List (List A) → List (List A)
  enter x gs = (x ∷ reached x gs) ∷ others x gs

  -- the groups gs with the elements of the list entered one after the other
  unfoldable pub gather : List A → List (List A) → List (List A)
  gather [] gs = gs
  gather (x ∷ xs) gs = gather xs (enter x gs)

  -- the groups of a list
  unfoldable pub groups : List A → List (List A)
  groups xs = gather xs []
