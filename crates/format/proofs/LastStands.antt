-- The last patch to a voxel stands.
use mathlib.Core.Path.{◌≡◌, refl, ap, sym, ◌∙◌}
use mathlib.Core.List.{List}
use Prim.Native.Nat.{ℕ, zero, suc, ◌+◌, ◌<◌}
use native.Mathlib.Omega.{arith}
use lib.ListN.{length, get_or, set, length-set}
use lib.Seq.{get_or-set_same, get_or-set_other}
use lib.IntN.{ℤ, pos}
use Rattle.format.specs.Patch.{patch_length, index_at, patch_at, patch_count, applied_of}
use Rattle.format.specs.LastStands.{place, LastStands}

module _ (file : List ℕ) where
  place-first : (at : ℕ) → place at 0 ≡ at
  place-first at = omega arith

  place-next : (at k : ℕ) → place (at + patch_length) k ≡ place at (suc k)
  place-next at k = omega arith

  none : (left at i : ℕ) (values : List ℤ)
      → ((j : ℕ) → j < left → index_at file (place at j) ≡ i → ⊥)
      → get_or (applied_of file left at values) i (pos 0) ≡ get_or values i (pos 0)
  unfolding applied_of
  none zero at i values f = refl
  none (suc left) at i values f =
      none left (at + patch_length) i (set values (index_at file at) (patch_at file at))
      (λ j h e. f (suc j) (omega arith) (ap (index_at file) (sym (place-next at j)) ∙ e))
      ∙ get_or-set_other values (index_at file at) i (patch_at file at) (pos 0) (λ e. f 0 (omega arith) (ap (index_at file) (place-first at) ∙ sym e))

  last : (left at k i : ℕ) (values : List ℤ)
      → k < left
      → index_at file (place at k) ≡ i
      → i < length values
      → ((j : ℕ) → k < j → j < left → index_at file (place at j) ≡ i → ⊥)
      → get_or (applied_of file left at values) i (pos 0) ≡ patch_at file (place at k)
  unfolding applied_of
  last zero at k i values h e b f = let z : ⊥ = omega arith in absurd z
  last (suc left) at zero i values h e b f =
      let own : index_at file at ≡ i = ap (index_at file) (sym (place-first at)) ∙ e in
      none left (at + patch_length) i (set values (index_at file at) (patch_at file at))
      (λ j l q. f (suc j) (omega arith) (omega arith) (ap (index_at file) (sym (place-next at j)) ∙ q))
      ∙ ap (λ (x : ℕ). get_or (set values x (patch_at file at)) i (pos 0)) own
      ∙ get_or-set_same values i (patch_at file at) (pos 0) b
      ∙ ap (patch_at file) (sym (place-first at))
  last (suc left) at (suc k) i values h e b f =
      last left (at + patch_length) k i (set values (index_at file at) (patch_at file at)) (omega arith) (ap (index_at file) (place-next at k) ∙ e)
      (omega (arith, length-set values (index_at file at) (patch_at file at)))
      (λ j l m q. f (suc j) (omega arith) (omega arith) (ap (index_at file) (sym (place-next at j)) ∙ q))
      ∙ ap (patch_at file) (place-next at k)

pub last-stands : LastStands
last-stands =
    record {
      last = λ file start values k h b f. last file (patch_count file start) start k (index_at file (place start k)) values h refl b f;
      none = λ file start values i f. none file (patch_count file start) start i values f;
    }
