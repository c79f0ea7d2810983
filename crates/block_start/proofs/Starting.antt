-- Step 4 on blocks: labels that are 0 at the negative blocks, and the status of their box.
use mathlib.Core.Path.{◌≡◌, refl, ap, sym, ◌∙◌}
use mathlib.Core.Bool.{Bool, true, false, cond}
use mathlib.Core.List.{List}
use Prim.Native.Nat.{ℕ, ◌<◌}
use native.Mathlib.Omega.{arith}
use lib.Dec.{eqb}
use lib.IntN.{ℤ}
use lib.ListN.{length, get_or}
use Rattle.prelude.proofs.Bools.{both_ways}
use Rattle.prelude.proofs.Lists.{filter-mem, mem-filter}
use Rattle.rules.specs.declared.Sides.{Sides}
use Rattle.rules.specs.Grid.{size, voxels, distance_at, is_negative, is_in}
use Rattle.rules.specs.Marks.{unmarked}
use Rattle.rules.specs.Meaning.{SomeVoxels}
use Rattle.rules.specs.Machine.{is_inside}
use Rattle.rules.proofs.Inside.{voxels-mem, mem-voxels, is_in-mem, mem-is_in}
use Rattle.loops.specs.InPlace.{Each}
use Rattle.bounding_box.specs.declared.Bounds.{Bounds}
use Rattle.bounding_box.specs.Bounds.{Enclosable, Enclosed, status_by}
use Rattle.bounding_box.proofs.Settling.{enclosable, status-is}
use Rattle.coarse.specs.Coarse.{negative_blocks, block_box, first_status}
use Rattle.block_start.specs.Start.{label_of, Startable}

module _ (h : Sides) (blocks : List ℤ) where
  abbrev B : List ℕ
  B = negative_blocks h blocks

  pub negative-in : (j : ℕ) → j < size h → is_inside blocks j ≡ is_in B j
  unfolding negative_blocks
  negative-in j l =
      both_ways (is_inside blocks j) (is_in B j)
      (λ e. mem-is_in B j (mem-filter (is_inside blocks) (voxels h) j (mem-voxels h j l) e))
      (λ e. (filter-mem (is_inside blocks) (voxels h) j (is_in-mem B j e)).1)

  negative-below : (j : ℕ) → is_in B j ≡ true → j < size h
  unfolding negative_blocks
  negative-below j e = voxels-mem h j (filter-mem (is_inside blocks) (voxels h) j (is_in-mem B j e)).0

  module _ (n : ℕ) (s : Startable h blocks n) (before d : List ℕ) (same : length before ≡ n)
      (labels : Each 0 (λ k d. label_of (distance_at blocks k)) 0 (length blocks) before d) where
    some : SomeVoxels h B
    some = record { filled = (s.some, sym (negative-in s.some s.some_in) ∙ s.some-negative); within = negative-below }

    zero-label : (t : Bool) → t ≡ eqb (cond {A = ℕ} t 0 1) 0
    zero-label true = refl
    zero-label false = refl

    zero_in : (k : ℕ) → k < size h → is_in B k ≡ eqb (get_or d k 0) 0
    unfolding is_inside
    zero_in k l =
        sym (negative-in k l) ∙ zero-label (is_negative (distance_at blocks k))
        ∙ ap (λ (x : ℕ). eqb x 0) (sym (labels.inside k (omega arith) (omega (arith, s.len))))

    len : length d ≡ size h
    len = labels.len ∙ same ∙ s.same

    pub labelled : Enclosable h d
    labelled = enclosable h s.fit B some d len zero_in

    pub started : (b : Bounds) → Enclosed h d b → (status : List ℕ) → status ≡ status_by h b d → status ≡ first_status h unmarked blocks
    unfolding first_status block_box
    started b E status e = e ∙ status-is h s.fit B some d len zero_in b E
