-- All of the work: from S labelled to distances, M, worked distances, box and status.
use mathlib.Core.Path.{◌≡◌, ap, sym, ◌∙◌, subst}
use mathlib.Core.List.{List}
use Prim.Native.Nat.{ℕ, ◌+◌, ◌<◌}
use lib.Dec.{eqb}
use lib.IntN.{ℤ}
use lib.ListN.{get_or}
use Rattle.rules.specs.declared.Sides.{Sides}
use Rattle.rules.specs.Grid.{size}
use Rattle.rules.specs.Fill.{filled}
use Rattle.rules.specs.Marks.{unmarked}
use Rattle.rules.specs.Begin.{is_in, inside, in_box, start_status}
use Rattle.rules.specs.Fit.{Beginnable}
use Rattle.rules.specs.Meaning.{SomeVoxels}
use Rattle.rules.proofs.Fill.{beginnable-filled}
use Rattle.rules.proofs.Distance.{inside-voxels, in-eqb}
use Rattle.values.specs.Values.{greatest_by, worked_by}
use Rattle.values.proofs.Measuring.{greatest-facing, worked-is}
use Rattle.components.specs.Work.{Found}
use Rattle.distances.specs.Work.{Seeded, Measured}
use Rattle.bounding_box.specs.declared.Bounds.{Bounds}
use Rattle.bounding_box.specs.Bounds.{Enclosable, Enclosed, status_by}
use Rattle.bounding_box.proofs.Settling.{enclosable, status-is}
use Rattle.beginning.specs.Work.{Distanced}

module _ (s : Sides) (values : List ℤ) (A : Beginnable s values) where
  abbrev S : List ℕ
  S = inside s (filled s values)

  some : SomeVoxels s S
  some = let B = beginnable-filled s values A in inside-voxels s (filled s values) B.some B.some-negative

  -- where the sweeps start
  pub seeded : (l : List ℕ) (far : ℕ) → far ≡ s.a + s.b + s.c → Found s S far l → Seeded s S l
  seeded l far e f = record { fit = A.sides; filled = some; seeds = subst (λ (x : ℕ). Found s S x l) e f }

  module _ (d : List ℕ) (D : Measured s S d) where
    pub distanced : (M : ℕ) → M ≡ greatest_by values d → (dist : List ℤ) → dist ≡ worked_by M values d → Distanced s (filled s values) dist d
    distanced M e dist f =
        record {
          distances =
              f
              ∙ ap (λ (k : ℕ). worked_by k values d) (e ∙ greatest-facing s values A.len some d D.is)
              ∙ worked-is s values A.len some d D.is;
          steps = D;
        }

    -- the steps are 0 at the voxels of S
    zero_in : (k : ℕ) → k < size s → is_in S k ≡ eqb (get_or d k 0) 0
    zero_in k h = in-eqb s S some k h ∙ ap (λ (x : ℕ). eqb x 0) (sym (D.is k h))

    pub enclosed : Enclosable s d
    enclosed = enclosable s A.sides S some d D.len zero_in

    pub settled : (b : Bounds) → Enclosed s d b → (status : List ℕ) → status ≡ status_by s b d → status ≡ start_status s unmarked S (in_box s S)
    settled b B status g = g ∙ status-is s A.sides S some d D.len zero_in b B
