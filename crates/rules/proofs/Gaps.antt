-- What CR 6 promises of begin: a grid without an enclosed gap is begun as before, and the filled voxels found in S are never lost.
use mathlib.Core.Path.{◌≡◌, ap, ◌∙◌}
use mathlib.Core.Logic.{inl, inr}
use mathlib.Core.Bool.{Bool, true}
use mathlib.Core.List.{List}
use Prim.Native.Nat.{ℕ}
use native.Mathlib.Omega.{arith}
use lib.IntN.{ℤ, pos, negsuc}
use Rattle.prelude.proofs.Bools.{two, not-both}
use Rattle.prelude.proofs.Lists.{none-at}
use Rattle.prelude.proofs.Ranges.{get_d-map-range}
use Rattle.rules.specs.declared.Sides.{Sides}
use Rattle.rules.specs.Value.{is_missing}
use Rattle.rules.specs.Grid.{size, voxels, missing, value_at, distance_at}
use Rattle.rules.specs.Fill.{is_filled, filled}
use Rattle.rules.specs.Marks.{marked}
use Rattle.rules.specs.Begin.{is_in, inside, in_box, greatest_facing, worked_at, worked, begun_on, begun}
use Rattle.rules.specs.Gaps.{BegunAsBefore, MeasuredAsBefore, FilledStays, FilledAreKept}
use Rattle.rules.proofs.Fill.{missing-parts, filled-is-enclosed, filled-lt, filled-one, none_filled}
use Rattle.rules.proofs.Demand.{Startable, start_state, demand-after, box-start, by-begin}

pub begun-as-before : BegunAsBefore
unfolding begun
begun-as-before s T values m n none = ap (λ (used : List ℤ). begun_on s T used m) (none_filled s values n none)

pub measured-as-before : MeasuredAsBefore
measured-as-before s T values m n none =
    begun-as-before s T values m n
    (λ i. elim (two (is_filled s values i)) [
      | inl e ↦
          let m = missing-parts s values i ((filled-is-enclosed s values i).0 e).missing in
          not-both (is_missing (value_at values i)) m.1 (none-at is_missing missing values none i (omega (arith, m.0)))
      | inr e ↦ e
    ])

-- a filled voxel of S keeps its value, which is -1
module _ (s : Sides) (values : List ℤ) (i : ℕ) (f : is_filled s values i ≡ true) (in-S : is_in (inside s (filled s values)) i ≡ true) where
  abbrev used : List ℤ
  used = filled s values

  filled-worked : distance_at (worked s used (inside s used)) i ≡ negsuc 0
  unfolding worked voxels worked_at
  filled-worked =
      get_d-map-range (worked_at s used (inside s used) (greatest_facing s used (inside s used))) (pos 0) (size s) i (filled-lt s values i f)
      ∙ rw in-S (filled-one s values i f)

  -- whatever body it starts with
  pub filled-stays : (T : ℕ) (marks : List ℕ) (start : ℕ → Bool) → Startable s used start → FilledStays (start_state s T used (marked marks) start) i
  filled-stays T marks start from =
      record { worked = filled-worked; kept = λ calls. (demand-after s T used marks start from calls).inside-kept i in-S }

pub filled-are-kept : FilledAreKept
filled-are-kept s T values marks dist status r e i f m =
    let used = filled s values in
    by-begin (λ g. FilledStays g i) s T values marks dist status
    (λ accepted. filled-stays s values i f m T marks (in_box s (inside s used)) (box-start s used accepted)) r e
