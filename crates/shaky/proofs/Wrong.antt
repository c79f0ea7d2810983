-- The bound is reached, and each wrong claim fails of a pair of grids: by computation.
use mathlib.Core.Path.{◌≡◌, refl, ap, sym}
use mathlib.Core.Bool.{not, true≢false}
use mathlib.Core.List.{List, [], ◌∷◌}
use Prim.Native.Nat.{ℕ, ◌≤◌}
use native.Mathlib.Omega.{arith}
use lib.ListN.{length, replicate}
use lib.IntN.{ℤ, pos, negsuc, nat_abs}
use Rattle.rules.specs.declared.Sides.{Sides}
use Rattle.rules.specs.Value.{is_missing}
use Rattle.rules.specs.Grid.{size, missing, measured_negative, measured_non_negative}
use Rattle.rules.specs.Answer.{done}
use Rattle.rules.specs.Begin.{new_record, begin}
use Rattle.rules.specs.Marks.{no_marks}
use Rattle.rules.specs.Demand.{carve_up_to, call, run}
use Rattle.rules.specs.Cases.{sides}
use Rattle.coarse.proofs.Examples.{coarse-rules}
use Rattle.coarse.specs.Starts.{AcceptedGrid, plain}
use Rattle.shaky.specs.Bodies.{shot_at, pipe, tube}
use Rattle.shaky.specs.Wrong.{beside, Reached, WrongClaims}
use Rattle.shaky.proofs.Bodies.{set-differ, other-bodies}

pub reached : Reached
unfolding coarse-rules
reached =
    record {
      shot = set-differ (λ u. measured_non_negative u) (beside (pos 5)) 18 (pos 5) (pos 7) (omega arith) refl refl;
      at-the-voxel = refl;
      in-the-corner = refl;
      beside-it = refl;
    }

-- begin, with T = 0 and no marks, in buffers of zeros
abbrev begun : {s : Sides} {values : List ℤ}
    → (begin s 0 values (no_marks s) (replicate (size s) (pos 0)) (replicate (size s) 0)).answer ≡ done (new_record s 0) → AcceptedGrid s values
begun {s} e = plain 0 (no_marks s) (replicate (size s) (pos 0)) (replicate (size s) 0) (new_record s 0) e

-- 5, 5, 5: six voxels around 62
abbrev around : ℤ → List ℤ
around x = shot_at (sides 5 5 5) (37 ∷ 57 ∷ 61 ∷ 63 ∷ 67 ∷ 87 ∷ []) 62 x

pub wrong-claims : WrongClaims
unfolding coarse-rules call run
wrong-claims =
    record {
      less-than-e = λ claim.
          let z : 2 ≤ 1 = claim (sides 4 3 3) (beside (pos 5)) (beside (pos 7)) (begun refl) (begun refl) 18 1 reached.shot 18 in
          omega arith;
      own-distance-alone = λ claim.
          let z : ◌≡◌ {A = ℕ} 8 10 =
          ap nat_abs (claim (sides 4 3 3) (beside (pos 5)) (beside (pos 7)) (begun refl) (begun refl) 18 2 reached.shot 0 (λ e. omega arith)) in
          omega arith;
      negative-in-one = λ claim.
          let z : ◌≡◌ {A = ℕ} 1 2 =
          ap length (claim (sides 4 3 3) (beside (pos 0)) (beside (negsuc 0)) (begun refl) (begun refl) 18 1
          (set-differ (λ u. not (is_missing u)) (beside (pos 0)) 18 (pos 0) (negsuc 0) (omega arith) refl refl)) in
          omega arith;
      missing-in-one = λ claim.
          let z : ◌≡◌ {A = ℕ} 6 7 =
          ap length (claim (sides 5 5 5) (around (pos 5)) (around missing) (begun refl) (begun refl) 62 _
          (set-differ (λ u. not (measured_negative u)) (around (pos 5)) 62 (pos 5) missing (omega arith) refl refl)) in
          omega arith;
      same-bodies = λ claim.
          true≢false (sym (claim pipe (tube (pos 5)) (tube (pos 6)) (begun refl) (begun refl) 62 1 other-bodies.shot
          (carve_up_to (no_marks pipe) 9 ∷ []) refl refl 37));
    }
