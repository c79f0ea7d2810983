-- Document 02's CR 13, "One shaky shot": the bound e is reached, and claims that say more are wrong. proofs/Wrong.antt shows it by computation.
use Rattle.std.specs.Prelude.{◌≡◌, ◌≢◌, not, false, List, [], ◌∷◌, ℕ, suc, ℤ, pos}
use Rattle.rules.specs.Grid.{distance_at, measured_negative}
use Rattle.rules.specs.Value.{is_missing}
use Rattle.rules.specs.Status.{is_kept, any_pending}
use Rattle.rules.specs.Demand.{Call, run}
use Rattle.rules.specs.Cases.{sides, start}
use Rattle.shaky.specs.Shaky.{OfTwo, away, DifferAt, OneShot, SameInside, Within}
use Rattle.shaky.specs.Bodies.{shot_at}

-- ---- e is reached

-- 4, 3, 3: voxel 17, and voxel 18 beside it, which is measured as x
abbrev pub beside : ℤ → List ℤ
beside x = shot_at (sides 4 3 3) (17 ∷ []) 18 x

-- how far apart 18 measured as 5 and as 7 leave the worked distance of a voxel
abbrev pub apart_at : ℕ → ℕ
apart_at i = away (distance_at (start (sides 4 3 3) 0 (beside (pos 5))).dist i) (distance_at (start (sides 4 3 3) 0 (beside (pos 7))).dist i)

pub record Reached : Type 0 where
  pub shot : OneShot (beside (pos 5)) (beside (pos 7)) 18 2
  pub at-the-voxel : apart_at 18 ≡ 2
  -- M is 7 in place of 5, and the voxel of the corner has M and its steps to S
  pub in-the-corner : apart_at 0 ≡ 2
  -- the other voxels beside S keep what was measured there
  pub beside-it : apart_at 16 ≡ 0

-- ---- wrong claims

pub record WrongClaims : Type 0 where
  -- of a shot by e + 1, no distance differs by more than e
  pub less-than-e : OfTwo (λ s p q one other. (v e : ℕ) → OneShot p q v (suc e) → Within e one.dist other.dist) → ⊥
  -- the other distances are the same
  pub own-distance-alone :
      OfTwo (λ s p q one other. (v e : ℕ) → OneShot p q v e → (i : ℕ) → i ≢ v → distance_at one.dist i ≡ distance_at other.dist i) → ⊥
  -- S is the same where the voxel is measured in both, and negative in one; and where it is not negative, and missing in one
  pub negative-in-one : OfTwo (λ s p q one other. (v e : ℕ) → DifferAt (λ u. not (is_missing u)) p q v e → SameInside s p q) → ⊥
  pub missing-in-one : OfTwo (λ s p q one other. (v e : ℕ) → DifferAt (λ u. not (measured_negative u)) p q v e → SameInside s p q) → ⊥
  -- the same calls keep the same body, where nothing is pending after them
  pub same-bodies :
      OfTwo (λ s p q one other.
      (v e : ℕ) → OneShot p q v e → (calls : List Call)
      → let g = (run calls one).end in
      let h = (run calls other).end in
      any_pending s g.status ≡ false → any_pending s h.status ≡ false → (i : ℕ) → is_kept g.status i ≡ is_kept h.status i) → ⊥
