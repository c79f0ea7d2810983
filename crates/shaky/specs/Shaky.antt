-- Document 02's CR 13, "One shaky shot": what a single uncertain point, or any number of them, can do to S and to the worked distances.
-- proofs/Shaky.antt proves it.
use Rattle.std.specs.Prelude.{◌≡◌, ◌⊎◌, ◌≢◌, Bool, true, List, ℕ, ◌≤◌, ℤ, nat_abs, ◌-ℤ◌}
use Rattle.rules.specs.declared.Sides.{Sides}
use Rattle.rules.specs.Grid.{measured_non_negative, value_at, distance_at}
use Rattle.rules.specs.Fill.{filled}
use Rattle.rules.specs.Begin.{inside}
use Rattle.rules.specs.Machine.{State}
use Rattle.coarse.specs.Promises.{EveryCoarse}
use Rattle.coarse.specs.Starts.{AcceptedGrid, handed_by}

-- ---- "two accepted grids"

-- of two of the same sides, each with values of its own
abbrev pub OfTwo : (Sides → List ℤ → List ℤ → State → State → Type 0) → Type 0
OfTwo P = (s : Sides) (p q : List ℤ) (one : AcceptedGrid s p) (other : AcceptedGrid s q) → P s p q (handed_by one) (handed_by other)

-- ---- how they differ

-- |p - q|
abbrev pub away : ℤ → ℤ → ℕ
away p q = nat_abs (p -ℤ q)

-- in the voxel v alone, by e, where both values are of some kind
pub record DifferAt (kind : ℤ → Bool) (p q : List ℤ) (v e : ℕ) : Type 0 where
  pub elsewhere : (i : ℕ) → i ≢ v → value_at p i ≡ value_at q i
  pub one : kind (value_at p v) ≡ true
  pub other : kind (value_at q v) ≡ true
  pub by : away (value_at p v) (value_at q v) ≡ e

-- "in one voxel, measured and non-negative in both, by e"
abbrev pub OneShot : List ℤ → List ℤ → ℕ → ℕ → Type 0
OneShot p q v e = DifferAt measured_non_negative p q v e

-- a value that differs by at most e, measured and non-negative in both
pub record Moved (e : ℕ) (p q : ℤ) : Type 0 where
  pub one : measured_non_negative p ≡ true
  pub other : measured_non_negative q ≡ true
  pub by : away p q ≤ e

-- in any number of voxels so
abbrev pub Shaken : ℕ → List ℤ → List ℤ → Type 0
Shaken e p q = (i : ℕ) → (value_at p i ≡ value_at q i) ⊎ (Moved e (value_at p i) (value_at q i))

-- ---- "then S is the same and no worked distance differs by more than e"

abbrev pub SameInside : Sides → List ℤ → List ℤ → Type 0
SameInside s p q = inside s (filled s p) ≡ inside s (filled s q)

-- the distances in two lent buffers
abbrev pub Within : ℕ → List ℤ → List ℤ → Type 0
Within e dist other = (i : ℕ) → away (distance_at dist i) (distance_at other i) ≤ e

abbrev pub OneShakyShot : Type 0
OneShakyShot = OfTwo (λ s p q one other. (v e : ℕ) → OneShot p q v e → (SameInside s p q) × (Within e one.dist other.dist))

-- the same of any number
abbrev pub ManyShakyShots : Type 0
ManyShakyShots = OfTwo (λ s p q one other. (e : ℕ) → Shaken e p q → (SameInside s p q) × (Within e one.dist other.dist))

-- and the distances of the blocks that two coarse starts leave
abbrev pub ShakyBlocks : Type 0
ShakyBlocks =
    EveryCoarse (λ s T p marks l c. EveryCoarse (λ s' T' q marks' l' c'.
    s ≡ s' → (e : ℕ) → Shaken e p q → Within e l.blocks.dist l'.blocks.dist))
