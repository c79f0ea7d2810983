-- What blocks are, in a grid of even sides: their eight voxels, and the least of eight distances. proofs/Eight.antt proves it.
use Rattle.std.specs.Prelude.{◌≡◌, ◌↔◌, true, false, List, ℕ, ◌*◌, ◌/◌, ◌<◌, ℤ}
use Rattle.std.specs.Int.Signed.{lt_z}
use Rattle.rules.specs.declared.Sides.{Sides}
use Rattle.rules.specs.Grid.{size, distance_at, is_in}
use Rattle.coarse.specs.Blocks.{halved, block_of, eight, block_distance}

pub record Even (s : Sides) : Type 0 where
  pub a-even : 2 * (s.a / 2) ≡ s.a
  pub b-even : 2 * (s.b / 2) ≡ s.b
  pub c-even : 2 * (s.c / 2) ≡ s.c
  pub a-some : 0 < s.a
  pub b-some : 0 < s.b

-- the eight voxels of a block are those that are in it
abbrev pub EightAreTheBlock : Type 0
EightAreTheBlock = (s : Sides) → Even s → (i j : ℕ) → j < size (halved s) → (is_in (eight s j) i ≡ true) ↔ ((i < size s) × (block_of s i ≡ j))

-- a distance that one of a block's eight voxels has, and none has less
pub record LeastOfEight (s : Sides) (dist : List ℤ) (j : ℕ) (d : ℤ) : Type 0 where
  pub place : ℕ
  pub one_of : is_in (eight s j) place ≡ true
  pub has : distance_at dist place ≡ d
  pub none-less : (i : ℕ) → is_in (eight s j) i ≡ true → lt_z (distance_at dist i) d ≡ false

abbrev pub DistanceIsLeast : Type 0
DistanceIsLeast = (s : Sides) (dist : List ℤ) (j : ℕ) → LeastOfEight s dist j (block_distance s dist j)
