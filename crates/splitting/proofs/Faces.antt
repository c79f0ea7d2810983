-- A voxel of a kept block is exposed where one of the three blocks across its outer faces is not kept.
use mathlib.Core.Path.{◌≡◌, refl, ap, ap₂, ◌∙◌}
use mathlib.Core.Bool.{Bool, true, false, not, ◌&&◌, ◌||◌}
use mathlib.Core.List.{List}
use Prim.Native.Nat.{ℕ, ◌+◌, ◌-◌, ◌/◌, ◌%◌, ◌≤◌, ◌<◌}
use native.Mathlib.Omega.{arith}
use native.Mathlib.Decide.{dec_lt}
use Rattle.cells.specs.Groups.{any}
use Rattle.prelude.proofs.Bools.{and_one}
use Rattle.rules.specs.declared.Sides.{Sides}
use Rattle.rules.specs.Grid.{Voxel, index, neighbour, neighbourhood_of, face_positions}
use Rattle.rules.specs.Status.{is_kept}
use Rattle.rules.proofs.Places.{voxel-index}
use Rattle.rules.proofs.Topology.Around.{Inner, neighbour-at, neighbourhood-at}
use Rattle.coarse.specs.Blocks.{halved, half_of, block_of, split_body}
use Rattle.splitting.specs.Split.{across}

-- along an axis, the blocks of the two neighbours of a voxel
abbrev before : ℕ → ℕ
before x = (x + 0 - 1) / 2

abbrev after : ℕ → ℕ
after x = (x + 2 - 1) / 2

-- one of them is the voxel's own
pair : (f : ℕ → Bool) (x : ℕ) → 2 ≤ x → f (x / 2) ≡ true → (f (before x) && f (after x)) ≡ f (across x)
pair f x l e =
    elim (dec_lt (x % 2) 1) [
      | yes p ↦ ap₂ (λ (m n : ℕ). f m && f n) (omega arith) (omega arith) ∙ ap (λ (t : Bool). f (across x) && t) e ∙ and_one (f (across x))
      | no p ↦ ap₂ (λ (m n : ℕ). f m && f n) (omega arith) (omega arith) ∙ ap (λ (t : Bool). t && f (across x)) e
    ]

-- one of six is not
six : (z y x x' y' z' : Bool)
    → not z || (not y || (not x || (not x' || (not y' || (not z' || false))))) ≡ not ((z && z') && ((y && y') && (x && x')))
six false y x x' y' z' = refl
six true false x x' y' false = refl
six true false x x' y' true = refl
six true true false x' y' false = refl
six true true false x' false true = refl
six true true false x' true true = refl
six true true true false y' false = refl
six true true true false false true = refl
six true true true false true true = refl
six true true true true false false = refl
six true true true true false true = refl
six true true true true true false = refl
six true true true true true true = refl

module _ (s : Sides) (blocks : List ℕ) where
  -- whether a block is kept, by its coordinates
  abbrev pub block : ℕ → ℕ → ℕ → Bool
  block x y z = is_kept blocks (index (halved s) (record { x = x; y = y; z = z }))

  -- the blocks across the outer faces of a voxel
  abbrev pub across_kept : Voxel → Bool
  across_kept u = block (u.x / 2) (u.y / 2) (across u.z) && (block (u.x / 2) (across u.y) (u.z / 2) && block (across u.x) (u.y / 2) (u.z / 2))

  module _ (u : Voxel) (n : Inner (halved s) (half_of u)) where
    inner : Inner s u
    unfolding halved
    inner =
        record { x-low = omega arith; x-high = omega arith; y-low = omega arith; y-high = omega arith; z-low = omega arith; z-high = omega arith }

    -- a neighbour is kept where its block is
    at : (p x y z : ℕ) → p < 27 → (u.x + p % 3 - 1) / 2 ≡ x → (u.y + p / 3 % 3 - 1) / 2 ≡ y → (u.z + p / 9 - 1) / 2 ≡ z
        → neighbourhood_of s (split_body s blocks) u p ≡ block x y z
    unfolding split_body block_of
    at p x y z l e f g =
        let a = neighbour-at s u inner p l in
        let w : Voxel = neighbour u p in
        neighbourhood-at s (split_body s blocks) u w p inner a.0
        ∙ ap (λ (v : Voxel). is_kept blocks (index (halved s) (half_of v))) (voxel-index s w a.1.x-in a.1.y-in)
        ∙ (λ i. block (e i) (f i) (g i))

    pub around : block (u.x / 2) (u.y / 2) (u.z / 2) ≡ true
        → any (λ p. not (neighbourhood_of s (split_body s blocks) u p)) face_positions ≡ not (across_kept u)
    unfolding any
    around k =
        let x = u.x / 2 in
        let y = u.y / 2 in
        let z = u.z / 2 in
        let e4 = at 4 x y (before u.z) (omega arith) (omega arith) (omega arith) refl in
        let e10 = at 10 x (before u.y) z (omega arith) (omega arith) refl (omega arith) in
        let e12 = at 12 (before u.x) y z (omega arith) refl (omega arith) (omega arith) in
        let e14 = at 14 (after u.x) y z (omega arith) refl (omega arith) (omega arith) in
        let e16 = at 16 x (after u.y) z (omega arith) (omega arith) refl (omega arith) in
        let e22 = at 22 x y (after u.z) (omega arith) (omega arith) (omega arith) refl in
        (λ i. not (e4 i) || (not (e10 i) || (not (e12 i) || (not (e14 i) || (not (e16 i) || (not (e22 i) || false))))))
        ∙ six (block x y (before u.z)) (block x (before u.y) z) (block (before u.x) y z) (block (after u.x) y z) (block x (after u.y) z)
        (block x y (after u.z))
        ∙ (λ i. not (pair (λ c. block x y c) u.z (omega (arith, n.z-low)) k i
        && (pair (λ c. block x c z) u.y (omega (arith, n.y-low)) k i && pair (λ c. block c y z) u.x (omega (arith, n.x-low)) k i)))
