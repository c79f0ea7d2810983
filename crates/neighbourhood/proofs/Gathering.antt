-- What is gathered around an inner voxel: bit by bit the statuses there, and the block that the local test is asked of.
use mathlib.Core.Path.{◌≡◌, sym, ap, ◌∙◌}
use mathlib.Core.Bool.{Bool, true, ◌&&◌}
use mathlib.Core.List.{List}
use Prim.Native.Nat.{ℕ, zero, suc, ◌+◌, ◌*◌, ◌/◌, ◌%◌, ◌≤◌, ◌<◌}
use native.Mathlib.Omega.{arith}
use borrow.Author.Tests.{le-leb}
use lib.Dec.{leb, lit<}
use lib.ListN.{get_or}
use Rattle.cells.specs.Cells.{bit, test}
use Rattle.closed_sets.proofs.EveryBlock.{place-lt, test-ext}
use Rattle.prelude.proofs.Bools.{true-and}
use Rattle.rules.specs.declared.Sides.{Sides}
use Rattle.rules.specs.Grid.{voxel, index, reaches, neighbour, neighbourhood_of, neighbourhood}
use Rattle.rules.specs.Status.{status_of, is_kept, is_pending, test_at}
use Rattle.bits.specs.Bits.{has, bits}
use Rattle.bits.proofs.Bits.{bits-lt, bits-has, bits-ext, has-bits}
use Rattle.status.proofs.Bytes.{kept-bit, pending-bit}
use Rattle.touched_cells.specs.Block.{row_in, Rows, kept_in, block_bit, kept_of}
use Rattle.touched_cells.proofs.Blocks.{kept-in-code}
use Rattle.rules.specs.Neighbours.{Inner}
use Rattle.neighbourhood.specs.Neighbourhood.{Few, offset, first_around, around, row_bit, row_at, layer_at, cube_at, status_bit, code_of, Gathered}
use Rattle.neighbourhood.proofs.Interior.{interior, around-index}

-- ---- what is gathered

two-bits : (x : ℕ) → x ≤ 3 → x ≡ bit (has x 0) + 2 * bit (has x 1)
unfolding bits
two-bits x h = bits-has 2 x (omega arith) ∙ omega arith

pub row-sum : (status : List ℕ) (at : ℕ) → Few status
    → status_of status at + 4 * (status_of status (at + 1) + 4 * status_of status (at + 2)) ≡ row_at status at
unfolding bits row_bit
row-sum status at few =
    let e : at ≡ at + 0 = omega arith in
    let x = status_of status in
    ap (λ (i : ℕ). x i + 4 * (x (at + 1) + 4 * x (at + 2))) e
    ∙ omega (
      arith,
      two-bits (x (at + 0)) (few (at + 0)),
      two-bits (x (at + 1)) (few (at + 1)),
      two-bits (x (at + 2)) (few (at + 2)),
    )

module _ (status : List ℕ) (a l at : ℕ) where
  layer-lt : (at y : ℕ) → get_or (layer_at status a at) y 0 < 64
  layer-lt at zero = bits-lt 6 (row_bit status at)
  layer-lt at (suc zero) = bits-lt 6 (row_bit status (at + a))
  layer-lt at (suc (suc zero)) = bits-lt 6 (row_bit status (at + 2 * a))
  layer-lt at (suc (suc (suc y))) = lit< tt

  cube-lt : (z y : ℕ) → row_in (cube_at status a l at) z y < 64
  cube-lt zero = layer-lt at
  cube-lt (suc zero) = layer-lt (at + l)
  cube-lt (suc (suc zero)) = layer-lt (at + 2 * l)
  cube-lt (suc (suc (suc z))) = λ y. lit< tt

  pub cube-rows : Rows (cube_at status a l at)
  cube-rows = record { few = cube-lt }

  layer_row : (at y : ℕ) → y < 3 → get_or (layer_at status a at) y 0 ≡ row_at status (at + a * y)
  layer_row at zero h = ap (row_at status) (omega arith)
  layer_row at (suc zero) h = ap (row_at status) (omega arith)
  layer_row at (suc (suc zero)) h = ap (row_at status) (omega arith)
  layer_row at (suc (suc (suc y))) h = let e : ⊥ = omega arith in absurd e

  cube-row : (z y : ℕ) → z < 3 → y < 3 → row_in (cube_at status a l at) z y ≡ row_at status (at + l * z + a * y)
  cube-row zero y k h = layer_row at y h ∙ ap (row_at status) (omega arith)
  cube-row (suc zero) y k h = layer_row (at + l) y h ∙ ap (row_at status) (omega arith)
  cube-row (suc (suc zero)) y k h = layer_row (at + 2 * l) y h ∙ ap (row_at status) (omega arith)
  cube-row (suc (suc (suc z))) y k h = let e : ⊥ = omega arith in absurd e

  cube-bit : (c : ℕ) → c < 54 → block_bit (cube_at status a l at) c ≡ has (status_of status (at + offset a l (c / 2))) (c % 2)
  unfolding block_bit row_bit
  cube-bit c h =
      let z : c / 18 ≡ c / 2 / 9 = omega arith in
      let y : c / 6 % 3 ≡ c / 2 / 3 % 3 = omega arith in
      let x : c % 6 / 2 ≡ c / 2 % 3 = omega arith in
      let b : c % 6 % 2 ≡ c % 2 = omega arith in
      let e : at + l * (c / 2 / 9) + a * (c / 2 / 3 % 3) + c / 2 % 3 ≡ at + offset a l (c / 2) = omega arith in
      ap (λ (r : ℕ). has r (c % 6)) (cube-row (c / 18) (c / 6 % 3) (omega arith) (omega arith))
      ∙ has-bits 6 (row_bit status (at + l * (c / 18) + a * (c / 6 % 3))) (c % 6) (omega arith)
      ∙ (λ i. has (status_of status (at + l * z i + a * y i + x i)) (b i))
      ∙ ap (λ (n : ℕ). has (status_of status n) (c % 2)) e

pub gathered : (s : Sides) (status : List ℕ) (i : ℕ) → Gathered s status i (cube_at status s.a (s.a * s.b) (first_around s i))
unfolding status_bit around
gathered s status i =
    record {
      rows = cube-rows status s.a (s.a * s.b) (first_around s i);
      code = bits-ext 54 (block_bit (cube_at status s.a (s.a * s.b) (first_around s i))) _ (cube-bit status s.a (s.a * s.b) (first_around s i));
    }

-- ---- a code at a position

module _ (s : Sides) (status : List ℕ) (i p : ℕ) (h : p < 27) where
  pub code-kept : has (code_of s status i) (2 * p) ≡ is_kept status (around s i p)
  unfolding status_bit is_kept
  code-kept =
      let e : 2 * p / 2 ≡ p = omega arith in
      let b : 2 * p % 2 ≡ 0 = omega arith in
      has-bits 54 (status_bit s status i) (2 * p) (omega arith)
      ∙ ap (λ (q : ℕ). has (status_of status (around s i q)) (2 * p % 2)) e
      ∙ ap (has (status_of status (around s i p))) b
      ∙ kept-bit (status_of status (around s i p))

  pub code-pending : has (code_of s status i) (2 * p + 1) ≡ is_pending status (around s i p)
  unfolding status_bit is_pending
  code-pending =
      let e : (2 * p + 1) / 2 ≡ p = omega arith in
      let b : (2 * p + 1) % 2 ≡ 1 = omega arith in
      has-bits 54 (status_bit s status i) (2 * p + 1) (omega arith)
      ∙ ap (λ (q : ℕ). has (status_of status (around s i q)) ((2 * p + 1) % 2)) e
      ∙ ap (has (status_of status (around s i p))) b
      ∙ pending-bit (status_of status (around s i p))

-- ---- the block of the rule

reach : (side x d : ℕ) → 1 ≤ x → x + 1 < side → d < 3 → reaches side x d ≡ true
reach side x d l h k = true-and (leb 1 (x + d)) (leb (x + d) side) (le-leb 1 (x + d) (omega arith)) (le-leb (x + d) side (omega arith))

all_true : (p q r t : Bool) → p ≡ true → q ≡ true → r ≡ true → (p && (q && (r && t))) ≡ t
all_true p q r t e f g = ap (λ (u : Bool). u && (q && (r && t))) e ∙ ap (λ (u : Bool). u && (r && t)) f ∙ ap (λ (u : Bool). u && t) g

module _ (s : Sides) (i : ℕ) (n : Inner s i) where
  pub neighbourhood-around : (found : ℕ → Bool) (p : ℕ) → p < 27 → neighbourhood s found i p ≡ found (around s i p)
  unfolding neighbourhood neighbourhood_of
  neighbourhood-around found p h =
      let k = interior s i n in
      let v = voxel s i in
      all_true _ _ _ (found (index s (neighbour v p)))
      (reach s.a v.x (p % 3) k.x-low k.x-high (omega arith))
      (reach s.b v.y (p / 3 % 3) k.y-low k.y-high (omega arith))
      (reach s.c v.z (p / 9) k.z-low k.z-high (omega arith))
      ∙ ap found (around-index s i n p)

  -- the test of a gathered block is the voxel's
  pub block-test : (status : List ℕ) (block : List (List ℕ)) → Gathered s status i block → test (kept_in block) ≡ test_at s status i
  unfolding test_at
  block-test status block g =
      test-ext (kept_in block) (neighbourhood s (is_kept status) i) (λ p m.
      let h = place-lt p m in
      sym (kept-in-code block p h)
      ∙ ap (λ (code : ℕ). kept_of code p) g.code
      ∙ code-kept s status i p h
      ∙ sym (neighbourhood-around (is_kept status) p h))
