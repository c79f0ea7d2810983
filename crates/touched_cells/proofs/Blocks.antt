-- The places of a block, in its rows and in its code.
use mathlib.Core.Path.{◌≡◌, sym, ap, ◌∙◌, subst}
use mathlib.Core.Bool.{Bool}
use mathlib.Core.List.{List, [], ◌∷◌}
use Prim.Native.Nat.{ℕ, zero, suc, ◌+◌, ◌*◌, ◌/◌, ◌%◌, ◌^◌, ◌<◌}
use native.Mathlib.Omega.{arith}
use lib.Dec.{lit<}
use lib.ListN.{get_or}
use Rattle.cells.specs.Cells.{touched, test}
use Rattle.closed_sets.proofs.EveryBlock.{place-lt, touched-ext, test-ext}
use Rattle.bits.specs.Bits.{has, bits, spaced}
use Rattle.bits.proofs.Bits.{bits-lt, bits-ext, bits-has, has-bits, has-shr}
use Rattle.bits.proofs.Spaced.{has-spaced}
use Rattle.touched_cells.specs.Block.{row_in, kept_in, LayerRows, block_bit, code_in, kept_of, row_of, layer_of, Unpacked}

pub kept-in-code : (block : List (List ℕ)) (p : ℕ) → p < 27 → kept_of (code_in block) p ≡ kept_in block p
unfolding block_bit
kept-in-code block p h =
    let z : 2 * p / 18 ≡ p / 9 = omega arith in
    let y : 2 * p / 6 % 3 ≡ p / 3 % 3 = omega arith in
    let x : 2 * p % 6 ≡ 2 * (p % 3) = omega arith in
    has-bits 54 (block_bit block) (2 * p) (omega arith) ∙ (λ i. has (row_in block (z i) (y i)) (x i))

-- what a block touches, by its code
pub touched-in-code : (block : List (List ℕ)) {code : ℕ} → code ≡ code_in block
    → bits 54 (spaced (touched (kept_of code))) ≡ bits 54 (spaced (touched (kept_in block)))
touched-in-code block e =
    ap (λ (code : ℕ). bits 54 (spaced (touched (kept_of code)))) e
    ∙ ap (λ (s : ℕ → Bool). bits 54 (spaced s)) (touched-ext (kept_of (code_in block)) (kept_in block) (λ v m. kept-in-code block v (place-lt v m)))

pub test-in-code : (block : List (List ℕ)) {code : ℕ} → code ≡ code_in block → test (kept_of code) ≡ test (kept_in block)
test-in-code block e =
    ap (λ (code : ℕ). test (kept_of code)) e ∙ test-ext (kept_of (code_in block)) (kept_in block) (λ v m. kept-in-code block v (place-lt v m))

-- ---- a block from its code

row_lt : (code : ℕ) → row_of code < 64
row_lt code = bits-lt 6 (has code)

layer-lt : (code : ℕ) → LayerRows (layer_of code)
layer-lt code zero = row_lt code
layer-lt code (suc zero) = row_lt (code / 2 ^ 6)
layer-lt code (suc (suc zero)) = row_lt (code / 2 ^ 12)
layer-lt code (suc (suc (suc y))) = lit< tt

layer-has : (code y x : ℕ) → y < 3 → x < 6 → has (get_or (layer_of code) y 0) x ≡ has code (6 * y + x)
layer-has code zero x k h = has-bits 6 (has code) x h ∙ ap (has code) (omega arith)
layer-has code (suc zero) x k h = has-bits 6 (has (code / 2 ^ 6)) x h ∙ has-shr code 6 x
layer-has code (suc (suc zero)) x k h = has-bits 6 (has (code / 2 ^ 12)) x h ∙ has-shr code 12 x
layer-has code (suc (suc (suc y))) x k h = let z : ⊥ = omega arith in absurd z

abbrev block_of : ℕ → List (List ℕ)
block_of code = layer_of code ∷ layer_of (code / 2 ^ 18) ∷ layer_of (code / 2 ^ 36) ∷ []

block-lt : (code z : ℕ) → LayerRows (get_or (block_of code) z [])
block-lt code zero = layer-lt code
block-lt code (suc zero) = layer-lt (code / 2 ^ 18)
block-lt code (suc (suc zero)) = layer-lt (code / 2 ^ 36)
block-lt code (suc (suc (suc z))) = λ y. lit< tt

block-has : (code z y x : ℕ) → z < 3 → y < 3 → x < 6 → has (row_in (block_of code) z y) x ≡ has code (18 * z + (6 * y + x))
block-has code zero y x l k h = layer-has code y x k h ∙ ap (has code) (omega arith)
block-has code (suc zero) y x l k h = layer-has (code / 2 ^ 18) y x k h ∙ has-shr code 18 (6 * y + x)
block-has code (suc (suc zero)) y x l k h = layer-has (code / 2 ^ 36) y x k h ∙ has-shr code 36 (6 * y + x)
block-has code (suc (suc (suc z))) y x l k h = let e : ⊥ = omega arith in absurd e

code-back : (code : ℕ) → code < 2 ^ 54 → code_in (block_of code) ≡ code
unfolding block_bit
code-back code l =
    bits-ext 54 (block_bit (block_of code)) (has code)
    (λ c h. block-has code (c / 18) (c / 6 % 3) (c % 6) (omega arith) (omega arith) (omega arith) ∙ ap (has code) (omega arith))
    ∙ sym (bits-has 54 code l)

pub unpacked : (kept : ℕ) {code : ℕ} → code ≡ bits 54 (spaced (has kept)) → Unpacked kept (block_of code)
unpacked kept {code} e =
    record {
      rows = record { few = block-lt code };
      code = code-back code (subst (λ (x : ℕ). x < 2 ^ 54) (sym e) (bits-lt 54 (spaced (has kept)))) ∙ e;
    }

-- the test of such a block is of the voxels given
pub unpacked-test : (kept : ℕ) (block : List (List ℕ)) → Unpacked kept block → test (kept_in block) ≡ test (has kept)
unpacked-test kept block u =
    test-ext (kept_in block) (has kept) (λ v m.
    let h = place-lt v m in
    sym (kept-in-code block v h) ∙ ap (λ (code : ℕ). kept_of code v) u.code ∙ has-spaced 27 (has kept) v h)
