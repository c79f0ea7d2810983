-- Bytes side by side in one number, and the pending voxels of the bytes up to the last as the bits of one.
use mathlib.Core.Path.{◌≡◌, refl, sym, ap, ap₂, ◌∙◌, subst}
use mathlib.Core.Bool.{Bool, false, ◌&&◌, ◌||◌}
use mathlib.Core.List.{List, [], ◌∷◌}
use Prim.Native.Nat.{ℕ, zero, suc, ◌+◌, ◌-◌, ◌*◌, ◌/◌, ◌%◌, ◌^◌, ◌≤◌, ◌<◌}
use native.Mathlib.Nat.{lt_of_lt_of_le, pow-le-pow_right, div-eq_of_lt, add_comm}
use native.Mathlib.Omega.{arith}
use native.Mathlib.Decide.{dec_lt}
use borrow.Author.Tests.{le-leb, lt-leb}
use lib.Dec.{eqb, lit<}
use lib.Arith.{digits_lt}
use lib.Pow.{pow-add}
use lib.Bits.{or_shifted_r}
use Rattle.std.specs.Int.{w64, from_le_bytes}
use lib.ListN.{length, get_or}
use Rattle.prelude.proofs.Bools.{or-zero}
use Rattle.cells.specs.Cells.{bit}
use Rattle.bits.specs.Bits.{has, bits}
use Rattle.bits.proofs.Bits.{has-or, has-shl, has-bits, bits-lt, bits-ext}
use Rattle.rules.specs.Status.{pending_byte, is_pending}
use Rattle.rules.proofs.Topology.Steps.{pending-beyond}
use Rattle.masks.specs.Bits.{width, Loaded}

-- a number has no digit past its length
pub has-past : (x n c : ℕ) → x < 2 ^ n → n ≤ c → has x c ≡ false
unfolding has
has-past x n c h l = ap (λ (y : ℕ). eqb (y % 2) 1) (div-eq_of_lt (lt_of_lt_of_le h (pow-le-pow_right (lit< tt) l)))

-- ---- bytes side by side

pub loaded-one : (s : List ℕ) (at x : ℕ) → x ≡ get_or s at 0 → x < 256 → Loaded 1 s at x
unfolding has pending_byte is_pending
loaded-one s at x e h = record { small = h; pending = one }
  where
    one : (b : ℕ) → b < 1 → has x (8 * b + 1) ≡ is_pending s (at + b)
    one zero l = let z : at ≡ at + 0 = omega arith in ap (λ (y : ℕ). eqb (y / 2 % 2) 1) (e ∙ ap (λ (i : ℕ). get_or s i 0) z)
    one (suc b) l = let z : ⊥ = omega arith in absurd z

-- one byte more
pub loaded-more :
    (w : ℕ) (s : List ℕ) (at x y : ℕ) → Loaded w s at x → y ≡ get_or s (at + w) 0 → y < 256 → Loaded (w + 1) s at (x + y * 2 ^ (8 * w))
unfolding has pending_byte is_pending
loaded-more w s at x y X e h =
    let k : ℕ = 8 * w in
    let more : 8 + k ≡ 8 * (w + 1) = omega arith in
    let byte : y < 2 ^ 8 = h in
    record {
      small =
          subst (λ (n : ℕ). n < 2 ^ (8 * (w + 1))) (add_comm (y * 2 ^ k) x)
          (subst (λ (n : ℕ). y * 2 ^ k + x < n) (sym (pow-add 2 8 k) ∙ ap (λ (n : ℕ). 2 ^ n) more) (digits_lt byte X.small));
      pending =
          λ b l.
          ap (λ (n : ℕ). has n (8 * b + 1)) (add_comm x (y * 2 ^ k) ∙ sym (or_shifted_r y k x X.small))
          ∙ has-or x (y * 2 ^ k) (8 * b + 1)
          ∙ digit b l (dec_lt b w);
    }
  where
    digit : (b : ℕ) → b < w + 1 → Dec (b < w) → has x (8 * b + 1) || has (y * 2 ^ (8 * w)) (8 * b + 1) ≡ is_pending s (at + b)
    digit b l (yes u) =
        let past = lt-leb (8 * w) (8 * b + 1) (omega arith) in
        ap₂ ◌||◌ (X.pending b u) (has-shl y (8 * w) (8 * b + 1) ∙ ap (λ (t : Bool). t && has y (8 * b + 1 - 8 * w)) past)
        ∙ or-zero (is_pending s (at + b))
    digit b l (no u) =
        let z : b ≡ w = omega arith in
        let i : 8 * b + 1 - 8 * w ≡ 1 = omega arith in
        ap₂ ◌||◌ (has-past x (8 * w) (8 * b + 1) X.small (omega arith))
        (has-shl y (8 * w) (8 * b + 1)
        ∙ ap₂ ◌&&◌ (le-leb (8 * w) (8 * b + 1) (omega arith)) (ap (has y) i)
        ∙ ap (λ (v : ℕ). eqb (v / 2 % 2) 1) (e ∙ ap (λ (c : ℕ). get_or s (at + c) 0) (sym z)))

-- eight bytes, as the library sums them
module _ (s : List ℕ) (at : ℕ) (small : (i : ℕ) → get_or s i 0 < 256) where
  abbrev byte : ℕ → ℕ
  byte i = get_or s (at + i) 0

  more : (w x : ℕ) → Loaded w s at x → Loaded (w + 1) s at (x + byte w * 2 ^ (8 * w))
  more w x X = loaded-more w s at x (byte w) X refl (small (at + w))

  pub loaded-eight : (r : ℕ) → r ≡ from_le_bytes w64 (get_or s at 0 ∷ byte 1 ∷ byte 2 ∷ byte 3 ∷ byte 4 ∷ byte 5 ∷ byte 6 ∷ byte 7 ∷ []) → Loaded 8 s at r
  loaded-eight r e =
      subst (Loaded 8 s at) (sym e)
      (more 7 _ (more 6 _ (more 5 _ (more 4 _ (more 3 _ (more 2 _ (more 1 _ (loaded-one s at _ refl (small at)))))))))

-- ---- the bytes from j to the last, the last first

pub record Gathering (status : List ℕ) (at m j : ℕ) : Type 0 where
  pub low : at ≤ j
  pub high : j ≤ length status
  pub set : m ≡ bits (length status - j) (λ c. is_pending status (j + c))

module _ (status : List ℕ) (at : ℕ) where
  pub gathering-start : at ≤ length status → (j : ℕ) → j ≡ length status → Gathering status at 0 j
  unfolding bits
  gathering-start h j e =
      let z : length status - j ≡ 0 = omega arith in
      record { low = omega arith; high = omega arith; set = sym (ap (λ (n : ℕ). bits n (λ c. is_pending status (j + c))) z) }

  pub gathering-small : length status < at + 64 → (m j : ℕ) → at < j → Gathering status at m j → m < 9223372036854775808
  gathering-small h m j l G =
      let u : length status - j ≤ 63 = omega (arith, G.high) in
      subst (λ (x : ℕ). x < 2 ^ 63) (sym G.set) (lt_of_lt_of_le (bits-lt (length status - j) _) (pow-le-pow_right (lit< tt) u))

  pub gathering-step :
      (m j i v w : ℕ) → i ≡ j - 1 → at < j → v ≡ bit (is_pending status i) → w ≡ m * 2 + v → Gathering status at m j
      → Gathering status at w i
  unfolding bits
  gathering-step m j i v w e l q r G =
      let high = G.high in
      let n : length status - i ≡ suc (length status - j) = omega arith in
      let low : i + 0 ≡ i = omega arith in
      let next = bits-ext (length status - j) (λ c. is_pending status (i + suc c)) (λ c. is_pending status (j + c))
      (λ c _. let z : i + suc c ≡ j + c = omega arith in ap (is_pending status) z) in
      let one : bit (is_pending status (i + 0)) ≡ v = ap (λ (x : ℕ). bit (is_pending status x)) low ∙ sym q in
      record {
        low = omega arith;
        high = omega arith;
        set =
            r ∙ ap₂ (λ (x y : ℕ). x * 2 + y) (G.set ∙ sym next) (sym one) ∙ sym (ap (λ (k : ℕ). bits k (λ c. is_pending status (i + c))) n);
      }

  pub gathering-done :
      (m j : ℕ) → j ≤ at → Gathering status at m j → m ≡ bits (length status - at) (λ c. is_pending status (at + c))
  gathering-done m j h G =
      let low = G.low in
      let e : j ≡ at = omega arith in
      G.set ∙ ap (λ (i : ℕ). bits (length status - i) (λ c. is_pending status (i + c))) e

-- ---- a stretch that ends with the last voxel

-- those up to the last voxel are all that a shorter stretch has
pub shown_rest :
    (status : List ℕ) (at set : ℕ) → at ≤ length status → length status < at + width
    → set ≡ bits (length status - at) (λ c. is_pending status (at + c)) → (t : ℕ) → has set t ≡ is_pending status (at + t)
shown_rest status at set l u e t = ap (λ (x : ℕ). has x t) e ∙ go (dec_lt t (length status - at))
  where
    go : Dec (t < length status - at) → has (bits (length status - at) (λ c. is_pending status (at + c))) t ≡ is_pending status (at + t)
    go (yes h) = has-bits (length status - at) (λ c. is_pending status (at + c)) t h
    go (no h) =
        has-past _ _ t (bits-lt (length status - at) (λ c. is_pending status (at + c))) (omega arith)
        ∙ sym (pending-beyond status (at + t) (omega arith))
