-- The touched cells by three steps, one along each axis: a step copies the middle of the axis to both ends.
use mathlib.Core.Path.{◌≡◌, refl, sym, ap, ap₂, ◌∙◌, subst}
use mathlib.Core.Bool.{Bool, true, false, cond, ◌&&◌, ◌||◌}
use mathlib.Core.List.{List, [], ◌∷◌, map}
use Prim.Native.Nat.{ℕ, ◌+◌, ◌-◌, ◌*◌, ◌/◌, ◌%◌, ◌^◌, ◌<◌}
use native.Mathlib.Nat.{lt_of_le_of_lt, mul-le-mul_right, mod-eq_of_lt}
use native.Mathlib.Omega.{arith}
use lib.Dec.{eqb, leb, lit<}
use lib.Pow.{shr_le}
use lib.Bits.{bit_and, bit_or, and_le_l, and_le_r, or_lt}
use Rattle.cells.specs.Groups.{any, cons_if, filter}
use Rattle.cells.specs.Cells.{contains, positions, touched}
use Rattle.prelude.proofs.Bools.{and_comm, or-zero, or_assoc}
use Rattle.prelude.proofs.Lists.{any-ext, any-map}
use Rattle.bits.specs.Bits.{has, bits, spaced}
use Rattle.touched_cells.specs.Block.{kept_of}
use Rattle.touched_cells.proofs.Sources.{any-cons_if, any-filter, bind, any-bind, within, any_same}
use Rattle.bits.proofs.Bits.{has-or, has-and, has-shr, has-shl, bits-has, bits-ext, below}

and_assoc : (p q r : Bool) → (p && (q && r)) ≡ ((p && q) && r)
and_assoc true q r = refl
and_assoc false q r = refl

-- ---- a step: stride j, the middle cells m

abbrev spread : ℕ → ℕ → ℕ → ℕ
spread j m x = bit_or (bit_or x ((bit_and x m * 2 ^ j) % 2 ^ 64)) (bit_and x m / 2 ^ j)

-- the cells from which a step reaches the cell c
abbrev reach : ℕ → ℕ → ℕ → List ℕ
reach j m c = c ∷ cons_if (leb j c && has m (c - j)) (c - j) (cons_if (has m (j + c)) (j + c) [])

module _ (j m : ℕ) (fits : m * 2 ^ j < 2 ^ 54) where
  high : (x : ℕ) → bit_and x m * 2 ^ j < 2 ^ 54
  high x = lt_of_le_of_lt (mul-le-mul_right (2 ^ j) (and_le_r x m)) fits

  exact : (x : ℕ) → (bit_and x m * 2 ^ j) % 2 ^ 64 ≡ bit_and x m * 2 ^ j
  exact x = mod-eq_of_lt (let h = high x in omega arith)

  spread-has : (x c : ℕ) → has (spread j m x) c ≡ any (has x) (reach j m c)
  unfolding any
  spread-has x c =
      let P : Bool = leb j c in
      let Q : Bool = has m (c - j) in
      let R : Bool = has m (j + c) in
      let low : List ℕ = cons_if R (j + c) [] in
      let up : has ((bit_and x m * 2 ^ j) % 2 ^ 64) c ≡ (P && Q) && has x (c - j) =
      ap (λ (y : ℕ). has y c) (exact x) ∙ has-shl (bit_and x m) j c
      ∙ ap (λ (b : Bool). P && b) (has-and x m (c - j) ∙ and_comm (has x (c - j)) Q) ∙ and_assoc P Q (has x (c - j)) in
      let down : has (bit_and x m / 2 ^ j) c ≡ any (has x) low =
      has-shr (bit_and x m) j c ∙ has-and x m (j + c) ∙ and_comm (has x (j + c)) R
      ∙ sym (any-cons_if R (has x) (j + c) [] ∙ or-zero (R && has x (j + c))) in
      has-or (bit_or x ((bit_and x m * 2 ^ j) % 2 ^ 64)) (bit_and x m / 2 ^ j) c
      ∙ ap₂ ◌||◌ (has-or x ((bit_and x m * 2 ^ j) % 2 ^ 64) c ∙ ap (λ (b : Bool). has x c || b) up) down
      ∙ or_assoc (has x c) ((P && Q) && has x (c - j)) (any (has x) low)
      ∙ ap (λ (b : Bool). has x c || b) (sym (any-cons_if (P && Q) (has x) (c - j) low))

  spread-lt : (x : ℕ) → x < 2 ^ 54 → spread j m x < 2 ^ 54
  spread-lt x h =
      let a : bit_and x m / 2 ^ j < 2 ^ 54 = lt_of_le_of_lt (shr_le (bit_and x m) j) (lt_of_le_of_lt (and_le_l x m) h) in
      or_lt 54 (bit_or x ((bit_and x m * 2 ^ j) % 2 ^ 64)) (bit_and x m / 2 ^ j)
      (or_lt 54 x ((bit_and x m * 2 ^ j) % 2 ^ 64) h (subst (λ (y : ℕ). y < 2 ^ 54) (sym (exact x)) (high x))) a

-- ---- the three steps: all places but the middle one, and the middle ones along each axis, two bits apart

abbrev cells : ℕ
cells = 0x15555551555555

abbrev mid_x : ℕ
mid_x = 0x04104104104104

abbrev mid_y : ℕ
mid_y = 0x00540015000540

abbrev mid_z : ℕ
mid_z = 0x00000555540000

abbrev sources : ℕ → List ℕ
sources c = bind (reach 2 mid_x) (bind (reach 6 mid_y) (reach 18 mid_z c))

-- the bits of the neighbours that contain the cell at bit c, by the steps and by the rule
abbrev inside : ℕ → List ℕ
inside c = filter (has cells) (sources c)

abbrev containing : ℕ → List ℕ
containing c = filter (λ v. contains v c) positions

abbrev double : ℕ → ℕ
double v = 2 * v

abbrev around : ℕ → List ℕ
around c = cond (eqb (c % 2) 0) (map double (containing (c / 2))) []

same-sources : (c : ℕ) → c < 54 → (within (inside c) (around c) && within (around c) (inside c)) ≡ true
unfolding any filter contains has
same-sources = below 54 (λ c. within (inside c) (around c) && within (around c) (inside c)) refl

module _ (code : ℕ) where
  abbrev start : ℕ
  start = bit_and code cells

  abbrev along_x : ℕ
  along_x = spread 2 mid_x start

  abbrev along_y : ℕ
  along_y = spread 6 mid_y along_x

  abbrev along_z : ℕ
  along_z = spread 18 mid_z along_y

  all_three : (c : ℕ) → has along_z c ≡ any (has start) (sources c)
  all_three c =
      spread-has 18 mid_z (lit< tt) along_y c
      ∙ any-ext (has along_y) (λ d. any (has along_x) (reach 6 mid_y d)) (reach 18 mid_z c) (λ d _. spread-has 6 mid_y (lit< tt) along_x d)
      ∙ any-bind (has along_x) (reach 6 mid_y) (reach 18 mid_z c)
      ∙ any-ext (has along_x) (λ d. any (has start) (reach 2 mid_x d)) (bind (reach 6 mid_y) (reach 18 mid_z c)) (λ d _. spread-has 2 mid_x (lit< tt) start d)
      ∙ any-bind (has start) (reach 2 mid_x) (bind (reach 6 mid_y) (reach 18 mid_z c))

  any-around : (c : ℕ) → any (has code) (around c) ≡ spaced (touched (kept_of code)) c
  unfolding spaced any touched
  any-around c = go (eqb (c % 2) 0)
    where
      go : (b : Bool) → any (has code) (cond b (map double (containing (c / 2))) []) ≡ b && touched (kept_of code) (c / 2)
      go true = any-map (has code) double (containing (c / 2)) ∙ any-filter (λ v. contains v (c / 2)) (kept_of code) positions
      go false = refl

  touched-has : (c : ℕ) → c < 54 → has along_z c ≡ spaced (touched (kept_of code)) c
  touched-has c h =
      all_three c
      ∙ any-ext (has start) (λ v. has cells v && has code v) (sources c) (λ v _. has-and code cells v ∙ and_comm (has code v) (has cells v))
      ∙ sym (any-filter (has cells) (has code) (sources c))
      ∙ any_same (has code) (inside c) (around c) (same-sources c h)
      ∙ any-around c

  pub touched-spread : along_z ≡ bits 54 (spaced (touched (kept_of code)))
  touched-spread =
      let l : start < 2 ^ 54 = lt_of_le_of_lt (and_le_r code cells) (lit< tt) in
      bits-has 54 along_z (spread-lt 18 mid_z (lit< tt) along_y (spread-lt 6 mid_y (lit< tt) along_x (spread-lt 2 mid_x (lit< tt) start l)))
      ∙ bits-ext 54 (has along_z) (spaced (touched (kept_of code))) touched-has
