-- Numbers and values as bytes, of any width: how many, and that reading gives them back, whatever follows.
use mathlib.Core.Path.{◌≡◌, refl, ap, ap₂, sym, ◌∙◌}
use mathlib.Core.Logic.{⊎_elim}
use mathlib.Core.Bool.{Bool, true, false, not, cond, ◌&&◌}
use mathlib.Core.List.{List, [], ◌∷◌, ◌++◌, flat_map, append_assoc}
use Prim.Native.Nat.{ℕ, zero, suc, ◌+◌, ◌-◌, ◌*◌, ◌/◌, ◌%◌, ◌^◌, ◌≤◌, ◌<◌}
use native.Mathlib.Omega.{arith}
use native.Mathlib.Nat.{div-add-mod, div-lt_iff_lt-mul, mul-zero}
use lib.ListN.{length, get_or, drop, length-append}
use lib.Seq.{get_or-drop, drop_at, sets}
use lib.IntN.{ℤ, pos, negsuc}
use lib.Signed.{mag}
use lib.Dec.{eqb, leb, ltb}
use borrow.Author.Tests.{lt-ltb, le-ltb, ltb-false, leb-false, eq-eqb, ne_eqb, eqb-true}
use Rattle.prelude.proofs.Bools.{two, and_one}
use Rattle.prelude.proofs.Ranges.{is-map-range}
use Rattle.rules.specs.Value.{is_missing, beyond}
use Rattle.format.specs.Bytes.{Width, word, half, signed, widened, value_of, values_of, word_bytes, unsigned, Holds, narrowed, value_bytes}

-- ---- how many bytes

pub length-word_bytes : (width n : ℕ) → length (word_bytes width n) ≡ width
length-word_bytes zero n = refl
length-word_bytes (suc width) n = ap suc (length-word_bytes width (n / 256))

pub length-value_bytes : (width : ℕ) (v : ℤ) → length (value_bytes width v) ≡ width
unfolding value_bytes
length-value_bytes width v = length-word_bytes width (unsigned (half width) (narrowed (half width) v))

pub length-values_bytes : (width : ℕ) (vs : List ℤ) → length (flat_map (value_bytes width) vs) ≡ width * length vs
unfolding flat_map
length-values_bytes width [] = omega arith
length-values_bytes width (v ∷ vs) =
    length-append (value_bytes width v) _ ∙ ap₂ ◌+◌ (length-value_bytes width v) (length-values_bytes width vs) ∙ omega arith

-- ---- a number that stands further on

pub word-drop : (width k : ℕ) (bytes : List ℕ) (at : ℕ) → word width (drop k bytes) at ≡ word width bytes (k + at)
word-drop zero k bytes at = refl
word-drop (suc width) k bytes at =
    let e : k + (at + 1) ≡ k + at + 1 = omega arith in
    ap₂ (λ (b w : ℕ). b + 256 * w) (get_or-drop k bytes at 0) (word-drop width k bytes (at + 1) ∙ ap (word width bytes) e)

pub value_of-drop : (width k : ℕ) (bytes : List ℕ) (at : ℕ) → value_of width (drop k bytes) at ≡ value_of width bytes (k + at)
unfolding value_of
value_of-drop width k bytes at = ap (λ (n : ℕ). widened (half width) (signed (half width) n)) (word-drop width k bytes at)

-- ---- four bytes are two and two more

pub word-four : (bytes : List ℕ) (at : ℕ) → word 2 bytes at + 65536 * word 2 bytes (at + 2) ≡ word 4 bytes at
word-four bytes at =
    let e : at + 2 ≡ at + 1 + 1 = omega arith in
    let third = ap (λ (k : ℕ). get_or bytes k 0) e in
    let fourth = ap (λ (k : ℕ). get_or bytes (k + 1) 0) e in
    omega arith

-- and so they are written
bytes-of-four : (n : ℕ) → n < 4294967296
    → (n % 65536 % 256 ≡ n % 256) × (n % 65536 / 256 % 256 ≡ n / 256 % 256)
    × (n / 65536 % 256 ≡ n / 256 / 256 % 256) × (n / 65536 / 256 % 256 ≡ n / 256 / 256 / 256 % 256)
bytes-of-four n h = (omega arith, omega arith, omega arith, omega arith)

pub sets-four : (bytes : List ℕ) (at n : ℕ) → n < 4294967296
    → sets (sets bytes at (word_bytes 2 (n % 65536))) (at + 2) (word_bytes 2 (n / 65536)) ≡ sets bytes at (word_bytes 4 n)
sets-four bytes at n h =
    let e : at + 2 ≡ suc (suc at) = omega arith in
    let b = bytes-of-four n h in
    rw (e, b.0, b.1, b.2, b.3) refl

-- ---- a number is read back

pub word-word_bytes : (width n : ℕ) (rest : List ℕ) → n < 256 ^ width → word width (word_bytes width n ++ rest) 0 ≡ n
word-word_bytes zero n rest h = omega arith
word-word_bytes (suc width) n rest h =
    let bytes : List ℕ = word_bytes (suc width) n ++ rest in
    let small : n / 256 < 256 ^ width = (div-lt_iff_lt-mul {k = 256} (omega arith)).1 (omega arith) in
    let high : word width bytes 1 ≡ n / 256 = sym (word-drop width 1 bytes 0) ∙ word-word_bytes width (n / 256) rest small in
    ap (λ (w : ℕ). n % 256 + 256 * w) high ∙ omega (arith, div-add-mod n 256)

-- ---- the missing mark of a width

pub half-low : (width : ℕ) → Width width → 1 ≤ half width
half-low width = ⊎_elim (λ e. rw e (omega arith)) (λ e. rw e (omega arith))

-- what is held, and what becomes of it: a value from 0 on, the mark, or a value below 0
pub narrowed-mark : (h n : ℕ) → eqb n 2147483647 ≡ true → narrowed h (negsuc n) ≡ negsuc (h - 1)
unfolding narrowed is_missing
narrowed-mark h n e = rw e refl

pub narrowed-other : (h n : ℕ) → eqb n 2147483647 ≡ false → narrowed h (negsuc n) ≡ negsuc n
unfolding narrowed is_missing
narrowed-other h n e = rw e refl

pub narrowed-pos : (h n : ℕ) → narrowed h (pos n) ≡ pos n
unfolding narrowed is_missing
narrowed-pos h n = refl

held-from : (h n : ℕ) → Holds h (pos n) → n ≤ h - 1
unfolding beyond
held-from h n m = ltb-false (h - 1) n m

pub held_below : (h n : ℕ) → Holds h (negsuc n) → eqb n 2147483647 ≡ false → n < h - 1
unfolding beyond is_missing
held_below h n m e = leb-false (h - 1) n (sym (and_one (leb (h - 1) n)) ∙ ap (λ (t : Bool). leb (h - 1) n && not t) (sym e) ∙ m)

pub narrowed-mag : (h : ℕ) (z : ℤ) → 1 ≤ h → Holds h z → mag (narrowed h z) < h
narrowed-mag h (pos n) l m = rw (narrowed-pos h n) (omega (arith, held-from h n m))
narrowed-mag h (negsuc n) l m =
    ⊎_elim
    (λ e. rw (narrowed-mark h n e) (omega arith))
    (λ e. rw (narrowed-other h n e) (omega (arith, held_below h n m e)))
    (two (eqb n 2147483647))

-- and back
pub widened-narrowed : (h : ℕ) (z : ℤ) → 1 ≤ h → Holds h z → widened h (narrowed h z) ≡ z
unfolding widened
widened-narrowed h (pos n) l m = rw (narrowed-pos h n) refl
widened-narrowed h (negsuc n) l m =
    ⊎_elim
    (λ e. rw (narrowed-mark h n e, eq-eqb (suc (h - 1)) h (omega arith)) (ap negsuc (sym (eqb-true n 2147483647 e))))
    (λ e. rw (narrowed-other h n e, ne_eqb (suc n) h (λ f. let z : ⊥ = omega (arith, held_below h n m e) in z)) refl)
    (two (eqb n 2147483647))

pub widened-other : (h n : ℕ) → n < h + h → (n ≡ h → ⊥) → widened h (signed h n) ≡ signed h n
unfolding signed widened
widened-other h n b d =
    ⊎_elim
    (λ e. rw e refl)
    (λ e. let a = ltb-false n h e in
    rw (e, ne_eqb (suc (h + h - 1 - n)) h (λ f. d (let q : n ≡ h = omega arith in q))) refl)
    (two (ltb n h))

-- ---- a value is read back

twice_half : (width : ℕ) → half width + half width ≤ 256 ^ width
twice_half zero = omega arith
twice_half (suc zero) = omega arith
twice_half (suc (suc width)) = omega (arith, twice_half (suc width))

unsigned-below : (h : ℕ) (z : ℤ) → mag z < h → unsigned h z < h + h
unfolding unsigned
unsigned-below h (pos n) m = omega arith
unsigned-below h (negsuc n) m = omega arith

pub signed-unsigned : (h : ℕ) (z : ℤ) → mag z < h → signed h (unsigned h z) ≡ z
unfolding signed unsigned
signed-unsigned h (pos n) m = ap (λ (t : Bool). cond t (pos n) (negsuc (h + h - 1 - n))) (lt-ltb n h m)
signed-unsigned h (negsuc n) m =
    let u : ℕ = h + h - 1 - n in
    let e : h + h - 1 - u ≡ n = omega arith in
    ap₂ (λ (t : Bool) (k : ℕ). cond t (pos u) (negsuc k)) (le-ltb u h (omega arith)) e

pub value_of-value_bytes : (width : ℕ) (z : ℤ) (rest : List ℕ) → Width width → Holds (half width) z → value_of width (value_bytes width z ++ rest) 0 ≡ z
unfolding value_of value_bytes
value_of-value_bytes width z rest w m =
    let h : ℕ = half width in
    let u : ℤ = narrowed h z in
    let m' : mag u < h = narrowed-mag h z (half-low width w) m in
    let small : unsigned h u < 256 ^ width = omega (arith, unsigned-below h u m', twice_half width) in
    ap (λ (n : ℕ). widened h (signed h n)) (word-word_bytes width (unsigned h u) rest small)
    ∙ ap (widened h) (signed-unsigned h u m')
    ∙ widened-narrowed h z (half-low width w) m

-- ---- values one after the other are read back

module _ (width : ℕ) (w : Width width) where
  abbrev pub EachHolds : List ℤ → Type 0
  EachHolds vs = (i : ℕ) → i < length vs → Holds (half width) (get_or vs i (pos 0))

  module _ (rest : List ℕ) where
    value_of-values_bytes :
        (vs : List ℤ) → EachHolds vs → (i : ℕ) → i < length vs
        → get_or vs i (pos 0) ≡ value_of width (flat_map (value_bytes width) vs ++ rest) (width * i)
    unfolding flat_map
    value_of-values_bytes [] m i h = let z : ⊥ = omega arith in absurd z
    value_of-values_bytes (v ∷ vs) m zero h = rw (append_assoc, mul-zero) (sym (value_of-value_bytes width v (flat_map (value_bytes width) vs ++ rest) w (m 0 h)))
    value_of-values_bytes (v ∷ vs) m (suc i) h =
        let e : width * suc i ≡ width + width * i = omega arith in
        rw (append_assoc, e, ← value_of-drop, drop_at (value_bytes width v) _ width (length-value_bytes width v))
        (value_of-values_bytes vs (λ j k. m (suc j) (omega arith)) i (omega arith))

    pub values_of-values_bytes : (vs : List ℤ) → EachHolds vs → values_of width (length vs) (flat_map (value_bytes width) vs ++ rest) ≡ vs
    unfolding values_of
    values_of-values_bytes vs m = sym (is-map-range _ (pos 0) (length vs) vs refl (value_of-values_bytes vs m))
