-- The kinds of a block's touched cells, by masked counts of ones.
use mathlib.Core.Path.{◌≡◌, refl, sym, ap, ◌∙◌, subst}
use mathlib.Core.Bool.{Bool, true, false, ◌&&◌}
use mathlib.Core.List.{List, [], ◌∷◌, ◌++◌}
use Prim.Native.Nat.{ℕ, ◌+◌, ◌≤◌}
use native.Mathlib.Nat.{lt_of_le_of_lt}
use lib.Dec.{eqb}
use lib.Bits.{bit_and, and_le_l}
use lib.Count.{ones, ones-le}
use lib.ListN.{length}
use Rattle.cells.specs.Groups.{any, cons_if, filter}
use Rattle.cells.specs.Cells.{contains, positions, touched, dimension, count_of, test_of, test}
use Rattle.prelude.specs.Lists.{range}
use Rattle.prelude.proofs.Lists.{filter-append}
use Rattle.closed_sets.proofs.EveryBlock.{euler, k-few}
use Rattle.bits.specs.Bits.{bits, spaced}
use Rattle.bits.proofs.Bits.{bits-lt, ones-bits}
use Rattle.bits.proofs.Spaced.{spaced-and, ones-spaced}
use Rattle.local_test.specs.Touched.{TouchedBy}

-- ---- counts of ones

pub touched-middle : (kept : ℕ → Bool) → touched kept 13 ≡ false
unfolding touched any contains
touched-middle kept = refl

-- the middle is no cell
pub ones-positions : (p : ℕ → Bool) → p 13 ≡ false → ones (bits 27 p) ≡ length (filter p positions)
unfolding filter range
ones-positions p e =
    ones-bits 27 p
    ∙ ap length
    (filter-append p (range 0 13) (13 ∷ range 14 13)
    ∙ ap (λ (b : Bool). filter p (range 0 13) ++ cons_if b 13 (filter p (range 14 13))) e
    ∙ sym (filter-append p (range 0 13) (range 14 13)))

-- a cell of dimension d
abbrev pub is_of : ℕ → ℕ → Bool
is_of d c = eqb (dimension c) d

pub filter-both : (s q : ℕ → Bool) (cs : List ℕ) → filter (λ c. s c && q c) cs ≡ filter q (filter s cs)
unfolding filter
filter-both s q [] = refl
filter-both s q (c ∷ cs) = ap (cons_if (s c && q c) c) (filter-both s q cs) ∙ split (s c)
  where
    split : (b : Bool) → cons_if (b && q c) c (filter q (filter s cs)) ≡ filter q (cons_if b c (filter s cs))
    split true = refl
    split false = refl

-- the cells of a set that have dimension d
count_of-ones : (d : ℕ) (s : ℕ → Bool) {mask : ℕ} → mask ≡ bits 54 (spaced (is_of d)) → s 13 ≡ false
    → ones (bit_and (bits 54 (spaced s)) mask) ≡ count_of d (filter s positions)
unfolding count_of
count_of-ones d s e m =
    ap (λ (x : ℕ). ones (bit_and (bits 54 (spaced s)) x)) e
    ∙ ap ones (spaced-and 54 s (is_of d))
    ∙ ones-spaced 27 (λ c. s c && is_of d c)
    ∙ ones-positions (λ c. s c && is_of d c) (ap (λ (b : Bool). b && is_of d 13) m)
    ∙ ap length (filter-both s (is_of d) positions)

pub corner-mask : 0x11011000011011 ≡ bits 54 (spaced (is_of 0))
unfolding bits spaced dimension
corner-mask = refl

pub edge-mask : 0x04444440444444 ≡ bits 54 (spaced (is_of 1))
unfolding bits spaced dimension
edge-mask = refl

face-mask : 0x00100111100100 ≡ bits 54 (spaced (is_of 2))
unfolding bits spaced dimension
face-mask = refl

-- ---- the test

-- of the touched cells t
pub record Counted (kept : ℕ → Bool) (t : ℕ) : Type 0 where
  pub corners : ones (bit_and t 0x11011000011011) ≡ (test kept).corners
  pub edges : ones (bit_and t 0x04444440444444) ≡ (test kept).edges
  pub faces : ones (bit_and t 0x00100111100100) ≡ (test kept).faces
  pub law : (test kept).m + (test kept).corners + (test kept).faces ≡ (test kept).k + 1 + (test kept).edges
  pub few-groups : (test kept).k ≤ 8
  pub few-edges : ones (bit_and t 0x04444440444444) ≤ 54

at_bits : (kept : ℕ → Bool) → Counted kept (bits 54 (spaced (touched kept)))
unfolding test test_of
at_bits kept =
    let t = bits 54 (spaced (touched kept)) in
    record {
      corners = count_of-ones 0 (touched kept) corner-mask (touched-middle kept);
      edges = count_of-ones 1 (touched kept) edge-mask (touched-middle kept);
      faces = count_of-ones 2 (touched kept) face-mask (touched-middle kept);
      law = euler kept;
      few-groups = k-few kept;
      few-edges = ones-le 54 (bit_and t 0x04444440444444) (lt_of_le_of_lt (and_le_l t 0x04444440444444) (bits-lt 54 (spaced (touched kept))));
    }

pub counted : (kept : ℕ → Bool) (t : ℕ) → TouchedBy kept t → Counted kept t
counted kept t p = subst (λ (t : ℕ). Counted kept t) (sym p) (at_bits kept)
