-- The pass by a count of ones, where the touched cells differ from the edges, and by k.
use mathlib.Core.Path.{◌≡◌, refl, sym, ap, ap₂, ◌∙◌}
use mathlib.Core.Bool.{Bool, true, false, not, ◌&&◌, ◌||◌, true≢false}
use mathlib.Core.List.{List, [], ◌∷◌}
use Prim.Native.Nat.{ℕ, ◌+◌}
use native.Mathlib.Omega.{arith}
use lib.Dec.{eqb}
use lib.Bits.{bit_and, bit_xor}
use lib.Count.{ones}
use lib.ListN.{length}
use borrow.Author.Tests.{eqb-true, eq-eqb}
use Rattle.cells.specs.Groups.{any, filter}
use Rattle.cells.specs.Cells.{bit, positions, touched, dimension, count_of, test_of, test, passes}
use Rattle.prelude.proofs.Bools.{and-true, and_one, true-and, both_ways}
use Rattle.prelude.proofs.Lists.{Mem, here, there}
use Rattle.closed_sets.proofs.EveryBlock.{all_in, euler}
use Rattle.bits.specs.Bits.{bits, spaced}
use Rattle.bits.proofs.Bits.{bits-ext, unlike, length-cons_if}
use Rattle.bits.proofs.Spaced.{spaced-and, spaced-xor, ones-spaced}
use Rattle.local_test.specs.Touched.{TouchedBy}
use Rattle.local_test.proofs.Counts.{touched-middle, ones-positions, is_of, filter-both, edge-mask}

-- ---- a sum over cells, from the sum at each

abbrev Balanced : (p q a b e : Bool) → Type 0
Balanced p q a b e = bit p + bit q ≡ bit a + bit b + bit e

size : (ℕ → Bool) → List ℕ → ℕ
size p cs = length (filter p cs)

balance : (p q a b e : ℕ → Bool) (cs : List ℕ) → ((c : ℕ) → Mem c cs → Balanced (p c) (q c) (a c) (b c) (e c))
    → size p cs + size q cs ≡ size a cs + size b cs + size e cs
unfolding size filter
balance p q a b e [] h = refl
balance p q a b e (c ∷ cs) h =
    let i = balance p q a b e cs (λ d m. h d (there m)) in
    let z = h c here in
    omega (
      arith,
      length-cons_if (p c) c (filter p cs),
      length-cons_if (q c) c (filter q cs),
      length-cons_if (a c) c (filter a cs),
      length-cons_if (b c) c (filter b cs),
      length-cons_if (e c) c (filter e cs),
    )

-- ---- a cell is a corner, an edge or a face

data Kind : Bool → Bool → Bool → Type 0 where
  corner : Kind true false false
  edge : Kind false true false
  face : Kind false false true

-- just one of three
abbrev one : Bool → Bool → Bool → Bool
one true q r = not (q || r)
one false true r = not r
one false false r = r

kind : (v e f : Bool) → one v e f ≡ true → Kind v e f
kind true true f h = absurd (true≢false (sym h))
kind true false true h = absurd (true≢false (sym h))
kind true false false h = corner
kind false true true h = absurd (true≢false (sym h))
kind false true false h = edge
kind false false true h = face
kind false false false h = absurd (true≢false (sym h))

at-cell : (x : Bool) {v e f : Bool} → Kind v e f → Balanced (unlike x e) (x && e) (x && v) (x && f) e
at-cell true corner = refl
at-cell true edge = refl
at-cell true face = refl
at-cell false corner = refl
at-cell false edge = refl
at-cell false face = refl

kind-of : (c : ℕ) → Mem c positions → Kind (is_of 0 c) (is_of 1 c) (is_of 2 c)
unfolding any dimension
kind-of c m = kind (is_of 0 c) (is_of 1 c) (is_of 2 c) (all_in (λ c. one (is_of 0 c) (is_of 1 c) (is_of 2 c)) positions refl c m)

twelve-edges : size (is_of 1) positions ≡ 12
unfolding size filter dimension
twelve-edges = refl

size-both : (s : ℕ → Bool) (d : ℕ) → size (λ c. s c && is_of d c) positions ≡ count_of d (filter s positions)
unfolding size count_of
size-both s d = ap length (filter-both s (is_of d) positions)

abbrev all_cells : ℕ
all_cells = 0x15555555555555

all-mask : all_cells ≡ bits 54 (spaced (λ c. true))
unfolding bits spaced
all-mask = refl

-- the count of the code, of a set of cells
abbrev pub count : ℕ → ℕ
count t = ones (bit_and (bit_xor t 0x04444440444444) all_cells)

ones-unlike : (s : ℕ → Bool) → s 13 ≡ false → count (bits 54 (spaced s)) ≡ size (λ c. unlike (s c) (is_of 1 c)) positions
unfolding size dimension
ones-unlike s e =
    ap ones (ap₂ bit_and (ap (bit_xor (bits 54 (spaced s))) edge-mask ∙ spaced-xor 54 s (is_of 1)) all-mask ∙ spaced-and 54 _ _)
    ∙ ones-spaced 27 (λ c. unlike (s c) (is_of 1 c) && true)
    ∙ ap ones (bits-ext 27 (λ c. unlike (s c) (is_of 1 c) && true) (λ c. unlike (s c) (is_of 1 c)) (λ c _. and_one (unlike (s c) (is_of 1 c))))
    ∙ ones-positions (λ c. unlike (s c) (is_of 1 c)) (ap (λ (b : Bool). unlike b (is_of 1 13)) e)

-- there are 12 edges, so the touched ones count against the corners and the faces
unlike-edges : (kept : ℕ → Bool) → count (bits 54 (spaced (touched kept))) + (test kept).edges ≡ (test kept).corners + (test kept).faces + 12
unfolding test test_of
unlike-edges kept =
    let s = touched kept in
    omega (
      arith,
      ones-unlike s (touched-middle kept),
      balance (λ c. unlike (s c) (is_of 1 c)) (λ c. s c && is_of 1 c) (λ c. s c && is_of 0 c) (λ c. s c && is_of 2 c) (is_of 1) positions
          (λ c m. at-cell (s c) (kind-of c m)),
      size-both s 0,
      size-both s 1,
      size-both s 2,
      twelve-edges,
    )

-- ---- the pass

two-counts : (x v e f k m : ℕ) → m + v + f ≡ k + 1 + e → x + e ≡ v + f + 12 → (eqb x 13 && eqb k 1) ≡ (eqb k 1 && eqb m 1)
two-counts x v e f k m p q =
    both_ways (eqb x 13 && eqb k 1) (eqb k 1 && eqb m 1)
    (λ h.
    let g = and-true (eqb x 13) (eqb k 1) h in
    let a : x ≡ 13 = eqb-true x 13 g.0 in
    let b : k ≡ 1 = eqb-true k 1 g.1 in
    true-and (eqb k 1) (eqb m 1) g.1 (eq-eqb m 1 (omega arith)))
    (λ h.
    let g = and-true (eqb k 1) (eqb m 1) h in
    let a : k ≡ 1 = eqb-true k 1 g.0 in
    let b : m ≡ 1 = eqb-true m 1 g.1 in
    true-and (eqb x 13) (eqb k 1) (eq-eqb x 13 (omega arith)) g.0)

-- k is the groups of touched cells, however it was found
pub pass-by-counts : (kept : ℕ → Bool) (t k : ℕ) → TouchedBy kept t → k ≡ (test kept).k → (eqb (count t) 13 && eqb k 1) ≡ passes (test kept)
unfolding passes
pass-by-counts kept t k p e =
    let x : count t + (test kept).edges ≡ (test kept).corners + (test kept).faces + 12 = ap (λ (t : ℕ). count t + (test kept).edges) p ∙ unlike-edges kept in
    ap (λ (k : ℕ). eqb (count t) 13 && eqb k 1) e
    ∙ two-counts (count t) (test kept).corners (test kept).edges (test kept).faces (test kept).k (test kept).m (euler kept) x
