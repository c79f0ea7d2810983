-- The grids by their places: a scan over all of them, and where the part of each lies in a buffer.
use mathlib.Core.Path.{◌≡◌, refl, ap, ap₂, sym, ◌∙◌}
use mathlib.Core.Bool.{Bool}
use mathlib.Core.List.{List, [], ◌∷◌, ◌++◌}
use Prim.Native.Nat.{ℕ, zero, suc, ◌+◌, ◌-◌, ◌*◌, ◌≤◌, ◌<◌}
use native.Mathlib.Omega.{arith}
use native.Mathlib.Numerals.{add-one}
use lib.IntN.{ℤ}
use lib.ListN.{length, get_or, take, drop, length-map, get_or-map}
use lib.Seq.{take-nil}
use Rattle.cells.specs.Groups.{any}
use Rattle.prelude.proofs.Lists.{any-map}
use Rattle.rules.specs.declared.Record.{Record}
use Rattle.rules.specs.Grid.{range, fit_sides, size}
use Rattle.rules.specs.Fit.{Lent}
use Rattle.rules.specs.Machine.{state}
use Rattle.office.specs.declared.Grids.{Grids}
use Rattle.office.specs.Parts.{total, part_at, put}
use Rattle.office.specs.Serve.{no_record, grid_at}
use Rattle.office.proofs.Parts.{part-at, put-at, part_length}
use Rattle.office.specs.Structs.{listed, records_of}
use Rattle.order_record.proofs.Places.{length-listed, listed_at}
use Rattle.serving_checks.specs.Given.{sizes_of, grids_of, LaidOut}

-- ---- a test

-- a test of the records is one of the places
pub at_places : (g : Grids) (t : Record → Bool) → any t (records_of g) ≡ any (λ p. t (get_or g.records p no_record)) (range 0 g.count)
unfolding listed
at_places g t = any-map t (λ p. get_or g.records p no_record) (range 0 g.count)

-- ---- parts by where they start and end

total-more : (ns : List ℕ) (p : ℕ) → total (take (suc p) ns) ≡ total (take p ns) + get_or ns p 0
unfolding total
total-more [] p = rw (take-nil p)
total-more (n ∷ ns) zero = omega arith
total-more (n ∷ ns) (suc p) = ap (λ (m : ℕ). n + m) (total-more ns p) ∙ omega arith

total-le : (ns : List ℕ) (p : ℕ) → total (take p ns) ≤ total ns
unfolding total
total-le [] p = rw (take-nil p) (omega arith)
total-le (n ∷ ns) zero = omega arith
total-le (n ∷ ns) (suc p) = omega (arith, total-le ns p)

module _ (ns : List ℕ) (p from to : ℕ) (start : from ≡ total (take p ns)) (end : to ≡ total (take (p + 1) ns)) where
  end_is : to ≡ from + get_or ns p 0
  end_is = end ∙ ap (λ (k : ℕ). total (take k ns)) (add-one p) ∙ total-more ns p ∙ ap (λ (m : ℕ). m + get_or ns p 0) (sym start)

  long : to - from ≡ get_or ns p 0
  long = omega (arith, end_is)

  pub part-ordered : from ≤ to
  part-ordered = omega (arith, end_is)

  pub part-within : {A : Type 0} (l : List A) → length l ≡ total ns → to ≤ length l
  part-within l e = omega (arith, end, total-le ns (p + 1))

  pub part-is : {A : Type 0} (l : List A) → take (to - from) (drop from l) ≡ part_at ns l p
  part-is l = ap₂ (λ (n m : ℕ). take n (drop m l)) long start ∙ sym (part-at ns l p)

  pub put_is : {A : Type 0} (l part : List A) → p < length ns → length l ≡ total ns
      → take from l ++ (part ++ drop (to - from) (drop from l)) ≡ put ns l p part
  put_is l part h e =
      ap₂ (λ (n m : ℕ). take m l ++ (part ++ drop n (drop m l))) long start ∙ sym (put-at ns l p part h e)

-- ---- the part of a grid

pub length-sizes : (g : Grids) → length (sizes_of g) ≡ g.count
length-sizes g = length-map (records_of g) (λ (r : Record). size r.sides) ∙ length-listed no_record g.count g.records

module _ (g : Grids) (p : ℕ) (below : p < g.count) where
  pub size-at : get_or (sizes_of g) p 0 ≡ size (get_or g.records p no_record).sides
  unfolding size
  size-at =
      get_or-map (λ (r : Record). size r.sides) (records_of g) p no_record
      ∙ ap (λ (r : Record). size r.sides) (listed_at no_record g.count g.records p below)

-- the sum of the sizes before k, and how large it gets
pub record Summing (g : Grids) (k from : ℕ) : Type 0 where
  pub sum : from ≡ total (take k (sizes_of g))
  pub bound : from ≤ 262144 * k

pub summing_start : (g : Grids) → Summing g 0 0
unfolding total
summing_start g = record { sum = refl; bound = omega arith }

pub summing-next : (g : Grids) (k from n : ℕ) → Summing g k from → k < g.count → n ≡ size (get_or g.records k no_record).sides → n ≤ 262144
    → Summing g (k + 1) (from + n)
summing-next g k from n s h is few =
    record {
      sum =
          ap₂ ◌+◌ s.sum (is ∙ sym (size-at g k h)) ∙ sym (total-more (sizes_of g) k)
          ∙ ap (λ (m : ℕ). total (take m (sizes_of g))) (sym (add-one k));
      bound = omega (arith, s.bound);
    }

module _ (g : Grids) (dist : List ℤ) (status : List ℕ) (l : LaidOut g dist status) (p from to : ℕ) (below : p < g.count)
    (start : from ≡ total (take p (sizes_of g))) (end : to ≡ total (take (p + 1) (sizes_of g))) where
  abbrev part : {A : Type 0} → List A → List A
  part b = take (to - from) (drop from b)

  module _ (r : Record) (is : r ≡ get_or g.records p no_record) where
    own-length : {A : Type 0} (b : List A) → length b ≡ total (sizes_of g) → length (part b) ≡ size r.sides
    own-length b e =
        ap length (part-is (sizes_of g) p from to start end b) ∙ part_length (sizes_of g) b e p ∙ size-at g p below
        ∙ ap (λ (r : Record). size r.sides) (sym is)

    pub part-lent : Lent r.sides (part dist) (part status)
    part-lent =
        record {
          sides = ap (λ (r : Record). fit_sides r.sides) is ∙ l.sized.sides p below;
          distances = own-length dist l.distances;
          statuses = own-length status l.statuses;
        }

    pub part-grid : state r (part dist) (part status) ≡ grid_at (grids_of g dist status) p
    unfolding grid_at
    part-grid = λ i.
        state ((is ∙ sym (listed_at no_record g.count g.records p below)) i) (part-is (sizes_of g) p from to start end dist i)
        (part-is (sizes_of g) p from to start end status i)
