-- M and the worked distances, from the taxicab distances to S.
use mathlib.Core.Path.{◌≡◌, refl, sym, ap, ap₂, ◌∙◌, subst, subst₂}
use mathlib.Core.Logic.{inl, inr, ⊎_elim}
use mathlib.Core.Bool.{Bool, true, false, cond, ◌&&◌, ◌||◌, true≢false}
use mathlib.Core.List.{List, map}
use Prim.Native.Nat.{ℕ, zero, suc, ◌+◌, ◌<◌}
use native.Mathlib.Omega.{arith}
use lib.Dec.{eqb, ltb}
use lib.IntN.{ℤ, pos, negsuc}
use lib.ListN.{length, get_or}
use borrow.Author.Tests.{ne_eqb, eqb-true}
use Rattle.cells.specs.Groups.{filter}
use Rattle.prelude.proofs.Bools.{two, and-true, and_zero, and_one, not-true}
use Rattle.prelude.proofs.Lists.{filter-ext, filter-mem}
use Rattle.rules.specs.declared.Sides.{Sides}
use Rattle.rules.specs.Value.{is_missing}
use Rattle.rules.specs.Grid.{range, size, voxels, missing, measured_negative, measured_non_negative, amount, value_at}
use Rattle.rules.specs.Fill.{is_filled, filled}
use Rattle.rules.specs.Begin.{is_in, inside, facing, distance, greatest, greatest_facing, worked, worked_at}
use Rattle.rules.specs.Meaning.{SomeVoxels}
use Rattle.prelude.proofs.Ranges.{range-mem}
use Rattle.rules.proofs.Inside.{inside-members}
use Rattle.rules.proofs.Distance.{facing-eqb, distance-tells, worked-by-distance}
use Rattle.rules.proofs.Fill.{missing-parts, filled-is-enclosed, filled-one, filled-other}
use Rattle.loops.proofs.Below.{map_same, map-ext}
use Rattle.values.specs.Values.{counted_as, counts, greatest_by, worked_to, worked_by}

-- ---- a value, and the value that begin works on

nonneg-negative : (v : ℤ) → measured_negative v ≡ true → measured_non_negative v ≡ false
unfolding measured_negative measured_non_negative
nonneg-negative (pos n) e = sym e
nonneg-negative (negsuc n) e = refl

pub negative-measured : (v : ℤ) → measured_negative v ≡ true → is_missing v ≡ false
unfolding measured_negative is_missing
negative-measured (pos n) e = refl
negative-measured (negsuc n) e = not-true (is_missing (negsuc n)) e

is-mark : (v : ℤ) → is_missing v ≡ true → v ≡ missing
unfolding is_missing
is-mark (pos n) e = absurd (true≢false (sym e))
is-mark (negsuc n) e = ap negsuc (eqb-true n 2147483647 e)

-- a value counts as it is given, or is the missing mark and counts as -1
data Counts : ℤ → ℤ → Type 0 where
  given : (v : ℤ) → Counts v v
  in-gap : Counts missing (negsuc 0)

-- neither is 0 or more where it is not as given
same_sign : (v u : ℤ) → Counts v u → measured_non_negative v ≡ measured_non_negative u
unfolding measured_non_negative
same_sign v u (given w) = refl
same_sign v u in-gap = refl

same-amount : (v u : ℤ) → Counts v u → amount v ≡ amount u
same-amount v u (given w) = refl
same-amount v u in-gap = refl

-- the worked distance by the value as given; a voxel of S is measured negative, or filled
worked-cases : (m : ℕ) (v u : ℤ) (d : ℕ) → Counts v u → (d ≡ 0 → measured_negative u ≡ true)
    → worked_to m v d ≡ cond (eqb d 0 || (measured_non_negative u && eqb d 1)) u (pos (cond (eqb d 1) m (m + d)))
unfolding worked_to counted_as
worked-cases m v u zero c n = inner v u c (n refl)
  where
    inner : (v u : ℤ) → Counts v u → measured_negative u ≡ true → counted_as v ≡ u
    inner v u (given w) e = rw (negative-measured w e)
    inner v u in-gap e = unfold is_missing in refl
worked-cases m v u (suc zero) c n = beside v u c
  where
    beside : (v u : ℤ) → Counts v u → cond (measured_non_negative v) v (pos m) ≡ cond (measured_non_negative u && true) u (pos m)
    beside v u (given w) = rw (and_one (measured_non_negative w))
    beside v u in-gap = unfold measured_non_negative in refl
worked-cases m v u (suc (suc d)) c n =
    rw (
      ne_eqb (suc (suc d)) 0 (λ e. let z : ⊥ = omega arith in z),
      ne_eqb (suc (suc d)) 1 (λ e. let z : ⊥ = omega arith in z),
      and_zero
          (measured_non_negative u),
    )

-- ---- M and the worked distances of the filled values, by the values as given and the distances

module _ (s : Sides) (values : List ℤ) where
  abbrev used : List ℤ
  used = filled s values

  counts-as : (k : ℕ) → k < size s → Counts (value_at values k) (value_at used k)
  counts-as k h =
      elim (two (is_filled s values k)) [
        | inl e ↦
            subst₂ Counts (sym (is-mark (value_at values k) (missing-parts s values k ((filled-is-enclosed s values k).0 e).missing).1))
            (sym (filled-one s values k e)) in-gap
        | inr e ↦ subst (λ (u : ℤ). Counts (value_at values k) u) (sym (filled-other s values k h e)) (given (value_at values k))
      ]

  module _ (len : length values ≡ size s) (some : SomeVoxels s (inside s used)) (d : List ℕ)
      (is : (k : ℕ) → k < size s → get_or d k 0 ≡ distance s (inside s used) k) where
    in-negative : (k : ℕ) → is_in (inside s used) k ≡ true → measured_negative (value_at used k) ≡ true
    in-negative k e = (and-true (ltb k (size s)) (measured_negative (value_at used k)) (inside-members s used k e)).1

    beside : (k : ℕ) → k < size s → counts values d k ≡ measured_non_negative (value_at used k) && facing s (inside s used) k
    beside k h =
        ap₂ (λ (t : Bool) (x : ℕ). t && eqb x 1) (same_sign _ _ (counts-as k h)) (is k h)
        ∙ ⊎_elim
        (λ y. let n = nonneg-negative (value_at used k) (in-negative k y) in rw n)
        (λ n. ap (λ (t : Bool). measured_non_negative (value_at used k) && t) (sym (facing-eqb s (inside s used) some k h n)))
        (two (is_in (inside s used) k))

    pub greatest-facing : greatest_by values d ≡ greatest_facing s used (inside s used)
    unfolding greatest_by greatest_facing voxels
    greatest-facing =
        ap (λ (n : ℕ). greatest 1 (map (λ k. amount (value_at values k)) (filter (counts values d) (range 0 n)))) len
        ∙ ap (λ (m : List ℕ). greatest 1 (map (λ k. amount (value_at values k)) m))
        (filter-ext (counts values d) (λ k. measured_non_negative (value_at used k) && facing s (inside s used) k) (range 0 (size s))
        (λ k m. beside k (let h = range-mem 0 (size s) k m in omega arith)))
        ∙ ap (greatest 1) (map-ext _ _ (filter (λ k. measured_non_negative (value_at used k) && facing s (inside s used) k) (range 0 (size s)))
        (λ k m. same-amount _ _ (counts-as k (let h = range-mem 0 (size s) k (filter-mem _ _ k m).0 in omega arith))))

    pub worked-is : worked_by (greatest_facing s used (inside s used)) values d ≡ worked s used (inside s used)
    unfolding worked_by worked voxels
    worked-is =
        ap (λ (n : ℕ). map (λ k. worked_to M (value_at values k) (get_or d k 0)) (range 0 n)) len
        ∙ map_same (λ k. worked_to M (value_at values k) (get_or d k 0)) (worked_at s used (inside s used) M) (pos 0) (size s)
        (λ k h.
        ap (worked_to M (value_at values k)) (is k h)
        ∙ worked-cases M (value_at values k) (value_at used k) (distance s (inside s used) k) (counts-as k h)
        (λ z. in-negative k (eqb-zero k h z))
        ∙ sym (worked-by-distance s used (inside s used) M some k h))
      where
        M : ℕ
        M = greatest_facing s used (inside s used)

        eqb-zero : (k : ℕ) → k < size s → distance s (inside s used) k ≡ 0 → is_in (inside s used) k ≡ true
        eqb-zero k h z = (distance-tells s (inside s used) some k h).0.1 z
