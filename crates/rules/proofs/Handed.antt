-- The signs of what begin hands out, and its checks on the values that it works on.
use mathlib.Core.Path.{◌≡◌, refl, ap, sym, ◌∙◌}
use mathlib.Core.Logic.{inl, inr}
use mathlib.Core.Bool.{Bool, true, false, not, ◌&&◌, ◌||◌}
use mathlib.Core.List.{List, [], ◌∷◌}
use Prim.Native.Nat.{ℕ, zero, suc, ◌<◌}
use native.Mathlib.Omega.{arith}
use lib.Dec.{leb, ltb, eqb}
use lib.IntN.{ℤ, pos, negsuc}
use lib.ListN.{length}
use Rattle.cells.specs.Groups.{any}
use Rattle.cells.specs.Linked.{stay, step}
use Rattle.prelude.proofs.Bools.{and-true, and_zero, both_ways, not-both, two}
use Rattle.prelude.proofs.Lists.{any-map}
use Rattle.prelude.proofs.Ranges.{is-map-range, any_below, below-any, any-run-ext}
use Rattle.rules.specs.declared.Sides.{Sides}
use Rattle.rules.specs.Value.{is_missing, beyond, stray}
use Rattle.rules.specs.Grid.{fit_sides, size, range, voxels, on_border, missing, measured_negative, value_at}
use Rattle.rules.specs.Checks.{◌when◌}
use Rattle.rules.specs.Fill.{is_filled, filled}
use Rattle.rules.specs.Marks.{wrong_marks, stray_mark}
use Rattle.rules.specs.Begin.{is_in, inside}
use Rattle.rules.specs.Machine.{is_inside}
use Rattle.rules.specs.Gaps.{InGap, Enclosed}
use Rattle.rules.specs.Handed.{NegativeIsInside, MissingIsNegative, ChecksAsGiven}
use Rattle.rules.proofs.Inside.{inside-members}
use Rattle.rules.proofs.Fill.{missing-parts, missing-from, filled-is-enclosed, length-filled, filled-one, filled-other}
use Rattle.rules.proofs.Topology.Start.{border-inner, worked-signs}
use Rattle.rules.proofs.Neighbours.{border-zero, beside}
use Rattle.rules.proofs.Demand.{by-begin}

-- ---- signs

pub negative-is-inside : NegativeIsInside
negative-is-inside s T values marks dist status r e i h =
    by-begin (λ g. is_inside g.dist i ≡ is_in (inside s (filled s values)) i) s T values marks dist status
    (λ accepted. worked-signs s (filled s values) i h) r e

missing-sign : (v : ℤ) → is_missing v ≡ true → measured_negative v ≡ false
unfolding measured_negative is_missing
missing-sign (pos n) e = refl
missing-sign (negsuc n) e = ap not e

-- what is in S and was missing was filled
inside-filled : (s : Sides) (values : List ℤ) (i : ℕ) → i < size s → is_missing (value_at values i) ≡ true → is_in (inside s (filled s values)) i ≡ true
    → is_filled s values i ≡ true
inside-filled s values i h m inner =
    elim (two (is_filled s values i)) [
      | inl f ↦ f
      | inr f ↦
          let used = (and-true (ltb i (size s)) (measured_negative (value_at (filled s values) i)) (inside-members s (filled s values) i inner)).1 in
          not-both (measured_negative (value_at values i)) (ap (λ (v : ℤ). measured_negative v) (sym (filled-other s values i h f)) ∙ used)
          (missing-sign (value_at values i) m)
    ]

pub missing-is-negative : MissingIsNegative
missing-is-negative s T values marks dist status r e i h m =
    let sign = negative-is-inside s T values marks dist status r e i h in
    (λ n. let inner = sym sign ∙ n in (inside-filled s values i h m inner, inner), λ p. sign ∙ p.1)

-- ---- a filled gap has a measured negative voxel beside it: along x the gap ends before the border

module _ (s : Sides) (values : List ℤ) (i : ℕ) (enclosed : Enclosed s values i) where
  negative-beside : (j : ℕ) → j < size s → InGap s values i j → (k : ℕ) × (k < size s) × (measured_negative (value_at values k) ≡ true)
  negative-beside zero h l = not-both (on_border s 0) (border-zero s) (enclosed.off-border 0 l)
  negative-beside (suc j) h l =
      let f = beside s j h (border-inner s (suc j) h (enclosed.off-border (suc j) l)).x-low in
      let k : j < size s = omega arith in
      elim (enclosed.walled (suc j) j l k f) [
        | inl m ↦ negative-beside j k (step l f (missing-from s values j k m))
        | inr m ↦ (j, k, m)
      ]

-- ---- the checks, each by what it asks of one voxel

module _ (s : Sides) (values : List ℤ) where
  abbrev used : List ℤ
  used = filled s values

  abbrev negative_at : List ℤ → ℕ → Bool
  negative_at vs i = measured_negative (value_at vs i)

  enclosed-at : (i : ℕ) → is_filled s values i ≡ true → Enclosed s values i
  enclosed-at i f = (filled-is-enclosed s values i).0 f

  was-missing : (i : ℕ) → is_filled s values i ≡ true → is_missing (value_at values i) ≡ true
  was-missing i f = (missing-parts s values i (enclosed-at i f).missing).1

  -- the range: neither -1 nor the missing mark is out of it
  same-stray : (i : ℕ) → i < size s → stray (value_at used i) ≡ stray (value_at values i)
  same-stray i h =
      elim (two (is_filled s values i)) [
        | inl f ↦ ap (λ (v : ℤ). stray v) (filled-one s values i f) ∙ fine ∙ sym (missing-fine (value_at values i) (was-missing i f))
        | inr f ↦ ap (λ (v : ℤ). stray v) (filled-other s values i h f)
      ]
    where
      fine : stray (negsuc 0) ≡ false
      fine = unfold beyond is_missing in refl

      missing-fine : (v : ℤ) → is_missing v ≡ true → stray v ≡ false
      missing-fine (pos n) e = unfold is_missing in not-both false e refl
      missing-fine (negsuc n) e = unfold beyond in ap (λ (t : Bool). leb 1000000000 n && not t) e ∙ and_zero (leb 1000000000 n)

  -- the border: no voxel of it is filled
  same-border : (i : ℕ) → i < size s → (on_border s i && negative_at used i) ≡ (on_border s i && negative_at values i)
  same-border i h =
      elim (two (is_filled s values i)) [
        | inl f ↦ let E = enclosed-at i f in rw (E.off-border i (stay E.missing))
        | inr f ↦ ap (λ (v : ℤ). on_border s i && measured_negative v) (filled-other s values i h f)
      ]

  -- some voxel: a measured negative one stays, and a filled one has one beside it
  same_some : any (negative_at used) (range 0 (size s)) ≡ any (negative_at values) (range 0 (size s))
  same_some = both_ways _ _ (λ e. given (any_below (negative_at used) (size s) e)) (λ e. stays (any_below (negative_at values) (size s) e))
    where
      given : (i : ℕ) × (i < size s) × (negative_at used i ≡ true) → any (negative_at values) (range 0 (size s)) ≡ true
      given r =
          elim (two (is_filled s values r.0)) [
            | inl f ↦
                let E = enclosed-at r.0 f in
                let k = negative-beside s values r.0 E r.0 r.1 (stay E.missing) in
                below-any (negative_at values) (size s) k.0 k.1 k.2
            | inr f ↦
                below-any (negative_at values) (size s) r.0 r.1
                (ap (λ (v : ℤ). measured_negative v) (sym (filled-other s values r.0 r.1 f)) ∙ r.2)
          ]

      stays : (i : ℕ) × (i < size s) × (negative_at values i ≡ true) → any (negative_at used) (range 0 (size s)) ≡ true
      stays r =
          below-any (negative_at used) (size s) r.0 r.1
          (elim (two (is_filled s values r.0)) [
            | inl f ↦ not-both (negative_at values r.0) r.2 (missing-sign (value_at values r.0) (was-missing r.0 f))
            | inr f ↦ ap (λ (v : ℤ). measured_negative v) (filled-other s values r.0 r.1 f) ∙ r.2
          ])

-- a test of all values is one of all voxels
any-values : (s : Sides) (p : ℤ → Bool) (vs : List ℤ) → length vs ≡ size s → any p vs ≡ any (λ i. p (value_at vs i)) (range 0 (size s))
any-values s p vs n = ap (any p) (is-map-range (value_at vs) missing (size s) vs n (λ i h. refl)) ∙ any-map p (value_at vs) (range 0 (size s))

pub checks-as-given : ChecksAsGiven
unfolding voxels
checks-as-given s values marks dist status n = λ k.
    1 when not (fit_sides s)
    ∷ 2 when (not (eqb (lengths k) (size s) && (eqb (length dist) (size s) && eqb (length status) (size s))) || wrong_marks s marks)
    ∷ 28 when strays k
    ∷ 29 when stray_mark marks
    ∷ 3 when any-run-ext _ _ 0 (size s) (λ i l h. same-border s values i (omega arith)) k
    ∷ 4 when not (same_some s values k)
    ∷ []
  where
    lengths : length (filled s values) ≡ length values
    lengths = length-filled s values ∙ sym n

    strays : any stray (filled s values) ≡ any stray values
    strays =
        any-values s stray (filled s values) (length-filled s values)
        ∙ any-run-ext _ _ 0 (size s) (λ i l h. same-stray s values i (omega arith))
        ∙ sym (any-values s stray values n)
