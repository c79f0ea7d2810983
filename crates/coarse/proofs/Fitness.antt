-- What number 31 gives: even sides of 6 or more, and no measured negative voxel in a block at the border; no filled one either.
use mathlib.Core.Path.{◌≡◌, refl, ap, ap₂, sym, ◌∙◌}
use mathlib.Core.Logic.{◌⊎◌, inl, inr}
use mathlib.Core.Bool.{Bool, true, false, ◌&&◌, ◌||◌}
use mathlib.Core.List.{List}
use Prim.Native.Nat.{ℕ, suc, ◌+◌, ◌*◌, ◌/◌, ◌%◌, ◌≤◌, ◌<◌}
use native.Mathlib.Omega.{arith}
use native.Mathlib.Decide.{dec_le}
use lib.Dec.{ltb, eqb}
use lib.IntN.{ℤ}
use borrow.Author.Tests.{ltb-true, ltb-false, le-ltb, eqb-false, eq-eqb}
use Rattle.cells.specs.Groups.{any}
use Rattle.cells.specs.Linked.{stay, step}
use Rattle.prelude.proofs.Bools.{and-true, and_zero, or-false, true-or, not-both, two}
use Rattle.prelude.proofs.Ranges.{none_below, any-run-ext}
use Rattle.rules.specs.declared.Sides.{Sides}
use Rattle.rules.specs.Grid.{Voxel, size, index, voxel, voxels, end, on_border, gap, apart, taxicab, share_face, measured_negative, value_at}
use Rattle.rules.specs.Meaning.{negative}
use Rattle.rules.specs.Fit.{Beginnable}
use Rattle.rules.specs.Fill.{is_filled, filled}
use Rattle.rules.specs.Gaps.{Enclosed}
use Rattle.rules.proofs.Places.{InGrid, voxel-index, index-lt}
use Rattle.rules.proofs.Distance.{gap-none}
use Rattle.rules.proofs.Fill.{missing-from, filled-is-enclosed, filled-lt, filled-other}
use Rattle.rules.proofs.Topology.Around.{inner-in}
use Rattle.rules.proofs.Topology.Start.{border-inner}
use Rattle.coarse.specs.Coarse.{unfit_side, unfit_sides, near_end, near_border, unfit_coarse}
use Rattle.coarse.specs.Eight.{Even}
use Rattle.coarse.specs.Promises.{FilledAsFit}

-- along an axis, a coordinate that no block at the border has
abbrev pub Within : ℕ → ℕ → Type 0
Within side x = (2 ≤ x) × (x + 3 ≤ side)

pub record CoarseFit (s : Sides) (values : List ℤ) : Type 0 where
  pub even : Even s
  pub a-low : 6 ≤ s.a
  pub b-low : 6 ≤ s.b
  pub c-low : 6 ≤ s.c
  pub x-off : (i : ℕ) → negative s values i ≡ true → Within s.a (voxel s i).x
  pub y-off : (i : ℕ) → negative s values i ≡ true → Within s.b (voxel s i).y
  pub z-off : (i : ℕ) → negative s values i ≡ true → Within s.c (voxel s i).z

side-fit : (n : ℕ) → unfit_side n ≡ false → (6 ≤ n) × (2 * (n / 2) ≡ n)
side-fit n e =
    let r = or-false (eqb (n % 2) 1) (ltb n 6) e in
    let odd = eqb-false (n % 2) 1 r.0 in
    (ltb-false n 6 r.1, omega arith)

pub end-off : (side x : ℕ) → near_end side x ≡ false → Within side x
end-off side x e = let r = or-false (ltb x 2) (ltb side (x + 3)) e in (ltb-false x 2 r.0, ltb-false side (x + 3) r.1)

pub off-end : (side x : ℕ) → Within side x → near_end side x ≡ false
off-end side x w = ap₂ ◌||◌ (le-ltb x 2 w.0) (le-ltb side (x + 3) w.1)

abbrev too_near : Sides → List ℤ → ℕ → Bool
too_near s values i = measured_negative (value_at values i) && near_border s i

module _ (s : Sides) (values : List ℤ) (e : unfit_coarse s values ≡ false) where
  parts : (unfit_sides s ≡ false) × (any (too_near s values) (voxels s) ≡ false)
  unfolding unfit_coarse
  parts = or-false (unfit_sides s) (any (too_near s values) (voxels s)) e

  none-near : (i : ℕ) → i < size s → too_near s values i ≡ false
  unfolding voxels
  none-near i h = none_below (too_near s values) (size s) parts.1 i h

  pub coarse-fit : CoarseFit s values
  unfolding near_border
  coarse-fit =
      let p = or-false (unfit_side s.a) (unfit_side s.b || unfit_side s.c) parts.0 in
      let q = or-false (unfit_side s.b) (unfit_side s.c) p.1 in
      let a = side-fit s.a p.0 in
      let b = side-fit s.b q.0 in
      let c = side-fit s.c q.1 in
      record {
        even = record { a-even = a.1; b-even = b.1; c-even = c.1; a-some = omega (arith, a.0); b-some = omega (arith, b.0) };
        a-low = a.0;
        b-low = b.0;
        c-low = c.0;
        x-off = λ i n. end-off s.a (voxel s i).x (clear i n).0;
        y-off = λ i n. end-off s.b (voxel s i).y (clear i n).1;
        z-off = λ i n. end-off s.c (voxel s i).z (clear i n).2;
      }
    where
      clear : (i : ℕ) → negative s values i ≡ true
          → (near_end s.a (voxel s i).x ≡ false) × (near_end s.b (voxel s i).y ≡ false) × (near_end s.c (voxel s i).z ≡ false)
      clear i n =
          let m = and-true (ltb i (size s)) (measured_negative (value_at values i)) n in
          let g : near_border s i ≡ false = sym (ap (λ (t : Bool). t && near_border s i) m.1) ∙ none-near i (ltb-true i (size s) m.0) in
          let x = or-false (near_end s.a (voxel s i).x) (near_end s.b (voxel s i).y || near_end s.c (voxel s i).z) (unfold near_border in g) in
          let y = or-false (near_end s.b (voxel s i).y) (near_end s.c (voxel s i).z) x.1 in
          (x.0, y.0, y.1)

-- ---- a voxel of a gap behind the face is not beside the border

gap_up : (p q : ℕ) → p ≡ suc q → gap p q ≡ 1
unfolding gap
gap_up p q e = omega arith

gap_down : (p q : ℕ) → suc p ≡ q → gap p q ≡ 1
unfolding gap
gap_down p q e = omega arith

high_end : (side x : ℕ) → suc x ≡ side → end side x ≡ true
high_end side x e = true-or (eqb x 0) (eqb (suc x) side) (inr (eq-eqb (suc x) side e))

module _ (s : Sides) (values : List ℤ) (accepted : Beginnable s values) (i : ℕ) (f : is_filled s values i ≡ true) where
  abbrev v : Voxel
  v = voxel s i

  gapped : Enclosed s values i
  gapped = (filled-is-enclosed s values i).0 f

  abbrev AtEnd : Voxel → Type 0
  AtEnd w = (end s.a w.x ≡ true) ⊎ ((end s.b w.y ≡ true) ⊎ (end s.c w.z ≡ true))

  -- a face neighbour of it is missing and off the border, or measured negative and so off the border too
  not-beside : (w : Voxel) → InGrid s w → apart v w ≡ 1 → AtEnd w → ⊥
  unfolding on_border share_face taxicab
  not-beside w g a b =
      let j = index s w in
      let l : j < size s = index-lt s w g in
      let q : voxel s j ≡ w = voxel-index s w g.x-in g.y-in in
      let border : on_border s j ≡ true = ap (λ (u : Voxel). end s.a u.x || (end s.b u.y || end s.c u.z)) q ∙ meets b in
      let face : share_face s i j ≡ true = ap (λ (u : Voxel). eqb (apart v u) 1) q ∙ eq-eqb (apart v w) 1 a in
      elim (gapped.walled i j (stay gapped.missing) l face) [
        | inl m ↦ not-both (on_border s j) border (gapped.off-border j (step (stay gapped.missing) face (missing-from s values j l m)))
        | inr m ↦ not-both (measured_negative (value_at values j)) m (accepted.border j l border)
      ]
    where
      meets : {p q r : Bool} → (p ≡ true) ⊎ ((q ≡ true) ⊎ (r ≡ true)) → (p || (q || r)) ≡ true
      meets {p} {q} {r} (inl e) = true-or p (q || r) (inl e)
      meets {p} {q} {r} (inr e) = true-or p (q || r) (inr (true-or q r e))

  -- along an axis: at moves the voxel to a coordinate there
  along : (side x : ℕ) (at : ℕ → Voxel) → 1 ≤ x → suc x < side → ((q : ℕ) → q < side → InGrid s (at q)) → ((q : ℕ) → apart v (at q) ≡ gap x q)
      → ((q : ℕ) → end side q ≡ true → AtEnd (at q)) → Within side x
  along side x at low high in-grid steps ends = (
    elim (dec_le 2 x) [
      | yes h ↦ h
      | no n ↦ absurd (not-beside (at 0) (in-grid 0 (omega arith)) (steps 0 ∙ gap_up x 0 (omega arith)) (ends 0 refl))
    ],
    elim (dec_le (x + 3) side) [
      | yes h ↦ h
      | no n ↦
          absurd (not-beside (at (suc x)) (in-grid (suc x) high) (steps (suc x) ∙ gap_down x (suc x) refl) (ends (suc x) (high_end side (suc x) (omega arith))))
    ],
  )

  within : (Within s.a v.x) × (Within s.b v.y) × (Within s.c v.z)
  unfolding apart
  within =
      let u = border-inner s i (filled-lt s values i f) (gapped.off-border i (stay gapped.missing)) in
      let g = inner-in s v u in
      let x = gap-none v.x in
      let y = gap-none v.y in
      let z = gap-none v.z in (
        along s.a v.x (λ q. record { x = q; y = v.y; z = v.z }) u.x-low u.x-high
            (λ q l. record { x-in = l; y-in = g.y-in; z-in = g.z-in }) (λ q. omega arith) (λ q e. inl e),
        along s.b v.y (λ q. record { x = v.x; y = q; z = v.z }) u.y-low u.y-high
            (λ q l. record { x-in = g.x-in; y-in = l; z-in = g.z-in }) (λ q. omega arith) (λ q e. inr (inl e)),
        along s.c v.z (λ q. record { x = v.x; y = v.y; z = q }) u.z-low u.z-high
            (λ q l. record { x-in = g.x-in; y-in = g.y-in; z-in = l }) (λ q. omega arith) (λ q e. inr (inr e)),
      )

  filled-far : near_border s i ≡ false
  unfolding near_border
  filled-far =
      ap₂ ◌||◌ (off-end s.a v.x within.0) (ap₂ ◌||◌ (off-end s.b v.y within.1) (off-end s.c v.z within.2))

-- so number 31 comes out the same
pub filled-as-fit : FilledAsFit
unfolding unfit_coarse voxels
filled-as-fit s values accepted =
    ap (λ (t : Bool). unfit_sides s || t) (any-run-ext (too_near s (filled s values)) (too_near s values) 0 (size s) (λ i l h. same i (omega arith)))
  where
    never : (i : ℕ) (vs : List ℤ) → is_filled s values i ≡ true → too_near s vs i ≡ false
    never i vs f = let n : Bool = measured_negative (value_at vs i) in ap (λ (t : Bool). n && t) (filled-far s values accepted i f) ∙ and_zero n

    same : (i : ℕ) → i < size s → too_near s (filled s values) i ≡ too_near s values i
    same i h =
        elim (two (is_filled s values i)) [
          | inl f ↦ never i (filled s values) f ∙ sym (never i values f)
          | inr f ↦ ap (λ (w : ℤ). measured_negative w && near_border s i) (filled-other s values i h f)
        ]
