-- The two ways to say neighbour are one.
use mathlib.Core.Path.{◌≡◌, refl, ap, ap₂, sym, ◌∙◌, subst}
use mathlib.Core.Logic.{inl}
use mathlib.Core.Bool.{Bool, true, false, not, ◌&&◌, true≢false}
use Prim.Native.Nat.{ℕ, suc, ◌+◌, ◌-◌, ◌≤◌, ◌<◌}
use native.Mathlib.Nat.{zero-mod}
use native.Mathlib.Omega.{arith}
use lib.Dec.{eqb}
use borrow.Author.Tests.{eqb-true, eq-eqb}
use Rattle.cells.specs.Groups.{any}
use Rattle.prelude.proofs.Bools.{not-true, true-or}
use Rattle.prelude.proofs.Lists.{Mem, any-true, true-any}
use Rattle.prelude.proofs.Ranges.{mem-range}
use Rattle.closed_sets.proofs.EveryBlock.{all_in}
use Rattle.rules.specs.declared.Sides.{Sides}
use Rattle.rules.specs.Grid.{Voxel, index, voxel, size, range, end, on_border, gap, touch, apart, taxicab, share_face}
use Rattle.rules.specs.Grid.{neighbour, neighbourhood, face_positions}
use Rattle.rules.specs.Begin.{exposed}
use Rattle.rules.specs.Neighbours as told
use Rattle.rules.specs.Neighbours.{TouchIsBlock, ExposedIsFace}
use Rattle.rules.proofs.Places.{fit, index-lt, index-voxel, voxel-index}
use Rattle.rules.proofs.Distance.{voxel-inside}
use Rattle.rules.proofs.Topology.Around.{Close, touch-close, close-touch, At, at_same, close_at, Inner, neighbour-at, neighbourhood-at}
use Rattle.rules.proofs.Topology.Removal.{away, apart-at, face-at, face-taxicab}
use Rattle.rules.proofs.Topology.Start.{border-inner}

-- a voxel at a position of the block around another touches it
pub at-close : (u v : Voxel) (p : ℕ) → At u v p → Close u v
at-close u v p a =
    let l = a.low in
    record {
      x-up = omega (arith, a.x-at);
      x-down = omega (arith, a.x-at);
      y-up = omega (arith, a.y-at);
      y-down = omega (arith, a.y-at);
      z-up = omega (arith, a.z-at);
      z-down = omega (arith, a.z-at);
    }

-- ---- a face neighbour stands at one of the six face positions

face-position : (p : ℕ) → p < 27 → away p ≡ 1 → Mem p face_positions
unfolding any range gap
face-position p l e =
    let r = any-true (eqb p) face_positions (decided (eqb (away p) 1) (any (eqb p) face_positions) (eq-eqb (away p) 1 e)
    (all_in (λ p. not (eqb (away p) 1 && not (any (eqb p) face_positions))) (range 0 27) refl p (mem-range 0 27 p (omega arith) (omega arith)))) in
    subst (λ (q : ℕ). Mem q face_positions) (sym (eqb-true p r.0 r.2)) r.1
  where
    decided : (t u : Bool) → t ≡ true → not (t && not u) ≡ true → u ≡ true
    decided true true e f = refl
    decided true false e f = f
    decided false u e f = absurd (true≢false (sym e))

close-taxicab : (u v : Voxel) → apart u v ≡ 1 → Close u v
unfolding apart gap
close-taxicab u v e =
    record { x-up = omega arith; x-down = omega arith; y-up = omega arith; y-down = omega arith; z-up = omega arith; z-down = omega arith }

module _ (s : Sides) (i j : ℕ) where
  pub face-at-position : share_face s i j ≡ true → (p : ℕ) × (Mem p face_positions) × (At (voxel s i) (voxel s j) p)
  unfolding share_face taxicab
  face-at-position f =
      let e : apart (voxel s i) (voxel s j) ≡ 1 = eqb-true (apart (voxel s i) (voxel s j)) 1 f in
      let q = close_at (voxel s i) (voxel s j) (close-taxicab (voxel s i) (voxel s j) e) in
      (q.0, face-position q.0 q.1.low (sym (apart-at (voxel s i) (voxel s j) q.0 q.1) ∙ e), q.1)

  pub position-face : (p : ℕ) → Mem p face_positions → At (voxel s i) (voxel s j) p → share_face s i j ≡ true
  unfolding share_face taxicab
  position-face p m a = eq-eqb (apart (voxel s i) (voxel s j)) 1 (face-at (voxel s i) (voxel s j) p m a)

-- ---- around an inner voxel

module _ (s : Sides) (i : ℕ) (h : told.Inner s i) where
  inner : Inner s (voxel s i)
  inner = border-inner s i h.below h.off-border

  index-of : (j : ℕ) → index s (voxel s j) ≡ j
  index-of j = let f = fit s h.sides in index-voxel s j (omega (arith, f.a-low)) (omega (arith, f.b-low))

  -- the voxel at a position of the block
  at_position : (p : ℕ) → p < 27 → (At (voxel s i) (neighbour (voxel s i) p) p) × (voxel s (index s (neighbour (voxel s i) p)) ≡ neighbour (voxel s i) p)
  at_position p l =
      let a = neighbour-at s (voxel s i) inner p l in
      (a.0, voxel-index s (neighbour (voxel s i) p) a.1.x-in a.1.y-in)

  -- the position of a voxel that is close
  position-of : (j : ℕ) → Close (voxel s i) (voxel s j) → (p : ℕ) × (At (voxel s i) (voxel s j) p) × (index s (neighbour (voxel s i) p) ≡ j)
  position-of j c =
      let a = close_at (voxel s i) (voxel s j) c in
      let p = a.0 in
      (p, a.1, ap (index s) (at_same (voxel s i) (neighbour (voxel s i) p) (voxel s j) p (at_position p a.1.low).0 a.1) ∙ index-of j)

  touch-position : (j : ℕ) → touch s i j ≡ true → (p : ℕ) × (p < 27) × (index s (neighbour (voxel s i) p) ≡ j)
  touch-position j e = let r = position-of j (touch-close s i j e) in (r.0, r.1.low, r.2)

  position-touch : (j : ℕ) → (p : ℕ) × (p < 27) × (index s (neighbour (voxel s i) p) ≡ j) → touch s i j ≡ true
  position-touch j r =
      let a = at_position r.0 r.1 in
      subst (λ (k : ℕ). touch s i k ≡ true) r.2
      (close-touch s i (index s (neighbour (voxel s i) r.0))
      (subst (λ (v : Voxel). Close (voxel s i) v) (sym a.1) (at-close (voxel s i) (neighbour (voxel s i) r.0) r.0 a.0)))

  neighbourhood-bare : (kept : ℕ → Bool) (v : Voxel) (p : ℕ) → At (voxel s i) v p → neighbourhood s kept i p ≡ kept (index s v)
  unfolding neighbourhood
  neighbourhood-bare kept v p a = neighbourhood-at s kept (voxel s i) v p inner a

  exposed-face : (kept : ℕ → Bool) → exposed s kept i ≡ true → (j : ℕ) × (j < size s) × (share_face s i j ≡ true) × (kept j ≡ false)
  unfolding exposed share_face taxicab
  exposed-face kept e =
      let r = any-true (λ p. not (neighbourhood s kept i p)) face_positions e in
      let p = r.0 in
      let f = face-taxicab p r.1 in
      let a = at_position p f.1 in
      let w : Voxel = neighbour (voxel s i) p in
      let g = (neighbour-at s (voxel s i) inner p f.1).1 in (
        index s w,
        index-lt s w g,
        eq-eqb (apart (voxel s i) (voxel s (index s w))) 1 (ap (apart (voxel s i)) a.1 ∙ apart-at (voxel s i) w p a.0 ∙ f.0),
        sym (neighbourhood-bare kept w p a.0) ∙ not-true (neighbourhood s kept i p) r.2,
      )

  face-exposed : (kept : ℕ → Bool) → (j : ℕ) × (j < size s) × (share_face s i j ≡ true) × (kept j ≡ false) → exposed s kept i ≡ true
  unfolding exposed
  face-exposed kept r =
      let j = r.0 in
      let q = face-at-position s i j r.2 in
      true-any (λ p. not (neighbourhood s kept i p)) face_positions q.0 q.1
      (ap not (neighbourhood-bare kept (voxel s j) q.0 q.2 ∙ ap kept (index-of j) ∙ r.3))

pub touch-is-block : TouchIsBlock
touch-is-block s i j h l = (touch-position s i h j, position-touch s i h j)

pub exposed-is-face : ExposedIsFace
exposed-is-face s kept i h = (exposed-face s i h kept, face-exposed s i h kept)

pub face-touch : (s : Sides) (i j : ℕ) → share_face s i j ≡ true → touch s i j ≡ true
unfolding share_face taxicab
face-touch s i j f = close-touch s i j (close-taxicab (voxel s i) (voxel s j) (eqb-true (apart (voxel s i) (voxel s j)) 1 f))

-- ---- along x, down to the border: the voxel before one that has any shares a face with it

pub border-zero : (s : Sides) → on_border s 0 ≡ true
unfolding on_border voxel
border-zero s = true-or (end s.a (voxel s 0).x) _ (inl (true-or (eqb (voxel s 0).x 0) _ (inl (eq-eqb (voxel s 0).x 0 (zero-mod s.a)))))

pub beside : (s : Sides) (j : ℕ) → suc j < size s → 1 ≤ (voxel s (suc j)).x → share_face s (suc j) j ≡ true
unfolding share_face taxicab apart index
beside s j h low =
    let u = voxel s (suc j) in
    let g = voxel-inside s (suc j) h in
    let v : Voxel = record { x = u.x - 1; y = u.y; z = u.z } in
    let e : index s v ≡ j = omega (arith, index-voxel s (suc j) (omega (arith, g.x-in)) (omega (arith, g.y-in))) in
    let w : voxel s j ≡ v = ap (voxel s) (sym e) ∙ voxel-index s v (omega (arith, g.x-in)) g.y-in in
    ap (λ (w : Voxel). eqb (apart u w) 1) w ∙ eq-eqb (apart u v) 1 (ap₂ ◌+◌ (ap₂ ◌+◌ (one u.x low) (none u.y)) (none u.z))
  where
    one : (x : ℕ) → 1 ≤ x → gap x (x - 1) ≡ 1
    one x h = unfold gap in omega arith

    none : (x : ℕ) → gap x x ≡ 0
    none x = unfold gap in omega arith
