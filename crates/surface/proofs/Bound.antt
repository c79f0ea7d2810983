-- Document 01, "Surface points": each point that crossing answers lies within 2 ^ -47 of the exact one, whatever the distances.
use mathlib.Core.Path.{◌≡◌, refl, sym, subst}
use mathlib.Core.Bool.{Bool, true, false}
use mathlib.Core.List.{List}
use Rattle.std.specs.Prelude.{Option, None, Some}
use Prim.Native.Nat.{ℕ, zero, suc, ◌+◌, ◌^◌, ◌≤◌, ◌<◌}
use native.Mathlib.Nat.{le_trans, le-add_right, lt_of_lt_of_le, zero-lt-suc}
use native.Mathlib.Omega.{arith}
use lib.Dec.{lit≤}
use lib.IntN.{ℤ, pos, negsuc}
use lib.Signed.{mag}
use lib.Ieee.{Float}
use Rattle.rules.specs.declared.Sides.{Sides}
use Rattle.rules.specs.Grid.{Voxel, voxel, distance_at}
use Rattle.rules.proofs.Places.{Fit, fit}
use Rattle.surface.specs.declared.Point.{Point}
use Rattle.surface.specs.Surface.{along, coordinate, side, next, share, moved, point_from, crossing_of, next_index, crossing_at, HasNext}
use Rattle.surface.specs.Surface.{Near, exactly, Bounded, BoundedAt}
use Rattle.surface.proofs.BoundSums.{plus-near, minus-near}

-- a distance of 32 bits
abbrev pub Word : ℤ → Type 0
Word d = mag d < 2147483648

zero_one : ◌≡◌ {A = ℕ} 0 1 → ⊥
zero_one z = omega arith

-- ---- the changed coordinate

-- a voxel with a next one up the axis, or with one before it, in a side of 64 at most
abbrev Room : Bool → ℕ → Type 0
Room true x = x ≤ 62
Room false x = (1 ≤ x) × (x ≤ 63)

moved-near : (higher : Bool) (x p q : ℕ) → 0 < p → p + q ≤ 2 ^ 53 → Room higher x → Near (moved higher x p q) (exactly higher x p q) (p + q)
unfolding moved share
moved-near true x p q P few h = plus-near p (p + q) (lt_of_lt_of_le P (le-add_right p q)) (le-add_right p q) few x h
moved-near false x p q P few h = minus-near p (p + q) (lt_of_lt_of_le P (le-add_right p q)) (le-add_right p q) few x h.0 h.1

-- ---- along the axis

along-point : (axis : ℕ) (higher : Bool) (v : Voxel) (p q : ℕ)
    → along axis (point_from axis higher v p q).x (point_from axis higher v p q).y (point_from axis higher v p q).z ≡ moved higher (coordinate axis v) p q
unfolding point_from
along-point zero higher v p q = refl
along-point (suc zero) higher v p q = refl
along-point (suc (suc n)) higher v p q = refl

coordinate-next : (axis : ℕ) (v : Voxel) → coordinate axis (next axis v) ≡ coordinate axis v + 1
coordinate-next zero v = refl
coordinate-next (suc zero) v = refl
coordinate-next (suc (suc n)) v = refl

side-le : (axis : ℕ) (s : Sides) → Fit s → side axis s ≤ 64
side-le zero s f = f.a-high
side-le (suc zero) s f = f.b-high
side-le (suc (suc n)) s f = f.c-high

-- ---- two distances, of which just one is negative

below : (p q : ℕ) → p < 2147483648 → q < 2147483648 → suc p + q ≤ 9007199254740992
below p q h k = omega arith

few : (p q : ℕ) → p < 2147483648 → q < 2147483648 → suc p + q ≤ 2 ^ 53
few p q h k = le_trans (below p q h k) (lit≤ tt)

module _ (axis : ℕ) (v : Voxel) (room : coordinate axis v ≤ 62) where
  point_from-bounded :
      (higher : Bool) (u : Voxel) (p q : ℕ)
      → Room higher (coordinate axis u)
      → Word (negsuc p)
      → Word (pos q)
      → (r : Point)
      → point_from axis higher u (suc p) q ≡ r
      → Near (along axis r.x r.y r.z) (exactly higher (coordinate axis u) (suc p) q) (suc p + q)
  point_from-bounded higher u p q h P Q r e =
      let n = exactly higher (coordinate axis u) (suc p) q in
      subst (λ (r : Point). Near (along axis r.x r.y r.z) n (suc p + q)) e
      (subst (λ (t : Float). Near t n (suc p + q)) (sym (along-point axis higher u (suc p) q))
      (moved-near higher (coordinate axis u) (suc p) q (zero-lt-suc p) (few p q P Q) h))

  crossing_of-bounded : (here there : ℤ) → Word here → Word there → (r : Point) → crossing_of axis v here there ≡ Some r → Bounded axis v here there r
  unfolding crossing_of
  crossing_of-bounded (negsuc p) (pos q) H T r e = point_from-bounded true v p q room H T r (cc)
  crossing_of-bounded (pos q) (negsuc p) H T r e =
      let n : coordinate axis (next axis v) ≡ coordinate axis v + 1 = coordinate-next axis v in
      subst (λ (x : ℕ). Near (along axis r.x r.y r.z) (exactly false x (suc p) q) (suc p + q)) n
      (point_from-bounded false (next axis v) p q (omega arith, omega arith) T H r (cc))
  crossing_of-bounded (negsuc p) (negsuc q) H T r e = let z : ◌≡◌ {A = ℕ} 0 1 = cc in absurd (zero_one z)
  crossing_of-bounded (pos p) (pos q) H T r e = let z : ◌≡◌ {A = ℕ} 0 1 = cc in absurd (zero_one z)

-- ---- between a voxel and the next

module _ (s : Sides) (dist : List ℤ) (i axis : ℕ) (has : HasNext s i axis) where
  room : coordinate axis (voxel s i) ≤ 62
  room = let l = has.there in let m = side-le axis s (fit s has.fit) in omega arith

  pub crossing_at-bounded : Word (distance_at dist i) → Word (distance_at dist (next_index s i axis)) → BoundedAt s dist i axis (crossing_at s dist i axis)
  unfolding crossing_at
  crossing_at-bounded H T = go (crossing_at s dist i axis) refl
    where
      go : (o : Option Point) → crossing_at s dist i axis ≡ o → BoundedAt s dist i axis o
      go None e = tt
      go (Some r) e = crossing_of-bounded axis (voxel s i) room (distance_at dist i) (distance_at dist (next_index s i axis)) H T r e
