-- `measure`: three axes, the first two layer by layer.
use mathlib.Core.Path.{◌≡◌, refl, sym, ◌∙◌}
use mathlib.Core.Bool.{true, false}
use mathlib.Core.List.{List}
use Prim.Native.Nat.{ℕ, ◌*◌, ◌<◌}
use native.Mathlib.Omega.{arith}
use native.Mathlib.Nat.{mul-le-mul}
use lib.ListN.{get_or}
use Rattle.rules.proofs.Places.{Fit, fit}
use Rattle.distances.proofs.Advancing.{Whole, Advancing, advancing-start, advancing-slab, advancing-more, advancing-done, slab-fits}
use Rattle.distances.proofs.Measuring.{layer-at, whole-x, whole-y, whole-z, seeded-small, swept-measured}
use Rattle.distances.proofs.measure.Goals as goal
use Rattle.distances.proofs.measure.Goals.{Start}

fits : (s : Start) → Fit s.args.sides
fits s = fit s.args.sides s.requires.1.fit

small : (s : Start) (k : ℕ) → get_or s.args.d.now k 0 < 255
small s = seeded-small s.args.sides (fits s) s.requires.0 s.args.d.now s.requires.1

-- ---- what the sweeps along each axis may go by

along-x : (s : Start) → let g = s.args.sides in Whole s.args.d.now g.c g.b g.a
along-x s = whole-x s.args.sides (fits s) s.args.d.now s.requires.1.seeds.len (small s)

module _ (s : Start) {d₁ : List ℕ} {z : ℕ} (X : Advancing true s.args.sides.b s.args.sides.a s.args.d.now d₁ z) where
  along-y : let g = s.args.sides in Whole d₁ g.c g.a g.b
  along-y = whole-y s.args.sides (fits s) d₁ (X.len ∙ s.requires.1.seeds.len) (λ k. omega (arith, X.lower k, small s k))

  along-z : {d₂ : List ℕ} {y : ℕ} → let g = s.args.sides in Advancing false g.a g.b d₁ d₂ y → Whole d₂ 1 (g.a * g.b) g.c
  along-z {d₂} Y =
      whole-z s.args.sides (fits s) d₂ (Y.len ∙ X.len ∙ s.requires.1.seeds.len) (λ k. omega (arith, Y.lower k, X.lower k, small s k))

-- a layer begins where a slab along y does
slab-at : (s : Start) (z : ℕ) → let g = s.args.sides in z * (g.a * g.b) ≡ z * (g.b * g.a)
slab-at s z = sym (layer-at s.args.sides (fits s) z)

-- ---- along x

pub overflow_mul-ab : goal.overflow_mul-ab
overflow_mul-ab c = let F = fits (goal.at.overflow_mul-ab c).Start in omega (arith, mul-le-mul F.a-high F.b-high)

pub overflow_mul-z : goal.overflow_mul-z
overflow_mul-z c =
    let W = along-x (goal.at.overflow_mul-z c).Start in
    omega (arith, slab-fits W c.loop-z.invariant c.loop-z-test.true refl, W.few)

pub rows-requires : goal.rows-requires
rows-requires c =
    let s = (goal.at.rows-requires c).Start in
    let F = fits s in
    (advancing-slab (along-x s) c.loop-z.invariant c.loop-z-test.true refl, mul-le-mul F.a-high F.b-high)

pub loop-z-preserved : goal.loop-z-preserved
loop-z-preserved c =
    advancing-more (along-x (goal.at.loop-z-preserved c).Start) c.loop-z.invariant c.loop-z-test.true refl c.rows.ensures

-- ---- along y

pub overflow_mul-z-in-loop-z-2 : goal.overflow_mul-z-in-loop-z-2
overflow_mul-z-in-loop-z-2 c =
    let s = (goal.at.overflow_mul-z-in-loop-z-2 c).Start in
    let l = c.loop-z-2 in
    let W = along-y s c.loop-z.invariant in
    omega (arith, slab-fits W l.invariant c.loop-z-2-test.true (slab-at s l.z), W.few)

pub both-requires : goal.both-requires
both-requires c =
    let s = (goal.at.both-requires c).Start in
    let l = c.loop-z-2 in
    advancing-slab (along-y s c.loop-z.invariant) l.invariant c.loop-z-2-test.true (slab-at s l.z)

pub loop-z-2-preserved : goal.loop-z-2-preserved
loop-z-2-preserved c =
    let s = (goal.at.loop-z-2-preserved c).Start in
    let l = c.loop-z-2 in
    advancing-more (along-y s c.loop-z.invariant) l.invariant c.loop-z-2-test.true (slab-at s l.z) c.both.ensures

-- ---- along z, all of the grid at once

pub both-requires-2 : goal.both-requires-2
both-requires-2 c =
    let W = along-z (goal.at.both-requires-2 c).Start c.loop-z.invariant c.loop-z-2.invariant in
    advancing-slab W (advancing-start {along = false}) (omega arith) (omega arith)

pub returns : goal.returns
returns c =
    λ S E.
    let s = (goal.at.returns c).Start in
    let X = c.loop-z.invariant in
    let Y = c.loop-z-2.invariant in
    let Z = along-z s X Y in
    swept-measured c.args.sides (fits s) c.args.d.now c.loop-z.d c.loop-z-2.d c.both-2.new.d E.seeds.len
    (advancing-done (along-x s) c.loop-z-test.false X)
    (advancing-done (along-y s X) c.loop-z-2-test.false Y)
    (advancing-done Z (omega arith) (advancing-more Z advancing-start (omega arith) (omega arith) c.both-2.ensures))
    S E
