-- `front::part` meets its contract.
use mathlib.Core.Path.{◌≡◌, refl, sym, ap, ◌∙◌}
use mathlib.Core.Bool.{Bool, true, false, cond}
use lib.Dec.{ltb}
use Prim.Native.Nat.{ℕ, ◌+◌, ◌-◌, ◌*◌, ◌≤◌, ◌<◌, max}
use native.Mathlib.Omega.{arith}
use lib.Bits.{and_le_r}
use mir.Val.{bool_byte}
use mathlib.Core.List.{List}
use lib.IntN.{ℤ}
use lib.ListN.{length, length-set}
use Rattle.rules.specs.Marks.{marked}
use Rattle.keys.specs.Key.{key_at, voxel_key, width}
use Rattle.keys.proofs.Ranks.{pending-inside, key-some, key-by, keyed}
use Rattle.front.proofs.Taking.{Taking, taking-start, taking_step, taking-done}
use Rattle.front.proofs.part.Goals as goal
use Rattle.front.proofs.part.Goals.{After-lowest, At-loop-m}

-- the keys, by what the slices hold
abbrev key : List ℤ → List ℕ → List ℕ → ℕ → ℕ
key dist marks status = key_at (marked marks).hurried dist status

-- a test as a number
byte : (b : Bool) → bool_byte b ≡ cond b 1 0
byte true = refl
byte false = refl

byte-small : (b : Bool) → bool_byte b ≤ 1
byte-small true = omega arith
byte-small false = omega arith

-- the invariant, for what was lent
taking : (c : At-loop-m) → let a = c.args in
    Taking (key a.dist.now a.marks.now a.status.now) a.k a.floor c.requires.falls a.front.now c.loop-m.front c.loop-m.e c.loop-m.g c.loop-m.m
taking c = c.loop-m.invariant c.requires

pub loop-m-init : goal.loop-m-init
loop-m-init c = λ P.
    let a = c.args in
    let h = (marked a.marks.now).hurried in
    let lent = c.requires.lent in
    taking-start (key a.dist.now a.marks.now a.status.now) a.k a.floor P.falls a.front.now _
    (λ t u e.
    let p = sym (c.pending_bits-m.ensures t u) ∙ e in
    key-some h a.dist.now a.status.now (width * a.k + t) (omega (arith, lent.few, pending-inside a.status.now _ p)) p)
    (λ t u e. key-by h a.dist.now a.status.now (width * a.k + t) false (sym (c.pending_bits-m.ensures t u) ∙ e))

-- the voxel of the lowest bit
inside : (c : After-lowest) → let a = c.args in
    (width * a.k + c.lowest.result < length a.dist.now)
    × (key a.dist.now a.marks.now a.status.now (width * a.k + c.lowest.result)
    ≡ voxel_key (marked a.marks.now).hurried a.dist.now (width * a.k + c.lowest.result))
inside c =
    let K = keyed _ _ _ c.requires.lent in
    let p = (taking (goal.at.overflow_add-at c).At-loop-m).some _ c.lowest.ensures.below c.lowest.ensures.here in
    (K.inside _ p, K.own _ p)

pub overflow_add-at : goal.overflow_add-at
overflow_add-at c =
    let l = c.requires.lent in
    record { fits = omega (arith, (inside c).0, l.same, l.few) }

pub voxel_key-x-requires : goal.voxel_key-x-requires
voxel_key-x-requires c =
    let l = c.requires.lent in
    ((inside c).0, omega (arith, (inside c).0, l.same, l.few))

pub offset_bounds-front-e : goal.offset_bounds-front-e
offset_bounds-front-e c = record { fits = omega (arith, (taking (goal.at.offset_bounds-front-e c).At-loop-m).high) }

pub bounds-front-e : goal.bounds-front-e
bounds-front-e c =
    let t = taking (goal.at.bounds-front-e c).At-loop-m in
    omega (arith, t.same, t.high, c.requires.room)

pub overflow_add-e : goal.overflow_add-e
overflow_add-e c =
    record { fits = omega (arith, (taking (goal.at.overflow_add-e c).At-loop-m).high, c.from-e.ensures, byte-small) }

pub loop-m-smaller : goal.loop-m-smaller
loop-m-smaller c =
    let m = c.loop-m.m in
    omega (arith, and_le_r m (m - 1), c.loop-m-test.true)

pub loop-m-preserved : goal.loop-m-preserved
loop-m-preserved c = λ P.
    let a = c.args in
    let l = c.loop-m in
    taking_step (key a.dist.now a.marks.now a.status.now) a.k a.floor P.falls a.front.now l.front l.e l.g l.m c.lowest.result
    (l.invariant P) c.lowest.ensures P.room c.voxel_key-x.result _ _
    (c.voxel_key-x.ensures ∙ sym (inside (goal.at.loop-m-preserved c).After-lowest).1)
    (ap (λ (n : ℕ). l.e + n) (c.from-e.ensures ∙ byte (ltb a.floor c.voxel_key-x.result))) (c.max-g.ensures ∙ ap (max l.g) c.up_to.ensures)

pub offset_bounds-front-e-2 : goal.offset_bounds-front-e-2
offset_bounds-front-e-2 c = record { fits = omega (arith, (taking (goal.at.offset_bounds-front-e-2 c).At-loop-m).high) }

pub bounds-front-e-2 : goal.bounds-front-e-2
bounds-front-e-2 c =
    let t = taking (goal.at.bounds-front-e-2 c).At-loop-m in
    omega (arith, t.same, t.high, c.requires.room)

pub shape_of-front : goal.shape_of-front
shape_of-front c = simp length-set (taking (goal.at.shape_of-front c).At-loop-m).same

pub returns : goal.returns
returns c =
    let a = c.args in
    let l = c.loop-m in
    taking-done (key a.dist.now a.marks.now a.status.now) a.k a.floor c.requires.falls a.front.now l.front l.e l.g l.m c.requires.room
    (omega (arith, c.loop-m-test.false)) (taking (goal.at.returns c).At-loop-m)
