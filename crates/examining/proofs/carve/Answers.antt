-- `examining::carve` meets its contract: the queue is made, then the examinations, then a look at what is left and at the last removal.
use mathlib.Core.List.{List}
use Prim.Native.Nat.{ℕ, ◌*◌, ◌≤◌}
use Rattle.rules.specs.declared.Sides.{Sides}
use Rattle.examining.specs.Examining.{Workable}
use native.Mathlib.Nat.{mul-le-mul}
use native.Mathlib.Omega.{arith}
use Rattle.rules.specs.Marks.{marked}
use Rattle.rules.proofs.Places.{fit}
use Rattle.examining.proofs.Running.{tallied}
use Rattle.examining.proofs.carve.Goals as goal

small : (s : Sides) (status : List ℕ) → Workable s status → (s.a ≤ 64) × (s.a * s.b ≤ 4096)
small s status w =
    let f = fit s w.body.sides in
    let m : s.a * s.b ≤ 64 * 64 = mul-le-mul f.a-high f.b-high in
    (f.a-high, omega arith)

pub overflow_mul-s : goal.overflow_mul-s
overflow_mul-s c = record { fits = let b = small c.args.s c.args.status.now c.requires.work in omega arith }

pub offsets_near-near-requires : goal.offsets_near-near-requires
offsets_near-near-requires c = small c.args.s c.args.status.now c.requires.work

pub returns : goal.returns
returns c =
    let a = c.args in
    tallied a.s (marked a.marks.now) a.dist.now a.limit a.status.now _ _ _ _ _ c.any_pending.result _ c.requires.work
    c.run-c.auto.status c.run-c.ensures
    c.any_pending.ensures c.last_face.ensures
