-- `serving_checks::start_of` meets its contract: the sum of the sizes so far, 262,144 a grid at most.
use mathlib.Core.Path.{◌≡◌, ap, ◌∙◌}
use Prim.Native.Nat.{ℕ, ◌<◌}
use native.Mathlib.Omega.{arith}
use lib.ListN.{length, get_or, take}
use lib.Seq.{length-take-le}
use borrow.Author.Rules.{rules}
use Rattle.std.proofs.lemmas.List.{get_or-take}
use Rattle.rules.specs.declared.Record.{Record}
use Rattle.rules.specs.Grid.{fit_sides, size}
use Rattle.office.specs.Parts.{total}
use Rattle.office.specs.Serve.{no_record}
use Rattle.serving_checks.specs.Given.{sizes_of}
use Rattle.serving_checks.proofs.Places.{summing_start, summing-next}
use Rattle.serving_checks.proofs.start_of.Goals as goal
use Rattle.serving_checks.proofs.start_of.Goals.{Start}

pub loop-given-init : goal.loop-given-init
loop-given-init c = summing_start c.args.g

-- the records are as many as there are parts
long : (c : Start) → length (take c.args.p c.args.g.records) ≡ c.args.p
long c = let few = c.requires.0.few in length-take-le c.args.p c.args.g.records (search rules)

-- the grid at k
record-at : (c : Start) (k : ℕ) → k < length (take c.args.p c.args.g.records)
    → (k < c.args.g.count) × (get_or (take c.args.p c.args.g.records) k no_record ≡ get_or c.args.g.records k no_record)
record-at c k h =
    let a = c.args in
    let l = long c in
    (omega (arith, c.requires.1), get_or-take a.p a.g.records k no_record (omega arith))

pub voxel_count-from-requires : goal.voxel_count-from-requires
voxel_count-from-requires c =
    let r = record-at (goal.at.voxel_count-from-requires c).Start c.loop-given.given-index c.loop-given-test.true in
    ap (λ (r : Record). fit_sides r.sides) r.1 ∙ c.requires.0.sides c.loop-given.given-index r.0

pub loop-given-preserved : goal.loop-given-preserved
loop-given-preserved c =
    let r = record-at (goal.at.loop-given-preserved c).Start c.loop-given.given-index c.loop-given-test.true in
    summing-next c.args.g _ _ _ c.loop-given.invariant r.0 (c.voxel_count-from.ensures.0 ∙ ap (λ (r : Record). size r.sides) r.1)
    c.voxel_count-from.ensures.1

pub returns : goal.returns
returns c =
    let a = c.args in
    let l = long (goal.at.returns c).Start in
    let e : c.loop-given.given-index ≡ a.p = omega arith in
    c.loop-given.invariant.sum ∙ ap (λ (k : ℕ). total (take k (sizes_of a.g))) e
