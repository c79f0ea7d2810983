-- `given_refusal` is the number of the first check that fails.
use mathlib.Core.Path.{◌≡◌, refl, sym, ap, ap₂, ◌∙◌}
use mathlib.Core.Bool.{Bool, true, false, not, ◌||◌}
use Prim.Native.Nat.{ℕ}
use native.Mathlib.Omega.{arith}
use borrow.Author.Tests.{eq-eqb, ne_eqb, lt-ltb, le-ltb}
use lib.Dec.{eqb, ltb}
use lib.ListN.{length}
use Rattle.cells.specs.Groups.{any}
use Rattle.prelude.proofs.Bools.{or-one}
use Rattle.rules.specs.Value.{stray}
use Rattle.rules.specs.Grid.{size, range, measured_negative, missing}
use Rattle.rules.specs.Checks.{first_failing}
use Rattle.rules.specs.Marks.{stray_mark, wrong_marks}
use Rattle.rules.proofs.Places.{fit}
use Rattle.marks.proofs.Lent.{few-sized, stray-is}
use Rattle.begin_checks.specs.Given.{negative_at, given_checks}
use Rattle.loops.proofs.Spans.{any-read}
use Rattle.begin_checks.proofs.Numbers.{wrong-length, turns, number_is}
use Rattle.begin_checks.proofs.given_refusal.Goals as goal
use Rattle.begin_checks.proofs.given_refusal.Goals.{After-voxel_count-n, Else-all-gt3, Else-any_beyond, Else-edge_negative, Else-marks-n, then-values-n-via-then-values-n, then-values-n-via-else-values-n+then-marks-n}

-- a length is wrong
refused : (c : After-voxel_count-n) → let a = c.args in wrong-length a.sides a.values.now a.marks.now ≡ true
    → 2 ≡ first_failing (given_checks a.sides a.values.now a.marks.now)
refused c e = let a = c.args in number_is a.sides a.values.now a.marks.now true _ _ _ _ e refl refl refl refl

pub returns-then-values-n : goal.returns-then-values-n
unfolding wrong_marks
returns-then-values-n c =
    let a = c.args in
    let e = c.voxel_count-n.ensures.0 in
    let short = not (eqb (length a.values.now) (size a.sides)) in
    refused (goal.at.returns-then-values-n c).After-voxel_count-n
    (elim c.then-values-n.branch [
      | then-values-n-via-then-values-n w ↦ ap (λ (t : Bool). not t || wrong_marks a.sides a.marks.now) (ne_eqb _ _ (λ q. omega (arith, w.if-values-n.true)))
      | then-values-n-via-else-values-n+then-marks-n w ↦ ap (λ (t : Bool). short || not t) (ne_eqb _ _ (λ q. omega (arith, w.if-marks-n.true))) ∙ or-one short
    ])

values-long : (c : Else-marks-n) → let a = c.args in length a.values.now ≡ size a.sides
values-long c = omega (arith, c.voxel_count-n.ensures.0, c.if-values-n.false)

marks-long : (c : Else-marks-n) → let a = c.args in length a.marks.now ≡ size a.sides
marks-long c = omega (arith, c.voxel_count-n.ensures.0, c.if-marks-n.false)

right : (c : Else-marks-n) → let a = c.args in wrong-length a.sides a.values.now a.marks.now ≡ false
unfolding wrong_marks
right c = ap₂ (λ (t u : Bool). not t || not u) (eq-eqb _ _ (values-long c)) (eq-eqb _ _ (marks-long c))

pub returns-then-any_beyond : goal.returns-then-any_beyond
returns-then-any_beyond c =
    let a = c.args in
    number_is a.sides a.values.now a.marks.now false true _ _ _ (right (goal.at.returns-then-any_beyond c).Else-marks-n) (sym c.any_beyond.ensures ∙ c.if-any_beyond.true) refl refl refl

known : (c : Else-any_beyond) → any stray c.args.values.now ≡ false
known c = sym c.any_beyond.ensures ∙ c.if-any_beyond.false

marks-are : (c : Else-marks-n) → let a = c.args in ltb 3 a.all ≡ stray_mark a.marks.now
marks-are c =
    stray-is c.args.marks.now c.args.all c.requires.1 (few-sized c.args.marks.now c.args.sides c.requires.0 (marks-long c))

pub returns-then-all-gt3 : goal.returns-then-all-gt3
returns-then-all-gt3 c =
    let a = c.args in
    number_is a.sides a.values.now a.marks.now false false true _ _ (right (goal.at.returns-then-all-gt3 c).Else-marks-n) (known (goal.at.returns-then-all-gt3 c).Else-any_beyond) (sym (marks-are (goal.at.returns-then-all-gt3 c).Else-marks-n) ∙ lt-ltb _ _ c.if-all-gt3.true) refl refl

-- past the marks
unstray : (c : Else-all-gt3) → stray_mark c.args.marks.now ≡ false
unstray c = sym (marks-are (goal.at.edge_negative-requires c).Else-marks-n) ∙ le-ltb _ _ c.if-all-gt3.false

pub edge_negative-requires : goal.edge_negative-requires
edge_negative-requires c =
    (record { sides = c.requires.0; len = values-long (goal.at.edge_negative-requires c).Else-marks-n }, omega (arith, (fit c.args.sides c.requires.0).a-low))

pub returns-then-edge_negative : goal.returns-then-edge_negative
returns-then-edge_negative c =
    let a = c.args in
    number_is a.sides a.values.now a.marks.now false false false true _ (right (goal.at.returns-then-edge_negative c).Else-marks-n) (known (goal.at.returns-then-edge_negative c).Else-any_beyond) (unstray (goal.at.returns-then-edge_negative c).Else-all-gt3)
    (sym c.edge_negative.ensures ∙ c.if-edge_negative.true) refl

-- past the edges: the last scan decides
decided : (c : Else-edge_negative) (t : Bool) → let a = c.args in
    wrong-length a.sides a.values.now a.marks.now ≡ false → any stray a.values.now ≡ false → stray_mark a.marks.now ≡ false
    → any (negative_at a.values.now) (range 0 (size a.sides)) ≡ t
    → turns a.sides a.values.now a.marks.now false false false false t ≡ first_failing (given_checks a.sides a.values.now a.marks.now)
decided c t lengths values marks scan =
    let a = c.args in
    number_is a.sides a.values.now a.marks.now false false false false t lengths values marks (sym c.edge_negative.ensures ∙ c.if-edge_negative.false) scan

scanned : (c : Else-marks-n) → let a = c.args in any (negative_at a.values.now) (range 0 (size a.sides)) ≡ any measured_negative a.values.now
scanned c = let a = c.args in ap (λ (k : ℕ). any (negative_at a.values.now) (range 0 k)) (sym (values-long c)) ∙ sym (any-read measured_negative missing a.values.now)

pub returns-then-not-any_negative : goal.returns-then-not-any_negative
returns-then-not-any_negative c =
    let g = goal.at.returns-then-not-any_negative c in
    decided g.Else-edge_negative false (right g.Else-marks-n) (known g.Else-any_beyond) (unstray g.Else-all-gt3)
    (scanned g.Else-marks-n ∙ sym c.any_negative.ensures ∙ c.if-not-any_negative.true)

pub returns : goal.returns
returns c =
    let g = goal.at.returns c in
    decided g.Else-edge_negative true (right g.Else-marks-n) (known g.Else-any_beyond) (unstray g.Else-all-gt3)
    (scanned g.Else-marks-n ∙ sym c.any_negative.ensures ∙ c.if-not-any_negative.false)
