-- `layers::layer_refusal` meets its contract.
use mathlib.Core.Path.{◌≡◌, ap, ap₂, sym, ◌∙◌}
use mathlib.Core.Bool.{Bool, false, not, ◌||◌}
use Prim.Native.Nat.{ℕ, ◌+◌, ◌≤◌}
use native.Mathlib.Omega.{arith}
use borrow.Author.Tests.{ltb-false, le-leb, lt-leb}
use lib.Dec.{ltb}
use lib.ListN.{length}
use Rattle.rules.specs.Checks.{first_failing}
use Rattle.format.specs.Bytes.{tagged}
use Rattle.format.specs.Layer.{narrow_kind, wide_kind, record_length}
use Rattle.layers.proofs.layer_refusal.Goals as goal
use Rattle.layers.proofs.layer_refusal.Goals.{After-is_short, After-is_tagged-2, Else-is_short}

-- the checks, by what the code found at each
short : (c : After-is_short) →
    let a = c.args in
    ltb (length a.file.now) (a.start + record_length a.sides a.file.now a.start) ≡ c.is_short.result
short c =
    let a = c.args in
    sym (c.is_short.ensures ∙ ap (λ (k : ℕ). ltb (length a.file.now) (a.start + k)) c.record_length.ensures.0)

enough : (c : Else-is_short) →
    let a = c.args in
    ltb (length a.file.now) (a.start + record_length a.sides a.file.now a.start) ≡ false
enough c = short (goal.at.is_tagged-requires c).After-is_short ∙ c.if-is_short.false

whole : (c : Else-is_short) →
    let a = c.args in a.start + record_length a.sides a.file.now a.start ≤ length a.file.now
whole c = ltb-false _ _ (enough c)

marked : (c : After-is_tagged-2) →
    let a = c.args in
    not (tagged narrow_kind a.file.now a.start || tagged wide_kind a.file.now a.start) ≡ not (c.is_tagged.result || c.is_tagged-2.result)
marked c = sym (ap₂ (λ (t u : Bool). not (t || u)) c.is_tagged.ensures c.is_tagged-2.ensures)

pub returns-then-is_short : goal.returns-then-is_short
unfolding first_failing
returns-then-is_short c = simp (short (goal.at.returns-then-is_short c).After-is_short, c.if-is_short.true)

pub is_tagged-requires : goal.is_tagged-requires
is_tagged-requires c = omega (arith, whole c)

pub returns-then-not-is_tagged : goal.returns-then-not-is_tagged
unfolding first_failing
returns-then-not-is_tagged c = simp (enough (goal.at.returns-then-not-is_tagged c).Else-is_short, marked (goal.at.returns-then-not-is_tagged c).After-is_tagged-2 ∙ ap not c.if-not-is_tagged.true)

pub overflow_add-start : goal.overflow_add-start
overflow_add-start c = omega (arith, whole (goal.at.overflow_add-start c).Else-is_short)

pub bounds-file-start : goal.bounds-file-start
bounds-file-start c = omega (arith, whole (goal.at.bounds-file-start c).Else-is_short)

pub returns-then-sides-from : goal.returns-then-sides-from
unfolding first_failing
returns-then-sides-from c =
    simp (enough (goal.at.returns-then-sides-from c).Else-is_short, marked (goal.at.returns-then-sides-from c).After-is_tagged-2 ∙ ap not c.if-not-is_tagged.false, ← c.from.ensures, le-leb _ _ c.if-sides-from.true)

pub returns : goal.returns
unfolding first_failing
returns c =
    simp (enough (goal.at.returns c).Else-is_short, marked (goal.at.returns c).After-is_tagged-2 ∙ ap not c.if-not-is_tagged.false, ← c.from.ensures, lt-leb _ _ c.if-sides-from.false)
