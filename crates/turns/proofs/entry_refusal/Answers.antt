-- `turns::entry_refusal` meets its contract: each return by the tests that led there.
use mathlib.Core.Path.{◌≡◌, ap₂, sym, ◌∙◌}
use mathlib.Core.Bool.{Bool, true, false, ◌||◌}
use Prim.Native.Nat.{◌+◌, ◌*◌, ◌≤◌}
use native.Mathlib.Omega.{arith}
use lib.Dec.{ltb, leb}
use lib.ListN.{length}
use borrow.Author.Rules.{rules}
use borrow.Author.Tests.{ltb-false, le-leb, lt-leb}
use Rattle.rules.specs.Grid.{size}
use Rattle.rules.specs.Machine.{is_inside}
use Rattle.rules.specs.Checks.{first_failing}
use Rattle.format.specs.Bytes.{tagged}
use Rattle.judging.specs.Judge.{entry_length, entry_at, allows}
use Rattle.tallies.specs.Counts.{body_of}
use Rattle.turns.proofs.Allowing.{goes-found}
use Rattle.turns.proofs.entry_refusal.Goals as goal
use Rattle.turns.proofs.entry_refusal.Goals.{After-allows, After-index_of-i, Else-is_short, Joined-else-not-opens, Else-status-i}
use Rattle.turns.proofs.entry_refusal.Goals.{else-not-opens-via-then-not-opens+else-not-is_tagged, else-not-opens-via-else-not-opens}
use mathlib.Core.Logic.{inl, inr}
use Rattle.prelude.proofs.Bools.{true-or}

-- 21
enough : (c : Else-is_short) → let a = c.args in ltb (length a.list.now) (entry_length * a.t.removed + entry_length) ≡ false
enough c = sym c.is_short.ensures ∙ c.if-is_short.false

whole : (c : Else-is_short) → let a = c.args in entry_length * a.t.removed + entry_length ≤ length a.list.now
whole c = ltb-false _ _ (enough c)

-- 22
right : (c : Joined-else-not-opens) → let a = c.args in
    (tagged 0x52 a.list.now (entry_length * a.t.removed) || tagged 0x4F a.list.now (entry_length * a.t.removed)) ≡ true
right c =
    elim c.else-not-opens.branch [
      | else-not-opens-via-then-not-opens+else-not-is_tagged w ↦ true-or _ _ (inl (sym w.is_tagged.ensures ∙ w.if-not-is_tagged.false))
      | else-not-opens-via-else-not-opens w ↦ true-or _ _ (inr (sym c.is_tagged-opens.ensures ∙ w.if-not-opens.false))
    ]

pub overflow_mul-start : goal.overflow_mul-start
overflow_mul-start c = let l = c.requires.listed.whole in search rules

pub returns-then-is_short : goal.returns-then-is_short
unfolding first_failing
returns-then-is_short c = simp (sym c.is_short.ensures ∙ c.if-is_short.true)

pub is_tagged-opens-requires : goal.is_tagged-opens-requires
is_tagged-opens-requires c = omega (arith, whole c)

pub is_tagged-requires : goal.is_tagged-requires
is_tagged-requires c = omega (arith, whole (goal.at.is_tagged-requires c).Else-is_short)

pub returns-then-not-is_tagged : goal.returns-then-not-is_tagged
unfolding first_failing
returns-then-not-is_tagged c =
    simp (
      enough (goal.at.returns-then-not-is_tagged c).Else-is_short,
      sym c.is_tagged.ensures ∙ c.if-not-is_tagged.true,
      sym c.is_tagged-opens.ensures ∙ c.if-not-opens.true,
    )

pub index_of-i-requires : goal.index_of-i-requires
index_of-i-requires c = whole (goal.at.index_of-i-requires c).Else-is_short

-- 5
index : (c : After-index_of-i) (t : Bool) → let a = c.args in
    leb (length a.status.now) c.index_of-i.result ≡ t → leb (size a.s) (entry_at a.list.now (entry_length * a.t.removed)).at ≡ t
index c t e = sym (ap₂ leb c.requires.held.body.statuses.lent c.index_of-i.ensures) ∙ e

within : (c : Else-status-i) → let a = c.args in leb (size a.s) (entry_at a.list.now (entry_length * a.t.removed)).at ≡ false
within c = index (goal.at.allows-requires c).After-index_of-i false (lt-leb _ _ c.if-status-i.false)

pub returns-then-status-i : goal.returns-then-status-i
unfolding first_failing
returns-then-status-i c = simp (enough (goal.at.returns-then-status-i c).Else-is_short, right (goal.at.returns-then-status-i c).Joined-else-not-opens, index (goal.at.returns-then-status-i c).After-index_of-i true (le-leb _ _ c.if-status-i.true))

pub allows-requires : goal.allows-requires
allows-requires c = (c.requires, omega (arith, c.if-status-i.false, c.requires.held.body.statuses.lent))

-- 32
goes : (c : After-allows) (t : Bool) → c.allows.result ≡ t
    → let a = c.args in
    allows a.s (is_inside a.dist.now) a.allowed (body_of a.status.now a.t) (entry_at a.list.now (entry_length * a.t.removed)) ≡ t
goes c t e =
    goes-found _ _ _ _ _ _ _ c.is_tagged-opens.ensures c.index_of-i.ensures _ t c.allows.ensures e

pub returns-then-not-allows : goal.returns-then-not-allows
unfolding first_failing
returns-then-not-allows c =
    simp (enough (goal.at.returns-then-not-allows c).Else-is_short, right (goal.at.returns-then-not-allows c).Joined-else-not-opens, within (goal.at.returns-then-not-allows c).Else-status-i, goes (goal.at.returns-then-not-allows c).After-allows false c.if-not-allows.true)

pub returns : goal.returns
unfolding first_failing
returns c =
    simp (enough (goal.at.returns c).Else-is_short, right (goal.at.returns c).Joined-else-not-opens, within (goal.at.returns c).Else-status-i, goes (goal.at.returns c).After-allows true c.if-not-allows.false)
