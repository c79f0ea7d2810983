-- `patches::patch_refusal` meets its contract.
use mathlib.Core.Path.{◌≡◌, ap, sym, ◌∙◌}
use mathlib.Core.Bool.{Bool, true, false}
use Prim.Native.Nat.{◌+◌, ◌≤◌}
use native.Mathlib.Omega.{arith}
use lib.Dec.{leb, ltb}
use lib.ListN.{length}
use borrow.Author.Tests.{ltb-false, le-leb, lt-leb}
use Rattle.rules.specs.Checks.{first_failing}
use Rattle.format.specs.Bytes.{tagged}
use Rattle.format.specs.Patch.{patch_length, index_at}
use Rattle.patches.proofs.patch_refusal.Goals as goal
use Rattle.patches.proofs.patch_refusal.Goals.{After-index_at, Else-is_short, Else-not-is_tagged}

-- the checks, by what the code found at each
enough : (c : Else-is_short) → let a = c.args in ltb (length a.file.now) (a.start + patch_length) ≡ false
enough c = sym c.is_short.ensures ∙ c.if-is_short.false

whole : (c : Else-is_short) → let a = c.args in a.start + patch_length ≤ length a.file.now
whole c = ltb-false _ _ (enough c)

right : (c : Else-not-is_tagged) → let a = c.args in tagged 0x50 a.file.now a.start ≡ true
right c = sym c.is_tagged.ensures ∙ c.if-not-is_tagged.false

pub returns-then-is_short : goal.returns-then-is_short
unfolding first_failing
returns-then-is_short c = simp (sym c.is_short.ensures ∙ c.if-is_short.true)

pub is_tagged-requires : goal.is_tagged-requires
is_tagged-requires c = omega (arith, whole c)

pub returns-then-not-is_tagged : goal.returns-then-not-is_tagged
unfolding first_failing
returns-then-not-is_tagged c =
    let a = c.args in
    let wrong : tagged 0x50 a.file.now a.start ≡ false = sym c.is_tagged.ensures ∙ c.if-not-is_tagged.true in
    simp (enough (goal.at.returns-then-not-is_tagged c).Else-is_short, wrong)

pub index_at-requires : goal.index_at-requires
index_at-requires c = whole (goal.at.index_at-requires c).Else-is_short

-- 5, by the index that the code found
index : (c : After-index_at) (t : Bool) → let a = c.args in
    leb a.n c.index_at.result ≡ t → leb a.n (index_at a.file.now a.start) ≡ t
index c t e = sym (ap (leb _) c.index_at.ensures.0) ∙ e

pub returns-then-n-index_at : goal.returns-then-n-index_at
unfolding first_failing
returns-then-n-index_at c =
    simp (enough (goal.at.returns-then-n-index_at c).Else-is_short, right (goal.at.returns-then-n-index_at c).Else-not-is_tagged, index (goal.at.returns-then-n-index_at c).After-index_at true (le-leb _ _ c.if-n-index_at.true))

pub returns : goal.returns
unfolding first_failing
returns c =
    simp (enough (goal.at.returns c).Else-is_short, right (goal.at.returns c).Else-not-is_tagged, index (goal.at.returns c).After-index_at false (lt-leb _ _ c.if-n-index_at.false))
