-- `words::is_short` meets its contract.
use mathlib.Core.Path.{◌≡◌, sym, ◌∙◌}
use native.Mathlib.Omega.{arith}
use Prim.Native.Nat.{ℕ, ◌+◌, ◌-◌, ◌≤◌, ◌<◌}
use lib.Dec.{ltb}
use borrow.Author.Tests.{lt-ltb, ltb-true}
use Rattle.prelude.proofs.Bools.{both_ways}
use Rattle.words.proofs.is_short.Goals as goal

module _ (len start needed : ℕ) where
  beyond : len < start → ltb len start ≡ ltb len (start + needed)
  beyond h = let k : len < start + needed = omega arith in lt-ltb len start h ∙ sym (lt-ltb len (start + needed) k)

  left : start ≤ len → ltb (len - start) needed ≡ ltb len (start + needed)
  left h =
      both_ways (ltb (len - start) needed) (ltb len (start + needed))
      (λ e. let k : len < start + needed = omega (arith, ltb-true (len - start) needed e) in lt-ltb len (start + needed) k)
      (λ e. let k : len - start < needed = omega (arith, ltb-true len (start + needed) e) in lt-ltb (len - start) needed k)

pub returns-then-len-start : goal.returns-then-len-start
returns-then-len-start c = beyond _ _ _ c.if-len-start.true

pub returns-else-len-start : goal.returns-else-len-start
returns-else-len-start c = left _ _ _ c.if-len-start.false
