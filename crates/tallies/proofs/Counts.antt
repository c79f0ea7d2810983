-- What the entries come to after one more: k and m are small, and so is the Euler number.
use mathlib.Core.Path.{◌≡◌, ap, sym, ◌∙◌}
use mathlib.Core.Bool.{Bool, true, false}
use mathlib.Core.List.{List}
use Prim.Native.Nat.{ℕ, ◌+◌, ◌*◌, ◌≤◌}
use native.Mathlib.Omega.{arith}
use lib.IntN.{ℤ, pos, nat_abs, ◌+ℤ◌, ◌-ℤ◌}
use Rattle.cells.specs.Cells.{Test, test}
use Rattle.closed_sets.proofs.EveryBlock.{k-few, m-few}
use Rattle.prelude.proofs.Integers.{difference-size, sum-size}
use Rattle.local_test.specs.declared.Groups.{Groups}
use Rattle.local_test.specs.Answers.{GroupsOf}
use Rattle.rules.specs.declared.Sides.{Sides}
use Rattle.rules.specs.Status.{is_kept, test_at}
use Rattle.judging.specs.Judge.{Entry}
use Rattle.tallies.specs.declared.Tally.{Tally}
use Rattle.tallies.specs.Counts.{entry, tally_after}

-- ---- the tally after an entry, by what was found at each field

module _ (s : Sides) (status : List ℕ) (i : ℕ) (t u : Tally) (one : u.removed ≡ t.removed + 1) where
  abbrev next : Bool → Tally
  next opens = tally_after s (is_kept status) (entry opens i) t

  same : (v : Tally) → u.removed ≡ v.removed → u.opened ≡ v.opened → u.euler ≡ v.euler → u.last ≡ v.last → u ≡ v
  same v r o e l = λ j. record { removed = r j; opened = o j; euler = e j; last = l j }

  pub tally-ordinary : (opens : Bool) → opens ≡ false → u.opened ≡ t.opened → u.euler ≡ t.euler → u.last ≡ t.last → u ≡ next opens
  unfolding tally_after
  tally-ordinary opens n o e l = same (next false) one o e l ∙ sym (ap next n)

  pub tally-opening :
      (opens : Bool) → opens ≡ true → (g : Groups) → GroupsOf (test_at s status i) g → u.opened ≡ t.opened + 1
      → (change : ℤ) → change ≡ pos g.k -ℤ pos g.m → u.euler ≡ t.euler +ℤ change → u.last ≡ t.removed → u ≡ next opens
  unfolding tally_after test_at
  tally-opening opens y g f o c h e l =
      same (next true) one o (e ∙ ap (λ (z : ℤ). t.euler +ℤ z) (h ∙ ap (λ (x : Test). pos x.k -ℤ pos x.m) f)) l ∙ sym (ap next y)

pub tally-more : (s : Sides) (kept : ℕ → Bool) (e : Entry) (t u : Tally) → u ≡ tally_after s kept e t → u.removed ≡ t.removed + 1
unfolding tally_after
tally-more s kept e t u h = ap (λ (x : Tally). x.removed) h

-- ---- the Euler number stays small

module _ (kept : ℕ → Bool) (x : ℤ) (n : ℕ) (small : nat_abs x ≤ 1 + 8 * n) where
  pub change-small : nat_abs (x +ℤ (pos (test kept).k -ℤ pos (test kept).m)) ≤ 1 + 8 * (n + 1)
  change-small =
      let t = test kept in
      let m = m-few kept in
      let d = difference-size t.k t.m 8 (k-few kept) (omega arith) in
      omega (arith, sum-size x (pos t.k -ℤ pos t.m))
