-- A call whose checks come before its own: by the first of them that fails, and past all of them.
use Rattle.std.specs.Prelude.{Result, Ok, Err, IsErrAnd}
use mathlib.Core.Path.{◌≡◌, refl, ap, sym}
use mathlib.Core.Bool.{true}
use mathlib.Core.List.{List, ◌++◌}
use Prim.Native.Nat.{ℕ}
use native.Mathlib.Omega.{arith}
use Rattle.rules.specs.declared.Refusal.{Refusal}
use Rattle.rules.specs.Checks.{Check, first_failing, numbered, AllHold, unless}
use Rattle.rules.specs.Refusals.{number_of, number_in}
use Rattle.rules.proofs.Checks.{refused-first, held_first, all_hold, call-refused, call-done}

-- no refusal has the number 0
pub numbers : (e : Refusal) → number_of e ≡ 0 → ⊥
numbers Refusal.Side h = omega (arith, h)
numbers Refusal.Length h = omega (arith, h)
numbers Refusal.BorderNegative h = omega (arith, h)
numbers Refusal.NoNegative h = omega (arith, h)
numbers Refusal.Index h = omega (arith, h)
numbers Refusal.Axis h = omega (arith, h)
numbers Refusal.Unfit h = omega (arith, h)
numbers Refusal.Finished h = omega (arith, h)
numbers Refusal.NotFinished h = omega (arith, h)
numbers Refusal.GoneAlready h = omega (arith, h)
numbers Refusal.Inside h = omega (arith, h)
numbers Refusal.NotPassed h = omega (arith, h)
numbers Refusal.StillPending h = omega (arith, h)
numbers Refusal.NoOpeningLeft h = omega (arith, h)
numbers Refusal.NothingToOpen h = omega (arith, h)
numbers Refusal.Short h = omega (arith, h)
numbers Refusal.Mark h = omega (arith, h)
numbers Refusal.Layer h = omega (arith, h)
numbers Refusal.LayerTwice h = omega (arith, h)
numbers Refusal.Room h = omega (arith, h)
numbers Refusal.LayerOrder h = omega (arith, h)
numbers Refusal.Value h = omega (arith, h)
numbers Refusal.MarkByte h = omega (arith, h)
numbers Refusal.PinnedVoxel h = omega (arith, h)
numbers Refusal.Coarse h = omega (arith, h)
numbers Refusal.BreaksRules h = omega (arith, h)
numbers Refusal.StillPasses h = omega (arith, h)
numbers Refusal.Office h = omega (arith, h)
numbers Refusal.NothingPending h = omega (arith, h)

-- the number that the checks cs give, before ds
module _ (cs ds : List Check) where
  pub refused-before : (e : Refusal) → number_of e ≡ first_failing cs → number_of e ≡ first_failing (cs ++ ds)
  refused-before e h = refused-first cs ds _ h (numbers e)

  pub passed-before : numbered cs ≡ true → 0 ≡ first_failing cs → (m : ℕ) → m ≡ first_failing ds → m ≡ first_failing (cs ++ ds)
  passed-before n h m f = held_first cs ds 0 h n refl m f

-- past all of them
pub passed : (cs : List Check) → numbered cs ≡ true → 0 ≡ first_failing cs → AllHold cs
passed cs n h = all_hold cs n (sym h)

-- the call itself
module _ {R : Type 0} (refuse : ℕ → R) (work : R) (cs : List Check) where
  pub call-refused-by : (e : Refusal) → number_of e ≡ first_failing cs → refuse (number_of e) ≡ unless cs refuse work
  call-refused-by e h = call-refused refuse work cs _ h (numbers e)

  pub call-passed : numbered cs ≡ true → 0 ≡ first_failing cs → (r : R) → r ≡ work → r ≡ unless cs refuse work
  call-passed n h r f = call-done refuse work cs 0 h n refl r f

-- what `?` hands on
pub handed_on : (r : Result (Unit {0}) Refusal) (e : Refusal) → IsErrAnd r (λ d. d ≡ e) → number_in r ≡ number_of e
handed_on (Ok u) e h = absurd h
handed_on (Err d) e h = ap number_of h
