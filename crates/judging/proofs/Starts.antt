-- What judge meets where a start left the buffers: S is the voxels of negative distance, and the body has its shape.
use mathlib.Core.Path.{◌≡◌, refl, ap, sym, ◌∙◌, subst, fun_ext}
use mathlib.Core.Bool.{Bool, true, false}
use mathlib.Core.List.{List}
use Prim.Native.Nat.{ℕ, ◌<◌}
use native.Mathlib.Omega.{arith}
use lib.ListN.{length}
use lib.IntN.{ℤ}
use Rattle.prelude.proofs.Bools.{both_ways}
use Rattle.rules.specs.declared.Sides.{Sides}
use Rattle.rules.specs.Grid.{size, is_in}
use Rattle.rules.specs.Begin.{inside}
use Rattle.rules.specs.Marks.{Marked}
use Rattle.rules.specs.Meaning.{found}
use Rattle.rules.specs.Status.{is_kept, without}
use Rattle.rules.specs.Machine.{State, is_inside}
use Rattle.rules.proofs.Inside.{negative-lt, inside-members}
use Rattle.rules.proofs.FitKept.{inside-below}
use Rattle.rules.proofs.Topology.Surface.{omit}
use Rattle.rules.proofs.Topology.Steps.{kept-without}
use Rattle.rules.proofs.Topology.Calls.{Good}
use Rattle.rules.proofs.Demand.{all_held, Startable, start_state, good_start}
use Rattle.rules.proofs.NeverUnfit.{start-fit}
use Rattle.judging.specs.Judge.{less_one}

-- no voxel pinned, or held
abbrev pub nobody : ℕ → Bool
nobody j = false

-- a voxel gone from the judge's body, and from status bytes
pub less-without : (s : Sides) (free : ℕ → Bool) (status : List ℕ) → length status ≡ size s → (kept : ℕ → Bool) → kept ≡ is_kept status
    → (i : ℕ) → less_one kept i ≡ is_kept (without s free status i)
unfolding omit
less-without s free status lent kept same i = ap (λ (k : ℕ → Bool). less_one k i) same ∙ sym (kept-without s free status lent i)

module _ (s : Sides) (values : List ℤ) (start : ℕ → Bool) (from : Startable s values start) (T : ℕ) (m : Marked) where
  abbrev started : State
  started = start_state s T values m start

  pub same-inside : is_in (inside s values) ≡ is_inside started.dist
  same-inside = fun_ext (λ i. both_ways (is_in (inside s values) i) (is_inside started.dist i) (there i) (back i))
    where
      signs : (i : ℕ) → i < size s → is_inside started.dist i ≡ is_in (inside s values) i
      signs = (good_start s values start from T m all_held (λ j e. refl)).signs refl

      there : (i : ℕ) → is_in (inside s values) i ≡ true → is_inside started.dist i ≡ true
      there i e = signs i (negative-lt s values i (inside-members s values i e)) ∙ e

      back : (i : ℕ) → is_inside started.dist i ≡ true → is_in (inside s values) i ≡ true
      back i e = sym (signs i (omega (arith, inside-below started.dist i e, (start-fit s values start from T m).voxels.lent.distances))) ∙ e

  -- to judge the inside is that of the distances
  pub judged-good : (held : ℕ → Bool) → ((j : ℕ) → m.pinned j ≡ true → held j ≡ true) → Good (is_inside started.dist) held (found s start) started
  judged-good held within = subst (λ (S : ℕ → Bool). Good S held (found s start) started) same-inside (good_start s values start from T m held within)
