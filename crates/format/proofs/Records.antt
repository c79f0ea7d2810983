-- The checks of layer records: those of one by their parts, and of several one after the other.
use mathlib.Core.Path.{◌≡◌, refl, ap}
use mathlib.Core.Bool.{true, not}
use mathlib.Core.List.{List, ◌++◌}
use Prim.Native.Nat.{ℕ, zero, suc, ◌-◌, ◌<◌}
use native.Mathlib.Omega.{arith}
use borrow.Author.Tests.{le-ltb, eq-eqb}
use Rattle.rules.specs.declared.Sides.{Sides}
use Rattle.rules.specs.Checks.{numbered, AllHold}
use Rattle.rules.proofs.Checks.{hold-append, append-hold}
use Rattle.format.specs.Layer.{z_at, layer_checks}
use Rattle.format.specs.File.{layer_start, order_checks, range_checks, record_checks, layers_checks}

pub order-holds : (file : List ℕ) (start next : ℕ) → z_at file start ≡ next → AllHold (order_checks file start next)
order-holds file start next e = (le-ltb (z_at file start) next (omega arith), (ap not (eq-eqb (z_at file start) next e), tt))

module _ (s : Sides) (file : List ℕ) (start next : ℕ) where
  pub record Checked : Type 0 where
    pub layer : AllHold (layer_checks s file start)
    pub order : AllHold (order_checks file start next)
    pub range : AllHold (range_checks s file start)

  pub record-checked : AllHold (record_checks s file start next) → Checked
  record-checked h =
      let p = hold-append (layer_checks s file start) (order_checks file start next ++ range_checks s file start) h in
      let q = hold-append (order_checks file start next) (range_checks s file start) p.1 in
      record { layer = p.0; order = q.0; range = q.1 }

  pub checked-record : Checked → AllHold (record_checks s file start next)
  checked-record c =
      append-hold (layer_checks s file start) (order_checks file start next ++ range_checks s file start) c.layer
      (append-hold (order_checks file start next) (range_checks s file start) c.order c.range)

module _ (s : Sides) (file : List ℕ) where
  pub layers_checks-next :
      (left next : ℕ)
      → 0 < left
      → layers_checks s file left next ≡ record_checks s file (layer_start s file next) next ++ layers_checks s file (left - 1) (suc next)
  unfolding layers_checks
  layers_checks-next zero next h = let z : ⊥ = omega arith in absurd z
  layers_checks-next (suc left) next h = let e : suc left - 1 ≡ left = omega arith in rw e

  pub layers-numbered : (left next : ℕ) → numbered (layers_checks s file left next) ≡ true
  unfolding layers_checks
  layers-numbered zero next = refl
  layers-numbered (suc left) next = layers-numbered left (suc next)
