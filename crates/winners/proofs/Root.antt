-- The root of a winner tree is the greatest of the leaves.
use mathlib.Core.Path.{◌≡◌}
use mathlib.Core.List.{List}
use Prim.Native.Nat.{ℕ, zero, suc, ◌+◌, ◌-◌, ◌*◌, ◌/◌, ◌≤◌, ◌<◌}
use native.Mathlib.Omega.{arith}
use native.Mathlib.Decide.{dec_le}
use lib.ListN.{get_or}
use Rattle.winners.specs.Tree.{Nodes}
use Rattle.winners.proofs.Nodes.{node_at, parity}

module _ (p : ℕ) (t : List ℕ) (N : Nodes p t) where
  -- no node is greater than the node above it
  above-le : (i : ℕ) → 1 < i → i < 2 * p → get_or t i 0 ≤ get_or t (i / 2) 0
  above-le i l u =
      let joined = N.node (i / 2) (omega arith) (omega arith) in
      parity i (λ e. omega (arith, node_at t e)) (λ e. omega (arith, node_at t e))

  root-le : (fuel i : ℕ) → i ≤ fuel → 1 ≤ i → i < 2 * p → get_or t i 0 ≤ get_or t 1 0
  root-le zero i b l u = let z : ⊥ = omega arith in absurd z
  root-le (suc fuel) i b l u =
      elim (dec_le i 1) [
        | yes h ↦ let e : i ≡ 1 = omega arith in omega (arith, node_at t e)
        | no h ↦ omega (arith, root-le fuel (i / 2) (omega arith) (omega arith) (omega arith), above-le i (omega arith) u)
      ]

  -- every node is one of the leaves
  root-of : (fuel i : ℕ) → 2 * p ≤ i + fuel → 1 ≤ i → i < 2 * p → (k : ℕ) × (k < p) × (get_or t i 0 ≡ get_or t (p + k) 0)
  root-of zero i b l u = let z : ⊥ = omega arith in absurd z
  root-of (suc fuel) i b l u =
      elim (dec_le p i) [
        | yes h ↦ let e : i ≡ p + (i - p) = omega arith in (i - p, omega arith, node_at t e)
        | no h ↦
            let joined = N.node i l (omega arith) in
            elim (dec_le (get_or t (2 * i) 0) (get_or t (2 * i + 1) 0)) [
              | yes g ↦ let w = root-of fuel (2 * i + 1) (omega arith) (omega arith) (omega arith) in (w.0, w.1, omega (arith, w.2))
              | no g ↦ let w = root-of fuel (2 * i) (omega arith) (omega arith) (omega arith) in (w.0, w.1, omega (arith, w.2))
            ]
      ]

  -- so no leaf is greater than the root
  pub root-top : (k : ℕ) → k < p → get_or t (p + k) 0 ≤ get_or t 1 0
  root-top k h = root-le (p + k) (p + k) (omega arith) (omega arith) (omega arith)

  -- which is one of them
  pub root-leaf : 1 ≤ p → (k : ℕ) × (k < p) × (get_or t 1 0 ≡ get_or t (p + k) 0)
  root-leaf h = root-of (2 * p) 1 (omega arith) (omega arith) (omega arith)
