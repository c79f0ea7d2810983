-- The ways up a winner tree: what holds at each step of a loop over its nodes.
use mathlib.Core.Path.{◌≡◌, ap}
use mathlib.Core.List.{List}
use Prim.Native.Nat.{ℕ, ◌+◌, ◌*◌, ◌/◌, ◌%◌, ◌≤◌, ◌<◌, max}
use native.Mathlib.Omega.{arith}
use native.Mathlib.Decide.{ℕ_discrete}
use lib.ListN.{length, get_or}
use Rattle.winners.specs.Tree.{Joined}

-- ---- one node

pub node_at : (t : List ℕ) {x y : ℕ} → x ≡ y → get_or t x 0 ≡ get_or t y 0
node_at t e = ap (λ (x : ℕ). get_or t x 0) e

-- node i is one of the two children of the node above
pub parity : {A : Type 0} (i : ℕ) → (i ≡ 2 * (i / 2) → A) → (i ≡ 2 * (i / 2) + 1 → A) → A
parity i f g = elim (ℕ_discrete (i % 2) 0) [ yes h ↦ f (omega arith) | no h ↦ g (omega arith) ]

-- ---- making all inner nodes, from the last to the first: those from i on are made

pub record Joining (p : ℕ) (t₀ t : List ℕ) (i : ℕ) : Type 0 where
  pub same : length t ≡ length t₀
  pub low : 1 ≤ i
  pub high : i ≤ p
  pub nodes : (m : ℕ) → i ≤ m → m < p → Joined t m
  pub leaves : (m : ℕ) → p ≤ m → get_or t m 0 ≡ get_or t₀ m 0

-- ---- replacing leaf k: only the node above i is not yet made anew, and g is node i

pub record Rising (p : ℕ) (t₀ t : List ℕ) (i g : ℕ) : Type 0 where
  pub same : length t ≡ length t₀
  pub room : 2 * p ≤ length t
  pub low : 1 ≤ i
  pub high : i < 2 * p
  pub carried : g ≡ get_or t i 0
  pub nodes : (m : ℕ) → 1 ≤ m → m < p → (m ≡ i / 2 → ⊥) → Joined t m
  pub leaves : (m : ℕ) → p ≤ m → get_or t m 0 ≡ get_or t₀ m 0

-- ---- lifting leaf k to w: node i alone may be less than w below it

pub record Lifting (p k w : ℕ) (t₀ t : List ℕ) (i : ℕ) : Type 0 where
  pub same : length t ≡ length t₀
  pub room : 2 * p ≤ length t
  pub high : i < 2 * p
  pub nodes : (m : ℕ) → 1 ≤ m → m < p → (m ≡ i → ⊥) → Joined t m
  pub gap : 1 ≤ i → i < p → max (get_or t i 0) w ≡ max (get_or t (2 * i) 0) (get_or t (2 * i + 1) 0)
  pub others : (m : ℕ) → m < p → (m ≡ k → ⊥) → get_or t (p + m) 0 ≡ get_or t₀ (p + m) 0
  pub first : p ≤ i → (i ≡ p + k) × (get_or t (p + k) 0 ≡ get_or t₀ (p + k) 0)
  pub lifted : i < p → get_or t (p + k) 0 ≡ max (get_or t₀ (p + k) 0) w
