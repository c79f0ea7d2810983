-- One way through a slab: what holds when t positions have had their turn. The positions come through a map, so that upwards and
-- downwards are one law.
use mathlib.Core.Path.{◌≡◌, refl, ap, ◌∙◌, subst}
use mathlib.Core.Logic.{◌⊎◌, inl, inr, ⊎_elim}
use mathlib.Core.Bool.{Bool, true, false}
use mathlib.Core.List.{List}
use Prim.Native.Nat.{ℕ, zero, suc, ◌+◌, ◌-◌, ◌*◌, ◌≤◌, ◌<◌, min}
use native.Mathlib.Omega.{arith}
use native.Mathlib.Nat.{suc-mul}
use lib.ListN.{length, get_or}
use Rattle.loops.proofs.Orders.{split, times-next}
use Rattle.sweeps.specs.Sweep.{turn_of, position_of, best, Lowered, Slab, Swept}

turn-lt : (down : Bool) (m t : ℕ) → t < m → turn_of down m t < m
turn-lt false m t h = h
turn-lt true m t h = omega arith

-- no two turns are at one position
turn-other : (down : Bool) (m t j : ℕ) → t < m → j < m → (j ≡ t → ⊥) → (turn_of down m j < turn_of down m t) ⊎ (turn_of down m t < turn_of down m j)
turn-other false m t j h k n = ⊎_elim (λ l. inr (omega arith)) (λ l. inl l) (split t j)
turn-other true m t j h k n = ⊎_elim (λ l. inl (omega arith)) (λ l. inr (omega arith)) (split t j)

pub lowered-lower : (at from n : ℕ) (d d' : List ℕ) → Lowered at from n d d' → (k : ℕ) → get_or d' k 0 ≤ get_or d k 0
lowered-lower at from n d d' L k =
    ⊎_elim
    (λ l. ⊎_elim
    (λ u. let o = L.outside k (λ z. u) in omega arith)
    (λ u. let i = L.inside k l u in omega arith)
    (split (at + n) k))
    (λ l. let o = L.outside k (λ z. let c : ⊥ = omega arith in absurd c) in omega arith)
    (split at k)

module _ (st m at : ℕ) (down : Bool) where
  abbrev p : ℕ → ℕ
  p t = position_of at st m down t

  position_in : (t : ℕ) → t < m → (at ≤ p t) × (p t + st ≤ at + m * st)
  position_in t h = let l = times-next (turn_of down m t) m st (turn-lt down m t h) in (omega arith, omega arith)

  -- another position's voxels are others
  position-apart : (t j r : ℕ) → t < m → j < m → (j ≡ t → ⊥) → r < st → p t ≤ p j + r → p t + st ≤ p j + r
  position-apart t j r h k n q l =
      ⊎_elim
      (λ u. let w = times-next (turn_of down m j) (turn_of down m t) st u in let z : ⊥ = omega arith in absurd z)
      (λ u. let w = times-next (turn_of down m t) (turn_of down m j) st u in omega arith)
      (turn-other down m t j h k n)

  -- t positions have had their turn
  pub record Sweeping (d₀ d : List ℕ) (t : ℕ) : Type 0 where
    pub low : 1 ≤ t
    pub high : t ≤ m
    pub len : length d ≡ length d₀
    pub lower : (k : ℕ) → get_or d k 0 ≤ get_or d₀ k 0
    pub done : (j r : ℕ) → j < t → r < st → get_or d (p j + r) 0 ≡ best d₀ (λ i. p i + r) j
    pub rest : (j r : ℕ) → t ≤ j → j < m → r < st → get_or d (p j + r) 0 ≡ get_or d₀ (p j + r) 0
    pub outside : (k : ℕ) → (at ≤ k → at + m * st ≤ k) → get_or d k 0 ≡ get_or d₀ k 0

  module _ (d₀ : List ℕ) (B : Slab d₀ st m at) where
    pub sweeping-start : Sweeping d₀ d₀ 1
    unfolding best
    sweeping-start =
        record {
          low = omega arith;
          high = B.m-pos;
          len = refl;
          lower = λ k. omega arith;
          done = λ j r h l. first j h r;
          rest = λ j r h k l. refl;
          outside = λ k o. refl;
        }
      where
        first : (j : ℕ) → j < 1 → (r : ℕ) → get_or d₀ (p j + r) 0 ≡ best d₀ (λ i. p i + r) j
        first zero h r = refl
        first (suc j) h r = let z : ⊥ = omega arith in absurd z

    module _ (d : List ℕ) (t : ℕ) (S : Sweeping d₀ d t) (h : t < m) where
      pub sweeping-more : (d' : List ℕ) → Lowered (p t) (p (t - 1)) st d d' → Sweeping d₀ d' (t + 1)
      unfolding best
      sweeping-more d' L =
          record {
            low = omega arith;
            high = omega arith;
            len = L.len ∙ S.len;
            lower = λ k. omega (arith, lowered-lower (p t) (p (t - 1)) st d d' L k, S.lower k);
            done = λ j r l u. ⊎_elim
                (λ e. subst (λ (x : ℕ). get_or d' (p x + r) 0 ≡ best d₀ (λ i. p i + r) x) (let q : t ≡ j = omega arith in q) (here r u))
                (λ e. others j r (omega (arith, S.low)) u (λ q. omega arith) ∙ S.done j r e u)
                (split t j);
            rest = λ j r l k u. others j r k u (λ q. omega arith) ∙ S.rest j r (omega arith) k u;
            outside = λ k o.
                L.outside k (λ z. let w = position_in t h in let v = o (omega (arith, w.0)) in omega (arith, w.1))
                ∙ S.outside k o;
          }
        where
          others : (j r : ℕ) → j < m → r < st → (j ≡ t → ⊥) → get_or d' (p j + r) 0 ≡ get_or d (p j + r) 0
          others j r k u n = L.outside (p j + r) (λ l. position-apart t j r h k n u l)

          here : (r : ℕ) → r < st → get_or d' (p t + r) 0 ≡ best d₀ (λ i. p i + r) t
          here r u =
              let own = L.inside (p t + r) (omega arith) (omega arith) in
              let mine = S.rest t r (omega arith) h u in
              let back : p t + r - p t ≡ r = omega arith in
              let last = ap (λ (x : ℕ). get_or d (p (t - 1) + x) 0) back ∙ S.done (t - 1) r (omega (arith, S.low)) u in
              let e : get_or d' (p t + r) 0 ≡ min (get_or d₀ (p t + r) 0) (best d₀ (λ i. p i + r) (t - 1) + 1) = omega arith in
              e ∙ step t S.low
            where
              step : (t : ℕ) → 1 ≤ t → min (get_or d₀ (p t + r) 0) (best d₀ (λ i. p i + r) (t - 1) + 1) ≡ best d₀ (λ i. p i + r) t
              step zero l = let z : ⊥ = omega arith in absurd z
              step (suc t) l =
                  ap (λ (x : ℕ). min (get_or d₀ (p (suc t) + r) 0) (best d₀ (λ i. p i + r) x + 1)) (let e : suc t - 1 ≡ t = omega arith in e)

    pub sweeping-done : (d : List ℕ) (t : ℕ) → m ≤ t → Sweeping d₀ d t → Swept st m at down d₀ d
    sweeping-done d t h S =
        let hi = S.high in
        record { len = S.len; lower = S.lower; inside = λ j r l u. S.done j r (omega arith) u; outside = S.outside }

-- where the run before starts
pub run-before : (at st q : ℕ) → 1 ≤ q → at + q * st - st ≡ at + (q - 1) * st
run-before at st q h =
    let n = suc-mul (q - 1) st in
    let e = ap (λ (x : ℕ). x * st) (let z : q ≡ suc (q - 1) = omega arith in z) in
    omega arith
