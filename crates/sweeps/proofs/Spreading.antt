-- Both ways through a slab.
use mathlib.Core.Path.{◌≡◌, ap, ◌∙◌}
use mathlib.Core.Logic.{⊎_elim}
use mathlib.Core.Bool.{Bool, true, false}
use mathlib.Core.List.{List}
use Prim.Native.Nat.{ℕ, zero, suc, ◌+◌, ◌-◌, ◌*◌, ◌≤◌, ◌<◌}
use native.Mathlib.Omega.{arith}
use native.Mathlib.Nat.{mul_comm}
use lib.ListN.{length, get_or}
use Rattle.rules.specs.Grid.{gap}
use Rattle.loops.proofs.Orders.{split, times-next}
use Rattle.sweeps.specs.Sweep.{best, Slab, Swept, place_of, Spread, Both}

-- ---- the best along a line is at most that of each position before, and is one of them

module _ (d : List ℕ) (p : ℕ → ℕ) where
  best-each : (t j : ℕ) → j ≤ t → best d p t ≤ get_or d (p j) 0 + (t - j)
  unfolding best
  best-each zero zero h = omega arith
  best-each zero (suc j) h = let z : ⊥ = omega arith in absurd z
  best-each (suc t) j h =
      ⊎_elim
      (λ l. let q : j ≡ suc t = omega arith in let e = ap (λ (x : ℕ). get_or d (p x) 0) q in omega arith)
      (λ l. let r = best-each t j (omega arith) in omega arith)
      (split (suc t) j)

  best-some : (t : ℕ) → (j : ℕ) × (j ≤ t) × (best d p t ≡ get_or d (p j) 0 + (t - j))
  unfolding best
  best-some zero = (0, omega arith, omega arith)
  best-some (suc t) =
      let w = best-some t in
      let l = w.1 in
      let v = w.2 in
      ⊎_elim (λ h. (suc t, omega arith, omega arith)) (λ h. (w.0, omega arith, omega arith)) (split (get_or d (p (suc t)) 0) (best d p t + 1))

-- ---- up, then down

-- by way of a position above both
through : (q q₁ q₂ x y z : ℕ) → q ≤ q₁ → q₂ ≤ q₁ → z ≡ y + (q₁ - q) → y ≡ x + (q₁ - q₂) → x + gap q q₂ ≤ z
unfolding gap
through q q₁ q₂ x y z h k e f = omega arith

module _ (st m at : ℕ) (d d₁ d₂ : List ℕ) (U : Swept st m at false d d₁) (D : Swept st m at true d₁ d₂) where
  up_at : (q r : ℕ) → q < m → r < st → get_or d₁ (at + q * st + r) 0 ≡ best d (λ j. at + j * st + r) q
  up_at q r h l = U.inside q r h l

  -- the voxel at a position, from above
  down-at : (q r : ℕ) → q < m → r < st → get_or d₂ (at + q * st + r) 0 ≡ best d₁ (λ j. at + (m - 1 - j) * st + r) (m - 1 - q)
  down-at q r h l =
      ap (λ (x : ℕ). get_or d₂ (at + x * st + r) 0) (let e : q ≡ m - 1 - (m - 1 - q) = omega arith in e) ∙ D.inside (m - 1 - q) r (omega arith) l

  -- best of the way down, from a position above
  from-above : (q q' r : ℕ) → q ≤ q' → q' < m → r < st → get_or d₂ (at + q * st + r) 0 ≤ get_or d₁ (at + q' * st + r) 0 + (q' - q)
  from-above q q' r h k l =
      let e = down-at q r (omega arith) l in
      let b = best-each d₁ (λ j. at + (m - 1 - j) * st + r) (m - 1 - q) (m - 1 - q') (omega arith) in
      let f = ap (λ (x : ℕ). get_or d₁ (at + x * st + r) 0) (let x : m - 1 - (m - 1 - q') ≡ q' = omega arith in x) in
      let g : m - 1 - q - (m - 1 - q') ≡ q' - q = omega arith in
      omega arith

  pub both-spread : Spread false st m at d d₂
  unfolding gap
  both-spread =
      record {
        near = λ q q' r h k l. ⊎_elim
            (λ o.
            let a = from-above q q r (omega arith) h l in
            let b = best-each d (λ j. at + j * st + r) q q' o in
            let e = up_at q r h l in
            omega arith)
            (λ o.
            let a = from-above q q' r (omega arith) k l in
            let b = U.lower (at + q' * st + r) in
            omega arith)
            (split q' q);
        some = λ q r h l.
            let w = best-some d₁ (λ j. at + (m - 1 - j) * st + r) (m - 1 - q) in
            let q₁ = m - 1 - w.0 in
            let v = best-some d (λ j. at + j * st + r) q₁ in
            let above : q ≤ q₁ = over q w.0 h w.1 in
            let below : q₁ < m = omega (arith, h) in (
              v.0,
              omega (arith, v.1),
              through q q₁ v.0 _ _ _ above v.1
                  (down-at q r h l ∙ w.2 ∙ ap (λ (x : ℕ). get_or d₁ (at + q₁ * st + r) 0 + x) (left q w.0 h w.1))
                  (up_at q₁ r below l ∙ v.2),
            );
      }
    where
      over : (q j : ℕ) → q < m → j ≤ m - 1 - q → q ≤ m - 1 - j
      over q j h k = omega arith

      left : (q j : ℕ) → q < m → j ≤ m - 1 - q → m - 1 - q - j ≡ m - 1 - j - q
      left q j h k = omega arith

  pub both_ways : Both false st m at d d₂
  both_ways =
      record {
        len = D.len ∙ U.len;
        lower = λ k. omega (arith, D.lower k, U.lower k);
        spread = both-spread;
        outside = λ k o. D.outside k o ∙ U.outside k o;
      }

-- what the way down may go by
pub slab-again : (d d' : List ℕ) (st m at : ℕ) → Slab d st m at → length d' ≡ length d → ((k : ℕ) → get_or d' k 0 ≤ get_or d k 0) → Slab d' st m at
slab-again d d' st m at B e lower =
    record {
      st-pos = B.st-pos;
      m-pos = B.m-pos;
      fits = omega (arith, B.fits);
      few = omega (arith, B.few);
      small = λ k. omega (arith, lower k, B.small k);
    }

-- every voxel of a line is one of the slab
pub place_in : (along : Bool) (st m at r q : ℕ) → q < m → r < st → (at ≤ place_of along st m at r q) × (place_of along st m at r q < at + m * st)
place_in true st m at r q h l = (omega arith, omega (arith, times-next r st m l, mul_comm st m))
place_in false st m at r q h l = (omega arith, omega (arith, times-next q m st h))
