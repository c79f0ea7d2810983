-- An axis, slab after slab.
use mathlib.Core.Path.{◌≡◌, refl, sym, ap, ◌∙◌, subst}
use mathlib.Core.Logic.{⊎_elim}
use mathlib.Core.Bool.{Bool}
use mathlib.Core.List.{List}
use Prim.Native.Nat.{ℕ, suc, ◌+◌, ◌*◌, ◌≤◌, ◌<◌}
use native.Mathlib.Omega.{arith}
use native.Mathlib.Nat.{mul-le-mul, mul-le-mul_right, suc-mul}
use lib.ListN.{length, get_or}
use Rattle.loops.proofs.Orders.{split, times-next}
use Rattle.sweeps.specs.Sweep.{Slab, place_of, Spread, Both}
use Rattle.sweeps.proofs.Spreading.{place_in}

-- so many slabs, and distances to which 1 can be added
pub record Whole (d : List ℕ) (slabs st m : ℕ) : Type 0 where
  pub whole : length d ≡ slabs * (m * st)
  pub st-pos : 1 ≤ st
  pub m-pos : 1 ≤ m
  pub few : length d ≤ 262144
  pub small : (k : ℕ) → get_or d k 0 < 255

-- both ways through every slab
pub record Axis (along : Bool) (st m : ℕ) (d d' : List ℕ) : Type 0 where
  pub len : length d' ≡ length d
  pub lower : (k : ℕ) → get_or d' k 0 ≤ get_or d k 0
  pub spread : (g : ℕ) → g * (m * st) + m * st ≤ length d → Spread along st m (g * (m * st)) d d'

-- the slabs before this one are done
pub record Advancing (along : Bool) (st m : ℕ) (d₀ d : List ℕ) (slab : ℕ) : Type 0 where
  pub len : length d ≡ length d₀
  pub lower : (k : ℕ) → get_or d k 0 ≤ get_or d₀ k 0
  pub done : (g : ℕ) → g < slab → Spread along st m (g * (m * st)) d₀ d
  pub rest : (k : ℕ) → slab * (m * st) ≤ k → get_or d k 0 ≡ get_or d₀ k 0

spread-moved : (along : Bool) (st m at : ℕ) (d d' e e' : List ℕ) → ((k : ℕ) → at ≤ k → k < at + m * st → get_or e k 0 ≡ get_or d k 0)
    → ((k : ℕ) → at ≤ k → k < at + m * st → get_or e' k 0 ≡ get_or d' k 0) → Spread along st m at d d' → Spread along st m at e e'
spread-moved along st m at d d' e e' p p' S =
    record {
      near = λ q q' r h k l. omega (arith, S.near q q' r h k l, moved q' r k l, moved' q r h l);
      some = λ q r h l.
          let w = S.some q r h l in
          let g = w.2 in
          (w.0, w.1, omega (arith, moved w.0 r w.1 l, moved' q r h l));
    }
  where
    moved : (q r : ℕ) → q < m → r < st → get_or e (place_of along st m at r q) 0 ≡ get_or d (place_of along st m at r q) 0
    moved q r h l = let i = place_in along st m at r q h l in p _ i.0 i.1

    moved' : (q r : ℕ) → q < m → r < st → get_or e' (place_of along st m at r q) 0 ≡ get_or d' (place_of along st m at r q) 0
    moved' q r h l = let i = place_in along st m at r q h l in p' _ i.0 i.1

pub advancing-start : {along : Bool} {st m : ℕ} {d₀ : List ℕ} → Advancing along st m d₀ d₀ 0
advancing-start = record { len = refl; lower = λ k. omega arith; done = λ g h. absurd (omega arith); rest = λ k h. refl }

module _ {along : Bool} {st m slabs : ℕ} {d₀ : List ℕ} (W : Whole d₀ slabs st m) where
  module _ {d : List ℕ} {slab at : ℕ} (P : Advancing along st m d₀ d slab) (h : slab < slabs) (is : at ≡ slab * (m * st)) where
    pub slab-fits : at + m * st ≤ length d₀
    slab-fits = omega (arith, times-next slab slabs (m * st) h, W.whole)

    pub advancing-slab : Slab d st m at
    advancing-slab =
        record {
          st-pos = W.st-pos;
          m-pos = W.m-pos;
          fits = omega (arith, slab-fits, P.len);
          few = omega (arith, W.few, P.len);
          small = λ k. omega (arith, P.lower k, W.small k);
        }

    pub advancing-more : {d' : List ℕ} → Both along st m at d d' → Advancing along st m d₀ d' (slab + 1)
    advancing-more {d'} B =
        let next : (slab + 1) * (m * st) ≡ at + m * st =
        omega (arith, suc-mul slab (m * st), ap (λ (x : ℕ). x * (m * st)) (let e : slab + 1 ≡ suc slab = omega arith in e)) in
        record {
          len = B.len ∙ P.len;
          lower = λ k. omega (arith, B.lower k, P.lower k);
          done = λ g l. ⊎_elim
              (λ u.
              subst (λ (x : ℕ). Spread along st m x d₀ d') (is ∙ ap (λ (x : ℕ). x * (m * st)) (let q : slab ≡ g = omega arith in q))
              (spread-moved along st m at d d' d₀ d' (λ k a b. sym (P.rest k (omega arith))) (λ k a b. refl) B.spread))
              (λ u.
              let n = times-next g slab (m * st) u in
              spread-moved along st m (g * (m * st)) d₀ d d₀ d' (λ k a b. refl)
              (λ k a b. B.outside k (λ z. absurd (omega arith))) (P.done g u))
              (split slab g);
          rest = λ k l. B.outside k (λ z. omega arith) ∙ P.rest k (omega arith);
        }

  pub advancing-done : {d : List ℕ} {slab : ℕ} → slabs ≤ slab → Advancing along st m d₀ d slab → Axis along st m d₀ d
  advancing-done {d} {slab} h P =
      record {
        len = P.len;
        lower = P.lower;
        spread = λ g f. P.done g
            (⊎_elim
            (λ u. let w = mul-le-mul_right (m * st) u in let p = mul-le-mul W.m-pos W.st-pos in absurd (omega (arith, W.whole)))
            (λ u. omega arith)
            (split slabs g));
      }
