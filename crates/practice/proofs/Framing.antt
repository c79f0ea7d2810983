-- The border's values put over a row: over its ends, or over all of it if the row lies on the border.
use Rattle.std.proofs.Common.{◌≡◌, ℕ, ◌+◌, ◌-◌, ◌*◌, ◌<◌, ◌≤◌, Bool, true, false, cond, List, get_or, ℤ, pos, sym, refl, ap, ◌∙◌, subst, arith}
use Rattle.rules.specs.declared.Sides.{Sides}
use Rattle.rules.specs.Grid.{on_border}
use Rattle.loops.specs.InPlace.{Each}
use Rattle.loops.proofs.InPlace.{each-as, each-join}
use Rattle.loops.proofs.Rows.{edge, row-edge, row_first, row_last, row-middle}
use Rattle.practice.specs.Work.{framed_at}

module _ (s : Sides) (r : ℕ) where
  abbrev first : ℕ
  first = s.a * r

  -- values that are written, all on the border
  on-border : (lo hi : ℕ) (l l' : List ℤ) {end : ℕ} → ((k : ℕ) → lo ≤ k → k < hi → on_border s k ≡ true) → end ≡ hi
      → Each (pos 0) (λ k d. pos 1000) lo end l l' → Each (pos 0) (framed_at s) lo hi l l'
  on-border lo hi l l' on e E =
      each-as (pos 0) (λ k d. pos 1000) (framed_at s) lo hi l l' (λ k p q. sym (ap (λ (t : Bool). cond t (pos 1000) (get_or l k (pos 0))) (on k p q)))
      (subst (λ (n : ℕ). Each (pos 0) (λ k d. pos 1000) lo n l l') e E)

  -- values that stay, none of them there
  within : (lo hi : ℕ) (l : List ℤ) → ((k : ℕ) → lo ≤ k → k < hi → on_border s k ≡ false) → Each (pos 0) (framed_at s) lo hi l l
  within lo hi l off =
      record {
        len = refl;
        inside = λ k p q. sym (ap (λ (t : Bool). cond t (pos 1000) (get_or l k (pos 0))) (off k p q));
        outside = λ k o. refl;
      }

  -- where a piece of the row ends is said by what it is, however the code finds it
  pub edge-framed : (l l₁ : List ℤ) {end : ℕ} → edge s r ≡ true → end ≡ first + s.a → Each (pos 0) (λ k d. pos 1000) first end l l₁
      → Each (pos 0) (framed_at s) first (first + s.a) l l₁
  edge-framed l l₁ e q E = on-border first (first + s.a) l l₁ (row-edge s r e) q E

  pub row-framed : (l l₁ l₂ : List ℤ) {p u v : ℕ} → edge s r ≡ false → 3 ≤ s.a → p ≡ first + 1 → u ≡ first + s.a - 1 → v ≡ first + s.a
      → Each (pos 0) (λ k d. pos 1000) first p l l₁ → Each (pos 0) (λ k d. pos 1000) u v l₁ l₂ → Each (pos 0) (framed_at s) first (first + s.a) l l₂
  row-framed l l₁ l₂ {p} {u} {v} e w ep eu ev E F =
      let last = first + s.a - 1 in
      each-join (pos 0) (framed_at s) first (first + 1) (first + s.a) l l₁ l₂ (omega arith) (omega arith)
      (on-border first (first + 1) l l₁ (λ k a b. ap (on_border s) (let z : k ≡ first = omega arith in z) ∙ row_first s r (omega arith)) ep E)
      (each-join (pos 0) (framed_at s) (first + 1) last (first + s.a) l₁ l₁ l₂ (omega arith) (omega arith)
      (within (first + 1) last l₁ (λ k a b. row-middle s r e k (omega arith) (omega arith)))
      (on-border last (first + s.a) l₁ l₂ (λ k a b. row_last s r k (omega arith) (omega arith)) ev
      (subst (λ (m : ℕ). Each (pos 0) (λ k d. pos 1000) m v l₁ l₂) eu F)))
