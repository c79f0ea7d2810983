-- A pass that changes a list in place: from lo up to hi each element is what f makes of it there, and the others stay.
use mathlib.Core.Path.{◌≡◌, refl, sym, ap, ◌∙◌, subst}
use mathlib.Core.Logic.{⊎_elim}
use mathlib.Core.List.{List, map}
use Prim.Native.Nat.{ℕ, ◌+◌, ◌≤◌, ◌<◌}
use native.Mathlib.Omega.{arith}
use native.Mathlib.Nat.{eq-or-lt_of_le}
use lib.ListN.{length, get_or, set, length-set}
use lib.Seq.{get_or-set_same, get_or-set_other}
use Rattle.rules.specs.Grid.{range}
use Rattle.prelude.proofs.Ranges.{is-map-range}
use Rattle.loops.specs.InPlace.{Each}
use Rattle.loops.proofs.Orders.{split}

module _ {A : Type 0} (d : A) (f : ℕ → A → A) where
  pub each_none : (lo hi : ℕ) (l : List A) → hi ≤ lo → Each d f lo hi l l
  each_none lo hi l h = record { len = refl; inside = λ k p q. let z : ⊥ = omega arith in absurd z; outside = λ k o. refl }

  pub each_more : (lo i : ℕ) (l l' : List A) (v : A) → lo ≤ i → i < length l → Each d f lo i l l' → v ≡ f i (get_or l' i d)
      → Each d f lo (i + 1) l (set l' i v)
  each_more lo i l l' v h n E e =
      let m : i < length l' = omega (arith, E.len) in
      record {
        len = length-set l' i v ∙ E.len;
        inside = λ k p q. ⊎_elim
            (λ s.
            subst (λ (x : ℕ). get_or (set l' i v) x d ≡ f x (get_or l x d)) (sym s)
            (get_or-set_same l' i v d m ∙ e ∙ ap (f i) (E.outside i (λ z. omega arith))))
            (λ s. get_or-set_other l' i k v d (λ z. let b : ⊥ = omega arith in b) ∙ E.inside k p s)
            (eq-or-lt_of_le (let t : k ≤ i = omega arith in t));
        outside = λ k o.
            get_or-set_other l' i k v d (λ z. let b = o (omega arith) in let c : ⊥ = omega arith in c)
            ∙ E.outside k (λ z. let b = o z in omega arith);
      }

  pub each-join : (lo mid hi : ℕ) (l l' l'' : List A) → lo ≤ mid → mid ≤ hi → Each d f lo mid l l' → Each d f mid hi l' l''
      → Each d f lo hi l l''
  each-join lo mid hi l l' l'' p q E F =
      record {
        len = F.len ∙ E.len;
        inside = λ k r s. ⊎_elim
            (λ t. F.inside k t s ∙ ap (f k) (E.outside k (λ z. t)))
            (λ t. F.outside k (λ z. let b : ⊥ = omega arith in absurd b) ∙ E.inside k r t)
            (split mid k);
        outside = λ k o. F.outside k (λ z. o (omega arith)) ∙ E.outside k (λ z. let b = o z in omega arith);
      }

  -- the same elements, by another function
  pub each-as : (g : ℕ → A → A) (lo hi : ℕ) (l l' : List A)
      → ((k : ℕ) → lo ≤ k → k < hi → f k (get_or l k d) ≡ g k (get_or l k d)) → Each d f lo hi l l' → Each d g lo hi l l'
  each-as g lo hi l l' e E = record { len = E.len; inside = λ k p q. E.inside k p q ∙ e k p q; outside = E.outside }

  -- all of a list
  pub each_all : (n i : ℕ) (l l' : List A) → length l ≡ n → n ≤ i → Each d f 0 i l l' → l' ≡ map (λ k. f k (get_or l k d)) (range 0 n)
  each_all n i l l' e h E = is-map-range _ d n l' (E.len ∙ e) (λ k q. E.inside k (omega arith) (omega arith))
