-- A buffer filled from its start, one element after the other: the loop's invariant, for any elements.
use mathlib.Core.Path.{◌≡◌, refl, ap, sym, ◌∙◌}
use mathlib.Core.List.{List, map}
use Prim.Native.Nat.{ℕ, ◌+◌, ◌≤◌, ◌<◌}
use native.Mathlib.Omega.{arith}
use native.Mathlib.Decide.{ℕ_discrete}
use lib.ListN.{length, get_or, set, length-set}
use lib.Seq.{get_or-set_same, get_or-set_other}
use Rattle.prelude.specs.Lists.{range}
use Rattle.prelude.proofs.Ranges.{is-map-range}

module _ {A : Type 0} (f : ℕ → A) (d : A) where
  -- the elements below i stand, in a buffer of n
  pub record Filling (n : ℕ) (buffer : List A) (i : ℕ) : Type 0 where
    pub within : i ≤ n
    pub long : length buffer ≡ n
    pub stands : (k : ℕ) → k < i → get_or buffer k d ≡ f k

  pub filling-start : (buffer : List A) → Filling (length buffer) buffer 0
  filling-start buffer = record { within = omega arith; long = refl; stands = λ k h. let z : ⊥ = omega arith in absurd z }

  pub filling-next : (n : ℕ) (buffer : List A) (i : ℕ) (x : A) → Filling n buffer i → i < n → x ≡ f i → Filling n (set buffer i x) (i + 1)
  filling-next n buffer i x p h e =
      record { within = omega arith; long = length-set buffer i x ∙ p.long; stands = λ k l. at k l (ℕ_discrete k i) }
    where
      at : (k : ℕ) → k < i + 1 → Dec (k ≡ i) → get_or (set buffer i x) k d ≡ f k
      at k l (yes q) =
          ap (λ (j : ℕ). get_or (set buffer i x) j d) q ∙ get_or-set_same buffer i x d (omega (arith, p.long)) ∙ e ∙ ap f (sym q)
      at k l (no q) = get_or-set_other buffer i k x d q ∙ p.stands k (omega arith)

  pub filling-done : (n : ℕ) (buffer : List A) (i : ℕ) → Filling n buffer i → n ≤ i → buffer ≡ map f (range 0 n)
  filling-done n buffer i p h = is-map-range f d n buffer p.long (λ k l. p.stands k (omega arith))
