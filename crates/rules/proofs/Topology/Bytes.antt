-- What a status byte says after it was made pending, not pending, or gone.
use mathlib.Core.Path.{◌≡◌, refl, ap, ap₂, sym, ◌∙◌}
use mathlib.Core.Bool.{Bool, true, false, not, cond, ◌&&◌, ◌||◌}
use Prim.Native.Nat.{ℕ, ◌+◌, ◌-◌, ◌/◌, ◌%◌}
use native.Mathlib.Omega.{arith}
use lib.Dec.{eqb}
use borrow.Author.Tests.{eqb-true, eqb-false, eq-eqb, ne_eqb}
use Rattle.prelude.proofs.Bools.{and_zero, and_one, or-zero, or-one}
use Rattle.rules.specs.Status.{kept_byte, pending_byte, woken, rested}

pub woken-kept : (x : ℕ) → kept_byte (woken x) ≡ kept_byte x
unfolding woken kept_byte
woken-kept x = go (pending_byte x)
  where
    two-more : (x + 2) % 2 ≡ x % 2
    two-more = omega arith

    go : (t : Bool) → eqb (cond t x (x + 2) % 2) 1 ≡ eqb (x % 2) 1
    go true = refl
    go false = ap (λ (n : ℕ). eqb n 1) two-more

pub woken-pending : (x : ℕ) → pending_byte (woken x) ≡ true
unfolding woken pending_byte
woken-pending x = go (eqb (x / 2 % 2) 1) refl
  where
    go : (t : Bool) → eqb (x / 2 % 2) 1 ≡ t → eqb (cond t x (x + 2) / 2 % 2) 1 ≡ true
    go true e = e
    go false e = let h = eqb-false (x / 2 % 2) 1 e in eq-eqb ((x + 2) / 2 % 2) 1 (omega arith)

module _ (x : ℕ) (p : pending_byte x ≡ true) where
  pub rested-kept : kept_byte (rested x) ≡ kept_byte x
  unfolding rested kept_byte pending_byte
  rested-kept =
      let h = eqb-true (x / 2 % 2) 1 p in
      let e : (x - 2) % 2 ≡ x % 2 = omega arith in
      ap (λ (n : ℕ). eqb n 1) e

  pub rested-pending : pending_byte (rested x) ≡ false
  unfolding rested pending_byte
  rested-pending = let h = eqb-true (x / 2 % 2) 1 p in ne_eqb ((x - 2) / 2 % 2) 1 (λ e. omega arith)

-- a byte after a removal: its own voxel's is 0; one that may go and touches it is made pending
module _ (x : ℕ) where
  pub still_kept : (e f t : Bool) → kept_byte (cond e 0 (cond ((kept_byte x && f) && t) (woken x) x)) ≡ (kept_byte x && not e)
  unfolding kept_byte
  still_kept true f t = sym (and_zero (kept_byte x))
  still_kept false f t = go ((kept_byte x && f) && t) ∙ sym (and_one (kept_byte x))
    where
      go : (u : Bool) → kept_byte (cond u (woken x) x) ≡ kept_byte x
      go true = woken-kept x
      go false = refl

  pub now-pending : (e f t : Bool)
      → pending_byte (cond e 0 (cond ((kept_byte x && f) && t) (woken x) x)) ≡ ((pending_byte x && not e) || ((kept_byte x && not e) && (f && t)))
  now-pending true f t = unfold pending_byte in sym (ap₂ (λ (p q : Bool). p || (q && (f && t))) (and_zero (pending_byte x)) (and_zero (kept_byte x)))
  now-pending false f t = go (kept_byte x) f t
    where
      waits : pending_byte x ≡ ((pending_byte x && true) || false)
      waits = sym (or-zero (pending_byte x && true) ∙ and_one (pending_byte x))

      go : (k f t : Bool) → pending_byte (cond ((k && f) && t) (woken x) x) ≡ ((pending_byte x && true) || ((k && true) && (f && t)))
      go true true true = woken-pending x ∙ sym (or-one (pending_byte x && true))
      go true true false = waits
      go true false t = waits
      go false f t = waits
