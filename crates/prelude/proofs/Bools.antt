-- Laws of Boolean tests.
use mathlib.Core.Path.{◌≡◌, refl, sym, ◌∙◌}
use mathlib.Core.Logic.{◌⊎◌, inl, inr}
use mathlib.Core.Bool.{Bool, true, false, not, ◌&&◌, ◌||◌, true≢false}

pub and-true : (p q : Bool) → (p && q) ≡ true → (p ≡ true) × (q ≡ true)
and-true true true e = (refl, refl)
and-true true false e = absurd (true≢false (sym e))
and-true false q e = absurd (true≢false (sym e))

pub true-and : (p q : Bool) → p ≡ true → q ≡ true → (p && q) ≡ true
true-and true q e f = f
true-and false q e f = e

pub and-false : (p q : Bool) → (p && q) ≡ false → (p ≡ false) ⊎ (q ≡ false)
and-false true q e = inr e
and-false false q e = inl refl

pub or-true : (p q : Bool) → (p || q) ≡ true → (p ≡ true) ⊎ (q ≡ true)
or-true true q e = inl refl
or-true false q e = inr e

pub true-or : (p q : Bool) → (p ≡ true) ⊎ (q ≡ true) → (p || q) ≡ true
true-or true q h = refl
true-or false q (inl e) = absurd (true≢false (sym e))
true-or false q (inr e) = e

pub or-false : (p q : Bool) → (p || q) ≡ false → (p ≡ false) × (q ≡ false)
or-false true q e = absurd (true≢false e)
or-false false true e = absurd (true≢false e)
or-false false false e = (refl, refl)

pub and_zero : (p : Bool) → (p && false) ≡ false
and_zero true = refl
and_zero false = refl

pub and_one : (p : Bool) → (p && true) ≡ p
and_one true = refl
and_one false = refl

pub or-zero : (p : Bool) → (p || false) ≡ p
or-zero true = refl
or-zero false = refl

pub or-one : (p : Bool) → (p || true) ≡ true
or-one true = refl
or-one false = refl

pub and_comm : (p q : Bool) → (p && q) ≡ (q && p)
and_comm true true = refl
and_comm true false = refl
and_comm false true = refl
and_comm false false = refl

pub or_assoc : (p q r : Bool) → ((p || q) || r) ≡ (p || (q || r))
or_assoc true q r = refl
or_assoc false q r = refl

pub two : (p : Bool) → (p ≡ true) ⊎ (p ≡ false)
two true = inl refl
two false = inr refl

pub not-both : {A : Type 0} (p : Bool) → p ≡ true → p ≡ false → A
not-both p e f = absurd (true≢false (sym e ∙ f))

pub not-true : (p : Bool) → not p ≡ true → p ≡ false
not-true true e = sym e
not-true false e = refl

pub not-false : (p : Bool) → not p ≡ false → p ≡ true
not-false true e = refl
not-false false e = sym e

-- two tests are equal if each holds where the other does
pub both_ways : (p q : Bool) → (p ≡ true → q ≡ true) → (q ≡ true → p ≡ true) → p ≡ q
both_ways true q f g = sym (f refl)
both_ways false true f g = g refl
both_ways false false f g = refl
