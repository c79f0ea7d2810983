-- A call that is done on one input and refused on another neither always refuses nor gives a constant.
use mathlib.Core.Path.{◌≡◌, refl, sym, ◌∙◌}
use mathlib.Core.Bool.{true, true≢false}
use Prim.Native.Nat.{ℕ}
use native.Mathlib.Omega.{arith}
use Rattle.rules.specs.Answer.{Reply, refused, done, is_done, Answers}

pub apart : {A : Type 0} (a : A) (n : ℕ) (c : Reply A) → done a ≡ c → refused n ≡ c → ⊥
apart a n c e f = let z : ◌≡◌ {A = ℕ} 0 1 = cc in omega arith

-- what was asked for, where the reply has it
given : {A : Type 0} (r : Reply A) → is_done r ≡ true → (a : A) × (r ≡ done a)
given (refused n) e = absurd (true≢false (sym e))
given (done a) e = (a, refl)

pub answers : {I A : Type 0} (call : I → Reply A) (i j : I) (n : ℕ) → is_done (call i) ≡ true → call j ≡ refused n → Answers call
answers call i j n e f =
    let r = given (call i) e in
    record { accepts = (i, r); varies = λ c h. apart r.0 n c (sym r.1 ∙ h i) (sym f ∙ h j) }

-- and two that are done would be one answer, where the call were a constant
pub same_answer : {A : Type 0} (a b : A) (c : Reply A) → done a ≡ c → done b ≡ c → a ≡ b
same_answer a b c e f = cc
