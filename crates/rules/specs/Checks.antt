-- A call's checks, in order: each has a number, and fails or holds. The number of the first that fails refuses the call.
use Rattle.std.specs.Prelude.{◌≡◌, Bool, true, false, not, cond, ◌&&◌, List, [], ◌∷◌, ℕ, zero, suc, eqb}

infix 70 ◌when◌
pub record Check : Type 0 where
  pub number : ℕ
  pub fails : Bool

abbrev pub ◌when◌ : ℕ → Bool → Check
n when t = record { number = n; fails = t }

-- the number of the first check that fails, or 0
unfoldable pub first_failing : List Check → ℕ
first_failing [] = 0
first_failing (c ∷ cs) = cond c.fails c.number (first_failing cs)

-- what the number of the first check that fails gives; what the call does where none fails
unfoldable pub unless : {R : Type 0} → List Check → (ℕ → R) → R → R
unless [] refuse after = after
unless (c ∷ cs) refuse after = cond c.fails (refuse c.number) (unless cs refuse after)

-- no check has the number 0, which stands for no refusal
abbrev pub numbered : List Check → Bool
numbered [] = true
numbered (c ∷ cs) = not (eqb c.number 0) && numbered cs

-- every check holds
abbrev pub AllHold : List Check → Type 0
AllHold [] = Unit {0}
AllHold (c ∷ cs) = (c.fails ≡ false) × (AllHold cs)
