-- Linked: by a chain of members of a set, each joined to the next.
use Rattle.std.specs.Prelude.{◌≡◌, Bool, true}

pub data Linked {A : Type 0} (member : A → Bool) (joined : A → A → Bool) (x : A) : A → Type 0 where
  stay : member x ≡ true → Linked member joined x x
  step : {y z : A} → Linked member joined x y → joined y z ≡ true → member z ≡ true → Linked member joined x z

-- any two members are linked
abbrev pub OnePiece : {A : Type 0} → (A → Bool) → (A → A → Bool) → Type 0
OnePiece member joined = (x y : _) → member x ≡ true → member y ≡ true → Linked member joined x y
