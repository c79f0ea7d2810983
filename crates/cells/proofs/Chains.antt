-- Laws of `Linked`: ends, chains put together, turned round and carried over.
use mathlib.Core.Path.{◌≡◌}
use mathlib.Core.Bool.{Bool, true}
use Rattle.cells.specs.Linked.{Linked, stay, step}

module _ {A : Type 0} {member : A → Bool} {joined : A → A → Bool} where
  pub first_member : {x y : A} → Linked member joined x y → member x ≡ true
  first_member (stay m) = m
  first_member (step l j m) = first_member l

  pub last-member : {x y : A} → Linked member joined x y → member y ≡ true
  last-member (stay m) = m
  last-member (step l j m) = m

  pub link : {x y : A} → member x ≡ true → joined x y ≡ true → member y ≡ true → Linked member joined x y
  link m j n = step (stay m) j n

  pub append : {x y z : A} → Linked member joined x y → Linked member joined y z → Linked member joined x z
  append l (stay m) = l
  append l (step r j m) = step (append l r) j m

  -- one more member in front
  pub before : {x y z : A} → member x ≡ true → joined x y ≡ true → Linked member joined y z → Linked member joined x z
  before m j l = append (link m j (first_member l)) l

  pub reverse : ((u v : A) → joined u v ≡ true → joined v u ≡ true) → {x y : A} → Linked member joined x y → Linked member joined y x
  reverse turn (stay m) = stay m
  reverse turn (step {y = y} {z = z} l j m) = before m (turn y z j) (reverse turn l)

  -- what passes from each member to those it is joined to passes along a chain
  pub follow : (P : A → Type 0) → ((u v : A) → P u → joined u v ≡ true → member v ≡ true → P v) → {x y : A} → Linked member joined x y → P x → P y
  follow P pass (stay m) p = p
  follow P pass (step {y = y} {z = z} l j m) p = pass y z (follow P pass l p) j m

-- a chain of one set, mapped into another whose members are joined where the first's are
pub carry : {A B : Type 0} {member : A → Bool} {joined : A → A → Bool} {member' : B → Bool} {joined' : B → B → Bool} (f : A → B)
    → ((u : A) → member u ≡ true → member' (f u) ≡ true)
    → ((u v : A) → member u ≡ true → member v ≡ true → joined u v ≡ true → joined' (f u) (f v) ≡ true)
    → {x y : A} → Linked member joined x y → Linked member' joined' (f x) (f y)
carry f in' on {x} (stay m) = stay (in' x m)
carry f in' on (step {y = y} {z = z} l j m) = step (carry f in' on l) (on y z (last-member l) m j) (in' z m)

-- a chain of a set is one of any larger set
pub widen : {A : Type 0} {member member' : A → Bool} {joined : A → A → Bool} → ((u : A) → member u ≡ true → member' u ≡ true) → {x y : A}
    → Linked member joined x y → Linked member' joined x y
widen more l = carry (λ u. u) more (λ u v m n j. j) l
