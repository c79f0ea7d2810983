-- Whether an entry may go, by what its mark says.
use mathlib.Core.Path.{◌≡◌, ap, sym, ◌∙◌}
use mathlib.Core.Bool.{Bool, true, false, ◌&&◌}
use Prim.Native.Nat.{ℕ, ◌≤◌, ◌<◌}
use borrow.Author.Tests.{lt-ltb, le-ltb}
use Rattle.prelude.proofs.Bools.{and_zero, and_one}
use Rattle.rules.specs.declared.Sides.{Sides}
use Rattle.judging.specs.Judge.{Body, Entry, can_pass, can_open, allows}
use Rattle.tallies.specs.Counts.{entry}

module _ (s : Sides) (S : ℕ → Bool) (T : ℕ) (b : Body) (i : ℕ) where
  abbrev goes : Bool → Bool
  goes opens = allows s S T b (entry opens i)

  pub too_many : (opens : Bool) → opens ≡ true → T ≤ b.opened → false ≡ goes opens
  unfolding allows
  too_many opens o h =
      sym (ap goes o ∙ ap (λ (t : Bool). can_open s S b.kept i && t) (le-ltb b.opened T h) ∙ and_zero (can_open s S b.kept i))

  pub as-opening : (opens : Bool) → opens ≡ true → b.opened < T → (x : Bool) → x ≡ can_open s S b.kept i → x ≡ goes opens
  unfolding allows
  as-opening opens o h x e =
      e ∙ sym (ap goes o ∙ ap (λ (t : Bool). can_open s S b.kept i && t) (lt-ltb b.opened T h) ∙ and_one (can_open s S b.kept i))

  pub as-ordinary : (opens : Bool) → opens ≡ false → (x : Bool) → x ≡ can_pass s S b.kept i → x ≡ goes opens
  unfolding allows
  as-ordinary opens o x e = e ∙ sym (ap goes o)

  -- of the entry that the list has
  pub goes-found : (e : Entry) (opens : Bool) → opens ≡ e.opens → i ≡ e.at → (x t : Bool) → x ≡ goes opens → x ≡ t → allows s S T b e ≡ t
  goes-found e opens o h x t q p = sym (q ∙ (λ j. allows s S T b (entry (o j) (h j)))) ∙ p
