-- What may go is kept and outside S; the rest decides.
use mathlib.Core.Path.{◌≡◌, refl, ap, sym, ◌∙◌}
use mathlib.Core.Bool.{Bool, true, false, not, ◌&&◌}
use mathlib.Core.List.{List}
use Prim.Native.Nat.{ℕ}
use native.Mathlib.Omega.{arith}
use borrow.Author.Tests.{le-leb}
use lib.IntN.{ℤ, pos, negsuc}
use lib.Signed.{le_z}
use mir.Syntax.{w32}
use mir.Val.{SFits, to_z, of_z}
use mir.Facts.{to_z-of_z}
use Rattle.rules.specs.Grid.{is_negative}
use Rattle.prelude.proofs.Bools.{and-true}
use Rattle.rules.specs.Status.{is_kept}
use Rattle.rules.specs.Machine.{is_inside}
use Rattle.watching.specs.Watching.{standing}

-- a distance that is not below 0
pub outside : (z : ℤ) → SFits w32 z → le_z (pos 0) (to_z w32 (of_z w32 z)) ≡ not (is_negative z)
outside z h = ap (le_z (pos 0)) (to_z-of_z h) ∙ go z
  where
    go : (z : ℤ) → le_z (pos 0) z ≡ not (is_negative z)
    go (pos n) = le-leb 0 n (omega arith)
    go (negsuc n) = refl

module _ (dist : List ℤ) (status : List ℕ) (j : ℕ) (x : Bool) (e : x ≡ standing dist status j) where
  pub stands-kept : x ≡ true → is_kept status j ≡ true
  unfolding standing
  stands-kept n = (and-true (is_kept status j) (not (is_inside dist j)) (sym e ∙ n)).0

  module _ (rest : Bool) where
    split : (p q : Bool) → (p && q) && rest ≡ p && (q && rest)
    split true q = refl
    split false q = refl

    asked : x && rest ≡ is_kept status j && (not (is_inside dist j) && rest)
    unfolding standing
    asked = ap (λ (t : Bool). t && rest) e ∙ split (is_kept status j) (not (is_inside dist j))

    pub stands-not : x ≡ false → x ≡ is_kept status j && (not (is_inside dist j) && rest)
    stands-not n = n ∙ sym (ap (λ (t : Bool). t && rest) n) ∙ asked

    pub stands-so : x ≡ true → rest ≡ is_kept status j && (not (is_inside dist j) && rest)
    stands-so n = sym (ap (λ (t : Bool). t && rest) n) ∙ asked
