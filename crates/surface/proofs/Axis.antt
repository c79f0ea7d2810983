-- What stands along an axis, as the code branches on it; a point by its three doubles.
use mathlib.Core.Path.{◌≡◌, refl, sym, ap, ◌∙◌}
use mathlib.Core.Bool.{Bool}
use Prim.Native.Nat.{ℕ, zero, suc, ◌≤◌}
use Rattle.rules.specs.Grid.{Voxel}
use Rattle.surface.specs.declared.Point.{Point}
use Rattle.surface.specs.Surface.{along, whole, moved, point_from}

module _ {A : Type 0} (axis : ℕ) (x y z : A) where
  pub along-z : (axis ≡ 0 → ⊥) → (axis ≡ 1 → ⊥) → z ≡ along axis x y z
  along-z f g = go axis f g
    where
      go : (n : ℕ) → (n ≡ 0 → ⊥) → (n ≡ 1 → ⊥) → z ≡ along n x y z
      go zero f g = absurd (f refl)
      go (suc zero) f g = absurd (g refl)
      go (suc (suc n)) f g = refl

pub along-le : (axis x y z n : ℕ) → x ≤ n → y ≤ n → z ≤ n → along axis x y z ≤ n
along-le zero x y z n a b c = a
along-le (suc zero) x y z n a b c = b
along-le (suc (suc k)) x y z n a b c = c

-- ---- a point by its three doubles, as the code changes it along the axis

point-eq : (r o : Point) → r.x ≡ o.x → r.y ≡ o.y → r.z ≡ o.z → r ≡ o
point-eq r o e f g = λ i. record { x = e i; y = f i; z = g i }

module _ (axis : ℕ) (higher : Bool) (v : Voxel) (p q : ℕ) (r : Point) where
  pub point-x : axis ≡ 0 → r.x ≡ moved higher v.x p q → r.y ≡ whole v.y → r.z ≡ whole v.z → r ≡ point_from axis higher v p q
  unfolding point_from
  point-x h e f g = point-eq r (point_from 0 higher v p q) e f g ∙ ap (λ (n : ℕ). point_from n higher v p q) (sym h)

  pub point-y : axis ≡ 1 → r.x ≡ whole v.x → r.y ≡ moved higher v.y p q → r.z ≡ whole v.z → r ≡ point_from axis higher v p q
  unfolding point_from
  point-y h e f g = point-eq r (point_from 1 higher v p q) e f g ∙ ap (λ (n : ℕ). point_from n higher v p q) (sym h)

  pub point-z :
      (axis ≡ 0 → ⊥)
      → (axis ≡ 1 → ⊥)
      → r.x ≡ whole v.x
      → r.y ≡ whole v.y
      → r.z ≡ moved higher v.z p q
      → r ≡ point_from axis higher v p q
  unfolding point_from
  point-z h k e f g =
      point-eq r (point_from axis higher v p q)
      (e ∙ along-z axis (moved higher v.x p q) (whole v.x) (whole v.x) h k)
      (f ∙ along-z axis (whole v.y) (moved higher v.y p q) (whole v.y) h k)
      (g ∙ along-z axis (whole v.z) (whole v.z) (moved higher v.z p q) h k)
