-- Two distances, as the code reads and tests them: each way through `crossing_at` gives the rule's answer.
use mathlib.Core.Path.{◌≡◌, refl, sym, ap, ap₂, ◌∙◌}
use mathlib.Core.Bool.{Bool, true, false, true≢false}
use Rattle.std.specs.Prelude.{None, Some}
use Prim.Native.Nat.{ℕ}
use lib.IntN.{ℤ, pos, negsuc, nat_abs}
use lib.Signed.{lt_z}
use mir.Syntax.{w32}
use mir.Val.{SFits, to_z, of_z}
use mir.Facts.{to_z-of_z}
use Rattle.prelude.proofs.Signs.{held-negative}
use Rattle.rules.specs.Grid.{Voxel, is_negative}
use Rattle.surface.specs.declared.Point.{Point}
use Rattle.surface.specs.Surface.{next, point_from, crossing_of}

-- ---- by the signs of both

module _ (axis : ℕ) (v : Voxel) where
  pub same_sign : (u w : ℤ) → is_negative u ≡ is_negative w → None ≡ crossing_of axis v u w
  unfolding crossing_of
  same_sign (pos p) (pos q) e = refl
  same_sign (pos p) (negsuc q) e = absurd (true≢false (sym e))
  same_sign (negsuc p) (pos q) e = absurd (true≢false e)
  same_sign (negsuc p) (negsuc q) e = refl

  here-negative : (u w : ℤ) → is_negative u ≡ true → is_negative w ≡ false → Some (point_from axis true v (nat_abs u) (nat_abs w)) ≡ crossing_of axis v u w
  unfolding crossing_of
  here-negative (pos p) w h k = absurd (true≢false (sym h))
  here-negative (negsuc p) (negsuc q) h k = absurd (true≢false k)
  here-negative (negsuc p) (pos q) h k = refl

  there-negative :
      (u w : ℤ)
      → is_negative u ≡ false
      → is_negative w ≡ true
      → Some (point_from axis false (next axis v) (nat_abs w) (nat_abs u)) ≡ crossing_of axis v u w
  unfolding crossing_of
  there-negative (negsuc p) w h k = absurd (true≢false h)
  there-negative (pos q) (pos p) h k = absurd (true≢false (sym k))
  there-negative (pos q) (negsuc p) h k = refl

-- ---- as the machine holds them

abbrev held : ℤ → ℤ
held d = to_z w32 (of_z w32 d)

abbrev Sign : ℤ → Bool → Type 0
Sign d t = lt_z (held d) (pos 0) ≡ t

pub sign : {d : ℤ} {t : Bool} → SFits w32 d → Sign d t → is_negative d ≡ t
sign F e = sym (held-negative F) ∙ e

module _ (axis : ℕ) (v : Voxel) (u w : ℤ) (F : SFits w32 u) (G : SFits w32 w) where
  pub neither : (t : Bool) → Sign u t → Sign w t → None ≡ crossing_of axis v u w
  neither t h k = same_sign axis v u w (sign F h ∙ sym (sign G k))

  pub from-here : (r : Point) → Sign u true → Sign w false → r ≡ point_from axis true v (nat_abs (held u)) (nat_abs (held w)) → Some r ≡ crossing_of axis v u w
  from-here r h k e =
      ap Some (e ∙ ap₂ (λ (x y : ℤ). point_from axis true v (nat_abs x) (nat_abs y)) (to_z-of_z F) (to_z-of_z G))
      ∙ here-negative axis v u w (sign F h) (sign G k)

  -- n is the next voxel, as the code finds it
  pub from_next :
      (n : Voxel) (r : Point)
      → n ≡ next axis v
      → Sign u false
      → Sign w true
      → r ≡ point_from axis false n (nat_abs (held w)) (nat_abs (held u))
      → Some r ≡ crossing_of axis v u w
  from_next n r m h k e =
      ap Some (e ∙ (λ t. point_from axis false (m t) (nat_abs (to_z-of_z G t)) (nat_abs (to_z-of_z F t))))
      ∙ there-negative axis v u w (sign F h) (sign G k)
