-- What is told of the last removal, over lots of examinations in a row.
use mathlib.Core.Path.{◌≡◌, refl, ap}
use mathlib.Core.Bool.{Bool, true, false}
use mathlib.Core.List.{List}
use Rattle.std.specs.Prelude.{Option, None, Some}
use Prim.Native.Nat.{ℕ, zero, suc, ◌+◌}
use native.Mathlib.Omega.{arith}
use Rattle.rules.specs.declared.Sides.{Sides}
use Rattle.rules.specs.Status.{Progress, latest, counted, is_pending, test_at, first_of, goes, examine, examining, carving}

-- a lot that removed none, and one that removed any
pub latest-none : (earlier removed later : ℕ) → removed ≡ 0 → latest earlier removed later ≡ earlier
latest-none earlier removed later e = ap (λ (n : ℕ). latest earlier n later) e

pub latest-some : (earlier removed later : ℕ) → (removed ≡ 0 → ⊥) → latest earlier removed later ≡ later
latest-some earlier zero later n = absurd (n refl)
latest-some earlier (suc removed) later n = refl

-- three lots
pub latest-assoc : (a m b n c : ℕ) → latest a (m + n) (latest b n c) ≡ latest (latest a m b) n c
latest-assoc a m b zero c = let e : m + 0 ≡ m = omega arith in ap (λ (k : ℕ). latest a k b) e
latest-assoc a m b (suc n) c = let e : m + suc n ≡ suc (m + n) = omega arith in ap (λ (k : ℕ). latest a k c) e

-- one that removed none has no say
pub latest-over : (a b n c : ℕ) → latest a n (latest b n c) ≡ latest a n c
latest-over a b zero c = refl
latest-over a b (suc n) c = refl

-- 6 where none was removed
counted-face : (u : Bool) (face : ℕ) (p : Progress) → latest 6 (counted u face p).removed (counted u face p).face ≡ (counted u face p).face
counted-face true face p = refl
counted-face false face p = latest-over 6 6 p.removed p.face

module _ (s : Sides) (free : ℕ → Bool) (ahead : ℕ → ℕ → Bool) where
  pub carving-face : (limit : ℕ) (status : List ℕ) → let p = carving s free ahead limit status in latest 6 p.removed p.face ≡ p.face
  unfolding carving
  carving-face zero status = refl
  carving-face (suc limit) status = go (first_of s ahead (is_pending status))
    where
      next : Option ℕ → Progress
      next o = examining s free status (λ i. carving s free ahead limit (examine s free status i)) o

      go : (o : Option ℕ) → latest 6 (next o).removed (next o).face ≡ (next o).face
      go None = refl
      go (Some i) = counted-face (goes s free status i) (test_at s status i).face (carving s free ahead limit (examine s free status i))
