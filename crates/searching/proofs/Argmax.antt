-- The greatest key of a stretch without its place, the first stretch that has the greatest key, and the first voxel that has it.
use mathlib.Core.Path.{◌≡◌, refl, sym, ap, ◌∙◌, subst}
use mathlib.Core.Logic.{inl, inr}
use mathlib.Core.Bool.{Bool, true, false, cond, true≢false}
use mathlib.Core.List.{List}
use Prim.Native.Nat.{ℕ, ◌+◌, ◌≤◌, ◌<◌}
use native.Mathlib.Omega.{arith}
use native.Mathlib.Decide.{ℕ_discrete}
use borrow.Author.Tests.{ltb-true, ltb-false}
use lib.Dec.{ltb}
use lib.IntN.{ℤ, pos, negsuc}
use lib.Signed.{lt_z}
use mir.Syntax.{w32}
use mir.Val.{SFits, to_z, of_z}
use mir.Facts.{to_z-of_z}
use Rattle.prelude.proofs.Bools.{two}
use Rattle.rules.specs.Grid.{is_negative}
use Rattle.rules.specs.Marks.{Marked}
use Rattle.searching.specs.declared.Held.{Held}
use Rattle.searching.specs.Argmax.{surface_height, surface_key, height_at, key_at, rank, held_of, Greatest, Holding, Leading}
use Rattle.searching.specs.Argmax.{Span}

-- one voxel of a stretch
pub span-at : {a l first end n i : ℕ} → Span a l first end n → first ≤ i → i < end → Span a l i (i + 1) n
span-at s low high = record { one = s.one; row = s.row; low = omega (arith, s.low); order = omega arith; high = omega (arith, s.high) }

-- the greater of two
abbrev greater : ℤ → ℤ → ℤ
greater x y = cond (lt_z x y) y x

-- ---- ranks

rank_less : (x y : ℤ) → lt_z x y ≡ true → rank x ≤ rank y
rank_less (pos m) (pos n) e = omega (arith, ltb-true m n e)
rank_less (pos m) (negsuc n) e = absurd (true≢false (sym e))
rank_less (negsuc m) y e = omega arith

rank-strict : (x y : ℤ) → lt_z x y ≡ true → 0 < rank y → rank x < rank y
rank-strict (pos m) (pos n) e h = omega (arith, ltb-true m n e)
rank-strict (pos m) (negsuc n) e h = absurd (true≢false (sym e))
rank-strict (negsuc m) (pos n) e h = omega arith
rank-strict (negsuc m) (negsuc n) e h = let z : ⊥ = omega arith in absurd z

rank-rest : (x y : ℤ) → lt_z x y ≡ false → rank y ≤ rank x
rank-rest (pos m) (pos n) e = omega (arith, ltb-false m n e)
rank-rest x (negsuc n) e = omega arith
rank-rest (negsuc m) (pos n) e = absurd (true≢false e)

pub rank-none : (x : ℤ) → is_negative x ≡ true → rank x ≡ 0
rank-none (pos n) e = absurd (true≢false (sym e))
rank-none (negsuc n) e = refl

pub rank-some : (x : ℤ) → is_negative x ≡ false → 0 < rank x
rank-some (pos n) e = omega arith
rank-some (negsuc n) e = absurd (true≢false e)

pub rank_same : (x y : ℤ) → 0 < rank y → rank x ≡ rank y → x ≡ y
rank_same (pos m) (pos n) h e = let q : m ≡ n = omega arith in ap pos q
rank_same (pos m) (negsuc n) h e = let z : ⊥ = omega arith in absurd z
rank_same (negsuc m) y h e = let z : ⊥ = omega arith in absurd z

pub key-is : (m : Marked) (dist : List ℤ) (status : List ℕ) (a l i : ℕ) → key_at m dist status a l i ≡ rank (height_at m dist status a l i)
unfolding key_at
key-is m dist status a l i = refl

pub surface-key-is : (dist : List ℤ) (status : List ℕ) (a l i : ℕ) → surface_key dist status a l i ≡ rank (surface_height dist status a l i)
unfolding surface_key
surface-key-is dist status a l i = refl

-- ---- the higher of two stretches

module _ (best : Held) (height : ℤ) (first end : ℕ) where
  pub keep_taken : lt_z best.height height ≡ true → held_of best height first end ≡ record { height = height; first = first; end = end }
  unfolding held_of
  keep_taken t = ap (λ (u : Bool). cond u (record { height = height; first = first; end = end }) best) t

  pub keep_left : lt_z best.height height ≡ false → held_of best height first end ≡ best
  unfolding held_of
  keep_left t = ap (λ (u : Bool). cond u (record { height = height; first = first; end = end }) best) t

-- ---- the greatest of a stretch, one voxel more at a time

module _ (f : ℕ → ℕ) (first : ℕ) where
  pub greatest-start : (m : ℕ) → m ≡ 0 → Greatest f first first m
  greatest-start m e = record { top = λ j l h. let z : ⊥ = omega arith in absurd z; some = λ h. let z : ⊥ = omega arith in absurd z }

  greatest-taken : (i m : ℕ) → first ≤ i → m ≤ f i → Greatest f first i m → Greatest f first (i + 1) (f i)
  greatest-taken i m l h g =
      record {
        top = λ j k u. elim (ℕ_discrete j i) [ yes e ↦ (let q = ap f e in omega arith) | no n ↦ omega (arith, g.top j k (omega arith)) ];
        some = λ p. (i, l, omega arith, refl);
      }

  greatest-left : (i m : ℕ) → first ≤ i → f i ≤ m → Greatest f first i m → Greatest f first (i + 1) m
  greatest-left i m l h g =
      record {
        top = λ j k u. elim (ℕ_discrete j i) [ yes e ↦ (let q = ap f e in omega arith) | no n ↦ g.top j k (omega arith) ];
        some = λ p. let w = g.some p in (w.0, w.1, omega (arith, w.2), w.3);
      }

  pub greatest-step : (i : ℕ) (x y : ℤ) → first ≤ i → Greatest f first i (rank x) → f i ≡ rank y → Greatest f first (i + 1) (rank (greater x y))
  greatest-step i x y l g e =
      elim (two (lt_z x y)) [
        | inl t ↦
            subst (Greatest f first (i + 1)) (e ∙ ap (λ (u : Bool). rank (cond u y x)) (sym t))
            (greatest-taken i (rank x) l (let h = rank_less x y t in omega arith) g)
        | inr t ↦
            subst (Greatest f first (i + 1)) (ap (λ (u : Bool). rank (cond u y x)) (sym t))
            (greatest-left i (rank x) l (let h = rank-rest x y t in omega arith) g)
      ]

  pub greatest-more : (i : ℕ) (x y r : ℤ) → first ≤ i → Greatest f first i (rank x) → f i ≡ rank y → r ≡ greater x y → Greatest f first (i + 1) (rank r)
  greatest-more i x y r l g e q = subst (λ (z : ℤ). Greatest f first (i + 1) (rank z)) (sym q) (greatest-step i x y l g e)

  -- ---- the first stretch that has the greatest, one stretch more at a time

  pub holding-start : (h : Held) → rank h.height ≡ 0 → h.first ≡ first → h.end ≡ first → Holding f first first h
  holding-start h e a b =
      record {
        low = omega arith;
        span = omega arith;
        high = omega arith;
        greatest = record { top = λ j l u. let z : ⊥ = omega arith in absurd z; some = λ p. let z : ⊥ = omega arith in absurd z };
        top = λ j l u. let z : ⊥ = omega arith in absurd z;
        before = λ p j l u. let z : ⊥ = omega arith in absurd z;
      }

  module _ (i e : ℕ) (height : ℤ) (best : Held) (l : first ≤ i) (k : i ≤ e) (g : Holding f first i best) (m : Greatest f i e (rank height)) where
    holding-taken : lt_z best.height height ≡ true → Holding f first e (record { height = height; first = i; end = e })
    holding-taken t =
        record {
          low = l;
          span = k;
          high = omega arith;
          greatest = m;
          top = λ j a u. elim (two (ltb j i)) [
            | inl q ↦ omega (arith, g.top j a (ltb-true j i q), rank_less best.height height t)
            | inr q ↦ m.top j (ltb-false j i q) u
          ];
          before = λ p j a u. omega (arith, g.top j a u, rank-strict best.height height t p);
        }

    holding-left : rank height ≤ rank best.height → Holding f first e best
    holding-left h =
        record {
          low = g.low;
          span = g.span;
          high = omega (arith, g.high);
          greatest = g.greatest;
          top = λ j a u. elim (two (ltb j i)) [
            | inl q ↦ g.top j a (ltb-true j i q)
            | inr q ↦ omega (arith, m.top j (ltb-false j i q) u)
          ];
          before = g.before;
        }

    pub holding-step : Holding f first e (held_of best height i e)
    unfolding held_of
    holding-step =
        elim (two (lt_z best.height height)) [
          | inl t ↦
              subst (Holding f first e) (ap (λ (u : Bool). cond u (record { height = height; first = i; end = e }) best) (sym t))
              (holding-taken t)
          | inr t ↦
              subst (Holding f first e) (ap (λ (u : Bool). cond u (record { height = height; first = i; end = e }) best) (sym t))
              (holding-left (rank-rest best.height height t))
        ]

  -- ---- the first voxel of that stretch is the first of all

  module _ (end : ℕ) (h : Held) (r : ℕ) (g : Holding f first end h) (p : 0 < rank h.height) (m : Leading f h.first h.end (rank h.height) r) where
    pub leading-all : Leading f first end (rank h.height) r
    leading-all =
        record {
          low = omega (arith, g.low, m.low);
          high = omega (arith, g.high, m.high);
          own = m.own;
          earliest = λ j a u. elim (two (ltb j h.first)) [
            | inl t ↦ g.before p j a (ltb-true j h.first t)
            | inr t ↦ m.earliest j (ltb-false j h.first t) u
          ];
        }

-- ---- the search of a stretch: no voxel before i has the key

pub record Skipped (f : ℕ → ℕ) (first i m : ℕ) : Type 0 where
  pub low : first ≤ i
  pub others : (j : ℕ) → first ≤ j → j < i → f j ≡ m → ⊥

module _ (f : ℕ → ℕ) (first end m : ℕ) (g : Greatest f first end m) (p : 0 < m) where
  pub skipped-start : Skipped f first first m
  skipped-start = record { low = omega arith; others = λ j l h. let z : ⊥ = omega arith in absurd z }

  pub skipped-step : (i : ℕ) → Skipped f first i m → (f i ≡ m → ⊥) → Skipped f first (i + 1) m
  skipped-step i s n =
      record {
        low = omega (arith, s.low);
        others = λ j l h. elim (ℕ_discrete j i) [ yes e ↦ (λ q. n (ap f (sym e) ∙ q)) | no k ↦ s.others j l (omega arith) ];
      }

  pub skipped-found : (i : ℕ) → Skipped f first i m → i < end → f i ≡ m → Leading f first end m i
  skipped-found i s h e =
      record {
        low = s.low;
        high = h;
        own = e;
        earliest =
            λ j l u.
            (let t = g.top j l (omega arith) in
            elim (ℕ_discrete (f j) m) [ yes q ↦ absurd (s.others j l u q) | no n ↦ omega arith ]);
      }

  -- by the height that the machine compares
  module _ (x y z : ℤ) (i : ℕ) (e : m ≡ rank z) (fx : SFits w32 x) (fz : SFits w32 z) (own : x ≡ y) (k : f i ≡ rank y) where
    pub skipped-other : Skipped f first i m → (of_z w32 x ≡ of_z w32 z → ⊥) → Skipped f first (i + 1) m
    skipped-other s n =
        skipped-step i s
        (λ q. n (ap (of_z w32) (own ∙ rank_same y z (let h : 0 < rank z = omega arith in h) (sym k ∙ q ∙ e))))

    pub skipped-same : Skipped f first i m → i < end → of_z w32 x ≡ of_z w32 z → Leading f first end m i
    skipped-same s h q =
        skipped-found i s h (k ∙ ap rank (sym own ∙ sym (to_z-of_z fx) ∙ ap (to_z w32) q ∙ to_z-of_z fz) ∙ sym e)

  pub skipped-all : (i : ℕ) → Skipped f first i m → end ≤ i → ⊥
  skipped-all i s h = let w = g.some p in s.others w.0 w.1 (let k = w.2 in omega arith) w.3
