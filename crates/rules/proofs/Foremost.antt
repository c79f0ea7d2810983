-- The first voxel of those that a test finds: the choice of `first_of`, and no other.
use mathlib.Core.Path.{◌≡◌, refl, ap, sym, ◌∙◌, subst}
use mathlib.Core.Logic.{inl, inr}
use mathlib.Core.Bool.{Bool, true, false, not, cond, ◌&&◌, ◌||◌, true≢false}
use mathlib.Core.List.{List, [], ◌∷◌}
use Rattle.std.specs.Prelude.{Option, None, Some}
use Prim.Native.Nat.{ℕ, zero, suc, ◌<◌}
use native.Mathlib.Omega.{arith}
use native.Mathlib.Decide.{dec_lt}
use lib.IntN.{ℤ, pos, negsuc}
use lib.Signed.{lt_z}
use borrow.Author.Tests.{ltb-true, ltb-false, le-ltb}
use Rattle.cells.specs.Groups.{cons_if, filter}
use Rattle.prelude.proofs.Bools.{two, not-both}
use Rattle.prelude.proofs.Lists.{Mem, here, there, mem-cons, filter-mem, mem-filter}
use Rattle.cells.proofs.Groups.{mem-none}
use Rattle.rules.specs.declared.Sides.{Sides}
use Rattle.rules.specs.Grid.{size, range, voxels, distance_at}
use Rattle.rules.specs.Status.{is_pending, prefer, foremost, first_of}
use Rattle.rules.specs.Machine.{farther, sooner}
use Rattle.rules.specs.Choice.{Order, Foremost, FartherIsOrder, SoonerIsOrder, FirstIsForemost, NoneIsFirst, HurriedFirst}
use Rattle.prelude.proofs.Ranges.{range-mem, mem-range}

-- ---- the order of distances

pub lt_z-self : (a : ℤ) → lt_z a a ≡ false
lt_z-self (pos a) = le-ltb a a (omega arith)
lt_z-self (negsuc a) = le-ltb a a (omega arith)

pub lt_z-turn : (a b : ℤ) → lt_z a b ≡ true → lt_z b a ≡ false
lt_z-turn (pos a) (pos b) e = le-ltb b a (omega (arith, ltb-true a b e))
lt_z-turn (pos a) (negsuc b) e = absurd (true≢false (sym e))
lt_z-turn (negsuc a) (pos b) e = refl
lt_z-turn (negsuc a) (negsuc b) e = le-ltb a b (omega (arith, ltb-true b a e))

pub lt_z-not : (a b c : ℤ) → lt_z a b ≡ false → lt_z b c ≡ false → lt_z a c ≡ false
lt_z-not (pos a) (pos b) (pos c) e f = le-ltb a c (omega (arith, ltb-false a b e, ltb-false b c f))
lt_z-not (pos a) b (negsuc c) e f = refl
lt_z-not (pos a) (negsuc b) (pos c) e f = absurd (true≢false f)
lt_z-not (negsuc a) (pos b) c e f = absurd (true≢false e)
lt_z-not (negsuc a) (negsuc b) (pos c) e f = absurd (true≢false f)
lt_z-not (negsuc a) (negsuc b) (negsuc c) e f = le-ltb c a (omega (arith, ltb-false b a e, ltb-false c b f))

module _ (dist : List ℤ) where
  pub farther-self : (i : ℕ) → farther dist i i ≡ false
  unfolding farther
  farther-self i = lt_z-self (distance_at dist i)

  pub farther-turn : (i j : ℕ) → farther dist i j ≡ true → farther dist j i ≡ false
  unfolding farther
  farther-turn i j e = lt_z-turn (distance_at dist j) (distance_at dist i) e

  pub farther-not : (i j k : ℕ) → farther dist i j ≡ false → farther dist j k ≡ false → farther dist i k ≡ false
  unfolding farther
  farther-not i j k e f = lt_z-not (distance_at dist k) (distance_at dist j) (distance_at dist i) f e

pub farther-order : FartherIsOrder
farther-order dist = record { self = farther-self dist; turn = farther-turn dist; behind = farther-not dist }

-- ---- some before all others, and among equals by another order: h and k say who is one of them, f whether the first is ahead by the other order

abbrev before : (h k f : Bool) → Bool
before h k f = cond h (not k || f) (not k && f)

before_self : (h f : Bool) → f ≡ false → before h h f ≡ false
before_self true f e = e
before_self false f e = e

before-turn : (h k f b : Bool) → (f ≡ true → b ≡ false) → before h k f ≡ true → before k h b ≡ false
before-turn true true f b t e = t e
before-turn true false f b t e = refl
before-turn false true f b t e = absurd (true≢false (sym e))
before-turn false false f b t e = t e

before-not : (h k l f g c : Bool) → (f ≡ false → g ≡ false → c ≡ false) → before h k f ≡ false → before k l g ≡ false → before h l c ≡ false
before-not true true true f g c t e q = t e q
before-not true true false f g c t e q = absurd (true≢false q)
before-not true false l f g c t e q = absurd (true≢false e)
before-not false k true f g c t e q = refl
before-not false true false f g c t e q = absurd (true≢false q)
before-not false false false f g c t e q = t e q

before-first : (h k f : Bool) → before k h f ≡ false → k ≡ true → h ≡ true
before-first true k f e q = refl
before-first false true f e q = absurd (true≢false e)
before-first false false f e q = q

pub sooner-order : SoonerIsOrder
unfolding sooner
sooner-order m dist =
    record {
      self = λ i. before_self (m.hurried i) (farther dist i i) (farther-self dist i);
      turn = λ i j. before-turn (m.hurried i) (m.hurried j) (farther dist i j) (farther dist j i) (farther-turn dist i j);
      behind = λ i j k.
          before-not (m.hurried i) (m.hurried j) (m.hurried k) (farther dist i j) (farther dist j k) (farther dist i k) (farther-not dist i j k);
    }

-- ---- lists whose numbers rise

abbrev pub Rising : List ℕ → Type 0
Rising [] = Unit {0}
Rising (x ∷ xs) = ((y : ℕ) → Mem y xs → x < y) × (Rising xs)

pub range-rising : (k n : ℕ) → Rising (range k n)
unfolding range
range-rising k zero = tt
range-rising k (suc n) = (λ y m. (range-mem (suc k) n y m).0, range-rising (suc k) n)

pub filter-rising : (p : ℕ → Bool) (xs : List ℕ) → Rising xs → Rising (filter p xs)
unfolding filter
filter-rising p [] r = tt
filter-rising p (x ∷ xs) r = go (p x) (filter-rising p xs r.1)
  where
    go : (t : Bool) → Rising (filter p xs) → Rising (cons_if t x (filter p xs))
    go true q = (λ y m. r.0 y (filter-mem p xs y m).0, q)
    go false q = q

-- ---- the first of a list

record First (ahead : ℕ → ℕ → Bool) (xs : List ℕ) (i : ℕ) : Type 0 where
  listed : Mem i xs
  farthest : (j : ℕ) → Mem j xs → ahead j i ≡ false
  earliest : (j : ℕ) → Mem j xs → j < i → ahead i j ≡ true

some_inj : (i j : ℕ) → Some i ≡ Some j → i ≡ j
some_inj i j e = cc

some-none : (i : ℕ) → Some i ≡ None → ⊥
some-none i e = let z : ◌≡◌ {A = ℕ} 0 1 = cc in omega arith

module _ (ahead : ℕ → ℕ → Bool) where
  foremost-none : (xs : List ℕ) → foremost ahead xs ≡ None → (i : ℕ) → Mem i xs → ⊥
  unfolding foremost prefer
  foremost-none [] e i m = mem-none m
  foremost-none (x ∷ xs) e i m = go (foremost ahead xs) e
    where
      pick : (j : ℕ) (t : Bool) → cond t (Some j) (Some x) ≡ None → ⊥
      pick j true e = some-none j e
      pick j false e = some-none x e

      go : (o : Option ℕ) → prefer ahead x o ≡ None → ⊥
      go None e = some-none x e
      go (Some j) e = pick j (ahead j x) e

module _ (ahead : ℕ → ℕ → Bool) (order : Order ahead) where
  foremost-first : (xs : List ℕ) → Rising xs → (i : ℕ) → foremost ahead xs ≡ Some i → First ahead xs i
  unfolding foremost prefer
  foremost-first [] r i e = absurd (some-none i (sym e))
  foremost-first (x ∷ xs) r i e = go (foremost ahead xs) refl (λ j q. foremost-first xs r.1 j q) e
    where
      alone : ((y : ℕ) → Mem y xs → ahead y x ≡ false) → First ahead (x ∷ xs) x
      alone h =
          record {
            listed = here;
            farthest = λ y m. elim (mem-cons m) [ inl q ↦ ap (λ (z : ℕ). ahead z x) q ∙ order.self x | inr n ↦ h y n ];
            earliest = λ y m l. (let z : ⊥ = elim (mem-cons m) [ inl q ↦ omega arith | inr n ↦ (let k = r.0 y n in omega arith) ] in absurd z);
          }

      pick : (j : ℕ) (t : Bool) → ahead j x ≡ t → First ahead xs j → cond t (Some j) (Some x) ≡ Some i → First ahead (x ∷ xs) i
      pick j true f q e =
          subst (λ (k : ℕ). First ahead (x ∷ xs) k) (some_inj j i e)
          (record {
            listed = there q.listed;
            farthest = λ y m. elim (mem-cons m) [ inl s ↦ ap (λ (z : ℕ). ahead z j) s ∙ order.turn j x f | inr n ↦ q.farthest y n ];
            earliest = λ y m l. elim (mem-cons m) [ inl s ↦ ap (λ (z : ℕ). ahead j z) s ∙ f | inr n ↦ q.earliest y n l ];
          })
      pick j false f q e =
          subst (λ (k : ℕ). First ahead (x ∷ xs) k) (some_inj x i e) (alone (λ y m. order.behind y j x (q.farthest y m) f))

      go : (o : Option ℕ) → foremost ahead xs ≡ o → ((j : ℕ) → foremost ahead xs ≡ Some j → First ahead xs j)
          → prefer ahead x o ≡ Some i → First ahead (x ∷ xs) i
      go None f ih e = subst (λ (k : ℕ). First ahead (x ∷ xs) k) (some_inj x i e) (alone (λ y m. absurd (foremost-none ahead xs f y m)))
      go (Some j) f ih e = pick j (ahead j x) refl (ih j f) e

-- ---- the first of the voxels

module _ (s : Sides) (ahead : ℕ → ℕ → Bool) (p : ℕ → Bool) where
  listed : (i : ℕ) → i < size s → p i ≡ true → Mem i (filter p (voxels s))
  unfolding voxels
  listed i h e = mem-filter p (range 0 (size s)) i (mem-range 0 (size s) i (omega arith) (omega arith)) e

  voxel-listed : (i : ℕ) → Mem i (filter p (voxels s)) → (i < size s) × (p i ≡ true)
  unfolding voxels
  voxel-listed i m =
      let r = filter-mem p (range 0 (size s)) i m in
      let h = range-mem 0 (size s) i r.0 in
      (omega arith, r.1)

  pub first-none : first_of s ahead p ≡ None → (i : ℕ) → i < size s → p i ≡ false
  unfolding first_of
  first-none e i h = elim (two (p i)) [ inl t ↦ absurd (foremost-none ahead (filter p (voxels s)) e i (listed i h t)) | inr f ↦ f ]

module _ (s : Sides) (ahead : ℕ → ℕ → Bool) (order : Order ahead) (p : ℕ → Bool) where
  pub first-foremost : (i : ℕ) → first_of s ahead p ≡ Some i → Foremost s ahead p i
  unfolding first_of voxels
  first-foremost i e =
      let n : ℕ = size s in
      let f = foremost-first ahead order (filter p (range 0 n)) (filter-rising p (range 0 n) (range-rising 0 n)) i e in
      let m = voxel-listed s ahead p i f.listed in
      record {
        below = m.0;
        chosen = m.1;
        farthest = λ j h q. f.farthest j (listed s ahead p j h q);
        earliest = λ j h q. (let k : j < size s = omega (arith, m.0) in f.earliest j (listed s ahead p j k q) h);
      }

  -- there is one first voxel only
  pub foremost-unique : (i j : ℕ) → Foremost s ahead p i → Foremost s ahead p j → i ≡ j
  foremost-unique i j f k = go (dec_lt i j) (dec_lt j i)
    where
      never : (i j : ℕ) → Foremost s ahead p i → Foremost s ahead p j → i < j → ⊥
      never i j f k h = not-both (ahead j i) (k.earliest i h f.chosen) (f.farthest j k.below k.chosen)

      go : Dec (i < j) → Dec (j < i) → i ≡ j
      go (yes h) d = absurd (never i j f k h)
      go (no h) (yes l) = absurd (never j i k f l)
      go (no h) (no l) = omega arith

  pub none_first : ((i : ℕ) → i < size s → p i ≡ false) → first_of s ahead p ≡ None
  none_first h = go (first_of s ahead p) refl
    where
      go : (o : Option ℕ) → first_of s ahead p ≡ o → o ≡ None
      go None e = refl
      go (Some i) e = let f = first-foremost i e in not-both (p i) f.chosen (h i f.below)

  pub foremost-first-of : (i : ℕ) → Foremost s ahead p i → first_of s ahead p ≡ Some i
  foremost-first-of i f = go (first_of s ahead p) refl
    where
      go : (o : Option ℕ) → first_of s ahead p ≡ o → o ≡ Some i
      go None e = not-both (p i) f.chosen (first-none s ahead p e i f.below)
      go (Some j) e = ap Some (foremost-unique j i (first-foremost j e) f)

pub first-is-foremost : FirstIsForemost
first-is-foremost s ahead order p i = (first-foremost s ahead order p i, foremost-first-of s ahead order p i)

none-first-any : (s : Sides) (ahead : ℕ → ℕ → Bool) (p : ℕ → Bool) → ((i : ℕ) → i < size s → p i ≡ false) → first_of s ahead p ≡ None
unfolding first_of
none-first-any s ahead p h = ap (foremost ahead) (nothing (filter p (voxels s)) unlisted) ∙ unfold foremost in refl
  where
    unlisted : (i : ℕ) → Mem i (filter p (voxels s)) → ⊥
    unlisted i m = let r = voxel-listed s ahead p i m in not-both (p i) r.1 (h i r.0)

    nothing : (xs : List ℕ) → ((i : ℕ) → Mem i xs → ⊥) → xs ≡ []
    nothing [] n = refl
    nothing (x ∷ xs) n = absurd (n x here)

pub none-is-first : NoneIsFirst
none-is-first s ahead p = (first-none s ahead p, none-first-any s ahead p)

pub hurried-first : HurriedFirst
unfolding sooner
hurried-first s m dist status i e j h p q =
    before-first (m.hurried i) (m.hurried j) (farther dist j i)
    ((first-foremost s (sooner m dist) (sooner-order m dist) (is_pending status) i e).farthest j h p) q
