-- The order record and the queue: no place stands in them twice, and whoever waits moves up with each service of another.
use mathlib.Core.Path.{◌≡◌, refl, ap, ap₂, sym, ◌∙◌, subst}
use mathlib.Core.Logic.{◌⊎◌, inl, inr, ◌≢◌}
use mathlib.Core.Bool.{Bool, true, false, not, cond, ◌&&◌, ◌||◌}
use mathlib.Core.List.{List, [], ◌∷◌, ◌++◌, append_assoc}
use Rattle.std.specs.Prelude.{None, Some}
use Prim.Native.Nat.{ℕ, suc, ◌≤◌, ◌<◌}
use native.Mathlib.Omega.{arith}
use lib.Dec.{leb, ltb, eqb}
use lib.ListN.{length, length-append}
use borrow.Author.Tests.{eq-eqb, ne_eqb, leb-false, lt-leb, le-ltb}
use Rattle.cells.specs.Groups.{any, filter, cons_if}
use Rattle.prelude.proofs.Bools.{or-false, two, not-both, not-true}
use Rattle.prelude.proofs.Lists.{Mem, here, there, mem-cons, mem-left, mem-right, mem-split, any_append, any_false, false-any}
use Rattle.prelude.proofs.Lists.{filter-mem, mem-filter, filter-ext, filter-append}
use Rattle.prelude.proofs.Ranges.{range-mem, mem-range, length-range}
use Rattle.cells.proofs.Groups.{mem-none}
use Rattle.cells.proofs.GroupsAre.{among-filter}
use Rattle.cells.proofs.GroupsSize.{Distinct, distinct_append, append-distinct, distinct_filter, distinct-le}
use Rattle.rules.specs.Grid.{range, is_in}
use Rattle.rules.proofs.Foremost.{range-rising, filter-rising}
use Rattle.rules.proofs.Inside.{rising-distinct, is_in-mem, mem-is_in}
use Rattle.office.specs.Order.{names_twice, unfit_order, queue, first_waiting, others, served_last}

-- ---- an order record that is fit: no place twice, and none past the last grid

pub record FitOrder (n : ℕ) (order : List ℕ) : Type 0 where
  pub once : Distinct order
  pub below : (p : ℕ) → Mem p order → p < n

not_in : (xs : List ℕ) (p : ℕ) → is_in xs p ≡ false → Mem p xs → ⊥
not_in xs p e m = not-both (is_in xs p) (mem-is_in xs p m) e

in-not : (xs : List ℕ) (p : ℕ) → (Mem p xs → ⊥) → is_in xs p ≡ false
in-not xs p f = elim (two (is_in xs p)) [ inl e ↦ absurd (f (is_in-mem xs p e)) | inr e ↦ e ]

named-once : (xs : List ℕ) → names_twice xs ≡ false → Distinct xs
named-once [] e = tt
named-once (x ∷ xs) e = let r = or-false (is_in xs x) (names_twice xs) e in (not_in xs x r.0, named-once xs r.1)

once-named : (xs : List ℕ) → Distinct xs → names_twice xs ≡ false
once-named [] d = refl
once-named (x ∷ xs) d = ap₂ ◌||◌ (in-not xs x d.0) (once-named xs d.1)

in-range : (n p : ℕ) → p < n → Mem p (range 0 n)
in-range n p h = mem-range 0 n p (omega arith) (omega arith)

pub fit-order : (n : ℕ) (order : List ℕ) → unfit_order n order ≡ false → FitOrder n order
unfolding unfit_order
fit-order n order e =
    let r = or-false (names_twice order) (any (leb n) order) (or-false (ltb n (length order)) _ e).1 in
    record { once = named-once order r.0; below = λ p m. leb-false n p (any_false (leb n) order r.1 p m) }

module _ (n : ℕ) (order : List ℕ) (fit : FitOrder n order) where
  -- it is not longer than there are grids
  pub few-below : length order ≤ n
  few-below = omega (arith, distinct-le order (range 0 n) fit.once (λ p m. in-range n p (fit.below p m)), length-range 0 n)

  pub order-fit : unfit_order n order ≡ false
  unfolding unfit_order
  order-fit =
      ap₂ ◌||◌ (le-ltb n (length order) few-below)
      (ap₂ ◌||◌ (once-named order fit.once) (false-any (leb n) order (λ p m. lt-leb n p (fit.below p m))))

-- ---- a place taken out of a list

module _ (p : ℕ) where
  others-mem : (xs : List ℕ) (q : ℕ) → Mem q (others p xs) → (Mem q xs) × (q ≢ p)
  unfolding others
  others-mem xs q m =
      let r = filter-mem (λ q. not (eqb q p)) xs q m in
      (r.0, λ e. not-both (eqb q p) (eq-eqb q p e) (not-true (eqb q p) r.1))

  once-others : (xs : List ℕ) → Distinct xs → Distinct (p ∷ others p xs)
  unfolding others
  once-others xs d = (λ m. (others-mem xs p m).1 refl, distinct_filter (λ q. not (eqb q p)) xs d)

  others-lt : (xs ys : List ℕ) → Distinct xs → Mem p ys → ((q : ℕ) → Mem q xs → Mem q ys) → length (others p xs) < length ys
  others-lt xs ys d m sub = distinct-le (p ∷ others p xs) ys (once-others xs d) each
    where
      each : (q : ℕ) → Mem q (p ∷ others p xs) → Mem q ys
      each q here = m
      each q (there o) = sub q (others-mem xs q o).0

-- ---- a place that is served becomes the last of the order record

module _ (n p : ℕ) (order : List ℕ) (fit : FitOrder n order) (h : p < n) where
  -- the others leave room for it
  pub room_for : length (others p order) < n
  room_for =
      omega (arith, others-lt p order (range 0 n) fit.once (in-range n p h) (λ q m. in-range n q (fit.below q m)), length-range 0 n)

  pub fit-served : FitOrder n (served_last p order)
  unfolding served_last
  fit-served =
      record {
        once = distinct_append (others p order) (p ∷ []) (once-others p order fit.once).1 (λ m. mem-none m, tt) apart;
        below = λ q m. elim (mem-split q (others p order) (p ∷ []) m) [ inl o ↦ fit.below q (others-mem p order q o).0 | inr o ↦ last q o ];
      }
    where
      apart : (q : ℕ) → Mem q (others p order) → Mem q (p ∷ []) → ⊥
      apart q m here = (others-mem p order p m).1 refl
      apart q m (there z) = mem-none z

      last : (q : ℕ) → Mem q (p ∷ []) → q < n
      last q here = h
      last q (there z) = absurd (mem-none z)

-- ---- the queue holds every place once

module _ (n : ℕ) (order : List ℕ) where
  abbrev never : List ℕ
  never = filter (λ p. not (is_in order p)) (range 0 n)

  pub in-queue : (p : ℕ) → p < n → Mem p (queue n order)
  unfolding queue
  in-queue p h =
      elim (two (is_in order p)) [
        | inl e ↦ mem-right p never order (is_in-mem order p e)
        | inr e ↦ mem-left p never order (mem-filter (λ q. not (is_in order q)) (range 0 n) p (in-range n p h) (ap not e))
      ]

  pub queue-fit : FitOrder n order → FitOrder n (queue n order)
  unfolding queue
  queue-fit fit =
      record {
        once =
            distinct_append never order (rising-distinct never (filter-rising (λ q. not (is_in order q)) (range 0 n) (range-rising 0 n))) fit.once
            (λ p m. not_in order p (not-true (is_in order p) (filter-mem (λ q. not (is_in order q)) (range 0 n) p m).1));
        below = λ p m. elim (mem-split p never order m) [
          | inl a ↦ omega (arith, (range-mem 0 n p (filter-mem (λ q. not (is_in order q)) (range 0 n) p a).0).1)
          | inr b ↦ fit.below p b
        ];
      }

-- ---- a place that is served goes to the end of the queue

filter-twice : (f g : ℕ → Bool) (xs : List ℕ) → filter f (filter g xs) ≡ filter (λ x. g x && f x) xs
unfolding filter
filter-twice f g [] = refl
filter-twice f g (x ∷ xs) = go (g x) (filter-twice f g xs)
  where
    go : (t : Bool) → filter f (filter g xs) ≡ filter (λ x. g x && f x) xs
        → filter f (cons_if t x (filter g xs)) ≡ cons_if (t && f x) x (filter (λ x. g x && f x) xs)
    go true ih = unfold filter in ap (λ (l : List ℕ). cons_if (f x) x l) ih
    go false ih = ih

module _ (n p : ℕ) (order : List ℕ) where
  still_never : (q : ℕ) → not (is_in (served_last p order) q) ≡ (not (is_in order q) && not (eqb q p))
  unfolding served_last others is_in any
  still_never q =
      ap not (any_append (eqb q) (others p order) (p ∷ []) ∙ ap (λ (t : Bool). t || (eqb q p || false)) (among-filter (λ q. not (eqb q p)) order q))
      ∙ bool (is_in order q) (eqb q p)
    where
      bool : (t u : Bool) → not ((t && not u) || (u || false)) ≡ (not t && not u)
      bool true true = refl
      bool true false = refl
      bool false true = refl
      bool false false = refl

  pub queue-after : queue n (served_last p order) ≡ others p (queue n order) ++ (p ∷ [])
  unfolding queue served_last others
  queue-after =
      let f : ℕ → Bool = λ q. not (eqb q p) in
      ap (λ (l : List ℕ). l ++ (others p order ++ (p ∷ [])))
      (filter-ext (λ q. not (is_in (served_last p order) q)) (λ q. not (is_in order q) && f q) (range 0 n) (λ q _. still_never q)
      ∙ sym (filter-twice f (λ q. not (is_in order q)) (range 0 n)))
      ∙ sym (append_assoc (filter f (never n order)) (others p order) (p ∷ []))
      ∙ ap (λ (l : List ℕ). l ++ (p ∷ [])) (sym (filter-append f (never n order) order))

-- ---- who is chosen

module _ (w : ℕ → Bool) where
  pub first-mem : (xs : List ℕ) (p : ℕ) → first_waiting w xs ≡ Some p → (Mem p xs) × (w p ≡ true)
  unfolding first_waiting
  first-mem [] p e = let z : ◌≡◌ {A = ℕ} 0 1 = cc in let y : ⊥ = omega arith in absurd y
  first-mem (x ∷ xs) p e = go (w x) refl e (first-mem xs p)
    where
      go : (t : Bool) → w x ≡ t → cond t (Some x) (first_waiting w xs) ≡ Some p → (first_waiting w xs ≡ Some p → (Mem p xs) × (w p ≡ true))
          → (Mem p (x ∷ xs)) × (w p ≡ true)
      go true f e rest = let q : x ≡ p = cc in subst (λ (y : ℕ). (Mem y (x ∷ xs)) × (w y ≡ true)) q (here, f)
      go false f e rest = let r = rest e in (there r.0, r.1)

  -- where none is, nobody waits
  pub none-waits : (xs : List ℕ) → first_waiting w xs ≡ None → (x : ℕ) → Mem x xs → w x ≡ false
  unfolding first_waiting
  none-waits [] e x m = elim m [ ]
  none-waits (y ∷ xs) e x m = go (w y) refl e (mem-cons m) (λ e. none-waits xs e x)
    where
      go : (t : Bool) → w y ≡ t → cond t (Some y) (first_waiting w xs) ≡ None → (x ≡ y) ⊎ (Mem x xs)
          → (first_waiting w xs ≡ None → Mem x xs → w x ≡ false) → w x ≡ false
      go true f e m rest = let z : ◌≡◌ {A = ℕ} 0 1 = cc in let y : ⊥ = omega arith in absurd y
      go false f e (inl q) rest = ap w q ∙ f
      go false f e (inr m) rest = rest e m

  -- whoever waits, or one before it
  first-ahead : (x : ℕ) → w x ≡ true → (front back : List ℕ) (p : ℕ) → first_waiting w (front ++ x ∷ back) ≡ Some p → (p ≡ x) ⊎ (Mem p front)
  unfolding first_waiting
  first-ahead x e [] back p c = inl (let q : Some x ≡ Some p = ap (λ (t : Bool). cond t (Some x) (first_waiting w back)) (sym e) ∙ c in cc)
  first-ahead x e (y ∷ front) back p c = go (w y) c (first-ahead x e front back p)
    where
      go : (t : Bool) → cond t (Some y) (first_waiting w (front ++ x ∷ back)) ≡ Some p
          → (first_waiting w (front ++ x ∷ back) ≡ Some p → (p ≡ x) ⊎ (Mem p front)) → (p ≡ x) ⊎ (Mem p (y ∷ front))
      go true c rest = let q : y ≡ p = cc in inr (subst (λ (z : ℕ). Mem z (y ∷ front)) q here)
      go false c rest = elim (rest c) [ inl q ↦ inl q | inr m ↦ inr (there m) ]

-- ---- whoever waits has its turn after fewer than k others, and after one less where another is served

pub record Stands (x k : ℕ) (q : List ℕ) : Type 0 where
  pub front : List ℕ
  pub back : List ℕ
  pub split : q ≡ front ++ x ∷ back
  pub once : Distinct front
  pub few : length front < k

pub stands-in : (n x : ℕ) (order : List ℕ) → FitOrder n order → x < n → Stands x n (queue n order)
stands-in n x order fit h = go (queue n order) (in-queue n order x h) (queue-fit n order fit)
  where
    split : (q : List ℕ) → Mem x q → (front : List ℕ) × ((back : List ℕ) × (q ≡ front ++ x ∷ back))
    split [] x'' = elim x'' [ ]
    split (y ∷ q) here = ([], (q, refl))
    split (y ∷ q) (there m) = let r = split q m in (y ∷ r.0, (r.1.0, ap (λ (l : List ℕ). y ∷ l) r.1.1))

    go : (q : List ℕ) → Mem x q → FitOrder n q → Stands x n q
    go q m f =
        let r = split q m in
        let e = r.1.1 in
        record {
          front = r.0;
          back = r.1.0;
          split = e;
          once = (append-distinct r.0 (x ∷ r.1.0) (subst Distinct e f.once)).0;
          few = omega (arith, few-below n q f, ap length e, length-append r.0 (x ∷ r.1.0));
        }

pub moves-up : (w : ℕ → Bool) (n x p k : ℕ) (order : List ℕ) → w x ≡ true → first_waiting w (queue n order) ≡ Some p → x ≢ p
    → Stands x (suc k) (queue n order) → Stands x k (queue n (served_last p order))
unfolding others filter
moves-up w n x p k order e c d s =
    record {
      front = others p s.front;
      back = others p s.back ++ (p ∷ []);
      split =
          queue-after n p order
          ∙ ap (λ (q : List ℕ). q ++ (p ∷ [])) (ap (others p) s.split ∙ filter-append (λ q. not (eqb q p)) s.front (x ∷ s.back))
          ∙ (rw (ne_eqb x p d) (append_assoc (others p s.front) (x ∷ others p s.back) (p ∷ [])));
      once = (once-others p s.front s.once).1;
      few = elim (first-ahead w x e s.front s.back p (ap (first_waiting w) (sym s.split) ∙ c)) [
        | inl q ↦ absurd (d (sym q))
        | inr m ↦ omega (arith, s.few, others-lt p s.front s.front s.once m (λ q m. m))
      ];
    }
