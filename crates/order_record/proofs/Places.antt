-- The order record in an array: what stands in it from a place on, and the place that goes to its end.
use mathlib.Core.Path.{◌≡◌, refl, ap, ap₂, sym, ◌∙◌}
use mathlib.Core.Bool.{Bool, true, false, not, ◌||◌}
use mathlib.Core.List.{List, [], ◌∷◌, ◌++◌, append-nil}
use Prim.Native.Nat.{ℕ, suc, ◌+◌, ◌-◌, ◌≤◌, ◌<◌}
use native.Mathlib.Omega.{arith}
use native.Mathlib.Numerals.{add-one}
use native.Mathlib.Decide.{ℕ_discrete}
use lib.Dec.{leb, eqb}
use lib.ListN.{length, get_or, set, take, drop, replicate, length-append, length-drop, drop_of_length-le, get_or-append}
use lib.Seq.{take-suc, take_all, drop-cons, set-append_seam, append_snoc, length-take-le}
use borrow.Author.Tests.{lt-ltb, le-ltb, eq-eqb, ne_eqb}
use Rattle.std.specs.List.{list_any}
use Rattle.std.proofs.lemmas.List.{get_or-take}
use Rattle.cells.specs.Groups.{any, filter, cons_if}
use Rattle.prelude.proofs.Lists.{filter-append}
use Rattle.prelude.proofs.Ranges.{get_d-map-range, is-map-range, length-map-range}
use Rattle.rules.specs.Grid.{is_in}
use Rattle.office.specs.declared.Order.{Order}
use Rattle.office.specs.Order.{names_twice, unfit_order, others, served_last}
use Rattle.office.specs.Structs.{listed, places_of, packed}

-- ---- so many elements of an array

module _ {A : Type 0} (d : A) (n : ℕ) (l : List A) where
  pub length-listed : length (listed d n l) ≡ n
  unfolding listed
  length-listed = length-map-range (λ i. get_or l i d) n

  pub listed_at : (k : ℕ) → k < n → get_or (listed d n l) k d ≡ get_or l k d
  unfolding listed
  listed_at k h = get_d-map-range (λ i. get_or l i d) d n k h

  -- the part of a slice is what is listed
  pub take-listed : n ≤ length l → take n l ≡ listed d n l
  unfolding listed
  take-listed h = is-map-range (λ i. get_or l i d) d n (take n l) (length-take-le n l h) (λ i k. get_or-take n l i d k)

-- a slice from k on
pub from-on : {A : Type 0} (k : ℕ) (l : List A) → take (length l - k) (drop k l) ≡ drop k l
from-on k l = take_all (length l - k) (drop k l) (omega (arith, length-drop k l))

-- a slice's `any`, and its `contains`
pub any-is : {A : Type 0} (p : A → Bool) (xs : List A) → list_any p xs ≡ any p xs
unfolding any
any-is p [] = refl
any-is p (x ∷ xs) = ap (λ (t : Bool). p x || t) (any-is p xs)

pub contains-is : (x : ℕ) (xs : List ℕ) → list_any (λ y. eqb y x) xs ≡ is_in xs x
unfolding is_in any
contains-is x [] = refl
contains-is x (y ∷ xs) = ap₂ ◌||◌ (turned (ℕ_discrete y x)) (contains-is x xs)
  where
    turned : Dec (y ≡ x) → eqb y x ≡ eqb x y
    turned (yes e) = eq-eqb y x e ∙ sym (eq-eqb x y (sym e))
    turned (no f) = ne_eqb y x f ∙ sym (ne_eqb x y (λ e. f (sym e)))

-- ---- what stands from k on

-- a place twice, or one past the last grid
abbrev pub wrong : ℕ → List ℕ → Bool
wrong count places = names_twice places || any (leb count) places

-- what is wrong from k on, by whether the place there stands again or is past the last grid
module _ (count : ℕ) (places : List ℕ) (k : ℕ) (h : k < length places) where
  abbrev at : ℕ
  at = get_or places k 0

  abbrev rest : List ℕ
  rest = drop (k + 1) places

  opened : wrong count (drop k places) ≡ (is_in rest at || names_twice rest) || (leb count at || any (leb count) rest)
  unfolding any
  opened = ap (wrong count) (drop-cons places k 0 h ∙ ap (λ (j : ℕ). at ∷ drop j places) (sym (add-one k)))

  pub wrong-past : leb count at ≡ true → wrong count (drop k places) ≡ true
  wrong-past e = opened ∙ ap (λ (t : Bool). (is_in rest at || names_twice rest) || (t || any (leb count) rest)) e ∙ ends (is_in rest at || names_twice rest)
    where
      ends : (t : Bool) → t || true ≡ true
      ends true = refl
      ends false = refl

  pub wrong-again : is_in rest at ≡ true → wrong count (drop k places) ≡ true
  wrong-again e = opened ∙ ap (λ (t : Bool). (t || names_twice rest) || (leb count at || any (leb count) rest)) e

  pub wrong-later : leb count at ≡ false → is_in rest at ≡ false → wrong count (drop k places) ≡ wrong count rest
  wrong-later e f = opened ∙ ap₂ (λ (t u : Bool). (t || names_twice rest) || (u || any (leb count) rest)) f e

pub wrong-none : (count : ℕ) (places : List ℕ) (k : ℕ) → length places ≤ k → wrong count (drop k places) ≡ false
unfolding any
wrong-none count places k h = ap (wrong count) (drop_of_length-le places {i = k} h)

module _ (o : Order) where
  pub length-places : length (places_of o) ≡ o.len
  length-places = length-listed 0 o.len o.places

  -- ---- number 7, by its length or by a place

  pub unfit-long : (count : ℕ) → count < o.len → true ≡ unfit_order count (places_of o)
  unfolding unfit_order
  unfit-long count h = sym (ap (λ (t : Bool). t || wrong count (places_of o)) (lt-ltb count (length (places_of o)) (omega (arith, length-places))))

  pub unfit-wrong : (count : ℕ) → o.len ≤ count → (all : List ℕ) → all ≡ places_of o → (t : Bool) → wrong count all ≡ t → t ≡ unfit_order count (places_of o)
  unfolding unfit_order
  unfit-wrong count h all e t f =
      sym f ∙ ap (wrong count) e
      ∙ sym (ap (λ (t : Bool). t || wrong count (places_of o)) (le-ltb count (length (places_of o)) (omega (arith, length-places))))

-- ---- the place that goes to the end

-- one more in the array
packed_more : (xs : List ℕ) (q : ℕ) → length xs < 16 → set (packed xs).places (length xs) q ≡ (packed (xs ++ (q ∷ []))).places
unfolding packed
packed_more xs q h =
    let n = 16 - length (xs ++ (q ∷ [])) in
    let e : 16 - length xs ≡ suc n = omega (arith, length-append xs (q ∷ [])) in
    ap (λ (m : ℕ). set (xs ++ replicate m 0) (length xs) q) e ∙ set-append_seam xs 0 (replicate n 0) q ∙ sym (append_snoc xs q (replicate n 0))

module _ (all : List ℕ) (place : ℕ) where
  -- those of the first k places that stay
  abbrev staying : ℕ → List ℕ
  staying k = others place (take k all)

  -- they stand in the first m of the new array
  pub record Shifting (places : List ℕ) (m k : ℕ) : Type 0 where
    pub within : k ≤ length all
    pub few : m ≤ k
    pub long : m ≡ length (staying k)
    pub stands : places ≡ (packed (staying k)).places

  pub shifting-start : Shifting (replicate 16 0) 0 0
  unfolding others filter packed
  shifting-start = record { within = omega arith; few = omega arith; long = refl; stands = refl }

  module _ (places : List ℕ) (m k q : ℕ) (s : Shifting places m k) (h : k < length all) (is : q ≡ get_or all k 0) where
    -- the place at k, if it is another one
    staying-more : (t : Bool) → eqb q place ≡ t → staying (k + 1) ≡ staying k ++ cons_if (not t) q []
    unfolding others filter
    staying-more t e =
        ap (λ (j : ℕ). others place (take j all)) (add-one k)
        ∙ ap (others place) (take-suc all k 0 h)
        ∙ filter-append (λ r. not (eqb r place)) (take k all) (get_or all k 0 ∷ [])
        ∙ ap (λ (x : ℕ). staying k ++ cons_if (not (eqb x place)) x []) (sym is)
        ∙ ap (λ (t : Bool). staying k ++ cons_if (not t) q []) e

    pub shifting-out : q ≡ place → Shifting places m (k + 1)
    shifting-out e =
        let more : staying (k + 1) ≡ staying k = staying-more true (eq-eqb q place e) ∙ append-nil (staying k) in
        record {
          within = omega arith;
          few = omega (arith, s.few);
          long = s.long ∙ ap length (sym more);
          stands = s.stands ∙ ap (λ (l : List ℕ). (packed l).places) (sym more);
        }

    pub shifting-on : length all ≤ 16 → (q ≡ place → ⊥) → Shifting (set places m q) (m + 1) (k + 1)
    shifting-on room e =
        let more = staying-more false (ne_eqb q place e) in
        let l = s.long in
        record {
          within = omega arith;
          few = omega (arith, s.few);
          long = omega (arith, ap length more, length-append (staying k) (q ∷ []));
          stands =
              ap₂ (λ (l : List ℕ) (n : ℕ). set l n q) s.stands l
              ∙ packed_more (staying k) q (omega (arith, s.few)) ∙ ap (λ (l : List ℕ). (packed l).places) (sym more);
        }

  module _ (places : List ℕ) (m k : ℕ) (s : Shifting places m k) (h : length all ≤ k) (room : length (others place all) < 16) where
    each : staying k ≡ others place all
    each = ap (others place) (take_all k all h)

    pub shifted-few : m < 16
    shifted-few = omega (arith, s.long, ap length each)

    pub shifted-is : record { len = m + 1; places = set places m place } ≡ packed (served_last place all)
    unfolding packed served_last
    shifted-is =
        let last = others place all ++ (place ∷ []) in
        let long : m + 1 ≡ length last = omega (arith, s.long, ap length each, length-append (others place all) (place ∷ [])) in
        let stands : set places m place ≡ (packed last).places =
        ap₂ (λ (l : List ℕ) (n : ℕ). set l n place) (s.stands ∙ ap (λ (l : List ℕ). (packed l).places) each) (s.long ∙ ap length each)
        ∙ packed_more (others place all) place room in
        λ i. record { len = long i; places = stands i }

-- ---- an order record that was handed back, given again

pub places-packed : (l : List ℕ) → places_of (packed l) ≡ l
unfolding listed packed
places-packed l =
    sym (is-map-range (λ i. get_or (packed l).places i 0) 0 (length l) l refl (λ i h. sym (get_or-append l (replicate (16 - length l) 0) 0 i h)))
