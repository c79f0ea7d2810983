-- The greatest key of a stretch, found bit by bit in the order of index: among equal ranks the first met is kept.
use mathlib.Core.Path.{◌≡◌, refl, sym, ap, ◌∙◌, subst}
use mathlib.Core.Bool.{Bool, true, false, cond}
use mathlib.Core.List.{List}
use Prim.Native.Nat.{ℕ, ◌+◌, ◌-◌, ◌*◌, ◌≤◌, ◌<◌, max}
use native.Mathlib.Omega.{arith}
use native.Mathlib.Decide.{ℕ_discrete, dec_lt}
use borrow.Author.Rules.{part_to_end}
use lib.IntN.{ℤ, pos}
use lib.ListN.{length, take, drop, length-drop}
use lib.Seq.{get_or-drop}
use lib.Bits.{bit_and}
use Rattle.prelude.proofs.Bools.{not-both}
use Rattle.bits.specs.Bits.{has}
use Rattle.masks.proofs.Crossing.{has-none}
use Rattle.rules.specs.Grid.{distance_at}
use Rattle.rules.specs.Status.{is_pending}
use Rattle.bits.specs.Lowest.{Lowest}
use Rattle.keys.specs.Key.{most, Lent, rank_by, key_of, key_at, greatest, width, stretch_key, bit_key, Readable}
use Rattle.keys.proofs.Greatest.{greatest-none, greatest-lift, greatest-moved}
use Rattle.keys.proofs.Ranks.{by-some, pending-inside, key-by}

-- a bit that is left was there before, and is not the one that was taken
pub left_over : (m t c : ℕ) → Lowest m t → has (bit_and m (m - 1)) c ≡ true → (has m c ≡ true) × (t < c)
left_over m t c L e = go (dec_lt t c)
  where
    old : (c ≡ t → ⊥) → has m c ≡ true
    old n = sym (L.others c n) ∙ e

    go : Dec (t < c) → (has m c ≡ true) × (t < c)
    go (yes l) = (old (λ q. omega arith), l)
    go (no l) =
        elim (ℕ_discrete c t) [
          | yes q ↦ not-both (has (bit_and m (m - 1)) c) e (ap (has (bit_and m (m - 1))) q ∙ L.gone)
          | no q ↦ (let z = L.least c (old q) in let b : ⊥ = omega arith in absurd b)
        ]

module _ (hurried : ℕ → Bool) (dist : List ℤ) (at set : ℕ) where
  -- the greatest rank so far and its bit, and the bits that are left, all above it
  pub record Scanning (g b m : ℕ) : Type 0 where
    pub few : at + length dist ≤ most
    pub small : g ≤ 8589934592
    pub inside : b < length dist
    pub left : (t : ℕ) → t < width → has m t ≡ true → t < length dist
    pub above : (t : ℕ) → has m t ≡ true → 0 < g → b < t
    pub total : max (key_of g (at + b)) (greatest (bit_key hurried dist at m) 0 width) ≡ greatest (bit_key hurried dist at set) 0 width

  pub scanning-start : Readable dist at set → Scanning 0 0 set
  scanning-start R =
      record {
        few = R.few;
        small = omega arith;
        inside = R.some;
        left = R.each;
        above = λ t e l. let z : ⊥ = omega arith in absurd z;
        total = omega arith;
      }

  bit-key : (m t : ℕ) (b : Bool) → has m t ≡ b → bit_key hurried dist at m t ≡ cond b (key_of (rank_by hurried (distance_at dist t) (at + t)) (at + t)) 0
  bit-key m t b e = ap (λ (b : Bool). cond b (key_of (rank_by hurried (distance_at dist t) (at + t)) (at + t)) 0) e

  module _ (g b m t r : ℕ) (S : Scanning g b m) (L : Lowest m t) (e : r ≡ rank_by hurried (distance_at dist t) (at + t)) (f : r ≤ 8589934592) where
    -- the bit's key, and those that are left
    taken : greatest (bit_key hurried dist at m) 0 width ≡ max (greatest (bit_key hurried dist at (bit_and m (m - 1))) 0 width) (key_of r (at + t))
    taken =
        let own : bit_key hurried dist at m t ≡ key_of r (at + t) = bit-key m t true L.here ∙ ap (λ (x : ℕ). key_of x (at + t)) (sym e) in
        greatest-lift (bit_key hurried dist at (bit_and m (m - 1))) (bit_key hurried dist at m) 0 width t (omega arith) (omega (arith, L.below))
        (bit-key (bit_and m (m - 1)) t false L.gone) (λ c n. bit-key (bit_and m (m - 1)) c (has m c) (L.others c n))
        ∙ ap (max _) own

    -- the greater rank goes ahead
    pub scanning-ahead : g < r → Scanning r t (bit_and m (m - 1))
    scanning-ahead l =
        let few = S.few in
        let here = S.left t L.below L.here in
        let total = S.total in
        let one = taken in
        record {
          few = few;
          small = f;
          inside = here;
          left = λ c v u. S.left c v (left_over m t c L u).0;
          above = λ c u p. (left_over m t c L u).1;
          total = omega arith;
        }

    -- and of equal ranks the one met first
    pub scanning-behind : r ≤ g → Scanning g b (bit_and m (m - 1))
    scanning-behind l =
        let few = S.few in
        let here = S.left t L.below L.here in
        let total = S.total in
        let one = taken in
        let some : 0 < r = subst (λ (x : ℕ). 0 < x) (sym e) (by-some hurried (distance_at dist t) (at + t)) in
        let before = S.above t L.here (omega arith) in
        record {
          few = few;
          small = S.small;
          inside = S.inside;
          left = λ c v u. S.left c v (left_over m t c L u).0;
          above = λ c u p. omega (arith, (left_over m t c L u).1);
          total = omega arith;
        }

  -- the lowest bit is the first taken
  pub scanning-first :
      (t r : ℕ) → Readable dist at set → Lowest set t → r ≡ rank_by hurried (distance_at dist t) (at + t) → r ≤ 8589934592 → Scanning r t (bit_and set (set - 1))
  scanning-first t r R L e f =
      scanning-ahead 0 0 set t r (scanning-start R) L e f (subst (λ (x : ℕ). 0 < x) (sym e) (by-some hurried (distance_at dist t) (at + t)))

  pub scanning-none : set ≡ 0 → 0 ≡ greatest (bit_key hurried dist at set) 0 width
  scanning-none e = sym (greatest-none (bit_key hurried dist at set) 0 width (λ t l. bit-key set t false (ap (λ (x : ℕ). has x t) e ∙ has-none t)))

  pub scanning-done : (g b m k : ℕ) → m ≡ 0 → k ≡ key_of g (at + b) → Scanning g b m → k ≡ greatest (bit_key hurried dist at set) 0 width
  scanning-done g b m k e q S =
      let z = greatest-none (bit_key hurried dist at m) 0 width (λ t l. bit-key m t false (ap (λ (x : ℕ). has x t) e ∙ has-none t)) in
      omega (arith, S.total)

-- ---- the bits of a stretch

-- the distances from voxel at on
abbrev onward : ℕ → List ℤ → List ℤ
onward at dist = take (length dist - at) (drop at dist)

module _ (hurried : ℕ → Bool) (dist : List ℤ) (status : List ℕ) (at set : ℕ) (lent : Lent dist status)
    (shown : (t : ℕ) → t < width → has set t ≡ is_pending status (at + t))
  where
    pub shown-readable : at < length status → Readable (onward at dist) at set
    shown-readable h =
        let same = lent.same in
        let few = lent.few in
        let left : length (onward at dist) ≡ length dist - at = ap length (part_to_end dist at) ∙ length-drop at dist in
        record {
          few = omega arith;
          some = omega arith;
          each = λ t l e. (
              omega (arith, pending-inside status (at + t) (sym (shown t l) ∙ e))
              );
        }

    shown-key : (t : ℕ) → t < width → bit_key hurried (onward at dist) at set t ≡ key_at hurried dist status (at + t)
    shown-key t l =
        ap (λ (b : Bool). cond b (key_of (rank_by hurried (distance_at (onward at dist) t) (at + t)) (at + t)) 0) (shown t l)
        ∙ ap (λ (d : ℤ). cond (is_pending status (at + t)) (key_of (rank_by hurried d (at + t)) (at + t)) 0)
        (ap (λ (ds : List ℤ). distance_at ds t) (part_to_end dist at) ∙ get_or-drop at dist t (pos 0))
        ∙ sym (key-by hurried dist status (at + t) (is_pending status (at + t)) refl)

    -- give its greatest key
    pub shown-greatest : (k r : ℕ) → at ≡ width * k → r ≡ greatest (bit_key hurried (onward at dist) at set) 0 width
        → r ≡ stretch_key (key_at hurried dist status) k
    unfolding stretch_key
    shown-greatest k r e q =
        let z : at + 0 ≡ width * k = omega arith in
        q
        ∙ greatest-moved (bit_key hurried (onward at dist) at set) (key_at hurried dist status) at 0 width (λ t l u. shown-key t (omega arith))
        ∙ ap (λ (x : ℕ). greatest (key_at hurried dist status) x width) z
