-- A walk over positions, one more at a time: what is left of it, after the points found so far, gives the whole.
use mathlib.Core.Path.{◌≡◌, refl, sym, ap, ap₂, ◌∙◌, subst}
use mathlib.Core.Logic.{◌⊎◌, inl, inr}
use mathlib.Core.List.{List, [], ◌∷◌, ◌++◌, append_assoc}
use Rattle.std.specs.Prelude.{Option, None, Some}
use Prim.Native.Nat.{ℕ, zero, suc, ◌+◌, ◌-◌, ◌*◌, ◌/◌, ◌≤◌, ◌<◌}
use native.Mathlib.Omega.{arith}
use lib.Ieee.{Float}
use lib.ListN.{length, take, drop, take-append-drop}
use lib.Seq.{sets, length-sets}
use Rattle.rules.specs.Answer.{Outcome, outcome, done}
use Rattle.surface.specs.declared.Point.{Point}
use Rattle.points.specs.declared.Listing.{Listing}
use Rattle.points.specs.Listing.{Walk, found, onwards, walk, doubles, written, listing}
use Rattle.points.specs.Positions.{counted, stored}
use Rattle.prelude.proofs.Stores.{take-sets, drop-sets}

abbrev nothing : ℕ → Walk
nothing p = record { points = []; next = p }

-- ---- the same points at every position: the same walk

pub walk-ext :
    (f g : ℕ → Option Point) (k room p : ℕ)
    → ((q : ℕ) → p ≤ q → q < p + k → f q ≡ g q)
    → walk f k room p ≡ walk g k room p
unfolding walk
walk-ext f g zero room p h = refl
walk-ext f g (suc k) zero p h = refl
walk-ext f g (suc k) (suc room) p h =
    let e = h p (omega arith) (omega arith) in
    ap (λ (o : Option Point). onwards o room (λ left. walk f k left (suc p))) e
    ∙ go (g p) (λ left. walk-ext f g k left (suc p) (λ q l m. h q (omega arith) (omega arith)))
  where
    go : (o : Option Point) → ((left : ℕ) → walk f k left (suc p) ≡ walk g k left (suc p))
        → onwards o room (λ left. walk f k left (suc p)) ≡ onwards o room (λ left. walk g k left (suc p))
    go None ih = ih (suc room)
    go (Some q) ih = ap (found q) (ih room)

-- ---- what is left, after `count` points

abbrev follows : Walk → ℕ → List Float → Outcome (List Float) Listing
follows w count out =
    outcome (done (record { count = count + length w.points; next = w.next }))
    (take (3 * count) out ++ (doubles w.points ++ drop (3 * count + 3 * length w.points) out))

abbrev pub resumed : (ℕ → Option Point) → ℕ → ℕ → ℕ → List Float → Outcome (List Float) Listing
resumed at k p count out = follows (walk at k (length out / 3 - count) p) count out

same_outcome :
    {m n p q : ℕ} {x y : List Float}
    → m ≡ n
    → p ≡ q
    → x ≡ y
    → ◌≡◌ {A = Outcome (List Float) Listing} (outcome (done (record { count = m; next = p })) x) (outcome (done (record { count = n; next = q })) y)
same_outcome e f g = cc

pub from_start : (at : ℕ → Option Point) (k p : ℕ) (out : List Float) → resumed at k p 0 out ≡ listing at k p out
unfolding listing
from_start at k p out =
    let e : length out / 3 - 0 ≡ length out / 3 = omega arith in
    ap (λ (room : ℕ). follows (walk at k room p) 0 out) e ∙ whole (walk at k (length out / 3) p)
  where
    whole : (w : Walk) → follows w 0 out ≡ written w out
    whole w =
        let n = length w.points in
        let e : 0 + n ≡ n = omega arith in
        let f : 3 * 0 + 3 * n ≡ 3 * n = omega arith in
        same_outcome e refl (ap (λ (m : ℕ). doubles w.points ++ drop m out) f)

-- one point more
taken :
    (q : Point) (w : Walk) (count : ℕ) (out : List Float)
    → 3 * count + 3 ≤ length out
    → follows (found q w) count out ≡ follows w (suc count) (stored (Some q) count out)
unfolding doubles stored
taken q w count out h =
    let n = length w.points in
    let i = 3 * count in
    let vs : List Float = q.x ∷ q.y ∷ q.z ∷ [] in
    let rest : List Float = doubles w.points in
    let d : 3 * suc count ≡ i + 3 = omega arith in
    let c : count + suc n ≡ suc count + n = omega arith in
    let m : 3 * suc count + 3 * n ≡ i + 3 * suc n = omega arith in
    let front : take (3 * suc count) (sets out i vs) ≡ take i out ++ vs = ap (λ (k : ℕ). take k (sets out i vs)) d ∙ take-sets vs out i h in
    let back : drop (3 * suc count + 3 * n) (sets out i vs) ≡ drop (i + 3 * suc n) out =
    drop-sets vs out i (3 * suc count + 3 * n) (omega arith) ∙ ap (λ (k : ℕ). drop k out) m in
    same_outcome c refl
    (sym (ap₂ (λ (x y : List Float). x ++ (rest ++ y)) front back ∙ append_assoc (take i out) vs (rest ++ drop (i + 3 * suc n) out)))

pub stored-length : (o : Option Point) (count : ℕ) (out : List Float) → length (stored o count out) ≡ length out
unfolding stored
stored-length None count out = refl
stored-length (Some q) count out = length-sets out (3 * count) (q.x ∷ q.y ∷ q.z ∷ [])

-- ---- one position more

module _ (at : ℕ → Option Point) (p end count : ℕ) (out : List Float) where
  abbrev k : ℕ
  k = end - (p + 1)

  abbrev left : ℕ
  left = length out / 3 - (count + 1)

  walk_step : p < end → count < length out / 3 → walk at (end - p) (length out / 3 - count) p ≡ onwards (at p) left (λ room. walk at k room (p + 1))
  unfolding walk
  walk_step h l =
      let e : end - p ≡ suc k = omega arith in
      let r : length out / 3 - count ≡ suc left = omega arith in
      let s : suc p ≡ p + 1 = omega arith in
      ap₂ (λ (m n : ℕ). walk at m n p) e r ∙ ap (λ (n : ℕ). onwards (at p) left (λ room. walk at k room n)) s

  pub resumed-step :
      (o : Option Point)
      → at p ≡ o
      → p < end
      → count < length out / 3
      → resumed at (end - p) p count out ≡ resumed at k (p + 1) (counted o count) (stored o count out)
  unfolding stored
  resumed-step None e h l =
      let r : suc left ≡ length out / 3 - count = omega arith in
      ap (λ (w : Walk). follows w count out)
      (walk_step h l ∙ ap (λ (o : Option Point). onwards o left (λ room. walk at k room (p + 1))) e ∙ ap (λ (n : ℕ). walk at k n (p + 1)) r)
  resumed-step (Some q) e h l =
      let r : left ≡ length out / 3 - suc count = omega arith in
      let n = stored-length (Some q) count out in
      ap (λ (w : Walk). follows w count out) (walk_step h l ∙ ap (λ (o : Option Point). onwards o left (λ room. walk at k room (p + 1))) e)
      ∙ taken q (walk at k left (p + 1)) count out (omega arith)
      ∙ ap (λ (m : ℕ). follows (walk at k m (p + 1)) (suc count) (stored (Some q) count out))
      (r ∙ ap (λ (m : ℕ). m / 3 - suc count) (sym n))

  walk-stop : (m room : ℕ) → (m ≡ 0) ⊎ (room ≡ 0) → walk at m room p ≡ nothing p
  unfolding walk
  walk-stop zero room h = refl
  walk-stop (suc m) zero h = refl
  walk-stop (suc m) (suc room) (inl e) = let z : ⊥ = omega arith in absurd z
  walk-stop (suc m) (suc room) (inr e) = let z : ⊥ = omega arith in absurd z

  -- the positions end, or there is no room for one more point
  pub resumed-done : (end ≤ p) ⊎ (length out / 3 ≤ count) → resumed at (end - p) p count out ≡ outcome (done (record { count = count; next = p })) out
  unfolding doubles
  resumed-done h =
      let c : count + 0 ≡ count = omega arith in
      let d : 3 * count + 3 * 0 ≡ 3 * count = omega arith in
      ap (λ (w : Walk). follows w count out) (walk-stop (end - p) (length out / 3 - count) (none_left h))
      ∙ same_outcome c refl (ap (λ (n : ℕ). take (3 * count) out ++ drop n out) d ∙ take-append-drop (3 * count) out)
    where
      none_left : (end ≤ p) ⊎ (length out / 3 ≤ count) → (end - p ≡ 0) ⊎ (length out / 3 - count ≡ 0)
      none_left (inl l) = inl (omega arith)
      none_left (inr l) = inr (omega arith)

-- ---- the loop: what is left of the walk gives the whole

pub record Going (at : ℕ → Option Point) (position end : ℕ) (out₀ out : List Float) (count p : ℕ) : Type 0 where
  pub within : p ≤ end
  pub same : length out ≡ length out₀
  pub room : count ≤ length out₀ / 3
  pub rest : resumed at (end - p) p count out ≡ resumed at (end - position) position 0 out₀

module _ {at : ℕ → Option Point} {position end : ℕ} {out₀ out : List Float} {count p : ℕ} (going : Going at position end out₀ out count p) where
  pub going_on :
      (o : Option Point) (n : ℕ) (after : List Float)
      → at p ≡ o
      → p < end
      → count < length out₀ / 3
      → n ≡ counted o count
      → after ≡ stored o count out
      → Going at position end out₀ after n (p + 1)
  going_on o n after e h l m d =
      let s = going.same in
      let c : count < length out / 3 = omega arith in
      record {
        within = omega arith;
        same = ap length d ∙ stored-length o count out ∙ s;
        room = subst (λ (k : ℕ). k ≤ length out₀ / 3) (sym m) (one_more o);
        rest =
            ap₂ (λ (m : ℕ) (x : List Float). resumed at (end - (p + 1)) (p + 1) m x) m d
            ∙ sym (resumed-step at p end count out o e h c)
            ∙ going.rest;
      }
    where
      one_more : (o : Option Point) → counted o count ≤ length out₀ / 3
      one_more None = omega arith
      one_more (Some q) = omega arith

  pub going_done :
      (end ≤ p) ⊎ (length out₀ / 3 ≤ count)
      → outcome (done (record { count = count; next = p })) out ≡ listing at (end - position) position out₀
  going_done h =
      sym (resumed-done at p end count out (over h)) ∙ going.rest ∙ from_start at (end - position) position out₀
    where
      over : (end ≤ p) ⊎ (length out₀ / 3 ≤ count) → (end ≤ p) ⊎ (length out / 3 ≤ count)
      over (inl l) = inl l
      over (inr l) = let s = going.same in inr (omega arith)
