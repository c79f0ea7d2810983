-- Worked distances stay within the range and three sides: a start makes none that lies farther, and of the calls only finish changes any.
use mathlib.Core.Path.{◌≡◌, refl, sym, ap, ◌∙◌}
use mathlib.Core.Bool.{Bool, true, false, cond, ◌&&◌, ◌||◌, true≢false}
use mathlib.Core.List.{List, [], ◌∷◌, map}
use Prim.Native.Nat.{ℕ, zero, suc, ◌+◌, ◌≤◌}
use native.Mathlib.Omega.{arith}
use native.Mathlib.Decide.{dec_lt}
use borrow.Author.Tests.{ltb-false, leb-false}
use lib.Dec.{leb, ltb}
use lib.IntN.{ℤ, pos, negsuc, nat_abs}
use lib.ListN.{length, get_or-eq_default}
use Rattle.cells.specs.Groups.{filter}
use Rattle.prelude.proofs.Bools.{and-true, and_one}
use Rattle.prelude.proofs.Ranges.{get_d-map-range, length-map-range}
use Rattle.rules.specs.declared.Sides.{Sides}
use Rattle.rules.specs.Value.{beyond, stray, measured_negative, measured_non_negative, amount}
use Rattle.rules.specs.Grid.{size, range, voxels, taxicab, value_at, distance_at}
use Rattle.rules.specs.Answer.{untouched}
use Rattle.rules.specs.Begin.{least, greatest, is_in, inside, facing, greatest_facing, distance, worked_at, worked}
use Rattle.rules.specs.Status.{is_kept}
use Rattle.rules.specs.Marks.{Marked, marked}
use Rattle.rules.specs.Machine.{State, after, lent_to, may_go, sooner, marked_checks, take_checks, open_checks, finish_checks, carved, carve, taken}
use Rattle.rules.specs.Machine.{take, to_open}
use Rattle.rules.specs.Machine.{the_voxel, opened, open_next, closed, closed_at, finished_of, finish}
use Rattle.rules.specs.Demand.{Call, carve_up_to, take_at, open_one, finish_it, call, run}
use Rattle.rules.specs.LongRange.{farthest, WithinRange, WithinRangeAfter, StaysWithinRange}
use Rattle.rules.specs.Fit.{Beginnable}
use Rattle.rules.proofs.Checks.{by-checks}
use Rattle.rules.proofs.Places.{fit}
use Rattle.rules.proofs.Inside.{inside-members}
use Rattle.rules.proofs.Fit.{none-stray}
use Rattle.rules.proofs.Demand.{start_state, FromStart, from-begin}

-- ---- a value that is not stray

pub amount-high : (v : ℤ) → stray v ≡ false → amount v ≤ 1000000000
unfolding beyond
amount-high (pos n) e = ltb-false 1000000000 n e
amount-high (negsuc n) e = omega arith

negative-low : (v : ℤ) → stray v ≡ false → measured_negative v ≡ true → nat_abs v ≤ 1000000000
unfolding beyond measured_negative
negative-low (pos n) e t = absurd (true≢false (sym t))
negative-low (negsuc n) e t =
    let h = leb-false 1000000000 n (sym (and_one (leb 1000000000 n)) ∙ ap (λ (u : Bool). leb 1000000000 n && u) (sym t) ∙ e) in omega arith

non_negative-high : (v : ℤ) → stray v ≡ false → measured_non_negative v ≡ true → nat_abs v ≤ 1000000000
unfolding measured_non_negative
non_negative-high (pos n) e t = amount-high (pos n) e
non_negative-high (negsuc n) e t = absurd (true≢false (sym t))

-- ---- what a start leaves

-- distances written for every voxel
mapped-near : (n : ℕ) (f : ℕ → ℤ) → ((i : ℕ) → nat_abs (f i) ≤ farthest) → (i : ℕ) → nat_abs (distance_at (map f (range 0 n)) i) ≤ farthest
mapped-near n f near i =
    elim (dec_lt i n) [
      | yes h ↦ rw (get_d-map-range f (pos 0) n i h) (near i)
      | no h ↦
          let past : length (map f (range 0 n)) ≤ i = omega (arith, length-map-range f n) in
          rw (get_or-eq_default (map f (range 0 n)) (pos 0) past) (omega arith)
    ]

least_start : (start : ℕ) (xs : List ℕ) → least start xs ≤ start
unfolding least
least_start start [] = omega arith
least_start start (x ∷ xs) = omega (arith, least_start start xs)

greatest-most : (most : ℕ) (f : ℕ → ℕ) → ((i : ℕ) → f i ≤ most) → (start : ℕ) → start ≤ most → (l : List ℕ) → greatest start (map f l) ≤ most
unfolding greatest
greatest-most most f few start h [] = h
greatest-most most f few start h (i ∷ l) = omega (arith, few i, greatest-most most f few start h l)

module _ (s : Sides) (values : List ℤ) (accepted : Beginnable s values) where
  abbrev S : List ℕ
  S = inside s values

  abbrev M : ℕ
  M = greatest_facing s values S

  known : (i : ℕ) → stray (value_at values i) ≡ false
  known = none-stray values accepted.known

  M-high : M ≤ 1000000000
  unfolding greatest_facing
  M-high =
      greatest-most 1000000000 (λ i. amount (value_at values i)) (λ i. amount-high (value_at values i) (known i)) 1 (omega arith)
      (filter (λ i. measured_non_negative (value_at values i) && facing s S i) (voxels s))

  steps-few : (i : ℕ) → distance s S i ≤ 192
  unfolding distance
  steps-few i = let f = fit s accepted.sides in omega (arith, least_start (s.a + s.b + s.c) (map (taxicab s i) S))

  worked-near : (i : ℕ) → nat_abs (worked_at s values S M i) ≤ farthest
  unfolding worked_at
  worked-near i = go (is_in S i) (measured_non_negative v) (facing s S i) refl refl
    where
      v : ℤ
      v = value_at values i

      go : (p q r : Bool) → is_in S i ≡ p → measured_non_negative v ≡ q → nat_abs (cond (p || (q && r)) v (pos (cond r M (M + distance s S i)))) ≤ farthest
      go true q r e f =
          let n = (and-true (ltb i (size s)) (measured_negative v) (inside-members s values i e)).1 in
          omega (arith, negative-low v (known i) n)
      go false true true e f = omega (arith, non_negative-high v (known i) f)
      go false false true e f = omega (arith, M-high)
      go false true false e f = omega (arith, M-high, steps-few i)
      go false false false e f = omega (arith, M-high, steps-few i)

  start-near : (T : ℕ) (m : Marked) (start : ℕ → Bool) → WithinRange (start_state s T values m start)
  unfolding worked voxels
  start-near T m start = mapped-near (size s) (worked_at s values S M) worked-near

-- ---- what the calls leave

closed-near : (d : ℤ) → nat_abs d ≤ farthest → nat_abs (closed d) ≤ farthest
unfolding closed
closed-near (pos zero) h = omega arith
closed-near (pos (suc w)) h = omega arith
closed-near (negsuc w) h = h

module _ (g : State) (near : WithinRange g) where
  finished-near : WithinRange (after (λ r. r) g (finished_of g))
  unfolding finished_of voxels
  finished-near = mapped-near (size g.rec.sides) (closed_at g.dist g.status) (λ i. go i (is_kept g.status i) refl)
    where
      go : (i : ℕ) (t : Bool) → is_kept g.status i ≡ t → nat_abs (closed_at g.dist g.status i) ≤ farthest
      go i true e = unfold closed_at in rw e (closed-near (distance_at g.dist i) (near i))
      go i false e = unfold closed_at in rw e (near i)

  call-near : (c : Call) → WithinRange (call c g).end
  unfolding call carve carved take taken open_next opened finish
  call-near (carve_up_to marks limit) =
      let m = marked marks in
      by-checks (untouched (lent_to g)) (carved (may_go m g.dist) (sooner m g.dist) limit g) (λ o. WithinRange (after (λ r. r.next) g o))
      (marked_checks marks g) (λ n. near) (λ h. near)
  call-near (take_at marks i) =
      by-checks (untouched (lent_to g)) (taken (may_go (marked marks) g.dist) i g) (λ o. WithinRange (after (λ r. r.next) g o))
      (take_checks marks i g) (λ n. near) (λ h. near)
  call-near (open_one marks) =
      let free = may_go (marked marks) g.dist in
      by-checks (untouched (lent_to g)) (opened free (the_voxel (to_open free g)) g) (λ o. WithinRange (after (λ r. r.next) g o))
      (open_checks marks g) (λ n. near) (λ h. near)
  call-near finish_it =
      by-checks (untouched (lent_to g)) (finished_of g) (λ o. WithinRange (after (λ r. r) g o)) (finish_checks g) (λ n. near) (λ h. finished-near)

run-near : (cs : List Call) (g : State) → WithinRange g → WithinRange (run cs g).end
unfolding run
run-near [] g near = near
run-near (c ∷ cs) g near = run-near cs (call c g).end (call-near g near c)

pub within-range-after : FromStart WithinRangeAfter
within-range-after s T values marks start from calls =
    run-near calls (start_state s T values (marked marks) start) (start-near s values from.accepted T (marked marks) start)

pub stays-within-range : StaysWithinRange
stays-within-range = from-begin WithinRangeAfter within-range-after
