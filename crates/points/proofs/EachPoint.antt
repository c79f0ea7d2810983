-- Each point that `points` writes is the one that crossing answers at its position.
use mathlib.Core.Path.{◌≡◌, refl, sym, ap, ◌∙◌, subst}
use mathlib.Core.Logic.{◌⊎◌, inl, inr}
use mathlib.Core.List.{List, [], ◌∷◌, ◌++◌}
use Rattle.std.specs.Prelude.{Option, None, Some}
use Prim.Native.Nat.{ℕ, zero, suc, ◌+◌, ◌-◌, ◌*◌, ◌/◌, ◌%◌, ◌≤◌, ◌<◌}
use native.Mathlib.Omega.{arith}
use borrow.Author.Tests.{ltb-false}
use lib.Dec.{ltb}
use lib.Ieee.{Float}
use lib.ListN.{length, drop}
use Rattle.prelude.specs.Lists.{range}
use Rattle.rules.specs.Grid.{size}
use Rattle.rules.specs.Checks.{◌when◌, AllHold}
use Rattle.rules.specs.Answer.{Reply, refused, done, Outcome, untouched}
use Rattle.rules.specs.Machine.{State, finished_checks}
use Rattle.rules.proofs.Checks.{by-checks, hold-append}
use Rattle.surface.specs.declared.Point.{Point}
use Rattle.surface.specs.Surface.{crossing}
use Rattle.points.specs.declared.Listing.{Listing}
use Rattle.points.specs.Listing.{point_in, point_at, Walk, onwards, walk, doubles, written, listing, points_checks, points}
use Rattle.points.specs.EachPoint.{double_at, PointOf, FromCrossing, cons_found, gathered, EachPoint, EachPointIsCrossings}

zero_one : {A : Type 0} → ◌≡◌ {A = ℕ} 0 1 → A
zero_one z = let f : ⊥ = omega arith in absurd f

-- ---- a walk gathers all points of the positions that it has been over

record Gathers (at : ℕ → Option Point) (k room p : ℕ) (w : Walk) : Type 0 where
  pub low : p ≤ w.next
  pub high : w.next ≤ p + k
  pub all : w.points ≡ gathered at (range p (w.next - p))
  pub stopped : (w.next ≡ p + k) ⊎ (length w.points ≡ room)

gather-next :
    (at : ℕ → Option Point) (p next : ℕ)
    → suc p ≤ next
    → gathered at (range p (next - p)) ≡ cons_found (at p) (gathered at (range (suc p) (next - suc p)))
unfolding gathered range
gather-next at p next h = let e : next - p ≡ suc (next - suc p) = omega arith in ap (λ (m : ℕ). gathered at (range p m)) e

none_over : (at : ℕ → Option Point) (p : ℕ) → [] ≡ gathered at (range p (p - p))
unfolding gathered range
none_over at p = let e : 0 ≡ p - p = omega arith in ap (λ (m : ℕ). gathered at (range p m)) e

walk-gathers : (at : ℕ → Option Point) (k room p : ℕ) → Gathers at k room p (walk at k room p)
unfolding walk
walk-gathers at zero room p = record { low = omega arith; high = omega arith; all = none_over at p; stopped = inl (omega arith) }
walk-gathers at (suc k) zero p = record { low = omega arith; high = omega arith; all = none_over at p; stopped = inr refl }
walk-gathers at (suc k) (suc room) p = go (at p) refl (λ left. walk-gathers at k left (suc p))
  where
    go :
        (o : Option Point)
        → at p ≡ o
        → ((left : ℕ) → Gathers at k left (suc p) (walk at k left (suc p)))
        → Gathers at (suc k) (suc room) p (onwards o room (λ left. walk at k left (suc p)))
    go None e ih =
        let w = walk at k (suc room) (suc p) in
        let g = ih (suc room) in
        let l = g.low in
        let h = g.high in
        record {
          low = omega arith;
          high = omega arith;
          all = g.all ∙ sym (gather-next at p w.next l ∙ ap (λ (x : Option Point). cons_found x (gathered at (range (suc p) (w.next - suc p)))) e);
          stopped = elim g.stopped [ inl s ↦ inl (omega arith) | inr s ↦ inr s ];
        }
    go (Some q) e ih =
        let w = walk at k room (suc p) in
        let g = ih room in
        let l = g.low in
        let h = g.high in
        record {
          low = omega arith;
          high = omega arith;
          all =
              ap (λ (qs : List Point). q ∷ qs) g.all
              ∙ sym (gather-next at p w.next l ∙ ap (λ (x : Option Point). cons_found x (gathered at (range (suc p) (w.next - suc p)))) e);
          stopped = elim g.stopped [ inl s ↦ inl (omega arith) | inr s ↦ inr (ap suc s) ];
        }

-- ---- the k-th point that is gathered, and where its doubles stand

record FoundAt (at : ℕ → Option Point) (low high k : ℕ) (out : List Float) : Type 0 where
  pub position : ℕ
  pub point : Point
  pub after : low ≤ position
  pub before : position < high
  pub is : at position ≡ Some point
  pub written : PointOf out k point

module _ (at : ℕ → Option Point) (p m : ℕ) (rest : List Float) where
  one_more :
      (o : Option Point) (qs : List Point) (k : ℕ)
      → at p ≡ o
      → k < length (cons_found o qs)
      → ((j : ℕ) → j < length qs → FoundAt at (suc p) (suc p + m) j (doubles qs ++ rest))
      → FoundAt at p (p + suc m) k (doubles (cons_found o qs) ++ rest)
  unfolding doubles
  one_more None qs k e h ih =
      let r = ih k h in
      let a = r.after in
      let b = r.before in
      record { position = r.position; point = r.point; after = omega arith; before = omega arith; is = r.is; written = r.written }
  one_more (Some q) qs zero e h ih =
      record {
        position = p;
        point = q;
        after = omega arith;
        before = omega arith;
        is = e;
        written = record { x-is = refl; y-is = refl; z-is = refl };
      }
  one_more (Some q) qs (suc k) e h ih =
      let r = ih k (omega arith) in
      let a = r.after in
      let b = r.before in
      let out = doubles (q ∷ qs) ++ rest in
      let x : 3 * suc k ≡ suc (suc (suc (3 * k))) = omega arith in
      let y : 3 * suc k + 1 ≡ suc (suc (suc (3 * k + 1))) = omega arith in
      let z : 3 * suc k + 2 ≡ suc (suc (suc (3 * k + 2))) = omega arith in
      record {
        position = r.position;
        point = r.point;
        after = omega arith;
        before = omega arith;
        is = r.is;
        written =
            record {
              x-is = ap (double_at out) x ∙ r.written.x-is;
              y-is = ap (double_at out) y ∙ r.written.y-is;
              z-is = ap (double_at out) z ∙ r.written.z-is;
            };
      }

gathered-at :
    (at : ℕ → Option Point) (m p k : ℕ) (rest : List Float)
    → k < length (gathered at (range p m))
    → FoundAt at p (p + m) k (doubles (gathered at (range p m)) ++ rest)
unfolding gathered range
gathered-at at zero p k rest h = let z : ⊥ = omega arith in absurd z
gathered-at at (suc m) p k rest h =
    one_more at p m rest (at p) (gathered at (range (suc p) m)) k refl h (λ j l. gathered-at at m (suc p) j rest l)

-- ---- the call

in-answer : (r : Reply (Option Point)) (q : Point) → point_in r ≡ Some q → r ≡ done (Some q)
in-answer (refused n) q e = let z : ◌≡◌ {A = ℕ} 0 1 = cc in zero_one z
in-answer (done o) q e = ap done e

from-crossing : (g : State) (low high k : ℕ) (out : List Float) → FoundAt (point_at g) low high k out → FromCrossing g low high k out
unfolding point_at
from-crossing g low high k out f =
    record {
      position = f.position;
      point = f.point;
      after = f.after;
      before = f.before;
      answered = in-answer (crossing (f.position / 3) (f.position % 3) g).answer f.point f.is;
      written = f.written;
    }

module _ (p : ℕ) (g : State) (given : List Float) where
  abbrev n : ℕ
  n = 3 * size g.rec.sides

  abbrev told : Walk → Listing
  told w = record { count = length w.points; next = w.next }

  of-walk : p ≤ n → (w : Walk) → Gathers (point_at g) (n - p) (length given / 3) p w → EachPoint p g given (told w) (written w given).lent
  of-walk within w h =
      let ps = range p (w.next - p) in
      let low = h.low in
      let rest = drop (3 * length w.points) given in
      let out : (written w given).lent ≡ doubles (gathered (point_at g) ps) ++ rest = ap (λ (qs : List Point). doubles qs ++ rest) h.all in
      let top : p + (w.next - p) ≡ w.next = omega arith in
      record {
        each =
            λ k l.
            let m : k < length (gathered (point_at g) ps) = subst (λ (j : ℕ). k < j) (ap length h.all) l in
            let f = from-crossing g p (p + (w.next - p)) k _ (gathered-at (point_at g) (w.next - p) p k rest m) in
            subst (λ (x : List Float). FromCrossing g p w.next k x) (sym out)
            (subst (λ (j : ℕ). FromCrossing g p j k (doubles (gathered (point_at g) ps) ++ rest)) top f);
        all = out;
        counted = ap length h.all;
        stopped = elim h.stopped [ inl s ↦ inl (omega arith) | inr s ↦ inr s ];
      }

  of-listing : p ≤ n → (l : Listing) → (listing (point_at g) (n - p) p given).answer ≡ done l → EachPoint p g given l (listing (point_at g) (n - p) p given).lent
  unfolding listing
  of-listing within l e =
      let w = walk (point_at g) (n - p) (length given / 3) p in
      subst (λ (l : Listing). EachPoint p g given l (written w given).lent) (same (told w) l e)
      (of-walk within w (walk-gathers (point_at g) (n - p) (length given / 3) p))
    where
      same : (k l : Listing) → done k ≡ done l → k ≡ l
      same k l e = cc

pub each-point : EachPointIsCrossings
unfolding points
each-point p g given l e =
    by-checks (untouched given) (listing (point_at g) (n p g given - p) p given) P (points_checks p g) (λ m f. refuses m f) (λ h f. works h f) e
  where
    P : Outcome (List Float) Listing → Type 0
    P o = o.answer ≡ done l → EachPoint p g given l o.lent

    refuses : (m : ℕ) → refused m ≡ done l → EachPoint p g given l given
    refuses m f = let z : ◌≡◌ {A = ℕ} 0 1 = cc in zero_one z

    works : AllHold (points_checks p g) → P (listing (point_at g) (n p g given - p) p given)
    works h f =
        let five = (hold-append (finished_checks g) (5 when ltb (n p g given) p ∷ []) h).1 in
        of-listing p g given (ltb-false _ _ five.0) l f
