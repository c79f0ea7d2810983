-- What begin leaves: the box that holds S is kept, pending is what step 4 says, and the signs of the distances are S.
use mathlib.Core.Path.{◌≡◌, refl, ap, sym, ◌∙◌, subst, fun_ext}
use mathlib.Core.Logic.{◌⊎◌, inl, inr, ◌≢◌}
use mathlib.Core.Bool.{Bool, true, false, not, cond, ◌&&◌, ◌||◌}
use mathlib.Core.List.{List, map}
use Prim.Native.Nat.{ℕ, suc, ◌+◌, ◌≤◌, ◌<◌}
use native.Mathlib.Omega.{arith}
use native.Mathlib.Decide.{dec_lt}
use lib.Dec.{ltb, eqb}
use lib.ListN.{length}
use lib.IntN.{ℤ, pos, negsuc}
use borrow.Author.Tests.{lt-ltb, le-ltb, eqb-false}
use Rattle.prelude.proofs.Bools.{and-true, true-and, true-or, or-false, not-true, not-both, two}
use Rattle.prelude.proofs.Lists.{Mem, any-ext}
use Rattle.rules.specs.declared.Sides.{Sides}
use Rattle.rules.specs.Grid.{size, Voxel, index, voxel, voxels, end, on_border, neighbour, neighbourhood, face_positions}
use Rattle.rules.specs.Grid.{measured_negative, measured_non_negative, is_negative, value_at}
use Rattle.rules.specs.Begin.{least, greatest, is_in, inside, facing, greatest_facing, distance, worked_at, worked, in_box, exposed, waits_first, status_at}
use Rattle.rules.specs.Begin.{start_status}
use Rattle.rules.specs.Marks.{Marked}
use Rattle.rules.specs.Status.{status_of, kept_byte, pending_byte, is_kept, is_pending}
use Rattle.rules.specs.Machine.{is_inside}
use Rattle.rules.specs.Meaning.{found}
use Rattle.prelude.proofs.Ranges.{get_d-map-range, length-map-range}
use Rattle.rules.proofs.Places.{Fit, index-lt}
use Rattle.rules.proofs.InsideLeast.{least-le, least-is, le-greatest, greatest-is, mem-map, map-mem}
use Rattle.rules.proofs.Inside.{is_in-mem, mem-is_in, inside-members}
use Rattle.rules.proofs.Distance.{voxel-inside}
use Rattle.rules.proofs.Boxes.{in-box}
use Rattle.rules.proofs.Topology.Around.{Inner, neighbour-at, neighbourhood-at}
use Rattle.rules.proofs.Topology.Removal.{face-taxicab}
use Rattle.rules.proofs.Topology.Count.{found-same}
use Rattle.rules.proofs.Topology.Moves.{Shape, Inv, Start, start-inv}
use Rattle.rules.proofs.Topology.BoxCells.{among, Bounds, box}
use Rattle.rules.proofs.Topology.Box.{Fits, inside-box, boxed, boxed-shape}
use Rattle.rules.proofs.Topology.Steps.{sets, Sound, tally, kept-beyond, pending-beyond}

-- ---- the box lies off the border

end-off : (side x : ℕ) → x < side → end side x ≡ false → (1 ≤ x) × (suc x < side)
end-off side x h e =
    let r = or-false (eqb x 0) (eqb (suc x) side) e in
    let p : x ≢ 0 = eqb-false x 0 r.0 in
    let q : suc x ≢ side = eqb-false (suc x) side r.1 in
    (omega arith, omega arith)

pub border-inner : (s : Sides) (i : ℕ) → i < size s → on_border s i ≡ false → Inner s (voxel s i)
unfolding on_border
border-inner s i h e =
    let v = voxel s i in
    let g = voxel-inside s i h in
    let p = or-false (end s.a v.x) (end s.b v.y || end s.c v.z) e in
    let q = or-false (end s.b v.y) (end s.c v.z) p.1 in
    let x = end-off s.a v.x g.x-in p.0 in
    let y = end-off s.b v.y g.y-in q.0 in
    let z = end-off s.c v.z g.z-in q.1 in
    record { x-low = x.0; x-high = x.1; y-low = y.0; y-high = y.1; z-low = z.0; z-high = z.1 }

-- along one axis: the least and the greatest coordinate of some voxels off the border
extremes : (side : ℕ) (S : List ℕ) (f : ℕ → ℕ) → 2 < side → ((j : ℕ) → is_in S j ≡ true → (1 ≤ f j) × (suc (f j) < side)) → (j : ℕ) → is_in S j ≡ true
    → (1 ≤ least side (map f S)) × (least side (map f S) ≤ greatest 0 (map f S)) × (suc (greatest 0 (map f S)) < side)
extremes side S f l off j m =
    let ps : List ℕ = map f S in
    let here : Mem (f j) ps = mem-map f S j (is_in-mem S j m) in
    let low = least-le side ps (f j) here in
    let high = le-greatest 0 ps (f j) here in
    (at_least (least-is side ps), omega arith, at_most (greatest-is 0 ps))
  where
    at_least : (least side (map f S) ≡ side) ⊎ (Mem (least side (map f S)) (map f S)) → 1 ≤ least side (map f S)
    at_least (inl e) = omega arith
    at_least (inr m) = let r = map-mem f S (least side (map f S)) m in let h = off r.0 (mem-is_in S r.0 r.1) in omega (arith, r.2)

    at_most : (greatest 0 (map f S) ≡ 0) ⊎ (Mem (greatest 0 (map f S)) (map f S)) → suc (greatest 0 (map f S)) < side
    at_most (inl e) = omega arith
    at_most (inr m) = let r = map-mem f S (greatest 0 (map f S)) m in let h = off r.0 (mem-is_in S r.0 r.1) in omega (arith, r.2)

abbrev bounds : Sides → List ℕ → Bounds
bounds s S =
    record {
      x0 = least s.a (map (λ j. (voxel s j).x) S);
      x1 = greatest 0 (map (λ j. (voxel s j).x) S);
      y0 = least s.b (map (λ j. (voxel s j).y) S);
      y1 = greatest 0 (map (λ j. (voxel s j).y) S);
      z0 = least s.c (map (λ j. (voxel s j).z) S);
      z1 = greatest 0 (map (λ j. (voxel s j).z) S);
    }

box-bounds : (s : Sides) (S : List ℕ) (i : ℕ) → in_box s S i ≡ inside-box (bounds s S) (voxel s i)
unfolding in_box box among
box-bounds s S i = refl

-- ---- what the status bytes and the distances say

kept_byte_lem : (t q : Bool) → kept_byte (cond t (cond q 3 1) 0) ≡ t
unfolding kept_byte
kept_byte_lem true true = refl
kept_byte_lem true false = refl
kept_byte_lem false q = refl

pending-byte : (t q : Bool) → pending_byte (cond t (cond q 3 1) 0) ≡ (t && q)
unfolding pending_byte
pending-byte true true = refl
pending-byte true false = refl
pending-byte false q = refl

negative-sign : (w : ℤ) → measured_negative w ≡ true → is_negative w ≡ true
unfolding measured_negative
negative-sign (pos n) e = e
negative-sign (negsuc n) e = refl

non-negative-sign : (w : ℤ) → measured_non_negative w ≡ true → is_negative w ≡ false
unfolding measured_non_negative
non-negative-sign (pos n) e = refl
non-negative-sign (negsuc n) e = not-both false e refl

-- a value that S keeps, one beside S that is not negative, and one that begin makes up
worked-sign : (t n f : Bool) (w : ℤ) (m : ℕ) → (t ≡ true → is_negative w ≡ true) → (n ≡ true → is_negative w ≡ false)
    → is_negative (cond (t || (n && f)) w (pos m)) ≡ t
worked-sign true n f w m inner outer = inner refl
worked-sign false true true w m inner outer = outer refl
worked-sign false true false w m inner outer = refl
worked-sign false false f w m inner outer = refl

-- ---- any starting body

-- a set of voxels, within the grid
unfoldable pub in_grid : Sides → (ℕ → Bool) → ℕ → Bool
in_grid s K j = ltb j (size s) && K j

module _ (s : Sides) (m : Marked) (S : List ℕ) (K : ℕ → Bool) where
  abbrev started : List ℕ
  started = start_status s m S K

  body-in-grid : (j : ℕ) → j < size s → in_grid s K j ≡ K j
  unfolding in_grid
  body-in-grid j h = ap (λ (t : Bool). t && K j) (lt-ltb j (size s) h)

  body-beyond : (j : ℕ) → size s ≤ j → in_grid s K j ≡ false
  unfolding in_grid
  body-beyond j h = ap (λ (t : Bool). t && K j) (le-ltb j (size s) h)

  pub status-lent : length started ≡ size s
  unfolding start_status voxels
  status-lent = length-map-range (status_at s m S K) (size s)

  status-start : (j : ℕ) → j < size s → status_of started j ≡ status_at s m S K j
  unfolding start_status voxels
  status-start j h = get_d-map-range (status_at s m S K) 0 (size s) j h

  -- pending at first
  abbrev waits : ℕ → Bool
  waits j = not (is_in S j) && waits_first s m K j

  kept_in : (j : ℕ) → j < size s → is_kept started j ≡ in_grid s K j
  unfolding is_kept status_at
  kept_in j h = ap kept_byte (status-start j h) ∙ kept_byte_lem (K j) (waits j) ∙ sym (body-in-grid j h)

  -- kept at first is the body to start from
  pub kept-at-first : (j : ℕ) → j < size s → is_kept started j ≡ K j
  kept-at-first j h = kept_in j h ∙ body-in-grid j h

  pub kept-start : (j : ℕ) → is_kept started j ≡ in_grid s K j
  kept-start j =
      elim (dec_lt j (size s)) [
        | yes h ↦ kept_in j h
        | no n ↦ kept-beyond started j (omega (arith, status-lent)) ∙ sym (body-beyond j (omega arith))
      ]

  pending-in : (j : ℕ) → j < size s → is_pending started j ≡ (in_grid s K j && waits j)
  unfolding is_pending status_at
  pending-in j h = ap pending_byte (status-start j h) ∙ pending-byte (K j) (waits j) ∙ ap (λ (t : Bool). t && waits j) (sym (body-in-grid j h))

  pub pending-start : (j : ℕ) → is_pending started j ≡ (in_grid s K j && waits j)
  pending-start j =
      elim (dec_lt j (size s)) [
        | yes h ↦ pending-in j h
        | no n ↦ pending-beyond started j (omega (arith, status-lent)) ∙ sym (ap (λ (t : Bool). t && waits j) (body-beyond j (omega arith)))
      ]

  module _ (shape : Shape s (in_grid s K) 0 (pos 1)) (holds : (j : ℕ) → is_in S j ≡ true → in_grid s K j ≡ true) where
    -- the body by index has the same face neighbours
    exposed-same : (j : ℕ) → in_grid s K j ≡ true → exposed s K j ≡ exposed s (in_grid s K) j
    unfolding exposed neighbourhood
    exposed-same j e =
        any-ext (λ p. not (neighbourhood s K j p)) (λ p. not (neighbourhood s (in_grid s K) j p)) face_positions (λ p m.
        let u = (shape.inner j e).1 in
        let a = neighbour-at s (voxel s j) u p (face-taxicab p m).1 in
        let w : Voxel = neighbour (voxel s j) p in
        ap not (
        neighbourhood-at s K (voxel s j) w p u a.0
        ∙ sym (body-in-grid (index s w) (index-lt s w a.1))
        ∙ sym (neighbourhood-at s (in_grid s K) (voxel s j) w p u a.0)))

    -- what holds at the start, whatever voxels are held, if the pinned ones are
    pub start-sound : (held : ℕ → Bool) → ((j : ℕ) → m.pinned j ≡ true → held j ≡ true) → Sound s (is_in S) held (found s K) started (tally 0 0 0 (pos 1))
    start-sound held within = record { inv = inv; lent = status-lent }
      where
        kept : is_kept started ≡ in_grid s K
        kept = fun_ext kept-start

        waits-first : (j : ℕ) → held j ≡ false → exposed s K j ≡ true → waits_first s m K j ≡ true
        waits-first j h e =
            unfold waits_first in
            let free : m.pinned j ≡ false = elim (two (m.pinned j)) [ inl p ↦ not-both (held j) (within j p) h | inr p ↦ p ] in
            true-or (m.hurried j) (not (m.pinned j) && exposed s K j) (inr (true-and (not (m.pinned j)) (exposed s K j) (ap not free) e))

        start : Start s (is_in S) held (is_kept started) (is_pending started)
        start =
            record {
              shape = subst (λ (k : ℕ → Bool). Shape s k 0 (pos 1)) (sym kept) shape;
              inside = λ j m. kept-start j ∙ holds j m;
              waiting = λ j e.
                  let p = and-true (in_grid s K j) (waits j) (sym (pending-start j) ∙ e) in
                  (kept-start j ∙ p.0, not-true (is_in S j) (and-true (not (is_in S j)) (waits_first s m K j) p.1).0);
              surface = λ j kj sj hj e.
                  let b : in_grid s K j ≡ true = sym (kept-start j) ∙ kj in
                  let x : exposed s K j ≡ true = exposed-same j b ∙ ap (λ (k : ℕ → Bool). exposed s k j) (sym kept) ∙ e in
                  pending-start j ∙ true-and (in_grid s K j) (waits j) b (true-and (not (is_in S j)) (waits_first s m K j) (ap not sj) (waits-first j hj x));
            }

        inv : Inv s (is_in S) held (found s K) (sets started (tally 0 0 0 (pos 1)))
        inv =
            subst (λ (n : ℕ). Inv s (is_in S) held n (sets started (tally 0 0 0 (pos 1))))
            (found-same s (is_kept started) K kept-at-first)
            (start-inv s (is_in S) held (is_kept started) (is_pending started) start)

-- ---- the box of some voxels off the border

module _ (s : Sides) (sides : Fit s) (S : List ℕ)
    (off : (j : ℕ) → is_in S j ≡ true → (j < size s) × (Inner s (voxel s j))) (first : ℕ) (some_in : is_in S first ≡ true) where
  fits : Fits s (bounds s S)
  fits =
      let x = extremes s.a S (λ j. (voxel s j).x) (omega (arith, sides.a-low)) (λ j m. ((off j m).1.x-low, (off j m).1.x-high)) first some_in in
      let y = extremes s.b S (λ j. (voxel s j).y) (omega (arith, sides.b-low)) (λ j m. ((off j m).1.y-low, (off j m).1.y-high)) first some_in in
      let z = extremes s.c S (λ j. (voxel s j).z) (omega (arith, sides.c-low)) (λ j m. ((off j m).1.z-low, (off j m).1.z-high)) first some_in in
      record {
        x-low = x.0;
        x-some = x.1;
        x-high = x.2;
        y-low = y.0;
        y-some = y.1;
        y-high = y.2;
        z-low = z.0;
        z-some = z.1;
        z-high = z.2;
      }

  pub box-shape : Shape s (in_grid s (in_box s S)) 0 (pos 1)
  box-shape = subst (λ (k : ℕ → Bool). Shape s k 0 (pos 1)) (sym (fun_ext same)) (boxed-shape s (bounds s S) fits 0)
    where
      same : (j : ℕ) → in_grid s (in_box s S) j ≡ boxed s (bounds s S) j
      same j = unfold in_grid boxed in ap (λ (t : Bool). ltb j (size s) && t) (box-bounds s S j)

  pub box-holds : (j : ℕ) → is_in S j ≡ true → in_grid s (in_box s S) j ≡ true
  box-holds j m = unfold in_grid in true-and (ltb j (size s)) (in_box s S j) (lt-ltb j (size s) (off j m).0) (in-box s S j m)

-- ---- begin

-- the signs of the worked distances are S
pub worked-signs : (s : Sides) (values : List ℤ) (i : ℕ) → i < size s → is_inside (worked s values (inside s values)) i ≡ is_in (inside s values) i
unfolding is_inside worked worked_at voxels
worked-signs s values i h =
    let S = inside s values in
    let M = greatest_facing s values S in
    ap (λ (w : ℤ). is_negative w) (get_d-map-range (worked_at s values S M) (pos 0) (size s) i h)
    ∙ worked-sign (is_in S i) (measured_non_negative (value_at values i)) (facing s S i) (value_at values i) (cond (facing s S i) M (M + distance s S i))
    (λ m. negative-sign (value_at values i) (and-true (ltb i (size s)) (measured_negative (value_at values i)) (inside-members s values i m)).1)
    (non-negative-sign (value_at values i))
