-- The status: of a row, of all rows, and by the rule.
use mathlib.Core.Path.{◌≡◌, refl, sym, ap, ap₂, ◌∙◌, subst}
use mathlib.Core.Logic.{inl, inr}
use mathlib.Core.Bool.{Bool, true, false, not, cond, ◌&&◌, ◌||◌}
use mathlib.Core.List.{List, map, ◌++◌}
use Prim.Native.Nat.{ℕ, ◌+◌, ◌-◌, ◌*◌, ◌/◌, ◌%◌, ◌≤◌, ◌<◌}
use native.Mathlib.Omega.{arith}
use native.Mathlib.Nat.{zero-add}
use lib.Dec.{eqb, leb}
use borrow.Rule.Slice.PartMut.{put_mid}
use lib.ListN.{length, get_or, set, take, drop, length-set, length-take, length-drop}
use lib.Seq.{get_or-set_same, get_or-set_other}
use borrow.Author.Tests.{eq-eqb, ne_eqb, eqb-true, eqb-false, le-leb, leb-true, lt-leb}
use Rattle.std.specs.Ordering.{nat_cmp, is_le, is_lt}
use Rattle.std.specs.declared.ops.RangeInclusive.{RangeInclusive}
use Rattle.std.specs.Range.{range_inclusive_start, range_inclusive_end, range_inclusive_exhausted}
use Rattle.std.proofs.lemmas.Bool.Decides.{nat_tests}
use Rattle.prelude.proofs.Bools.{two, and-true, true-and, both_ways, and_zero, and_one, or-one}
use Rattle.rules.specs.declared.Sides.{Sides}
use Rattle.rules.specs.Grid.{Voxel, fit_sides, range, size, voxel, voxels}
use Rattle.rules.specs.Marks.{unmarked}
use Rattle.rules.specs.Begin.{is_in, in_box, waits_first, status_at, start_status}
use Rattle.rules.specs.Meaning.{SomeVoxels, Between}
use Rattle.rules.proofs.Places.{fit, InGrid, voxel-in}
use Rattle.rules.proofs.Boxes.{box-boxed, boxed-box}
use Rattle.loops.specs.InPlace.{Each}
use Rattle.loops.specs.Rows.{Row}
use Rattle.loops.proofs.InPlace.{each-join}
use Rattle.loops.proofs.Parts.{each_part, each_passed}
use Rattle.loops.proofs.Below.{map_same}
use Rattle.loops.proofs.Rows.{row-voxel}
use Rattle.bounding_box.specs.declared.Bounds.{Bounds}
use Rattle.bounding_box.specs.Bounds.{Spanned, Enclosable, Enclosed, reach, within, on_side, status_in, status_by, row_status, SettledRow}
use Rattle.bounding_box.proofs.Bounding.{low-reached, high-reached}
use Rattle.bounding_box.proofs.Exposing.{exposed-side}

-- ---- a row of the box

reach-in : (low high k : ℕ) → low ≤ k → k ≤ high → reach low high k ≡ true
reach-in low high k l h = true-and (leb low k) (leb k high) (le-leb low k l) (le-leb k high h)

reach-below : (low high k : ℕ) → k < low → reach low high k ≡ false
reach-below low high k l = ap (λ (t : Bool). t && leb k high) (lt-leb low k l)

reach-above : (low high k : ℕ) → high < k → reach low high k ≡ false
reach-above low high k h = ap (λ (t : Bool). leb low k && t) (lt-leb k high h) ∙ and_zero (leb low k)

module _ (low high other : ℕ) (l : List ℕ) (order : low ≤ high) (room : high < length l) where
  -- the ends are not told apart yet
  plain : ℕ → ℕ → ℕ
  plain k d = cond (reach low high k) (cond (eqb d 0) 1 other) 0

  -- after each of three parts
  abbrev pub first : List ℕ → List ℕ
  first before = before ++ drop low l

  abbrev pub second : List ℕ → List ℕ → List ℕ
  second before box = put_mid low (high + 1 - low) (first before) box

  abbrev pub third : List ℕ → List ℕ → List ℕ → List ℕ
  third before box after = put_mid (high + 1) (length (second before box) - (high + 1)) (second before box) after

  three_parts : (before box after : List ℕ) (end : ℕ) → length before ≡ low → ((k : ℕ) → k < low → get_or before k 0 ≡ 0)
      → length box ≡ high + 1 - low → high + 1 - low ≤ end → Each 0 (λ k d. cond (eqb d 0) 1 other) 0 end (take (high + 1 - low) (drop low (first before))) box
      → length after ≡ length (second before box) - (high + 1) → ((k : ℕ) → k < length (second before box) - (high + 1) → get_or after k 0 ≡ 0)
      → Each 0 plain 0 (length l) l (third before box after)
  unfolding plain
  three_parts before box after end len₁ zero₁ len₂ all E len₃ zero₃ =
      let E₁ : Each 0 plain 0 low l (first before) =
      each_part 0 0 low low l before (omega arith) (omega arith) len₁ plain
      (λ k h. rw (zero-add k) (zero₁ k h ∙ ap (λ (t : Bool). cond t (cond (eqb (get_or l k 0) 0) 1 other) 0) (sym (reach-below low high k h)))) in
      let E₂ : Each 0 plain low (high + 1) (first before) (second before box) =
      each_passed 0 low (high + 1 - low) (high + 1) (first before) box (omega (arith, E₁.len)) (omega arith) len₂ plain
      (λ k d. cond (eqb d 0) 1 other) end all E
      (λ k d h. ap (λ (t : Bool). cond t (cond (eqb d 0) 1 other) 0) (sym (reach-in low high (low + k) (omega arith) (omega arith)))) in
      let n : length (second before box) ≡ length l = E₂.len ∙ E₁.len in
      let E₃ : Each 0 plain (high + 1) (length l) (second before box) (third before box after) =
      each_part 0 (high + 1) (length (second before box) - (high + 1)) (length l) (second before box) after (omega arith) (omega arith) len₃ plain
      (λ k h. zero₃ k h
      ∙ ap (λ (t : Bool). cond t (cond (eqb (get_or (second before box) (high + 1 + k) 0) 0) 1 other) 0) (sym (reach-above low high (high + 1 + k) (omega arith)))) in
      each-join 0 plain 0 (high + 1) (length l) l (second before box) (third before box after) (omega arith) (omega arith)
      (each-join 0 plain 0 low (high + 1) l (first before) (second before box) (omega arith) (omega arith) E₁ E₂) E₃

  at-end : (k d : ℕ) → (eqb k low || eqb k high) ≡ true → low ≤ k → k ≤ high → cond (eqb d 0) 1 3 ≡ row_status low high other k d
  unfolding row_status
  at-end k d e p q =
      ap₂ (λ (t u : Bool). cond t (cond (eqb d 0) 1 (cond u 3 other)) 0) (sym (reach-in low high k p q)) (sym e)

  off-ends : (k d : ℕ) → (k ≡ low → ⊥) → (k ≡ high → ⊥) → plain k d ≡ row_status low high other k d
  unfolding row_status plain
  off-ends k d p q = rw (ne_eqb k low p, ne_eqb k high q)

  -- and then the ends
  pub row_done : (before box after : List ℕ) (end p q : ℕ) → length before ≡ low → ((k : ℕ) → k < low → get_or before k 0 ≡ 0)
      → length box ≡ high + 1 - low → high + 1 - low ≤ end → Each 0 (λ k d. cond (eqb d 0) 1 other) 0 end (take (high + 1 - low) (drop low (first before))) box
      → length after ≡ length (second before box) - (high + 1) → ((k : ℕ) → k < length (second before box) - (high + 1) → get_or after k 0 ≡ 0)
      → p ≡ cond (eqb (get_or l low 0) 0) 1 3 → q ≡ cond (eqb (get_or l high 0) 0) 1 3
      → Each 0 (row_status low high other) 0 (length l) l (set (set (third before box after) low p) high q)
  row_done before box after end p q len₁ zero₁ len₂ all M len₃ zero₃ e f =
      let E = three_parts before box after end len₁ zero₁ len₂ all M len₃ zero₃ in
      let l₃ = third before box after in
      let n = length-set l₃ low p in
      let m : length l₃ ≡ length l = E.len in
      record {
        len = length-set (set l₃ low p) high q ∙ n ∙ m;
        inside = λ k g h.
            elim (two (eqb k high)) [
              | inl a ↦
                  let k-is = eqb-true k high a in
                  subst (λ (j : ℕ). get_or (set (set l₃ low p) high q) j 0 ≡ row_status low high other j (get_or l j 0)) (sym k-is)
                  (get_or-set_same (set l₃ low p) high q 0 (omega arith)
                  ∙ f
                  ∙ at-end high (get_or l high 0) (ap (λ (t : Bool). eqb high low || t) (eq-eqb high high refl) ∙ or-one (eqb high low)) order
                  (omega arith))
              | inr a ↦
                  let off = eqb-false k high a in
                  get_or-set_other (set l₃ low p) high k q 0 off
                  ∙ elim (two (eqb k low)) [
                    | inl b ↦
                        subst (λ (j : ℕ). get_or (set l₃ low p) j 0 ≡ row_status low high other j (get_or l j 0)) (sym (eqb-true k low b))
                        (get_or-set_same l₃ low p 0 (omega arith)
                        ∙ e
                        ∙ at-end low (get_or l low 0) (ap (λ (t : Bool). t || eqb low high) (eq-eqb low low refl)) (omega arith) order)
                    | inr b ↦ get_or-set_other l₃ low k p 0 (eqb-false k low b) ∙ E.inside k g h ∙ off-ends k (get_or l k 0) (eqb-false k low b) off
                  ]
            ];
        outside = λ k o.
            get_or-set_other (set l₃ low p) high k q 0
            (λ z. let t = o (omega arith) in let b : ⊥ = omega arith in b)
            ∙ get_or-set_other l₃ low k p 0 (λ z. let t = o (omega arith) in let b : ⊥ = omega arith in b)
            ∙ E.outside k o;
      }

-- ---- a row of the grid

le-is : (p q : ℕ) → is_le (nat_cmp p q) ≡ leb p q
le-is p q = grind (arith, nat_tests)

-- what a range from low to high answers
pub contains-is : (r : RangeInclusive ℕ) (low high p : ℕ) → range_inclusive_start r ≡ low → range_inclusive_end r ≡ high
    → range_inclusive_exhausted r ≡ false → (t : Bool)
    → t ≡ (is_le (nat_cmp (range_inclusive_start r) p)
    && cond (range_inclusive_exhausted r) (is_lt (nat_cmp p (range_inclusive_end r))) (is_le (nat_cmp p (range_inclusive_end r))))
    → t ≡ reach low high p
contains-is r low high p e f g t q = q ∙ rw (e, f, g) (ap₂ (λ (a b : Bool). a && b) (le-is low p) (le-is p high))

-- outside S, at an end of the row or on the rim
ends-or-rim : (d p q a b c e : Bool)
    → cond {A = ℕ} d 1 (cond (p || q) 3 (cond (a || (b || (c || e))) 3 1)) ≡ cond (not d && (a || (b || (p || (q || (c || e)))))) 3 1
ends-or-rim true p q a b c e = refl
ends-or-rim false p q true b c e = three (p || q)
  where
    three : (t : Bool) → cond {A = ℕ} t 3 3 ≡ 3
    three true = refl
    three false = refl
ends-or-rim false p q false true c e = three (p || q)
  where
    three : (t : Bool) → cond {A = ℕ} t 3 3 ≡ 3
    three true = refl
    three false = refl
ends-or-rim false true q false false c e = refl
ends-or-rim false false true false false c e = refl
ends-or-rim false false false false false c e = refl

module _ (b : Bounds) (y z : ℕ) where
  -- the row meets the box
  abbrev pub in_rows : Bool
  in_rows = reach b.y0 b.y1 y && reach b.z0 b.z1 z

  abbrev pub rim-is : ℕ
  rim-is = cond (eqb z b.z0 || (eqb y b.y0 || (eqb y b.y1 || eqb z b.z1))) 3 1

  abbrev pub here : ℕ → Voxel
  here x = record { x = x; y = y; z = z }

  pub row-outside : in_rows ≡ false → (x d : ℕ) → 0 ≡ status_in b (here x) d
  unfolding status_in within
  row-outside e x d =
      sym (ap (λ (t : Bool). cond (reach b.x0 b.x1 x && t) (cond (not (eqb d 0) && on_side b (here x)) 3 1) 0) e
      ∙ ap (λ (t : Bool). cond t (cond (not (eqb d 0) && on_side b (here x)) 3 1) 0) (and_zero (reach b.x0 b.x1 x)))

  pub row_inside : in_rows ≡ true → (o : ℕ) → o ≡ rim-is → (x d : ℕ) → row_status b.x0 b.x1 o x d ≡ status_in b (here x) d
  unfolding status_in within on_side row_status
  row_inside e o f x d =
      rw (
        f,
        ends-or-rim (eqb d 0) (eqb x b.x0) (eqb x b.x1) (eqb z b.z0) (eqb y b.y0) (eqb y b.y1) (eqb z b.z1),
      )
      (sym (ap (λ (t : Bool). cond (reach b.x0 b.x1 x && t) (cond (not (eqb d 0) && on_side b (here x)) 3 1) 0) e
      ∙ ap (λ (t : Bool). cond t (cond (not (eqb d 0) && on_side b (here x)) 3 1) 0) (and_one (reach b.x0 b.x1 x))))

-- that row among all, of which it is a part
module _ (s : Sides) (b : Bounds) (r : ℕ) (l part : List ℕ) (R : Row s (length l) r) where
  abbrev start : ℕ
  start = s.a * r

  abbrev n : ℕ
  n = start + s.a - start

  pub settled-row : Each 0 (λ x d. status_in b (here b (r % s.b) (r / s.b) x) d) 0 (length (take n (drop start l))) (take n (drop start l)) part
      → SettledRow s b r l (put_mid start n l part)
  settled-row E =
      each_passed 0 start n (start + s.a) l part R.last (omega arith) (omega (arith, E.len, R.last, length-take {A = ℕ}, length-drop {A = ℕ}))
      (λ k d. status_in b (voxel s k) d) (λ x d. status_in b (here b (r % s.b) (r / s.b) x) d) (length (take n (drop start l)))
      (omega (arith, R.last, length-take {A = ℕ}, length-drop {A = ℕ})) E
      (λ k d h. ap (λ (v : Voxel). status_in b v d) (sym (row-voxel s r k (omega arith))))

-- ---- the box and the status of bytes that are 0 at the voxels of S

module _ (s : Sides) (fits : fit_sides s ≡ true) (S : List ℕ) (some : SomeVoxels s S) (d : List ℕ) (len : length d ≡ size s)
    (zero_in : (k : ℕ) → k < size s → is_in S k ≡ eqb (get_or d k 0) 0) where
  in-zero : (k : ℕ) → is_in S k ≡ true → get_or d k 0 ≡ 0
  in-zero k e = eqb-true (get_or d k 0) 0 (sym (zero_in k (some.within k e)) ∙ e)

  pub enclosable : Enclosable s d
  enclosable =
      let v = some.filled.0 in
      let e = some.filled.1 in
      record { fit = fits; len = len; some = v; some_in = some.within v e; some-listed = in-zero v e }

  in-grid : (k : ℕ) → k < size s → InGrid s (voxel s k)
  in-grid k h = let F = fit s fits in voxel-in s k (omega (arith, F.a-low)) (omega (arith, F.b-low)) h

  module _ (b : Bounds) (B : Enclosed s d b) where
    -- along one axis
    module _ (coordinate : Voxel → ℕ) (side low high : ℕ) (T : Spanned d (λ k. coordinate (voxel s k)) side (size s) low high)
        (below : (k : ℕ) → k < size s → coordinate (voxel s k) < side) (i : ℕ) where
      spanned-between : reach low high (coordinate (voxel s i)) ≡ true → Between S (λ k. coordinate (voxel s k)) i
      spanned-between e =
          let p = and-true (leb low (coordinate (voxel s i))) (leb (coordinate (voxel s i)) high) e in
          let v = some.filled.0 in
          let v-in = some.within v some.filled.1 in
          let v-zero = in-zero v some.filled.1 in
          let lo = low-reached d (λ k. coordinate (voxel s k)) side (size s) low high v v-in v-zero T (below v v-in) in
          let hi = high-reached d (λ k. coordinate (voxel s k)) side (size s) low high v v-in v-zero T in
          record {
            low = lo.reached;
            high = hi.reached;
            low-listed = zero_in lo.reached lo.below ∙ eq-eqb _ 0 lo.listed;
            high-listed = zero_in hi.reached hi.below ∙ eq-eqb _ 0 hi.listed;
            above_low = omega (arith, lo.stands, leb-true low _ p.0);
            below-high = omega (arith, hi.stands, leb-true _ high p.1);
          }

      between-spanned : Between S (λ k. coordinate (voxel s k)) i → reach low high (coordinate (voxel s i)) ≡ true
      between-spanned w =
          let lo = T.above w.low (some.within w.low w.low-listed) (in-zero w.low w.low-listed) in
          let hi = T.below w.high (some.within w.high w.high-listed) (in-zero w.high w.high-listed) in
          reach-in low high (coordinate (voxel s i)) (omega (arith, w.above_low)) (omega (arith, w.below-high))

    box-within : (k : ℕ) → k < size s → in_box s S k ≡ within b (voxel s k)
    unfolding within
    box-within k h =
        let X = B.bounded.x-spanned in
        let Y = B.bounded.y-spanned in
        let Z = B.bounded.z-spanned in
        let v = voxel s k in
        both_ways (in_box s S k) (reach b.x0 b.x1 v.x && (reach b.y0 b.y1 v.y && reach b.z0 b.z1 v.z))
        (λ e.
        let w = box-boxed s S k h e in
        true-and (reach b.x0 b.x1 v.x) (reach b.y0 b.y1 v.y && reach b.z0 b.z1 v.z)
        (between-spanned (λ u. u.x) s.a b.x0 b.x1 X (λ j l. (in-grid j l).x-in) k w.along-x)
        (true-and (reach b.y0 b.y1 v.y) (reach b.z0 b.z1 v.z)
        (between-spanned (λ u. u.y) s.b b.y0 b.y1 Y (λ j l. (in-grid j l).y-in) k w.along-y)
        (between-spanned (λ u. u.z) s.c b.z0 b.z1 Z (λ j l. (in-grid j l).z-in) k w.along-z)))
        (λ e.
        let p = and-true (reach b.x0 b.x1 v.x) (reach b.y0 b.y1 v.y && reach b.z0 b.z1 v.z) e in
        let q = and-true (reach b.y0 b.y1 v.y) (reach b.z0 b.z1 v.z) p.1 in
        boxed-box s S k
        (record {
          along-x = spanned-between (λ u. u.x) s.a b.x0 b.x1 X (λ j l. (in-grid j l).x-in) k p.0;
          along-y = spanned-between (λ u. u.y) s.b b.y0 b.y1 Y (λ j l. (in-grid j l).y-in) k q.0;
          along-z = spanned-between (λ u. u.z) s.c b.z0 b.z1 Z (λ j l. (in-grid j l).z-in) k q.1;
        }))

    status-same : (k : ℕ) → k < size s → status_in b (voxel s k) (get_or d k 0) ≡ status_at s unmarked S (in_box s S) k
    unfolding status_in status_at waits_first
    status-same k h =
        ap₂ (λ (w t : Bool). cond {A = ℕ} w (cond (not t && on_side b (voxel s k)) 3 1) 0) (sym (box-within k h)) (sym (zero_in k h))
        ∙ elim (two (in_box s S k)) [
          | inl e ↦
              ap (λ (t : Bool). cond {A = ℕ} (in_box s S k) (cond (not (is_in S k) && t) 3 1) 0)
              (sym (exposed-side s b B.proper (in_box s S) box-within k (sym (box-within k h) ∙ e)))
          | inr e ↦ rw e
        ]

    pub status-is : status_by s b d ≡ start_status s unmarked S (in_box s S)
    unfolding status_by start_status voxels
    status-is =
        ap (λ (n : ℕ). map (λ k. status_in b (voxel s k) (get_or d k 0)) (range 0 n)) len
        ∙ map_same (λ k. status_in b (voxel s k) (get_or d k 0)) (status_at s unmarked S (in_box s S)) 0 (size s) status-same
