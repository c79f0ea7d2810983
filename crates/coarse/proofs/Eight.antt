-- The eight voxels of a block are those that are in it, and its distance is the least of theirs.
use mathlib.Core.Path.{◌≡◌, refl, ap, sym, ◌∙◌, subst}
use mathlib.Core.Logic.{◌⊎◌, inl, inr}
use mathlib.Core.Bool.{Bool, true, false, cond, true≢false}
use mathlib.Core.List.{List, [], ◌∷◌, map}
use Prim.Native.Nat.{ℕ, ◌+◌, ◌*◌, ◌/◌, ◌%◌, ◌<◌}
use native.Mathlib.Omega.{arith}
use lib.IntN.{ℤ, pos, negsuc}
use lib.Signed.{lt_z}
use Rattle.prelude.proofs.Bools.{not-both}
use Rattle.prelude.proofs.Lists.{Mem, here, there, mem-cons}
use Rattle.prelude.proofs.Ranges.{range-mem, mem-range}
use Rattle.cells.proofs.Groups.{mem-none}
use Rattle.rules.specs.declared.Sides.{Sides}
use Rattle.rules.specs.Grid.{Voxel, size, index, voxel, range, distance_at, is_in, is_negative}
use Rattle.rules.proofs.Places.{InGrid, voxel-eq, voxel-index, index-voxel, index-lt, voxel-in}
use Rattle.rules.proofs.InsideLeast.{mem-map, map-mem}
use Rattle.rules.proofs.Inside.{is_in-mem, mem-is_in}
use Rattle.rules.proofs.Foremost.{lt_z-self, lt_z-turn, lt_z-not}
use Rattle.coarse.specs.Blocks.{halved, half_of, block_of, part_of, eight, least_from, block_distance}
use Rattle.coarse.specs.Eight.{Even, EightAreTheBlock, DistanceIsLeast}

-- ---- the voxels of a block

module _ (s : Sides) (even : Even s) where
  abbrev h : Sides
  h = halved s

  pub half-grid : (v : Voxel) → InGrid s v → InGrid h (half_of v)
  unfolding halved
  half-grid v g =
      record {
        x-in = omega (arith, g.x-in, even.a-even);
        y-in = omega (arith, g.y-in, even.b-even);
        z-in = omega (arith, g.z-in, even.c-even);
      }

  in-grid : (i : ℕ) → i < size s → InGrid s (voxel s i)
  in-grid i l = voxel-in s i even.a-some even.b-some l

  pub block-voxel : (i : ℕ) → i < size s → voxel h (block_of s i) ≡ half_of (voxel s i)
  unfolding block_of
  block-voxel i l = let g = half-grid (voxel s i) (in-grid i l) in voxel-index h (half_of (voxel s i)) g.x-in g.y-in

  pub block-lt : (i : ℕ) → i < size s → block_of s i < size h
  unfolding block_of
  block-lt i l = index-lt h (half_of (voxel s i)) (half-grid (voxel s i) (in-grid i l))

  -- a voxel of the eight, by its digits
  digits : (x y z : ℕ) → let o : ℕ = x % 2 + 2 * (y % 2) + 4 * (z % 2) in
      (2 * (x / 2) + o % 2 ≡ x) × (2 * (y / 2) + o / 2 % 2 ≡ y) × (2 * (z / 2) + o / 4 ≡ z) × (o < 8)
  digits x y z = (omega arith, omega arith, omega arith, omega arith)

  pub in-eight : (i : ℕ) → i < size s → Mem i (eight s (block_of s i))
  unfolding eight
  in-eight i l =
      let u = voxel s i in
      let o : ℕ = u.x % 2 + 2 * (u.y % 2) + 4 * (u.z % 2) in
      let d = digits u.x u.y u.z in
      let e : index s (part_of (voxel h (block_of s i)) o) ≡ i =
      ap (λ (w : Voxel). index s (part_of w o)) (block-voxel i l)
      ∙ ap (index s) (voxel-eq (part_of (half_of u) o) u d.0 d.1 d.2) ∙ index-voxel s i even.a-some even.b-some in
      subst (λ (n : ℕ). Mem n (map (λ o. index s (part_of (voxel h (block_of s i)) o)) (range 0 8))) e
      (mem-map (λ o. index s (part_of (voxel h (block_of s i)) o)) (range 0 8) o (mem-range 0 8 o (omega arith) (omega (arith, d.3))))

  pub of-eight : (i j : ℕ) → j < size h → Mem i (eight s j) → (i < size s) × (block_of s i ≡ j)
  unfolding eight block_of halved
  of-eight i j l m =
      let r = map-mem (λ o. index s (part_of (voxel h j) o)) (range 0 8) i m in
      let o = r.0 in
      let few = (range-mem 0 8 o r.1).1 in
      let w = voxel h j in
      let g = voxel-in h j (omega (arith, even.a-even, even.a-some)) (omega (arith, even.b-even, even.b-some)) l in
      let p : InGrid s (part_of w o) = record {
        x-in = omega (arith, g.x-in, even.a-even);
        y-in = omega (arith, g.y-in, even.b-even);
        z-in = omega (arith, g.z-in, even.c-even);
      } in
      let q : voxel s (index s (part_of w o)) ≡ part_of w o = voxel-index s (part_of w o) p.x-in p.y-in in (
        subst (λ (n : ℕ). n < size s) (sym r.2) (index-lt s (part_of w o) p),
        ap (λ (n : ℕ). index h (half_of (voxel s n))) r.2
            ∙ ap (λ (v : Voxel). index h (half_of v)) q
            ∙ ap (index h) (voxel-eq (half_of (part_of w o)) w (omega arith) (omega arith) (omega arith))
            ∙ index-voxel h j (omega (arith, even.a-even, even.a-some)) (omega (arith, even.b-even, even.b-some)),
      )

pub eight-are-the-block : EightAreTheBlock
eight-are-the-block s even i j l = (
  λ e. of-eight s even i j l (is_in-mem (eight s j) i e),
  λ r. subst (λ (n : ℕ). is_in (eight s n) i ≡ true) r.1 (mem-is_in (eight s (block_of s i)) i (in-eight s even i r.0)),
)

-- ---- the least of some numbers

record Least (f : ℕ → ℤ) (xs : List ℕ) (d : ℤ) : Type 0 where
  place : ℕ
  one_of : Mem place xs
  has : f place ≡ d
  none-less : (k : ℕ) → Mem k xs → lt_z (f k) d ≡ false

least-is : (f : ℕ → ℤ) (x : ℕ) (xs : List ℕ) → Least f (x ∷ xs) (least_from (f x) (map f xs))
unfolding least_from
least-is f x [] =
    record {
      place = x;
      one_of = here;
      has = refl;
      none-less = λ k m. elim (mem-cons m) [ inl e ↦ ap (λ (n : ℕ). lt_z (f n) (f x)) e ∙ lt_z-self (f x) | inr n ↦ absurd (mem-none n) ];
    }
least-is f x (y ∷ ys) = go (lt_z (least_from (f x) (map f ys)) (f y)) refl (least-is f x ys)
  where
    d : ℤ
    d = least_from (f x) (map f ys)

    among : {k : ℕ} → Mem k (x ∷ ys) → Mem k (x ∷ y ∷ ys)
    among m = elim (mem-cons m) [ inl e ↦ subst (λ (n : ℕ). Mem n (x ∷ y ∷ ys)) (sym e) here | inr n ↦ there (there n) ]

    split : {k : ℕ} → Mem k (x ∷ y ∷ ys) → (k ≡ y) ⊎ (Mem k (x ∷ ys))
    split m =
        elim (mem-cons m) [
          | inl e ↦ inr (subst (λ (n : ℕ). Mem n (x ∷ ys)) (sym e) here)
          | inr n ↦ elim (mem-cons n) [ inl e ↦ inl e | inr q ↦ inr (there q) ]
        ]

    go : (t : Bool) → lt_z d (f y) ≡ t → Least f (x ∷ ys) d → Least f (x ∷ y ∷ ys) (cond t d (f y))
    go true e r =
        record {
          place = r.place;
          one_of = among r.one_of;
          has = r.has;
          none-less = λ k m. elim (split m) [ inl q ↦ ap (λ (n : ℕ). lt_z (f n) d) q ∙ lt_z-turn d (f y) e | inr n ↦ r.none-less k n ];
        }
    go false e r =
        record {
          place = y;
          one_of = there here;
          has = refl;
          none-less =
              λ k m. elim (split m) [
                | inl q ↦ ap (λ (n : ℕ). lt_z (f n) (f y)) q ∙ lt_z-self (f y)
                | inr n ↦ lt_z-not (f k) d (f y) (r.none-less k n) e
              ];
        }

pub distance-is-least : DistanceIsLeast
unfolding block_distance eight range
distance-is-least s dist j =
    let r = least-is (distance_at dist) (index s (part_of (voxel (halved s) j) 0)) (map (λ o. index s (part_of (voxel (halved s) j) o)) (range 1 7)) in
    record {
      place = r.place;
      one_of = mem-is_in (eight s j) r.place r.one_of;
      has = r.has;
      none-less = λ i e. r.none-less i (is_in-mem (eight s j) i e);
    }

-- a block is negative if one of its eight is
module _ (s : Sides) (dist : List ℤ) (j : ℕ) where
  pub negative-part : is_negative (block_distance s dist j) ≡ true → (i : ℕ) × (Mem i (eight s j)) × (is_negative (distance_at dist i) ≡ true)
  negative-part e = let r = distance-is-least s dist j in (r.place, is_in-mem (eight s j) r.place r.one_of, ap (λ (w : ℤ). is_negative w) r.has ∙ e)

  pub part-negative : (i : ℕ) → Mem i (eight s j) → is_negative (distance_at dist i) ≡ true → is_negative (block_distance s dist j) ≡ true
  part-negative i m e = sign (distance_at dist i) (block_distance s dist j) e ((distance-is-least s dist j).none-less i (mem-is_in (eight s j) i m))
    where
      sign : (p q : ℤ) → is_negative p ≡ true → lt_z p q ≡ false → is_negative q ≡ true
      sign (pos a) q e f = not-both false e refl
      sign (negsuc a) (pos b) e f = absurd (true≢false f)
      sign (negsuc a) (negsuc b) e f = refl
