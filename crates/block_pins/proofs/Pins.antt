-- Pinned voxels, and the bytes of pinned blocks read as marks.
use mathlib.Core.Path.{◌≡◌, refl, ap, sym, ◌∙◌, fun_ext}
use mathlib.Core.Bool.{Bool, true, false, cond, ◌||◌}
use mathlib.Core.List.{List, map}
use Prim.Native.Nat.{ℕ, ◌+◌, ◌*◌, ◌/◌, ◌%◌, ◌≤◌, ◌<◌}
use native.Mathlib.Omega.{arith}
use native.Mathlib.Decide.{dec_lt}
use native.Mathlib.Nat.{mul_comm, mul_assoc, mul-le-mul, mul-le-mul_left, div-lt_iff_lt-mul}
use lib.ListN.{length, get_or, get_or-eq_default}
use Rattle.cells.specs.Groups.{any}
use Rattle.prelude.proofs.Bools.{or-zero}
use Rattle.prelude.proofs.Lists.{false-any}
use Rattle.prelude.proofs.Ranges.{get_d-map-range, length-map-range}
use Rattle.rules.specs.declared.Sides.{Sides}
use Rattle.rules.specs.Grid.{size, index, voxel, voxels, range}
use Rattle.rules.specs.Marks.{mark_of, pinned_mark, hurried_mark, marked}
use Rattle.rules.proofs.Places.{fit}
use Rattle.rules.proofs.InsideLeast.{map-mem}
use Rattle.coarse.specs.Blocks.{halved, part_of, eight, block_marks}
use Rattle.blocks.specs.Work.{corners, Blocked}
use Rattle.block_pins.specs.Pins.{pin_at}

-- a test of four pairs is one of the eight
pub any-corners : (p : ℕ → Bool) (a l at : ℕ)
    → ((p at || p (at + 1)) || (p (at + a) || p (at + a + 1))) || ((p (at + l) || p (at + l + 1)) || (p (at + a + l) || p (at + a + l + 1)))
    ≡ any p (corners a l at)
unfolding any
any-corners p a l at =
    four (p at) (p (at + 1)) (p (at + a)) (p (at + a + 1)) _
    ∙ ap (λ (t : Bool). p at || (p (at + 1) || (p (at + a) || (p (at + a + 1) || t))))
    (sym (or-zero _) ∙ four (p (at + l)) (p (at + l + 1)) (p (at + a + l)) (p (at + a + l + 1)) false)
  where
    four : (x y z w t : Bool) → ((x || y) || (z || w)) || t ≡ x || (y || (z || (w || t)))
    four true y z w t = refl
    four false true z w t = refl
    four false false true w t = refl
    four false false false w t = refl

-- the byte of a block
flag-pins : (t : Bool) → pinned_mark (cond t 1 0) ≡ t
unfolding pinned_mark
flag-pins true = refl
flag-pins false = refl

flag-hurries : (t : Bool) → hurried_mark (cond t 1 0) ≡ false
unfolding hurried_mark
flag-hurries true = refl
flag-hurries false = refl

module _ (s : Sides) (marks : List ℕ) (blocks : ℕ) (B : Blocked s (length marks) blocks) where
  abbrev h : Sides
  h = halved s

  -- the eight voxels of what is no block lie beyond the grid
  part-beyond : (j o : ℕ) → size h ≤ j → size s ≤ index s (part_of (voxel h j) o)
  unfolding size halved voxel index
  part-beyond j o l =
      let p : ℕ = s.a / 2 * (s.b / 2) in
      let v = voxel h j in
      let w = fit h B.half-sides in
      let some : 1 * 1 ≤ p = mul-le-mul (let t : 1 ≤ s.a / 2 = omega (arith, w.a-low) in t) (let t : 1 ≤ s.b / 2 = omega (arith, w.b-low) in t) in
      let high : s.c / 2 ≤ j / p =
      elim (dec_lt (j / p) (s.c / 2)) [
        | yes k ↦
            (let q : j < s.c / 2 * p = (div-lt_iff_lt-mul {k = p} {x = j} {y = s.c / 2} (omega arith)).0 k in
            let z : ⊥ = omega (arith, mul_comm (s.c / 2) p) in
            absurd z)
        | no n ↦ omega arith
      ] in
      let layer : s.b * s.c ≤ s.b * (2 * (j / p) + o / 4) =
      mul-le-mul_left s.b (let t : s.c ≤ 2 * (j / p) + o / 4 = omega (arith, B.even.c-even) in t) in
      let all : s.a * (s.b * s.c) ≤ s.a * (2 * v.y + o / 2 % 2 + s.b * (2 * (j / p) + o / 4)) =
      mul-le-mul_left s.a (let t : s.b * s.c ≤ 2 * v.y + o / 2 % 2 + s.b * (2 * (j / p) + o / 4) = omega arith in t) in
      omega (arith, mul_assoc s.a s.b s.c)

  beyond : (j : ℕ) → size h ≤ j → any (marked marks).pinned (eight s j) ≡ false
  unfolding eight marked pinned_mark
  beyond j l =
      false-any (marked marks).pinned (eight s j)
      (λ i m.
      let r = map-mem (λ o. index s (part_of (voxel h j) o)) (range 0 8) i m in
      let b = part-beyond j r.0 l in
      ap pinned_mark (get_or-eq_default marks 0 (let e : length marks ≤ i = omega (arith, r.2, B.len) in e)))

  module _ (bytes : List ℕ) (e : bytes ≡ map (λ j. pin_at s (marked marks) j 0) (voxels h)) where
    mark-of : (j : ℕ) → mark_of bytes j ≡ cond (any (marked marks).pinned (eight s j)) 1 0
    unfolding voxels block_marks
    mark-of j =
        ap (λ (l : List ℕ). get_or l j 0) e
        ∙ elim (dec_lt j (size h)) [
          | yes l ↦ get_d-map-range (λ j. pin_at s (marked marks) j 0) 0 (size h) j l
          | no n ↦
              (let l : size h ≤ j = omega arith in
              get_or-eq_default (map (λ j. pin_at s (marked marks) j 0) (range 0 (size h))) 0
              (let k : length (map (λ j. pin_at s (marked marks) j 0) (range 0 (size h))) ≤ j =
              omega (arith, length-map-range (λ j. pin_at s (marked marks) j 0) (size h)) in k)
              ∙ sym (ap (λ (t : Bool). cond {A = ℕ} t 1 0) (beyond j l)))
        ]

    pub pins-are : marked bytes ≡ block_marks s (marked marks)
    unfolding marked block_marks
    pins-are =
        λ i. record {
          pinned = fun_ext (λ j. ap pinned_mark (mark-of j) ∙ flag-pins (any (marked marks).pinned (eight s j))) i;
          hurried = fun_ext (λ j. ap hurried_mark (mark-of j) ∙ flag-hurries (any (marked marks).pinned (eight s j))) i;
        }
