-- Splitting each voxel of a body in two by two by two keeps the body in one piece, the background in one piece, and the shape.
use mathlib.Core.Path.{◌≡◌, refl, ap, ap₂, sym, ◌∙◌, subst, fun_ext}
use mathlib.Core.Logic.{◌⊎◌, inl, inr}
use mathlib.Core.Bool.{Bool, true, false, not, ◌&&◌}
use Prim.Native.Nat.{ℕ, suc, ◌+◌, ◌-◌, ◌*◌, ◌/◌, ◌≤◌, ◌<◌}
use native.Mathlib.Omega.{arith}
use native.Mathlib.Decide.{dec_le, ℕ_discrete}
use lib.Dec.{ltb, eqb}
use lib.IntN.{ℤ}
use borrow.Author.Tests.{ltb-true, lt-ltb, eqb-true, eq-eqb}
use Rattle.cells.specs.Linked.{Linked, stay, step, OnePiece}
use Rattle.prelude.proofs.Bools.{and-true, both_ways, two}
use Rattle.cells.proofs.Chains.{append, link, reverse, carry, last-member}
use Rattle.rules.specs.declared.Sides.{Sides}
use Rattle.rules.specs.Grid.{Voxel, index, voxel, size, gap, near, touch, apart, taxicab, share_face}
use Rattle.rules.specs.Body.{body_of, euler_of}
use Rattle.rules.proofs.Places.{InGrid, voxel-eq, voxel-index, index-voxel, index-lt, voxel-in}
use Rattle.rules.proofs.Inside.{near-turn}
use Rattle.rules.proofs.Distance.{gap-zero, gap-none}
use Rattle.rules.proofs.Topology.Around.{Close, near-close, close-near, Inner}
use Rattle.rules.proofs.Topology.Surface.{body-true, body-in}
use Rattle.rules.proofs.Topology.Removal.{AllInner, background, apart-turn}
use Rattle.rules.proofs.Topology.Moves.{Shape}
use Rattle.coarse.specs.Blocks.{half_of}
use Rattle.coarse.proofs.SplitCells.{finer, doubled, euler-finer}

-- ---- voxels by coordinates

abbrev twice : Voxel → Voxel
twice v = record { x = 2 * v.x; y = 2 * v.y; z = 2 * v.z }

half_twice : (v : Voxel) → half_of (twice v) ≡ v
half_twice v = voxel-eq (half_of (twice v)) v (omega arith) (omega arith) (omega arith)

-- a relation between voxels that goes both ways, and chains of fine voxels: from each to the lowest of its eight, and from one eight to the next
module _ (P : Voxel → Bool) (R : Voxel → Voxel → Bool) (turn : (u v : Voxel) → R u v ≡ true → R v u ≡ true) where
  abbrev Q : Voxel → Bool
  Q v = P (half_of v)

  module _ (settle : (u : Voxel) → Q u ≡ true → Linked Q R u (twice (half_of u)))
      (hop : (u v : Voxel) → P u ≡ true → P v ≡ true → R u v ≡ true → Linked Q R (twice u) (twice v)) where
    hops : {u v : Voxel} → Linked P R u v → Linked Q R (twice u) (twice v)
    hops {u} (stay m) = stay (ap P (half_twice u) ∙ m)
    hops (step {y = y} {z = z} l j m) = append (hops l) (hop y z (last-member l) m j)

    one_split : OnePiece P R → OnePiece Q R
    one_split one u w qu qw = append (settle u qu) (append (hops (one (half_of u) (half_of w) qu qw)) (reverse turn (settle w qw)))

-- ---- touching

near-back : (u v : Voxel) → near u v ≡ true → near v u ≡ true
near-back u v e = near-turn v u ∙ e

-- of the eight of u, the one nearest to v
abbrev toward : Voxel → Voxel → Voxel
toward u v = record { x = 2 * u.x + (v.x - u.x); y = 2 * u.y + (v.y - u.y); z = 2 * u.z + (v.z - u.z) }

half-toward : (u v : Voxel) → Close u v → half_of (toward u v) ≡ u
half-toward u v h = voxel-eq (half_of (toward u v)) u (axis u.x v.x h.x-up) (axis u.y v.y h.y-up) (axis u.z v.z h.z-up)
  where
    axis : (p q : ℕ) → q ≤ suc p → (2 * p + (q - p)) / 2 ≡ p
    axis p q h = omega arith

module _ (P : Voxel → Bool) where
  settle-near : (u : Voxel) → P (half_of u) ≡ true → Linked (λ v. P (half_of v)) near u (twice (half_of u))
  settle-near u e =
      link e (close-near u (twice (half_of u)) (
      record { x-up = omega arith; x-down = omega arith; y-up = omega arith; y-down = omega arith; z-up = omega arith; z-down = omega arith }))
      (ap P (half_twice (half_of u)) ∙ e)

  hop-near : (u v : Voxel) → P u ≡ true → P v ≡ true → near u v ≡ true → Linked (λ v. P (half_of v)) near (twice u) (twice v)
  hop-near u v pu pv e =
      let h = near-close u v e in
      let k = near-close v u (near-back u v e) in
      let p = toward u v in
      let q = toward v u in
      step (step (link (ap P (half_twice u) ∙ pu) (close-near (twice u) p (first h)) (ap P (half-toward u v h) ∙ pu))
      (close-near p q (across h)) (ap P (half-toward v u k) ∙ pv))
      (near-back (twice v) q (close-near (twice v) q (first k))) (ap P (half_twice v) ∙ pv)
    where
      first : {u v : Voxel} → Close u v → Close (twice u) (toward u v)
      first {u} {v} h =
          record {
            x-up = omega (arith, h.x-up);
            x-down = omega arith;
            y-up = omega (arith, h.y-up);
            y-down = omega arith;
            z-up = omega (arith, h.z-up);
            z-down = omega arith;
          }

      across : Close u v → Close (toward u v) (toward v u)
      across h =
          record {
            x-up = (axis u.x v.x h.x-up h.x-down).0;
            x-down = (axis u.x v.x h.x-up h.x-down).1;
            y-up = (axis u.y v.y h.y-up h.y-down).0;
            y-down = (axis u.y v.y h.y-up h.y-down).1;
            z-up = (axis u.z v.z h.z-up h.z-down).0;
            z-down = (axis u.z v.z h.z-up h.z-down).1;
          }
        where
          axis : (p q : ℕ) → q ≤ suc p → p ≤ suc q → (2 * q + (p - q) ≤ suc (2 * p + (q - p))) × (2 * p + (q - p) ≤ suc (2 * q + (p - q)))
          axis p q h k = (omega arith, omega arith)

  near-split : OnePiece P near → OnePiece (λ v. P (half_of v)) near
  near-split one = one_split P near near-back settle-near hop-near one

-- ---- sharing a face

abbrev beside : Voxel → Voxel → Bool
beside u v = eqb (apart u v) 1

gap-half : (u : ℕ) → gap u (2 * (u / 2)) ≤ 1
unfolding gap
gap-half u = omega arith

gap-left : (u v : ℕ) → gap (2 * u) (u + v) ≡ gap u v
unfolding gap
gap-left u v = omega arith

gap-right : (u v : ℕ) → gap (u + v) (2 * v) ≡ gap u v
unfolding gap
gap-right u v = omega arith

beside_back : (u v : Voxel) → beside u v ≡ true → beside v u ≡ true
beside_back u v e = ap (λ (n : ℕ). eqb n 1) (apart-turn v u) ∙ e

-- voxels at most one step apart
hardly : (Q : Voxel → Bool) (u v : Voxel) → Q u ≡ true → Q v ≡ true → apart u v ≤ 1 → Linked Q beside u v
unfolding apart
hardly Q u v qu qv h = go (ℕ_discrete (gap u.x v.x + gap u.y v.y + gap u.z v.z) 1)
  where
    go : Dec (gap u.x v.x + gap u.y v.y + gap u.z v.z ≡ 1) → Linked Q beside u v
    go (yes e) = link qu (eq-eqb (gap u.x v.x + gap u.y v.y + gap u.z v.z) 1 e) qv
    go (no n) =
        let x : gap u.x v.x ≡ 0 = omega arith in
        let y : gap u.y v.y ≡ 0 = omega arith in
        let z : gap u.z v.z ≡ 0 = omega arith in
        subst (λ (w : Voxel). Linked Q beside u w) (voxel-eq u v (gap-zero u.x v.x x) (gap-zero u.y v.y y) (gap-zero u.z v.z z)) (stay qu)

-- along an axis, half the sum of two neighbours is the lower one
middle : (p q : ℕ) → p ≤ q → gap p q ≤ 1 → (p + q) / 2 ≡ p
unfolding gap
middle p q h k = omega arith

above : (p q : ℕ) → q ≤ p → gap p q ≤ 1 → (p + q) / 2 ≡ q
unfolding gap
above p q h k = omega arith

far : (p q : ℕ) → q < p → 1 ≤ gap p q
unfolding gap
far p q h = omega arith

equal : (p q : ℕ) → gap p q ≡ 0 → q ≤ p
unfolding gap
equal p q h = omega arith

module _ (P : Voxel → Bool) where
  settle-beside : (u : Voxel) → P (half_of u) ≡ true → Linked (λ v. P (half_of v)) beside u (twice (half_of u))
  unfolding apart
  settle-beside u e =
      let w1 : Voxel = record { x = 2 * (u.x / 2); y = u.y; z = u.z } in
      let w2 : Voxel = record { x = 2 * (u.x / 2); y = 2 * (u.y / 2); z = u.z } in
      let e1 : P (half_of w1) ≡ true = ap P (voxel-eq (half_of w1) (half_of u) (omega arith) refl refl) ∙ e in
      let e2 : P (half_of w2) ≡ true = ap P (voxel-eq (half_of w2) (half_of u) (omega arith) (omega arith) refl) ∙ e in
      let e3 : P (half_of (twice (half_of u))) ≡ true = ap P (half_twice (half_of u)) ∙ e in
      append (hardly (λ v. P (half_of v)) u w1 e e1 (omega (arith, gap-half u.x, gap-none u.y, gap-none u.z))) (
      append (hardly (λ v. P (half_of v)) w1 w2 e1 e2 (omega (arith, gap-half u.y, gap-none (2 * (u.x / 2)), gap-none u.z)))
      (hardly (λ v. P (half_of v)) w2 (twice (half_of u)) e2 e3 (omega (arith, gap-half u.z, gap-none (2 * (u.x / 2)), gap-none (2 * (u.y / 2))))))

  hop-beside : (u v : Voxel) → P u ≡ true → P v ≡ true → beside u v ≡ true → Linked (λ v. P (half_of v)) beside (twice u) (twice v)
  unfolding apart
  hop-beside u v pu pv e =
      step (link (ap P (half_twice u) ∙ pu) (eq-eqb (apart (twice u) mid) 1 (
      omega (arith, h, gap-left u.x v.x, gap-left u.y v.y, gap-left u.z v.z))) in-mid)
      (eq-eqb (apart mid (twice v)) 1 (omega (arith, h, gap-right u.x v.x, gap-right u.y v.y, gap-right u.z v.z)))
      (ap P (half_twice v) ∙ pv)
    where
      mid : Voxel
      mid = record { x = u.x + v.x; y = u.y + v.y; z = u.z + v.z }

      h : gap u.x v.x + gap u.y v.y + gap u.z v.z ≡ 1
      h = eqb-true (gap u.x v.x + gap u.y v.y + gap u.z v.z) 1 e

      lower : u.x ≤ v.x → u.y ≤ v.y → u.z ≤ v.z → P (half_of mid) ≡ true
      lower a b c =
          ap P (voxel-eq (half_of mid) u (middle u.x v.x a (omega (arith, h))) (middle u.y v.y b (omega (arith, h)))
          (middle u.z v.z c (omega (arith, h)))) ∙ pu

      upper : v.x ≤ u.x → v.y ≤ u.y → v.z ≤ u.z → P (half_of mid) ≡ true
      upper a b c =
          ap P (voxel-eq (half_of mid) v (above u.x v.x a (omega (arith, h))) (above u.y v.y b (omega (arith, h)))
          (above u.z v.z c (omega (arith, h)))) ∙ pv

      in-mid : P (half_of mid) ≡ true
      in-mid = go (dec_le u.x v.x) (dec_le u.y v.y) (dec_le u.z v.z)
        where
          go : Dec (u.x ≤ v.x) → Dec (u.y ≤ v.y) → Dec (u.z ≤ v.z) → P (half_of mid) ≡ true
          go (yes a) (yes b) (yes c) = lower a b c
          go (no a) b c =
              let d = far u.x v.x (omega arith) in
              upper (omega arith) (equal u.y v.y (omega (arith, h))) (equal u.z v.z (omega (arith, h)))
          go (yes a) (no b) c =
              let d = far u.y v.y (omega arith) in
              upper (equal u.x v.x (omega (arith, h))) (omega arith) (equal u.z v.z (omega (arith, h)))
          go (yes a) (yes b) (no c) =
              let d = far u.z v.z (omega arith) in
              upper (equal u.x v.x (omega (arith, h))) (equal u.y v.y (omega (arith, h))) (omega arith)

  beside-split : OnePiece P beside → OnePiece (λ v. P (half_of v)) beside
  beside-split one = one_split P beside beside_back settle-beside hop-beside one

-- ---- sets of voxels by index, and by coordinates

module _ (s : Sides) (pa : 0 < s.a) (pb : 0 < s.b) (p : ℕ → Bool) (in-grid : (i : ℕ) → p i ≡ true → i < size s) (R : Voxel → Voxel → Bool) where
  abbrev at : Voxel → Bool
  at v = body_of s p v.x v.y v.z

  listed : (i : ℕ) → p i ≡ true → at (voxel s i) ≡ true
  listed i e = body-in s p (voxel s i) (voxel-in s i pa pb (in-grid i e)) ∙ ap p (index-voxel s i pa pb) ∙ e

  to-voxels : OnePiece p (λ i j. R (voxel s i) (voxel s j)) → OnePiece at R
  to-voxels one u w eu ew =
      let hu = body-true s p u eu in
      let hw = body-true s p w ew in
      subst (λ (v : Voxel). Linked at R v w) (voxel-index s u hu.0.x-in hu.0.y-in) (
      subst (λ (v : Voxel). Linked at R (voxel s (index s u)) v) (voxel-index s w hw.0.x-in hw.0.y-in) (
      carry (voxel s) listed (λ i j _ _ r. r) (one (index s u) (index s w) hu.1 hw.1)))

  from-voxels : OnePiece at R → OnePiece p (λ i j. R (voxel s i) (voxel s j))
  from-voxels one i j ei ej =
      subst (λ (n : ℕ). Linked p (λ i j. R (voxel s i) (voxel s j)) n j) (index-voxel s i pa pb) (
      subst (λ (n : ℕ). Linked p (λ i j. R (voxel s i) (voxel s j)) (index s (voxel s i)) n) (index-voxel s j pa pb) (
      carry (index s) (λ u m. (body-true s p u m).1)
      (λ u w m n r.
      let hu = (body-true s p u m).0 in
      let hw = (body-true s p w n).0 in
      ap₂ R (voxel-index s u hu.x-in hu.y-in) (voxel-index s w hw.x-in hw.y-in) ∙ r)
      (one (voxel s i) (voxel s j) (listed i ei) (listed j ej))))

-- ---- the split body

-- the coarse index of a fine voxel
unfoldable pub block_index : Sides → ℕ → ℕ
block_index s i = index s (half_of (voxel (doubled s) i))

unfoldable pub split_of : Sides → (ℕ → Bool) → ℕ → Bool
split_of s p i = ltb i (size (doubled s)) && p (block_index s i)

module _ (s : Sides) (pa : 0 < s.a) (pb : 0 < s.b) where
  half_in : (v : Voxel) → InGrid (doubled s) v → InGrid s (half_of v)
  half_in v g = record { x-in = omega (arith, g.x-in); y-in = omega (arith, g.y-in); z-in = omega (arith, g.z-in) }

  in-half : (v : Voxel) → InGrid s (half_of v) → InGrid (doubled s) v
  in-half v g = record { x-in = omega (arith, g.x-in); y-in = omega (arith, g.y-in); z-in = omega (arith, g.z-in) }

  split-in : (p : ℕ → Bool) (i : ℕ) → split_of s p i ≡ true → i < size (doubled s)
  unfolding split_of
  split-in p i e = ltb-true i (size (doubled s)) (and-true (ltb i (size (doubled s))) (p (block_index s i)) e).0

  split-index : (p : ℕ → Bool) (v : Voxel) → InGrid (doubled s) v → split_of s p (index (doubled s) v) ≡ p (index s (half_of v))
  unfolding split_of block_index
  split-index p v g =
      ap₂ ◌&&◌ (lt-ltb (index (doubled s) v) (size (doubled s)) (index-lt (doubled s) v g))
      (ap (λ (w : Voxel). p (index s (half_of w))) (voxel-index (doubled s) v g.x-in g.y-in))

  split_at : (p : ℕ → Bool) (v : Voxel) → body_of (doubled s) (split_of s p) v.x v.y v.z ≡ finer (body_of s p) v.x v.y v.z
  unfolding finer
  split_at p v =
      both_ways (body_of (doubled s) (split_of s p) v.x v.y v.z) (body_of s p (v.x / 2) (v.y / 2) (v.z / 2))
      (λ e.
      let r = body-true (doubled s) (split_of s p) v e in
      body-in s p (half_of v) (half_in v r.0) ∙ sym (split-index p v r.0) ∙ r.1)
      (λ e.
      let r = body-true s p (half_of v) e in
      body-in (doubled s) (split_of s p) v (in-half v r.0) ∙ split-index p v (in-half v r.0) ∙ r.1)

  split-body : (p : ℕ → Bool) → body_of (doubled s) (split_of s p) ≡ finer (body_of s p)
  split-body p = fun_ext (λ x. fun_ext (λ y. fun_ext (λ z. split_at p (record { x = x; y = y; z = z }))))

  split-euler : (p : ℕ → Bool) → euler_of (doubled s) (body_of (doubled s) (split_of s p)) ≡ euler_of s (body_of s p)
  split-euler p = ap (euler_of (doubled s)) (split-body p) ∙ euler-finer s (body_of s p)

  module _ (p : ℕ → Bool) (in-grid : (i : ℕ) → p i ≡ true → i < size s) where
    abbrev coarse : Voxel → Bool
    coarse v = body_of s p v.x v.y v.z

    fine : ◌≡◌ {A = Voxel → Bool} (λ v. body_of (doubled s) (split_of s p) v.x v.y v.z) (λ v. coarse (half_of v))
    unfolding finer
    fine = fun_ext (split_at p)

    by_index : (R : Voxel → Voxel → Bool) → (OnePiece coarse R → OnePiece (λ (v : Voxel). coarse (half_of v)) R)
        → OnePiece p (λ i j. R (voxel s i) (voxel s j)) → OnePiece (split_of s p) (λ i j. R (voxel (doubled s) i) (voxel (doubled s) j))
    by_index R split one =
        from-voxels (doubled s) (omega arith) (omega arith) (split_of s p) (split-in p) R (
        subst (λ (q : Voxel → Bool). OnePiece q R) (sym fine) (split (to-voxels s pa pb p in-grid R one)))

    split-touch : OnePiece p (touch s) → OnePiece (split_of s p) (touch (doubled s))
    unfolding touch
    split-touch = by_index near (near-split coarse)

    split-face : OnePiece p (share_face s) → OnePiece (split_of s p) (share_face (doubled s))
    unfolding share_face taxicab
    split-face = by_index beside (beside-split coarse)

  -- ---- its background, and its shape

  block_in : (i : ℕ) → i < size (doubled s) → block_index s i < size s
  unfolding block_index
  block_in i h = index-lt s (half_of (voxel (doubled s) i)) (half_in (voxel (doubled s) i) (voxel-in (doubled s) i (omega arith) (omega arith) h))

  background-split : (kept : ℕ → Bool) (i : ℕ) → background (doubled s) (split_of s kept) i ≡ split_of s (background s kept) i
  unfolding split_of
  background-split kept i = go (two (ltb i (size (doubled s))))
    where
      go : (ltb i (size (doubled s)) ≡ true) ⊎ (ltb i (size (doubled s)) ≡ false)
          → (ltb i (size (doubled s)) && not (ltb i (size (doubled s)) && kept (block_index s i)))
          ≡ (ltb i (size (doubled s)) && (ltb (block_index s i) (size s) && not (kept (block_index s i))))
      go (inl e) = rw (e, lt-ltb (block_index s i) (size s) (block_in i (ltb-true i (size (doubled s)) e)))
      go (inr e) = rw e

  split-background : (kept : ℕ → Bool) → OnePiece (background s kept) (share_face s)
      → OnePiece (background (doubled s) (split_of s kept)) (share_face (doubled s))
  split-background kept one =
      subst (λ (q : ℕ → Bool). OnePiece q (share_face (doubled s))) (sym (fun_ext (background-split kept)))
      (split-face (background s kept) (λ i e. ltb-true i (size s) (and-true (ltb i (size s)) (not (kept i)) e).0) one)

  split-inner : (kept : ℕ → Bool) → AllInner s kept → AllInner (doubled s) (split_of s kept)
  unfolding split_of block_index
  split-inner kept all i e =
      let v = voxel (doubled s) i in
      let r = and-true (ltb i (size (doubled s))) (kept (index s (half_of v))) e in
      let h = ltb-true i (size (doubled s)) r.0 in
      let g = half_in v (voxel-in (doubled s) i (omega arith) (omega arith) h) in
      let u = subst (λ (w : Voxel). Inner s w) (voxel-index s (half_of v) g.x-in g.y-in) (all (index s (half_of v)) r.1).1 in (
        h,
        record {
          x-low = omega (arith, u.x-low);
          x-high = omega (arith, u.x-high);
          y-low = omega (arith, u.y-low);
          y-high = omega (arith, u.y-high);
          z-low = omega (arith, u.z-low);
          z-high = omega (arith, u.z-high);
        },
      )

  pub split-shape : (kept : ℕ → Bool) (opened : ℕ) (number : ℤ) → Shape s kept opened number → Shape (doubled s) (split_of s kept) opened number
  split-shape kept opened number shape =
      record {
        inner = split-inner kept shape.inner;
        outside = split-background kept shape.outside;
        counted = shape.counted ∙ sym (split-euler kept);
        unopened = λ z. let h = shape.unopened z in (split-touch kept (λ i e. (shape.inner i e).0) h.0, h.1);
      }
