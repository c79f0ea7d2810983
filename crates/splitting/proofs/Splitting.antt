-- Rows of voxels of kept blocks: their bytes by rows of blocks, and by the rule.
use mathlib.Core.Path.{◌≡◌, refl, ap, ap₂, sym, ◌∙◌, subst}
use mathlib.Core.Logic.{◌⊎◌, inl, inr}
use mathlib.Core.Bool.{Bool, true, false, not, ◌&&◌, ◌||◌}
use mathlib.Core.List.{List, map}
use Prim.Native.Nat.{ℕ, ◌+◌, ◌-◌, ◌*◌, ◌/◌, ◌%◌, ◌≤◌, ◌<◌}
use native.Mathlib.Omega.{arith}
use native.Mathlib.Nat.{mul-le-mul}
use lib.IntN.{ℤ, pos}
use borrow.Rule.Slice.PartMut.{put_mid}
use lib.ListN.{length, set, get_or, take, drop, length-take, length-drop}
use Rattle.std.proofs.lemmas.List.{get_or-take, get_or-drop}
use Rattle.cells.specs.Groups.{any}
use Rattle.prelude.proofs.Bools.{two, not-both, or-false}
use Rattle.rules.specs.declared.Sides.{Sides}
use Rattle.rules.specs.Grid.{Voxel, is_negative, size, index, voxel, voxels, on_border, neighbourhood, neighbourhood_of, face_positions, is_in}
use Rattle.rules.specs.Begin.{exposed, waits_first, status_at, start_status}
use Rattle.rules.specs.Marks.{unmarked}
use Rattle.rules.specs.Status.{is_kept}
use Rattle.rules.specs.Machine.{is_inside}
use Rattle.rules.proofs.Places.{InGrid, voxel-index, index-lt}
use Rattle.rules.proofs.Topology.Around.{Inner}
use Rattle.rules.proofs.Topology.Start.{border-inner}
use Rattle.loops.specs.InPlace.{Each}
use Rattle.loops.specs.Rows.{Row}
use Rattle.loops.proofs.InPlace.{each_more}
use Rattle.loops.proofs.Parts.{each_part, each_passed}
use Rattle.loops.proofs.Below.{map_same}
use Rattle.loops.proofs.Rows.{row-voxel, rows_more}
use Rattle.coarse.specs.Blocks.{halved, half_of, block_of, split_body}
use Rattle.coarse.specs.Coarse.{near_end}
use Rattle.coarse.proofs.Eight.{half-grid}
use Rattle.coarse.proofs.Fitness.{Within, end-off, off-end}
use Rattle.splitting.specs.Split.{byte_by, byte_of, Splittable, across, block_row, Paired, pair_byte}
use Rattle.splitting.proofs.Faces.{block, across_kept, around}

-- ---- two voxels of each block

-- the two voxels of each block before b, and those of b
module _ (dist : List ℤ) (blocks : List ℕ) (own beside above b : ℕ) where
  abbrev pub f : ℕ → ℕ → ℕ
  f k d = pair_byte dist blocks own beside above k

  -- the byte by the places of four blocks
  abbrev pub by_place : ℕ → ℕ → ℕ
  by_place k left =
      byte_by (is_kept blocks (own + b)) (not (is_kept blocks (above + b) && (is_kept blocks (beside + b) && is_kept blocks left))) (is_inside dist k)

  by_place_lem : (o k left : ℕ) → o < 2 → k ≡ 2 * b + o → left ≡ own + b + o * 2 - 1 → by_place k left ≡ pair_byte dist blocks own beside above k
  unfolding pair_byte
  by_place_lem o k left l e g =
      let p : b ≡ k / 2 = omega arith in
      let q : left ≡ own + k / 2 + k % 2 * 2 - 1 = omega arith in
      λ i. byte_by (is_kept blocks (own + p i)) (not (is_kept blocks (above + p i) && (is_kept blocks (beside + p i) && is_kept blocks (q i)))) (is_inside dist k)

  pub pairs-more : (start now : List ℕ) (u v : ℕ) → 2 * b + 1 < length start → Each 0 f 0 (2 * b) start now
      → u ≡ by_place (2 * b) (own + b - 1) → v ≡ by_place (2 * b + 1) (own + b + 1)
      → Each 0 f 0 (2 * (b + 1)) start (set (set now (2 * b) u) (2 * b + 1) v)
  pairs-more start now u v h E e g =
      let i : ℕ = 2 * b in
      let next = set now i u in
      subst (λ (n : ℕ). Each 0 f 0 n start (set next (i + 1) v)) (let t : i + 1 + 1 ≡ 2 * (b + 1) = omega arith in t)
      (each_more 0 f 0 (i + 1) start next v (omega arith) h
      (each_more 0 f 0 i start now u (omega arith) (omega arith) E (e ∙ by_place_lem 0 i (own + b - 1) (omega arith) (omega arith) (omega arith)))
      (g ∙ by_place_lem 1 (i + 1) (own + b + 1) (omega arith) (omega arith) (omega arith)))

-- ---- a row of voxels

-- whether a voxel is exposed matters where it is kept
same_byte : {j : Bool} (k i : Bool) {p q : Bool} → j ≡ k → (k ≡ true → p ≡ q) → byte_by j p i ≡ byte_by k q i
same_byte k i {p} {q} e f = ap (λ (t : Bool). byte_by t p i) e ∙ go k f
  where
    go : (k : Bool) → (k ≡ true → p ≡ q) → byte_by k p i ≡ byte_by k q i
    go true f = ap (λ (t : Bool). byte_by true t i) (f refl)
    go false f = refl

-- a row whose blocks lie off the ends of the grid
pub record Inward (s : Sides) (y z : ℕ) : Type 0 where
  pub y-off : Within s.b y
  pub z-off : Within s.c z

pub inward : (s : Sides) (y z : ℕ) → near_end s.b y || near_end s.c z ≡ false → Inward s y z
inward s y z e =
    let p = or-false (near_end s.b y) (near_end s.c z) e in record { y-off = end-off s.b y p.0; z-off = end-off s.c z p.1 }

module _ (s : Sides) (dist : List ℤ) (blocks : List ℕ) (n : ℕ) (P : Splittable s dist blocks n) (r : ℕ) (R : Row s n r) where
  abbrev y : ℕ
  y = r % s.b

  abbrev z : ℕ
  z = r / s.b

  abbrev kept : ℕ → Bool
  kept = split_body s blocks

  module _ (k : ℕ) (low : s.a * r ≤ k) (high : k < s.a * r + s.a) where
    abbrev x : ℕ
    x = k - s.a * r

    abbrev u : Voxel
    u = record { x = x; y = y; z = z }

    is : voxel s k ≡ u
    is = ap (voxel s) (let e : k ≡ s.a * r + x = omega arith in e) ∙ row-voxel s r x (omega arith)

    kept-is : kept k ≡ block s blocks (x / 2) (y / 2) (z / 2)
    unfolding split_body block_of
    kept-is = ap (λ (v : Voxel). is_kept blocks (index (halved s) (half_of v))) is

    in-grid : InGrid (halved s) (half_of u)
    in-grid = half-grid s P.even u (record { x-in = omega arith; y-in = R.y-in; z-in = R.z-in })

    -- a kept block lies off the border
    kept-inner : kept k ≡ true → Inner (halved s) (half_of u)
    kept-inner e =
        let j : ℕ = index (halved s) (half_of u) in
        let b = index-lt (halved s) (half_of u) in-grid in
        subst (Inner (halved s)) (voxel-index (halved s) (half_of u) in-grid.x-in in-grid.y-in)
        (border-inner (halved s) j b (off j b (two (on_border (halved s) j)) (sym kept-is ∙ e)))
      where
        off : (j : ℕ) → j < size (halved s) → (on_border (halved s) j ≡ true) ⊎ (on_border (halved s) j ≡ false) → is_kept blocks j ≡ true
            → on_border (halved s) j ≡ false
        off j b (inl o) e = not-both (is_kept blocks j) e (P.border j b o)
        off j b (inr o) e = o

    -- by the rule
    exposed-is : kept k ≡ true → not (across_kept s blocks u) ≡ exposed s kept k
    unfolding exposed neighbourhood
    exposed-is e =
        sym (around s blocks u (kept-inner e) (sym kept-is ∙ e))
        ∙ sym (ap (λ (v : Voxel). any (λ p. not (neighbourhood_of s kept v p)) face_positions) is)

    -- at the ends of the grid no block is kept
    pub byte-edge : near_end s.b y || near_end s.c z ≡ true → 0 ≡ byte_of s dist kept k
    unfolding byte_of
    byte-edge e =
        elim (two (kept k)) [
          | inl o ↦ not-both (near_end s.b y || near_end s.c z) e (inside (kept-inner o))
          | inr o ↦ sym (ap (λ (t : Bool). byte_by t (exposed s kept k) (is_inside dist k)) o)
        ]
      where
        inside : Inner (halved s) (half_of u) → near_end s.b y || near_end s.c z ≡ false
        inside n =
            unfold halved in
            ap₂ ◌||◌ (off-end s.b y (omega (arith, n.y-low), omega (arith, n.y-high)))
            (off-end s.c z (omega (arith, n.z-low), omega (arith, n.z-high)))

  -- the rows of blocks
  module _ (own beside above : ℕ) (o : own ≡ block_row s (y / 2) (z / 2)) (b : beside ≡ block_row s (across y) (z / 2))
      (t : above ≡ block_row s (y / 2) (across z)) where
    byte-inner : (k : ℕ) → s.a * r ≤ k → k < s.a * r + s.a
        → (let x : ℕ = k - s.a * r in
        byte_by (is_kept blocks (own + x / 2))
        (not (is_kept blocks (above + x / 2) && (is_kept blocks (beside + x / 2) && is_kept blocks (own + x / 2 + x % 2 * 2 - 1)))) (is_inside dist k))
        ≡ byte_of s dist kept k
    unfolding byte_of halved index
    byte-inner k low high =
        let x : ℕ = k - s.a * r in
        let p : own + x / 2 ≡ x / 2 + block_row s (y / 2) (z / 2) = omega arith in
        let q : beside + x / 2 ≡ x / 2 + block_row s (across y) (z / 2) = omega arith in
        let w : above + x / 2 ≡ x / 2 + block_row s (y / 2) (across z) = omega arith in
        same_byte (kept k) (is_inside dist k) (ap (is_kept blocks) p ∙ sym (kept-is k low high))
        (λ e.
        let l = (kept-inner k low high e).x-low in
        let v : own + x / 2 + x % 2 * 2 - 1 ≡ across x + block_row s (y / 2) (z / 2) = omega arith in
        (λ i. not (is_kept blocks (w i) && (is_kept blocks (q i) && is_kept blocks (v i)))) ∙ exposed-is k low high e)

    -- room for them
    row_room : (y z : ℕ) → y < s.b / 2 → z < s.c / 2 → block_row s y z + s.a / 2 ≤ length blocks
    unfolding index halved
    row_room y z p q =
        let w : Voxel = record { x = s.a / 2 - 1; y = y; z = z } in
        let g : InGrid (halved s) w = record { x-in = omega (arith, R.a-low); y-in = p; z-in = q } in
        omega (arith, index-lt (halved s) w g, P.blocks-len, R.a-low)

    pub paired : Inward s y z → (m d : ℕ) → m ≡ s.a → d ≡ s.a → Paired m d (length blocks) own beside above (m / 2)
    paired i m d m-is d-is =
        let few : 1 * 1 ≤ block_row s (y / 2) (z / 2) =
        mul-le-mul (let g : 1 ≤ s.a / 2 = omega (arith, R.a-low) in g) (let g : 1 ≤ y / 2 + s.b / 2 * (z / 2) = omega (arith, i.y-off.0) in g) in
        let next : block_row s (y / 2 + 1) (z / 2) ≡ block_row s (y / 2) (z / 2) + s.a / 2 =
        ap (λ (n : ℕ). s.a / 2 * n) (let g : y / 2 + 1 + s.b / 2 * (z / 2) ≡ y / 2 + s.b / 2 * (z / 2) + 1 = omega arith in g)
        ∙ rows_more (s.a / 2) (y / 2 + s.b / 2 * (z / 2)) in
        let half : m / 2 ≡ s.a / 2 = ap (λ (k : ℕ). k / 2) m-is in
        record {
          room = omega arith;
          measured = omega arith;
          own-low = omega arith;
          own_in = omega (arith, row_room (y / 2 + 1) (z / 2) (omega (arith, i.y-off.1)) (omega (arith, i.z-off.1)), R.a-low);
          beside-in = omega (arith, row_room (across y) (z / 2) (omega (arith, i.y-off.1)) (omega (arith, i.z-off.1)));
          above_in = omega (arith, row_room (y / 2) (across z) (omega (arith, i.y-off.1)) (omega (arith, i.z-off.1)));
        }

    -- the row among all
    abbrev start : ℕ
    start = s.a * r

    abbrev len : ℕ
    len = start + s.a - start

    in-part : (x : ℕ) → x < s.a → pair_byte (take len (drop start dist)) blocks own beside above x ≡ byte_of s dist kept (start + x)
    unfolding pair_byte is_inside
    in-part x h =
        let e : x ≡ start + x - start = omega arith in
        let f : get_or (take len (drop start dist)) x (pos 0) ≡ get_or dist (start + x) (pos 0) =
        get_or-take len (drop start dist) x (pos 0) (omega arith) ∙ get_or-drop start dist x (pos 0) in
        (λ i. byte_by (is_kept blocks (own + e i / 2))
        (not (is_kept blocks (above + e i / 2) && (is_kept blocks (beside + e i / 2) && is_kept blocks (own + e i / 2 + e i % 2 * 2 - 1)))) (is_negative (f i)))
        ∙ byte-inner (start + x) (omega arith) (omega arith)

    pub row-inner : (status row : List ℕ) → length status ≡ n
        → Each 0 (λ k d. pair_byte (take len (drop start dist)) blocks own beside above k) 0 (2 * (length (take len (drop start status)) / 2))
        (take len (drop start status)) row
        → Each 0 (λ k d. byte_of s dist kept k) start (start + s.a) status (put_mid start len status row)
    row-inner status row all E =
        let long : length (take len (drop start status)) ≡ s.a = omega (arith, R.last, length-take {A = ℕ}, length-drop {A = ℕ}) in
        each_passed 0 start len (start + s.a) status row (omega (arith, R.last)) (omega arith) (omega (arith, E.len))
        (λ k d. byte_of s dist kept k) (λ k d. pair_byte (take len (drop start dist)) blocks own beside above k)
        (2 * (length (take len (drop start status)) / 2)) (omega (arith, P.even.a-even, ap (λ (k : ℕ). k / 2) long)) E
        (λ k d h. in-part k (omega arith))

  -- a row at an end of the grid among all
  pub row-edge : near_end s.b y || near_end s.c z ≡ true → (status row : List ℕ) → length status ≡ n
      → length row ≡ length (take (s.a * r + s.a - s.a * r) (drop (s.a * r) status)) → ((k : ℕ) → k < length row → get_or row k 0 ≡ 0)
      → Each 0 (λ k d. byte_of s dist kept k) (s.a * r) (s.a * r + s.a) status (put_mid (s.a * r) (s.a * r + s.a - s.a * r) status row)
  row-edge e status row all l zero =
      let long : length row ≡ s.a = omega (arith, R.last, length-take {A = ℕ}, length-drop {A = ℕ}) in
      each_part 0 (s.a * r) (s.a * r + s.a - s.a * r) (s.a * r + s.a) status row (omega (arith, R.last)) (omega arith) (omega arith)
      (λ k d. byte_of s dist kept k)
      (λ k h. zero k (omega arith) ∙ byte-edge (s.a * r + k) (omega arith) (omega arith) e)

-- ---- all voxels

-- where S is the voxels of negative distance, those are the rule's bytes
pub split-start : (s : Sides) (dist : List ℤ) (S : List ℕ) (kept : ℕ → Bool) → ((i : ℕ) → i < size s → is_inside dist i ≡ is_in S i)
    → map (byte_of s dist kept) (voxels s) ≡ start_status s unmarked S kept
unfolding voxels byte_of start_status status_at waits_first
split-start s dist S kept signs =
    map_same (byte_of s dist kept) (status_at s unmarked S kept) 0 (size s)
    (λ k h. ap (λ (t : Bool). byte_by (kept k) (exposed s kept k) t) (signs k h))
