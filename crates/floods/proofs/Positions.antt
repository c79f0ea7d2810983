-- The voxels at the positions of the block around an inner voxel are those at the positions' offsets from it.
use mathlib.Core.Path.{◌≡◌, sym, ap, ◌∙◌, subst}
use mathlib.Core.Bool.{true}
use mathlib.Core.List.{List}
use Prim.Native.Nat.{ℕ, suc, ◌+◌, ◌-◌, ◌*◌, ◌/◌, ◌%◌, ◌≤◌, ◌<◌}
use native.Mathlib.Omega.{arith}
use native.Mathlib.Nat.{add-mul, mul_comm, mul-le-mul_right}
use Rattle.prelude.proofs.Lists.{Mem}
use Rattle.rules.specs.declared.Sides.{Sides}
use Rattle.rules.specs.Grid.{size, voxel}
use Rattle.rules.proofs.Places.{Fit}
use Rattle.rules.proofs.InsideLeast.{mem-map, map-mem}
use Rattle.rules.proofs.Topology.Around.{At, Inner}
use Rattle.loops.proofs.Coordinates.{index_is, coords}
use Rattle.floods.specs.Flood.{shifted, near_by, offset_of, offsets_of}
use Rattle.floods.proofs.Offsets.{near-mem, mem-near}

-- a coordinate that is one less than another and a digit, so many times
less-times : (y y' k w : ℕ) → suc y' ≡ y + k → y' * w + 1 * w ≡ y * w + k * w
less-times y y' k w e =
    sym (add-mul y' 1 w) ∙ ap (λ (t : ℕ). t * w) (let q : y' + 1 ≡ y + k = omega arith in q) ∙ add-mul y k w

module _ (s : Sides) (F : Fit s) (v : ℕ) (I : Inner s (voxel s v)) where
  pa : 0 < s.a
  pa = omega (arith, F.a-low)

  pb : 0 < s.b
  pb = omega (arith, F.b-low)

  abbrev ab : ℕ
  ab = s.a * s.b

  abbrev back : ℕ
  back = 1 + s.a + ab

  -- the first of the 27 lies in the grid
  pub corner : v - back + back ≡ v
  corner =
      let p = index_is s pa pb v in
      let y1 = mul-le-mul_right s.a I.y-low in
      let z1 = mul-le-mul_right ab I.z-low in
      let xl = I.x-low in
      omega arith

  -- and so does the last
  last-in : v - back + (2 + 2 * s.a + 2 * ab) < size s
  unfolding size
  last-in =
      let k = corner in
      let p = index_is s pa pb v in
      let x = I.x-high in
      let y1 = mul-le-mul_right s.a I.y-high in
      let y2 = add-mul 2 (voxel s v).y s.a in
      let y3 = ap (λ (t : ℕ). t * s.a) (let h : suc (suc (voxel s v).y) ≡ 2 + (voxel s v).y = omega arith in h) in
      let z1 = mul-le-mul_right ab I.z-high in
      let z2 = add-mul 2 (voxel s v).z ab in
      let z3 = ap (λ (t : ℕ). t * ab) (let h : suc (suc (voxel s v).z) ≡ 2 + (voxel s v).z = omega arith in h) in
      let n = mul_comm ab s.c in
      let ba = mul_comm s.b s.a in
      omega arith

  pub offset-in : (p : ℕ) → p < 27 → v - back + offset_of s.a ab p < size s
  offset-in p l =
      let y : p / 3 % 3 ≤ 2 = omega arith in
      let z : p / 9 ≤ 2 = omega arith in
      let x : p % 3 ≤ 2 = omega arith in
      omega (arith, mul-le-mul_right s.a y, mul-le-mul_right ab z, last-in)

  pub at_offset : (j p : ℕ) → At (voxel s v) (voxel s j) p → j ≡ v - back + offset_of s.a ab p
  at_offset j p a =
      let y = less-times (voxel s v).y (voxel s j).y (p / 3 % 3) s.a a.y-at in
      let z = less-times (voxel s v).z (voxel s j).z (p / 9) ab a.z-at in
      let x = a.x-at in
      let pv = index_is s pa pb v in
      let pj = index_is s pa pb j in
      let co = corner in
      omega arith

  pub offset_at : (j p : ℕ) → p < 27 → j ≡ v - back + offset_of s.a ab p → At (voxel s v) (voxel s j) p
  offset_at j p l e =
      let x = (voxel s v).x in
      let y = (voxel s v).y in
      let z = (voxel s v).z in
      let d = p % 3 in
      let k = p / 3 % 3 in
      let m = p / 9 in
      let ld : d ≤ 2 = omega arith in
      let lk : k ≤ 2 = omega arith in
      let lm : m ≤ 2 = omega arith in
      let xl = I.x-low in
      let yl = I.y-low in
      let zl = I.z-low in
      let hx : x + d - 1 < s.a = omega (arith, I.x-high) in
      let hy : y + k - 1 < s.b = omega (arith, I.y-high) in
      let my = less-times y (y + k - 1) k s.a (omega arith) in
      let mz = less-times z (z + m - 1) m ab (omega arith) in
      let pv = index_is s pa pb v in
      let co = corner in
      let ej : j ≡ (x + d - 1) + (y + k - 1) * s.a + (z + m - 1) * ab = omega arith in
      let q = coords s pa pb j (x + d - 1) (y + k - 1) (z + m - 1) hx hy ej in
      record { low = l; x-at = omega (arith, q.0); y-at = omega (arith, q.1); z-at = omega (arith, q.2) }

  -- neighbours at some positions
  module _ (positions : List ℕ) where
    near-offset : (j : ℕ) → near_by (offsets_of s.a ab positions) back v j ≡ true
        → (p : ℕ) × (Mem p positions) × (j ≡ v - back + offset_of s.a ab p)
    near-offset j e =
        let w = map-mem (λ o. v - back + o) (offsets_of s.a ab positions) j (near-mem (offsets_of s.a ab positions) back v j e) in
        let q = map-mem (offset_of s.a ab) positions w.0 w.1 in
        (q.0, q.1, w.2 ∙ ap (λ (o : ℕ). v - back + o) q.2)

    pub near-position : (j : ℕ) → ((p : ℕ) → Mem p positions → p < 27) → near_by (offsets_of s.a ab positions) back v j ≡ true
        → (p : ℕ) × (Mem p positions) × (At (voxel s v) (voxel s j) p)
    near-position j few e = let q = near-offset j e in (q.0, q.1, offset_at j q.0 (few q.0 q.1) q.2)

    pub position-near : (j p : ℕ) → Mem p positions → At (voxel s v) (voxel s j) p → near_by (offsets_of s.a ab positions) back v j ≡ true
    position-near j p m a =
        mem-near (offsets_of s.a ab positions) back v j
        (subst (λ (x : ℕ). Mem x (shifted (v - back) (offsets_of s.a ab positions))) (sym (at_offset j p a))
        (mem-map (λ o. v - back + o) (offsets_of s.a ab positions) (offset_of s.a ab p) (mem-map (offset_of s.a ab) positions p m)))

    -- all of them lie in the grid
    pub near-in : (j : ℕ) → ((p : ℕ) → Mem p positions → p < 27) → near_by (offsets_of s.a ab positions) back v j ≡ true → j < size s
    near-in j few e = let q = near-offset j e in omega (arith, q.2, offset-in q.0 (few q.0 q.1))
