-- An index by rows and layers, and the coordinates that it stands for.
use mathlib.Core.Path.{◌≡◌, sym, ap, ◌∙◌}
use Prim.Native.Nat.{ℕ, ◌+◌, ◌*◌, ◌<◌}
use native.Mathlib.Omega.{arith}
use native.Mathlib.Nat.{mul-le-mul_right, suc-mul, mul_comm, mul_assoc, mul-add}
use Rattle.rules.specs.declared.Sides.{Sides}
use Rattle.rules.specs.Grid.{Voxel, size, index, voxel}
use Rattle.rules.proofs.Places.{voxel-index, index-voxel}

-- an index by rows and layers
flat : (s : Sides) (v : Voxel) → index s v ≡ v.x + v.y * s.a + v.z * (s.a * s.b)
unfolding index
flat s v =
    let p = mul-add s.a v.y (s.b * v.z) in
    let q = mul_comm s.a v.y in
    let r = sym (mul_assoc s.a s.b v.z) ∙ mul_comm (s.a * s.b) v.z in
    omega arith

module _ (s : Sides) (pa : 0 < s.a) (pb : 0 < s.b) where
  pub index_is : (i : ℕ) → i ≡ (voxel s i).x + (voxel s i).y * s.a + (voxel s i).z * (s.a * s.b)
  index_is i = sym (index-voxel s i pa pb) ∙ flat s (voxel s i)

  pub coords : (i x y z : ℕ) → x < s.a → y < s.b → i ≡ x + y * s.a + z * (s.a * s.b)
      → ((voxel s i).x ≡ x) × ((voxel s i).y ≡ y) × ((voxel s i).z ≡ z)
  coords i x y z hx hy e =
      let v : Voxel = record { x = x; y = y; z = z } in
      let q : voxel s i ≡ v = ap (voxel s) (e ∙ sym (flat s v)) ∙ voxel-index s v hx hy in
      (ap (λ (u : Voxel). u.x) q, ap (λ (u : Voxel). u.y) q, ap (λ (u : Voxel). u.z) q)

module _ (s : Sides) (pa : 0 < s.a) (pb : 0 < s.b) (pc : 0 < s.c) where
  pub grid-in : (x y z : ℕ) → x < s.a → y < s.b → z < s.c → x + y * s.a + z * (s.a * s.b) < size s
  unfolding size
  grid-in x y z hx hy hz =
      let p = mul-le-mul_right s.a hy in
      let q = mul-le-mul_right (s.a * s.b) hz in
      let p' = suc-mul y s.a in
      let q' = suc-mul z (s.a * s.b) in
      let e = mul_comm (s.a * s.b) s.c in
      let f = mul_comm s.b s.a in
      omega arith
