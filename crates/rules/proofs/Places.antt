-- Index and coordinates: each gives the other back.
use mathlib.Core.Path.{◌≡◌, ap, sym, ◌∙◌, subst}
use mathlib.Core.Bool.{true, ◌&&◌}
use Prim.Native.Nat.{ℕ, suc, ◌+◌, ◌-◌, ◌*◌, ◌/◌, ◌%◌, ◌≤◌, ◌<◌}
use native.Mathlib.Omega.{arith}
use native.Mathlib.Nat.{mod-lt, mod-eq_of_lt, div-eq_of_lt, div-add-mod, add-mul-div_left, add-mul-mod_self_left, div-lt_iff_lt-mul, div-div-eq-div-mul}
use native.Mathlib.Nat.{mul-le-mul_left, mul_comm, mul_assoc}
use lib.Dec.{leb}
use borrow.Author.Tests.{leb-true, le-leb}
use Rattle.prelude.proofs.Bools.{and-true, true-and}
use Rattle.rules.specs.declared.Sides.{Sides}
use Rattle.rules.specs.Grid.{fit_side, fit_sides, size, Voxel, index, voxel}
pub use Rattle.rules.specs.Meaning.{InGrid}

-- sides that are fit
pub record Fit (s : Sides) : Type 0 where
  pub a-low : 3 ≤ s.a
  pub a-high : s.a ≤ 64
  pub b-low : 3 ≤ s.b
  pub b-high : s.b ≤ 64
  pub c-low : 3 ≤ s.c
  pub c-high : s.c ≤ 64

pub fit : (s : Sides) → fit_sides s ≡ true → Fit s
unfolding fit_sides
fit s e =
    let p = and-true (fit_side s.a) (fit_side s.b && fit_side s.c) e in
    let q = and-true (fit_side s.b) (fit_side s.c) p.1 in
    let a = and-true (leb 3 s.a) (leb s.a 64) p.0 in
    let b = and-true (leb 3 s.b) (leb s.b 64) q.0 in
    let c = and-true (leb 3 s.c) (leb s.c 64) q.1 in
    record {
      a-low = leb-true 3 s.a a.0;
      a-high = leb-true s.a 64 a.1;
      b-low = leb-true 3 s.b b.0;
      b-high = leb-true s.b 64 b.1;
      c-low = leb-true 3 s.c c.0;
      c-high = leb-true s.c 64 c.1;
    }

pub fit_sides_lem : (s : Sides) → Fit s → fit_sides s ≡ true
unfolding fit_sides
fit_sides_lem s f =
    true-and (fit_side s.a) (fit_side s.b && fit_side s.c) (side s.a f.a-low f.a-high)
    (true-and (fit_side s.b) (fit_side s.c) (side s.b f.b-low f.b-high) (side s.c f.c-low f.c-high))
  where
    side : (n : ℕ) → 3 ≤ n → n ≤ 64 → fit_side n ≡ true
    side n l u = true-and (leb 3 n) (leb n 64) (le-leb 3 n l) (le-leb n 64 u)

pub voxel-eq : (u v : Voxel) → u.x ≡ v.x → u.y ≡ v.y → u.z ≡ v.z → u ≡ v
voxel-eq u v e f g = λ i. record { x = e i; y = f i; z = g i }

-- the last coordinate, by one division after the other
voxel-z : (s : Sides) (i : ℕ) → 0 < s.a → 0 < s.b → i / (s.a * s.b) ≡ i / s.a / s.b
voxel-z s i pa pb = sym (div-div-eq-div-mul i s.a s.b)

pub voxel-index : (s : Sides) (v : Voxel) → v.x < s.a → v.y < s.b → voxel s (index s v) ≡ v
unfolding voxel index
voxel-index s v hx hy =
    voxel-eq (record { x = i % s.a; y = i / s.a % s.b; z = i / (s.a * s.b) }) v ex (ap (λ (q : ℕ). q % s.b) e ∙ ey)
    (voxel-z s i pa pb ∙ ap (λ (q : ℕ). q / s.b) e ∙ ez)
  where
    t : ℕ
    t = v.y + s.b * v.z

    i : ℕ
    i = v.x + s.a * t

    pa : 0 < s.a
    pa = omega arith

    pb : 0 < s.b
    pb = omega arith

    ex : i % s.a ≡ v.x
    ex = add-mul-mod_self_left v.x s.a t ∙ mod-eq_of_lt hx

    e : i / s.a ≡ t
    e = add-mul-div_left v.x t pa ∙ ap (λ (q : ℕ). q + t) (div-eq_of_lt hx) ∙ omega arith

    ey : t % s.b ≡ v.y
    ey = add-mul-mod_self_left v.y s.b v.z ∙ mod-eq_of_lt hy

    ez : t / s.b ≡ v.z
    ez = add-mul-div_left v.y v.z pb ∙ ap (λ (q : ℕ). q + v.z) (div-eq_of_lt hy) ∙ omega arith

pub index-voxel : (s : Sides) (i : ℕ) → 0 < s.a → 0 < s.b → index s (voxel s i) ≡ i
unfolding voxel index
index-voxel s i pa pb =
    let q : ℕ = i / s.a in
    let e : q % s.b + s.b * (i / (s.a * s.b)) ≡ q =
    ap (λ (z : ℕ). q % s.b + s.b * z) (voxel-z s i pa pb) ∙ omega (arith, div-add-mod q s.b) in
    ap (λ (r : ℕ). i % s.a + s.a * r) e ∙ omega (arith, div-add-mod i s.a)

pub index-lt : (s : Sides) (v : Voxel) → InGrid s v → index s v < size s
unfolding index size
index-lt s v g =
    let p : s.b * suc v.z ≤ s.b * s.c = mul-le-mul_left s.b g.z-in in
    let t : ℕ = v.y + s.b * v.z in
    let q : suc t ≤ s.b * s.c = omega (arith, g.y-in) in
    let r : s.a * suc t ≤ s.a * (s.b * s.c) = mul-le-mul_left s.a q in
    let e : s.a * (s.b * s.c) ≡ s.a * s.b * s.c = sym (mul_assoc s.a s.b s.c) in
    omega (arith, g.x-in)

pub voxel-in : (s : Sides) (i : ℕ) → 0 < s.a → 0 < s.b → i < size s → InGrid s (voxel s i)
unfolding voxel size
voxel-in s i pa pb h =
    let e : s.a * s.b * s.c ≡ s.a * (s.b * s.c) = mul_assoc s.a s.b s.c in
    let q : i / s.a < s.b * s.c = (div-lt_iff_lt-mul pa).1 (omega (arith, mul_comm s.a (s.b * s.c))) in
    let r : i / s.a / s.b < s.c = (div-lt_iff_lt-mul pb).1 (omega (arith, mul_comm s.b s.c)) in
    record { x-in = mod-lt i pa; y-in = mod-lt (i / s.a) pb; z-in = subst (λ (z : ℕ). z < s.c) (sym (voxel-z s i pa pb)) r }
