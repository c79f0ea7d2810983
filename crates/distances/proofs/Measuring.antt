-- Three axes, one after the other: no voxel is nearer by steps, and one is as near. So sweeps from S give the taxicab distance to S.
use mathlib.Core.Path.{◌≡◌, refl, sym, ap, ◌∙◌, subst}
use mathlib.Core.Logic.{inl, inr, ⊎_elim}
use mathlib.Core.Bool.{Bool, true, false, cond}
use mathlib.Core.List.{List}
use Prim.Native.Nat.{ℕ, ◌+◌, ◌*◌, ◌≤◌, ◌<◌}
use native.Mathlib.Omega.{arith}
use native.Mathlib.Nat.{mul-le-mul, mul_comm, one-mul}
use lib.ListN.{length, get_or, get_or-eq_default}
use Rattle.prelude.proofs.Bools.{two}
use Rattle.rules.specs.declared.Sides.{Sides}
use Rattle.rules.specs.Grid.{size, voxel, gap, apart, taxicab}
use Rattle.rules.specs.Begin.{is_in}
use Rattle.rules.proofs.Places.{Fit, InGrid, voxel-in}
use Rattle.rules.proofs.Distance.{taxicab-lt, nearest-distance}
use Rattle.loops.proofs.Orders.{split, times-next}
use Rattle.loops.proofs.Coordinates.{index_is, coords, grid-in}
use Rattle.sweeps.specs.Sweep.{place_of}
use Rattle.distances.specs.Work.{Seeded, Measured}
use Rattle.distances.proofs.Advancing.{Whole, Axis}

-- a line of an axis, by a position map
module _ (along : Bool) (st m : ℕ) (d d' : List ℕ) (A : Axis along st m d d') (g r : ℕ) (fits : g * (m * st) + m * st ≤ length d) (h : r < st)
    (line : ℕ → ℕ) (is : (q : ℕ) → place_of along st m (g * (m * st)) r q ≡ line q) where
  along-le : (q q' : ℕ) → q < m → q' < m → get_or d' (line q) 0 ≤ get_or d (line q') 0 + gap q q'
  along-le q q' l k =
      let n = (A.spread g fits).near q q' r l k h in
      let e = ap (λ (x : ℕ). get_or d' x 0) (is q) in
      let f = ap (λ (x : ℕ). get_or d x 0) (is q') in
      omega arith

  along-ge : (q : ℕ) → q < m → (q' : ℕ) × (q' < m) × (get_or d (line q') 0 + gap q q' ≤ get_or d' (line q) 0)
  along-ge q l =
      let w = (A.spread g fits).some q r l h in
      let n = w.2 in
      let e = ap (λ (x : ℕ). get_or d' x 0) (is q) in
      let f = ap (λ (x : ℕ). get_or d x 0) (is w.0) in
      (w.0, w.1, omega arith)

module _ (s : Sides) (F : Fit s) where
  pa : 0 < s.a
  pa = omega (arith, F.a-low)

  pb : 0 < s.b
  pb = omega (arith, F.b-low)

  pc : 0 < s.c
  pc = omega (arith, F.c-low)

  abbrev ab : ℕ
  ab = s.a * s.b

  -- the voxel at x, y, z
  abbrev point : ℕ → ℕ → ℕ → ℕ
  point x y z = x + y * s.a + z * ab

  size_is : size s ≡ s.c * ab
  unfolding size
  size_is = mul_comm ab s.c

  few : size s ≤ 262144
  unfolding size
  few = mul-le-mul (mul-le-mul F.a-high F.b-high) F.c-high

  pub layer-at : (z : ℕ) → z * (s.b * s.a) ≡ z * ab
  layer-at z = ap (λ (x : ℕ). z * x) (mul_comm s.b s.a)

  -- ---- the three axes, and what the sweeps may go by

  module _ (d : List ℕ) (len : length d ≡ size s) (small : (k : ℕ) → get_or d k 0 < 255) where
    pub whole-x : Whole d s.c s.b s.a
    whole-x =
        record {
          whole = len ∙ size_is;
          st-pos = pb;
          m-pos = pa;
          few = omega (arith, few);
          small = small;
        }

    pub whole-y : Whole d s.c s.a s.b
    whole-y =
        record {
          whole = len ∙ size_is ∙ sym (layer-at s.c);
          st-pos = pa;
          m-pos = pb;
          few = omega (arith, few);
          small = small;
        }

    pub whole-z : Whole d 1 ab s.c
    whole-z =
        record {
          whole = len ∙ size_is ∙ sym (one-mul (s.c * ab));
          st-pos = let p = mul-le-mul pa pb in omega arith;
          m-pos = pc;
          few = omega (arith, few);
          small = small;
        }

  module _ (D D₁ D₂ D₃ : List ℕ) (len : length D ≡ size s) (X : Axis true s.b s.a D D₁) (Y : Axis false s.a s.b D₁ D₂)
      (Z : Axis false ab s.c D₂ D₃) where
    rows_end : (z : ℕ) → z < s.c → z * ab + ab ≤ length D
    rows_end z k = omega (arith, times-next z s.c ab k, size_is)

    x-le : (x x' y z : ℕ) → x < s.a → x' < s.a → y < s.b → z < s.c → get_or D₁ (point x y z) 0 ≤ get_or D (point x' y z) 0 + gap x x'
    x-le x x' y z h h' k l =
        along-le true s.b s.a D D₁ X z y (rows_end z l) k (λ q. point q y z) (λ q. omega arith) x x' h h'

    x-ge : (x y z : ℕ) → x < s.a → y < s.b → z < s.c
        → (x' : ℕ) × (x' < s.a) × (get_or D (point x' y z) 0 + gap x x' ≤ get_or D₁ (point x y z) 0)
    x-ge x y z h k l =
        along-ge true s.b s.a D D₁ X z y (rows_end z l) k (λ q. point q y z) (λ q. omega arith) x h

    layer-end : (z : ℕ) → z < s.c → z * (s.b * s.a) + s.b * s.a ≤ length D₁
    layer-end z k = let o = times-next z s.c ab k in omega (arith, layer-at z, mul_comm s.b s.a, size_is, X.len)

    y-le : (x y y' z : ℕ) → x < s.a → y < s.b → y' < s.b → z < s.c → get_or D₂ (point x y z) 0 ≤ get_or D₁ (point x y' z) 0 + gap y y'
    y-le x y y' z h k k' l =
        along-le false s.a s.b D₁ D₂ Y z x (layer-end z l) h (λ q. point x q z) (λ q. omega (arith, layer-at z)) y y' k k'

    y-ge : (x y z : ℕ) → x < s.a → y < s.b → z < s.c
        → (y' : ℕ) × (y' < s.b) × (get_or D₁ (point x y' z) 0 + gap y y' ≤ get_or D₂ (point x y z) 0)
    y-ge x y z h k l =
        along-ge false s.a s.b D₁ D₂ Y z x (layer-end z l) h (λ q. point x q z) (λ q. omega (arith, layer-at z)) y k

    all_end : 0 * (s.c * ab) + s.c * ab ≤ length D₂
    all_end = omega (arith, size_is, X.len, Y.len)

    -- a voxel of a layer
    in-layer : (x y : ℕ) → x < s.a → y < s.b → x + y * s.a < ab
    in-layer x y h k = let l = times-next y s.b s.a k in omega (arith, mul_comm s.b s.a)

    z-le : (x y z z' : ℕ) → x < s.a → y < s.b → z < s.c → z' < s.c → get_or D₃ (point x y z) 0 ≤ get_or D₂ (point x y z') 0 + gap z z'
    z-le x y z z' h k l l' =
        along-le false ab s.c D₂ D₃ Z 0 (x + y * s.a) all_end (in-layer x y h k) (λ q. point x y q) (λ q. omega arith) z z' l l'

    z-ge : (x y z : ℕ) → x < s.a → y < s.b → z < s.c
        → (z' : ℕ) × (z' < s.c) × (get_or D₂ (point x y z') 0 + gap z z' ≤ get_or D₃ (point x y z) 0)
    z-ge x y z h k l =
        along-ge false ab s.c D₂ D₃ Z 0 (x + y * s.a) all_end (in-layer x y h k) (λ q. point x y q) (λ q. omega arith) z l

    in-grid : (i : ℕ) → i < size s → InGrid s (voxel s i)
    in-grid i h = voxel-in s i pa pb h

    all-le : (i j : ℕ) → i < size s → j < size s → get_or D₃ i 0 ≤ get_or D j 0 + taxicab s i j
    unfolding taxicab apart
    all-le i j h k =
        let u = voxel s i in
        let v = voxel s j in
        let gu = in-grid i h in
        let gv = in-grid j k in
        let a = z-le u.x u.y u.z v.z gu.x-in gu.y-in gu.z-in gv.z-in in
        let b = y-le u.x u.y v.y v.z gu.x-in gu.y-in gv.y-in gv.z-in in
        let c = x-le u.x v.x v.y v.z gu.x-in gv.x-in gv.y-in gv.z-in in
        let e = ap (λ (n : ℕ). get_or D₃ n 0) (index_is s pa pb i) in
        let f = ap (λ (n : ℕ). get_or D n 0) (index_is s pa pb j) in
        omega arith

    taxicab-to : (i x y z : ℕ) → x < s.a → y < s.b → taxicab s i (point x y z) ≡ gap (voxel s i).x x + gap (voxel s i).y y + gap (voxel s i).z z
    unfolding taxicab apart
    taxicab-to i x y z h k =
        let q = coords s pa pb (point x y z) x y z h k refl in
        rw (q.0, q.1, q.2)

    all-ge : (i : ℕ) → i < size s → (j : ℕ) × (j < size s) × (get_or D j 0 + taxicab s i j ≤ get_or D₃ i 0)
    all-ge i h =
        let u = voxel s i in
        let g = in-grid i h in
        let a = z-ge u.x u.y u.z g.x-in g.y-in g.z-in in
        let b = y-ge u.x u.y a.0 g.x-in g.y-in a.1 in
        let c = x-ge u.x b.0 a.0 g.x-in b.1 a.1 in
        let e = ap (λ (n : ℕ). get_or D₃ n 0) (index_is s pa pb i) in (
          point c.0 b.0 a.0,
          grid-in s pa pb pc c.0 b.0 a.0 c.1 b.1 a.1,
          omega (arith, taxicab-to i c.0 b.0 a.0 c.1 b.1, a.2, b.2, c.2),
        )

    -- ---- from S

    module _ (S : List ℕ) (E : Seeded s S D) where
      in-zero : (k : ℕ) → is_in S k ≡ true → get_or D k 0 ≡ 0
      in-zero k e = E.seeds.is k (E.filled.within k e) ∙ ap (λ (t : Bool). cond t 0 (s.a + s.b + s.c)) e

      to-each : (i j : ℕ) → i < size s → is_in S j ≡ true → get_or D₃ i 0 ≤ taxicab s i j
      to-each i j h e = omega (arith, all-le i j h (E.filled.within j e), in-zero j e)

      pub swept-measured : Measured s S D₃
      swept-measured =
          record {
            len = Z.len ∙ Y.len ∙ X.len ∙ len;
            is = λ i h.
                let w = all-ge i h in
                let g = w.2 in
                let j = E.filled.filled.0 in
                let up = to-each i j h E.filled.filled.1 in
                let lt = taxicab-lt s i j h (E.filled.within j E.filled.filled.1) in
                let near : is_in S w.0 ≡ true =
                elim (two (is_in S w.0)) [
                  | inl y ↦ y
                  | inr n ↦
                      let o = E.seeds.is w.0 w.1 ∙ ap (λ (t : Bool). cond {A = ℕ} t 0 (s.a + s.b + s.c)) n in
                      let z : ⊥ = omega arith in
                      absurd z
                ] in
                let z = in-zero w.0 near in
                let u = to-each i w.0 h near in
                sym (nearest-distance s S E.filled i h (get_or D₃ i 0)
                (record { nearest = w.0; listed = near; away = omega arith; none-nearer = λ k y. to-each i k h y }));
          }

-- bytes to which 1 can be added
pub seeded-small : (s : Sides) (F : Fit s) (S d : List ℕ) → Seeded s S d → (k : ℕ) → get_or d k 0 < 255
seeded-small s F S d E k =
    ⊎_elim
    (λ h. let e = get_or-eq_default d 0 {n = k} (let q = E.seeds.len in omega arith) in omega arith)
    (λ h. subst (λ (x : ℕ). x < 255) (sym (E.seeds.is k h)) (below (is_in S k)))
    (split (size s) k)
  where
    below : (t : Bool) → cond t 0 (s.a + s.b + s.c) < 255
    below true = omega arith
    below false = omega (arith, F.a-high, F.b-high, F.c-high)
