-- x + p / d and x - p / d in doubles, the quotient rounded first and then the sum or the difference: each lies within 2 ^ -47 of the exact fraction.
-- U is 2 ^ 1074, so a double is a whole number of 1 / U. The quotient is off by 1 / 2 ^ 53 at most, and the sum, below 64, by 1 / 2 ^ 48.
use mathlib.Core.Path.{◌≡◌, sym, ap, ◌∙◌, subst}
use Prim.Native.Nat.{ℕ, ◌+◌, ◌-◌, ◌*◌, ◌^◌, ◌≤◌, ◌<◌}
use native.Mathlib.Nat.{le_trans, le_of_eq, le_of_lt, lt_of_le_of_lt, mul-one, mul_comm, mul_assoc, mul_left_comm, mul_right_comm}
use native.Mathlib.Nat.{add-mul, mul-le-mul_right, mul-lt-mul_of_pos_right, le_of_mul-le-mul_right, add-le-add, sub-le}
use native.Mathlib.Omega.{arith}
use mathlib.Core.Bool.{true, false, true≢false}
use lib.Dec.{lit<, lit≤}
use lib.Pow.{pow_pos}
use lib.Ieee.{Float, nan, inf, fin, binary64, up, down, round, add, sub, div}
use lib.Ieee.Exact.{HasValue}
use lib.Ieee.Scale.{grid, round_val}
use Rattle.rules.specs.Grid.{gap}
use Rattle.surface.specs.Surface.{whole, Near}
use Rattle.surface.proofs.BoundHalfUlp.{Off, grid-half, grid-le}
use Rattle.surface.proofs.BoundOps.{whole-value, add_at, sub_at, div-at, sub-mul}

-- ---- a value that is H / U, held to `Near`
gap-mul : (x y u : ℕ) → gap x y * u ≡ gap (x * u) (y * u)
unfolding gap
gap-mul x y u = add-mul (x - y) (y - x) u ∙ ap (λ (z : ℕ). z + (y - x) * u) (sub-mul x y u) ∙ ap (λ (z : ℕ). x * u - y * u + z) (sub-mul y x u)

near-cross : (M D H U a b k : ℕ) → 0 < U → M * U ≡ H * D → gap (H * b) (a * U) * k ≤ U * b → gap (M * b) (a * D) * k ≤ D * b
near-cross M D H U a b k P v h =
    let e : gap (M * b) (a * D) * U ≡ gap (H * b) (a * U) * D =
    gap-mul (M * b) (a * D) U
    ∙ ap (λ (z : ℕ). gap z (a * D * U)) (mul_right_comm M b U ∙ ap (λ (z : ℕ). z * b) v ∙ mul_right_comm H D b)
    ∙ ap (λ (z : ℕ). gap (H * b * D) z) (mul_right_comm a D U)
    ∙ sym (gap-mul (H * b) (a * U) D) in
    le_of_mul-le-mul_right
    (le_trans (le_of_eq (mul_right_comm (gap (M * b) (a * D)) k U ∙ ap (λ (z : ℕ). z * k) e ∙ mul_right_comm (gap (H * b) (a * U)) D k))
    (le_trans (mul-le-mul_right D h) (le_of_eq (regroup U b D))))
    P
  where
    regroup : (x y z : ℕ) → x * y * z ≡ z * y * x
    regroup x y z = simp (mul_assoc, mul_comm, mul_left_comm)

pub near_of : (r : Float) (H U a b : ℕ) → 0 < U → HasValue r false H U → gap (H * b) (a * U) * 2 ^ 47 ≤ U * b → Near r a b
near_of nan H U a b P v h = absurd v
near_of (inf s) H U a b P v h = absurd v
near_of (fin true m e) H U a b P v h = absurd (true≢false v.0)
near_of (fin false m e) H U a b P v h = near-cross (m * up e) (down e) H U a b (2 ^ 47) P v.1 h

-- ---- arithmetic over plain variables: `omega` meets no number of more than 38 digits
-- the two errors together, times d: G / U is off p / d by 1 / 2 ^ 53, and H / U is off x ± G / U by 1 / 2 ^ 48. U is 2 ^ 53 * w
lin-plus : (hd xud gd pu wd : ℕ) → Off (gd * 2) (pu * 2) (wd * 2) → Off (hd * 2) ((xud + gd) * 2) (wd * 64)
    → gap hd (xud + pu) * 140737488355328 ≤ wd * 9007199254740992
unfolding gap
lin-plus hd xud gd pu wd g h = omega arith

lin-minus : (hd xud gd pu wd : ℕ) → gd ≤ xud → pu ≤ xud → Off (gd * 2) (pu * 2) (wd * 2) → Off (hd * 2) ((xud - gd) * 2) (wd * 64)
    → gap hd (xud - pu) * 140737488355328 ≤ wd * 9007199254740992
unfolding gap
lin-minus hd xud gd pu wd a b g h = omega arith

-- from units of 1 / U ^ 2 to units of 1 / U, and on to d times as much
rescaled : (H A U W d : ℕ) → 0 < U → Off (H * U * 2) (A * U * 2) (U * W) → Off (H * d * 2) (A * d * 2) (d * W)
rescaled H A U W d P h = (up_by H A h.0, up_by A H h.1)
  where
    up_by : (x y : ℕ) → x * U * 2 ≤ y * U * 2 + U * W → x * d * 2 ≤ y * d * 2 + d * W
    up_by x y g =
        let s : x * 2 ≤ y * 2 + W =
        le_of_mul-le-mul_right
        (le_trans (le_of_eq (mul_right_comm x 2 U))
        (le_trans g (le_of_eq (ap (λ (z : ℕ). z + U * W) (mul_right_comm y U 2) ∙ ap (λ (z : ℕ). y * 2 * U + z) (mul_comm U W) ∙ sym (add-mul (y * 2) W U)))))
        P in
        le_trans (le_of_eq (mul_right_comm x d 2))
        (le_trans (mul-le-mul_right d s)
        (le_of_eq (add-mul (y * 2) W d ∙ ap (λ (z : ℕ). z + W * d) (mul_right_comm y 2 d) ∙ ap (λ (z : ℕ). y * d * 2 + z) (mul_comm W d))))

-- ---- 2 ^ 1074: a double is a whole number of 1 / U
abbrev U : ℕ
U = 2 ^ 1074

U_pos : 0 < U
U_pos = pow_pos 1074

-- the quotient, and the sum and the difference with a whole number
abbrev pub quotient : ℕ → ℕ → Float
quotient p d = div binary64 (whole p) (whole d)

module _ (p d : ℕ) (D : 0 < d) (pd : p ≤ d) (small : d ≤ 2 ^ 53) where
  q-is : quotient p d ≡ round binary64 false p d
  q-is = div-at binary64 (whole p) (whole d) p d D (whole-value binary64 p (le_trans pd small)) (whole-value binary64 d small)

  abbrev G : ℕ
  G = grid binary64 p d

  under_one : p * U ≤ U * d
  under_one = le_trans (mul-le-mul_right U pd) (le_of_eq (mul_comm d U))

  G-le : G ≤ U
  G-le = grid-le binary64 p d 1074 D under_one

  G-half : Off (G * d * 2) (p * U * 2) (d * 2 ^ 1021 * 2)
  G-half =
      subst (λ (z : ℕ). Off (G * d * 2) (p * U * 2) z) (sym (mul_assoc d (2 ^ 1021) 2))
      (grid-half binary64 p d 1022 D (lt_of_le_of_lt under_one (mul-lt-mul_of_pos_right (lit< tt) D)))

  q-value : HasValue (quotient p d) false G U
  q-value = subst (λ (r : Float). HasValue r false G U) (sym q-is) (round_val binary64 p d (lt_of_le_of_lt G-le (lit< tt)))

  -- a sum of A / U, below 64, rounded
  module _ (A : ℕ) (fine : A < 2 ^ 1080) where
    abbrev H : ℕ
    H = grid binary64 A U

    H-value : HasValue (round binary64 false A U) false H U
    H-value = round_val binary64 A U (lt_of_le_of_lt (grid-le binary64 A U 1080 U_pos (mul-le-mul_right U (le_of_lt fine))) (lit< tt))

    H-half : Off (H * d * 2) (A * d * 2) (d * 2 ^ 1021 * 64)
    H-half =
        subst (λ (z : ℕ). Off (H * d * 2) (A * d * 2) z) (sym (mul_assoc d (2 ^ 1021) 64))
        (rescaled H A U (2 ^ 1027) d U_pos (grid-half binary64 A U 1027 U_pos (mul-lt-mul_of_pos_right fine U_pos)))

  total : (h n : ℕ) → gap h n * 140737488355328 ≤ d * 2 ^ 1021 * 9007199254740992 → gap h n * 2 ^ 47 ≤ U * d
  total h n k = le_trans k (le_of_eq (mul_assoc d (2 ^ 1021) 9007199254740992 ∙ mul_comm d U))

  pub plus-near : (x : ℕ) → x ≤ 62 → Near (add binary64 (whole x) (quotient p d)) (x * d + p) d
  plus-near x hx =
      let A = x * U + G * 1 in
      let fine : A < 2 ^ 1080 = lt_of_le_of_lt (add-le-add (mul-le-mul_right U hx) (mul-le-mul_right 1 G-le)) (lit< tt) in
      let is : add binary64 (whole x) (quotient p d) ≡ round binary64 false A U =
      add_at binary64 (whole x) (quotient p d) x 1 G U (pow_pos 0) U_pos (whole-value binary64 x (le_trans hx (lit≤ tt))) q-value in
      let Ad : A * d ≡ x * U * d + G * d = add-mul (x * U) (G * 1) d ∙ ap (λ (z : ℕ). x * U * d + z * d) (mul-one G) in
      let exact : x * U * d + p * U ≡ (x * d + p) * U = ap (λ (z : ℕ). z + p * U) (mul_right_comm x U d) ∙ sym (add-mul (x * d) p U) in
      near_of (add binary64 (whole x) (quotient p d)) (H A fine) U (x * d + p) d U_pos
      (subst (λ (r : Float). HasValue r false (H A fine) U) (sym is) (H-value A fine))
      (total (H A fine * d) ((x * d + p) * U)
      (subst (λ (n : ℕ). gap (H A fine * d) n * 140737488355328 ≤ d * 2 ^ 1021 * 9007199254740992) exact
      (lin-plus (H A fine * d) (x * U * d) (G * d) (p * U) (d * 2 ^ 1021) G-half
      (subst (λ (z : ℕ). Off (H A fine * d * 2) (z * 2) (d * 2 ^ 1021 * 64)) Ad (H-half A fine)))))

  pub minus-near : (x : ℕ) → 1 ≤ x → x ≤ 63 → Near (sub binary64 (whole x) (quotient p d)) (x * d - p) d
  minus-near x lx hx =
      let A = x * U - G * 1 in
      let fine : A < 2 ^ 1080 = lt_of_le_of_lt (sub-le (x * U) (G * 1)) (lt_of_le_of_lt (mul-le-mul_right U hx) (lit< tt)) in
      let GU : G ≤ x * U = le_trans G-le (mul-le-mul_right U lx) in
      let is : sub binary64 (whole x) (quotient p d) ≡ round binary64 false A U =
      sub_at binary64 (whole x) (quotient p d) x 1 G U (pow_pos 0) U_pos (whole-value binary64 x (le_trans hx (lit≤ tt))) q-value
      (le_trans (le_of_eq (mul-one G)) GU) in
      let Ad : A * d ≡ x * U * d - G * d = sub-mul (x * U) (G * 1) d ∙ ap (λ (z : ℕ). x * U * d - z * d) (mul-one G) in
      let exact : x * U * d - p * U ≡ (x * d - p) * U = ap (λ (z : ℕ). z - p * U) (mul_right_comm x U d) ∙ sym (sub-mul (x * d) p U) in
      let pu : p * U ≤ x * U * d = le_trans under_one (mul-le-mul_right d (mul-le-mul_right U lx)) in
      near_of (sub binary64 (whole x) (quotient p d)) (H A fine) U (x * d - p) d U_pos
      (subst (λ (r : Float). HasValue r false (H A fine) U) (sym is) (H-value A fine))
      (total (H A fine * d) ((x * d - p) * U)
      (subst (λ (n : ℕ). gap (H A fine * d) n * 140737488355328 ≤ d * 2 ^ 1021 * 9007199254740992) exact
      (lin-minus (H A fine * d) (x * U * d) (G * d) (p * U) (d * 2 ^ 1021) (mul-le-mul_right d GU) pu G-half
      (subst (λ (z : ℕ). Off (H A fine * d * 2) (z * 2) (d * 2 ^ 1021 * 64)) Ad (H-half A fine)))))
