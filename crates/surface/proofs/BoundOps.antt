-- For any format: a quotient, a sum and a difference of values that are not negative are one rounding of the exact result.
use mathlib.Core.Path.{◌≡◌, refl, sym, ap, ◌∙◌, subst}
use Prim.Native.Nat.{ℕ, ◌+◌, ◌-◌, ◌*◌, ◌^◌, ◌≤◌, ◌<◌}
use native.Mathlib.Nat.{le_trans, le_of_eq, lt_irrefl, not-le_of_lt, zero-mul, mul-one, mul_comm, mul_assoc}
use native.Mathlib.Nat.{mul_left_comm, mul-mul-mul_comm, mul-pos, mul-sub, add-mul, mul-le-mul_right, le_of_mul-le-mul_right}
use mathlib.Core.Bool.{Bool, true, false, cond, true≢false}
use lib.Dec.{T, ltb, ltb→lt, eqb, eqb→eq}
use lib.IntN.{ℤ, pos}
use lib.Ieee.{Float, nan, inf, fin, Format, prec, up, down, round, sum, add, sub, div, of_int}
use lib.Ieee.Fits.{down_pos}
use lib.Ieee.Exact.{HasValue}
use lib.Ieee.Back.{round_whole}
use lib.Ieee.Scale.{round_same}

-- a whole number up to 2 ^ prec keeps its value as a float
pub whole-value : (f : Format) (n : ℕ) → n ≤ 2 ^ prec f → HasValue (of_int f (pos n)) false n 1
unfolding of_int
whole-value f n h = round_whole f false n h

-- ---- M / D = a / c and N / E = b / d, cross multiplied
scale-l : (M D E a c d : ℕ) → M * c ≡ a * D → M * E * (c * d) ≡ a * d * (D * E)
scale-l M D E a c d h = mul-mul-mul_comm M E c d ∙ ap (λ (x : ℕ). x * (E * d)) h ∙ simp (mul_assoc, mul_comm, mul_left_comm)

scale-r : (N D E b c d : ℕ) → N * d ≡ b * E → N * D * (c * d) ≡ b * c * (D * E)
scale-r N D E b c d h =
    ap (λ (x : ℕ). N * D * x) (mul_comm c d) ∙ mul-mul-mul_comm N D d c ∙ ap (λ (x : ℕ). x * (D * c)) h ∙ simp (mul_assoc, mul_comm, mul_left_comm)

pub sub-mul : (x y k : ℕ) → (x - y) * k ≡ x * k - y * k
sub-mul x y k = mul_comm (x - y) k ∙ mul-sub k x y ∙ ap (λ (z : ℕ). z - k * y) (mul_comm k x) ∙ ap (λ (z : ℕ). x * k - z) (mul_comm k y)

-- ---- the sum
pub add_at : (f : Format) (x y : Float) (a c b d : ℕ) → 0 < c → 0 < d → HasValue x false a c → HasValue y false b d
    → add f x y ≡ round f false (a * d + b * c) (c * d)
unfolding add
add_at f nan y a c b d C D h k = absurd h
add_at f (inf s) y a c b d C D h k = absurd h
add_at f (fin true m e) y a c b d C D h k = absurd (true≢false h.0)
add_at f (fin false m e) nan a c b d C D h k = absurd k
add_at f (fin false m e) (inf t) a c b d C D h k = absurd k
add_at f (fin false m e) (fin true n g) a c b d C D h k = absurd (true≢false k.0)
add_at f (fin false m e) (fin false n g) a c b d C D h k =
    round_same f false (m * up e * down g + n * up g * down e) (down e * down g) (a * d + b * c) (c * d) (mul-pos (down_pos e) (down_pos g)) (mul-pos C D)
    (add-mul (m * up e * down g) (n * up g * down e) (c * d)
    ∙ ap (λ (z : ℕ). z + n * up g * down e * (c * d)) (scale-l (m * up e) (down e) (down g) a c d h.1)
    ∙ ap (λ (z : ℕ). a * d * (down e * down g) + z) (scale-r (n * up g) (down e) (down g) b c d k.1)
    ∙ sym (add-mul (a * d) (b * c) (down e * down g)))

-- ---- the difference, of a second that is not the larger
pick : (f : Format) (a b c : ℕ) → b ≤ a → sum f false a true b c ≡ round f false (a - b) c
unfolding sum
pick f a b c h = go (ltb a b) (ltb→lt a b)
  where
    go : (t : Bool) → (T t → a < b) → cond t (round f true (b - a) c) (round f false (a - b) c) ≡ round f false (a - b) c
    go true k = absurd (not-le_of_lt (k tt) h)
    go false k = refl

opened : (f : Format) (m : ℕ) (e : ℤ) (n : ℕ) (d : ℤ)
    → sub f (fin false m e) (fin false n d) ≡ sum f false (m * up e * down d) true (n * up d * down e) (down e * down d)
unfolding sub
opened f m e n d = refl

pub sub_at : (f : Format) (x y : Float) (a c b d : ℕ) → 0 < c → 0 < d → HasValue x false a c → HasValue y false b d
    → b * c ≤ a * d → sub f x y ≡ round f false (a * d - b * c) (c * d)
sub_at f nan y a c b d C D h k l = absurd h
sub_at f (inf s) y a c b d C D h k l = absurd h
sub_at f (fin true m e) y a c b d C D h k l = absurd (true≢false h.0)
sub_at f (fin false m e) nan a c b d C D h k l = absurd k
sub_at f (fin false m e) (inf t) a c b d C D h k l = absurd k
sub_at f (fin false m e) (fin true n g) a c b d C D h k l = absurd (true≢false k.0)
sub_at f (fin false m e) (fin false n g) a c b d C D h k l =
    let L = scale-l (m * up e) (down e) (down g) a c d h.1 in
    let R = scale-r (n * up g) (down e) (down g) b c d k.1 in
    let ord : n * up g * down e ≤ m * up e * down g =
    le_of_mul-le-mul_right (le_trans (le_of_eq R) (le_trans (mul-le-mul_right (down e * down g) l) (le_of_eq (sym L)))) (mul-pos C D) in
    opened f m e n g
    ∙ pick f (m * up e * down g) (n * up g * down e) (down e * down g) ord
    ∙ round_same f false (m * up e * down g - n * up g * down e) (down e * down g) (a * d - b * c) (c * d) (mul-pos (down_pos e) (down_pos g)) (mul-pos C D)
    (sub-mul (m * up e * down g) (n * up g * down e) (c * d)
    ∙ ap (λ (z : ℕ). z - n * up g * down e * (c * d)) L
    ∙ ap (λ (z : ℕ). a * d * (down e * down g) - z) R
    ∙ sym (sub-mul (a * d) (b * c) (down e * down g)))

-- ---- the quotient of whole numbers, by one above 0
no_zero : (n u s D : ℕ) → 0 < s * D → n * u * 1 ≡ s * D → n ≡ 0 → ⊥
no_zero n u s D h e z = lt_irrefl 0 (subst (λ (k : ℕ). 0 < k) (sym e ∙ mul-one (n * u) ∙ ap (λ (k : ℕ). k * u) z ∙ zero-mul u) h)

pub div-at : (f : Format) (x y : Float) (a b : ℕ) → 0 < b → HasValue x false a 1 → HasValue y false b 1 → div f x y ≡ round f false a b
unfolding div
div-at f nan y a b B h k = absurd h
div-at f (inf s) y a b B h k = absurd h
div-at f (fin true m e) y a b B h k = absurd (true≢false h.0)
div-at f (fin false m e) nan a b B h k = absurd k
div-at f (fin false m e) (inf t) a b B h k = absurd k
div-at f (fin false m e) (fin true n g) a b B h k = absurd (true≢false k.0)
div-at f (fin false m e) (fin false n g) a b B h k =
    let hm : m * up e ≡ a * down e = sym (mul-one (m * up e)) ∙ h.1 in
    let hn : n * up g ≡ b * down g = sym (mul-one (n * up g)) ∙ k.1 in
    let regroup : a * down e * down g * b ≡ a * (b * down g * down e) = simp (mul_assoc, mul_comm, mul_left_comm) in
    go (eqb n 0) (λ (t : T (eqb n 0)). no_zero n (up g) b (down g) (mul-pos B (down_pos g)) k.1 (eqb→eq n 0 t)) (cond (eqb m 0) nan (inf false))
    (round f false (m * up e * down g) (n * up g * down e))
    ∙ round_same f false (m * up e * down g) (n * up g * down e) a b
    (subst (λ (z : ℕ). 0 < z * down e) (sym hn) (mul-pos (mul-pos B (down_pos g)) (down_pos e))) B
    (ap (λ (z : ℕ). z * down g * b) hm ∙ regroup ∙ ap (λ (z : ℕ). a * (z * down e)) (sym hn))
  where
    go : (t : Bool) → (T t → ⊥) → (u v : Float) → cond t u v ≡ v
    go true z u v = absurd (z tt)
    go false z u v = refl
