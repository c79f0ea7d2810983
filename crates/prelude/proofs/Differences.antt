-- Differences of whole numbers.
use mathlib.Core.Path.{◌≡◌, ap, sym, ◌∙◌}
use Prim.Native.Nat.{ℕ, ◌+◌}
use native.Mathlib.Omega.{arith}
use lib.IntN.{ℤ, pos, ◌+ℤ◌, ◌-ℤ◌, neg_ℤ, +ℤ_assoc, +ℤ_comm, neg_ℤ-+ℤ, +ℤ_invr, +ℤ_idr}

-- shut copies, so that nothing computes
add : ℤ → ℤ → ℤ
add x y = x +ℤ y

neg : ℤ → ℤ
neg x = neg_ℤ x

add_assoc : (x y z : ℤ) → add (add x y) z ≡ add x (add y z)
unfolding add
add_assoc x y z = +ℤ_assoc x y z

add_comm : (x y : ℤ) → add x y ≡ add y x
unfolding add
add_comm x y = +ℤ_comm x y

add_left : (x y z : ℤ) → add x (add y z) ≡ add y (add x z)
add_left x y z = sym (add_assoc x y z) ∙ ap (λ (w : ℤ). add w z) (add_comm x y) ∙ add_assoc y x z

neg-add : (x y : ℤ) → neg (add x y) ≡ add (neg x) (neg y)
unfolding add neg
neg-add x y = neg_ℤ-+ℤ x y

shuffle : (x y z w : ℤ) → add (add (add x (neg y)) z) (neg w) ≡ add (add x z) (neg (add y w))
shuffle x y z w = simp (neg-add, add_assoc, add_comm)

pair : (x y z w : ℤ) → add (add x (neg y)) (add z (neg w)) ≡ add (add x z) (neg (add y w))
pair x y z w = simp (neg-add, add_assoc, add_left)

cancel : (x w : ℤ) → x ≡ add (add x w) (neg w)
unfolding add neg
cancel x w = sym (+ℤ_assoc x w (neg_ℤ w) ∙ ap (λ (v : ℤ). x +ℤ v) (+ℤ_invr w) ∙ +ℤ_idr x)

cross : (x y z w : ℤ) → add x w ≡ add z y → add x (neg y) ≡ add z (neg w)
cross x y z w e =
    ap (λ (v : ℤ). add v (neg y)) (cancel x w)
    ∙ ap (λ (v : ℤ). add (add v (neg w)) (neg y)) e
    ∙ swap
    ∙ ap (λ (v : ℤ). add v (neg w)) (sym (cancel z y))
  where
    swap : add (add (add z y) (neg w)) (neg y) ≡ add (add (add z y) (neg y)) (neg w)
    swap = simp (add_assoc, add_comm)

-- c - e + f - q, and the same after k - m is added
pub add-difference : (c e f q k m c' e' f' q' : ℕ) → c + f + k + (e' + q') ≡ c' + f' + (e + q + m)
    → pos c' -ℤ pos e' +ℤ pos f' -ℤ pos q' ≡ (pos c -ℤ pos e +ℤ pos f -ℤ pos q) +ℤ (pos k -ℤ pos m)
unfolding add neg
add-difference c e f q k m c' e' f' q' h =
    shuffle (pos c') (pos e') (pos f') (pos q')
    ∙ cross (pos (c' + f')) (pos (e' + q')) (pos (c + f + k)) (pos (e + q + m)) (ap pos (sym h))
    ∙ sym (ap (λ (v : ℤ). add v (add (pos k) (neg (pos m)))) (shuffle (pos c) (pos e) (pos f) (pos q)) ∙ pair (pos (c + f)) (pos (e + q)) (pos k) (pos m))

-- a - b + c - d, where the sums tell what it is
pub difference : (m a b c d : ℕ) → m + b + d ≡ a + c → pos a -ℤ pos b +ℤ pos c -ℤ pos d ≡ pos m
unfolding add neg
difference m a b c d h =
    let g : a + c ≡ m + (b + d) = omega arith in
    shuffle (pos a) (pos b) (pos c) (pos d)
    ∙ ap (λ (x : ℕ). add (pos x) (neg (pos (b + d)))) g
    ∙ sym (cancel (pos m) (pos (b + d)))
