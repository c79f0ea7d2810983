-- The least of the distances of a block's eight voxels, four of a layer and four of the next.
use mathlib.Core.Path.{◌≡◌, ap, ◌∙◌}
use mathlib.Core.List.{List, [], ◌∷◌, ◌++◌, map}
use Prim.Native.Nat.{ℕ, ◌+◌}
use native.Mathlib.Omega.{arith}
use lib.IntN.{ℤ}
use Rattle.std.proofs.lemmas.Int.{ints, clamps}
use Rattle.coarse.specs.Blocks.{lesser, least_from, least_of}
use Rattle.blocks.specs.Work.{square, corners}

lesser_comm : (x y : ℤ) → lesser x y ≡ lesser y x
lesser_comm x y = omega (arith, ints, clamps)

lesser_swap : (x y z : ℤ) → lesser x (lesser y z) ≡ lesser y (lesser x z)
lesser_swap x y z = omega (arith, ints, clamps)

lesser_assoc : (x y z : ℤ) → lesser (lesser x y) z ≡ lesser x (lesser y z)
lesser_assoc x y z = omega (arith, ints, clamps)

least-cons : (p q : ℤ) (ys : List ℤ) → lesser p (least_from q ys) ≡ least_from p (q ∷ ys)
unfolding least_from
least-cons p q [] = lesser_comm p q
least-cons p q (y ∷ ys) = lesser_swap p y (least_from q ys) ∙ ap (lesser y) (least-cons p q ys) ∙ lesser_swap y q (least_from p ys)

least_join : (p q : ℤ) (xs ys : List ℤ) → lesser (least_from p xs) (least_from q ys) ≡ least_from p (xs ++ q ∷ ys)
unfolding least_from
least_join p q [] ys = least-cons p q ys
least_join p q (x ∷ xs) ys = lesser_assoc x (least_from p xs) (least_from q ys) ∙ ap (lesser x) (least_join p q xs ys)

pub least-corners : (d : ℕ → ℤ) (a l at : ℕ) → lesser (least_of (map d (square a at))) (least_of (map d (square a (at + l)))) ≡ least_of (map d (corners a l at))
least-corners d a l at =
    least_join (d at) (d (at + l)) (d (at + 1) ∷ d (at + a) ∷ d (at + a + 1) ∷ []) (d (at + l + 1) ∷ d (at + l + a) ∷ d (at + l + a + 1) ∷ [])
    ∙ ap
    (λ (k : ℕ). least_from (d at) (d (at + 1) ∷ d (at + a) ∷ d (at + a + 1) ∷ d (at + l) ∷ d (at + l + 1) ∷ d k ∷ d (k + 1) ∷ []))
    (let e : at + l + a ≡ at + a + l = omega arith in e)
