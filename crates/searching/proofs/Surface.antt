-- A kept voxel of a body with a face neighbour that is not kept: by its six indices, and by the rule.
use mathlib.Core.Path.{◌≡◌, refl, ap, ◌∙◌}
use mathlib.Core.Bool.{Bool, true, false, not, ◌&&◌, ◌||◌}
use mathlib.Core.List.{List}
use Prim.Native.Nat.{ℕ, ◌+◌, ◌-◌, ◌*◌, ◌≤◌, ◌<◌}
use native.Mathlib.Omega.{arith}
use native.Mathlib.Nat.{mul-le-mul_left}
use Rattle.cells.specs.Groups.{any}
use Rattle.rules.specs.declared.Sides.{Sides}
use Rattle.rules.specs.Grid.{neighbourhood}
use Rattle.rules.specs.Begin.{exposed}
use Rattle.rules.specs.Status.{is_kept}
use Rattle.rules.proofs.Places.{fit}
use Rattle.rules.specs.Neighbours.{Inner}
use Rattle.neighbourhood.specs.Neighbourhood.{around}
use Rattle.neighbourhood.proofs.Interior.{first_below}
use Rattle.neighbourhood.proofs.Gathering.{neighbourhood-around}
use Rattle.searching.specs.Argmax.{enclosed}

-- one of six is not
six :
    (p q r t u v : Bool)
    → not p || (not q || (not r || (not t || (not u || (not v || false))))) ≡ not (p && (q && (r && (t && (u && v)))))
six true true true true true true = refl
six true true true true true false = refl
six true true true true false v = refl
six true true true false u v = refl
six true true false t u v = refl
six true false r t u v = refl
six false q r t u v = refl

module _ (s : Sides) (status : List ℕ) (i : ℕ) (n : Inner s i) where
  abbrev l : ℕ
  l = s.a * s.b

  row_first : (s.a ≤ l) × (1 + s.a + l ≤ i)
  row_first =
      let f = fit s n.sides in
      let m : s.a * 1 ≤ s.a * s.b = mul-le-mul_left s.a (let q : 1 ≤ s.b = omega (arith, f.b-low) in q) in
      (omega arith, first_below s i n)

  face : (p j : ℕ) → p < 27 → around s i p ≡ j → neighbourhood s (is_kept status) i p ≡ is_kept status j
  face p j h e = neighbourhood-around s i n (is_kept status) p h ∙ ap (is_kept status) e

  pub exposed-is : exposed s (is_kept status) i ≡ not (enclosed status s.a l i)
  unfolding exposed any enclosed around
  exposed-is =
      let w = row_first in
      let o = w.0 in
      let b = w.1 in
      let e4 = face 4 (i - l) (omega arith) (omega arith) in
      let e10 = face 10 (i - s.a) (omega arith) (omega arith) in
      let e12 = face 12 (i - 1) (omega arith) (omega arith) in
      let e14 = face 14 (i + 1) (omega arith) (omega arith) in
      let e16 = face 16 (i + s.a) (omega arith) (omega arith) in
      let e22 = face 22 (i + l) (omega arith) (omega arith) in
      (λ k. not (e4 k) || (not (e10 k) || (not (e12 k) || (not (e14 k) || (not (e16 k) || (not (e22 k) || false))))))
      ∙ six (is_kept status (i - l)) (is_kept status (i - s.a)) (is_kept status (i - 1)) (is_kept status (i + 1)) (is_kept status (i + s.a))
      (is_kept status (i + l))
