-- Voxels closer than w to an end of the grid, row by row: in a row the first and the last w, all if the row is. For a width of 1 they are the border.
use mathlib.Core.Path.{◌≡◌, sym, ap, ap₂, ◌∙◌}
use mathlib.Core.Bool.{Bool, true, false, ◌&&◌, ◌||◌}
use Prim.Native.Nat.{ℕ, suc, ◌+◌, ◌-◌, ◌*◌, ◌/◌, ◌%◌, ◌≤◌, ◌<◌}
use native.Mathlib.Omega.{arith}
use lib.Dec.{eqb, ltb}
use borrow.Author.Tests.{lt-ltb, le-ltb, ltb-true, eq-eqb, eqb-true}
use Rattle.cells.specs.Groups.{any}
use Rattle.prelude.proofs.Bools.{or-one, or-zero, both_ways}
use Rattle.rules.specs.declared.Sides.{Sides}
use Rattle.rules.specs.Grid.{Voxel, size, range, voxel, end, on_border}
use Rattle.rules.proofs.Distance.{voxel-inside}
use Rattle.prelude.proofs.Ranges.{any-run-ext, any-run-none-of, scan-join}
use Rattle.loops.proofs.Rows.{row-voxel}
use Rattle.begin_checks.specs.Given.{near_end, near_edge}

module _ (s : Sides) (w r : ℕ) where
  abbrev first : ℕ
  first = s.a * r

  -- the row lies there
  abbrev pub edge : Bool
  edge = near_end w s.b (r % s.b) || near_end w s.c (r / s.b)

  in_row : (i : ℕ) → first ≤ i → i < first + s.a → near_edge s w i ≡ near_end w s.a (i - first) || edge
  unfolding near_edge
  in_row i l h =
      let e : i ≡ first + (i - first) = omega arith in
      ap (λ (v : Voxel). near_end w s.a v.x || (near_end w s.b v.y || near_end w s.c v.z))
      (ap (voxel s) e ∙ row-voxel s r (i - first) (omega arith))

  module _ (p : ℕ → Bool) where
    abbrev on : ℕ → Bool
    on i = near_edge s w i && p i

    -- a row that lies there
    pub row-on-edge : edge ≡ true → any p (range first s.a) ≡ any on (range first s.a)
    row-on-edge e =
        any-run-ext p on first s.a
        (λ i l h.
        sym (ap (λ (t : Bool). t && p i) (in_row i l h ∙ ap (λ (t : Bool). near_end w s.a (i - first) || t) e ∙ or-one (near_end w s.a (i - first)))))

    -- any other: its first w voxels, and its last w
    pub row_ends : 2 * w ≤ s.a → edge ≡ false → any p (range first w) || any p (range (first + s.a - w) w) ≡ any on (range first s.a)
    row_ends d f =
        scan-join on first w (s.a - w) (first + w) s.a _ _
        (any-run-ext p on first w (λ i l h. sym (ap (λ (t : Bool). t && p i) (at i l (omega arith)
        ∙ ap (λ (t : Bool). t || ltb s.a (i - first + (w + 1))) (lt-ltb (i - first) w (omega arith))))))
        (scan-join on (first + w) (s.a - 2 * w) w (first + s.a - w) (s.a - w) false _
        (sym (any-run-none-of on (first + w) (s.a - 2 * w) (λ i l h.
        ap (λ (t : Bool). t && p i) (at i (omega arith) (omega arith)
        ∙ ap₂ ◌||◌ (le-ltb (i - first) w (omega arith)) (le-ltb s.a (i - first + (w + 1)) (omega arith))))))
        (any-run-ext p on (first + s.a - w) w (λ i l h. sym (ap (λ (t : Bool). t && p i) (at i (omega arith) (omega arith)
        ∙ ap (λ (t : Bool). ltb (i - first) w || t) (lt-ltb s.a (i - first + (w + 1)) (omega arith)) ∙ or-one (ltb (i - first) w)))))
        (omega arith) (omega arith))
        (omega arith) (omega arith)
      where
        at : (i : ℕ) → first ≤ i → i < first + s.a → near_edge s w i ≡ near_end w s.a (i - first)
        at i l h = in_row i l h ∙ ap (λ (t : Bool). near_end w s.a (i - first) || t) f ∙ or-zero (near_end w s.a (i - first))

-- ---- a width of 1

near-one : (side x : ℕ) → x < side → near_end 1 side x ≡ end side x
near-one side x h =
    ap₂ ◌||◌
    (both_ways (ltb x 1) (eqb x 0) (λ e. let l = ltb-true x 1 e in eq-eqb x 0 (omega arith)) (λ e. let q = eqb-true x 0 e in lt-ltb x 1 (omega arith)))
    (both_ways (ltb side (x + 2)) (eqb (suc x) side)
    (λ e. let l = ltb-true side (x + 2) e in eq-eqb (suc x) side (omega arith))
    (λ e. let q = eqb-true (suc x) side e in lt-ltb side (x + 2) (omega arith)))

-- is the border
pub border-near : (s : Sides) (i : ℕ) → i < size s → near_edge s 1 i ≡ on_border s i
unfolding near_edge on_border
border-near s i h =
    let g = voxel-inside s i h in
    let v = voxel s i in
    ap₂ ◌||◌ (near-one s.a v.x g.x-in) (ap₂ ◌||◌ (near-one s.b v.y g.y-in) (near-one s.c v.z g.z-in))
