-- What the marks joined say of each: number 29, and that none is to be read where they are 0.
use mathlib.Core.Path.{◌≡◌, refl, sym, ap, ap₂, ◌∙◌}
use mathlib.Core.Logic.{◌⊎◌, inl, inr}
use mathlib.Core.Bool.{Bool, true, not, ◌||◌}
use mathlib.Core.List.{List}
use Prim.Native.Nat.{ℕ, ◌-◌, ◌≤◌, ◌<◌}
use native.Mathlib.Omega.{arith}
use borrow.Author.Tests.{ltb-true, ltb-false, lt-ltb, le-ltb, eqb-true}
use lib.Bits.{bit_or, or_lt, or_add_and, and_le_l, and_le_r}
use lib.Dec.{ltb, eqb}
use lib.ListN.{length, get_or, take, get_or-eq_default}
use lib.Seq.{take-length}
use Rattle.cells.specs.Groups.{any}
use Rattle.prelude.proofs.Bools.{two, not-false}
use Rattle.prelude.proofs.Ranges.{none_below}
use Rattle.rules.specs.declared.Sides.{Sides}
use Rattle.rules.specs.Grid.{fit_sides, size, range}
use Rattle.rules.specs.Marks.{mark_of, marked, stray_mark}
use Rattle.rules.proofs.Places.{fit}
use Rattle.rules.proofs.Rows.{size-high}
use Rattle.rules.proofs.Unmarked.{marked-none}
use Rattle.loops.specs.Joined.{BitTest, Joined}
use Rattle.loops.proofs.Joining.{nonzero-test}
use Rattle.loops.proofs.Spans.{any-read}
use Rattle.marks.specs.Lent.{All, used_of}

-- a number over 3 has a bit from bit 2 on
over-test : BitTest (ltb 3)
over-test = record { none = refl; either = either }
  where
    either : (x y : ℕ) → ltb 3 (bit_or x y) ≡ ltb 3 x || ltb 3 y
    either x y =
        elim (two (ltb 3 x)) [
          | inl e ↦
              (let h = ltb-true 3 x e in
              lt-ltb 3 (bit_or x y) (omega (arith, or_add_and x y, and_le_r x y)) ∙ ap (λ (p : Bool). p || ltb 3 y) (sym e))
          | inr e ↦ elim (two (ltb 3 y)) [
            | inl f ↦
                (let h = ltb-true 3 y f in
                lt-ltb 3 (bit_or x y) (omega (arith, or_add_and x y, and_le_l x y)) ∙ ap₂ ◌||◌ (sym e) (sym f))
            | inr f ↦
                (let a : x < 4 = omega (arith, ltb-false 3 x e) in
                let b : y < 4 = omega (arith, ltb-false 3 y f) in
                let h : bit_or x y < 4 = or_lt 2 x y a b in
                le-ltb 3 (bit_or x y) (omega arith) ∙ ap₂ ◌||◌ (sym e) (sym f))
          ]
        ]

-- all are handed on, or none, and then they are 0
used-either : (all n : ℕ) → (used_of all n ≡ n) ⊎ ((all ≡ 0) × (used_of all n ≡ 0))
unfolding used_of
used-either all n = elim (two (eqb all 0)) [ inl e ↦ inr (eqb-true all 0 e, simp (e)) | inr e ↦ inl (simp (e)) ]

-- marks of the grid's size are no more than a grid can have
pub few-sized : (marks : List ℕ) (s : Sides) → fit_sides s ≡ true → length marks ≡ size s → length marks ≤ 262144
few-sized marks s f e = omega (arith, size-high s (fit s f))

module _ (marks : List ℕ) (all : ℕ) (j : Joined marks 0 (length marks) all) where
  joined-each : (p : ℕ → Bool) → BitTest p → p all ≡ any (λ i. p (get_or marks i 0)) (range 0 (length marks))
  joined-each p t = let e : length marks - 0 ≡ length marks = omega arith in j.each p t ∙ ap (λ (n : ℕ). any (λ i. p (get_or marks i 0)) (range 0 n)) e

  pub joined-stray : ltb 3 all ≡ stray_mark marks
  unfolding stray_mark
  joined-stray = joined-each (ltb 3) over-test ∙ sym (any-read (ltb 3) 0 marks)

module _ (marks : List ℕ) (all : ℕ) (h : All marks all) (few : length marks ≤ 262144) where
  pub stray-is : ltb 3 all ≡ stray_mark marks
  stray-is = joined-stray marks all (h few)

  -- all are 0
  each-zero : all ≡ 0 → (i : ℕ) → mark_of marks i ≡ 0
  each-zero e i =
      elim (two (ltb i (length marks))) [
        | inl l ↦
            eqb-true _ _ (not-false _ (none_below (λ i. not (eqb (get_or marks i 0) 0)) (length marks)
            (sym (joined-each marks all (h few) (λ x. not (eqb x 0)) nonzero-test) ∙ ap (λ (x : ℕ). not (eqb x 0)) e) i (ltb-true i _ l)))
        | inr l ↦ get_or-eq_default marks 0 (ltb-false i (length marks) l)
      ]

  -- the marks handed on ask for the same
  pub used-same : marked (take (used_of all (length marks)) marks) ≡ marked marks
  used-same =
      elim (used-either all (length marks)) [
        | inl e ↦ ap (λ (k : ℕ). marked (take k marks)) e ∙ ap marked (take-length marks)
        | inr p ↦ ap (λ (k : ℕ). marked (take k marks)) p.1 ∙ sym (marked-none marks (each-zero p.0))
      ]
