-- The numbers of serve's checks, by what each check found, and what holds where none of them fails.
use mathlib.Core.Path.{◌≡◌, ap, ap₂, sym, ◌∙◌}
use mathlib.Core.Bool.{Bool, true, false, not, ◌&&◌}
use mathlib.Core.List.{List}
use Prim.Native.Nat.{ℕ, ◌≤◌}
use lib.Dec.{leb, eqb}
use lib.IntN.{ℤ}
use lib.ListN.{length, get_or, take}
use lib.Seq.{take_all}
use native.Mathlib.Omega.{arith}
use native.Mathlib.Decide.{ℕ_discrete}
use borrow.Author.Tests.{leb-true, eqb-true, eq-eqb, ne_eqb}
use Rattle.cells.specs.Groups.{any}
use Rattle.prelude.proofs.Bools.{and-true, true-and, not-false}
use Rattle.prelude.proofs.Ranges.{none_below}
use Rattle.rules.specs.declared.Record.{Record}
use Rattle.rules.specs.Grid.{fit_sides}
use Rattle.rules.specs.Checks.{AllHold}
use Rattle.rules.proofs.Checks.{held_at}
use Rattle.office.specs.declared.Grids.{Grids}
use Rattle.office.specs.Parts.{total}
use Rattle.office.specs.Serve.{no_record, within}
use Rattle.office.specs.Structs.{records_of}
use Rattle.serving_checks.specs.Given.{sizes_of, Sized, LaidOut, layout_checks}
use Rattle.serving_checks.proofs.Places.{at_places, length-sizes}

-- 34
pub few-grids : (limit count : ℕ) → not (within 1 1000 limit && within 1 16 count) ≡ false → count ≤ 16
few-grids limit count e =
    let p = and-true (within 1 1000 limit) (within 1 16 count) (not-false _ e) in
    leb-true count 16 (and-true (leb 1 count) (leb count 16) p.1).1

-- and 1
pub sized : (g : Grids) → g.count ≤ 16 → any (λ r. not (fit_sides r.sides)) (records_of g) ≡ false → Sized g
sized g few e =
    record {
      few = few;
      sides = λ p h. not-false _ (none_below (λ p. not (fit_sides (get_or g.records p no_record).sides)) g.count
          (sym (at_places g (λ (r : Record). not (fit_sides r.sides))) ∙ e) p h);
    }

-- all parts end where the last does
pub all-sizes : (g : Grids) → total (take g.count (sizes_of g)) ≡ total (sizes_of g)
all-sizes g = ap total (take_all g.count (sizes_of g) (omega (arith, length-sizes g)))

-- the lengths, each compared
pub same-lengths : (d s m n : ℕ) → d ≡ n → s ≡ n → m ≡ n → not (eqb d n && (eqb s n && eqb m n)) ≡ false
same-lengths d s m n e f g =
    ap not (true-and (eqb d n) _ (eq-eqb d n e) (true-and (eqb s n) (eqb m n) (eq-eqb s n f) (eq-eqb m n g)))

pub other-lengths : (d s m n : ℕ) → (d ≡ n → s ≡ n → m ≡ n → ⊥) → not (eqb d n && (eqb s n && eqb m n)) ≡ true
other-lengths d s m n h = go (ℕ_discrete d n) (ℕ_discrete s n) (ℕ_discrete m n)
  where
    go : Dec (d ≡ n) → Dec (s ≡ n) → Dec (m ≡ n) → not (eqb d n && (eqb s n && eqb m n)) ≡ true
    go (no f) y z = ap (λ (t : Bool). not (t && (eqb s n && eqb m n))) (ne_eqb d n f)
    go (yes e) (no f) z = ap₂ (λ (t u : Bool). not (t && (u && eqb m n))) (eq-eqb d n e) (ne_eqb s n f)
    go (yes e) (yes f) (no g) = ap not (ap₂ ◌&&◌ (eq-eqb d n e) (ap₂ ◌&&◌ (eq-eqb s n f) (ne_eqb m n g)))
    go (yes e) (yes f) (yes g) = absurd (h e f g)

-- and 2
module _ (limit : ℕ) (g : Grids) (dist : List ℤ) (status marks : List ℕ)
    (h : AllHold (layout_checks limit g (length dist) (length status) (length marks))) where
  pub laid_out : (LaidOut g dist status) × (length marks ≡ total (sizes_of g))
  laid_out =
      let held = held_at (layout_checks limit g (length dist) (length status) (length marks)) h in
      let n = total (sizes_of g) in
      let d = and-true (eqb (length dist) n) _ (not-false _ (held 2)) in
      let s = and-true (eqb (length status) n) (eqb (length marks) n) d.1 in (
        record {
          sized = sized g (few-grids limit g.count (held 34)) (held 1);
          distances = eqb-true (length dist) n d.0;
          statuses = eqb-true (length status) n s.0;
        },
        eqb-true (length marks) n s.1,
      )
