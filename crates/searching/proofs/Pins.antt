-- A stretch without marks: its keys are those of the surface.
use mathlib.Core.Path.{◌≡◌, sym, ap, ◌∙◌}
use mathlib.Core.Bool.{Bool, not, ◌&&◌}
use mathlib.Core.List.{List}
use Prim.Native.Nat.{ℕ, ◌-◌, ◌≤◌, ◌<◌}
use native.Mathlib.Omega.{arith}
use borrow.Author.Tests.{eqb-true}
use lib.Dec.{eqb}
use lib.IntN.{ℤ}
use lib.ListN.{get_or}
use Rattle.prelude.proofs.Bools.{and_one, not-false}
use Rattle.prelude.proofs.Lists.{any_false}
use Rattle.prelude.proofs.Ranges.{mem-range}
use Rattle.rules.specs.Grid.{distance_at}
use Rattle.rules.specs.Marks.{pinned_mark, marked}
use Rattle.loops.specs.Joined.{Joined}
use Rattle.loops.proofs.Joining.{nonzero-test}
use Rattle.searching.specs.Argmax.{surface_at, shown_at, height_of, surface_height, surface_key, height_at, key_at, rank, Greatest}

-- only the keys of the stretch count
same-greatest : (f g : ℕ → ℕ) (first end m : ℕ) → ((j : ℕ) → first ≤ j → j < end → f j ≡ g j) → Greatest f first end m → Greatest g first end m
same-greatest f g first end m e G =
    record {
      top = λ j l h. let q = e j l h in let t = G.top j l h in omega arith;
      some = λ p. let w = G.some p in (w.0, w.1, w.2, sym (e w.0 w.1 w.2) ∙ w.3);
    }

module _ (marks : List ℕ) (first end all : ℕ) (J : Joined marks first end all) (z : all ≡ 0) where
  unmarked-at : (j : ℕ) → first ≤ j → j < end → get_or marks j 0 ≡ 0
  unmarked-at j l h =
      eqb-true _ _ (not-false _ (any_false (λ i. not (eqb (get_or marks i 0) 0)) _
      (sym (J.each (λ x. not (eqb x 0)) nonzero-test) ∙ ap (λ (x : ℕ). not (eqb x 0)) z) j (mem-range first (end - first) j l (omega arith))))

  module _ (dist : List ℤ) (status : List ℕ) (a l : ℕ) where
    same_key : (j : ℕ) → first ≤ j → j < end → surface_key dist status a l j ≡ key_at (marked marks) dist status a l j
    unfolding surface_key surface_height key_at height_at shown_at marked pinned_mark
    same_key j k h =
        ap (λ (t : Bool). rank (height_of (distance_at dist j) t)) (sym (and_one (surface_at status a l j)))
        ∙ ap (λ (x : ℕ). rank (height_of (distance_at dist j) (surface_at status a l j && not (pinned_mark x)))) (sym (unmarked-at j k h))

    pub plain-is : (m : ℕ) → Greatest (surface_key dist status a l) first end m → Greatest (key_at (marked marks) dist status a l) first end m
    plain-is m = same-greatest _ _ first end m same_key
