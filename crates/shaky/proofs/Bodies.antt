-- Where nothing is left to open, what is gone is open to the border past S, and S does not shake. The pair of grids whose bodies differ is by
-- computation.
use mathlib.Core.Path.{◌≡◌, refl, sym, ◌∙◌, subst, fun_ext}
use mathlib.Core.Logic.{◌↔◌}
use mathlib.Core.Bool.{Bool, true, false}
use mathlib.Core.List.{List}
use Prim.Native.Nat.{ℕ, ◌<◌}
use native.Mathlib.Omega.{arith}
use lib.IntN.{ℤ, pos}
use lib.ListN.{length, set}
use lib.Seq.{get_or-set_same, get_or-set_other}
use Rattle.rules.specs.declared.Sides.{Sides}
use Rattle.rules.specs.Grid.{size, is_in, missing, measured_non_negative}
use Rattle.rules.specs.Fill.{filled}
use Rattle.rules.specs.Begin.{inside}
use Rattle.rules.specs.Status.{is_kept}
use Rattle.rules.specs.Fifteen.{OpenToBorder, OnlyClosedIn}
use Rattle.rules.proofs.Fifteen.{unpinned-walls, fifteen-tells}
use Rattle.coarse.proofs.Examples.{coarse-rules}
use Rattle.coarse.proofs.Promises.{pins-none, coarse-fifteen-tells}
use Rattle.judging.specs.Own.{PinNothing}
use Rattle.judging.proofs.Closed.{fifteen-of-lists, coarse-fifteen-of-lists}
use Rattle.coarse.specs.Starts.{AcceptedGrid, plain, coarse, handed_by}
use Rattle.shaky.specs.Shaky.{away, DifferAt}
use Rattle.shaky.specs.Bodies.{NothingToOpen, after-calls, after_list, ShakenSameBody, tube, OtherBodies}
use Rattle.shaky.proofs.Shaky.{many-shaky-shots}

-- ---- nothing is left to open

-- the voxels gone are those open to the border past S
abbrev GoneIsOpen : Sides → (ℕ → Bool) → (ℕ → Bool) → Type 0
GoneIsOpen s S kept = (i : ℕ) → i < size s → (kept i ≡ false) ↔ (OpenToBorder s S i)

unpinned-open : {s : Sides} {S lent : List ℕ} {start : ℕ → Bool} {status : List ℕ} → PinNothing lent → OnlyClosedIn s S lent start status
    → GoneIsOpen s (is_in S) (is_kept status)
unpinned-open {s} {S} {lent} {start} {status} none closed i h =
    subst (λ (solid : ℕ → Bool). (is_kept status i ≡ false) ↔ (OpenToBorder s solid i)) (fun_ext (λ j. unpinned-walls S lent start j (none j)))
    (closed.gone-is-open i h)

gone-open : {s : Sides} {values : List ℤ} (a : AcceptedGrid s values) {kept : ℕ → Bool}
    → let S = is_in (inside s (filled s values)) in NothingToOpen s S (handed_by a) kept → GoneIsOpen s S kept
gone-open {s} {values} (plain T marks dist status r e) (after-calls calls lent none f) =
    unpinned-open none (fifteen-tells s T values marks dist status r e calls lent (pins-none lent none calls _) f)
gone-open {s} {values} (coarse T marks four c e) (after-calls calls lent none f) =
    unpinned-open none (coarse-fifteen-tells s T values marks four c e calls lent (pins-none lent none calls _) f)
gone-open {s} {values} (plain T marks dist status r e) (after_list l none) = (fifteen-of-lists s T values marks dist status r e l none).gone-is-open
gone-open {s} {values} (coarse T marks four c e) (after_list l none) = (coarse-fifteen-of-lists s T values marks four c e l none).gone-is-open

pub shaken-same-body : ShakenSameBody
shaken-same-body s p q one other e shaken kept kept' a b i h =
    go (kept i) (kept' i) (gone-open one a i h) (rw (sym (many-shaky-shots s p q one other e shaken).0) at (gone-open other b i h))
  where
    go : (t u : Bool) {A : Type 0} → (t ≡ false) ↔ A → (u ≡ false) ↔ A → t ≡ u
    go true true f g = refl
    go true false f g = f.1 (g.0 refl)
    go false u f g = sym (g.1 (f.0 refl))

-- ---- something is left to open

-- grids made by one value set in two ways
pub set-differ : (kind : ℤ → Bool) (values : List ℤ) (v : ℕ) (x y : ℤ) → v < length values → kind x ≡ true → kind y ≡ true
    → DifferAt kind (set values v x) (set values v y) v (away x y)
set-differ kind values v x y h k l =
    record {
      elsewhere = λ i n. get_or-set_other values v i x missing n ∙ sym (get_or-set_other values v i y missing n);
      one = rw get_or-set_same k;
      other = rw get_or-set_same l;
      by = rw (get_or-set_same values v x missing h, get_or-set_same values v y missing h);
    }

pub other-bodies : OtherBodies
unfolding coarse-rules
other-bodies =
    record {
      shot = set-differ (λ u. measured_non_negative u) (tube (pos 5)) 62 (pos 5) (pos 6) (omega arith) refl refl;
      one = record { ended = refl; kept = refl };
      other = record { ended = refl; kept = refl };
    }
