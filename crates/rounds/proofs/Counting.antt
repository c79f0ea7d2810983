-- The loop that counts kept voxels.
use mathlib.Core.Path.{◌≡◌, ap, sym, ◌∙◌}
use mathlib.Core.List.{List}
use Prim.Native.Nat.{ℕ, ◌+◌, ◌≤◌, ◌<◌}
use native.Mathlib.Omega.{arith}
use lib.ListN.{length}
use Rattle.cells.specs.Cells.{bit}
use Rattle.prelude.proofs.Counts.{counted, counted_none, counted-more}
use Rattle.rules.specs.Status.{is_kept}

pub record Counting (status : List ℕ) (n i : ℕ) : Type 0 where
  pub within : i ≤ length status
  pub below : n ≤ i
  pub counts : n ≡ counted (is_kept status) i

module _ (status : List ℕ) where
  pub counting-start : Counting status 0 0
  counting-start = record { within = omega arith; below = omega arith; counts = sym (counted_none (is_kept status)) }

  pub counting-next : (n m i : ℕ) → i < length status → m ≡ n + bit (is_kept status i) → m ≤ n + 1 → Counting status n i → Counting status m (i + 1)
  counting-next n m i h e l c =
      record {
        within = omega arith;
        below = omega (arith, c.below);
        counts = omega (arith, c.counts, counted-more (is_kept status) i);
      }

  pub counting-done : (n i : ℕ) → length status ≤ i → Counting status n i → n ≡ counted (is_kept status) (length status)
  counting-done n i h c = let e : i ≡ length status = omega (arith, c.within) in c.counts ∙ ap (counted (is_kept status)) e
