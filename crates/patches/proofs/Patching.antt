-- Patches one after the other: what holds of one that is checked, and what is left to apply.
use mathlib.Core.Path.{◌≡◌, sym, subst, ◌∙◌}
use mathlib.Core.List.{List}
use Prim.Native.Nat.{ℕ, ◌+◌, ◌≤◌, ◌<◌}
use lib.ListN.{length, set, length-set}
use lib.IntN.{ℤ}
use borrow.Author.Tests.{ltb-false, leb-false}
use Rattle.rules.specs.Checks.{AllHold}
use Rattle.rules.proofs.Checks.{hold-append, held_at}
use Rattle.format.specs.Patch.{patch_length, index_at, patch_at, patch_checks, patches_checks, patched}
use Rattle.format.proofs.Patch.{checks-next, patched-next, patched-none}

-- ---- a record that no check refuses

module _ (n : ℕ) (file : List ℕ) where
  pub record Fit (at : ℕ) : Type 0 where
    pub whole : at + patch_length ≤ length file
    pub below : index_at file at < n

  pub fit : (at : ℕ) → AllHold (patch_checks n file at) → Fit at
  fit at h =
      let held = held_at (patch_checks n file at) h in
      record { whole = ltb-false _ _ (held 21); below = leb-false _ _ (held 5) }

-- ---- what is left to apply

module _ (file : List ℕ) where
  -- what is left to apply, of records that were checked, gives what all of them give
  pub record Applying (lent : List ℤ) (start : ℕ) (values : List ℤ) (at : ℕ) : Type 0 where
    pub long : length values ≡ length lent
    pub checked : AllHold (patches_checks (length lent) file at)
    pub same : patched file at values ≡ patched file start lent

  module _ (lent : List ℤ) (start : ℕ) where
    module _ (values : List ℤ) (at : ℕ) (p : Applying lent start values at) (h : at < length file) where
      both : (AllHold (patch_checks (length lent) file at)) × (AllHold (patches_checks (length lent) file (at + patch_length)))
      both =
          hold-append (patch_checks (length lent) file at) (patches_checks (length lent) file (at + patch_length))
          (subst AllHold (checks-next (length lent) file at h) p.checked)

      pub applying-fit : Fit (length lent) file at
      applying-fit = fit (length lent) file at both.0

      pub applying-next : (i : ℕ) (v : ℤ) → i ≡ index_at file at → v ≡ patch_at file at → Applying lent start (set values i v) (at + patch_length)
      applying-next i v ei ev =
          rw (ei, ev) (record {
            long = length-set values (index_at file at) (patch_at file at) ∙ p.long;
            checked = both.1;
            same = sym (patched-next file at values h) ∙ p.same;
          })

    pub applying-done : (values : List ℤ) (at : ℕ) → Applying lent start values at → length file ≤ at → values ≡ patched file start lent
    applying-done values at p h = sym (patched-none file at values h) ∙ p.same
