-- Patches one after the other: how many begin from a byte on, their checks, and the values with them applied.
use mathlib.Core.Path.{◌≡◌, refl, ap}
use mathlib.Core.Bool.{true}
use mathlib.Core.List.{List, [], ◌++◌}
use Prim.Native.Nat.{ℕ, zero, suc, ◌+◌, ◌≤◌, ◌<◌}
use native.Mathlib.Omega.{arith}
use lib.ListN.{length, set}
use lib.IntN.{ℤ}
use Rattle.rules.specs.Checks.{numbered}
use Rattle.format.specs.Patch.{patch_length, index_at, patch_at, patch_checks, patch_count, checks_of, applied_of, patches_checks, patched}

-- ---- how many

pub count_next : (file : List ℕ) (at : ℕ) → at < length file → patch_count file at ≡ suc (patch_count file (at + patch_length))
count_next file at h = omega arith

pub count_none : (file : List ℕ) (at : ℕ) → length file ≤ at → patch_count file at ≡ 0
count_none file at h = omega arith

-- ---- the checks

pub patches-numbered : (n : ℕ) (file : List ℕ) (left at : ℕ) → numbered (checks_of n file left at) ≡ true
unfolding checks_of
patches-numbered n file zero at = refl
patches-numbered n file (suc left) at = patches-numbered n file left (at + patch_length)

module _ (n : ℕ) (file : List ℕ) where
  pub checks-next : (at : ℕ) → at < length file → patches_checks n file at ≡ patch_checks n file at ++ patches_checks n file (at + patch_length)
  unfolding checks_of
  checks-next at h = ap (λ (k : ℕ). checks_of n file k at) (count_next file at h)

  pub checks-none : (at : ℕ) → length file ≤ at → patches_checks n file at ≡ []
  unfolding checks_of
  checks-none at h = ap (λ (k : ℕ). checks_of n file k at) (count_none file at h)

-- ---- applied

module _ (file : List ℕ) where
  pub patched-next :
      (at : ℕ) (values : List ℤ)
      → at < length file
      → patched file at values ≡ patched file (at + patch_length) (set values (index_at file at) (patch_at file at))
  unfolding applied_of
  patched-next at values h = ap (λ (k : ℕ). applied_of file k at values) (count_next file at h)

  pub patched-none : (at : ℕ) (values : List ℤ) → length file ≤ at → patched file at values ≡ values
  unfolding applied_of
  patched-none at values h = ap (λ (k : ℕ). applied_of file k at values) (count_none file at h)
