-- How many bytes a value has, by a record's first two bytes, and how its mark is then judged.
use mathlib.Core.Path.{◌≡◌, refl, ap, ◌∙◌}
use mathlib.Core.Logic.{inl, inr}
use mathlib.Core.Bool.{Bool, true, false, not, cond, ◌&&◌, ◌||◌}
use mathlib.Core.List.{List}
use Prim.Native.Nat.{ℕ, ◌+◌, ◌<◌}
use native.Mathlib.Omega.{arith}
use lib.Dec.{eqb}
use lib.ListN.{length, get_or-eq_default}
use Rattle.prelude.proofs.Bools.{and_zero, or-zero, or-one}
use Rattle.format.specs.Bytes.{byte_at, tagged, Width}
use Rattle.format.specs.Layer.{narrow_kind, wide_kind, width_at}

two-or-four : (t : Bool) → Width (cond t 4 2)
two-or-four true = inr refl
two-or-four false = inl refl

-- a record of four bytes a value has the wide mark, so only one of two can have a wrong one
wrong-by-width : (narrow wide : Bool) → not (narrow || wide) ≡ eqb (cond wide 4 2) 2 && not narrow
wrong-by-width narrow true = ap not (or-one narrow)
wrong-by-width narrow false = ap not (or-zero narrow)

module _ (file : List ℕ) (start : ℕ) where
  pub width_is : Width (width_at file start)
  unfolding width_at
  width_is = two-or-four (tagged wide_kind file start)

  pub width-wide : tagged wide_kind file start ≡ true → width_at file start ≡ 4
  unfolding width_at
  width-wide e = ap (λ (t : Bool). cond t 4 2) e

  pub width_narrow : tagged wide_kind file start ≡ false → width_at file start ≡ 2
  unfolding width_at
  width_narrow e = ap (λ (t : Bool). cond t 4 2) e

  -- a byte past the end is 0, and no mark's second
  pub width-short : length file < start + 2 → width_at file start ≡ 2
  width-short h =
      let past : byte_at file (start + 1) ≡ 0 = get_or-eq_default file 0 (omega arith) in
      width_narrow (ap (λ (b : ℕ). eqb (byte_at file start) 0x56 && eqb b wide_kind) past ∙ and_zero (eqb (byte_at file start) 0x56))

  pub wrong-mark : not (tagged narrow_kind file start || tagged wide_kind file start) ≡ eqb (width_at file start) 2 && not (tagged narrow_kind file start)
  unfolding width_at
  wrong-mark = wrong-by-width (tagged narrow_kind file start) (tagged wide_kind file start)
