-- Voxels put back, one entry after the other from the last to the first; and putting back undoes taking out.
use mathlib.Core.Path.{◌≡◌, ap, ◌∙◌}
use mathlib.Core.List.{List}
use Prim.Native.Nat.{ℕ, suc, ◌+◌, ◌-◌, ◌%◌, ◌<◌}
use native.Mathlib.Omega.{arith}
use lib.Bits.{bit_and, bit_or, and_mask, or_add_and}
use lib.ListN.{length, set}
use lib.Seq.{get_or-set_same, set-set, set-get_or}
use Rattle.rules.specs.Status.{status_of}
use Rattle.entries.specs.Entries.{index_of, taken_out, kept_again, put_back}

module _ (list status : List ℕ) (r : ℕ) (below : index_of list r < length status) (odd : status_of status (index_of list r) % 2 ≡ 1) where
  abbrev i : ℕ
  i = index_of list r

  pub put-back-taken : put_back list (suc r) (taken_out status i) ≡ put_back list r status
  put-back-taken =
      let x = status_of status i in
      let gone : status_of (taken_out status i) i ≡ x - 1 = get_or-set_same status i (x - 1) 0 below in
      let back : status_of (taken_out status i) i + 1 - status_of (taken_out status i) i % 2 ≡ x = omega arith in
      ap (put_back list r) (ap (set (taken_out status i) i) back ∙ set-set status i (x - 1) x ∙ set-get_or status i 0)

-- ---- the loop: r entries are left, and the last of them is put back

set-bit : (x : ℕ) → bit_or x 1 ≡ x + 1 - x % 2
set-bit x = let m : bit_and x 1 ≡ x % 2 = and_mask x 1 in omega (arith, or_add_and x 1)

pub undoing-next : (list status : List ℕ) (r i : ℕ) → 0 < r → i ≡ index_of list (r - 1)
    → put_back list (r - 1) (set status i (bit_or (status_of status i) 1)) ≡ put_back list r status
undoing-next list status r i h e =
    let one : suc (r - 1) ≡ r = omega arith in
    ap (put_back list (r - 1)) (ap (set status i) (set-bit (status_of status i)) ∙ ap (kept_again status) e)
    ∙ ap (λ (k : ℕ). put_back list k status) one
