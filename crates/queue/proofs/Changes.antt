-- What a change of one status byte does to the keys.
use mathlib.Core.Path.{◌≡◌, sym, ap, ◌∙◌}
use mathlib.Core.Bool.{Bool, true, cond}
use mathlib.Core.List.{List}
use Prim.Native.Nat.{ℕ, ◌+◌, ◌<◌}
use native.Mathlib.Omega.{arith}
use lib.IntN.{ℤ}
use lib.ListN.{length, set, length-set}
use lib.Seq.{get_or-set_same, get_or-set_other, set-get_or}
use Rattle.rules.specs.Grid.{distance_at}
use Rattle.rules.specs.Status.{status_of, pending_byte, woken, is_pending}
use Rattle.keys.specs.Key.{Lent, rank_by, rank_at, key_of, key_at, voxel_key}
use Rattle.keys.proofs.Ranks.{key-by}

module _ (hurried : ℕ → Bool) (dist : List ℤ) (status : List ℕ) (j s : ℕ) where
  pub key-other : (i : ℕ) → (i ≡ j → ⊥) → key_at hurried dist (set status j s) i ≡ key_at hurried dist status i
  unfolding key_at rank_at is_pending
  key-other i n = ap (λ (x : ℕ). key_of (cond (pending_byte x) (rank_by hurried (distance_at dist i) i) 0) i) (get_or-set_other status j i s 0 n)

  pub lent-set : Lent dist status → Lent dist (set status j s)
  lent-set v =
      let e = length-set status j s in
      let a = v.same in
      let b = v.some in
      let c = v.few in
      record { same = omega arith; some = omega arith; few = omega arith }

  -- the key that the byte gives the voxel
  pub key_set : j < length status → (b : Bool) → pending_byte s ≡ b → key_at hurried dist (set status j s) j ≡ cond b (voxel_key hurried dist j) 0
  key_set inside b e = key-by hurried dist (set status j s) j b here
    where
      here : is_pending (set status j s) j ≡ b
      here = unfold is_pending in ap pending_byte (get_or-set_same status j s 0 inside) ∙ e

-- a pending byte is made pending: nothing changes
pub woken-stays : (status : List ℕ) (j : ℕ) → is_pending status j ≡ true → status ≡ set status j (woken (status_of status j))
unfolding woken is_pending
woken-stays status j e =
    sym (ap (λ (b : Bool). set status j (cond b (status_of status j) (status_of status j + 2))) e ∙ set-get_or status j 0)
