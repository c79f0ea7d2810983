-- Waking: one voxel, the voxels of two sets one after the other, and those at the bits of a number, one bit after the other.
use mathlib.Core.Path.{◌≡◌, refl, sym, ap, ◌∙◌, subst}
use mathlib.Core.Logic.{◌⊎◌, inl, inr}
use mathlib.Core.Bool.{Bool, true, false, not, cond, ◌&&◌, ◌||◌}
use mathlib.Core.List.{List}
use Prim.Native.Nat.{ℕ, ◌-◌, ◌/◌, ◌^◌, ◌≤◌, ◌<◌}
use native.Mathlib.Omega.{arith}
use native.Mathlib.Decide.{ℕ_discrete}
use lib.Bits.{bit_and}
use lib.IntN.{ℤ}
use lib.ListN.{length, set, length-set}
use lib.Seq.{get_or-set_same, get_or-set_other}
use Rattle.prelude.proofs.Bools.{two, not-both}
use Rattle.rules.specs.Grid.{is_negative, distance_at}
use Rattle.rules.specs.Status.{status_of, woken}
use Rattle.rules.specs.Marks.{Marked}
use Rattle.rules.specs.Machine.{is_inside, outside, may_go}
use Rattle.rules.proofs.Topology.Bytes.{woken-pending}
use Rattle.status.proofs.Bytes.{pending-stays}
use Rattle.bits.specs.Bits.{has}
use Rattle.neighbourhood.specs.Neighbourhood.{Room}
use Rattle.neighbourhood.proofs.Interior.{offset-most}
use Rattle.bits.specs.Lowest.{Lowest}
use Rattle.waking.specs.Waking.{woken_if, Woken, Only, AtBits, from_voxel}
use Rattle.waking.proofs.Idle.{has-below}

-- ---- one status

pub woken-twice : (x : ℕ) → woken (woken x) ≡ woken x
woken-twice x = pending-stays (woken x) (woken-pending x)

-- ---- sets of voxels

pub woken-both :
    {P Q : ℕ → Type 0} {before between after : List ℕ}
    → Woken P before between
    → Woken Q between after
    → Woken (λ j. (P j) ⊎ (Q j)) before after
woken-both {P} {Q} {before} {between} {after} p q = record { same = q.same ∙ p.same; each = λ j. at j (p.each j) (q.each j) }
  where
    at : (j : ℕ)
        → ((P j) × (status_of between j ≡ woken (status_of before j))) ⊎ ((P j → ⊥) × (status_of between j ≡ status_of before j))
        → ((Q j) × (status_of after j ≡ woken (status_of between j))) ⊎ ((Q j → ⊥) × (status_of after j ≡ status_of between j))
        → (((P j) ⊎ (Q j)) × (status_of after j ≡ woken (status_of before j)))
        ⊎ (((P j) ⊎ (Q j) → ⊥) × (status_of after j ≡ status_of before j))
    at j (inl a) (inl b) = inl (inl a.0, b.1 ∙ ap woken a.1 ∙ woken-twice (status_of before j))
    at j (inl a) (inr b) = inl (inl a.0, b.1 ∙ a.1)
    at j (inr a) (inl b) = inl (inr b.0, b.1 ∙ ap woken a.1)
    at j (inr a) (inr b) = inr (λ x. elim x [ inl y ↦ a.0 y | inr y ↦ b.0 y ], b.1 ∙ a.1)

-- the same set in other words
pub woken-same :
    {P Q : ℕ → Type 0} {before after : List ℕ}
    → ((j : ℕ) → P j → Q j)
    → ((j : ℕ) → Q j → P j)
    → Woken P before after
    → Woken Q before after
woken-same {P} {Q} {before} {after} f g p = record { same = p.same; each = λ j. at j (p.each j) }
  where
    at : (j : ℕ)
        → ((P j) × (status_of after j ≡ woken (status_of before j))) ⊎ ((P j → ⊥) × (status_of after j ≡ status_of before j))
        → ((Q j) × (status_of after j ≡ woken (status_of before j))) ⊎ ((Q j → ⊥) × (status_of after j ≡ status_of before j))
    at j (inl a) = inl (f j a.0, a.1)
    at j (inr a) = inr (λ x. a.0 (g j x), a.1)

pub woken-none : {P : ℕ → Type 0} (status : List ℕ) → ((j : ℕ) → P j → ⊥) → Woken P status status
woken-none status n = record { same = refl; each = λ j. inr (n j, refl) }

-- ---- one voxel

module _ (free : ℕ → Bool) (status : List ℕ) (j : ℕ) where
  pub woken-one : (v : ℕ) → j < length status → free j ≡ true → v ≡ woken (status_of status j) → Woken (Only free j) status (set status j v)
  woken-one v h f e = record { same = length-set status j v; each = λ k. at k (ℕ_discrete k j) }
    where
      at : (k : ℕ) → Dec (k ≡ j)
          → ((Only free j k) × (status_of (set status j v) k ≡ woken (status_of status k)))
          ⊎ ((Only free j k → ⊥) × (status_of (set status j v) k ≡ status_of status k))
      at k (no n) = inr (λ o. n o.0, get_or-set_other status j k v 0 n)
      at k (yes q) =
          inl ((q, ap free q ∙ f), subst (λ (i : ℕ). status_of (set status j v) i ≡ woken (status_of status i)) (sym q) (get_or-set_same status j v 0 h ∙ e))

  pub woken-bound : free j ≡ false → Woken (Only free j) status status
  woken-bound f = woken-none status (λ k o. not-both (free k) o.1 (ap free o.0 ∙ f))

  -- one that stays as it is
  pub woken-as-is : (v : ℕ) → j < length status → free j ≡ false → v ≡ status_of status j → Woken (Only free j) status (set status j v)
  woken-as-is v h f e = record { same = length-set status j v; each = λ k. at k (ℕ_discrete k j) }
    where
      at : (k : ℕ) → Dec (k ≡ j)
          → ((Only free j k) × (status_of (set status j v) k ≡ woken (status_of status k)))
          ⊎ ((Only free j k → ⊥) × (status_of (set status j v) k ≡ status_of status k))
      at k (no n) = inr (λ o. n o.0, get_or-set_other status j k v 0 n)
      at k (yes q) =
          inr (
            λ o. not-both (free k) o.1 (ap free q ∙ f),
            subst (λ (i : ℕ). status_of (set status j v) i ≡ status_of status i) (sym q) (get_or-set_same status j v 0 h ∙ e),
          )

-- by the sign of its distance and its pin
module _ (m : Marked) (dist : List ℤ) (j : ℕ) where
  pub may-go-is : may_go m dist j ≡ not (is_negative (distance_at dist j) || m.pinned j)
  unfolding may_go outside is_inside
  may-go-is = go (is_negative (distance_at dist j))
    where
      go : (t : Bool) → (not t && not (m.pinned j)) ≡ not (t || m.pinned j)
      go true = refl
      go false = refl

  pub woken-by-sign :
      (status : List ℕ) (v : ℕ)
      → j < length status
      → v ≡ woken_if (distance_at dist j) (m.pinned j) (status_of status j)
      → Woken (Only (may_go m dist) j) status (set status j v)
  unfolding woken_if
  woken-by-sign status v h e =
      elim (two (is_negative (distance_at dist j) || m.pinned j)) [
        | inl t ↦
            woken-as-is (may_go m dist) status j v h (may-go-is ∙ ap not t)
            (e ∙ ap (λ (u : Bool). cond u (status_of status j) (woken (status_of status j))) t)
        | inr t ↦
            woken-one (may_go m dist) status j v h (may-go-is ∙ ap not t)
            (e ∙ ap (λ (u : Bool). cond u (status_of status j) (woken (status_of status j))) t)
      ]

-- ---- the bits of a number, one after the other: m is what is left of x

pub lowest-position : (x m t : ℕ) → x < 2 ^ 54 → m ≤ x → Lowest m t → t / 2 < 27
lowest-position x m t h l w = let k : m < 2 ^ 54 = omega arith in let b = has-below 54 m t k w.here in omega arith

pub position-below : (a l at p n : ℕ) → Room a l at n → p < 27 → from_voxel a l at p < n
position-below a l at p n r h = omega (arith, offset-most a l p h, r.ends)

pub record Rousing (free : ℕ → Bool) (x : ℕ) (voxel_at : ℕ → ℕ) (before : List ℕ) (m : ℕ) (after : List ℕ) : Type 0 where
  pub within : (t : ℕ) → has m t ≡ true → has x t ≡ true
  pub woken : Woken (λ j. (t : ℕ) × (has x t ≡ true) × (has m t ≡ false) × (j ≡ voxel_at (t / 2)) × (free j ≡ true)) before after

module _ (free : ℕ → Bool) (x : ℕ) (voxel_at : ℕ → ℕ) (before : List ℕ) where
  pub rousing-start : Rousing free x voxel_at before x before
  rousing-start =
      record { within = λ t e. e; woken = woken-none before (λ j r. not-both (has x r.0) r.1 r.2) }

  pub rousing-next :
      (m t : ℕ) (status after : List ℕ)
      → Rousing free x voxel_at before m status
      → Lowest m t
      → Woken (Only free (voxel_at (t / 2))) status after
      → Rousing free x voxel_at before (bit_and m (m - 1)) after
  rousing-next m t status after r low w =
      record { within = λ c e. within c e (ℕ_discrete c t); woken = woken-same to back (woken-both r.woken w) }
    where
      next : ℕ
      next = bit_and m (m - 1)

      within : (c : ℕ) → has next c ≡ true → Dec (c ≡ t) → has x c ≡ true
      within c e (yes q) = not-both (has next c) e (ap (has next) q ∙ low.gone)
      within c e (no n) = r.within c (sym (low.others c n) ∙ e)

      to : (j : ℕ)
          → ((c : ℕ) × (has x c ≡ true) × (has m c ≡ false) × (j ≡ voxel_at (c / 2)) × (free j ≡ true)) ⊎ (Only free (voxel_at (t / 2)) j)
          → (c : ℕ) × (has x c ≡ true) × (has next c ≡ false) × (j ≡ voxel_at (c / 2)) × (free j ≡ true)
      to j (inl (c, e, f, g, h)) = (c, e, low.others c (λ q. not-both (has m t) low.here (ap (has m) (sym q) ∙ f)) ∙ f, g, h)
      to j (inr (g, h)) = (t, r.within t low.here, low.gone, g, h)

      back : (j : ℕ)
          → (c : ℕ) × (has x c ≡ true) × (has next c ≡ false) × (j ≡ voxel_at (c / 2)) × (free j ≡ true)
          → ((c : ℕ) × (has x c ≡ true) × (has m c ≡ false) × (j ≡ voxel_at (c / 2)) × (free j ≡ true)) ⊎ (Only free (voxel_at (t / 2)) j)
      back j (c, e, f, g, h) =
          elim (ℕ_discrete c t) [
            | yes q ↦ inr (g ∙ ap (λ (n : ℕ). voxel_at (n / 2)) q, h)
            | no n ↦ inl (c, e, sym (low.others c n) ∙ f, g, h)
          ]

  pub rousing-done :
      (m : ℕ) (after : List ℕ)
      → Rousing free x voxel_at before m after
      → ((t : ℕ) → has m t ≡ false)
      → Woken (AtBits free x voxel_at) before after
  rousing-done m after r none = woken-same (λ j q. (q.0, q.1, q.3, q.4)) (λ j q. (q.0, q.1, none q.0, q.2, q.3)) r.woken
