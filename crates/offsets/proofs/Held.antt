-- The offsets of any key that is today's where it is not 0: where they lead to, and the keys that are read from them.
use mathlib.Core.Path.{◌≡◌, sym, ap, ◌∙◌}
use mathlib.Core.Bool.{Bool, cond}
use mathlib.Core.List.{List}
use Prim.Native.Nat.{ℕ, ◌+◌, ◌-◌, ◌*◌, ◌≤◌, ◌<◌, min}
use native.Mathlib.Omega.{arith}
use native.Mathlib.Decide.{dec_le, dec_lt}
use borrow.Author.Tests.{lt-ltb, le-ltb}
use lib.IntN.{ℤ}
use lib.ListN.{length, get_or}
use Rattle.rules.specs.Grid.{distance_at}
use Rattle.keys.specs.Key.{voxel_key, greatest, width, stretches, stretch_key}
use Rattle.keys.proofs.Greatest.{greatest-add, greatest-none, greatest-same}
use Rattle.keys.proofs.Ranks.{by-some, Keyed}
use Rattle.offsets.specs.Offsets.{Offsets, held_at, held_key, Held, group, groups, group_key, held_group}
use Rattle.offsets.proofs.Offsets.{Named}

module _ (hurried : ℕ → Bool) (dist : List ℤ) (offsets : List ℕ) (k : ℕ) where
  pub held-off : width ≤ get_or offsets k 0 → held_key hurried dist offsets k ≡ 0
  unfolding held_key
  held-off h = ap (λ (b : Bool). cond b (voxel_key hurried dist (held_at offsets k)) 0) (le-ltb (get_or offsets k 0) width h)

  pub held_on : get_or offsets k 0 < width → held_key hurried dist offsets k ≡ voxel_key hurried dist (held_at offsets k)
  unfolding held_key
  held_on h = ap (λ (b : Bool). cond b (voxel_key hurried dist (held_at offsets k)) 0) (lt-ltb (get_or offsets k 0) width h)

-- so many stretches as a group has
pub held-some :
    (hurried : ℕ → Bool) (dist : List ℤ) (offsets : List ℕ) (q count v : ℕ) → count ≡ min group (stretches (length dist) - group * q)
    → v ≡ greatest (held_key hurried dist offsets) (group * q) count → v ≡ held_group hurried dist offsets q
unfolding held_group
held-some hurried dist offsets q count v e r = r ∙ ap (greatest (held_key hurried dist offsets) (group * q)) e

module _ (hurried : ℕ → Bool) (dist : List ℤ) (key : ℕ → ℕ) (K : Keyed hurried dist key) where
  pub keyed-named : Named key
  keyed-named j h =
      let few = K.few in
      let i = K.inside j h in
      omega (arith, K.own j h, by-some hurried (distance_at dist j) j)

  stretch-past : (k : ℕ) → stretches (length dist) ≤ k → stretch_key key k ≡ 0
  unfolding stretch_key
  stretch-past k h = greatest-none key (width * k) width (λ j l. past j (omega arith))
    where
      past : (j : ℕ) → length dist ≤ j → key j ≡ 0
      past j l = elim (dec_lt 0 (key j)) [ yes p ↦ (let i = K.inside j p in let b : ⊥ = omega arith in absurd b) | no p ↦ omega arith ]

  module _ (offsets : List ℕ) (O : Offsets key (stretches (length dist)) offsets) where
    pub held : Held dist offsets
    held = record { few = K.few; room = O.room; inside = inside }
      where
        inside : (k : ℕ) → k < stretches (length dist) → held_at offsets k < length dist
        inside k h =
            let o = O.each k h in
            elim (dec_lt (get_or offsets k 0) width) [
              | yes u ↦ (
                  let w = o.on u in
                  let l = K.inside (width * k + get_or offsets k 0) (omega (arith, o.some u)) in
                  omega arith
                  )
              | no u ↦ omega (arith, o.high)
            ]

    pub held-key : (k : ℕ) → k < stretches (length dist) → held_key hurried dist offsets k ≡ stretch_key key k
    held-key k h =
        let o = O.each k h in
        elim (dec_lt (get_or offsets k 0) width) [
          | yes u ↦ (
              let w = o.on u in
              let e : held_at offsets k ≡ width * k + get_or offsets k 0 = omega arith in
              held_on hurried dist offsets k u ∙ ap (voxel_key hurried dist) e ∙ sym (K.own _ (omega (arith, o.some u))) ∙ sym w
              )
          | no u ↦ held-off hurried dist offsets k (omega arith) ∙ sym (o.off (omega (arith, o.high)))
        ]

    pub held-group : (q v : ℕ) → q < groups (stretches (length dist)) → v ≡ held_group hurried dist offsets q → v ≡ group_key key q
    unfolding group_key held_group
    held-group q v h r =
        r
        ∙ greatest-same (held_key hurried dist offsets) w (group * q) (min group (p - group * q)) (λ k l u. held-key k (omega arith))
        ∙ (elim (dec_le (group * q + group) p) [
          | yes u ↦ (let e : min group (p - group * q) ≡ group = omega arith in ap (greatest w (group * q)) e)
          | no u ↦ (
              let m : min group (p - group * q) ≡ p - group * q = omega arith in
              let z : (p - group * q) + (group * q + group - p) ≡ group = omega arith in
              let o = greatest-none w (group * q + (p - group * q)) (group * q + group - p) (λ k l. stretch-past k (omega arith)) in
              ap (greatest w (group * q)) m
              ∙ omega (arith, greatest-add w (group * q) (p - group * q) (group * q + group - p), ap (greatest w (group * q)) z)
              )
        ])
      where
        w : ℕ → ℕ
        w = stretch_key key

        p : ℕ
        p = stretches (length dist)
