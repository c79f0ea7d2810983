-- The first key of the front is the greatest, and the greatest key is that of the voxel to examine next.
use mathlib.Core.Path.{◌≡◌, sym, ap, ◌∙◌, subst}
use mathlib.Core.Bool.{true, false}
use mathlib.Core.Logic.{inl, inr}
use mathlib.Core.List.{List}
use Prim.Native.Nat.{ℕ, ◌≤◌, ◌<◌}
use native.Mathlib.Omega.{arith}
use lib.IntN.{ℤ}
use lib.ListN.{length, get_or}
use mir.Syntax.{w32}
use mir.Val.{SFits}
use Rattle.prelude.proofs.Bools.{two}
use Rattle.rules.specs.declared.Sides.{Sides}
use Rattle.rules.specs.Grid.{size, distance_at}
use Rattle.rules.specs.Status.{is_pending}
use Rattle.rules.specs.Marks.{Marked}
use Rattle.rules.specs.Machine.{sooner}
use Rattle.rules.specs.Choice.{Foremost}
use Rattle.rules.proofs.Foremost.{sooner-order, none_first, foremost-first-of}
use Rattle.keys.specs.Key.{key_at, voxel_of}
use Rattle.keys.proofs.Ranks.{by-some, by_less, by-least, key-by, key-pending, key-some, Keyed, keyed}
use Rattle.offsets.proofs.Held.{keyed-named}
use Rattle.std.specs.Prelude.{None, Some}
use Rattle.queue.specs.Queue.{Queue, Best}
use Rattle.queue.proofs.Queuing.{front-some, all-low, key-low, first-greatest, root-own}
use Rattle.queue.proofs.Steps.{some}

module _ (m : Marked) (dist : List ℤ) (status offsets tree front : List ℕ) (head : ℕ) (Q : Queue m dist status offsets tree front head) where
  abbrev key : ℕ → ℕ
  key = key_at m.hurried dist status

  abbrev K : Keyed m.hurried dist key
  K = keyed m.hurried dist status Q.lent

  -- a key, of a pending voxel
  pub record Own (w j : ℕ) : Type 0 where
    pub inside : j < length status
    pub pending : is_pending status j ≡ true
    pub key : w ≡ key_at m.hurried dist status j

  own : (w j : ℕ) → w ≡ key j → 0 < w → Own w j
  own w j e h =
      let p : 0 < key j = omega arith in
      record { inside = omega (arith, K.inside j p, Q.lent.same); pending = key-pending m.hurried dist status j p; key = e }

  -- the first key gives back its voxel
  pub first-own : 0 < get_or front head 0 → Own (get_or front head 0) (voxel_of (get_or front head 0))
  first-own h =
      let u = front-some m.hurried dist key K (some m dist status offsets tree front head Q) Q.top offsets tree front head Q.keys h in
      let w = Q.keys.own head (omega arith) u in
      subst (Own (get_or front head 0)) (sym (ap voxel_of w.1 ∙ keyed-named m.hurried dist key K w.0 (omega (arith, w.1)))) (own _ w.0 w.1 h)

  -- where the front is empty, the root is a key too
  pub root-pending : get_or front head 0 ≡ 0 → 0 < get_or tree 1 0 → (j : ℕ) × Own (get_or tree 1 0) j
  root-pending z h =
      let w = root-own m.hurried dist key K (some m dist status offsets tree front head Q) Q.top offsets tree front head Q.keys z h in
      (w.0, own _ w.0 w.1 h)

  pub idle : get_or front head 0 ≡ 0 → get_or tree 1 0 ≡ 0 → (j : ℕ) → j < length status → is_pending status j ≡ false
  idle z e j u =
      elim (two (is_pending status j)) [
        | inl p ↦ (
            let s = some m dist status offsets tree front head Q in
            let l = all-low m.hurried dist key K s Q.top offsets tree front head Q.keys z j in
            let r = key-low m.hurried dist key K s Q.top offsets tree front head Q.keys j l in
            let b : ⊥ = omega (arith, key-some m.hurried dist status j (omega (arith, Q.lent.few)) p) in
            absurd b
            )
        | inr p ↦ p
      ]

  module _ (s : Sides) (grid : size s ≡ length status) (w j : ℕ) (v : Own w j) (top : (i : ℕ) → key i ≤ w) where
    foremost : SFits w32 (distance_at dist j) → Foremost s (sooner m dist) (is_pending status) j
    foremost f =
        let few = Q.lent.few in
        let inside = v.inside in
        let own = v.key ∙ key-by m.hurried dist status j true v.pending in
        record {
          below = omega arith;
          chosen = v.pending;
          farthest = λ i u e.
              by-least m dist i j f (omega (arith, by-some m.hurried (distance_at dist j) j, top i, key-by m.hurried dist status i true e));
          earliest = λ i u e.
              by_less m dist j i f (omega (arith, by-some m.hurried (distance_at dist i) i, top i, key-by m.hurried dist status i true e));
        }

  pub best-nothing : get_or front head 0 ≡ 0 → get_or tree 1 0 ≡ 0 → Best m dist status front head None
  best-nothing z e =
      record {
        rule = λ s n. sym (none_first s (sooner m dist) (sooner-order m dist) (is_pending status) (λ j u. idle z e j (omega arith)));
        inside = λ j q. (cc);
        pending = λ j q. (cc);
        first = λ j q. (cc);
      }

  pub best-at : (j : ℕ) → 0 < get_or front head 0 → j ≡ voxel_of (get_or front head 0) → SFits w32 (distance_at dist j) → Best m dist status front head (Some j)
  best-at j h e f =
      record {
        rule = λ s n.
            sym (foremost-first-of s (sooner m dist) (sooner-order m dist) (is_pending status) j
            (foremost s n (get_or front head 0) j v
            (first-greatest m.hurried dist key K (some m dist status offsets tree front head Q) Q.top offsets tree front head Q.keys h) f));
        inside = λ i q. let s : j ≡ i = cc in omega (arith, v.inside);
        pending = λ i q. let s : j ≡ i = cc in ap (is_pending status) (sym s) ∙ v.pending;
        first = λ i q. let s : j ≡ i = cc in v.key ∙ ap key s;
      }
    where
      v : Own (get_or front head 0) j
      v = subst (Own (get_or front head 0)) (sym e) (first-own h)
