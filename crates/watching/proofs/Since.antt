-- Whether any voxel passes, by those around what has gone since none did; and an entry more.
use mathlib.Core.Path.{◌≡◌, refl, ap, sym, ◌∙◌, subst, fun_ext}
use mathlib.Core.Logic.{inl, inr}
use mathlib.Core.Bool.{Bool, true, false, not, ◌&&◌}
use mathlib.Core.List.{List}
use Prim.Native.Nat.{ℕ, ◌+◌, ◌-◌, ◌*◌, ◌≤◌, ◌<◌}
use native.Mathlib.Omega.{arith}
use native.Mathlib.Decide.{ℕ_discrete}
use lib.Dec.{eqb}
use lib.IntN.{ℤ}
use lib.ListN.{length}
use Rattle.cells.specs.Groups.{any}
use Rattle.cells.specs.Cells.{test, passes}
use Rattle.prelude.proofs.Lists.{any-true, any_false}
use Rattle.prelude.proofs.Bools.{and-true, two, not-both, both_ways}
use Rattle.prelude.proofs.Ranges.{range-mem, mem-range, any_below, below-any, none_below, below_none}
use Rattle.rules.specs.declared.Sides.{Sides}
use Rattle.rules.specs.Grid.{size, range, voxels, touch, neighbourhood}
use Rattle.rules.specs.Neighbours.{Inner}
use Rattle.rules.specs.Status.{is_kept}
use Rattle.rules.specs.Machine.{is_inside}
use Rattle.rules.proofs.Topology.Surface.{omit}
use Rattle.rules.proofs.Topology.Removal.{removal-elsewhere}
use Rattle.neighbourhood.specs.Neighbourhood.{around}
use Rattle.neighbourhood.proofs.Interior.{around-below, touch-around}
use Rattle.judging.specs.Judge.{entry_length, less_one, can_pass, some_passes}
use Rattle.entries.specs.Entries.{index_of, taken_out}
use Rattle.watching.specs.Watching.{passes_around, any_around, OnlyNear, Since}
use Rattle.watching.proofs.Gone.{all-inner, gone-kept, gone_held}

-- ---- those around what has gone

module _ (s : Sides) (dist : List ℤ) (status list : List ℕ) (from to : ℕ) (since : Since s dist status list true from to) where
  abbrev S : ℕ → Bool
  S = is_inside dist

  abbrev goes : ℕ → Bool
  goes = can_pass s S (is_kept status)

  abbrev near_one : ℕ → Bool
  near_one r = any_around s dist status (index_of list r)

  abbrev near : Bool
  near = any near_one (range from (to - from))

  -- one of those near is one of all
  near-some : near ≡ true → some_passes s S (is_kept status) ≡ true
  unfolding some_passes voxels any_around passes_around
  near-some e =
      let f = any-true near_one (range from (to - from)) e in
      let r = f.0 in
      let o = since.order in
      let m = range-mem from (to - from) r f.1 in
      let p = any_below (passes_around s dist status (index_of list r)) 27 f.2 in
      below-any goes (size s) (around s (index_of list r) p.0) (around-below s (index_of list r) (since.past r (omega arith)) p.0 p.1) p.2

  -- a voxel that touches none of those gone cannot go, and the others were looked at
  none-near : near ≡ false → (j : ℕ) → j < size s → goes j ≡ false
  unfolding any_around passes_around
  none-near e j h = elim (two (goes j)) [ inr f ↦ f | inl t ↦ since.near refl j h (far t) ]
    where
      far : goes j ≡ true → (r : ℕ) → from ≤ r → r < to → touch s (index_of list r) j ≡ false
      far t r l m = elim (two (touch s (index_of list r) j)) [
        | inr f ↦ f
        | inl u ↦
            let p = touch-around s (index_of list r) (since.past r m) j u in
            let quiet = any_false near_one (range from (to - from)) e r (mem-range from (to - from) r l (omega arith)) in
            not-both (goes j) t (ap goes p.2 ∙ none_below (passes_around s dist status (index_of list r)) 27 quiet p.0 p.1)
      ]

  pub some_since : near ≡ some_passes s S (is_kept status)
  unfolding some_passes voxels
  some_since = both_ways near (some_passes s S (is_kept status)) near-some (λ e.
      elim (two near) [
        | inl t ↦ t
        | inr f ↦ not-both (some_passes s S (is_kept status)) e (below_none goes (size s) (none-near f))
      ])

-- ---- an entry more

module _ (s : Sides) (dist : List ℤ) (status list : List ℕ) (asked : Bool) (from r : ℕ) (since : Since s dist status list asked from r) where
  abbrev i : ℕ
  i = index_of list r

  module _ (whole : entry_length * r + entry_length ≤ length list) (inner : Inner s (index_of list r)) (kept : is_kept status (index_of list r) ≡ true) where
    -- far from it nothing changes
    near_next : (f : ℕ) → f ≤ r → OnlyNear s (is_inside dist) list f r (is_kept status)
        → OnlyNear s (is_inside dist) list f (r + 1) (is_kept (taken_out status i))
    unfolding omit can_pass
    near_next f l near j h far =
        ap (λ (g : ℕ → Bool). can_pass s (is_inside dist) g j) (fun_ext (gone-kept s dist status since.held i inner.below kept))
        ∙ go (less_one (is_kept status) i j) refl
      where
        left : ℕ → Bool
        left = less_one (is_kept status) i

        go : (t : Bool) → left j ≡ t → t && (not (is_inside dist j) && passes (test (neighbourhood s left j))) ≡ false
        go false e = refl
        go true e =
            let was = (and-true (is_kept status j) (not (eqb j i)) e).0 in
            ap (λ (t : Bool). not (is_inside dist j) && t)
            (ap passes (removal-elsewhere s (is_kept status) (all-inner s dist status since.held) i kept j was (far r l (omega arith))))
            ∙ sym (ap (λ (t : Bool). t && (not (is_inside dist j) && passes (test (neighbourhood s (is_kept status) j)))) was)
            ∙ near j h (λ q a b. far q a (omega arith))

    past_next : (k : ℕ) → k < r + 1 → Inner s (index_of list k)
    past_next k h = elim (ℕ_discrete k r) [
      | yes e ↦ subst (λ (k : ℕ). Inner s (index_of list k)) (sym e) inner
      | no n ↦ since.past k (omega arith)
    ]

    abbrev later : (a : Bool) (f : ℕ) → f ≤ r → (a ≡ true → OnlyNear s (is_inside dist) list f r (is_kept status))
        → Since s dist (taken_out status i) list a f (r + 1)
    later a f l near =
        let held = gone_held s dist status since.held i inner.below kept in
        record {
          held = held;
          order = omega arith;
          listed = record { whole = omega arith; below = λ k h. omega (arith, (past_next k h).below, held.body.statuses.lent) };
          past = past_next;
          near = λ t. near_next f l (near t);
        }

    -- an ordinary one, and an opening: none could go at it
    pub since-ordinary : Since s dist (taken_out status i) list asked from (r + 1)
    since-ordinary = later asked from since.order since.near

    pub since-opening : (a : Bool) → some_passes s (is_inside dist) (is_kept status) ≡ false → Since s dist (taken_out status i) list a r (r + 1)
    unfolding some_passes voxels
    since-opening a e = later a r (omega arith) (λ _ j h far. none_below (can_pass s (is_inside dist) (is_kept status)) (size s) e j h)
