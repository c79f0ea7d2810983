-- What is not kept is open to the border; where no voxel is to be opened, what is open to it is not kept, and stays as it is. Of any state that holds
-- after some list of calls.
use mathlib.Core.Path.{◌≡◌, ap, ap₂, sym, ◌∙◌, subst}
use mathlib.Core.Logic.{inl, inr}
use mathlib.Core.Bool.{Bool, true, false, not, ◌&&◌, ◌||◌}
use mathlib.Core.List.{List}
use Rattle.std.specs.Prelude.{None}
use Prim.Native.Nat.{ℕ, zero, suc, ◌<◌}
use native.Mathlib.Omega.{arith}
use lib.Dec.{ltb}
use borrow.Author.Tests.{lt-ltb, ltb-true}
use Rattle.cells.specs.Linked.{Linked, stay, OnePiece}
use Rattle.cells.proofs.Chains.{last-member, append, before, reverse, follow, widen}
use Rattle.prelude.proofs.Bools.{and-true, true-and, and_one, or-true, or-false, both_ways, not-true, not-both, two}
use Rattle.rules.specs.declared.Sides.{Sides}
use Rattle.rules.specs.Grid.{fit_sides, size, on_border, touch, share_face}
use Rattle.rules.specs.Begin.{exposed}
use Rattle.rules.specs.Status.{is_kept, removable, openable}
use Rattle.rules.specs.Marks.{marked}
use Rattle.rules.specs.Machine.{State, may_go, farther, to_open}
use Rattle.rules.specs.Demand.{Call, run}
use Rattle.rules.specs.Fifteen.{clear, OpenToBorder, Pins, UnchangedPins}
use Rattle.rules.proofs.Inside.{touch-back}
use Rattle.rules.proofs.Foremost.{first-none}
use Rattle.rules.proofs.Neighbours.{exposed-is-face, face-touch, border-zero, beside}
use Rattle.rules.proofs.Topology.Removal.{background, face-turn}
use Rattle.rules.proofs.Topology.Moves.{Inv}
use Rattle.rules.proofs.Topology.Steps.{sets}
use Rattle.rules.proofs.Topology.Calls.{tally_of, Good, Keeps, may-go-is, run-keeps}
use Rattle.rules.proofs.Demand.{all-lend-map, all_held, held_all}
use Rattle.rules.proofs.Pinned.{pinned-are-kept, gone-stays-gone}
use Rattle.rules.proofs.NeverUnfit.{inner-border}

-- ---- a state that holds after some list of calls

module _ (S held : ℕ → Bool) (total : ℕ) (g : State) (good : Good S held total g) (fits : fit_sides g.rec.sides ≡ true) where
  abbrev s : Sides
  s = g.rec.sides

  abbrev kept : ℕ → Bool
  kept = is_kept g.status

  inv : Inv s S held total (sets g.status (tally_of g.rec))
  inv = good.sound.inv

  border-gone : (b : ℕ) → on_border s b ≡ true → kept b ≡ false
  border-gone b e = elim (two (kept b)) [ inl k ↦ not-both (on_border s b) e (inner-border s b (inv.shape.inner b k).1) | inr k ↦ k ]

  -- a voxel that is not kept is open to the border past any voxels that are: the background is in one piece
  pub gone-open : (solid : ℕ → Bool) → ((j : ℕ) → j < size s → solid j ≡ true → kept j ≡ true) → (i : ℕ) → i < size s → kept i ≡ false → OpenToBorder s solid i
  gone-open solid stays i h k =
      let z = border-zero s in
      (0, z, widen clear-gone (inv.shape.outside i 0 (in-background i h k) (in-background 0 (omega arith) (border-gone 0 z))))
    where
      in-background : (j : ℕ) → j < size s → kept j ≡ false → background s kept j ≡ true
      in-background j h k = true-and (ltb j (size s)) (not (kept j)) (lt-ltb j (size s) h) (ap not k)

      clear-gone : (j : ℕ) → background s kept j ≡ true → clear s solid j ≡ true
      clear-gone j b =
          let r = and-true (ltb j (size s)) (not (kept j)) b in
          true-and (ltb j (size s)) (not (solid j)) r.0 (elim (two (solid j)) [
            | inl m ↦ not-both (kept j) (stays j (ltb-true j (size s) r.0) m) (not-true (kept j) r.1)
            | inr m ↦ ap not m
          ])

  -- ---- with no voxel to open, where each kept voxel that is not solid may go

  module _ (free solid : ℕ → Bool) (none_left : to_open free g ≡ None) (may : (v : ℕ) → kept v ≡ true → solid v ≡ false → free v ≡ true) where
    -- a voxel that is not solid, beside one that is not kept, is not kept: it could be opened
    spreads : (u v : ℕ) → u < size s → kept u ≡ false → share_face s v u ≡ true → solid v ≡ false → kept v ≡ false
    unfolding to_open openable removable
    spreads u v hu ku e o =
        elim (two (kept v)) [
          | inl k ↦
              let at = inv.shape.inner v k in
              let x = (exposed-is-face s kept v (record { sides = fits; below = at.0; off-border = inner-border s v at.1 })).1 (u, hu, e, ku) in
              not-both (openable s free g.status v)
              (true-and (removable free g.status v) (exposed s kept v) (true-and (kept v) (free v) k (may v k o)) x)
              (first-none s (farther g.dist) (openable s free g.status) none_left v at.0)
          | inr k ↦ k
        ]

    pub open_gone : (i : ℕ) → OpenToBorder s solid i → kept i ≡ false
    open_gone i o =
        let below : (j : ℕ) → clear s solid j ≡ true → j < size s = λ j m. ltb-true j (size s) (and-true (ltb j (size s)) (not (solid j)) m).0 in
        (follow (λ j. (j < size s) × (kept j ≡ false))
        (λ u v p e m. (below v m, spreads u v p.0 p.1 (face-turn s u v e) (not-true (solid v) (and-true (ltb v (size s)) (not (solid v)) m).1)))
        (reverse (face-turn s) o.2) (below o.0 (last-member o.2), border-gone o.0 o.1)).1

    -- along x a kept voxel is linked to a solid one
    to-solid : (i : ℕ) → kept i ≡ true → (j : ℕ) × (solid j ≡ true) × (Linked kept (touch s) i j)
    to-solid zero k = not-both (kept 0) k (border-gone 0 (border-zero s))
    to-solid (suc i) k =
        elim (two (solid (suc i))) [
          | inl m ↦ (suc i, m, stay k)
          | inr m ↦
              let at = inv.shape.inner (suc i) k in
              let f = beside s i at.0 at.1.x-low in
              elim (two (kept i)) [
                | inl l ↦ let r = to-solid i l in (r.0, r.1, before k (face-touch s (suc i) i f) r.2)
                | inr l ↦ not-both (kept (suc i)) k (spreads i (suc i) (let b = at.0 in omega arith) l f m)
              ]
        ]

    pub one_piece : ((j : ℕ) → solid j ≡ true → kept j ≡ true) → OnePiece solid (touch s) → OnePiece kept (touch s)
    one_piece stays one i j ki kj =
        let p = to-solid i ki in
        let q = to-solid j kj in
        append p.2 (append (widen stays (one p.0 q.0 p.1 q.1)) (reverse (touch-back s) q.2))

  -- outside S, and not pinned
  pub may-go : (marks : List ℕ) → g.rec.finished ≡ false → (v : ℕ) → kept v ≡ true → S v ≡ false → (marked marks).pinned v ≡ false
      → may_go (marked marks) g.dist v ≡ true
  may-go marks f v k sv pv =
      may-go-is S held total g good (marked marks) f v (inv.shape.inner v k).0 ∙ ap₂ (λ (p q : Bool). not p && not q) sv pv

-- ---- calls that pin what these marks pin

pub unchanged_pins : UnchangedPins
unchanged_pins marks g calls =
    all-lend-map (λ lent. lent ≡ marks) (λ lent. (j : ℕ) → (marked marks).pinned j ≡ true → (marked lent).pinned j ≡ true)
    (λ lent u j e. ap (λ (l : List ℕ). (marked l).pinned j) u ∙ e) calls g

pub pinned-stays : (marks : List ℕ) (g : State) (calls : List Call) → Pins marks g calls → (j : ℕ) → (marked marks).pinned j ≡ true
    → is_kept g.status j ≡ true → is_kept (run calls g).end.status j ≡ true
pinned-stays marks g calls pins j p k =
    pinned-are-kept g j k calls
    (all-lend-map (λ lent. (j : ℕ) → (marked marks).pinned j ≡ true → (marked lent).pinned j ≡ true) (λ lent. (marked lent).pinned j ≡ true)
    (λ lent h. h j p) calls g pins)

-- the first is what fails, where the second holds
pub first-fails : (p q : Bool) → q ≡ true → (p && q) ≡ false → p ≡ false
first-fails p q e f = sym (and_one p) ∙ ap (λ (t : Bool). p && t) (sym e) ∙ f

-- ---- no later call takes a voxel: past S and the kept pinned ones none that is kept is open to the border, and a voxel gone later would be

module _ (S : ℕ → Bool) (total : ℕ) (g : State) (good : Good S all_held total g) (fits : fit_sides g.rec.sides ≡ true) (working : g.rec.finished ≡ false)
    (lent : List ℕ) (none_left : to_open (may_go (marked lent) g.dist) g ≡ None) (more : List Call) (pins : Pins lent g more) where
  abbrev later : State
  later = (run more g).end

  -- what no later call takes: S, and the kept voxels that open pins
  abbrev firm : ℕ → Bool
  firm j = S j || ((marked lent).pinned j && is_kept g.status j)

  keeps : Keeps S all_held total g later (run more g).answers
  keeps = run-keeps S all_held total more g (held_all S total more g) good

  firm-later : (j : ℕ) → firm j ≡ true → is_kept later.status j ≡ true
  firm-later j e =
      elim (or-true (S j) ((marked lent).pinned j && is_kept g.status j) e) [
        | inl m ↦ keeps.good.sound.inv.inside j m
        | inr m ↦ let p = and-true ((marked lent).pinned j) (is_kept g.status j) m in pinned-stays lent g more pins j p.0 p.1
      ]

  may-go-now : (v : ℕ) → is_kept g.status v ≡ true → firm v ≡ false → may_go (marked lent) g.dist v ≡ true
  may-go-now v k e =
      let o = or-false (S v) ((marked lent).pinned v && is_kept g.status v) e in
      may-go S all_held total g good fits lent working v k o.0 (first-fails ((marked lent).pinned v) (is_kept g.status v) k o.1)

  still_kept : (j : ℕ) → is_kept g.status j ≡ true → is_kept later.status j ≡ true
  still_kept j k =
      elim (two (is_kept later.status j)) [
        | inl l ↦ l
        | inr l ↦
            let sides = keeps.adds.sides in
            let below : j < size later.rec.sides = subst (λ (t : Sides). j < size t) (sym sides) (good.sound.inv.shape.inner j k).0 in
            let o = gone-open S all_held total later keeps.good (ap fit_sides sides ∙ fits) firm (λ j h e. firm-later j e) j below l in
            not-both (is_kept g.status j) k
            (open_gone S all_held total g good fits (may_go (marked lent) g.dist) firm none_left may-go-now j
            (subst (λ (t : Sides). OpenToBorder t firm j) sides o))
      ]

  pub stays : (i : ℕ) → is_kept later.status i ≡ is_kept g.status i
  stays i =
      both_ways _ _
      (λ l. elim (two (is_kept g.status i)) [ inl k ↦ k | inr k ↦ not-both (is_kept later.status i) l (gone-stays-gone g i k more) ])
      (still_kept i)
