-- One voxel of the body goes: what becomes of the body, the background, the Euler number and the local test elsewhere.
use mathlib.Core.Path.{◌≡◌, refl, ap, ap₂, sym, ◌∙◌, subst}
use mathlib.Core.Logic.{◌⊎◌, inl, inr, ◌≢◌}
use mathlib.Core.Bool.{Bool, true, false, not, ◌&&◌, ◌||◌}
use Prim.Native.Nat.{ℕ, suc, ◌+◌, ◌/◌, ◌%◌, ◌<◌}
use native.Mathlib.Omega.{arith}
use native.Mathlib.Decide.{ℕ_discrete}
use lib.Dec.{leb, ltb, eqb}
use lib.IntN.{ℤ, pos, ◌+ℤ◌, ◌-ℤ◌, +ℤ_idr}
use borrow.Author.Tests.{leb-false, lt-ltb, eqb-true, eq-eqb}
use Rattle.cells.specs.Groups.{any}
use Rattle.cells.specs.Linked.{Linked, OnePiece}
use Rattle.cells.specs.Classes.{cells, among}
use Rattle.cells.specs.Cells.{contains, joined, positions, touched, Test, test_of, test, passes}
use Rattle.prelude.proofs.Bools.{and-true, true-and, or-true, or-false, both_ways, not-true, not-false, not-both, two, and_zero}
use Rattle.prelude.proofs.Lists.{Mem, any-true, true-any, any_false}
use Rattle.cells.proofs.GroupsAre.{mem-among, cells-one-piece}
use Rattle.cells.proofs.GroupsAre.{contains-self}
use Rattle.closed_sets.proofs.EveryBlock.{test-ext, bare-face}
use Rattle.rules.specs.declared.Sides.{Sides}
use Rattle.rules.specs.Grid.{Voxel, index, voxel, size, gap, touch, apart, taxicab, share_face, neighbour, neighbourhood_of, neighbourhood, face_positions}
use Rattle.rules.specs.Begin.{exposed}
use Rattle.rules.specs.Body.{body_of, euler_of}
use Rattle.rules.proofs.Places.{InGrid, voxel-index, index-voxel, index-lt, voxel-in}
use Rattle.rules.proofs.Inside.{gap-turn, touch-back}
use Rattle.rules.proofs.Topology.Cells.{Gone, euler-gone}
use Rattle.rules.proofs.Topology.Links.{one-taken, one-put, cells-carry}
use Rattle.rules.proofs.Topology.Around.{Close, touch-close, close-touch, At, close_at, Inner, inner-in, neighbour-at}
use Rattle.rules.proofs.Topology.Around.{neighbourhood-at, place-low, at_place, Contains, contains-close, contains-border}
use Rattle.rules.proofs.Topology.Surface.{omit, omit-true, true-omit, body-true, body-in, touched-contains, contains-touched, surface-euler}

-- no voxel of the set lies on the border
abbrev pub AllInner : Sides → (ℕ → Bool) → Type 0
AllInner s p = (j : ℕ) → p j ≡ true → (j < size s) × (Inner s (voxel s j))

-- the voxels of the grid that are not kept
abbrev pub background : Sides → (ℕ → Bool) → ℕ → Bool
background s kept j = ltb j (size s) && not (kept j)

pub omit-self : (p : ℕ → Bool) (i : ℕ) → omit p i i ≡ false
unfolding omit
omit-self p i = ap (λ (t : Bool). p i && not t) (eq-eqb i i refl) ∙ and_zero (p i)

pub omit-split : (p : ℕ → Bool) (i j : ℕ) → p j ≡ true → (j ≡ i) ⊎ (omit p i j ≡ true)
omit-split p i j e = elim (ℕ_discrete j i) [ yes q ↦ inl q | no n ↦ inr (true-omit p i j e n) ]

-- ---- the local test

pub passes-parts : (t : Test) → passes t ≡ true → (t.k ≡ 1) × (t.m ≡ 1)
unfolding passes
passes-parts t e = let r = and-true (eqb t.k 1) (eqb t.m 1) e in (eqb-true t.k 1 r.0, eqb-true t.m 1 r.1)

-- a voxel that passes has a face neighbour that is not kept
pub passes-exposed : (s : Sides) (kept : ℕ → Bool) (i : ℕ) → passes (test (neighbourhood s kept i)) ≡ true → exposed s kept i ≡ true
unfolding exposed
passes-exposed s kept i e =
    let m : (test (neighbourhood s kept i)).m ≡ 1 = (passes-parts (test (neighbourhood s kept i)) e).1 in
    let f = bare-face (neighbourhood s kept i) (omega arith) in
    true-any (λ p. not (neighbourhood s kept i p)) face_positions f.0 f.1 (ap not f.3)

-- ---- voxels that share a face

-- how far a position lies from the middle
abbrev pub away : ℕ → ℕ
away p = gap (p % 3) 1 + gap (p / 3 % 3) 1 + gap (p / 9) 1

pub apart-at : (u v : Voxel) (p : ℕ) → At u v p → apart u v ≡ away p
unfolding apart
apart-at u v p a = ap₂ ◌+◌ (ap₂ ◌+◌ (axis _ _ _ a.x-at) (axis _ _ _ a.y-at)) (axis _ _ _ a.z-at)
  where
    axis : (x y d : ℕ) → suc y ≡ x + d → gap x y ≡ gap d 1
    axis x y d e = unfold gap in omega arith

pub face-taxicab : (f : ℕ) → Mem f face_positions → (away f ≡ 1) × (f < 27)
unfolding any gap
face-taxicab f m =
    let h = or-false (not (eqb (away f) 1)) (leb 27 f) (any_false (λ f. not (eqb (away f) 1) || leb 27 f) face_positions refl f m) in
    (eqb-true (away f) 1 (not-false (eqb (away f) 1) h.0), leb-false 27 f h.1)

pub face-at : (u v : Voxel) (f : ℕ) → Mem f face_positions → At u v f → apart u v ≡ 1
face-at u v f m a = apart-at u v f a ∙ (face-taxicab f m).0

pub apart-turn : (u v : Voxel) → apart u v ≡ apart v u
unfolding apart
apart-turn u v = rw (gap-turn u.x v.x, gap-turn u.y v.y, gap-turn u.z v.z)

pub face-turn : (s : Sides) (i j : ℕ) → share_face s i j ≡ true → share_face s j i ≡ true
unfolding share_face taxicab
face-turn s i j e = ap (λ (n : ℕ). eqb n 1) (apart-turn (voxel s j) (voxel s i)) ∙ e

-- ---- the voxel i of the body goes

-- what that adds to the Euler number
abbrev pub euler_change : Sides → (ℕ → Bool) → ℕ → ℤ
euler_change s kept i = let t = test (neighbourhood s kept i) in pos t.k -ℤ pos t.m

module _ (s : Sides) (kept : ℕ → Bool) (all : AllInner s kept) (i : ℕ) (ki : kept i ≡ true) where
  inner : Inner s (voxel s i)
  inner = (all i ki).1

  abbrev left : ℕ → Bool
  left = omit kept i

  index-u : index s (voxel s i) ≡ i
  index-u = index-voxel s i (omega (arith, inner.x-high)) (omega (arith, inner.y-high))

  others-left : omit kept (index s (voxel s i)) ≡ left
  others-left = ap (omit kept) index-u

  -- a voxel of the grid by its index, or by its coordinates
  in-grid : (j : ℕ) → j < size s → InGrid s (voxel s j)
  in-grid j h = voxel-in s j (omega (arith, inner.x-high)) (omega (arith, inner.y-high)) h

  index-of : (j : ℕ) → index s (voxel s j) ≡ j
  index-of j = index-voxel s j (omega (arith, inner.x-high)) (omega (arith, inner.y-high))

  voxel-of : (v : Voxel) → InGrid s v → voxel s (index s v) ≡ v
  voxel-of v g = voxel-index s v g.x-in g.y-in

  -- the Euler number
  gone : Gone s (voxel s i).x (voxel s i).y (voxel s i).z (body_of s kept) (body_of s left)
  gone =
      let g = inner-in s (voxel s i) inner in
      record {
        x-in = g.x-in;
        y-in = g.y-in;
        z-in = g.z-in;
        was = body-in s kept (voxel s i) g ∙ ap kept index-u ∙ ki;
        now = body-in s left (voxel s i) g ∙ ap left index-u ∙ omit-self kept i;
        rest = λ x y z o. same (record { x = x; y = y; z = z }) (other (record { x = x; y = y; z = z }) o);
      }
    where
      other : (v : Voxel) → (v.x ≢ (voxel s i).x) ⊎ ((v.y ≢ (voxel s i).y) ⊎ (v.z ≢ (voxel s i).z)) → v ≢ voxel s i
      other v (inl n) e = n (ap (λ (w : Voxel). w.x) e)
      other v (inr (inl n)) e = n (ap (λ (w : Voxel). w.y) e)
      other v (inr (inr n)) e = n (ap (λ (w : Voxel). w.z) e)

      same : (v : Voxel) → v ≢ voxel s i → body_of s kept v.x v.y v.z ≡ body_of s left v.x v.y v.z
      same v n =
          both_ways (body_of s kept v.x v.y v.z) (body_of s left v.x v.y v.z)
          (λ e.
          let b = body-true s kept v e in
          body-in s left v b.0 ∙ true-omit kept i (index s v) b.1 (λ q. n (sym (voxel-of v b.0) ∙ ap (voxel s) q)))
          (λ e. let b = body-true s left v e in body-in s kept v b.0 ∙ (omit-true kept i (index s v) b.1).0)

  pub removal-euler : euler_of s (body_of s left) ≡ euler_of s (body_of s kept) +ℤ euler_change s kept i
  unfolding neighbourhood
  removal-euler =
      let u = voxel s i in
      let t = test (neighbourhood s kept i) in
      euler-gone s u.x u.y u.z (body_of s kept) (body_of s left) gone t.k t.m (rw (← others-left) (surface-euler s kept u inner))

  -- a voxel that passes leaves the Euler number as it was
  pub passing-euler : passes (test (neighbourhood s kept i)) ≡ true → euler_of s (body_of s left) ≡ euler_of s (body_of s kept)
  passing-euler e =
      let t = passes-parts (test (neighbourhood s kept i)) e in
      removal-euler ∙ ap₂ (λ (k m : ℕ). euler_of s (body_of s kept) +ℤ (pos k -ℤ pos m)) t.0 t.1 ∙ +ℤ_idr (euler_of s (body_of s kept))

  -- ---- the body

  -- the voxel j, another than i, contains the cell c of i's surface
  record Holds (c j : ℕ) : Type 0 where
    in_size : j < size s
    holds : Contains (voxel s i) c (voxel s j)

  left_in : (j : ℕ) → left j ≡ true → (j < size s) × (j ≢ i)
  left_in j e = let r = omit-true kept i j e in ((all j r.0).0, r.1)

  holder : (c : ℕ) → cells (touched (neighbourhood s kept i)) c ≡ true → (j : ℕ) × (left j ≡ true) × (Holds c j)
  unfolding neighbourhood
  holder c e =
      let r = touched-contains s kept (voxel s i) inner c (and-true (among positions c) (touched (neighbourhood s kept i) c) e).1 in
      let v = r.0 in (
        index s v,
        ap (λ (f : ℕ → Bool). f (index s v)) (sym others-left) ∙ r.2,
        record { in_size = index-lt s v r.1; holds = subst (λ (w : Voxel). Contains (voxel s i) c w) (sym (voxel-of v r.1)) r.3 },
      )

  -- a neighbour that stays contains a touched cell
  shares : (j : ℕ) → left j ≡ true → touch s i j ≡ true → (c : ℕ) × (cells (touched (neighbourhood s kept i)) c ≡ true) × (Holds c j)
  unfolding neighbourhood
  shares j e t =
      let h = left_in j e in
      let r = close_at (voxel s i) (voxel s j) (touch-close s i j t) in
      let p = r.0 in
      let n : voxel s i ≢ voxel s j = λ q. h.1 (sym (index-of j) ∙ ap (index s) (sym q) ∙ index-u) in
      let c : Contains (voxel s i) p (voxel s j) = record { place = p; at = r.1; has = contains-self p } in (
        p,
        true-and (among positions p) (touched (neighbourhood s kept i) p) (mem-among positions p (at_place (voxel s i) (voxel s j) p r.1 n))
            (contains-touched s kept (voxel s i) inner p (voxel s j) (in-grid j h.0)
            (ap (λ (f : ℕ → Bool). f (index s (voxel s j))) others-left ∙ ap left (index-of j) ∙ e) c),
        record { in_size = h.0; holds = c },
      )

  border : (c d : ℕ) → joined c d ≡ true → ((j : ℕ) → Holds d j → Holds c j) ⊎ ((j : ℕ) → Holds c j → Holds d j)
  unfolding joined
  border c d e =
      elim (or-true (contains c d) (contains d c) e) [
        | inl h ↦ inr (λ j k. record { in_size = k.in_size; holds = contains-border (voxel s i) c d (voxel s j) h k.holds })
        | inr h ↦ inl (λ j k. record { in_size = k.in_size; holds = contains-border (voxel s i) d c (voxel s j) h k.holds })
      ]

  k-is-one : (test (neighbourhood s kept i)).k ≡ 1 → OnePiece (cells (touched (neighbourhood s kept i))) joined
  unfolding test test_of
  k-is-one e = cells-one-piece (touched (neighbourhood s kept i)) e

  -- a body in one piece stays so if the touched cells of the voxel are one group
  pub removal-body : (test (neighbourhood s kept i)).k ≡ 1 → OnePiece kept (touch s) → OnePiece left (touch s)
  removal-body one =
      one-taken kept left (touch s) i (omit-self kept i) (omit-split kept i) bridge (λ j e. (omit-true kept i j e).0)
    where
      held : (c j o : ℕ) → Holds c j → Holds c o → touch s j o ≡ true
      held c j o h k = close-touch s j o (contains-close (voxel s i) c (voxel s j) (voxel s o) h.holds k.holds)

      bridge : (n o : ℕ) → left n ≡ true → left o ≡ true → touch s n i ≡ true → touch s i o ≡ true → Linked left (touch s) n o
      bridge n o ln lo tn to =
          let p = shares n ln (touch-back s n i tn) in
          let q = shares o lo to in
          cells-carry left (touch s) (cells (touched (neighbourhood s kept i))) joined Holds held holder border
          (k-is-one one p.0 q.0 p.1 q.1) n o ln p.2 lo q.2

  -- ---- the background

  open-face : exposed s kept i ≡ true → (n : ℕ) × (background s kept n ≡ true) × (share_face s i n ≡ true)
  unfolding exposed neighbourhood share_face taxicab
  open-face e =
      let r = any-true (λ p. not (neighbourhood s kept i p)) face_positions e in
      let f = r.0 in
      let a = neighbour-at s (voxel s i) inner f (face-taxicab f r.1).1 in
      let v : Voxel = neighbour (voxel s i) f in (
        index s v,
        true-and (ltb (index s v) (size s)) (not (kept (index s v))) (lt-ltb (index s v) (size s) (index-lt s v a.1))
            (ap not (sym (neighbourhood-at s kept (voxel s i) v f inner a.0)) ∙ r.2),
        ap (λ (w : Voxel). eqb (apart (voxel s i) w) 1) (voxel-of v a.1) ∙ eq-eqb (apart (voxel s i) v) 1 (face-at (voxel s i) v f r.1 a.0),
      )

  -- the background stays in one piece if the voxel has a face neighbour in it
  pub removal-background : exposed s kept i ≡ true → OnePiece (background s kept) (share_face s) → OnePiece (background s left) (share_face s)
  removal-background e =
      let n = open-face e in
      one-put (background s kept) (background s left) (share_face s) i n.0 more split n.1 n.2 (face-turn s i n.0 n.2)
    where
      more : (j : ℕ) → background s kept j ≡ true → background s left j ≡ true
      more j h =
          let r = and-true (ltb j (size s)) (not (kept j)) h in
          true-and (ltb j (size s)) (not (left j)) r.0
          (elim (two (left j)) [ inl l ↦ not-both (kept j) (omit-true kept i j l).0 (not-true (kept j) r.1) | inr l ↦ ap not l ])

      split : (j : ℕ) → background s left j ≡ true → (j ≡ i) ⊎ (background s kept j ≡ true)
      split j h =
          let r = and-true (ltb j (size s)) (not (left j)) h in
          elim (two (kept j)) [
            | inl k ↦ elim (omit-split kept i j k) [ inl q ↦ inl q | inr l ↦ not-both (left j) l (not-true (left j) r.1) ]
            | inr k ↦ inr (true-and (ltb j (size s)) (not (kept j)) r.0 (ap not k))
          ]

  -- ---- the local test of a voxel that does not touch i

  pub removal-elsewhere : (j : ℕ) → kept j ≡ true → touch s i j ≡ false → test (neighbourhood s left j) ≡ test (neighbourhood s kept j)
  unfolding neighbourhood
  removal-elsewhere j kj far = test-ext (neighbourhood s left j) (neighbourhood s kept j) same
    where
      same : (p : ℕ) → Mem p positions → neighbourhood_of s left (voxel s j) p ≡ neighbourhood_of s kept (voxel s j) p
      same p m =
          let h = (all j kj).1 in
          let a = neighbour-at s (voxel s j) h p (place-low p m).0 in
          let v : Voxel = neighbour (voxel s j) p in
          neighbourhood-at s left (voxel s j) v p h a.0
          ∙ both_ways (left (index s v)) (kept (index s v)) (λ e. (omit-true kept i (index s v) e).0)
          (λ e. elim (omit-split kept i (index s v) e) [ inl q ↦ not-both (touch s i j) (meets v a.1 a.0 q) far | inr l ↦ l ])
          ∙ sym (neighbourhood-at s kept (voxel s j) v p h a.0)
        where
          meets : (v : Voxel) → InGrid s v → At (voxel s j) v p → index s v ≡ i → touch s i j ≡ true
          meets v g a q =
              let e : voxel s i ≡ v = ap (voxel s) (sym q) ∙ voxel-of v g in
              close-touch s i j (subst (λ (w : Voxel). Close w (voxel s j)) (sym e) (
              record {
                x-up = omega (arith, a);
                x-down = omega (arith, a);
                y-up = omega (arith, a);
                y-down = omega (arith, a);
                z-up = omega (arith, a);
                z-down = omega (arith, a);
              }))
