-- The moves of the carving machine on sets of voxels, and what every move keeps. A move says which voxel is examined or goes, and neither who
-- chose it nor why.
use mathlib.Core.Path.{◌≡◌, ap, sym, ◌∙◌}
use mathlib.Core.Logic.{◌⊎◌, inl, inr}
use mathlib.Core.Bool.{Bool, true, false, not, ◌&&◌, ◌||◌}
use mathlib.Core.List.{List, map}
use Prim.Native.Nat.{ℕ, suc, ◌+◌, ◌*◌, ◌≤◌}
use native.Mathlib.Omega.{arith}
use lib.Dec.{eqb}
use lib.IntN.{ℤ, pos, ◌+ℤ◌}
use borrow.Author.Tests.{eq-eqb}
use Rattle.cells.specs.Groups.{any}
use Rattle.cells.specs.Linked.{OnePiece}
use Rattle.cells.specs.Cells.{positions, test, passes}
use Rattle.prelude.proofs.Bools.{and-true, and-false, or-true, or-false, true-or, not-true, not-false, not-both, two}
use Rattle.prelude.proofs.Lists.{true-any}
use Rattle.rules.specs.declared.Sides.{Sides}
use Rattle.rules.specs.Grid.{index, voxel, touch, share_face, neighbour, neighbourhood}
use Rattle.rules.specs.Begin.{exposed}
use Rattle.rules.specs.Body.{body_of, euler_of}
use Rattle.rules.specs.Meaning.{found}
use Rattle.rules.proofs.Places.{index-voxel}
use Rattle.rules.proofs.InsideLeast.{mem-map}
use Rattle.rules.proofs.Topology.Around.{touch-close, at_same, close_at, neighbour-at, at_place}
use Rattle.rules.proofs.Topology.Surface.{omit, omit-true, true-omit}
use Rattle.rules.proofs.Topology.Removal.{AllInner, background, omit-split, passes-parts, passes-exposed, removal-euler, passing-euler, removal-body}
use Rattle.rules.proofs.Topology.Removal.{euler_change, removal-background, removal-elsewhere}
use Rattle.rules.proofs.Topology.Count.{found-mono, found-or, found-omit, found-list}

-- ---- the shape of a body: what every removal of a voxel keeps that passes, or has a face neighbour not kept

pub record Shape (s : Sides) (kept : ℕ → Bool) (opened : ℕ) (number : ℤ) : Type 0 where
  pub inner : AllInner s kept
  pub outside : OnePiece (background s kept) (share_face s)
  pub counted : number ≡ euler_of s (body_of s kept)
  pub unopened : opened ≡ 0 → (OnePiece kept (touch s)) × (number ≡ pos 1)

module _ (s : Sides) (kept : ℕ → Bool) (opened : ℕ) (number : ℤ) (shape : Shape s kept opened number) (i : ℕ) (ki : kept i ≡ true) where
  still-inner : AllInner s (omit kept i)
  still-inner j e = shape.inner j (omit-true kept i j e).0

  pub shape-passed : passes (test (neighbourhood s kept i)) ≡ true → Shape s (omit kept i) opened number
  shape-passed e =
      record {
        inner = still-inner;
        outside = removal-background s kept shape.inner i ki (passes-exposed s kept i e) shape.outside;
        counted = shape.counted ∙ sym (passing-euler s kept shape.inner i ki e);
        unopened = λ z. let h = shape.unopened z in (removal-body s kept shape.inner i ki (passes-parts (test (neighbourhood s kept i)) e).0 h.0, h.1);
      }

  pub shape-opened : exposed s kept i ≡ true
      → Shape s (omit kept i) (suc opened) (number +ℤ euler_change s kept i)
  shape-opened e =
      record {
        inner = still-inner;
        outside = removal-background s kept shape.inner i ki e shape.outside;
        counted = ap (λ (q : ℤ). q +ℤ euler_change s kept i) shape.counted ∙ sym (removal-euler s kept shape.inner i ki);
        unopened = λ z. let f : ⊥ = omega arith in absurd f;
      }

-- ---- moves on the kept set, the pending set and the counts

pub record Sets : Type 0 where
  pub kept : ℕ → Bool
  pub pending : ℕ → Bool
  pub examined : ℕ
  pub removed : ℕ
  pub opened : ℕ
  pub number : ℤ

-- the sets after the voxel i is examined, and stays
abbrev pub settled : Sets → ℕ → Sets
settled g i =
    record {
      kept = g.kept;
      pending = omit g.pending i;
      examined = suc g.examined;
      removed = g.removed;
      opened = g.opened;
      number = g.number;
    }

module _ (s : Sides) (S : ℕ → Bool) where
  -- pending after the voxel i is gone: every kept voxel outside S that touches it besides, save the pinned ones
  unfoldable pub pending_after : (ℕ → Bool) → (ℕ → Bool) → (ℕ → Bool) → ℕ → ℕ → Bool
  pending_after pins kept pending i j = omit pending i j || (omit kept i j && ((not (S j) && not (pins j)) && touch s i j))

  -- the sets after the voxel i is gone, with the counts given
  abbrev pub gone : (ℕ → Bool) → Sets → ℕ → ℕ → ℕ → ℤ → Sets
  gone pins g i examined opened number =
      record {
        kept = omit g.kept i;
        pending = pending_after pins g.kept g.pending i;
        examined = examined;
        removed = suc g.removed;
        opened = opened;
        number = number;
      }

  -- a move of a call that pins these voxels
  pub data Move (pins : ℕ → Bool) (g : Sets) : Sets → Type 0 where
    -- examined, and it stays: it does not pass, or it is pinned
    stayed : (i : ℕ) → g.pending i ≡ true → (passes (test (neighbourhood s g.kept i)) && not (pins i)) ≡ false
        → Move pins g (settled g i)
    -- examined, and gone
    passed : (i : ℕ) → g.pending i ≡ true → pins i ≡ false → passes (test (neighbourhood s g.kept i)) ≡ true
        → Move pins g (gone pins g i (suc g.examined) g.opened g.number)
    -- gone without an examination
    taken : (i : ℕ) → g.kept i ≡ true → S i ≡ false → pins i ≡ false → passes (test (neighbourhood s g.kept i)) ≡ true
        → Move pins g (gone pins g i g.examined g.opened g.number)
    opened_up : (i : ℕ) → g.kept i ≡ true → S i ≡ false → pins i ≡ false → exposed s g.kept i ≡ true
        → Move pins g (gone pins g i g.examined (suc g.opened) (g.number +ℤ euler_change s g.kept i))

  -- held: every voxel that some call of the list pins, or more
  pub record Inv (held : ℕ → Bool) (total : ℕ) (g : Sets) : Type 0 where
    pub shape : Shape s g.kept g.opened g.number
    pub inside : (j : ℕ) → S j ≡ true → g.kept j ≡ true
    pub waiting : (j : ℕ) → g.pending j ≡ true → (g.kept j ≡ true) × (S j ≡ false)
    pub failing : (j : ℕ) → g.kept j ≡ true → S j ≡ false → held j ≡ false → g.pending j ≡ false → passes (test (neighbourhood s g.kept j)) ≡ false
    pub bounded : g.examined + found s g.pending ≤ total + 26 * g.removed
    pub spent : found s g.kept + g.removed ≡ total

  -- ---- any starting body: of the voxels that none holds, each kept one outside S that has a face neighbour not kept is pending
  pub record Start (held kept pending : ℕ → Bool) : Type 0 where
    pub shape : Shape s kept 0 (pos 1)
    pub inside : (j : ℕ) → S j ≡ true → kept j ≡ true
    pub waiting : (j : ℕ) → pending j ≡ true → (kept j ≡ true) × (S j ≡ false)
    pub surface : (j : ℕ) → kept j ≡ true → S j ≡ false → held j ≡ false → exposed s kept j ≡ true → pending j ≡ true

  abbrev pub fresh : (ℕ → Bool) → (ℕ → Bool) → Sets
  fresh kept pending = record { kept = kept; pending = pending; examined = 0; removed = 0; opened = 0; number = pos 1 }

  pub start-inv : (held kept pending : ℕ → Bool) → Start held kept pending → Inv held (found s kept) (fresh kept pending)
  start-inv held kept pending start =
      record {
        shape = start.shape;
        inside = start.inside;
        waiting = start.waiting;
        failing = λ j kj sj hj pj. elim (two (passes (test (neighbourhood s kept j)))) [
          | inl e ↦ not-both (pending j) (start.surface j kj sj hj (passes-exposed s kept j e)) pj
          | inr e ↦ e
        ];
        bounded = omega (arith, found-mono s pending kept (λ j e. (start.waiting j e).0));
        spent = omega arith;
      }

  -- ---- what the removal of a kept voxel i outside S keeps, whatever voxels the call pins of those that are held
  module _ (held : ℕ → Bool) (total : ℕ) (pins : ℕ → Bool) (sub : (j : ℕ) → pins j ≡ true → held j ≡ true)
      (g : Sets) (inv : Inv held total g) (i : ℕ) (ki : g.kept i ≡ true) (si : S i ≡ false) where
    still-inside : (j : ℕ) → S j ≡ true → omit g.kept i j ≡ true
    still-inside j e = true-omit g.kept i j (inv.inside j e) (λ q. not-both (S j) e (ap S q ∙ si))

    -- a voxel that a removal makes pending
    record Reached (j : ℕ) : Type 0 where
      kept : omit g.kept i j ≡ true
      outside : S j ≡ false
      touches : touch s i j ≡ true

    woken-split : (j : ℕ) → pending_after pins g.kept g.pending i j ≡ true → (omit g.pending i j ≡ true) ⊎ (Reached j)
    unfolding pending_after
    woken-split j e =
        elim (or-true (omit g.pending i j) (omit g.kept i j && ((not (S j) && not (pins j)) && touch s i j)) e) [
          | inl h ↦ inl h
          | inr h ↦
              let p = and-true (omit g.kept i j) ((not (S j) && not (pins j)) && touch s i j) h in
              let q = and-true (not (S j) && not (pins j)) (touch s i j) p.1 in
              inr (record { kept = p.0; outside = not-true (S j) (and-true (not (S j)) (not (pins j)) q.0).0; touches = q.1 })
        ]

    woken-waiting : (j : ℕ) → pending_after pins g.kept g.pending i j ≡ true → (omit g.kept i j ≡ true) × (S j ≡ false)
    woken-waiting j e =
        elim (woken-split j e) [
          | inl h ↦ let p = omit-true g.pending i j h in let q = inv.waiting j p.0 in (true-omit g.kept i j q.0 p.1, q.1)
          | inr h ↦ (h.kept, h.outside)
        ]

    unpinned : (j : ℕ) → held j ≡ false → pins j ≡ false
    unpinned j h = elim (two (pins j)) [ inl e ↦ not-both (held j) (sub j e) h | inr e ↦ e ]

    still-failing : (j : ℕ) → omit g.kept i j ≡ true → S j ≡ false → held j ≡ false → pending_after pins g.kept g.pending i j ≡ false
        → passes (test (neighbourhood s (omit g.kept i) j)) ≡ false
    unfolding pending_after
    still-failing j kj sj hj wj =
        let t = omit-true g.kept i j kj in
        let o = or-false (omit g.pending i j) (omit g.kept i j && ((not (S j) && not (pins j)) && touch s i j)) wj in
        let free : pins j ≡ false = unpinned j hj in
        let far : touch s i j ≡ false = rw (kj, sj, free) at o.1 in
        let still : g.pending j ≡ false = elim (two (g.pending j)) [
          | inl e ↦ not-both (omit g.pending i j) (true-omit g.pending i j e t.1) o.0
          | inr e ↦ e
        ] in
        ap passes (removal-elsewhere s g.kept inv.shape.inner i ki j t.0 far) ∙ inv.failing j t.0 sj hj still

    -- the 26 voxels around i
    at-place-of : ℕ → ℕ
    at-place-of p = index s (neighbour (voxel s i) p)

    around : List ℕ
    around = map at-place-of positions

    touching-around : (j : ℕ) → omit g.kept i j ≡ true → touch s i j ≡ true → any (eqb j) around ≡ true
    unfolding around at-place-of
    touching-around j kj t =
        let r = omit-true g.kept i j kj in
        let u = (inv.shape.inner i ki).1 in
        let index-of : (j : ℕ) → index s (voxel s j) ≡ j = λ j. index-voxel s j (omega (arith, u.x-high)) (omega (arith, u.y-high)) in
        let a = close_at (voxel s i) (voxel s j) (touch-close s i j t) in
        let p = a.0 in
        let m = at_place (voxel s i) (voxel s j) p a.1 (λ q. r.1 (sym (index-of j) ∙ ap (index s) (sym q) ∙ index-of i)) in
        let e : at-place-of p ≡ j =
        ap (index s) (at_same (voxel s i) (neighbour (voxel s i) p) (voxel s j) p (neighbour-at s (voxel s i) u p a.1.low).0 a.1) ∙ index-of j in
        true-any (eqb j) (map at-place-of positions) (at-place-of p) (mem-map at-place-of positions p m) (eq-eqb j (at-place-of p) (sym e))

    woken-found : found s (pending_after pins g.kept g.pending i) ≤ found s (omit g.pending i) + 26
    unfolding around
    woken-found =
        omega (
          arith,
          found-or s (omit g.pending i) (λ j. any (eqb j) around),
          found-list s around,
          found-mono s (pending_after pins g.kept g.pending i) (λ j. omit g.pending i j || any (eqb j) around) among,
        )
      where
        among : (j : ℕ) → pending_after pins g.kept g.pending i j ≡ true → (omit g.pending i j || any (eqb j) around) ≡ true
        among j e =
            elim (woken-split j e) [
              | inl h ↦ true-or (omit g.pending i j) (any (eqb j) around) (inl h)
              | inr h ↦ true-or (omit g.pending i j) (any (eqb j) around) (inr (touching-around j h.kept h.touches))
            ]

    -- the invariant after the removal, from the new body's shape and the bound on examinations
    inv-gone : (examined opened : ℕ) (number : ℤ) → Shape s (omit g.kept i) opened number
        → examined + found s (omit g.pending i) ≤ total + 26 * g.removed → Inv held total (gone pins g i examined opened number)
    inv-gone examined opened number shape bound =
        record {
          shape = shape;
          inside = still-inside;
          waiting = woken-waiting;
          failing = still-failing;
          bounded = omega (arith, woken-found);
          spent = omega (arith, found-omit s g.kept i (inv.shape.inner i ki).0 ki, inv.spent);
        }

    fewer : found s (omit g.pending i) ≤ found s g.pending
    fewer = found-mono s (omit g.pending i) g.pending (λ j e. (omit-true g.pending i j e).0)

  -- every move keeps the invariant
  pub move-keeps : (held : ℕ → Bool) (total : ℕ) (pins : ℕ → Bool) → ((j : ℕ) → pins j ≡ true → held j ≡ true)
      → {g h : Sets} → Inv held total g → Move pins g h → Inv held total h
  move-keeps held total pins sub {g} inv (stayed i pi e) =
      record {
        shape = inv.shape;
        inside = inv.inside;
        waiting = λ j h. inv.waiting j (omit-true g.pending i j h).0;
        failing = λ j kj sj hj pj. elim (two (g.pending j)) [
          | inl h ↦ elim (omit-split g.pending i j h) [
            | inl q ↦ ap (λ (n : ℕ). passes (test (neighbourhood s g.kept n))) q ∙ fails (ap pins (sym q) ∙ free j hj)
            | inr w ↦ not-both (omit g.pending i j) w pj
          ]
          | inr h ↦ inv.failing j kj sj hj h
        ];
        bounded = omega (arith, found-omit s g.pending i (inv.shape.inner i (inv.waiting i pi).0).0 pi, inv.bounded);
        spent = inv.spent;
      }
    where
      free : (j : ℕ) → held j ≡ false → pins j ≡ false
      free j h = elim (two (pins j)) [ inl e ↦ not-both (held j) (sub j e) h | inr e ↦ e ]

      fails : pins i ≡ false → passes (test (neighbourhood s g.kept i)) ≡ false
      fails f =
          elim (and-false (passes (test (neighbourhood s g.kept i))) (not (pins i)) e) [
            | inl h ↦ h
            | inr h ↦ not-both (pins i) (not-false (pins i) h) f
          ]
  move-keeps held total pins sub {g} inv (passed i pi fi e) =
      let w = inv.waiting i pi in
      inv-gone held total pins sub g inv i w.0 w.1 (suc g.examined) g.opened g.number
      (shape-passed s g.kept g.opened g.number inv.shape i w.0 e)
      (omega (arith, found-omit s g.pending i (inv.shape.inner i w.0).0 pi, inv.bounded))
  move-keeps held total pins sub {g} inv (taken i ki si fi e) =
      inv-gone held total pins sub g inv i ki si g.examined g.opened g.number
      (shape-passed s g.kept g.opened g.number inv.shape i ki e)
      (omega (arith, fewer held total pins sub g inv i ki si, inv.bounded))
  move-keeps held total pins sub {g} inv (opened_up i ki si fi e) =
      inv-gone held total pins sub g inv i ki si g.examined (suc g.opened) (g.number +ℤ euler_change s g.kept i)
      (shape-opened s g.kept g.opened g.number inv.shape i ki e)
      (omega (arith, fewer held total pins sub g inv i ki si, inv.bounded))
