-- Each step of a call on the status bytes is a move on the sets that they stand for.
use mathlib.Core.Path.{◌≡◌, refl, ap, ap₂, sym, ◌∙◌, subst, fun_ext}
use mathlib.Core.Bool.{Bool, true, false, not, cond, ◌&&◌, ◌||◌}
use mathlib.Core.List.{List}
use Prim.Native.Nat.{ℕ, suc, ◌+◌, ◌≤◌, ◌<◌}
use native.Mathlib.Omega.{arith}
use native.Mathlib.Decide.{ℕ_discrete, dec_lt}
use lib.Dec.{eqb}
use lib.ListN.{length, get_or, set, length-set, get_or-eq_default}
use lib.Seq.{get_or-set_same, get_or-set_other}
use lib.IntN.{ℤ, pos, ◌+ℤ◌, ◌-ℤ◌}
use borrow.Author.Tests.{eq-eqb, ne_eqb}
use Rattle.cells.specs.Cells.{passes}
use Rattle.prelude.proofs.Bools.{and-true, and_zero, and_one, not-true}
use Rattle.rules.specs.declared.Sides.{Sides}
use Rattle.rules.specs.Grid.{size, voxels, touch}
use Rattle.rules.specs.Begin.{exposed}
use Rattle.rules.specs.Status.{status_of, kept_byte, pending_byte, rested, is_kept, is_pending, removable, test_at, status_without, without}
use Rattle.rules.specs.Status.{goes, examined_as, examine}
use Rattle.prelude.proofs.Ranges.{get_d-map-range, length-map-range}
use Rattle.rules.proofs.Topology.Surface.{omit}
use Rattle.rules.proofs.Topology.Removal.{euler_change}
use Rattle.rules.proofs.Topology.Moves.{Sets, pending_after, gone, Move, stayed, passed, taken, opened_up, Inv, move-keeps}
use Rattle.rules.proofs.Topology.Bytes.{rested-kept, rested-pending, still_kept, now-pending}

-- how many examinations, removals and openings, and the Euler number
pub record Tally : Type 0 where
  pub examined : ℕ
  pub removed : ℕ
  pub opened : ℕ
  pub number : ℤ

abbrev pub tally : ℕ → ℕ → ℕ → ℤ → Tally
tally examined removed opened number = record { examined = examined; removed = removed; opened = opened; number = number }

-- the counts after an examination of a voxel, by whether it goes
abbrev pub examined_once : Bool → Tally → Tally
examined_once goes t = tally (suc t.examined) (cond goes (suc t.removed) t.removed) t.opened t.number

-- the sets that status bytes stand for
abbrev pub sets : List ℕ → Tally → Sets
sets status t =
    record {
      kept = is_kept status;
      pending = is_pending status;
      examined = t.examined;
      removed = t.removed;
      opened = t.opened;
      number = t.number;
    }

-- what holds of the status bytes and the counts between calls
pub record Sound (s : Sides) (S held : ℕ → Bool) (total : ℕ) (status : List ℕ) (t : Tally) : Type 0 where
  pub inv : Inv s S held total (sets status t)
  pub lent : length status ≡ size s

-- ---- beyond the buffer there is nothing

pub kept-beyond : (status : List ℕ) (j : ℕ) → length status ≤ j → is_kept status j ≡ false
unfolding is_kept kept_byte
kept-beyond status j h = ap kept_byte (get_or-eq_default status 0 h)

pub pending-beyond : (status : List ℕ) (j : ℕ) → length status ≤ j → is_pending status j ≡ false
unfolding is_pending pending_byte
pending-beyond status j h = ap pending_byte (get_or-eq_default status 0 h)

-- ---- the sets that the bytes stand for after a removal, and after an examination of a voxel that stays

module _ (s : Sides) (free : ℕ → Bool) (status : List ℕ) (lent : length status ≡ size s) where
  status-without : (i j : ℕ) → j < size s → status_of (without s free status i) j ≡ status_without s free status i j
  unfolding without voxels
  status-without i j h = get_d-map-range (status_without s free status i) 0 (size s) j h

  pub length_without : (i : ℕ) → length (without s free status i) ≡ size s
  unfolding without voxels
  length_without i = length-map-range (status_without s free status i) (size s)

  kept_at : (i j : ℕ) → j < size s → is_kept (without s free status i) j ≡ omit (is_kept status) i j
  unfolding status_without removable is_kept omit
  kept_at i j h = ap kept_byte (status-without i j h) ∙ still_kept (status_of status j) (eqb j i) (free j) (touch s i j)

  -- pending after a removal
  abbrev pub pending_without : ℕ → ℕ → Bool
  pending_without i j = omit (is_pending status) i j || (omit (is_kept status) i j && (free j && touch s i j))

  pending-at : (i j : ℕ) → j < size s → is_pending (without s free status i) j ≡ pending_without i j
  unfolding status_without removable is_pending is_kept omit
  pending-at i j h = ap pending_byte (status-without i j h) ∙ now-pending (status_of status j) (eqb j i) (free j) (touch s i j)

  omit-beyond : (i j : ℕ) → size s ≤ j → (omit (is_kept status) i j ≡ false) × (omit (is_pending status) i j ≡ false)
  unfolding omit
  omit-beyond i j h = (
    ap (λ (k : Bool). k && not (eqb j i)) (kept-beyond status j (omega arith)),
    ap (λ (k : Bool). k && not (eqb j i)) (pending-beyond status j (omega arith)),
  )

  pub kept-without : (i : ℕ) → is_kept (without s free status i) ≡ omit (is_kept status) i
  kept-without i = fun_ext (λ j. go j (dec_lt j (size s)))
    where
      go : (j : ℕ) → Dec (j < size s) → is_kept (without s free status i) j ≡ omit (is_kept status) i j
      go j (yes h) = kept_at i j h
      go j (no n) = kept-beyond (without s free status i) j (omega (arith, length_without i)) ∙ sym (omit-beyond i j (omega arith)).0

  pub pending-without : (i : ℕ) → is_pending (without s free status i) ≡ pending_without i
  pending-without i = fun_ext (λ j. go j (dec_lt j (size s)))
    where
      go : (j : ℕ) → Dec (j < size s) → is_pending (without s free status i) j ≡ pending_without i j
      go j (yes h) = pending-at i j h
      go j (no n) =
          pending-beyond (without s free status i) j (omega (arith, length_without i))
          ∙ sym (ap₂ (λ (p k : Bool). p || (k && (free j && touch s i j))) (omit-beyond i j (omega arith)).1 (omit-beyond i j (omega arith)).0)

module _ (s : Sides) (status : List ℕ) (lent : length status ≡ size s) (i : ℕ) (below : i < size s) (waits : is_pending status i ≡ true) where
  abbrev pub stayed-at : List ℕ
  stayed-at = set status i (rested (status_of status i))

  pub length-stayed : length stayed-at ≡ size s
  length-stayed = length-set status i (rested (status_of status i)) ∙ lent

  pub kept-stayed : is_kept stayed-at ≡ is_kept status
  unfolding is_kept is_pending
  kept-stayed = fun_ext (λ j. go j (ℕ_discrete j i))
    where
      go : (j : ℕ) → Dec (j ≡ i) → kept_byte (get_or stayed-at j 0) ≡ kept_byte (get_or status j 0)
      go j (yes e) =
          ap (λ (k : ℕ). kept_byte (get_or stayed-at k 0)) e
          ∙ ap kept_byte (get_or-set_same status i (rested (status_of status i)) 0 (omega (arith, lent)))
          ∙ rested-kept (status_of status i) waits
          ∙ ap (λ (k : ℕ). kept_byte (get_or status k 0)) (sym e)
      go j (no n) = ap kept_byte (get_or-set_other status i j (rested (status_of status i)) 0 n)

  pub pending-stayed : is_pending stayed-at ≡ omit (is_pending status) i
  unfolding is_pending omit
  pending-stayed = fun_ext (λ j. go j (ℕ_discrete j i))
    where
      go : (j : ℕ) → Dec (j ≡ i) → pending_byte (get_or stayed-at j 0) ≡ (pending_byte (get_or status j 0) && not (eqb j i))
      go j (yes e) =
          ap (λ (k : ℕ). pending_byte (get_or stayed-at k 0)) e
          ∙ ap pending_byte (get_or-set_same status i (rested (status_of status i)) 0 (omega (arith, lent)))
          ∙ rested-pending (status_of status i) waits
          ∙ sym (ap (λ (q : Bool). pending_byte (get_or status j 0) && not q) (eq-eqb j i e) ∙ and_zero (pending_byte (get_or status j 0)))
      go j (no n) =
          ap pending_byte (get_or-set_other status i j (rested (status_of status i)) 0 n)
          ∙ sym (ap (λ (q : Bool). pending_byte (get_or status j 0) && not q) (ne_eqb j i n) ∙ and_one (pending_byte (get_or status j 0)))

-- ---- a call that pins no voxel but those that are held; free are the voxels outside S that it does not pin

module _ (s : Sides) (S pins held free : ℕ → Bool) (total : ℕ) (within : (j : ℕ) → pins j ≡ true → held j ≡ true)
    (free-is : (j : ℕ) → j < size s → free j ≡ (not (S j) && not (pins j))) (status : List ℕ) (t : Tally) (sound : Sound s S held total status t) where
  keeps : {h : Sets} → Move s S pins (sets status t) h → Inv s S held total h
  keeps m = move-keeps s S held total pins within sound.inv m

  -- ---- a voxel is gone

  pending-gone : (i : ℕ) → is_pending (without s free status i) ≡ pending_after s S pins (is_kept status) (is_pending status) i
  unfolding pending_after
  pending-gone i = pending-without s free status sound.lent i ∙ fun_ext (λ j. go j (dec_lt j (size s)))
    where
      by : ℕ → Bool → Bool
      by j f = omit (is_pending status) i j || (omit (is_kept status) i j && (f && touch s i j))

      go : (j : ℕ) → Dec (j < size s) → by j (free j) ≡ by j (not (S j) && not (pins j))
      go j (yes h) = ap (by j) (free-is j h)
      go j (no n) =
          let b = omit-beyond s free status sound.lent i j (omega arith) in
          ap (λ (k : Bool). omit (is_pending status) i j || (k && (free j && touch s i j))) b.0
          ∙ sym (ap (λ (k : Bool). omit (is_pending status) i j || (k && ((not (S j) && not (pins j)) && touch s i j))) b.0)

  -- the bytes without i, from the invariant of the sets without i
  sound-gone : (i examined opened : ℕ) (number : ℤ) → Inv s S held total (gone s S pins (sets status t) i examined opened number)
      → Sound s S held total (without s free status i) (tally examined (suc t.removed) opened number)
  sound-gone i examined opened number inv = record { inv = subst (Inv s S held total) (sym same) inv; lent = length_without s free status sound.lent i }
    where
      same : sets (without s free status i) (tally examined (suc t.removed) opened number) ≡ gone s S pins (sets status t) i examined opened number
      same = λ n.
          record {
            kept = kept-without s free status sound.lent i n;
            pending = pending-gone i n;
            examined = examined;
            removed = suc t.removed;
            opened = opened;
            number = number;
          }

  -- ---- the three ways in which a voxel goes

  pub sound-taken : (i : ℕ) → is_kept status i ≡ true → S i ≡ false → pins i ≡ false → passes (test_at s status i) ≡ true
      → Sound s S held total (without s free status i) (tally t.examined (suc t.removed) t.opened t.number)
  unfolding test_at
  sound-taken i ki si fi e = sound-gone i t.examined t.opened t.number (keeps (taken i ki si fi e))

  pub sound-opened : (i : ℕ) → is_kept status i ≡ true → S i ≡ false → pins i ≡ false → exposed s (is_kept status) i ≡ true
      → Sound s S held total (without s free status i)
      (tally t.examined (suc t.removed) (suc t.opened) (t.number +ℤ (pos (test_at s status i).k -ℤ pos (test_at s status i).m)))
  unfolding test_at
  sound-opened i ki si fi e =
      sound-gone i t.examined (suc t.opened) (t.number +ℤ euler_change s (is_kept status) i) (keeps (opened_up i ki si fi e))

  sound-passed : (i : ℕ) → is_pending status i ≡ true → pins i ≡ false → passes (test_at s status i) ≡ true
      → Sound s S held total (without s free status i) (tally (suc t.examined) (suc t.removed) t.opened t.number)
  unfolding test_at
  sound-passed i pi fi e = sound-gone i (suc t.examined) t.opened t.number (keeps (passed i pi fi e))

  -- ---- a pending voxel that stays is pending no more

  sound-stayed : (i : ℕ) → i < size s → is_pending status i ≡ true → (passes (test_at s status i) && not (pins i)) ≡ false
      → Sound s S held total (set status i (rested (status_of status i))) (tally (suc t.examined) t.removed t.opened t.number)
  unfolding test_at
  sound-stayed i h pi e =
      record { inv = subst (Inv s S held total) same (keeps (stayed i pi e)); lent = length-stayed s status sound.lent i h pi }
    where
      kept-only : Sets
      kept-only =
          record {
            kept = is_kept status;
            pending = omit (is_pending status) i;
            examined = suc t.examined;
            removed = t.removed;
            opened = t.opened;
            number = t.number;
          }

      same : kept-only ≡ sets (set status i (rested (status_of status i))) (tally (suc t.examined) t.removed t.opened t.number)
      same = λ n.
          record {
            kept = sym (kept-stayed s status sound.lent i h pi) n;
            pending = sym (pending-stayed s status sound.lent i h pi) n;
            examined = suc t.examined;
            removed = t.removed;
            opened = t.opened;
            number = t.number;
          }

  -- an examination: a pending voxel is outside S, so it may go if it is not pinned
  pub sound-examined : (i : ℕ) → i < size s → is_pending status i ≡ true
      → Sound s S held total (examine s free status i) (examined_once (goes s free status i) t)
  unfolding examine goes
  sound-examined i h pi = go (passes (test_at s status i) && free i) refl
    where
      unpinned : free i ≡ not (pins i)
      unpinned = free-is i h ∙ ap (λ (u : Bool). not u && not (pins i)) (sound.inv.waiting i pi).1

      go : (u : Bool) → (passes (test_at s status i) && free i) ≡ u
          → Sound s S held total (examined_as u s free status i) (examined_once u t)
      go true e =
          let p = and-true (passes (test_at s status i)) (free i) e in sound-passed i pi (not-true (pins i) (sym unpinned ∙ p.1)) p.0
      go false e = sound-stayed i h pi (ap (λ (u : Bool). passes (test_at s status i) && u) (sym unpinned) ∙ e)
