-- An accepted list is a list of takes and openings of ours, whoever made it; so its body has what ours have.
use mathlib.Core.Path.{◌≡◌, refl, ap, ap₂, sym, ◌∙◌, subst}
use mathlib.Core.Bool.{Bool, true, false, not, cond, ◌&&◌}
use mathlib.Core.List.{List, [], ◌∷◌}
use Prim.Native.Nat.{ℕ, suc}
use lib.IntN.{ℤ, pos, ◌+ℤ◌, ◌-ℤ◌}
use Rattle.cells.specs.Cells.{test}
use Rattle.rules.specs.declared.Sides.{Sides}
use Rattle.rules.specs.Grid.{neighbourhood, is_in}
use Rattle.rules.specs.Begin.{inside}
use Rattle.rules.specs.Status.{is_kept, test_at, without}
use Rattle.rules.specs.Marks.{marked}
use Rattle.rules.specs.Machine.{State, state, is_inside}
use Rattle.rules.specs.Meaning.{found}
use Rattle.rules.proofs.Topology.Moves.{Shape}
use Rattle.rules.proofs.Topology.Steps.{Tally, Sound, sound-taken, sound-opened}
use Rattle.rules.proofs.Demand.{all_held, Startable, start_state, FromStart, from-begin}
use Rattle.judging.specs.declared.Judgement.{Judgement}
use Rattle.judging.specs.Judge.{Entry, entries_in, Body, start_from, less_one, allows, goes, leaves, judgement_of}
use Rattle.judging.specs.Accepted.{kept_after, InTurn, Accepted, counts_of}
use Rattle.judging.specs.Guarantee.{AcceptedList, Guarantee, ListGuaranteed, BegunGuarantee, CoarseGuarantee}
use Rattle.judging.proofs.Accepted.{Follows, allowed-turn, accepted-follows, leaves_kept, leaves-counts, accepted-exactly-when}
use Rattle.coarse.proofs.Promises.{from-coarse}
use Rattle.judging.proofs.Starts.{nobody, less-without, same-inside, judged-good}

-- ---- each entry is a move of ours

module _ (s : Sides) (S : ℕ → Bool) (T total : ℕ) where
  abbrev free : ℕ → Bool
  free j = not (S j) && not (nobody j)

  -- status bytes and counts that the judge's body stands for
  pub record Stands (b : Body) : Type 0 where
    pub status : List ℕ
    pub counts : Tally
    pub sound : Sound s S all_held total status counts
    pub kept : b.kept ≡ is_kept status
    pub opened : b.opened ≡ counts.opened
    pub euler : b.euler ≡ counts.number

  goes-stands : (b : Body) (e : Entry) → allows s S T b e ≡ true → Stands b → Stands (goes s b e)
  unfolding goes test_at
  goes-stands b e ok h = go e.opens refl
    where
      change : (ℕ → Bool) → ℤ
      change kept = let t = test (neighbourhood s kept e.at) in pos t.k -ℤ pos t.m

      turn : InTurn s S (is_kept h.status) e
      turn = subst (λ (k : ℕ → Bool). InTurn s S k e) h.kept (allowed-turn s S T b e ok).0

      gone : less_one b.kept e.at ≡ is_kept (without s free h.status e.at)
      gone = less-without s free h.status h.sound.lent b.kept h.kept e.at

      go : (o : Bool) → e.opens ≡ o → Stands (record {
        kept = less_one b.kept e.at;
        removed = suc b.removed;
        opened = cond o (suc b.opened) b.opened;
        euler = cond o (b.euler +ℤ change b.kept) b.euler;
      })
      go true q =
          record {
            status = without s free h.status e.at;
            counts = _;
            sound = sound-opened s S nobody all_held free total (λ j e. refl) (λ j l. refl) h.status h.counts h.sound
                e.at turn.is-kept turn.is-outside refl (turn.opening-exposed q);
            kept = gone;
            opened = ap suc h.opened;
            euler = ap₂ (λ (n : ℤ) (k : ℕ → Bool). n +ℤ change k) h.euler h.kept;
          }
      go false q =
          record {
            status = without s free h.status e.at;
            counts = _;
            sound = sound-taken s S nobody all_held free total (λ j e. refl) (λ j l. refl) h.status h.counts h.sound
                e.at turn.is-kept turn.is-outside refl (turn.ordinary-passes q);
            kept = gone;
            opened = h.opened;
            euler = h.euler;
          }

  leaves-stands : (es : List Entry) (b : Body) → Follows s S T b es → Stands b → Stands (leaves s b es)
  unfolding leaves Follows
  leaves-stands [] b f h = h
  leaves-stands (e ∷ es) b f h = leaves-stands es (goes s b e) f.1 (goes-stands b e f.0 h)

  stands-shape : (b : Body) → Stands b → Shape s b.kept b.opened b.euler
  stands-shape b h =
      subst (λ (b : Body). Shape s b.kept b.opened b.euler)
      (λ n. record { kept = sym h.kept n; removed = b.removed; opened = sym h.opened n; euler = sym h.euler n }) h.sound.inv.shape

-- ---- where a start left the buffers

module _ (s : Sides) (T : ℕ) (values : List ℤ) (marks : List ℕ) (start : ℕ → Bool) (from : Startable s values start)
    (l : AcceptedList s (start_state s T values (marked marks) start)) where
  abbrev begun : State
  begun = start_state s T values (marked marks) start

  abbrev inner : ℕ → Bool
  inner = is_inside begun.dist

  abbrev es : List Entry
  es = entries_in l.list

  abbrev left : Body
  left = leaves s (start_from begun.status) es

  abbrev kept : ℕ → Bool
  kept = is_kept begun.status

  fair : (Accepted s inner l.given.allowed kept es) × (l.answer ≡ counts_of s kept es)
  fair =
      let r = (accepted-exactly-when l.list (state l.given begun.dist begun.status) l.answer).0 l.accepts in
      subst (λ (t : Sides). (Accepted t inner l.given.allowed kept es) × (l.answer ≡ counts_of t kept es)) l.same-sides (r.0.accepted, r.1)

  pub left-stands : Stands s inner l.given.allowed (found s start) left
  left-stands =
      leaves-stands s inner l.given.allowed (found s start) es (start_from begun.status)
      (accepted-follows s inner l.given.allowed (start_from begun.status) refl es fair.0)
      (record {
        status = begun.status;
        counts = _;
        sound = (judged-good s values start from T (marked marks) all_held (λ j e. refl)).sound;
        kept = refl;
        opened = refl;
        euler = refl;
      })

  pub left-kept : kept_after kept es ≡ is_kept left-stands.status
  left-kept = sym (leaves_kept s es (start_from begun.status)) ∙ left-stands.kept

  guaranteed : Guarantee s (is_in (inside s values)) kept es l.answer
  guaranteed =
      let answered : judgement_of left ≡ l.answer = leaves-counts s begun.status es ∙ sym fair.1 in
      let shape : Shape s (kept_after kept es) l.answer.opened l.answer.euler =
      subst (λ (j : Judgement). Shape s (kept_after kept es) j.opened j.euler) answered (
      subst (λ (kept : ℕ → Bool). Shape s kept left.opened left.euler) (leaves_kept s es (start_from begun.status))
      (stands-shape s inner l.given.allowed (found s start) left left-stands)) in
      record {
        inside-kept = λ i m.
            ap (λ (k : ℕ → Bool). k i) left-kept
            ∙ left-stands.sound.inv.inside i (ap (λ (S : ℕ → Bool). S i) (sym (same-inside s values start from T (marked marks))) ∙ m);
        background-one-piece = shape.outside;
        euler-of-body = shape.counted;
        euler-of-openings = ap (λ (j : Judgement). j.euler) fair.1;
        unopened-one-piece = λ z. (shape.unopened z).0;
        unopened-euler = λ z. (shape.unopened z).1;
      }

pub list-guaranteed : FromStart ListGuaranteed
list-guaranteed = guaranteed

pub begun-guarantee : BegunGuarantee
begun-guarantee = from-begin ListGuaranteed list-guaranteed

pub coarse-guarantee : CoarseGuarantee
coarse-guarantee = from-coarse ListGuaranteed list-guaranteed
