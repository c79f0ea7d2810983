-- Document 02's CR 11: what holds of the body that an accepted list leaves, whoever made the list, where a start left the buffers.
-- proofs/Guarantee.antt and proofs/Closed.antt prove it.
use Rattle.std.specs.Prelude.{◌≡◌, ◌↔◌, Bool, true, false, not, ◌&&◌, List, ℕ, ◌<◌, ltb, ℤ, pos, ◌+ℤ◌}
use Rattle.cells.specs.Linked.{OnePiece}
use Rattle.rules.specs.declared.Sides.{Sides}
use Rattle.rules.specs.declared.Record.{Record}
use Rattle.rules.specs.Grid.{size, touch, share_face, is_in}
use Rattle.rules.specs.Answer.{refused, done}
use Rattle.rules.specs.Begin.{exposed, inside}
use Rattle.rules.specs.Body.{body_of, euler_of}
use Rattle.rules.specs.Status.{is_kept}
use Rattle.rules.specs.Machine.{State, state, open_next}
use Rattle.rules.specs.Demand.{Call, run, Promise, FromBegin}
use Rattle.rules.specs.Fifteen.{OpenToBorder}
use Rattle.coarse.specs.Promises.{FromCoarse}
use Rattle.judging.specs.declared.Judgement.{Judgement}
use Rattle.judging.specs.Judge.{Entry, entries_in, judge}
use Rattle.judging.specs.Accepted.{kept_after, change}
use Rattle.judging.specs.Own.{PinNothing}

-- "Where begin left those buffers for that record's sides": a list that judge accepts on the buffers of a start, with whatever record of these sides
pub record AcceptedList (s : Sides) (begun : State) : Type 0 where
  pub given : Record
  pub same-sides : given.sides ≡ s
  pub list : List ℕ
  pub answer : Judgement
  pub accepts : (judge list (state given begun.dist begun.status)).answer ≡ done answer

-- the voxels that it leaves
abbrev pub left_by : {s : Sides} {begun : State} → AcceptedList s begun → ℕ → Bool
left_by {s} {begun} l = kept_after (is_kept begun.status) (entries_in l.list)

-- ---- "the body of an accepted list has the same Euler guarantee, and is in one piece if the list has no opening"

pub record Guarantee (s : Sides) (S start : ℕ → Bool) (es : List Entry) (a : Judgement) : Type 0 where
  pub inside-kept : (i : ℕ) → S i ≡ true → kept_after start es i ≡ true
  pub background-one-piece : OnePiece (λ i. ltb i (size s) && not (kept_after start es i)) (share_face s)
  pub euler-of-body : a.euler ≡ euler_of s (body_of s (kept_after start es))
  pub euler-of-openings : a.euler ≡ pos 1 +ℤ change s start es
  pub unopened-one-piece : a.opened ≡ 0 → OnePiece (kept_after start es) (touch s)
  pub unopened-euler : a.opened ≡ 0 → a.euler ≡ pos 1

abbrev pub ListGuaranteed : Promise
ListGuaranteed s T values marks start begun =
    (l : AcceptedList s begun) → Guarantee s (is_in (inside s values)) (is_kept begun.status) (entries_in l.list) l.answer

abbrev pub BegunGuarantee : Type 0
BegunGuarantee = FromBegin ListGuaranteed

abbrev pub CoarseGuarantee : Type 0
CoarseGuarantee = FromCoarse ListGuaranteed

-- ---- lists that go on until number 15 would be the answer: no kept outside voxel has a face neighbour not kept

abbrev pub NoneExposed : Sides → (ℕ → Bool) → (ℕ → Bool) → Type 0
NoneExposed s S kept = (i : ℕ) → i < size s → kept i ≡ true → S i ≡ false → exposed s kept i ≡ false

-- the voxels not kept are just those open to the border past S, and the body is in one piece: what 15 means where nothing is pinned
pub record ClosedIn (s : Sides) (S kept : ℕ → Bool) : Type 0 where
  pub gone-is-open : (i : ℕ) → i < size s → (kept i ≡ false) ↔ (OpenToBorder s S i)
  pub body-one-piece : OnePiece kept (touch s)

abbrev pub ListClosed : Promise
ListClosed s T values marks start begun =
    let S = is_in (inside s values) in
    (l : AcceptedList s begun) → NoneExposed s S (left_by l) → ClosedIn s S (left_by l)

abbrev pub FifteenOfLists : Type 0
FifteenOfLists = FromBegin ListClosed

abbrev pub CoarseFifteenOfLists : Type 0
CoarseFifteenOfLists = FromCoarse ListClosed

-- so lists of two firms, from two starts with the same S, leave the same body if both end so
abbrev pub SameLeft : Sides → List ℤ → State → Promise
SameLeft s values begun s' T values' marks start' begun' =
    let S = is_in (inside s values) in
    let S' = is_in (inside s' values') in
    s' ≡ s → ((i : ℕ) → i < size s → S i ≡ S' i) → (l : AcceptedList s begun) (k : AcceptedList s' begun')
    → NoneExposed s S (left_by l) → NoneExposed s' S' (left_by k) → (i : ℕ) → i < size s → left_by l i ≡ left_by k i

abbrev pub TwoFirmsAgree : Type 0
TwoFirmsAgree = FromBegin (λ s T values marks start begun. FromBegin (SameLeft s values begun))

abbrev pub CoarseFirmsAgree : Type 0
CoarseFirmsAgree = FromCoarse (λ s T values marks start begun. FromCoarse (SameLeft s values begun))

-- one from a plain start, one from a coarse start
abbrev pub PlainAndCoarseFirmsAgree : Type 0
PlainAndCoarseFirmsAgree = FromBegin (λ s T values marks start begun. FromCoarse (SameLeft s values begun))

-- and a list of theirs leaves what our own calls leave where open answers 15, with marks that pin nothing
abbrev pub SameAsOurs : Promise
SameAsOurs s T values marks start begun =
    (calls : List Call) (lent : List ℕ)
    → let g = (run calls begun).end in
    PinNothing lent → (open_next lent g).answer ≡ refused 15 → (l : AcceptedList s begun) → NoneExposed s (is_in (inside s values)) (left_by l)
    → (i : ℕ) → i < size s → left_by l i ≡ is_kept g.status i

abbrev pub TheirsAndOurs : Type 0
TheirsAndOurs = FromBegin SameAsOurs

abbrev pub CoarseTheirsAndOurs : Type 0
CoarseTheirsAndOurs = FromCoarse SameAsOurs
