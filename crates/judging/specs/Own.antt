-- Document 02's CR 11: the list of removals that our own calls make, written as bytes. proofs/ReadBack.antt and proofs/Own.antt prove what is said of it.
use Rattle.std.specs.Prelude.{◌≡◌, Bool, true, false, not, cond, List, [], ◌∷◌, ◌++◌, ℕ, zero, suc, ◌≤◌, ◌<◌, None, Some}
use Rattle.rules.specs.declared.Sides.{Sides}
use Rattle.rules.specs.Answer.{Reply, refused, done}
use Rattle.rules.specs.Status.{is_kept, is_pending, any_pending, first_of, goes, examine}
use Rattle.rules.specs.Marks.{marked}
use Rattle.rules.specs.Machine.{State, is_inside, may_go, sooner, carve, take, open_next}
use Rattle.rules.specs.Demand.{Call, carve_up_to, take_at, open_one, finish_it, call, run, Promise, FromBegin, refuses, AllLend}
use Rattle.format.specs.Bytes.{word_bytes}
use Rattle.coarse.specs.Promises.{FromCoarse}
use Rattle.judging.specs.declared.Judgement.{Judgement}
use Rattle.judging.specs.Judge.{Entry, entries_in, judge}
use Rattle.judging.specs.Accepted.{NonePasses, AllReadable}

abbrev pub ordinary : ℕ → Entry
ordinary i = record { opens = false; at = i }

abbrev pub opening : ℕ → Entry
opening i = record { opens = true; at = i }

-- ---- entries as bytes: what one firm hands the other

abbrev pub entry_bytes : Entry → List ℕ
entry_bytes e = 0x56 ∷ cond e.opens 0x4F 0x52 ∷ word_bytes 4 e.at

unfoldable pub list_bytes : List Entry → List ℕ
list_bytes [] = []
list_bytes (e ∷ es) = entry_bytes e ++ list_bytes es

-- every index is below n
abbrev pub AllBelow : ℕ → List Entry → Type 0
AllBelow n [] = Unit {0}
AllBelow n (e ∷ es) = (e.at < n) × (AllBelow n es)

-- they are read back
abbrev pub ListReadsBack : Type 0
ListReadsBack = (n : ℕ) (es : List Entry) → n ≤ 4294967296 → AllBelow n es → (entries_in (list_bytes es) ≡ es) × (AllReadable n (list_bytes es))

-- ---- the entries of calls

-- the voxels that a carve removes, one after the other: `carving`, with the list in place of the counts
unfoldable pub removed_by : Sides → (ℕ → Bool) → (ℕ → ℕ → Bool) → ℕ → List ℕ → List Entry
removed_by s free ahead zero status = []
removed_by s free ahead (suc limit) status =
    elim (first_of s ahead (is_pending status)) [
      | None ↦ []
      | Some i ↦ let rest = removed_by s free ahead limit (examine s free status i) in cond (goes s free status i) (ordinary i ∷ rest) rest
    ]

-- a refused call removes none
abbrev pub if_done : {A : Type 0} → Reply A → (A → List Entry) → List Entry
if_done (refused n) entries = []
if_done (done a) entries = entries a

unfoldable pub entries_of : Call → State → List Entry
entries_of (carve_up_to marks limit) g =
    let m = marked marks in
    if_done (carve marks limit g).answer (λ r. removed_by g.rec.sides (may_go m g.dist) (sooner m g.dist) limit g.status)
entries_of (take_at marks i) g = if_done (take marks i g).answer (λ r. ordinary i ∷ [])
entries_of (open_one marks) g = if_done (open_next marks g).answer (λ r. opening r.index ∷ [])
entries_of finish_it g = []

unfoldable pub own_list : List Call → State → List Entry
own_list [] g = []
own_list (c ∷ cs) g = entries_of c g ++ own_list cs (call c g).end

-- ---- what judge answers for them

-- judge accepts the list on the state that the calls started from, and answers the counts of the record at the end
abbrev pub OwnAccepted : State → List Call → Type 0
OwnAccepted start calls =
    let end = (run calls start).end.rec in
    (judge (list_bytes (own_list calls start)) start).answer ≡ done (record { removed = end.removals; opened = end.openings; euler = end.euler })

-- an opening that is not refused
abbrev pub opens_at : State → Call → Bool
opens_at g (carve_up_to marks limit) = false
opens_at g (take_at marks i) = false
opens_at g (open_one marks) = not (refuses g (open_one marks))
opens_at g finish_it = false

-- no kept outside voxel passes when one of these calls opens, nor at their end
abbrev pub OpenLast : Sides → (ℕ → Bool) → State → List Call → Type 0
OpenLast s S g [] = NonePasses s S (is_kept g.status)
OpenLast s S g (c ∷ cs) = (opens_at g c ≡ true → NonePasses s S (is_kept g.status)) × (OpenLast s S (call c g).end cs)

-- judge accepts their list only then, and then with the record's counts, whatever marks the start and each call are lent
abbrev pub AcceptedOpeningLast : Promise
AcceptedOpeningLast s T values marks start begun =
    (calls : List Call)
    → let last = OpenLast s (is_inside begun.dist) begun calls in
    ((a : Judgement) → (judge (list_bytes (own_list calls begun)) begun).answer ≡ done a → last) × (last → OwnAccepted begun calls)

abbrev pub OwnListExactlyWhen : Type 0
OwnListExactlyWhen = FromBegin AcceptedOpeningLast

abbrev pub CoarseOwnListExactlyWhen : Type 0
CoarseOwnListExactlyWhen = FromCoarse AcceptedOpeningLast

-- so it is where neither the start nor a call pins a voxel, whatever they hurry, and nothing is pending at the end
abbrev pub PinNothing : List ℕ → Type 0
PinNothing marks = (i : ℕ) → (marked marks).pinned i ≡ false

abbrev pub UnpinnedAccepted : Promise
UnpinnedAccepted s T values marks start begun =
    PinNothing marks → (calls : List Call) → AllLend PinNothing begun calls → any_pending s (run calls begun).end.status ≡ false → OwnAccepted begun calls

abbrev pub OwnListIsAccepted : Type 0
OwnListIsAccepted = FromBegin UnpinnedAccepted

abbrev pub CoarseOwnListIsAccepted : Type 0
CoarseOwnListIsAccepted = FromCoarse UnpinnedAccepted
