-- What holds where no check fails, and the outcome of the work.
use Rattle.std.specs.Prelude.{Result, Ok, Err, IsErrAnd}
use mathlib.Core.Path.{◌≡◌, refl, ap, ◌∙◌}
use mathlib.Core.List.{List}
use Prim.Native.Nat.{ℕ}
use lib.IntN.{ℤ}
use lib.ListN.{length}
use Rattle.rules.specs.declared.Sides.{Sides}
use Rattle.rules.specs.declared.Record.{Record}
use Rattle.rules.specs.declared.Refusal.{Refusal}
use Rattle.rules.specs.Grid.{size}
use Rattle.rules.specs.Checks.{first_failing}
use Rattle.rules.specs.Fill.{filled}
use Rattle.rules.specs.Marks.{Marked}
use Rattle.rules.specs.Begin.{new_record, begin_checks, begun_on, begun}
use Rattle.rules.specs.Answer.{refused, done, outcome, buffers}
use Rattle.rules.specs.Refusals.{number_of, replied}
use Rattle.rules.proofs.Refusals.{passed}
use Rattle.rules.proofs.Fit.{begin-lengths, beginnable}
use Rattle.gaps.specs.Work.{Accepted}
use Rattle.beginning.specs.Work.{WorkedOut}

module _ (s : Sides) (values : List ℤ) (marks : List ℕ) (dist : List ℤ) (status : List ℕ) where
  pub accepted : 0 ≡ first_failing (begin_checks s values marks dist status)
      → (Accepted s values (length dist) (length status)) × (length marks ≡ size s)
  accepted e =
      let h = passed (begin_checks s values marks dist status) refl e in
      let l = begin-lengths s values marks dist status h in
      (record { grid = beginnable s values marks dist status h; dist-len = l.dist-len; status-len = l.status-len }, l.marks-len)

-- what the work leaves is the rule's outcome, with marks that ask for the same
pub begun-is : (s : Sides) (T : ℕ) (values d : List ℤ) (m m' : Marked) (t : List ℕ) (r : Record) → r ≡ new_record s T → m ≡ m'
    → WorkedOut s m (filled s values) d t → outcome (done r) (buffers d t) ≡ begun s T values m'
unfolding begun begun_on
begun-is s T values d m m' t r f e w =
    (λ i. outcome (done (f i)) (buffers (w.distances i) (w.statuses i))) ∙ ap (λ (x : Marked). begun_on s T (filled s values) x) e

-- what `?` hands on of a check, as a call's answer
pub handed_reply : {A : Type 0} (r : Result A Refusal) (e : Refusal) → IsErrAnd r (λ d. d ≡ e) → replied r ≡ refused (number_of e)
handed_reply (Ok a) e h = absurd h
handed_reply (Err d) e h = ap (λ (e : Refusal). refused (number_of e)) h
