-- The state after a call, by what the call answered.
use Rattle.std.specs.Prelude.{Result}
use mathlib.Core.Path.{◌≡◌, ap, sym, ◌∙◌}
use mathlib.Core.Bool.{not}
use mathlib.Core.List.{List}
use Prim.Native.Nat.{ℕ}
use lib.IntN.{ℤ}
use Rattle.rules.specs.declared.Record.{Record}
use Rattle.rules.specs.declared.Opening.{Opening}
use Rattle.rules.specs.Answer.{Reply, Outcome, outcome, Buffers, buffers}
use Rattle.rules.specs.declared.Refusal.{Refusal}
use Rattle.rules.specs.Refusals.{replied}
use Rattle.rules.specs.Machine.{State, state, record_after, open_next}
use Rattle.program.specs.Program.{is_refused, opens}

module _ {B : Type 0} (next : B → Record) (given : Record) where
  pub after-answer :
      {a x : Result B Refusal} (d : List ℤ) {b : List ℕ} (o : Outcome Buffers B)
      → a ≡ x
      → outcome (replied a) (buffers d b) ≡ o
      → state (record_after next given (replied x)) d b ≡ state (record_after next given o.answer) o.lent.dist o.lent.status
  after-answer d {b = b} o e f =
      sym (ap (λ (y : Result B Refusal). state (record_after next given (replied y)) d b) e)
      ∙ ap (λ (p : Outcome Buffers B). state (record_after next given p.answer) p.lent.dist p.lent.status) f

pub opens-answer :
    (marks : List ℕ) (g : State) {a x : Result Opening Refusal} (d : List ℤ) {b : List ℕ}
    → a ≡ x
    → outcome (replied a) (buffers d b) ≡ open_next marks g
    → not (is_refused (replied x)) ≡ opens marks g
unfolding opens
opens-answer marks g d e f =
    sym (ap (λ (y : Result Opening Refusal). not (is_refused (replied y))) e) ∙ ap (λ (o : Outcome Buffers Opening). not (is_refused o.answer)) f
