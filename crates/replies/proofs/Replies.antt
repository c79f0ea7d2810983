-- The number in a call's struct is that of the first check that fails.
use mathlib.Core.Path.{◌≡◌, refl}
use mathlib.Core.Bool.{Bool, true, false, cond, not}
use mathlib.Core.List.{List, [], ◌∷◌}
use Prim.Native.Nat.{ℕ}
use lib.Dec.{eqb}
use Rattle.prelude.proofs.Bools.{and-true}
use Rattle.rules.specs.Checks.{Check, numbered, first_failing, unless}
use Rattle.rules.specs.Answer.{done, Outcome, outcome, untouched}
use Rattle.replies.specs.Reply.{refusal_of, NumberTells}

pub number-tells : {L A : Type 0} (cs : List Check) (lent : L) (a : A) (after : L) → NumberTells cs lent a after
unfolding unless first_failing
number-tells [] lent a after h = refl
number-tells {L = L} {A = A} (c ∷ cs) lent a after h =
    go c.fails (unless cs (untouched lent) (outcome (done a) after)) (number-tells cs lent a after (and-true (not (eqb c.number 0)) (numbered cs) h).1)
  where
    go : (t : Bool) (o : Outcome L A) {n : ℕ} → refusal_of o.answer ≡ n → refusal_of (cond t (untouched lent c.number) o).answer ≡ cond t c.number n
    go true o e = refl
    go false o e = e
