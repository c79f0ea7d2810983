-- `any_long`: the sizes joined tell whether one is long.
use Rattle.std.proofs.Common.{◌≡◌, ◌∙◌, ◌||◌, ap, ap₂, sym, refl, ℕ, ℤ, List, [], ◌∷◌, ◌++◌, not, ◌%◌, rules, bit_or, to_z, of_z, w32}
use mathlib.Core.Logic.{⊎_elim}
use borrow.Author.Tests.{ltb-true, ltb-false, lt-leb, le-leb}
use lib.Dec.{leb, ltb}
use lib.IntN.{nat_abs}
use mir.Val.{SFits}
use mir.Facts.{to_z-of_z}
use Rattle.std.proofs.lemmas.Iterator.{YieldsList-from_slice}
use Rattle.loops.proofs.Folds.{fold-keeps}
use Rattle.prelude.specs.Lists.{any}
use Rattle.prelude.proofs.Bools.{or-zero, two}
use Rattle.prelude.proofs.Lists.{any_append}
use Rattle.rules.specs.Value.{beyond}
use Rattle.values.proofs.Signs.{long, long-joined, long-size}
use Rattle.values.proofs.any_long.Goals as goal

abbrev Long : List ℤ → ℕ → Type 0
Long vs all = long all ≡ any (beyond 32767) vs

none : Long [] 0
unfolding any
none = refl

more : (vs : List ℤ) (v : ℤ) → any (beyond 32767) (vs ++ v ∷ []) ≡ any (beyond 32767) vs || beyond 32767 v
unfolding any
more vs v = any_append (beyond 32767) vs (v ∷ []) ∙ ap (λ t. any (beyond 32767) vs || t) (or-zero (beyond 32767 v))

at-least : (k n : ℕ) → leb k n ≡ not (ltb n k)
at-least k n =
    ⊎_elim
    (λ e. lt-leb k n (ltb-true n k e) ∙ sym (ap not e))
    (λ e. le-leb k n (ltb-false n k e) ∙ sym (ap not e))
    (two (ltb n k))

pub returns : goal.returns
returns c =
    let h = fold-keeps _ Long 0 c.fold-all.result c.fold-all.ensures.ran (YieldsList-from_slice c.args.values.now cc) none
    (λ vs all x r q J k.
    let f : SFits w32 x.now = search rules in
    let e : r ≡ bit_or all (nat_abs (to_z w32 (of_z w32 x.now))) = search rules in (
      ap long e
          ∙ long-joined all (nat_abs (to_z w32 (of_z w32 x.now)))
          ∙ ap₂ ◌||◌ J (ap (λ (v : ℤ). long (nat_abs v)) (to_z-of_z f) ∙ long-size x.now f)
          ∙ sym (more vs x.now),
      search rules,
    )) in
    at-least 32768 (c.fold-all.result % 2147483648) ∙ h
