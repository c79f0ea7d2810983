-- `level`: where the fold is true, each distance equals the first.
use Rattle.std.proofs.Common.{◌≡◌, ℕ, zero, suc, ◌<◌, Bool, true, ◌&&◌, List, [], ◌∷◌, length, get_or, fold, sym, ◌∙◌, rules, tests, arith}
use lib.Dec.{eqb}
use borrow.Author.Tests.{eqb-true}
use Rattle.std.proofs.lemmas.Iterator.{YieldsList-from_slice}
use Rattle.std.proofs.lemmas.Iterator.Consumers.{fold_from_yields_List}
use Rattle.prelude.proofs.Bools.{and-true}
use Rattle.distances.proofs.level.Goals as goal

-- whether all are v, and a is true
abbrev each_is : ℕ → Bool → List ℕ → Bool
each_is v a xs = fold (λ a x. a && eqb x v) a xs

all-are : (v : ℕ) (a : Bool) (xs : List ℕ) → each_is v a xs ≡ true → (a ≡ true) × ((k : ℕ) → k < length xs → get_or xs k 0 ≡ v)
all-are v a [] e = (e, λ k h. absurd (omega arith))
all-are v a (x ∷ xs) e =
    let r = all-are v (a && eqb x v) xs e in
    let s = and-true a (eqb x v) r.0 in
    (s.0, at s.1 r.1)
  where
    at : eqb x v ≡ true → ((k : ℕ) → k < length xs → get_or xs k 0 ≡ v) → (k : ℕ) → k < length (x ∷ xs) → get_or (x ∷ xs) k 0 ≡ v
    at e r zero h = eqb-true x v e
    at e r (suc k) h = r k (omega arith)

pub returns : goal.returns
returns c =
    let d = c.args.d.now in
    let v = get_or d 0 0 in
    let e = fold_from_yields_List _ (λ (a : Bool) (x : ℕ). a && eqb x v) true c.fold.result c.fold.ensures.ran (YieldsList-from_slice d cc) (λ a x b q k. search (rules, tests)) in
    λ t. (all-are v true d (sym e ∙ t)).1
