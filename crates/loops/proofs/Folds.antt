-- A fold over what an iterator yields: what holds at the first value, and is kept by each call, holds in the end.
use mathlib.Core.Path.{◌≡◌}
use mathlib.Core.List.{List, [], ◌∷◌, ◌++◌}
use denote.Param.Members.{Mut}
use Rattle.std.specs.Prelude.{Option}
use Rattle.std.specs.Fn.{Called}
use Rattle.std.specs.Iterator.{Drains}
use Rattle.std.specs.List.{FoldsTo}
use Rattle.std.proofs.lemmas.Fn.{fold_over}
use Rattle.std.proofs.lemmas.Iterator.{YieldsList}

pub fold-keeps :
    {S A B C F : Type 0} {steps : S → Option A → S → Type 0} {v : A → B} {s : S} {all : List B}
    (g : Mut F (C × (A × Unit {0})) C) {f : F} (J : List B → C → Type 0) (init r : C)
    → ((xs : List A) × (q : F) × Drains steps s xs × FoldsTo {P = F × C} (λ a x b. Called g a.0 (a.1, (x, tt)) b.1 b.0) (f, init) xs (q, r))
    → YieldsList steps v s all
    → J [] init
    → ((ys : List B) (a : C) (x : A) (b : C) (q : F) → J ys a → Called g f (a, (x, tt)) b q → J (ys ++ (v x ∷ [])) b × (q ≡ f))
    → J all r
fold-keeps {steps = steps} {v = v} {s = s} {all = all} g {f = f} J init r ran Y none step = fold_over steps v g J f step s all init r Y.runs none ran
