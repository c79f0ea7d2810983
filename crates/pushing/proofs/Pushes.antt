-- Laws of a push.
use mathlib.Core.Path.{◌≡◌, refl, sym, ap, ◌∙◌, subst}
use mathlib.Core.Logic.{⊎_elim}
use mathlib.Core.List.{List, [], ◌∷◌, ◌++◌}
use Prim.Native.Nat.{ℕ, zero, suc, ◌<◌}
use native.Mathlib.Omega.{arith}
use lib.Dec.{eqb}
use lib.ListN.{length, get_or, length-set}
use lib.IntN.{pos}
use borrow.Author.Tests.{eq-eqb, ne_eqb, eqb-true, eqb-false}
use Rattle.prelude.proofs.Bools.{two}
use Rattle.prelude.proofs.Lists.{Mem, here, there}
use Rattle.pushing.specs.Push.{Fill, pushed, push, push_all, untaken, Ready}
use Rattle.pushing.proofs.Counting.{count_set}

pub push-yes : (j : ℕ) (f : Fill) → get_or f.labels j 0 ≡ 1 → push j f ≡ pushed j f
unfolding push
push-yes j f e = rw (eq-eqb _ _ e)

pub push-no : (j : ℕ) (f : Fill) → (get_or f.labels j 0 ≡ 1 → ⊥) → push j f ≡ f
unfolding push
push-no j f e = rw (ne_eqb _ _ e)

-- a voxel that has a label is one of the list
pub label-lt : (l : List ℕ) (j : ℕ) → get_or l j 0 ≡ 1 → j < length l
label-lt [] j e = let z : ⊥ = omega arith in absurd z
label-lt (x ∷ l) zero e = omega arith
label-lt (x ∷ l) (suc j) e = let k = label-lt l j e in omega arith

pub pushed-count : (j : ℕ) (f : Fill) → get_or f.labels j 0 ≡ 1 → untaken f.labels ≡ suc (untaken (pushed j f).labels)
pushed-count j f e = count_set j f.labels (label-lt f.labels j e) e

-- there is room for one more
pub has_room : (j : ℕ) (f : Fill) → Ready f → get_or f.labels j 0 ≡ 1 → f.end < length f.work
has_room j f r e = omega (arith, pushed-count j f e, r.room)

pub pushed_ready : (j : ℕ) (f : Fill) → Ready f → get_or f.labels j 0 ≡ 1 → Ready (pushed j f)
pushed_ready j f r e =
    let a = length-set f.labels j 2 in
    let b = length-set f.work f.end (pos j) in
    record { same = omega (arith, r.same); room = omega (arith, pushed-count j f e, r.room); small = omega (arith, r.small) }

-- a property that a push of an untaken voxel keeps, every push keeps
push-keeps : (P : Fill → Type 0) (j : ℕ) (f : Fill) → P f → (get_or f.labels j 0 ≡ 1 → P (pushed j f)) → P (push j f)
push-keeps P j f p h =
    ⊎_elim
    (λ e. let q = eqb-true (get_or f.labels j 0) 1 e in subst P (sym (push-yes j f q)) (h q))
    (λ e. subst P (sym (push-no j f (eqb-false (get_or f.labels j 0) 1 e))) p)
    (two (eqb (get_or f.labels j 0) 1))

push-ready : (j : ℕ) (f : Fill) → Ready f → Ready (push j f)
push-ready j f r = push-keeps Ready j f r (pushed_ready j f r)

push-length : (j : ℕ) (f : Fill) → length (push j f).labels ≡ length f.labels
push-length j f = push-keeps (λ g. length g.labels ≡ length f.labels) j f refl (λ e. length-set f.labels j 2)

-- ---- several pushes

pub all-ready : (js : List ℕ) (f : Fill) → Ready f → Ready (push_all js f)
unfolding push_all
all-ready [] f r = r
all-ready (j ∷ js) f r = all-ready js (push j f) (push-ready j f r)

pub all-length : (js : List ℕ) (f : Fill) → length (push_all js f).labels ≡ length f.labels
unfolding push_all
all-length [] f = refl
all-length (j ∷ js) f = all-length js (push j f) ∙ push-length j f

pub all_append : (js ks : List ℕ) (f : Fill) → push_all (js ++ ks) f ≡ push_all ks (push_all js f)
unfolding push_all
all_append [] ks f = refl
all_append (j ∷ js) ks f = all_append js ks (push j f)

-- none of them is untaken
pub all_none : (js : List ℕ) (f : Fill) → ((j : ℕ) → Mem j js → get_or f.labels j 0 ≡ 1 → ⊥) → push_all js f ≡ f
unfolding push_all
all_none [] f none = refl
all_none (j ∷ js) f none = ap (push_all js) (push-no j f (none j here)) ∙ all_none js f (λ k m. none k (there m))
