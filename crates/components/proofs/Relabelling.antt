-- The voxels that a stretch of the work list names, one after the other.
use mathlib.Core.Path.{◌≡◌, refl, sym, ap, ◌∙◌, subst}
use mathlib.Core.Logic.{⊎_elim}
use mathlib.Core.List.{List}
use Prim.Native.Nat.{ℕ, ◌+◌, ◌-◌, ◌≤◌, ◌<◌}
use native.Mathlib.Omega.{arith}
use native.Mathlib.Nat.{eq-or-lt_of_le}
use native.Mathlib.Decide.{ℕ_discrete}
use lib.IntN.{ℤ, pos}
use lib.ListN.{length, get_or, set, length-set}
use lib.Seq.{get_or-set_same, get_or-set_other}
use Rattle.std.specs.List.{between}
use Rattle.std.proofs.lemmas.List.Edits.{length-between, get_or-between}
use Rattle.rules.specs.Grid.{amount}
use Rattle.components.specs.Work.{Relabels}

module _ (work : List ℤ) (first : ℕ) (l : List ℕ) where
  pub relabels-none : Relabels work first first l l
  relabels-none = record { len = refl; named = λ k i h u. let z : ⊥ = omega arith in absurd z; others = λ i n. refl }

  pub relabels-more : (k v : ℕ) (l' : List ℕ) → first ≤ k → get_or work k (pos 0) ≡ pos v → v < length l → Relabels work first k l l'
      → Relabels work first (k + 1) l (set l' v 0)
  relabels-more k v l' f e h R =
      record {
        len = length-set l' v 0 ∙ R.len;
        named = λ j i g u q. ⊎_elim
            (λ s. subst (λ (x : ℕ). get_or (set l' v 0) x 0 ≡ 0)
            (ap amount (sym e ∙ ap (λ (x : ℕ). get_or work x (pos 0)) (sym s) ∙ q)) (get_or-set_same l' v 0 0 (omega (arith, R.len))))
            (λ s. go i (R.named j i g s q) (ℕ_discrete i v))
            (eq-or-lt_of_le (let t : j ≤ k = omega arith in t));
        others = λ i n.
            get_or-set_other l' v i 0 0 (λ z. n k f (omega arith) (e ∙ ap pos (sym z)))
            ∙ R.others i (λ j g u q. n j g (omega arith) q);
      }
    where
      go : (i : ℕ) → get_or l' i 0 ≡ 0 → Dec (i ≡ v) → get_or (set l' v 0) i 0 ≡ 0
      go i z (yes s) = subst (λ (x : ℕ). get_or (set l' v 0) x 0 ≡ 0) (sym s) (get_or-set_same l' v 0 0 (omega (arith, R.len)))
      go i z (no s) = get_or-set_other l' v i 0 0 s ∙ z

-- the entries from first up to end, as a list of their own
pub relabels-part : (work : List ℤ) (first end : ℕ) (l l' : List ℕ) → first ≤ end → end ≤ length work
    → (let part = between first end work in Relabels part 0 (length part) l l') → Relabels work first end l l'
relabels-part work first end l l' f e R =
    let long = length-between work first end e in
    record {
      len = R.len;
      named = λ k i g h q.
          R.named (k - first) i (omega arith) (omega arith)
          (get_or-between work first end (k - first) (pos 0) (omega arith)
          ∙ ap (λ (x : ℕ). get_or work x (pos 0)) (let s : first + (k - first) ≡ k = omega arith in s)
          ∙ q);
      others = λ i n.
          R.others i
          (λ k g h q. n (first + k) (omega arith) (omega arith) (sym (get_or-between work first end k (pos 0) (omega arith)) ∙ q));
    }
