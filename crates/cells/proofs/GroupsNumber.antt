-- The number of classes is one number.
use mathlib.Core.Path.{◌≡◌, refl, ap, sym, subst}
use mathlib.Core.Bool.{Bool}
use mathlib.Core.List.{List, [], ◌∷◌}
use Prim.Native.Nat.{ℕ, zero, suc, ◌≤◌, ◌<◌}
use native.Mathlib.Omega.{arith}
use native.Mathlib.Decide.{ℕ_discrete}
use lib.ListN.{length}
use Rattle.cells.specs.Linked.{Linked}
use Rattle.cells.specs.Classes.{Counted, Symmetric, CountedOnce}
use Rattle.prelude.proofs.Lists.{Mem, here, there}
use Rattle.cells.proofs.Chains.{append, reverse}
use Rattle.cells.proofs.Groups.{mem-none}
use Rattle.cells.proofs.GroupsSize.{Distinct, distinct-le}

-- the numbers below n
below : ℕ → List ℕ
below zero = []
below (suc n) = n ∷ below n

below_length : (n : ℕ) → length (below n) ≡ n
unfolding below
below_length zero = refl
below_length (suc n) = ap suc (below_length n)

mem_below : (n i : ℕ) → i < n → Mem i (below n)
unfolding below
mem_below zero i h = let z : ⊥ = omega arith in absurd z
mem_below (suc n) i h = go (ℕ_discrete i n) (λ k. mem_below n i k)
  where
    go : Dec (i ≡ n) → (i < n → Mem i (below n)) → Mem i (n ∷ below n)
    go (yes e) ih = subst (λ (j : ℕ). Mem j (n ∷ below n)) (sym e) here
    go (no e) ih = there (ih (omega arith))

module _ (member : ℕ → Bool) (joined : ℕ → ℕ → Bool) (turn : Symmetric joined) (m n : ℕ) (a : Counted member joined m) (b : Counted member joined n) where
  -- the classes, by b, of the first k that a picks
  record Chosen (k : ℕ) : Type 0 where
    list : List ℕ
    long : length list ≡ k
    distinct : Distinct list
    of : (j : ℕ) → Mem j list → (j < n) × ((i : ℕ) × (i < k) × (Linked member joined (a.pick i) (b.pick j)))

  chosen : (k : ℕ) → k ≤ m → Chosen k
  chosen zero h = record { list = []; long = refl; distinct = tt; of = λ j m. absurd (mem-none m) }
  chosen (suc k) h = more (chosen k (omega arith)) (b.reach (a.pick k) (a.picked k h))
    where
      more : Chosen k → (j : ℕ) × (j < n) × (Linked member joined (a.pick k) (b.pick j)) → Chosen (suc k)
      more c r =
          record {
            list = r.0 ∷ c.list;
            long = ap suc c.long;
            distinct = (
              λ o.
                  let p = (c.of r.0 o).1 in
                  let e = a.apart p.0 k (let l = p.1 in omega arith) h (append p.2 (reverse turn r.2)) in
                  omega (arith, p.1),
              c.distinct,
            );
            of = of';
          }
        where
          of' : (j : ℕ) → Mem j (r.0 ∷ c.list) → (j < n) × ((i : ℕ) × (i < suc k) × (Linked member joined (a.pick i) (b.pick j)))
          of' j here = (r.1, (k, omega arith, r.2))
          of' j (there o) = let p = c.of j o in (p.0, (p.1.0, (let l = p.1.1 in omega arith), p.1.2))

  counted-le : m ≤ n
  counted-le =
      let c = chosen m (omega arith) in
      omega (arith, c.long, below_length n, distinct-le c.list (below n) c.distinct (λ j o. mem_below n j (c.of j o).0))

pub counted-once : CountedOnce
counted-once member joined turn m n a b =
    let p = counted-le member joined turn m n a b in
    let q = counted-le member joined turn n m b a in
    omega arith
