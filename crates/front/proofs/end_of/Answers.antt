-- `front::end_of` meets its contract: the keys before the first 0.
use mathlib.Core.Path.{◌≡◌, sym, ap, ◌∙◌}
use mathlib.Core.Bool.{Bool, true, false, not}
use mathlib.Core.List.{List}
use Prim.Native.Nat.{ℕ, ◌+◌, ◌-◌, ◌≤◌, ◌<◌}
use native.Mathlib.Omega.{arith}
use native.Mathlib.Decide.{dec_le}
use borrow.Author.Rules.{rules, part_to_end}
use lib.Dec.{eqb}
use lib.ListN.{length, get_or, drop, take, length-drop}
use lib.Seq.{get_or-drop}
use Rattle.std.specs.List.{prefix_len}
use Rattle.std.proofs.Common.{tests}
use Rattle.std.proofs.lemmas.Bool.Decides.{nat_tests}
use Rattle.std.proofs.lemmas.Iterator.{YieldsList-from_slice}
use Rattle.std.proofs.lemmas.Iterator.Consumers.{count_from_yields_List}
use Rattle.std.proofs.lemmas.Iterator.Search.{YieldsList-from_take_while}
use Rattle.std.proofs.lemmas.List.Folds.{length-prefix_len}
use Rattle.std.proofs.lemmas.List.Sums.{prefix_len_passes, prefix_len_stops}
use Rattle.front.specs.Front.{Falling}
use Rattle.front.proofs.end_of.Goals as goal

abbrev some : ℕ → Bool
some x = not (eqb x 0)

some-true : (x : ℕ) → some x ≡ true → 0 < x
some-true x e = grind (arith, nat_tests)

some-false : (x : ℕ) → some x ≡ false → x ≡ 0
some-false x e = grind (arith, nat_tests)

module _ (front : List ℕ) (head : ℕ) (F : Falling front head) where
  abbrev count : ℕ
  count = prefix_len some (drop head front)

  before : (k : ℕ) → k < count → 0 < get_or front (head + k) 0
  before k l =
      some-true _ (ap some (sym (get_or-drop head front k 0)) ∙ prefix_len_passes some (drop head front) k 0 l)

  -- the 0 at the list's end is not passed
  high : head + count ≤ F.end
  high =
      elim (dec_le (head + count) F.end) [
        | yes l ↦ l
        | no l ↦
            let order = F.order in
            let e : head + (F.end - head) ≡ F.end = omega arith in
            let b : ⊥ = omega (arith, before (F.end - head) (omega arith), ap (λ (x : ℕ). get_or front x 0) e, F.ended) in
            absurd b
      ]

  inside : count < length (drop head front)
  inside = omega (arith, high, F.room, F.order, length-drop head front)

  end-of : (n : ℕ) → n ≡ count → (head ≤ head + n) × (head + n < length front) × (get_or front (head + n) 0 ≡ 0)
      × ((p : ℕ) → head ≤ p → p < head + n → 0 < get_or front p 0)
  end-of n q = (
    omega arith,
    omega (arith, high, F.room),
    ap (λ (x : ℕ). get_or front (head + x) 0) q
        ∙ some-false _ (ap some (sym (get_or-drop head front count 0)) ∙ prefix_len_stops some (drop head front) 0 inside),
    λ p l u.
        let e : head + (p - head) ≡ p = omega arith in
        omega (arith, before (p - head) (omega arith), ap (λ (x : ℕ). get_or front x 0) e),
  )

pub returns : goal.returns
returns c =
    let a = c.args in
    let xs = take (length a.front.now - a.head) (drop a.head a.front.now) in
    let e : c.count.result ≡ prefix_len some xs =
    count_from_yields_List c.take_while.result c.count.result c.count.ensures.ran
    (YieldsList-from_take_while _ some (YieldsList-from_slice xs cc) c.take_while.ensures.closure c.take_while.ensures.done
    (λ x b q k. search (rules, tests)))
    ∙ length-prefix_len some xs in
    end-of a.front.now a.head c.requires c.count.result (e ∙ ap (prefix_len some) (part_to_end a.front.now a.head))
