-- A search of a part of a list, as a search of the whole.
use mathlib.Core.Path.{◌≡◌, sym, ap, subst, ◌∙◌}
use mathlib.Core.Bool.{false}
use mathlib.Core.Logic.{◌≢◌}
use mathlib.Core.List.{List}
use Prim.Native.Nat.{ℕ, ◌+◌, ◌-◌, ◌≤◌, ◌<◌}
use native.Mathlib.Omega.{arith}
use borrow.Author.Tests.{eqb-false}
use lib.Dec.{eqb}
use lib.ListN.{length, get_or, take, drop}
use Rattle.std.specs.List.{AllWithin, HoldsAt, between}
use Rattle.std.specs.Prelude.{Option, None, Some, MatchOption}
use Rattle.std.specs.Option.{option_map}
use Rattle.std.proofs.lemmas.List.Edits.{get_or-between, length-between}
use Rattle.cells.specs.Groups.{any}
use Rattle.prelude.proofs.Lists.{any_false}
use Rattle.prelude.proofs.Ranges.{mem-range}
use Rattle.rules.specs.Grid.{range}
use Rattle.loops.specs.Searches.{Absent, Passed, First, Last}
use Rattle.loops.proofs.Orders.{absent-join}
use Rattle.loops.proofs.Spans.{any-span}

-- v is not in the part from first up to end
pub absent-span : (l : List ℕ) (v first end : ℕ) → first ≤ end → end ≤ length l → any (λ b. eqb b v) (take (end - first) (drop first l)) ≡ false → Absent l v first end
absent-span l v first end h w e k low high =
    let none : any (λ i. eqb (get_or l i 0) v) (range first (end - first)) ≡ false =
    sym (any-span (λ b. eqb b v) 0 l first (end - first) (omega arith)) ∙ e in
    eqb-false (get_or l k 0) v (any_false (λ i. eqb (get_or l i 0) v) (range first (end - first)) none k (mem-range first (end - first) k low (omega arith)))

-- in xs v stands first at r, and last at r; or nowhere
abbrev pub FirstIn : List ℕ → ℕ → Option ℕ → Type 0
FirstIn xs v r =
    MatchOption r (AllWithin (λ b. b ≢ v) xs 0 (length xs))
    (λ i. (i < length xs) × HoldsAt (λ b. b ≡ v) xs i × AllWithin (λ b. b ≢ v) xs 0 i)

abbrev pub LastIn : List ℕ → ℕ → Option ℕ → Type 0
LastIn xs v r =
    MatchOption r (AllWithin (λ b. b ≢ v) xs 0 (length xs))
    (λ i. (i < length xs) × HoldsAt (λ b. b ≡ v) xs i × AllWithin (λ b. b ≢ v) xs (i + 1) (length xs))

module _ (l : List ℕ) (v first end : ℕ) (h : first ≤ end) (w : end ≤ length l) where
  abbrev part : List ℕ
  part = between first end l

  long : length part ≡ end - first
  long = length-between l first end w

  at : (k : ℕ) → first ≤ k → k < end → get_or part (k - first) 0 ≡ get_or l k 0
  at k low high =
      let e : first + (k - first) ≡ k = omega arith in
      get_or-between l first end (k - first) 0 (omega arith) ∙ ap (λ (j : ℕ). get_or l j 0) e

  -- none of the part is none of the whole there
  absent : (low high : ℕ) → AllWithin (λ b. b ≢ v) part low high → first + high ≤ end → Absent l v (first + low) (first + high)
  absent low high none inside k f g e =
      none (k - first) 0 (omega arith) (omega arith) (at k (omega arith) (omega arith) ∙ e)

  pub first_found : (start : ℕ) (r m : Option ℕ) → FirstIn part v r → m ≡ option_map (λ i. first + i) r → Passed l v start end first
      → MatchOption m (Absent l v start end) (λ i. First l v start end i)
  first_found start None m F e P =
      let a : Absent l v (first + 0) (first + (end - first)) = absent 0 (end - first) (subst (λ (n : ℕ). AllWithin (λ b. b ≢ v) part 0 n) long F) (omega arith) in
      let g : Absent l v first end = λ k f g x. a k (omega arith) (omega arith) x in
      subst (λ (o : Option ℕ). MatchOption o (Absent l v start end) (λ i. First l v start end i)) (sym e) (absent-join l first P.none_before g)
  first_found start (Some i) m F e P =
      let a : Absent l v (first + 0) (first + i) = absent 0 i F.2 (omega (arith, long, F.0)) in
      let g : Absent l v first (first + i) = λ k f g x. a k (omega arith) g x in
      subst (λ (o : Option ℕ). MatchOption o (Absent l v start end) (λ i. First l v start end i)) (sym e)
      (record {
        low = omega (arith, P.low);
        high = omega (arith, long, F.0);
        none_before = absent-join l first P.none_before g;
        found = sym (get_or-between l first end i 0 (omega (arith, long, F.0))) ∙ F.1 0;
      })

  pub last_found : (r m : Option ℕ) → LastIn part v r → m ≡ option_map (λ i. first + i) r
      → MatchOption m (Absent l v first end) (λ i. Last l v first end i)
  last_found None m F e =
      let a : Absent l v (first + 0) (first + (end - first)) = absent 0 (end - first) (subst (λ (n : ℕ). AllWithin (λ b. b ≢ v) part 0 n) long F) (omega arith) in
      let g : Absent l v first end = λ k f g x. a k (omega arith) (omega arith) x in
      subst (λ (o : Option ℕ). MatchOption o (Absent l v first end) (λ i. Last l v first end i)) (sym e) g
  last_found (Some i) m F e =
      let a : Absent l v (first + (i + 1)) (first + (end - first)) =
      absent (i + 1) (end - first) (subst (λ (n : ℕ). AllWithin (λ b. b ≢ v) part (i + 1) n) long F.2) (omega arith) in
      subst (λ (o : Option ℕ). MatchOption o (Absent l v first end) (λ i. Last l v first end i)) (sym e)
      (record {
        low = omega arith;
        high = omega (arith, long, F.0);
        none_after = λ k f g x. a k (omega arith) (omega arith) x;
        found = sym (get_or-between l first end i 0 (omega (arith, long, F.0))) ∙ F.1 0;
      })
