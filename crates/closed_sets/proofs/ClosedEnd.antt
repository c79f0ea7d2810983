-- The tally at the end of a closed set: Euler's formula, and the groups by the rank.
use mathlib.Core.Path.{◌≡◌, refl, ap, sym, ◌∙◌}
use mathlib.Core.Bool.{Bool, true, false, not, cond, ◌&&◌}
use mathlib.Core.List.{List, [], ◌∷◌}
use Prim.Native.Nat.{ℕ, ◌+◌, ◌≤◌}
use native.Mathlib.Nat.{add-zero, add_assoc}
use native.Mathlib.Omega.{arith}
use lib.Dec.{eqb, leb}
use lib.ListN.{length}
use borrow.Author.Tests.{eqb-true, leb-true}
use Rattle.cells.specs.Groups.{cons_if, filter, gather, groups}
use Rattle.cells.specs.Cells.{joined, positions, group_count, bit, dimension, count_of}
use Rattle.closed_sets.specs.Rank.{rank}
use Rattle.prelude.proofs.Bools.{and-true}
use Rattle.prelude.proofs.Lists.{Mem}
use Rattle.closed_sets.proofs.Closed.{ClosedSet, walk, closed-fits}
use Rattle.closed_sets.proofs.ClosedTally.{Tally, noted, more, touch, spare, rank_noted, fits, nothing, all_fit}

noted_all : (ℕ → Bool) → List ℕ → List Bool → List Bool
noted_all t [] es = es
noted_all t (c ∷ cs) es = noted_all t cs (noted c (t c) es)

abbrev ended : List ℕ → List ℕ → List Bool → Tally → Tally
ended ts bs es s =
    record {
      touched_groups = gather joined ts s.touched_groups;
      bare_groups = gather joined bs s.bare_groups;
      edges_touched = es;
      corners = s.corners + count_of 0 ts;
      edges = s.edges + count_of 1 ts;
      faces = s.faces + count_of 2 ts;
    }

length-cons_if : (b : Bool) (c : ℕ) (cs : List ℕ) → bit b + length cs ≡ length (cons_if b c cs)
length-cons_if true c cs = omega arith
length-cons_if false c cs = omega arith

count_of-cons : (d c n : ℕ) (cs : List ℕ) → more d c n + count_of d cs ≡ n + count_of d (c ∷ cs)
unfolding count_of filter
count_of-cons d c n cs =
    add_assoc n (bit (eqb (dimension c) d)) (count_of d cs)
    ∙ ap (λ (x : ℕ). n + x) (length-cons_if (eqb (dimension c) d) c (filter (λ c. eqb (dimension c) d) cs))

ended-cons : (b : Bool) (c : ℕ) (ts bs : List ℕ) (es : List Bool) (s : Tally)
    → ended ts bs es (cond b (touch c s) (spare c s)) ≡ ended (cons_if b c ts) (cons_if (not b) c bs) es s
unfolding touch spare gather
ended-cons true c ts bs es s = λ i.
    record {
      touched_groups = gather joined (c ∷ ts) s.touched_groups;
      bare_groups = gather joined bs s.bare_groups;
      edges_touched = es;
      corners = count_of-cons 0 c s.corners ts i;
      edges = count_of-cons 1 c s.edges ts i;
      faces = count_of-cons 2 c s.faces ts i;
    }
ended-cons false c ts bs es s = refl

noted-next : (b : Bool) (c : ℕ) (s : Tally) → (cond b (touch c s) (spare c s)).edges_touched ≡ noted c b s.edges_touched
unfolding touch spare
noted-next true c s = refl
noted-next false c s = refl

count_of-nil : (d n : ℕ) → n ≡ n + count_of d []
unfolding count_of filter
count_of-nil d n = sym (add-zero n)

ended-nil : (s : Tally) → s ≡ ended [] [] s.edges_touched s
unfolding gather
ended-nil s = λ i.
    record {
      touched_groups = s.touched_groups;
      bare_groups = s.bare_groups;
      edges_touched = s.edges_touched;
      corners = count_of-nil 0 s.corners i;
      edges = count_of-nil 1 s.edges i;
      faces = count_of-nil 2 s.faces i;
    }

walk-ended : (t : ℕ → Bool) (cs : List ℕ) (s : Tally)
    → walk touch spare fits t cs s ≡ ended (filter t cs) (filter (λ c. not (t c)) cs) (noted_all t cs s.edges_touched) s
unfolding walk filter noted_all
walk-ended t [] s = ended-nil s
walk-ended t (c ∷ cs) s =
    let s' = cond (t c) (touch c s) (spare c s) in
    walk-ended t cs s'
    ∙ ap (λ (es : List Bool). ended (filter t cs) (filter (λ c. not (t c)) cs) (noted_all t cs es) s') (noted-next (t c) c s)
    ∙ ended-cons (t c) c (filter t cs) (filter (λ c. not (t c)) cs) (noted_all t cs (noted c (t c) s.edges_touched)) s

rank-noted : (t : ℕ → Bool) → rank_noted (noted_all t positions []) ≡ rank t
unfolding rank_noted noted_all rank dimension
rank-noted t = refl

-- what the end of a closed set fits
record Fits (s : Tally) : Type 0 where
  euler : length s.bare_groups + s.corners + s.faces ≡ length s.touched_groups + 1 + s.edges
  ranked : length s.touched_groups + rank_noted s.edges_touched ≡ s.corners
  touched-few : length s.touched_groups ≤ 8
  bare-few : length s.bare_groups ≤ 6

fits-parts : (s : Tally) → fits s ≡ true → Fits s
unfolding fits
fits-parts s h =
    let m = length s.bare_groups in
    let k = length s.touched_groups in
    let r = rank_noted s.edges_touched in
    let p = and-true (eqb (m + s.corners + s.faces) (k + 1 + s.edges)) (eqb (k + r) s.corners && (leb k 8 && leb m 6)) h in
    let q = and-true (eqb (k + r) s.corners) (leb k 8 && leb m 6) p.1 in
    let f = and-true (leb k 8) (leb m 6) q.1 in
    record {
      euler = eqb-true (m + s.corners + s.faces) (k + 1 + s.edges) p.0;
      ranked = eqb-true (k + r) s.corners q.0;
      touched-few = leb-true k 8 f.0;
      bare-few = leb-true m 6 f.1;
    }

-- ---- for every closed set

module _ (t : ℕ → Bool) (closed : ClosedSet t) where
  abbrev ins : List ℕ
  ins = filter t positions

  abbrev outs : List ℕ
  outs = filter (λ c. not (t c)) positions

  set-fits : fits (ended ins outs (noted_all t positions []) nothing) ≡ true
  set-fits =
      ap fits (sym (walk-ended t positions nothing))
      ∙ closed-fits touch spare fits t closed positions [] [] nothing (λ d m. none m) (λ d m. none m) all_fit
    where
      none : {A : Type 0} {d : ℕ} → Mem d [] → A
      none m = elim m [ ]

  end_fits : Fits (ended ins outs (noted_all t positions []) nothing)
  end_fits = fits-parts (ended ins outs (noted_all t positions []) nothing) set-fits

  pub closed-euler : group_count outs + count_of 0 ins + count_of 2 ins ≡ group_count ins + 1 + count_of 1 ins
  unfolding group_count groups
  closed-euler = omega (arith, end_fits.euler)

  pub closed-rank : group_count ins + rank t ≡ count_of 0 ins
  unfolding group_count groups
  closed-rank = omega (arith, end_fits.ranked, rank-noted t)

  pub closed-touched-few : group_count ins ≤ 8
  unfolding group_count groups
  closed-touched-few = end_fits.touched-few

  pub closed-bare-few : group_count outs ≤ 6
  unfolding group_count groups
  closed-bare-few = end_fits.bare-few
