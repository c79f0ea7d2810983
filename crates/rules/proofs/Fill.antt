-- The filled voxels: just those whose gap is enclosed; and what begin's checks see of the values as given holds of the filled ones too.
use mathlib.Core.Path.{◌≡◌, refl, ap, sym, ◌∙◌, subst}
use mathlib.Core.Logic.{inl, inr, ⊎_elim}
use mathlib.Core.Bool.{Bool, true, false, not, cond, ◌&&◌}
use mathlib.Core.List.{List, [], map}
use Prim.Native.Nat.{ℕ, ◌<◌}
use lib.Dec.{ltb}
use lib.IntN.{ℤ, negsuc}
use lib.ListN.{length, get_or}
use borrow.Author.Tests.{lt-ltb, ltb-true}
use Rattle.cells.specs.Groups.{any, filter, groups}
use Rattle.cells.specs.Linked.{stay, step}
use Rattle.prelude.proofs.Bools.{and-true, true-and, not-true, not-false, not-both, two}
use Rattle.prelude.proofs.Lists.{Mem, any-true, true-any, any_false, false-any, filter-mem, mem-filter}
use Rattle.prelude.proofs.Ranges.{get_d-map-range, length-map-range, is-map-range}
use Rattle.cells.proofs.Chains.{append, reverse, first_member, follow}
use Rattle.cells.proofs.Groups.{at_lt, group_of, group-member, group-linked, linked-group}
use Rattle.cells.proofs.GroupsAre.{mem-get_d, get_d-mem, groups-classes, groups-counted}
use Rattle.cells.proofs.GroupsSize.{distinct_filter, distinct-same, groups-distinct}
use Rattle.rules.specs.declared.Sides.{Sides}
use Rattle.rules.specs.Value.{is_missing, beyond, stray}
use Rattle.rules.specs.Grid.{size, voxels, on_border, share_face, missing, measured_negative, value_at, is_in}
use Rattle.rules.specs.Fill.{gaps, around, enclosed, enclosed_gaps, in_some, is_filled, filled_in, filled}
use Rattle.rules.specs.Meaning.{negative}
use Rattle.rules.specs.Gaps.{missing_at, InGap, GapsAreClasses, Enclosed, FilledIsEnclosed, FilledValues, OneRound}
use Rattle.rules.specs.Fit.{Beginnable}
use Rattle.rules.proofs.InsideLeast.{map-mem}
use Rattle.rules.proofs.Inside.{voxels-mem, mem-voxels, voxels-distinct, is_in-mem, mem-is_in}
use Rattle.rules.proofs.Fit.{none-stray}
use Rattle.rules.proofs.Topology.Removal.{face-turn}

-- ---- a missing voxel

module _ (s : Sides) (values : List ℤ) (i : ℕ) where
  pub missing-parts : missing_at s values i ≡ true → (i < size s) × (is_missing (value_at values i) ≡ true)
  missing-parts e =
      let r = and-true (ltb i (size s)) (is_missing (value_at values i)) e in
      (ltb-true i (size s) r.0, r.1)

  pub missing-from : i < size s → is_missing (value_at values i) ≡ true → missing_at s values i ≡ true
  missing-from h m = true-and (ltb i (size s)) (is_missing (value_at values i)) (lt-ltb i (size s) h) m

-- ---- a group of missing voxels is enclosed exactly if each of its voxels is

module _ (s : Sides) (values : List ℤ) where
  abbrev member : ℕ → Bool
  member = missing_at s values

  abbrev voids : List ℕ
  voids = filter (λ i. is_missing (value_at values i)) (voxels s)

  void-member : (i : ℕ) → Mem i voids → member i ≡ true
  void-member i m =
      let r = filter-mem (λ i. is_missing (value_at values i)) (voxels s) i m in
      missing-from s values i (voxels-mem s i r.0) r.1

  member-void : (i : ℕ) → member i ≡ true → Mem i voids
  member-void i e =
      let r = missing-parts s values i e in
      mem-filter (λ i. is_missing (value_at values i)) (voxels s) i (mem-voxels s i r.0) r.1

  abbrev all : List (List ℕ)
  all = groups (share_face s) voids

  module _ (k : ℕ) where
    abbrev gap : List ℕ
    gap = get_or all k []

    in-gap : (i j : ℕ) → Mem i gap → Mem j gap → InGap s values i j
    in-gap i j a b = group-linked (share_face s) (face-turn s) member voids void-member member-void k i j a b

    gap-whole : (i j : ℕ) → Mem i gap → InGap s values i j → Mem j gap
    gap-whole i j a l = linked-group (share_face s) (face-turn s) member voids void-member member-void k l a

    is-missing : (i : ℕ) → Mem i gap → member i ≡ true
    is-missing i a = group-member (share_face s) (face-turn s) member voids void-member member-void k i a

    -- a face neighbour of the gap that is not missing lies around it
    mem-around : (i j : ℕ) → Mem i gap → j < size s → share_face s i j ≡ true → is_missing (value_at values j) ≡ false → Mem j (around s gap)
    unfolding around
    mem-around i j a h f n =
        mem-filter (λ j. any (share_face s j) gap && not (is_in gap j)) (voxels s) j (mem-voxels s j h)
        (true-and (any (share_face s j) gap) (not (is_in gap j)) (true-any (share_face s j) gap i a (face-turn s i j f)) (ap not none))
      where
        none : is_in gap j ≡ false
        none =
            elim (two (is_in gap j)) [
              | inl e ↦ not-both (is_missing (value_at values j)) (missing-parts s values j (is-missing j (is_in-mem gap j e))).1 n
              | inr e ↦ e
            ]

    around-mem : (j : ℕ) → Mem j (around s gap) → (j < size s) × (is_in gap j ≡ false) × ((i : ℕ) × (Mem i gap) × (share_face s i j ≡ true))
    unfolding around
    around-mem j m =
        let r = filter-mem (λ j. any (share_face s j) gap && not (is_in gap j)) (voxels s) j m in
        let p = and-true (any (share_face s j) gap) (not (is_in gap j)) r.1 in
        let q = any-true (share_face s j) gap p.0 in
        (voxels-mem s j r.0, not-true (is_in gap j) p.1, (q.0, q.1, face-turn s j q.0 q.2))

    gap-enclosed : enclosed s values gap ≡ true → (i : ℕ) → Mem i gap → Enclosed s values i
    unfolding enclosed
    gap-enclosed e i a =
        let p = and-true (not (any (on_border s) gap)) (not (any (λ j. not (measured_negative (value_at values j))) (around s gap))) e in
        record {
          missing = is-missing i a;
          off-border = λ j l. any_false (on_border s) gap (not-true _ p.0) j (gap-whole i j a l);
          walled = λ j n l h f.
              elim (two (is_missing (value_at values n))) [
                | inl m ↦ inl m
                | inr m ↦
                    inr (not-false _
                    (any_false (λ j. not (measured_negative (value_at values j))) (around s gap) (not-true _ p.1) n
                    (mem-around j n (gap-whole i j a l) h f m)))
              ];
        }

    enclosed-gap : (i : ℕ) → Mem i gap → Enclosed s values i → enclosed s values gap ≡ true
    unfolding enclosed
    enclosed-gap i a E =
        true-and (not (any (on_border s) gap)) (not (any (λ j. not (measured_negative (value_at values j))) (around s gap)))
        (ap not (false-any (on_border s) gap (λ j b. E.off-border j (in-gap i j a b))))
        (ap not (false-any (λ j. not (measured_negative (value_at values j))) (around s gap) (λ j m. ap not (negative-around j (around-mem j m)))))
      where
        negative-around : (j : ℕ) → (j < size s) × (is_in gap j ≡ false) × ((n : ℕ) × (Mem n gap) × (share_face s n j ≡ true))
            → measured_negative (value_at values j) ≡ true
        negative-around j r =
            let n = r.2.0 in
            let l = in-gap i n a r.2.1 in
            elim (E.walled n j l r.0 r.2.2) [
              | inl m ↦
                  not-both (is_in gap j) (mem-is_in gap j (gap-whole i j a (step l r.2.2 (missing-from s values j r.0 m)))) r.1
              | inr m ↦ m
            ]

  -- ---- what is filled

  filled-enclosed : (i : ℕ) → is_filled s values i ≡ true → Enclosed s values i
  unfolding in_some enclosed_gaps gaps
  filled-enclosed i e =
      let r = any-true (λ g. is_in g i) (filter (enclosed s values) all) e in
      let f = filter-mem (enclosed s values) all r.0 r.1 in
      let k = mem-get_d [] r.0 all f.0 in
      gap-enclosed k.0 (ap (enclosed s values) k.2 ∙ f.1) i (subst (λ (g : List ℕ). Mem i g) (sym k.2) (is_in-mem r.0 i r.2))

  enclosed-filled : (i : ℕ) → Enclosed s values i → is_filled s values i ≡ true
  unfolding in_some enclosed_gaps gaps
  enclosed-filled i E =
      let k = group_of (share_face s) (face-turn s) member voids void-member member-void i E.missing in
      let g : List ℕ = get_or all k.0 [] in
      true-any (λ g. is_in g i) (filter (enclosed s values) all) g
      (mem-filter (enclosed s values) all g (get_d-mem [] all k.0 (at_lt all k.0 i k.1)) (enclosed-gap k.0 i k.1 E))
      (mem-is_in g i k.1)

pub gaps-are-classes : GapsAreClasses
unfolding gaps
gaps-are-classes s values = (
  groups-classes (share_face s) (face-turn s) (member s values) (voids s values) (void-member s values) (member-void s values),
  groups-counted (share_face s) (face-turn s) (member s values) (voids s values) (void-member s values) (member-void s values)
      (distinct-same (all s values)
      (groups-distinct (share_face s) (voids s values) (distinct_filter (λ i. is_missing (value_at values i)) (voxels s) (voxels-distinct s)))),
)

pub filled-is-enclosed : FilledIsEnclosed
filled-is-enclosed s values i = (filled-enclosed s values i, enclosed-filled s values i)

-- ---- the values that begin works on

module _ (s : Sides) (values : List ℤ) where
  pub length-filled : length (filled s values) ≡ size s
  unfolding filled filled_in voxels
  length-filled = length-map-range (λ i. cond (is_filled s values i) (negsuc 0) (value_at values i)) (size s)

  pub filled_at : (i : ℕ) → i < size s → value_at (filled s values) i ≡ cond (is_filled s values i) (negsuc 0) (value_at values i)
  unfolding filled filled_in voxels
  filled_at i h = get_d-map-range (λ i. cond (is_filled s values i) (negsuc 0) (value_at values i)) missing (size s) i h

  pub filled-lt : (i : ℕ) → is_filled s values i ≡ true → i < size s
  filled-lt i e = (missing-parts s values i (filled-enclosed s values i e).missing).0

  pub filled-one : (i : ℕ) → is_filled s values i ≡ true → value_at (filled s values) i ≡ negsuc 0
  filled-one i e = filled_at i (filled-lt i e) ∙ ap (λ (t : Bool). cond t (negsuc 0) (value_at values i)) e

  pub filled-other : (i : ℕ) → i < size s → is_filled s values i ≡ false → value_at (filled s values) i ≡ value_at values i
  filled-other i h e = filled_at i h ∙ ap (λ (t : Bool). cond t (negsuc 0) (value_at values i)) e

  -- where nothing is filled
  pub none_filled : length values ≡ size s → ((i : ℕ) → is_filled s values i ≡ false) → filled s values ≡ values
  unfolding filled filled_in voxels
  none_filled n none =
      sym (is-map-range (λ i. cond (is_filled s values i) (negsuc 0) (value_at values i)) missing (size s) values n
      (λ i h. sym (ap (λ (t : Bool). cond t (negsuc 0) (value_at values i)) (none i))))

pub filled-values : FilledValues
filled-values = record { at-filled = filled-one; elsewhere = filled-other }

-- ---- one round

module _ (s : Sides) (values : List ℤ) where
  -- what is missing after the fill was missing before, and was not filled
  still-missing : (i : ℕ) → missing_at s (filled s values) i ≡ true → (missing_at s values i ≡ true) × (is_filled s values i ≡ false)
  unfolding is_missing
  still-missing i e =
      let r = missing-parts s (filled s values) i e in
      elim (two (is_filled s values i)) [
        | inl f ↦ not-both (is_missing (negsuc 0)) (ap is_missing (sym (filled-one s values i f)) ∙ r.1) refl
        | inr f ↦ (missing-from s values i r.0 (ap is_missing (sym (filled-other s values i r.0 f)) ∙ r.1), f)
      ]

  open-missing : (i : ℕ) → is_filled s values i ≡ false → missing_at s values i ≡ true → missing_at s (filled s values) i ≡ true
  open-missing i f m =
      let r = missing-parts s values i m in
      missing-from s (filled s values) i r.0 (ap is_missing (filled-other s values i r.0 f) ∙ r.1)

  -- a gap is filled whole or not at all
  along : (i j : ℕ) → InGap s values i j → is_filled s values i ≡ false → is_filled s values j ≡ false
  along i j l f =
      elim (two (is_filled s values j)) [
        | inl e ↦
            let E = filled-enclosed s values j e in
            let back = reverse (face-turn s) l in
            not-both (is_filled s values i)
            (enclosed-filled s values i
            (record {
              missing = first_member l;
              off-border = λ k m. E.off-border k (append back m);
              walled = λ k n m. E.walled k n (append back m);
            })) f
        | inr e ↦ e
      ]

  -- one that is not filled stays as it is
  same_gap : (i j : ℕ) → is_filled s values i ≡ false → InGap s values i j → InGap s (filled s values) i j
  same_gap i j f l =
      (follow (λ z. (InGap s values i z) × (InGap s (filled s values) i z))
      (λ u v p k m. let a = step p.0 k m in (a, step p.1 k (open-missing v (along i v a f) m)))
      l (stay (first_member l), stay (open-missing i f (first_member l)))).1

  enclosed-before : (i : ℕ) → Enclosed s (filled s values) i → Enclosed s values i
  enclosed-before i E =
      let r = still-missing i E.missing in
      record {
        missing = r.0;
        off-border = λ j l. E.off-border j (same_gap i j r.1 l);
        walled = λ j n l h f. elim (two (is_filled s values n)) [
          | inl e ↦ inl (missing-parts s values n (filled-enclosed s values n e).missing).1
          | inr e ↦
              let same = filled-other s values n h e in
              ⊎_elim (λ m. inl (ap is_missing (sym same) ∙ m)) (λ m. inr (ap (λ (v : ℤ). measured_negative v) (sym same) ∙ m))
              (E.walled j n (same_gap i j r.1 l) h f)
        ];
      }

  none-again : (i : ℕ) → is_filled s (filled s values) i ≡ false
  none-again i =
      elim (two (is_filled s (filled s values) i)) [
        | inl e ↦
            let E = filled-enclosed s (filled s values) i e in
            not-both (is_filled s values i) (enclosed-filled s values i (enclosed-before i E)) (still-missing i E.missing).1
        | inr e ↦ e
      ]

pub one-round : OneRound
one-round s values = none_filled s (filled s values) (length-filled s values) (none-again s values)

-- ---- a grid that begin accepts, and its filled values

module _ (s : Sides) (values : List ℤ) (accepted : Beginnable s values) where
  filled-known : any stray (filled s values) ≡ false
  unfolding filled filled_in
  filled-known =
      false-any stray (map (λ i. cond (is_filled s values i) (negsuc 0) (value_at values i)) (voxels s))
      (λ v m. let r = map-mem (λ i. cond (is_filled s values i) (negsuc 0) (value_at values i)) (voxels s) v m in
      ap (λ (w : ℤ). stray w) r.2 ∙ go (value_at values r.0) (is_filled s values r.0) (none-stray values accepted.known r.0))
    where
      go : (v : ℤ) (t : Bool) → stray v ≡ false → stray (cond t (negsuc 0) v) ≡ false
      go v true e = unfold beyond is_missing in refl
      go v false e = e

  border-stays : (i : ℕ) → i < size s → on_border s i ≡ true → is_filled s values i ≡ false
  border-stays i h b =
      elim (two (is_filled s values i)) [
        | inl e ↦ let E = filled-enclosed s values i e in not-both (on_border s i) b (E.off-border i (stay E.missing))
        | inr e ↦ e
      ]

  negative-stays : (i : ℕ) → negative s values i ≡ true → negative s (filled s values) i ≡ true
  negative-stays i e =
      let r = and-true (ltb i (size s)) (measured_negative (value_at values i)) e in
      true-and (ltb i (size s)) (measured_negative (value_at (filled s values) i)) r.0
      (ap (λ (v : ℤ). measured_negative v) (filled_at s values i (ltb-true i (size s) r.0)) ∙ go (value_at values i) (is_filled s values i) r.1)
    where
      go : (v : ℤ) (t : Bool) → measured_negative v ≡ true → measured_negative (cond t (negsuc 0) v) ≡ true
      go v true f = unfold measured_negative is_missing in refl
      go v false f = f

  pub beginnable-filled : Beginnable s (filled s values)
  beginnable-filled =
      record {
        sides = accepted.sides;
        len = length-filled s values;
        known = filled-known;
        border = λ i h b. ap (λ (v : ℤ). measured_negative v) (filled-other s values i h (border-stays i h b)) ∙ accepted.border i h b;
        some = accepted.some;
        some-negative = negative-stays accepted.some accepted.some-negative;
      }
