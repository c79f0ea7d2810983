-- From the labels to S.
use mathlib.Core.Path.{◌≡◌, refl, sym, ap, ◌∙◌, subst}
use mathlib.Core.Logic.{◌⊎◌, inl, inr, ⊎_elim}
use mathlib.Core.Bool.{Bool, true, false, cond, ◌&&◌}
use mathlib.Core.List.{List, map}
use Prim.Native.Nat.{ℕ, ◌+◌, ◌*◌, ◌<◌}
use native.Mathlib.Omega.{arith}
use native.Mathlib.Nat.{mul-le-mul}
use lib.Dec.{eqb, ltb}
use lib.IntN.{ℤ, pos}
use lib.ListN.{length, get_or, get_or-eq_default, replicate}
use Rattle.std.specs.List.{between}
use Rattle.std.proofs.lemmas.List.{length-replicate, get_or-replicate}
use Rattle.std.proofs.lemmas.List.Edits.{length-between, get_or-between}
use borrow.Author.Tests.{eq-eqb, lt-ltb, le-ltb}
use Rattle.cells.specs.Linked.{Linked}
use Rattle.cells.specs.Groups.{filter}
use Rattle.prelude.proofs.Bools.{two, not-both, and-true}
use Rattle.cells.proofs.Chains.{carry}
use Rattle.rules.specs.declared.Sides.{Sides}
use Rattle.rules.specs.Grid.{range, size, voxel, voxels, on_border, touch, measured_negative, value_at, amount}
use Rattle.rules.specs.Begin.{is_in, inside}
use Rattle.rules.specs.Meaning.{negative, GroupOf, found}
use Rattle.rules.specs.Fit.{Beginnable}
use Rattle.rules.proofs.Places.{Fit, fit}
use Rattle.prelude.proofs.Ranges.{get_d-map-range, length-map-range}
use Rattle.rules.proofs.Inside.{negative-lt, touch-back, found-is-inside}
use Rattle.values.specs.Values.{labels_of}
use Rattle.loops.proofs.Orders.{split}
use Rattle.rules.proofs.Topology.Around.{Inner}
use Rattle.rules.proofs.Topology.Start.{border-inner}
use Rattle.pushing.specs.Push.{labelled}
use Rattle.floods.specs.Flood.{near_by}
use Rattle.floods.proofs.Positions.{corner, near-in}
use Rattle.components.specs.Search.{touching, Component, size_of, Searchable, Longest}
use Rattle.components.specs.Work.{Relabelled, Relabels, Found}
use Rattle.components.proofs.Relabelling.{relabels-part}
use Rattle.components.proofs.Touched.{few, near-is}

module _ (s : Sides) (values : List ℤ) (A : Beginnable s values) where
  F : Fit s
  F = fit s A.sides

  abbrev ab : ℕ
  ab = s.a * s.b

  abbrev back : ℕ
  back = 1 + s.a + ab

  abbrev near_by_lem : ℕ → ℕ → Bool
  near_by_lem = near_by (touching s.a ab) back

  inner : (k : ℕ) → negative s values k ≡ true → Inner s (voxel s k)
  inner k y =
      let h = negative-lt s values k y in
      let m = (and-true (ltb k (size s)) (measured_negative (value_at values k)) y).1 in
      border-inner s k h
      (elim (two (on_border s k)) [ inl e ↦ not-both (measured_negative (value_at values k)) m (A.border k h e) | inr e ↦ e ])

  labels_at : (k : ℕ) → get_or (labels_of values) k 0 ≡ cond (negative s values k) 1 0
  unfolding labels_of
  labels_at k =
      let one : ℕ → ℕ = λ k. cond (measured_negative (value_at values k)) 1 0 in
      let n = A.len in
      ⊎_elim
      (λ h.
      get_or-eq_default (map one (range 0 (length values))) 0 {n = k} (let e = length-map-range one (length values) in omega arith)
      ∙ ap (λ (t : Bool). cond {A = ℕ} (t && measured_negative (value_at values k)) 1 0) (sym (le-ltb k (size s) h)))
      (λ h.
      get_d-map-range one 0 (length values) k (omega arith)
      ∙ ap (λ (t : Bool). cond {A = ℕ} (t && measured_negative (value_at values k)) 1 0) (sym (lt-ltb k (size s) h)))
      (split (size s) k)

  module _ (l : List ℕ) (e : l ≡ labels_of values) where
    at : (k : ℕ) → get_or l k 0 ≡ cond (negative s values k) 1 0
    at k = ap (λ (m : List ℕ). get_or m k 0) e ∙ labels_at k

    len : length l ≡ size s
    unfolding labels_of
    len = ap length e ∙ length-map-range (λ k. cond (measured_negative (value_at values k)) 1 0) (length values) ∙ A.len

    -- just the measured negative voxels are labelled 1
    member_is : (k : ℕ) → labelled 1 l k ≡ negative s values k
    member_is k = ap (λ (x : ℕ). eqb x 1) (at k) ∙ go (negative s values k)
      where
        go : (t : Bool) → eqb (cond t 1 0) 1 ≡ t
        go true = refl
        go false = refl

    one-negative : (k : ℕ) → get_or l k 0 ≡ 1 → negative s values k ≡ true
    one-negative k q = sym (member_is k) ∙ eq-eqb (get_or l k 0) 1 q

    touch_is : (u v : ℕ) → negative s values u ≡ true → near_by_lem u v ≡ touch s u v
    touch_is u v y = near-is s F u (inner u y) v

    pub searchable : (room : ℕ) → room ≡ size s → Searchable (touching s.a ab) back l room
    unfolding size
    searchable room r =
        let most = mul-le-mul (mul-le-mul F.a-high F.b-high) F.c-high in
        record {
          same = r ∙ sym len;
          small = omega (arith, len);
          two = λ k. go (negative s values k) (at k);
          low = λ v q. omega (arith, corner s F v (inner v (one-negative v q)));
          high = λ v j q h. omega (arith, near-in s F v (inner v (one-negative v q)) (range 0 27) j few h, len);
          turn = λ u v p q t.
              touch_is v u (one-negative v q) ∙ touch-back s u v (sym (touch_is u v (one-negative u p)) ∙ t);
          some = A.some;
          some_is = at A.some ∙ ap (λ (t : Bool). cond {A = ℕ} t 1 0) A.some-negative;
        }
      where
        go : {x : ℕ} (t : Bool) → x ≡ cond t 1 0 → (x ≡ 0) ⊎ (x ≡ 1)
        go true q = inr q
        go false q = inl q

    -- chains by offsets and chains of touching
    by-touch : {u v : ℕ} → Linked (labelled 1 l) near_by_lem u v → Linked (negative s values) (touch s) u v
    by-touch c =
        carry (λ u. u) (λ u m. sym (member_is u) ∙ m) (λ u v m k j. sym (touch_is u v (sym (member_is u) ∙ m)) ∙ j) c

    by-offsets : {u v : ℕ} → Linked (negative s values) (touch s) u v → Linked (labelled 1 l) near_by_lem u v
    by-offsets c = carry (λ u. u) (λ u m. member_is u ∙ m) (λ u v m k j. touch_is u v m ∙ j) c

    group_of : (v : ℕ) (test : ℕ → Bool) → Component (length l) (labelled 1 l) near_by_lem v test → GroupOf s values v test
    group_of v test C =
        record { linked = λ i h q. by-touch (C.linked i (omega (arith, len)) q); whole = λ i c. C.whole i (by-offsets c) }

    component-of : (v : ℕ) (test : ℕ → Bool) → GroupOf s values v test → Component (length l) (labelled 1 l) near_by_lem v test
    component-of v test G =
        record { linked = λ i h q. by-offsets (G.linked i (omega (arith, len)) q); whole = λ i c. G.whole i (by-touch c) }

    size_is : (test : ℕ → Bool) → size_of (length l) test ≡ found s test
    unfolding voxels
    size_is test = ap (λ (n : ℕ). length (filter test (range 0 n))) len

    module _ (work : List ℤ) (first end : ℕ) (W : Longest near_by_lem l work first end) where
      inside_is : (k : ℕ) → k < size s → is_in (inside s values) k ≡ W.test k
      inside_is =
          let M = W.largest in
          found-is-inside s values W.test
          (
          record {
            seed = M.seed;
            seeded = sym (member_is M.seed) ∙ M.seeded;
            group = group_of M.seed W.test M.component;
            smallest = λ i h q. M.smallest i (omega (arith, len)) q;
            largest = λ v other y g.
                omega (arith, M.largest v other (member_is v ∙ y) (component-of v other g), size_is other, size_is W.test);
            first = λ v other y g h.
                omega (arith, M.first v other (member_is v ∙ y) (component-of v other g) h, size_is other, size_is W.test);
          }
          )

      pub relabelled : (n : ℕ) → n ≡ size s → let part = between first end work in Relabelled part 0 (length part) n
      relabelled n e =
          let long = length-between work first end W.upto in
          record {
            order = omega arith;
            upto = omega arith;
            entries = λ k h u.
                let w = W.lists.listed (first + k) (omega arith) (omega arith) in
                (w.0, get_or-between work first end k (pos 0) (omega arith) ∙ w.1, omega (arith, W.within w.0 w.2, len));
          }

      -- S is what the stretch names
      pub relabels-found : (far n : ℕ) (l₂ l₃ : List ℕ) → n ≡ size s → l₂ ≡ replicate n far
          → (let part = between first end work in Relabels part 0 (length part) l₂ l₃)
          → Found s (inside s values) far l₃
      relabels-found far n l₂ l₃ m fars P =
          record {
            len = R.len ∙ ap length fars ∙ length-replicate n far ∙ m;
            is = λ k h. named k h (W.test k) refl ∙ sym (ap (λ (t : Bool). cond {A = ℕ} t 0 far) (inside_is k h));
          }
        where
          R : Relabels work first end l₂ l₃
          R = relabels-part work first end l₂ l₃ W.order W.upto P

          named : (k : ℕ) → k < size s → (t : Bool) → W.test k ≡ t → get_or l₃ k 0 ≡ cond (W.test k) 0 far
          named k h true q =
              let w = W.lists.whole k q in
              R.named w.0 k w.1 w.2 w.3 ∙ sym (ap (λ (t : Bool). cond {A = ℕ} t 0 far) q)
          named k h false q =
              R.others k
              (λ j a b c.
              let w = W.lists.listed j a b in
              not-both (W.test k) (subst (λ (x : ℕ). W.test x ≡ true) (ap amount (sym w.1 ∙ c)) w.2) q)
              ∙ ap (λ (l : List ℕ). get_or l k 0) fars
              ∙ get_or-replicate n k far 0 (omega arith)
              ∙ sym (ap (λ (t : Bool). cond {A = ℕ} t 0 far) q)
