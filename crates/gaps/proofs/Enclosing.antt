-- What no flood took of the missing voxels is enclosed, and so is filled; and nothing else is.
use mathlib.Core.Path.{◌≡◌, refl, sym, ap, ◌∙◌, subst}
use mathlib.Core.Logic.{◌⊎◌, inl, inr, ⊎_elim}
use mathlib.Core.Bool.{Bool, true, false, cond}
use mathlib.Core.List.{List}
use Prim.Native.Nat.{ℕ, ◌+◌, ◌-◌, ◌*◌, ◌<◌}
use native.Mathlib.Omega.{arith}
use native.Mathlib.Nat.{mul-le-mul}
use lib.Dec.{eqb}
use lib.IntN.{ℤ, negsuc}
use lib.ListN.{length, get_or}
use borrow.Author.Tests.{eq-eqb, eqb-true}
use Rattle.cells.specs.Linked.{Linked, stay, step}
use Rattle.cells.proofs.Chains.{first_member, last-member, reverse, follow, carry}
use Rattle.prelude.proofs.Bools.{two, not-both}
use Rattle.prelude.proofs.Lists.{Mem, any-true, true-any}
use Rattle.prelude.proofs.Ranges.{is-map-range}
use Rattle.rules.specs.declared.Sides.{Sides}
use Rattle.rules.specs.Value.{is_missing}
use Rattle.rules.specs.Grid.{size, voxel, on_border, share_face, measured_negative, value_at, face_positions}
use Rattle.rules.specs.Fill.{is_filled, filled}
use Rattle.rules.specs.Gaps.{missing_at, InGap, Enclosed}
use Rattle.rules.specs.Fit.{Beginnable}
use Rattle.rules.proofs.Places.{Fit, fit}
use Rattle.rules.proofs.InsideLeast.{mem-map, map-mem}
use Rattle.rules.proofs.Neighbours.{face-at-position, position-face}
use Rattle.rules.proofs.Fill.{missing-parts, missing-from, filled-is-enclosed, filled_at, length-filled}
use Rattle.rules.proofs.Topology.Around.{Inner}
use Rattle.rules.proofs.Topology.Removal.{face-turn, face-taxicab}
use Rattle.rules.proofs.Topology.Start.{border-inner}
use Rattle.loops.specs.InPlace.{Each}
use Rattle.values.specs.Values.{labels_of}
use Rattle.values.proofs.Measuring.{negative-measured}
use Rattle.pushing.specs.Push.{labelled}
use Rattle.pushing.proofs.Pushes.{label-lt}
use Rattle.floods.specs.Flood.{offset_of, near_by, Taken}
use Rattle.floods.proofs.Positions.{corner, offset-in, at_offset, offset_at, near-position, position-near, near-in}
use Rattle.labels.specs.Labels.{kind_of, Marked, settled_of}
use Rattle.labels.proofs.Marking.{Kind, negative, missing, other, kind-is}
use Rattle.gaps.specs.Gaps.{faces, opens, Reached, GapsToFlood, OpenGapsFlooded}

few : (p : ℕ) → Mem p face_positions → p < 27
few p m = (face-taxicab p m).1

module _ (s : Sides) (values : List ℤ) (A : Beginnable s values) (L : List ℕ) (M : Marked s values L) where
  F : Fit s
  F = fit s A.sides

  abbrev ab : ℕ
  ab = s.a * s.b

  abbrev back : ℕ
  back = 1 + s.a + ab

  abbrev near : ℕ → ℕ → Bool
  near = near_by (faces s.a ab) back

  -- ---- what a label says

  -- the four kinds of voxel
  data Said (k : ℕ) : ℕ → Type 0 where
    rim : on_border s k ≡ true → Said k 3
    inner : {n : ℕ} → on_border s k ≡ false → Kind (value_at values k) n → Said k n

  said : (k : ℕ) → k < size s → Said k (get_or L k 0)
  said k h = subst (Said k) (sym (M.is k h)) (go (on_border s k) refl)
    where
      go : (t : Bool) → on_border s k ≡ t → Said k (cond t 3 (kind_of (value_at values k)))
      go true e = rim e
      go false e = inner e (kind-is (value_at values k))

  record Gap (k : ℕ) : Type 0 where
    below : k < size s
    off : on_border s k ≡ false
    absent : is_missing (value_at values k) ≡ true

  gap_is : (k : ℕ) → get_or L k 0 ≡ 1 → Gap k
  gap_is k e = let h : k < size s = omega (arith, label-lt L k e, M.len) in go h (get_or L k 0) e (said k h)
    where
      go : k < size s → (x : ℕ) → x ≡ 1 → Said k x → Gap k
      go h x q (rim b) = let z : ⊥ = omega arith in absurd z
      go h x q (inner b (negative m)) = let z : ⊥ = omega arith in absurd z
      go h x q (inner b (missing m)) = record { below = h; off = b; absent = m }
      go h x q (inner b (other m n)) = let z : ⊥ = omega arith in absurd z

  gap-one : (k : ℕ) → k < size s → on_border s k ≡ false → is_missing (value_at values k) ≡ true → get_or L k 0 ≡ 1
  gap-one k h b m = go (get_or L k 0) (said k h)
    where
      go : (x : ℕ) → Said k x → x ≡ 1
      go x (rim c) = not-both (on_border s k) c b
      go x (inner c (negative n)) = not-both (is_missing (value_at values k)) m (negative-measured (value_at values k) n)
      go x (inner c (missing n)) = refl
      go x (inner c (other n o)) = not-both (is_missing (value_at values k)) m o

  -- ---- the face neighbours of a voxel of a gap are those at the offsets

  inner-gap : (k : ℕ) → get_or L k 0 ≡ 1 → Inner s (voxel s k)
  inner-gap k e = let g = gap_is k e in border-inner s k g.below g.off

  near-face : (u v : ℕ) → get_or L u 0 ≡ 1 → near u v ≡ true → share_face s u v ≡ true
  near-face u v e n = let q = near-position s F u (inner-gap u e) face_positions v few n in position-face s u v q.0 q.1 q.2

  face-near : (u v : ℕ) → get_or L u 0 ≡ 1 → share_face s u v ≡ true → near u v ≡ true
  face-near u v e f = let q = face-at-position s u v f in position-near s F u (inner-gap u e) face_positions v q.0 q.1 q.2

  pub gaps-to-flood : (room : ℕ) → room ≡ size s → GapsToFlood (faces s.a ab) back L room
  unfolding size
  gaps-to-flood room r =
      let most = mul-le-mul (mul-le-mul F.a-high F.b-high) F.c-high in
      record {
        same = r ∙ sym M.len;
        small = omega (arith, M.len);
        low = λ v e. omega (arith, corner s F v (inner-gap v e));
        high = λ v j e n. omega (arith, near-in s F v (inner-gap v e) face_positions j few n, M.len);
      }

  -- the gap is open beside u exactly if a face neighbour of u has the label 3
  open-face : (u v : ℕ) → get_or L u 0 ≡ 1 → share_face s u v ≡ true → get_or L v 0 ≡ 3 → opens (faces s.a ab) (u - back) L ≡ true
  unfolding opens
  open-face u v e f t =
      let q = face-at-position s u v f in
      true-any (λ o. eqb (get_or L (u - back + o) 0) 3) (faces s.a ab) (offset_of s.a ab q.0)
      (mem-map (offset_of s.a ab) face_positions q.0 q.1)
      (eq-eqb _ 3 (ap (λ (x : ℕ). get_or L x 0) (sym (at_offset s F u (inner-gap u e) v q.0 q.2)) ∙ t))

  face-open : (u : ℕ) → get_or L u 0 ≡ 1 → opens (faces s.a ab) (u - back) L ≡ true
      → (v : ℕ) × (v < size s) × (share_face s u v ≡ true) × (get_or L v 0 ≡ 3)
  unfolding opens
  face-open u e o =
      let r = any-true (λ o. eqb (get_or L (u - back + o) 0) 3) (faces s.a ab) o in
      let q = map-mem (offset_of s.a ab) face_positions r.0 r.1 in
      let p = q.0 in
      let v = u - back + offset_of s.a ab p in
      let l = few p q.1 in (
        v,
        offset-in s F u (inner-gap u e) p l,
        position-face s u v p q.1 (offset_at s F u (inner-gap u e) v p l refl),
        ap (λ (o : ℕ). get_or L (u - back + o) 0) (sym q.2) ∙ eqb-true (get_or L (u - back + r.0) 0) 3 r.2,
      )

  -- ---- chains of voxels with the label 1

  abbrev one : ℕ → Bool
  one = labelled 1 L

  is_one : (u : ℕ) → one u ≡ true → get_or L u 0 ≡ 1
  is_one u m = eqb-true (get_or L u 0) 1 m

  gap-member : (u : ℕ) → get_or L u 0 ≡ 1 → missing_at s values u ≡ true
  gap-member u e =
      let g = gap_is u e in missing-from s values u g.below g.absent

  in-gap : {u v : ℕ} → Linked one near u v → InGap s values u v
  in-gap c = carry (λ u. u) (λ u m. gap-member u (is_one u m)) (λ u v m n j. near-face u v (is_one u m) j) c

  turned : {u v : ℕ} → Linked one near u v → Linked one near v u
  turned c =
      carry (λ u. u) (λ u m. m) (λ u v m n j. face-near u v (is_one u m) j)
      (reverse (face-turn s) (carry {joined' = share_face s} (λ u. u) (λ u m. m) (λ u v m n j. near-face u v (is_one u m) j) c))

  -- ---- reached, and so not enclosed

  reached-open : (k : ℕ) → Reached (faces s.a ab) back L k → Enclosed s values k → ⊥
  reached-open k R E =
      let u = R.from in
      let w = face-open u (is_one u (first_member R.linked)) R.open_at in
      let v = w.0 in
      let c = reverse (face-turn s) (in-gap R.linked) in
      ⊎_elim
      (λ m.
      let e = gap-one v w.1 (E.off-border v (step c w.2 (missing-from s values v w.1 m))) m in
      let t = w.3 in
      let z : ⊥ = omega arith in z)
      (λ m. go v w.1 m (get_or L v 0) w.3 (said v w.1))
      (E.walled u v c w.1 w.2)
    where
      go : (v : ℕ) → v < size s → measured_negative (value_at values v) ≡ true → (x : ℕ) → x ≡ 3 → Said v x → ⊥
      go v h m x q (rim b) = not-both (measured_negative (value_at values v)) m (A.border v h b)
      go v h m x q (inner b (negative n)) = let z : ⊥ = omega arith in z
      go v h m x q (inner b (missing n)) = let z : ⊥ = omega arith in z
      go v h m x q (inner b (other n o)) = not-both (measured_negative (value_at values v)) m n

  -- ---- not reached, and so enclosed

  module _ (k : ℕ) (e : get_or L k 0 ≡ 1) (none : Reached (faces s.a ab) back L k → ⊥) where
    -- no face neighbour along the chain has the label 3
    not_three : (u v : ℕ) → Linked one near k u → share_face s u v ≡ true → get_or L v 0 ≡ 3 → ⊥
    not_three u v c f t = none (record { from = u; open_at = open-face u v (is_one u (last-member c)) f t; linked = turned c })

    chain : (j : ℕ) → InGap s values k j → Linked one near k j
    chain j c = follow (λ z. Linked one near k z) (λ u v p f m. next u v p f (missing-parts s values v m)) c
        (stay (eq-eqb (get_or L k 0) 1 e))
      where
        next : (u v : ℕ) → Linked one near k u → share_face s u v ≡ true → (v < size s) × (is_missing (value_at values v) ≡ true)
            → Linked one near k v
        next u v p f m =
            let h = m.0 in
            elim (two (on_border s v)) [
              | inl b ↦ absurd (not_three u v p f (M.is v h ∙ ap (λ (t : Bool). cond t 3 (kind_of (value_at values v))) b))
              | inr b ↦ step p (face-near u v (is_one u (last-member p)) f) (eq-eqb (get_or L v 0) 1 (gap-one v h b m.1))
            ]

    unreached-enclosed : Enclosed s values k
    unreached-enclosed =
        record {
          missing = gap-member k e;
          off-border = λ j c. (gap_is j (is_one j (last-member (chain j c)))).off;
          walled = λ j n c h f. wall j n (chain j c) f (get_or L n 0) refl (said n h);
        }
      where
        wall : (j n : ℕ) → Linked one near k j → share_face s j n ≡ true → (x : ℕ) → get_or L n 0 ≡ x → Said n x
            → (is_missing (value_at values n) ≡ true) ⊎ (measured_negative (value_at values n) ≡ true)
        wall j n c f x q (rim b) = absurd (not_three j n c f q)
        wall j n c f x q (inner b (negative m)) = inr m
        wall j n c f x q (inner b (missing m)) = inl m
        wall j n c f x q (inner b (other m o)) = absurd (not_three j n c f q)

  -- ---- the labels after the floods

  used : (k : ℕ) → k < size s → (t : Bool) → is_filled s values k ≡ t
      → cond {A = ℕ} (measured_negative (value_at (filled s values) k)) 1 0 ≡ cond (measured_negative (cond t (negsuc 0) (value_at values k))) 1 0
  used k h t e =
      ap (λ (v : ℤ). cond {A = ℕ} (measured_negative v) 1 0) (filled_at s values k h ∙ ap (λ (t : Bool). cond t (negsuc 0) (value_at values k)) e)

  not-filled : (k : ℕ) → (Enclosed s values k → ⊥) → is_filled s values k ≡ false
  not-filled k n =
      elim (two (is_filled s values k)) [ inl e ↦ absurd (n ((filled-is-enclosed s values k).0 e)) | inr e ↦ e ]

  as-given : (k : ℕ) → k < size s → (Enclosed s values k → ⊥) → measured_negative (value_at values k) ≡ false
      → ◌≡◌ {A = ℕ} 0 (cond (measured_negative (value_at (filled s values) k)) 1 0)
  as-given k h n m = sym (used k h false (not-filled k n) ∙ ap (λ (t : Bool). cond {A = ℕ} t 1 0) m)

  module _ (l : List ℕ) (D : OpenGapsFlooded (faces s.a ab) back L l) where
    settled_at : (k : ℕ) → k < size s → settled_of (get_or l k 0) ≡ cond (measured_negative (value_at (filled s values) k)) 1 0
    settled_at k h = ⊎_elim (λ q. ap settled_of q ∙ stayed (get_or L k 0) refl q (said k h)) (λ t. taken t.0 t.1) (D.kept k)
      where
        stayed : (x : ℕ) → get_or L k 0 ≡ x → get_or l k 0 ≡ get_or L k 0 → Said k x → settled_of x ≡ cond (measured_negative (value_at (filled s values) k)) 1 0
        stayed x e q (rim b) = as-given k h (λ E. not-both (on_border s k) b (E.off-border k (stay E.missing))) (A.border k h b)
        stayed x e q (inner b (negative m)) =
            sym (used k h false (not-filled k (λ E. not-both (is_missing (value_at values k))
            (missing-parts s values k E.missing).1 (negative-measured (value_at values k) m)))
            ∙ ap (λ (t : Bool). cond {A = ℕ} t 1 0) m)
        stayed x e q (inner b (missing m)) =
            sym (used k h true ((filled-is-enclosed s values k).1
            (unreached-enclosed k e (λ R. let w = D.whole k R in let z : ⊥ = omega arith in z)))
            ∙ unfold measured_negative is_missing in refl)
        stayed x e q (inner b (other m o)) =
            as-given k h
            (λ E. not-both (is_missing (value_at values k)) (missing-parts s values k E.missing).1 o) m

        taken : Taken L l k → Reached (faces s.a ab) back L k → settled_of (get_or l k 0) ≡ cond (measured_negative (value_at (filled s values) k)) 1 0
        taken t R = ap settled_of t.made ∙ as-given k h (reached-open k R) (missing-not (value_at values k) (gap_is k t.was).absent)
          where
            missing-not : (v : ℤ) → is_missing v ≡ true → measured_negative v ≡ false
            missing-not v m = elim (two (measured_negative v)) [ inl n ↦ not-both (is_missing v) m (negative-measured v n) | inr n ↦ n ]

    pub labels-are : (l' : List ℕ) → Each 0 (λ k d. settled_of d) 0 (length l) l l' → l' ≡ labels_of (filled s values)
    unfolding labels_of
    labels-are l' E =
        let n = length-filled s values in
        is-map-range (λ k. cond (measured_negative (value_at (filled s values) k)) 1 0) 0 (length (filled s values)) l'
        (E.len ∙ D.len ∙ M.len ∙ sym n)
        (λ k h. E.inside k (omega arith) (omega (arith, D.len, M.len)) ∙ settled_at k (omega arith))
