-- Floods from every voxel beside which a gap is open, in rising order: what is known when the voxels below i have been visited.
use mathlib.Core.Path.{◌≡◌, refl, sym, ap, ◌∙◌, subst}
use mathlib.Core.Logic.{◌⊎◌, inl, inr, ⊎_elim}
use mathlib.Core.Bool.{true}
use mathlib.Core.List.{List}
use Prim.Native.Nat.{ℕ, ◌+◌, ◌-◌, ◌≤◌, ◌<◌}
use native.Mathlib.Omega.{arith}
use native.Mathlib.Nat.{eq-or-lt_of_le}
use lib.Dec.{eqb}
use lib.IntN.{ℤ}
use lib.ListN.{length, get_or}
use borrow.Author.Tests.{eq-eqb, ne_eqb, eqb-true}
use Rattle.cells.specs.Linked.{stay, step}
use Rattle.cells.proofs.Chains.{first_member, follow, widen}
use Rattle.prelude.proofs.Bools.{not-both}
use Rattle.prelude.proofs.Lists.{any-ext}
use Rattle.loops.specs.Searches.{Absent, First}
use Rattle.loops.proofs.Orders.{split}
use Rattle.pushing.specs.Push.{fill_of}
use Rattle.pushing.proofs.Counting.{count-labels}
use Rattle.pushing.proofs.Pushes.{label-lt}
use Rattle.floods.specs.Flood.{near_by, Taken, Floodable, Flooded}
use Rattle.gaps.specs.Gaps.{opens, Reached, GapsToFlood, Visited, flooded, passed, OpenGapsFlooded}

-- where a flood may start
pub floodable : (offsets : List ℕ) (back i : ℕ) (l : List ℕ) (work : List ℤ) → GapsToFlood offsets back l (length work) → get_or l i 0 ≡ 1
    → Floodable offsets back (fill_of l work 0) i
floodable offsets back i l work D e =
    record {
      ready = record { same = D.same; room = omega (arith, count-labels l, D.same); small = D.small };
      seeded = e;
      low = D.low;
      high = D.high;
    }

-- L is what the labels were before the first flood
module _ (offsets : List ℕ) (back : ℕ) (L : List ℕ) where
  pub record Flooding (l : List ℕ) (i : ℕ) : Type 0 where
    pub len : length l ≡ length L
    pub kept : (v : ℕ) → (get_or l v 0 ≡ get_or L v 0) ⊎ ((Taken L l v) × (Reached offsets back L v))
    pub closed : (u v : ℕ) → Taken L l u → near_by offsets back u v ≡ true → get_or L v 0 ≡ 1 → Taken L l v
    pub done : (u : ℕ) → u < i → get_or L u 0 ≡ 1 → opens offsets (u - back) L ≡ true → Taken L l u

  pub flooding-start : Flooding L 0
  flooding-start =
      record {
        len = refl;
        kept = λ v. inl refl;
        closed = λ u v t. let a = t.was in let b = t.made in let z : ⊥ = omega arith in absurd z;
        done = λ u h. let z : ⊥ = omega arith in absurd z;
      }

  module _ (l : List ℕ) (i : ℕ) (D : Flooding l i) where
    -- a voxel that is untaken was so from the start
    was-one : (v : ℕ) → get_or l v 0 ≡ 1 → get_or L v 0 ≡ 1
    was-one v e = ⊎_elim (λ q. sym q ∙ e) (λ t. let a = t.0.made in let z : ⊥ = omega arith in absurd z) (D.kept v)

    -- no flood changes where a gap is open
    opens-same : (base : ℕ) → opens offsets base l ≡ opens offsets base L
    unfolding opens
    opens-same base = any-ext (λ o. eqb (get_or l (base + o) 0) 3) (λ o. eqb (get_or L (base + o) 0) 3) offsets (λ o m. three (base + o))
      where
        three : (v : ℕ) → eqb (get_or l v 0) 3 ≡ eqb (get_or L v 0) 3
        three v =
            ⊎_elim (λ q. ap (λ (x : ℕ). eqb x 3) q)
            (λ t. let a = t.0.made in let b = t.0.was in
            ne_eqb (get_or l v 0) 3 (λ e. let z : ⊥ = omega arith in z) ∙ sym (ne_eqb (get_or L v 0) 3 (λ e. let z : ⊥ = omega arith in z)))
            (D.kept v)

    -- on to the next untaken voxel
    pub flooding-on : (j : ℕ) → i ≤ j → Absent l 1 i j → Flooding l j
    flooding-on j h none =
        record {
          len = D.len;
          kept = D.kept;
          closed = D.closed;
          done = λ u a e o. ⊎_elim
              (λ b. ⊎_elim (λ q. absurd (none u b a (q ∙ e))) (λ t. t.0) (D.kept u))
              (λ b. D.done u b e o) (split i u);
        }

    module _ (untaken : get_or l i 0 ≡ 1) (l' : List ℕ) (work work' : List ℤ) where
      module _ (open-here : opens offsets (i - back) l ≡ true) (end : ℕ) (F : Flooded (near_by offsets back) (fill_of l work 0) (fill_of l' work' end) i) where
        from_start : (v : ℕ) → Taken l l' v → Taken L l' v
        from_start v t = record { was = was-one v t.was; made = t.made }

        stays : (v : ℕ) → Taken L l v → Taken L l' v
        stays v t =
            ⊎_elim (λ q. record { was = t.was; made = q ∙ t.made })
            (λ n. let a = n.was in let b = t.made in let z : ⊥ = omega arith in absurd z) (F.kept v)

        flood-reached : (v : ℕ) → Taken l l' v → Reached offsets back L v
        flood-reached v t =
            record {
              from = i;
              open_at = sym (opens-same (i - back)) ∙ open-here;
              linked = widen (λ u m. eq-eqb (get_or L u 0) 1 (was-one u (eqb-true (get_or l u 0) 1 m))) (F.linked v t);
            }

        here : Taken L l' i
        here = from_start i (F.whole i (stay (eq-eqb (get_or l i 0) 1 untaken)))

        pub flooding-flooded : Flooding l' (i + 1)
        flooding-flooded =
            record {
              len = F.len ∙ D.len;
              kept = λ v. ⊎_elim
                  (λ q. ⊎_elim (λ p. inl (q ∙ p)) (λ t. inr (stays v t.0, t.1)) (D.kept v))
                  (λ t. inr (from_start v t, flood-reached v t)) (F.kept v);
              closed = λ u v t j e. ⊎_elim
                  (λ q. stays v (D.closed u v (record { was = t.was; made = sym q ∙ t.made }) j e))
                  (λ n. ⊎_elim
                  (λ p. from_start v (F.whole v (step (F.linked u n) j (eq-eqb (get_or l v 0) 1 (p ∙ e)))))
                  (λ p. stays v p.0) (D.kept v))
                  (F.kept u);
              done = λ u h e o. ⊎_elim
                  (λ q. subst (λ (v : ℕ). Taken L l' v) (sym q) here)
                  (λ b. stays u (D.done u b e o))
                  (eq-or-lt_of_le (let g : u ≤ i = omega arith in g));
            }

      pub flooding-visited : Visited offsets back i l l' work work' → Flooding l' (i + 1)
      flooding-visited (flooded o end F) = flooding-flooded o end F
      flooding-visited (passed o e) =
          subst (λ (m : List ℕ). Flooding m (i + 1)) (sym e)
          (record {
            len = D.len;
            kept = D.kept;
            closed = D.closed;
            done = λ u h w p. ⊎_elim
                (λ q. not-both (opens offsets (i - back) L) (subst (λ (v : ℕ). opens offsets (v - back) L ≡ true) q p) (sym (opens-same (i - back)) ∙ o))
                (λ b. D.done u b w p)
                (eq-or-lt_of_le (let g : u ≤ i = omega arith in g));
          })

    -- all visited
    pub flooding-done : length L ≤ i → OpenGapsFlooded offsets back L l
    flooding-done h =
        record {
          len = D.len;
          kept = D.kept;
          whole = λ v R.
              let u = R.from in
              let e = eqb-true (get_or L u 0) 1 (first_member R.linked) in
              (follow (λ z. Taken L l z) (λ x y t j m. D.closed x y t j (eqb-true (get_or L y 0) 1 m)) R.linked
              (D.done u (let b = label-lt L u e in omega arith) e R.open_at)).made;
        }

-- ---- the loop: the untaken voxels below next have been visited

pub record FloodedSoFar (offsets : List ℕ) (back : ℕ) (L : List ℕ) (room n : ℕ) (l : List ℕ) (work : List ℤ) (next : ℕ) : Type 0 where
  pub whole : n ≡ length L
  pub upto : next ≤ n
  pub same : length work ≡ room
  pub flooding : Flooding offsets back L l next

module _ (offsets : List ℕ) (back : ℕ) (L : List ℕ) where
  module _ (room n : ℕ) (l : List ℕ) (work : List ℤ) (next : ℕ) (D : FloodedSoFar offsets back L room n l work next) where
    pub flooded-more : (i : ℕ) → First l 1 next n i → (l' : List ℕ) (work' : List ℤ) → Visited offsets back i l l' work work'
        → length work' ≡ length work → FloodedSoFar offsets back L room n l' work' (i + 1)
    flooded-more i f l' work' seen e =
        record {
          whole = D.whole;
          upto = omega (arith, f.high);
          same = e ∙ D.same;
          flooding =
              flooding-visited offsets back L l i (flooding-on offsets back L l next D.flooding i f.low f.none_before) f.found l' work work' seen;
        }

    pub flooded-end : Absent l 1 next n → OpenGapsFlooded offsets back L l
    flooded-end none =
        flooding-done offsets back L l n (flooding-on offsets back L l next D.flooding n D.upto none) (omega (arith, D.whole))
