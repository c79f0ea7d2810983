-- The search for the largest component: what is known when the voxels below i have been visited.
use mathlib.Core.Path.{◌≡◌, refl, sym, ap, ◌∙◌, subst}
use mathlib.Core.Logic.{◌⊎◌, inl, inr, ⊎_elim}
use mathlib.Core.Bool.{Bool, true, false, ◌&&◌}
use mathlib.Core.List.{List}
use Prim.Native.Nat.{ℕ, ◌+◌, ◌-◌, ◌≤◌, ◌<◌}
use native.Mathlib.Omega.{arith}
use lib.Dec.{eqb}
use lib.IntN.{ℤ, pos}
use lib.ListN.{length, get_or}
use borrow.Author.Tests.{eq-eqb, ne_eqb, eqb-true, eqb-false}
use Rattle.cells.specs.Groups.{filter}
use Rattle.cells.specs.Linked.{Linked, stay, step}
use Rattle.prelude.proofs.Bools.{two, and-true, true-and, both_ways}
use Rattle.prelude.proofs.Lists.{mem-filter, filter-ext}
use Rattle.cells.proofs.Chains.{last-member, append, follow, widen}
use Rattle.rules.specs.Grid.{range}
use Rattle.prelude.proofs.Ranges.{range-mem, mem-range}
use Rattle.pushing.specs.Push.{fill_of, labelled, untaken, Ready}
use Rattle.floods.specs.Flood.{Taken, Flooded, near_by, Floodable}
use Rattle.pushing.proofs.Counting.{Parts, left, right, none, count-parts, count-labels, mem-some}
use Rattle.pushing.proofs.Pushes.{label-lt}
use Rattle.components.specs.Search.{Lists, Component, size_of, Searchable, Longest}
use Rattle.loops.specs.Searches.{Absent, First}
use Rattle.loops.proofs.Orders.{split}

lists-same : (test : ℕ → Bool) (work work' : List ℤ) (first end : ℕ) → ((k : ℕ) → k < end → get_or work' k (pos 0) ≡ get_or work k (pos 0))
    → Lists test work first end → Lists test work' first end
lists-same test work work' first end same L =
    record {
      listed = λ k h l. let w = L.listed k h l in (w.0, same k l ∙ w.1, w.2);
      whole = λ i e. let w = L.whole i e in (w.0, w.1, w.2, same w.0 w.2 ∙ w.3);
    }

module _ (near : ℕ → ℕ → Bool) (L : List ℕ) (turn : (u v : ℕ) → get_or L u 0 ≡ 1 → get_or L v 0 ≡ 1 → near u v ≡ true → near v u ≡ true) where
  abbrev n : ℕ
  n = length L

  abbrev member : ℕ → Bool
  member = labelled 1 L

  member-one : (k : ℕ) → member k ≡ true → get_or L k 0 ≡ 1
  member-one k e = eqb-true (get_or L k 0) 1 e

  member-lt : (k : ℕ) → member k ≡ true → k < n
  member-lt k e = label-lt L k (member-one k e)

  turned : {u v : ℕ} → Linked member near u v → Linked member near v u
  turned (stay m) = stay m
  turned (step {y = y} {z = z} l j m) =
      append (step (stay m) (turn y z (member-one y (last-member l)) (member-one z m) j) (last-member l)) (turned l)

  -- components of voxels that are linked have one size
  same_size : (v w : ℕ) (p q : ℕ → Bool) → Component n member near v p → Component n member near w q → Linked member near v w → size_of n p ≡ size_of n q
  same_size v w p q P Q l =
      ap length
      (filter-ext p q (range 0 n)
      (λ i m.
      let h = range-mem 0 n i m in
      both_ways (p i) (q i)
      (λ e. Q.whole i (append (turned l) (P.linked i (omega arith) e)))
      (λ e. P.whole i (append l (Q.linked i (omega arith) e)))))

  -- k is of a component that was counted, from its first voxel
  pub record Counted (seed most k : ℕ) : Type 0 where
    pub origin : ℕ
    pub test : ℕ → Bool
    pub component : Component n member near origin test
    pub chain : Linked member near origin k
    pub before : origin ≤ k
    pub fits : size_of n test ≤ most
    pub less : origin < seed → size_of n test < most

  -- seed is the first voxel of a component of so many, which a stretch lists
  pub record Won (seed most : ℕ) (work : List ℤ) (first : ℕ) : Type 0 where
    pub test : ℕ → Bool
    pub within : (k : ℕ) → test k ≡ true → k < n
    pub component : Component n member near seed test
    pub amount : size_of n test ≡ most
    pub seeded : member seed ≡ true
    pub smallest : (k : ℕ) → Linked member near seed k → seed ≤ k
    pub lists : Lists test work first (first + most)

  pub record Tally (l : List ℕ) (work : List ℤ) (end i first most : ℕ) : Type 0 where
    pub len : length l ≡ n
    pub ready : Ready (fill_of l work end)
    pub off : (k : ℕ) → member k ≡ false → get_or l k 0 ≡ get_or L k 0
    pub on : (k : ℕ) → member k ≡ true → (get_or l k 0 ≡ 1) ⊎ (get_or l k 0 ≡ 2)
    pub behind : (k : ℕ) → k < i → get_or l k 0 ≡ 1 → ⊥
    pub closed : (j k : ℕ) → member j ≡ true → get_or l j 0 ≡ 2 → member k ≡ true → near j k ≡ true → get_or l k 0 ≡ 2
    pub seed : ℕ
    pub counted : (k : ℕ) → member k ≡ true → get_or l k 0 ≡ 2 → Counted seed most k
    pub upto : seed ≤ i
    pub stretch : first + most ≤ end
    pub won : 0 < most → Won seed most work first

  -- only a member is untaken
  one-member : (l : List ℕ) (work : List ℤ) (end i first most : ℕ) → Tally l work end i first most → (k : ℕ) → get_or l k 0 ≡ 1 → member k ≡ true
  one-member l work end i first most T k e =
      elim (two (member k)) [ inl y ↦ y | inr m ↦ absurd (eqb-false (get_or L k 0) 1 m (sym (T.off k m) ∙ e)) ]

  pub tally-start : (work : List ℤ) → Ready (fill_of L work 0) → Tally L work 0 0 0 0
  tally-start work r =
      record {
        len = refl;
        ready = r;
        off = λ k m. refl;
        on = λ k y. inl (member-one k y);
        behind = λ k h. let z : ⊥ = omega arith in absurd z;
        closed = λ j k y e. absurd (never j y e);
        seed = 0;
        counted = λ k y e. absurd (never k y e);
        upto = omega arith;
        stretch = omega arith;
        won = λ h. let z : ⊥ = omega arith in absurd z;
      }
    where
      never : (k : ℕ) → member k ≡ true → get_or L k 0 ≡ 2 → ⊥
      never k y e = let q = member-one k y in omega arith

  -- on to a voxel before which none is untaken
  pub tally-on : (l : List ℕ) (work : List ℤ) (end i j first most : ℕ) → i ≤ j → ((k : ℕ) → i ≤ k → k < j → get_or l k 0 ≡ 1 → ⊥)
      → Tally l work end i first most → Tally l work end j first most
  tally-on l work end i j first most h clear T =
      let u = T.upto in
      record {
        len = T.len;
        ready = T.ready;
        off = T.off;
        on = T.on;
        behind = λ k g e. ⊎_elim (λ q. clear k q g e) (λ q. T.behind k q e) (split i k);
        closed = T.closed;
        seed = T.seed;
        counted = T.counted;
        upto = omega arith;
        stretch = T.stretch;
        won = T.won;
      }

  -- ---- a new component, flooded from i

  module _ (l l' : List ℕ) (work work' : List ℤ) (end e i first most : ℕ) (T : Tally l work end i first most) (one : get_or l i 0 ≡ 1)
      (F : Flooded near (fill_of l work end) (fill_of l' work' e) i) (same : length work' ≡ length work) where
    i-member : member i ≡ true
    i-member = one-member l work end i first most T i one

    -- no voxel of i's component has been counted
    ones : {k : ℕ} → Linked member near i k → get_or l k 0 ≡ 1
    ones c =
        ⊎_elim (λ q. q)
        (λ q.
        let z =
        (follow (λ k. (member k ≡ true) × (get_or l k 0 ≡ 2)) (λ u v t r y. (y, T.closed u v t.0 t.1 y r)) (turned c) (last-member c, q)).1 in
        let b : ⊥ = omega arith in
        absurd b)
        (T.on _ (last-member c))

    within : {k : ℕ} → Linked member near i k → Linked (labelled 1 l) near i k
    within (stay m) = stay (eq-eqb (get_or l i 0) 1 one)
    within (step {z = z} c t m) = step (within c) t (eq-eqb (get_or l z 0) 1 (ones (step c t m)))

    taken-linked : (k : ℕ) → Taken l l' k → Linked member near i k
    taken-linked k t = widen (λ u w. one-member l work end i first most T u (eqb-true (get_or l u 0) 1 w)) (F.linked k t)

    linked-taken : (k : ℕ) → Linked member near i k → Taken l l' k
    linked-taken k c = F.whole k (within c)

    fresh : ℕ → Bool
    fresh k = labelled 1 l k && labelled 2 l' k

    taken-fresh : (k : ℕ) → Taken l l' k → fresh k ≡ true
    unfolding fresh
    taken-fresh k t = true-and (labelled 1 l k) (labelled 2 l' k) (eq-eqb (get_or l k 0) 1 t.was) (eq-eqb (get_or l' k 0) 2 t.made)

    fresh-taken : (k : ℕ) → fresh k ≡ true → Taken l l' k
    unfolding fresh
    fresh-taken k q =
        let p = and-true (labelled 1 l k) (labelled 2 l' k) q in
        record { was = eqb-true (get_or l k 0) 1 p.0; made = eqb-true (get_or l' k 0) 2 p.1 }

    fresh-component : Component n member near i fresh
    fresh-component = record { linked = λ k h q. taken-linked k (fresh-taken k q); whole = λ k c. taken-fresh k (linked-taken k c) }

    fresh-lists : Lists fresh work' end e
    fresh-lists =
        record {
          listed = λ k h u. let w = F.listed k h u in (w.0, w.1, taken-fresh w.0 w.2);
          whole = λ k q. F.queued k (fresh-taken k q);
        }

    -- flooded, left with its label, or of another label
    parts : (k : ℕ) → Parts (fresh k) (labelled 1 l' k) (labelled 1 l k)
    unfolding fresh
    parts k =
        ⊎_elim
        (λ q.
        elim (two (labelled 1 l k)) [
          | inl y ↦
              let a = eqb-true (get_or l k 0) 1 y in
              rw (y, eq-eqb (get_or l' k 0) 1 (q ∙ a), ne_eqb (get_or l' k 0) 2 (λ z. let b : ⊥ = omega arith in b)) right
          | inr m ↦ let a = eqb-false (get_or l k 0) 1 m in rw (m, ne_eqb (get_or l' k 0) 1 (λ z. a (sym q ∙ z))) none
        ])
        (λ t.
        let a = t.made in
        rw (eq-eqb (get_or l k 0) 1 t.was, eq-eqb (get_or l' k 0) 2 t.made, ne_eqb (get_or l' k 0) 1 (λ z. let b : ⊥ = omega arith in b)) left)
        (F.kept k)

    fresh-found : size_of n fresh ≡ e - end
    unfolding untaken
    fresh-found =
        let sum = count-parts fresh (labelled 1 l') (labelled 1 l) (range 0 n) (λ k m. parts k) in
        let a = ap (λ (x : ℕ). length (filter (labelled 1 l) (range 0 x))) T.len in
        let b = ap (λ (x : ℕ). length (filter (labelled 1 l') (range 0 x))) (F.len ∙ T.len) in
        omega (arith, F.counted, F.longer)

    smallest : (k : ℕ) → Linked member near i k → i ≤ k
    smallest k c = ⊎_elim (λ h. h) (λ h. absurd (T.behind k h (ones c))) (split i k)

    ready' : Ready (fill_of l' work' e)
    ready' =
        let r = T.ready in
        record { same = omega (arith, r.same, F.len); room = omega (arith, r.room, F.counted); small = omega (arith, r.small, F.len) }

    tally-more : (seed first' most' : ℕ) → ((k : ℕ) → Counted T.seed most k → Counted seed most' k) → e - end ≤ most' → (i < seed → e - end < most')
        → seed ≤ i → first' + most' ≤ e → (0 < most' → Won seed most' work' first') → Tally l' work' e (i + 1) first' most'
    tally-more seed first' most' lift fits less upto stretch won =
        record {
          len = F.len ∙ T.len;
          ready = ready';
          off = λ k m. ⊎_elim
              (λ q. q ∙ T.off k m)
              (λ t. absurd (eqb-false (get_or L k 0) 1 m (sym (T.off k m) ∙ t.was)))
              (F.kept k);
          on = λ k y. ⊎_elim (λ q. ⊎_elim (λ w. inl (q ∙ w)) (λ w. inr (q ∙ w)) (T.on k y)) (λ t. inr t.made) (F.kept k);
          behind = behind;
          closed = closed;
          seed = seed;
          counted = counted;
          upto = omega arith;
          stretch = stretch;
          won = won;
        }
      where
        two-stays : (k : ℕ) → get_or l k 0 ≡ 2 → get_or l' k 0 ≡ 2
        two-stays k w = ⊎_elim (λ q. q ∙ w) (λ t. t.made) (F.kept k)

        behind : (k : ℕ) → k < i + 1 → get_or l' k 0 ≡ 1 → ⊥
        behind k h w =
            ⊎_elim
            (λ q.
            elim (two (eqb k i)) [
              | inl f ↦
                  let m = (linked-taken k (subst (Linked member near i) (sym (eqb-true k i f)) (stay i-member))).made in
                  omega arith
              | inr f ↦ let g = eqb-false k i f in T.behind k (omega arith) (sym q ∙ w)
            ])
            (λ t. let m = t.made in omega arith)
            (F.kept k)

        closed : (j k : ℕ) → member j ≡ true → get_or l' j 0 ≡ 2 → member k ≡ true → near j k ≡ true → get_or l' k 0 ≡ 2
        closed j k m w y t =
            ⊎_elim
            (λ q. two-stays k (T.closed j k m (sym q ∙ w) y t))
            (λ u. (linked-taken k (step (taken-linked j u) t y)).made)
            (F.kept j)

        counted : (k : ℕ) → member k ≡ true → get_or l' k 0 ≡ 2 → Counted seed most' k
        counted k y w =
            ⊎_elim
            (λ q. lift k (T.counted k y (sym q ∙ w)))
            (λ u.
            let c = taken-linked k u in
            let f = fresh-found in
            record {
              origin = i;
              test = fresh;
              component = fresh-component;
              chain = c;
              before = smallest k c;
              fits = omega arith;
              less = λ h. let g = less h in omega arith;
            })
            (F.kept k)

    -- it is larger than any before
    pub tally-win : most < e - end → Tally l' work' e (i + 1) end (e - end)
    tally-win h =
        tally-more i end (e - end)
        (λ k c.
        let f = c.fits in
        record {
          origin = c.origin;
          test = c.test;
          component = c.component;
          chain = c.chain;
          before = c.before;
          fits = omega arith;
          less = λ g. omega arith;
        })
        (omega arith) (λ g. let z : ⊥ = omega arith in absurd z) (omega arith) (omega (arith, F.longer))
        (λ g.
        record {
          test = fresh;
          within = λ k q. omega (arith, label-lt l k (fresh-taken k q).was, T.len);
          component = fresh-component;
          amount = fresh-found;
          seeded = i-member;
          smallest = smallest;
          lists = subst (Lists fresh work' end) (let q : e ≡ end + (e - end) = omega (arith, F.longer) in q) fresh-lists;
        })

    pub tally-keep : e - end ≤ most → Tally l' work' e (i + 1) first most
    tally-keep h =
        let u = T.upto in
        let st = T.stretch in
        tally-more T.seed first most (λ k c. c) h (λ g. let z : ⊥ = omega arith in absurd z) u (omega (arith, F.longer))
        (λ g.
        let w = T.won g in
        record {
          test = w.test;
          within = w.within;
          component = w.component;
          amount = w.amount;
          seeded = w.seeded;
          smallest = w.smallest;
          lists = lists-same w.test work work' first (first + most) (λ k b. F.earlier k (omega arith)) w.lists;
        })

  -- ---- all voxels visited

  module _ (l : List ℕ) (work : List ℤ) (end i first most : ℕ) (T : Tally l work end i first most) (all : n ≤ i)
      (some : ℕ) (some_is : get_or L some 0 ≡ 1) where
    two-all : (k : ℕ) → member k ≡ true → get_or l k 0 ≡ 2
    two-all k y = ⊎_elim (λ e. let h = member-lt k y in absurd (T.behind k (omega arith) e)) (λ e. e) (T.on k y)

    count_of : (v : ℕ) (y : member v ≡ true) → Counted T.seed most v
    count_of v y = T.counted v y (two-all v y)

    positive : 0 < most
    positive =
        let y = eq-eqb (get_or L some 0) 1 some_is in
        let c = count_of some y in
        let h = member-lt some y in
        let m = mem-some (mem-filter c.test (range 0 n) some (mem-range 0 n some (omega arith) (omega arith)) (c.component.whole some c.chain)) in
        let f = c.fits in
        omega arith

    size-of : (v : ℕ) (other : ℕ → Bool) (y : member v ≡ true) → Component n member near v other → size_of n other ≡ size_of n (count_of v y).test
    size-of v other y g = let c = count_of v y in same_size v c.origin other c.test g c.component (turned c.chain)

    pub tally-done : Longest near L work first (first + most)
    tally-done =
        let w = T.won positive in
        let r = T.ready.room in
        let st = T.stretch in
        record {
          order = omega arith;
          upto = omega arith;
          test = w.test;
          within = w.within;
          largest =
              record {
                seed = T.seed;
                seeded = w.seeded;
                component = w.component;
                smallest = λ k h e. w.smallest k (w.component.linked k h e);
                largest = λ v other y g. let a = size-of v other y g in let f = (count_of v y).fits in let b = w.amount in omega arith;
                first = λ v other y g h.
                    let a = size-of v other y g in
                    let c = count_of v y in
                    let f = c.before in
                    let d = c.less (omega arith) in
                    let b = w.amount in
                    omega arith;
              };
          lists = w.lists;
        }

-- ---- the search: the components of the voxels below next are counted

pub record Searched (offsets : List ℕ) (back : ℕ) (L : List ℕ) (room n : ℕ) (l : List ℕ) (work : List ℤ) (end next first most : ℕ) : Type 0 where
  pub whole : n ≡ length L
  pub upto : next ≤ n
  pub len : length l ≡ n
  pub same : length work ≡ room
  pub tally : (S : Searchable offsets back L room) → Tally (near_by offsets back) L S.turn l work end next first most

module _ (offsets : List ℕ) (back : ℕ) (L : List ℕ) where
  pub search-begin : (work : List ℤ) → Searched offsets back L (length work) (length L) L work 0 0 0 0
  search-begin work =
      record {
        whole = refl;
        upto = omega arith;
        len = refl;
        same = refl;
        tally = λ S.
            let c = count-labels L in
            tally-start (near_by offsets back) L S.turn work (record { same = S.same; room = omega (arith, S.same); small = S.small });
      }

  module _ (room n : ℕ) (l : List ℕ) (work : List ℤ) (end next first most : ℕ) (D : Searched offsets back L room n l work end next first most) where
    module _ (i : ℕ) (N : First l 1 next n i) where
      at-next : (S : Searchable offsets back L room) → Tally (near_by offsets back) L S.turn l work end i first most
      at-next S = tally-on (near_by offsets back) L S.turn l work end next i first most N.low N.none_before (D.tally S)

      -- where the next flood may start
      pub search-start : Searchable offsets back L room → Floodable offsets back (fill_of l work end) i
      search-start S =
          let T = at-next S in
          let was : (v : ℕ) → get_or l v 0 ≡ 1 → get_or L v 0 ≡ 1 =
          λ v e. eqb-true (get_or L v 0) 1 (one-member (near_by offsets back) L S.turn l work end i first most T v e) in
          record {
            ready = T.ready;
            seeded = N.found;
            low = λ v e. S.low v (was v e);
            high = λ v j e h. omega (arith, S.high v j (was v e) h, T.len);
          }

      module _ (l' : List ℕ) (work' : List ℤ) (e : ℕ) (F : Flooded (near_by offsets back) (fill_of l work end) (fill_of l' work' e) i)
          (same' : length work' ≡ length work) where
        on : (first' most' : ℕ)
            → ((S : Searchable offsets back L room) → Tally (near_by offsets back) L S.turn l' work' e (i + 1) first' most')
            → Searched offsets back L room n l' work' e (i + 1) first' most'
        on first' most' T =
            record { whole = D.whole; upto = omega (arith, N.high); len = F.len ∙ D.len; same = same' ∙ D.same; tally = T }

        pub search-win : most < e - end → Searched offsets back L room n l' work' e (i + 1) end (e - end)
        search-win h =
            on end (e - end)
            (λ S. tally-win (near_by offsets back) L S.turn l l' work work' end e i first most (at-next S) N.found F same' h)

        pub search-keep : e - end ≤ most → Searched offsets back L room n l' work' e (i + 1) first most
        search-keep h =
            on first most
            (λ S. tally-keep (near_by offsets back) L S.turn l l' work work' end e i first most (at-next S) N.found F same' h)

    pub search-end : Absent l 1 next n → Searchable offsets back L room → Longest (near_by offsets back) L work first (first + most)
    search-end absent S =
        tally-done (near_by offsets back) L S.turn l work end n first most
        (tally-on (near_by offsets back) L S.turn l work end next n first most D.upto absent (D.tally S))
        (omega (arith, D.whole)) S.some S.some_is
