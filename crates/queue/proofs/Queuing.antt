-- The queue for any key: what leaves the front, what is put into it, what goes into the index, and what comes from it.
use mathlib.Core.Path.{◌≡◌, refl, sym, ap, ◌∙◌, subst}
use mathlib.Core.Logic.{◌⊎◌, inl, inr}
use mathlib.Core.Bool.{Bool}
use mathlib.Core.List.{List}
use Prim.Native.Nat.{ℕ, ◌+◌, ◌-◌, ◌*◌, ◌/◌, ◌≤◌, ◌<◌}
use native.Mathlib.Omega.{arith}
use native.Mathlib.Decide.{ℕ_discrete, dec_lt}
use lib.IntN.{ℤ}
use lib.ListN.{length, get_or, set, length-set}
use lib.Seq.{get_or-set_same, get_or-set_other}
use Rattle.keys.specs.Key.{voxel_of, width}
use Rattle.keys.proofs.Ranks.{Keyed}
use Rattle.offsets.proofs.Held.{keyed-named}
use Rattle.pending.specs.Index.{Indexed, Raising, Raised, Refreshing, Refreshed}
use Rattle.pending.proofs.Indexing.{root-greatest, root-key, raising, raised, refreshing, refreshed}
use Rattle.front.specs.Front.{Inserted, lead, up_to, Parted}
use Rattle.front.proofs.Taking.{up-to-above, up-to-below, up-to-low, up-to-some}
use Rattle.queue.specs.Queue.{Queued}

-- ---- keys up to a bound

up-to-same : (top : ℕ) (key later : ℕ → ℕ) (i : ℕ) → later i ≡ key i → up_to top later i ≡ up_to top key i
up-to-same top key later i e =
    elim (dec_lt top (key i)) [
      | yes h ↦ up-to-above later top i (omega arith) ∙ sym (up-to-above key top i h)
      | no h ↦ up-to-below later top i (omega arith) ∙ e ∙ sym (up-to-below key top i (omega arith))
    ]

pub keyed-up-to : (hurried : ℕ → Bool) (dist : List ℤ) (key : ℕ → ℕ) (top : ℕ) → Keyed hurried dist key → Keyed hurried dist (up_to top key)
keyed-up-to hurried dist key top K =
    record {
      few = K.few;
      inside = λ j h. K.inside j (omega (arith, up-to-some key top j h));
      own = λ j h. (let e = up-to-some key top j h in e ∙ K.own j (omega arith));
    }

indexed-same : {key later : ℕ → ℕ} {n : ℕ} {offsets tree : List ℕ} → ((j : ℕ) → key j ≡ later j) → Indexed key n offsets tree → Indexed later n offsets tree
indexed-same {n = n} {offsets = offsets} {tree = tree} e I = subst (λ (k : ℕ → ℕ). Indexed k n offsets tree) (λ i j. e j i) I

-- ---- an empty front: whatever is in the index is all

pub queued-empty :
    (key : ℕ → ℕ) (top n : ℕ) (offsets tree front : List ℕ) (head : ℕ) → head < length front → get_or front head 0 ≡ 0 → ((j : ℕ) → key j ≤ top)
    → Indexed (up_to top key) n offsets tree → Queued key top n offsets tree front head
queued-empty key top n offsets tree front head room z low I =
    record {
      index = I;
      list = record { end = head; order = omega arith; room = room; ended = z; falls = λ p q l b u. let y : ⊥ = omega arith in absurd y };
      above = λ p l u. let y : ⊥ = omega arith in absurd y;
      own = λ p l u. let y : ⊥ = omega arith in absurd y;
      all = λ j h. (let l = low j in let y : ⊥ = omega arith in absurd y);
    }

module _ (hurried : ℕ → Bool) (dist : List ℤ) (key : ℕ → ℕ) (K : Keyed hurried dist key) where
  -- the index of all keys
  pub queued-start :
      (offsets tree front : List ℕ) (head : ℕ) → head < length front → get_or front head 0 ≡ 0 → Indexed key (length dist) offsets tree
      → Queued key (get_or tree 1 0) (length dist) offsets tree front head
  queued-start offsets tree front head room z I =
      queued-empty key (get_or tree 1 0) (length dist) offsets tree front head room z low
      (indexed-same (λ j. sym (up-to-below key (get_or tree 1 0) j (low j))) I)
    where
      low : (j : ℕ) → key j ≤ get_or tree 1 0
      low j =
          elim (dec_lt 0 (key j)) [
            | yes p ↦ root-greatest key (length dist) offsets tree I j (K.inside j p)
            | no p ↦ omega arith
          ]

  module _ (some : 1 ≤ length dist) (top : ℕ) (offsets tree front : List ℕ) (head : ℕ) (Q : Queued key top (length dist) offsets tree front head) where
    -- ---- first and root

    up-keyed : Keyed hurried dist (up_to top key)
    up-keyed = keyed-up-to hurried dist key top K

    pub front-some : 0 < get_or front head 0 → head < Q.list.end
    front-some h =
        elim (ℕ_discrete head Q.list.end) [
          | yes e ↦ (let z : ⊥ = omega (arith, ap (λ (x : ℕ). get_or front x 0) e, Q.list.ended) in absurd z)
          | no n ↦ omega (arith, Q.list.order)
        ]

    -- where the front is empty no key is above top
    pub all-low : get_or front head 0 ≡ 0 → (j : ℕ) → key j ≤ top
    all-low z j =
        elim (dec_lt top (key j)) [
          | yes h ↦ (
              let w = Q.all j h in
              let l = w.1 in
              let u = w.2 in
              let y : ⊥ = omega (arith, Q.list.falls head Q.list.end (omega arith) (omega arith) (omega arith)) in
              absurd y
              )
          | no h ↦ omega arith
        ]

    pub root-low : get_or tree 1 0 ≤ top
    root-low =
        elim (root-key (up_to top key) (length dist) offsets tree Q.index some) [
          | inl z ↦ omega arith
          | inr w ↦ omega (arith, w.1, up-to-low key top w.0)
        ]

    -- no key up to top is above the root
    pub key-low : (j : ℕ) → key j ≤ top → key j ≤ get_or tree 1 0
    key-low j h =
        elim (dec_lt 0 (key j)) [
          | yes p ↦ omega (arith, up-to-below key top j h, root-greatest (up_to top key) (length dist) offsets tree Q.index j (K.inside j p))
          | no p ↦ omega arith
        ]

    -- no key is above the first of the front
    pub first-greatest : 0 < get_or front head 0 → (j : ℕ) → key j ≤ get_or front head 0
    first-greatest h j =
        elim (dec_lt top (key j)) [
          | yes a ↦ (
              let w = Q.all j a in
              elim (ℕ_discrete w.0 head) [
                | yes e ↦ omega (arith, w.3, ap (λ (x : ℕ). get_or front x 0) e)
                | no n ↦ (
                    let l = w.1 in
                    let u = w.2 in
                    omega (arith, w.3, Q.list.falls head w.0 (omega arith) (omega arith) (omega arith))
                    )
              ]
              )
          | no a ↦ omega (arith, Q.above head (omega arith) (front-some h))
        ]

    -- so top may be the root
    pub lowered : Queued key (get_or tree 1 0) (length dist) offsets tree front head
    lowered =
        record {
          index = indexed-same (λ j.
              elim (dec_lt top (key j)) [
                | yes h ↦ up-to-above key top j h ∙ sym (up-to-above key (get_or tree 1 0) j (omega (arith, root-low)))
                | no h ↦ up-to-below key top j (omega arith) ∙ sym (up-to-below key (get_or tree 1 0) j (key-low j (omega arith)))
              ]) Q.index;
          list = Q.list;
          above = λ p l u. omega (arith, Q.above p l u, root-low);
          own = Q.own;
          all = λ j h. Q.all j (elim (dec_lt top (key j)) [ yes a ↦ a | no a ↦ (let z : ⊥ = omega (arith, key-low j (omega arith)) in absurd z) ]);
        }

    pub entering : (j w : ℕ) → j < length dist → Raising dist offsets tree j
    entering j w h = raising hurried dist (up_to top key) (up_to top key) up-keyed offsets tree Q.index j w h

    -- ---- the key of voxel j alone is another later

    module _ (later : ℕ → ℕ) (j : ℕ) (same : (i : ℕ) → (i ≡ j → ⊥) → later i ≡ key i) where
      -- the first leaves
      pub queued-left : later j ≡ 0 → get_or front head 0 ≡ key j → 0 < key j → Queued later top (length dist) offsets tree front (head + 1)
      queued-left gone first p =
          let u = front-some (omega arith) in
          let named = keyed-named hurried dist key K in
          record {
            index = indexed-same (λ i.
                elim (ℕ_discrete i j) [
                  | yes e ↦ (
                      let k = ap key e in
                      let l = ap later e in
                      up-to-above key top i (omega (arith, Q.above head (omega arith) u)) ∙ sym (up-to-below later top i (omega arith) ∙ l ∙ gone)
                      )
                  | no n ↦ sym (up-to-same top key later i (same i n))
                ]) Q.index;
            list =
                record {
                  end = Q.list.end;
                  order = omega arith;
                  room = Q.list.room;
                  ended = Q.list.ended;
                  falls = λ p q l b e. Q.list.falls p q (omega arith) b e;
                };
            above = λ q l b. Q.above q (omega arith) b;
            own = λ q l b. (
                let w = Q.own q (omega arith) b in
                (w.0, w.1 ∙ sym (same w.0 (λ e. omega (arith, w.1, ap key e, Q.list.falls head q (omega arith) (omega arith) (omega arith)))))
                );
            all = λ i h. (
                let n : i ≡ j → ⊥ = λ e. omega (arith, ap later e) in
                let w = Q.all i (omega (arith, same i n)) in
                let l = w.1 in
                let d : w.0 ≡ head → ⊥ = λ e. n (sym (named i (omega (arith, same i n)))
                ∙ ap voxel_of (sym w.3 ∙ ap (λ (x : ℕ). get_or front x 0) e ∙ first) ∙ named j p) in
                (w.0, omega arith, w.2, w.3 ∙ sym (same i n))
                );
          }

      module _ (w : ℕ) (none : key j ≡ 0) (own : later j ≡ w) where
        off : (i : ℕ) → 0 < key i → later i ≡ key i
        off i p = same i (λ e. omega (arith, ap key e))

        -- a key up to top goes into the index
        pub queued-raised : w ≤ top → j < length dist → (offsets1 tree1 : List ℕ) → Raised hurried dist offsets offsets1 tree tree1 j w
            → Queued later top (length dist) offsets1 tree1 front head
        queued-raised h inside offsets1 tree1 R =
            record {
              index = raised hurried dist (up_to top key) (up_to top later) up-keyed offsets tree Q.index j w inside
                  (λ i n. up-to-same top key later i (same i n)) (up-to-below key top j (omega arith) ∙ none)
                  (up-to-below later top j (omega arith) ∙ own) offsets1 tree1 R;
              list = Q.list;
              above = Q.above;
              own = λ p l u. (let v = Q.own p l u in (v.0, v.1 ∙ sym (off v.0 (omega (arith, v.1, Q.above p l u)))));
              all = λ i l. (
                  let n : i ≡ j → ⊥ = λ e. omega (arith, ap later e) in
                  let v = Q.all i (omega (arith, same i n)) in
                  (v.0, v.1, v.2, v.3 ∙ sym (same i n))
                  );
            }

        -- one above it is put in its place in the front
        module _ (above : top < w) (named : voxel_of w ≡ j) (front1 : List ℕ) (low : 1 ≤ head) (I : Inserted front front1 head w) where
          high : I.place ≤ Q.list.end
          high =
              elim (dec_lt Q.list.end I.place) [
                | yes h ↦ (let z : ⊥ = omega (arith, I.greater Q.list.end Q.list.order h, Q.list.ended) in absurd z)
                | no h ↦ omega arith
              ]

          least : get_or front I.place 0 < w
          least =
              elim (ℕ_discrete I.place Q.list.end) [
                | yes e ↦ omega (arith, ap (λ (x : ℕ). get_or front x 0) e, Q.list.ended)
                | no n ↦ (
                    let u = high in
                    let v = Q.own I.place I.low (omega arith) in
                    let a = Q.above I.place I.low (omega arith) in
                    let d : get_or front I.place 0 ≡ w → ⊥ = λ e.
                    (let i : v.0 ≡ j = sym (keyed-named hurried dist key K v.0 (omega (arith, v.1))) ∙ ap voxel_of (sym v.1 ∙ e) ∙ named in
                    omega (arith, ap key i, v.1)) in
                    omega (arith, I.least)
                    )
              ]

          abbrev Place : ℕ → Type 0
          Place q = (q + 1 < I.place) ⊎ ((q + 1 ≡ I.place) ⊎ (I.place ≤ q))

          place : (q : ℕ) → Place q
          place q =
              elim (dec_lt (q + 1) I.place) [
                | yes h ↦ inl h
                | no h ↦ elim (ℕ_discrete (q + 1) I.place) [ yes e ↦ inr (inl e) | no n ↦ inr (inr (omega arith)) ]
              ]

          falls : (p q : ℕ) → head - 1 ≤ p → p < q → q ≤ Q.list.end → Place p → Place q → get_or front1 q 0 < get_or front1 p 0
          falls p q l b u (inl x) (inl y) =
              let u = high in
              omega (arith, I.moved p (omega arith) x, I.moved q (omega arith) y, Q.list.falls (p + 1) (q + 1) (omega arith) (omega arith) (omega arith))
          falls p q l b u (inl x) (inr (inl y)) = omega (arith, I.moved p (omega arith) x, I.here q y, I.greater (p + 1) (omega arith) x)
          falls p q l b u (inl x) (inr (inr y)) =
              omega (arith, I.moved p (omega arith) x, I.rest q y, Q.list.falls (p + 1) q (omega arith) (omega arith) u)
          falls p q l b u (inr (inl x)) (inr (inr y)) =
              elim (ℕ_discrete q I.place) [
                | yes e ↦ omega (arith, I.here p x, I.rest q y, ap (λ (x : ℕ). get_or front x 0) e, least)
                | no n ↦ omega (arith, I.here p x, I.rest q y, Q.list.falls I.place q I.low (omega arith) u, least)
              ]
          falls p q l b u (inr (inr x)) (inr (inr y)) =
              omega (arith, I.rest p x, I.rest q y, Q.list.falls p q (omega (arith, I.low)) b u)
          falls p q l b u (inr (inl x)) (inl y) = let z : ⊥ = omega arith in absurd z
          falls p q l b u (inr (inl x)) (inr (inl y)) = let z : ⊥ = omega arith in absurd z
          falls p q l b u (inr (inr x)) (inl y) = let z : ⊥ = omega arith in absurd z
          falls p q l b u (inr (inr x)) (inr (inl y)) = let z : ⊥ = omega arith in absurd z

          aboves : (p : ℕ) → head - 1 ≤ p → p < Q.list.end → Place p → top < get_or front1 p 0
          aboves p l u (inl x) = omega (arith, I.moved p (omega arith) x, Q.above (p + 1) (omega arith) (omega (arith, high)))
          aboves p l u (inr (inl x)) = omega (arith, I.here p x)
          aboves p l u (inr (inr x)) = omega (arith, I.rest p x, Q.above p (omega (arith, I.low)) u)

          owns : (p : ℕ) → head - 1 ≤ p → p < Q.list.end → Place p → (i : ℕ) × (get_or front1 p 0 ≡ later i)
          owns p l u (inl x) =
              let v = Q.own (p + 1) (omega arith) (omega (arith, high)) in
              let a = Q.above (p + 1) (omega arith) (omega (arith, high)) in
              (v.0, I.moved p (omega arith) x ∙ v.1 ∙ sym (off v.0 (omega (arith, v.1))))
          owns p l u (inr (inl x)) = (j, I.here p x ∙ sym own)
          owns p l u (inr (inr x)) =
              let v = Q.own p (omega (arith, I.low)) u in
              let a = Q.above p (omega (arith, I.low)) u in
              (v.0, I.rest p x ∙ v.1 ∙ sym (off v.0 (omega (arith, v.1))))

          alls : (i : ℕ) → top < later i → Dec (i ≡ j) → (p : ℕ) × (head - 1 ≤ p) × (p < Q.list.end) × (get_or front1 p 0 ≡ later i)
          alls i h (yes e) =
              let l = I.low in
              let u = high in
              (I.place - 1, omega arith, omega arith, I.here (I.place - 1) (omega arith) ∙ sym (ap later e ∙ own))
          alls i h (no n) =
              let v = Q.all i (omega (arith, same i n)) in
              let l = v.1 in
              let u = v.2 in
              elim (dec_lt v.0 I.place) [
                | yes b ↦ (
                    let e : v.0 - 1 + 1 ≡ v.0 = omega arith in (
                      v.0 - 1,
                      omega arith,
                      omega arith,
                      I.moved (v.0 - 1) (omega arith) (omega arith) ∙ ap (λ (x : ℕ). get_or front x 0) e ∙ v.3 ∙ sym (same i n),
                    )
                    )
                | no b ↦ (v.0, omega arith, u, I.rest v.0 (omega arith) ∙ v.3 ∙ sym (same i n))
              ]

          pub queued-inserted : Queued later top (length dist) offsets tree front1 (head - 1)
          queued-inserted =
              record {
                index = indexed-same (λ i.
                    elim (ℕ_discrete i j) [
                      | yes e ↦ (
                          let k = ap key e in
                          let l = ap later e in
                          up-to-below key top i (omega arith) ∙ k ∙ none ∙ sym (up-to-above later top i (omega arith))
                          )
                      | no n ↦ sym (up-to-same top key later i (same i n))
                    ]) Q.index;
                list =
                    record {
                      end = Q.list.end;
                      order = omega (arith, Q.list.order);
                      room = omega (arith, Q.list.room, I.same);
                      ended = I.rest Q.list.end high ∙ Q.list.ended;
                      falls = λ p q l b u. falls p q l b u (place p) (place q);
                    };
                above = λ p l u. aboves p l u (place p);
                own = λ p l u. owns p l u (place p);
                all = λ i h. alls i h (ℕ_discrete i j);
              }

    -- ---- the last of the front goes into the index

    module _ (e : ℕ) (ends : Q.list.end ≡ e + 1) (low : head ≤ e) where
      abbrev last : ℕ
      last = get_or front e 0

      last-above : top < last
      last-above = Q.above e low (omega arith)

      last-own : last ≡ key (voxel_of last)
      last-own =
          let w = Q.own e low (omega arith) in
          let v = keyed-named hurried dist key K w.0 (omega (arith, w.1, last-above)) in
          w.1 ∙ ap key (sym v) ∙ ap (λ (x : ℕ). key (voxel_of x)) (sym w.1)

      pub last-inside : voxel_of last < length dist
      last-inside = K.inside (voxel_of last) (omega (arith, last-own, last-above))

      same-but : (i : ℕ) → (i ≡ voxel_of last → ⊥) → up_to last key i ≡ up_to top key i
      same-but i n =
          elim (dec_lt top (key i)) [
            | yes h ↦ (
                let w = Q.all i h in
                let l = w.1 in
                let u = w.2 in
                let d : w.0 ≡ e → ⊥ = λ q. n (sym (keyed-named hurried dist key K i (omega arith))
                ∙ ap voxel_of (sym w.3 ∙ ap (λ (x : ℕ). get_or front x 0) q)) in
                up-to-above key last i (omega (arith, w.3, Q.list.falls w.0 e l (omega arith) (omega arith)))
                ∙ sym (up-to-above key top i h)
                )
            | no h ↦ up-to-below key last i (omega (arith, last-above)) ∙ sym (up-to-below key top i (omega arith))
          ]

      pub last-raising : Raising dist offsets tree (voxel_of last)
      last-raising = entering (voxel_of last) last last-inside

      pub queued-spilled : (offsets1 tree1 : List ℕ) → Raised hurried dist offsets offsets1 tree tree1 (voxel_of last) last
          → (R : Queued key last (length dist) offsets1 tree1 (set front e 0) head) × (R.list.end ≡ e)
      queued-spilled offsets1 tree1 R =
          let room = Q.list.room in
          let here = get_or-set_same front e 0 0 (omega arith) in
          let other : (p : ℕ) → p < e → get_or (set front e 0) p 0 ≡ get_or front p 0 = λ p u. get_or-set_other front e p 0 0 (λ z. omega arith) in (
            record {
              index = raised hurried dist (up_to top key) (up_to last key) up-keyed offsets tree Q.index (voxel_of last) last last-inside same-but
                  (up-to-above key top (voxel_of last) (omega (arith, last-own, last-above)))
                  (up-to-below key last (voxel_of last) (omega (arith, last-own)) ∙ sym last-own) offsets1 tree1 R;
              list =
                  record {
                    end = e;
                    order = low;
                    room = omega (arith, length-set front e 0);
                    ended = here;
                    falls = λ p q l b u.
                        elim (ℕ_discrete q e) [
                          | yes z ↦ omega (arith, here, ap (λ (x : ℕ). get_or (set front e 0) x 0) z, other p (omega arith), Q.above p l (omega arith))
                          | no z ↦ omega (arith, other p (omega arith), other q (omega arith), Q.list.falls p q l b (omega arith))
                        ];
                  };
              above = λ p l u. omega (arith, other p u, Q.list.falls p e l u (omega arith));
              own = λ p l u. (let w = Q.own p l (omega arith) in (w.0, other p u ∙ w.1));
              all = λ i h. (
                  let w = Q.all i (omega (arith, last-above)) in
                  let b = w.2 in
                  let d : w.0 ≡ e → ⊥ = λ q. omega (arith, w.3, ap (λ (x : ℕ). get_or front x 0) q) in
                  (w.0, w.1, omega arith, other w.0 (omega arith) ∙ w.3)
                  );
            },
            refl,
          )

    -- ---- the keys of the root's rank and stretch come to the front, which is empty

    abbrev root : ℕ
    root = get_or tree 1 0

    module _ (empty : get_or front head 0 ≡ 0) (some-root : 0 < root) where
      not-above : (j : ℕ) → key j ≤ root
      not-above j = key-low j (all-low empty j)

      pub root-own : (j : ℕ) × (root ≡ key j)
      root-own =
          elim (root-key (up_to top key) (length dist) offsets tree Q.index some) [
            | inl z ↦ (let y : ⊥ = omega arith in absurd y)
            | inr w ↦ (w.0, w.1 ∙ up-to-some key top w.0 (omega (arith, w.1)))
          ]

      pub root-inside : voxel_of root < length dist
      root-inside =
          let w = root-own in
          subst (λ (x : ℕ). x < length dist) (sym (ap voxel_of w.1 ∙ keyed-named hurried dist key K w.0 (omega (arith, w.1))))
          (K.inside w.0 (omega (arith, w.1)))

      -- less 1 and divided by 64, those keys are equal
      module _ (k floor : ℕ) (stretch : k ≡ voxel_of root / width) (ground : floor ≡ (root - 1) / 64 * 64) where
        one-stretch : (x : ℕ) → floor < x → x ≤ root → voxel_of x / width ≡ k
        one-stretch x l u = omega (arith, stretch)

        in-stretch : (j : ℕ) → floor < key j → j / width ≡ k
        in-stretch j h =
            sym (ap (λ (x : ℕ). x / width) (keyed-named hurried dist key K j (omega arith))) ∙ one-stretch (key j) h (not-above j)

        later-less : (x y : ℕ) → floor < x → x ≤ root → floor < y → y ≤ root → voxel_of x < voxel_of y → y < x
        later-less x y a b c d h = omega arith

        -- of one rank, they fall with the index
        pub part_falls : (i j : ℕ) → i < j → i / width ≡ k → j / width ≡ k → floor < key i → floor < key j → key j < key i
        part_falls i j h _ _ a b =
            let x = keyed-named hurried dist key K i (omega arith) in
            let y = keyed-named hurried dist key K j (omega arith) in
            later-less (key i) (key j) a (not-above i) b (not-above j) (omega arith)

        module _ (w : ℕ) (front1 : List ℕ) (P : Parted key front1 k floor w) where
          later_same : (i : ℕ) → (i / width ≡ k → ⊥) → up_to floor key i ≡ up_to top key i
          later_same i n =
              elim (dec_lt floor (key i)) [
                | yes h ↦ absurd (n (in-stretch i h))
                | no h ↦ up-to-below key floor i (omega arith) ∙ sym (up-to-below key top i (all-low empty i))
              ]

          pub root-refreshing : Refreshing dist offsets tree k w
          root-refreshing =
              refreshing (up_to top key) (up_to floor key) k later_same hurried dist (keyed-up-to hurried dist key floor K) offsets tree Q.index w
              (let i = root-inside in omega (arith, stretch)) P.greatest

          pub queued-refilled : (offsets1 tree1 : List ℕ) → Refreshed hurried dist offsets offsets1 tree tree1 k w
              → Queued key floor (length dist) offsets1 tree1 front1 lead
          queued-refilled offsets1 tree1 R =
              record {
                index = refreshed (up_to top key) (up_to floor key) k later_same hurried dist (keyed-up-to hurried dist key floor K) offsets tree Q.index w
                    (let i = root-inside in omega (arith, stretch)) P.greatest offsets1 tree1 R;
                list = P.list;
                above = λ p l u. (let v = P.own p l u in omega (arith, v.1, v.2));
                own = λ p l u. (let v = P.own p l u in (v.0, v.2));
                all = λ j h. P.all j (in-stretch j h) h;
              }

          -- and it is not empty any more
          pub refilled-some : 0 < get_or front1 lead 0
          refilled-some =
              let r = root-own in
              let v = P.all r.0 (in-stretch r.0 (omega (arith, r.1))) (omega (arith, r.1)) in
              let l = v.1 in
              let u = v.2 in
              omega (arith, P.list.falls lead P.list.end (omega arith) (omega arith) (omega arith))
