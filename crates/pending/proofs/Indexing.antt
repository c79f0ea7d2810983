-- The index for any key: its root is the greatest key, and what a change of one voxel's key, or of one stretch's, does to it.
use mathlib.Core.Path.{◌≡◌, refl, sym, ap, ◌∙◌, subst}
use mathlib.Core.Logic.{◌⊎◌, inl, inr}
use mathlib.Core.Bool.{Bool}
use mathlib.Core.List.{List}
use Prim.Native.Nat.{ℕ, ◌+◌, ◌*◌, ◌/◌, ◌%◌, ◌≤◌, ◌<◌, max}
use native.Mathlib.Omega.{arith}
use native.Mathlib.Decide.{ℕ_discrete}
use lib.IntN.{ℤ}
use lib.ListN.{length, get_or, set, length-set}
use Rattle.keys.specs.Key.{width, stretches, stretch_key}
use Rattle.keys.proofs.Ranks.{Keyed}
use Rattle.keys.proofs.Greatest.{greatest-same, greatest-le, greatest-of, greatest-raise}
use Rattle.winners.specs.Tree.{Nodes, Changed}
use Rattle.winners.proofs.Root.{root-top, root-leaf}
use Rattle.offsets.specs.Offsets.{offset_of, Offset, Offsets, held_key, group, groups, group_key}
use Rattle.offsets.proofs.Offsets.{at_set, stretch-of, offset-on, offset_made, offset-same}
use Rattle.offsets.proofs.Held.{keyed-named, held, held-key, held-group}
use Rattle.pending.specs.Index.{Indexed, Raising, Raised, Refreshing, Refreshed}

-- over the number of groups, as code counts them
pub indexed :
    (key : ℕ → ℕ) (n : ℕ) (offsets tree : List ℕ) (h : ℕ) → h ≡ groups (stretches n) → Offsets key (stretches n) offsets → Nodes h tree
    → ((q : ℕ) → q < h → get_or tree (h + q) 0 ≡ group_key key q) → Indexed key n offsets tree
indexed key n offsets tree h count O N leaf =
    record {
      offset = O;
      nodes = subst (λ (q : ℕ). Nodes q tree) count N;
      leaf = subst (λ (p : ℕ). (q : ℕ) → q < p → get_or tree (p + q) 0 ≡ group_key key q) count leaf;
    }

-- ---- the root

module _ (key : ℕ → ℕ) where
  key-le-stretch : (j : ℕ) → key j ≤ stretch_key key (j / width)
  unfolding stretch_key
  key-le-stretch j = greatest-le key (width * (j / width)) width j (omega arith) (omega arith)

  stretch-le-group : (k : ℕ) → stretch_key key k ≤ group_key key (k / group)
  unfolding group_key
  stretch-le-group k = greatest-le (stretch_key key) (group * (k / group)) group k (omega arith) (omega arith)

  group_of : (q : ℕ) → (group_key key q ≡ 0) ⊎ ((j : ℕ) × (group_key key q ≡ key j))
  unfolding group_key
  group_of q =
      elim (greatest-of (stretch_key key) (group * q) group) [
        | inl z ↦ inl z
        | inr w ↦ elim (stretch-of key w.0) [ inl z ↦ inl (w.3 ∙ z) | inr v ↦ inr (v.0, w.3 ∙ v.3) ]
      ]

  module _ (n : ℕ) (offsets tree : List ℕ) (I : Indexed key n offsets tree) where
    -- no key is greater than the root
    pub root-greatest : (j : ℕ) → j < n → key j ≤ get_or tree 1 0
    root-greatest j h =
        omega (
          arith,
          key-le-stretch j,
          stretch-le-group (j / width),
          I.leaf (j / width / group) (omega arith),
          root-top (groups (stretches n)) tree I.nodes (j / width / group) (omega arith),
        )

    -- which is one of them, or 0
    pub root-key : 1 ≤ n → (get_or tree 1 0 ≡ 0) ⊎ ((j : ℕ) × (get_or tree 1 0 ≡ key j))
    root-key s =
        let k = root-leaf (groups (stretches n)) tree I.nodes (omega arith) in
        let e = k.2 ∙ I.leaf k.0 k.1 in
        elim (group_of k.0) [ inl z ↦ inl (e ∙ z) | inr w ↦ inr (w.0, e ∙ w.1) ]

-- ---- the keys of one stretch change

module _ (key later : ℕ → ℕ) (k : ℕ) (same : (i : ℕ) → (i / width ≡ k → ⊥) → later i ≡ key i) where
  stretch-other : (c : ℕ) → (c ≡ k → ⊥) → stretch_key later c ≡ stretch_key key c
  unfolding stretch_key
  stretch-other c n = greatest-same later key (width * c) width (λ i l u. same i (λ e. n (omega arith)))

  -- only its group changes
  group-other : (q : ℕ) → (q ≡ k / group → ⊥) → group_key later q ≡ group_key key q
  unfolding group_key
  group-other q n = greatest-same (stretch_key later) (stretch_key key) (group * q) group (λ c l u. stretch-other c (λ e. n (omega arith)))

  -- once its offset is made anew
  offsets-set : (p : ℕ) (offsets : List ℕ) (v : ℕ) → k < p → Offset later k v → Offsets key p offsets → Offsets later p (set offsets k v)
  offsets-set p offsets v h o O =
      let z = length-set offsets k v in
      let r = O.room in
      record {
        room = omega arith;
        each = λ c u.
            at_set (λ (x : ℕ). Offset later c x) offsets k v c (omega arith)
            (λ q. subst (λ (x : ℕ). Offset later x v) (sym q) o)
            (λ q. offset-same key c later _ (stretch-other c q) (λ l _. same _ (λ e. q (omega arith))) (O.each c u));
      }

  module _ (n : ℕ) (offsets tree : List ℕ) (I : Indexed key n offsets tree) where
    -- and the leaf of its group, it is the index
    indexed-set :
        (after grown : List ℕ) (v : ℕ) → Offsets later (stretches n) after → v ≡ group_key later (k / group)
        → Changed (groups (stretches n)) (k / group) v tree grown → Indexed later n after grown
    indexed-set after grown v O e C =
        record {
          offset = O;
          nodes = C.nodes;
          leaf = λ m u.
              elim (ℕ_discrete m (k / group)) [
                | yes q ↦ ap (λ (x : ℕ). get_or grown (groups (stretches n) + x) 0) q ∙ C.here ∙ e ∙ ap (group_key later) (sym q)
                | no q ↦ C.others m u q ∙ I.leaf m u ∙ sym (group-other m q)
              ];
        }

  -- ---- the stretch is made anew

  module _ (hurried : ℕ → Bool) (dist : List ℤ) (K : Keyed hurried dist later) (offsets tree : List ℕ) (I : Indexed key (length dist) offsets tree)
      (w : ℕ) (inside : k < stretches (length dist)) (greatest : w ≡ stretch_key later k)
    where
      offsets-now : Offsets later (stretches (length dist)) (set offsets k (offset_of w))
      offsets-now =
          offsets-set (stretches (length dist)) offsets (offset_of w) inside
          (offset_made later k (keyed-named hurried dist later K) w (offset_of w) greatest refl) I.offset

      pub refreshing : Refreshing dist offsets tree k w
      refreshing = record { held = held hurried dist later K _ offsets-now; nodes = I.nodes; inside = inside }

      pub refreshed : (offsets1 tree1 : List ℕ) → Refreshed hurried dist offsets offsets1 tree tree1 k w → Indexed later (length dist) offsets1 tree1
      refreshed offsets1 tree1 R =
          indexed-set (length dist) offsets tree I offsets1 tree1 _ (subst (Offsets later (stretches (length dist))) (sym R.best) offsets-now)
          (held-group hurried dist later K _ offsets-now _ _ (omega arith) refl) R.keys

-- ---- voxel j, which had no key, has the key w later

module _ (hurried : ℕ → Bool) (dist : List ℤ) (key later : ℕ → ℕ) (K : Keyed hurried dist key) (offsets tree : List ℕ)
    (I : Indexed key (length dist) offsets tree) (j w : ℕ) (inside : j < length dist)
  where
    pub raising : Raising dist offsets tree j
    raising = record { held = held hurried dist key K offsets I.offset; nodes = I.nodes; inside = inside }

    module _ (same : (i : ℕ) → (i ≡ j → ⊥) → later i ≡ key i) (none : key j ≡ 0) (own : later j ≡ w) where
      in-stretch : (i : ℕ) → (i / width ≡ j / width → ⊥) → later i ≡ key i
      in-stretch i n = same i (λ e. n (ap (λ (x : ℕ). x / width) e))

      stretch-raised : stretch_key later (j / width) ≡ max (stretch_key key (j / width)) w
      unfolding stretch_key
      stretch-raised =
          greatest-raise key later (width * (j / width)) width j w (omega arith) (omega arith) (omega arith) (λ i n. sym (same i n))

      group-raised : group_key later (j / width / group) ≡ max (group_key key (j / width / group)) w
      unfolding group_key
      group-raised =
          greatest-raise (stretch_key key) (stretch_key later) (group * (j / width / group)) group (j / width) w (omega arith) (omega arith)
          stretch-raised (λ k n. sym (stretch-other key later (j / width) in-stretch k n))

      held-now : held_key hurried dist offsets (j / width) ≡ stretch_key key (j / width)
      held-now = held-key hurried dist key K offsets I.offset (j / width) (omega arith)

      -- not above its stretch's
      kept : w ≤ stretch_key key (j / width) → Indexed later (length dist) offsets tree
      kept h =
          record {
            offset = record { room = I.offset.room; each = λ k u. offset-same key k later _ (stretch-same k) (λ l p. here _ p) (I.offset.each k u) };
            nodes = I.nodes;
            leaf = λ q u. I.leaf q u ∙ sym (group-same q);
          }
        where
          here : (i : ℕ) → 0 < key i → later i ≡ key i
          here i p = same i (λ e. omega (arith, ap key e))

          stretch-same : (k : ℕ) → stretch_key later k ≡ stretch_key key k
          stretch-same k =
              elim (ℕ_discrete k (j / width)) [
                | yes e ↦
                    let m : max (stretch_key key (j / width)) w ≡ stretch_key key (j / width) = omega arith in
                    ap (stretch_key later) e ∙ stretch-raised ∙ m ∙ ap (stretch_key key) (sym e)
                | no e ↦ stretch-other key later (j / width) in-stretch k e
              ]

          group-same : (q : ℕ) → group_key later q ≡ group_key key q
          group-same q = unfold group_key in greatest-same (stretch_key later) (stretch_key key) (group * q) group (λ k l u. stretch-same k)

      pub raised : (offsets1 tree1 : List ℕ) → Raised hurried dist offsets offsets1 tree tree1 j w → Indexed later (length dist) offsets1 tree1
      raised offsets1 tree1 (inl R) =
          subst (λ (t : List ℕ). Indexed later (length dist) offsets1 t) (sym R.keys)
          (subst (λ (o : List ℕ). Indexed later (length dist) o tree) (sym R.best) (kept (omega (arith, R.below, held-now))))
      raised offsets1 tree1 (inr R) =
          let less : stretch_key key (j / width) < w = omega (arith, R.above, held-now) in
          let m : max (stretch_key key (j / width)) w ≡ w = omega arith in
          subst (λ (o : List ℕ). Indexed later (length dist) o tree1) (sym R.best) (
          indexed-set key later (j / width) in-stretch (length dist) offsets tree I _ tree1 _
          (offsets-set key later (j / width) in-stretch (stretches (length dist)) offsets (j % width) (omega arith)
          (offset-on later (j / width) (j % width) j (omega arith) (omega arith) (stretch-raised ∙ m ∙ sym own) (omega arith)) I.offset)
          (ap (λ (x : ℕ). max x w) (I.leaf (j / width / group) (omega arith)) ∙ sym group-raised) R.keys
          )
