-- A flood that is started at a voxel and runs until its work list is used up takes the voxels that are linked to it.
use mathlib.Core.Path.{◌≡◌, refl, sym, ap, ◌∙◌, subst}
use mathlib.Core.Logic.{◌⊎◌, inl, inr, ⊎_elim}
use mathlib.Core.Bool.{Bool, true}
use mathlib.Core.List.{List, [], ◌∷◌}
use Prim.Native.Nat.{ℕ, ◌+◌, ◌≤◌, ◌<◌}
use native.Mathlib.Omega.{arith}
use lib.Dec.{eqb}
use lib.IntN.{pos}
use lib.ListN.{length, get_or, set, length-set}
use lib.Seq.{get_or-set_same, get_or-set_other}
use borrow.Author.Tests.{eq-eqb, eqb-true, eqb-false}
use Rattle.cells.specs.Linked.{Linked, stay, step}
use Rattle.prelude.proofs.Bools.{two}
use Rattle.cells.proofs.Chains.{follow}
use Rattle.prelude.proofs.Lists.{Mem, here, there, mem-cons}
use Rattle.cells.proofs.Groups.{mem-none}
use Rattle.rules.specs.Grid.{amount}
use Rattle.pushing.specs.Push.{Fill, pushed, push, push_all, labelled, untaken, Ready}
use Rattle.floods.specs.Flood.{Taken, Flooded}
use Rattle.pushing.proofs.Pushes.{push-yes, push-no, label-lt, pushed-count, has_room, pushed_ready}

-- an element after a store: the one stored, or another
pub data Stored {A : Type 0} (l : List A) (d : A) (j : ℕ) (v : A) (i : ℕ) : Type 0 where
  same : i ≡ j → get_or (set l j v) i d ≡ v → Stored l d j v i
  other : (i ≡ j → ⊥) → get_or (set l j v) i d ≡ get_or l i d → Stored l d j v i

stored : {A : Type 0} (l : List A) (d : A) (j : ℕ) (v : A) (i : ℕ) → j < length l → Stored l d j v i
stored l d j v i h =
    ⊎_elim
    (λ e. let q = eqb-true i j e in same q (subst (λ (x : ℕ). get_or (set l j v) x d ≡ v) (sym q) (get_or-set_same l j v d h)))
    (λ e. let q = eqb-false i j e in other q (get_or-set_other l j i v d q))
    (two (eqb i j))

-- Neighbours of any kind: `near`, and the list of a voxel's neighbours. B is what the flood starts from.
module _ (near : ℕ → ℕ → Bool) (around : ℕ → List ℕ) (into : (v j : ℕ) → near v j ≡ true → Mem j (around v))
    (out : (v j : ℕ) → Mem j (around v) → near v j ≡ true) (B : Fill) (seed : ℕ) where
  abbrev L : List ℕ
  L = B.labels

  -- what holds between pushes
  pub record Good (f : Fill) : Type 0 where
    pub ready : Ready f
    pub len : length f.labels ≡ length L
    pub kept : (i : ℕ) → (get_or f.labels i 0 ≡ get_or L i 0) ⊎ (Taken L f.labels i)
    pub reach : (i : ℕ) → Taken L f.labels i → Linked (labelled 1 L) near seed i
    pub longer : B.end ≤ f.end
    pub earlier : (k : ℕ) → k < B.end → get_or f.work k (pos 0) ≡ get_or B.work k (pos 0)
    pub queued : (i : ℕ) → Taken L f.labels i → (k : ℕ) × (B.end ≤ k) × (k < f.end) × (get_or f.work k (pos 0) ≡ pos i)
    pub listed : (k : ℕ) → B.end ≤ k → k < f.end → (i : ℕ) × (get_or f.work k (pos 0) ≡ pos i) × (Taken L f.labels i)
    pub counted : f.end + untaken f.labels ≡ B.end + untaken L

  -- what pushes of js leave and bring
  pub record Grown (js : List ℕ) (f g : Fill) : Type 0 where
    pub good : Good g
    pub stays : (i : ℕ) → Taken L f.labels i → Taken L g.labels i
    pub done : (k : ℕ) → k < f.end → get_or g.work k (pos 0) ≡ get_or f.work k (pos 0)
    pub longer : f.end ≤ g.end
    pub hits : (j : ℕ) → Mem j js → get_or L j 0 ≡ 1 → Taken L g.labels j

  -- a voxel that is untaken was so from the start
  was-untaken : (f : Fill) (j : ℕ) → Good f → get_or f.labels j 0 ≡ 1 → get_or L j 0 ≡ 1
  was-untaken f j G e = ⊎_elim (λ q. sym q ∙ e) (λ t. t.was) (G.kept j)

  module _ (j : ℕ) (f : Fill) (G : Good f) (one : get_or f.labels j 0 ≡ 1) (linked : Linked (labelled 1 L) near seed j) where
    j-lt : j < length f.labels
    j-lt = label-lt f.labels j one

    -- taken before, or just now
    pushed-taken : (i : ℕ) → Taken L (set f.labels j 2) i → (i ≡ j) ⊎ (Taken L f.labels i)
    pushed-taken i t =
        elim (stored f.labels 0 j 2 i j-lt) [
          | same e v ↦ inl e
          | other n v ↦ inr (record { was = t.was; made = sym v ∙ t.made })
        ]

    taken-pushed : (i : ℕ) → Taken L f.labels i → Taken L (set f.labels j 2) i
    taken-pushed i t =
        elim (stored f.labels 0 j 2 i j-lt) [
          | same e v ↦ record { was = t.was; made = v }
          | other n v ↦ record { was = t.was; made = v ∙ t.made }
        ]

    taken-now : Taken L (set f.labels j 2) j
    taken-now = record { was = was-untaken f j G one; made = get_or-set_same f.labels j 2 0 j-lt }

    room : f.end < length f.work
    room = has_room j f G.ready one

    -- an entry before the end
    entry-stays : (k : ℕ) → k < f.end → get_or (set f.work f.end (pos j)) k (pos 0) ≡ get_or f.work k (pos 0)
    entry-stays k l = get_or-set_other f.work f.end k (pos j) (pos 0) (λ z. let b : ⊥ = omega arith in b)

    pushed-good : Good (pushed j f)
    pushed-good =
        let lo = G.longer in
        record {
          ready = pushed_ready j f G.ready one;
          len = length-set f.labels j 2 ∙ G.len;
          kept = λ i.
              elim (stored f.labels 0 j 2 i j-lt) [
                | same e v ↦ inr (subst (Taken L (set f.labels j 2)) (sym e) taken-now)
                | other n v ↦ ⊎_elim (λ q. inl (v ∙ q)) (λ t. inr (taken-pushed i t)) (G.kept i)
              ];
          reach = λ i t. ⊎_elim (λ e. subst (Linked (labelled 1 L) near seed) (sym e) linked) (λ u. G.reach i u) (pushed-taken i t);
          longer = omega arith;
          earlier = λ k l. entry-stays k (omega arith) ∙ G.earlier k l;
          queued = λ i t.
              ⊎_elim
              (λ e. (f.end, lo, omega arith, get_or-set_same f.work f.end (pos j) (pos 0) room ∙ ap pos (sym e)))
              (λ u. let q = G.queued i u in let l = q.2 in (q.0, q.1, omega arith, entry-stays q.0 l ∙ q.3))
              (pushed-taken i t);
          listed = λ k h l.
              elim (stored f.work (pos 0) f.end (pos j) k room) [
                | same e v ↦ (j, v, taken-now)
                | other n v ↦ let q = G.listed k h (omega arith) in (q.0, v ∙ q.1, taken-pushed q.0 q.2)
              ];
          counted = let c = pushed-count j f one in let e = G.counted in omega arith;
        }

    pushed-grown : Grown (j ∷ []) f (pushed j f)
    pushed-grown =
        record {
          good = pushed-good;
          stays = taken-pushed;
          done = entry-stays;
          longer = omega arith;
          hits = λ i m o. elim (mem-cons m) [ inl e ↦ subst (Taken L (set f.labels j 2)) (sym e) taken-now | inr n ↦ absurd (mem-none n) ];
        }

  grown-none : (f : Fill) → Good f → Grown [] f f
  grown-none f G = record { good = G; stays = λ i t. t; done = λ k l. refl; longer = omega arith; hits = λ j m o. absurd (mem-none m) }

  -- a push of a voxel that is linked if it was untaken
  push-grown : (j : ℕ) (f : Fill) → Good f → (get_or L j 0 ≡ 1 → Linked (labelled 1 L) near seed j) → Grown (j ∷ []) f (push j f)
  push-grown j f G r =
      ⊎_elim
      (λ e.
      let one = eqb-true (get_or f.labels j 0) 1 e in
      subst (Grown (j ∷ []) f) (sym (push-yes j f one)) (pushed-grown j f G one (r (was-untaken f j G one))))
      (λ e.
      let none = eqb-false (get_or f.labels j 0) 1 e in
      subst (Grown (j ∷ []) f) (sym (push-no j f none))
      (
      record {
        good = G;
        stays = λ i t. t;
        done = λ k l. refl;
        longer = omega arith;
        hits = λ i m o.
            elim (mem-cons m) [
              | inl q ↦ ⊎_elim (λ v. absurd (none (ap (λ (x : ℕ). get_or f.labels x 0) (sym q) ∙ v ∙ o))) (λ t. t) (G.kept i)
              | inr n ↦ absurd (mem-none n)
            ];
      }
      ))
      (two (eqb (get_or f.labels j 0) 1))

  grown-then : (j : ℕ) (js : List ℕ) (f g h : Fill) → Grown (j ∷ []) f g → Grown js g h → Grown (j ∷ js) f h
  grown-then j js f g h p q =
      let a = p.longer in
      let b = q.longer in
      record {
        good = q.good;
        stays = λ i t. q.stays i (p.stays i t);
        done = λ k l. q.done k (omega arith) ∙ p.done k l;
        longer = omega arith;
        hits = λ i m o.
            elim (mem-cons m) [ inl e ↦ q.stays i (p.hits i (subst (λ (x : ℕ). Mem x (j ∷ [])) (sym e) here) o) | inr n ↦ q.hits i n o ];
      }

  all_grown : (js : List ℕ) (f : Fill) → Good f → ((j : ℕ) → Mem j js → get_or L j 0 ≡ 1 → Linked (labelled 1 L) near seed j)
      → Grown js f (push_all js f)
  unfolding push_all
  all_grown [] f G r = grown-none f G
  all_grown (j ∷ js) f G r =
      let p = push-grown j f G (r j here) in
      grown-then j js f (push j f) (push_all js (push j f)) p (all_grown js (push j f) p.good (λ i m. r i (there m)))

  -- ---- the run: the entries before `at` have had their turn

  pub record State (f : Fill) (at : ℕ) : Type 0 where
    pub good : Good f
    pub done : (k i : ℕ) → B.end ≤ k → k < at → get_or f.work k (pos 0) ≡ pos i → (j : ℕ) → get_or L j 0 ≡ 1 → near i j ≡ true
        → Taken L f.labels j
    pub begun : Taken L f.labels seed
    pub from_start : B.end ≤ at
    pub upto : at ≤ f.end

  first_good : Ready B → Good B
  first_good R =
      record {
        ready = R;
        len = refl;
        kept = λ i. inl refl;
        reach = λ i t. absurd (never i t);
        longer = omega arith;
        earlier = λ k l. refl;
        queued = λ i t. absurd (never i t);
        listed = λ k h l. let z : ⊥ = omega arith in absurd z;
        counted = refl;
      }
    where
      never : (i : ℕ) → Taken L L i → ⊥
      never i t = let a = t.was in let b = t.made in omega arith

  pub start-state : Ready B → get_or L seed 0 ≡ 1 → State (push seed B) B.end
  start-state R e =
      let p = push-grown seed B (first_good R) (λ o. stay (eq-eqb (get_or L seed 0) 1 e)) in
      record {
        good = p.good;
        done = λ k i h l. let z : ⊥ = omega arith in absurd z;
        begun = p.hits seed here e;
        from_start = omega arith;
        upto = p.longer;
      }

  module _ (f : Fill) (at : ℕ) (T : State f at) (u : ℕ) (more : at < f.end) (turn : get_or f.work at (pos 0) ≡ pos u) where
    pub turn-taken : Taken L f.labels u
    turn-taken =
        let q = T.good.listed at T.from_start more in
        subst (Taken L f.labels) (ap amount (sym q.1 ∙ turn)) q.2

    pub turn-state : State (push_all (around u) f) (at + 1)
    turn-state =
        record {
          good = p.good;
          done = λ k i h l e j o t.
              let a = p.longer in
              ⊎_elim
              (λ q.
              let k-is = eqb-true k at q in
              let here-is : get_or f.work at (pos 0) ≡ pos i =
              ap (λ (x : ℕ). get_or f.work x (pos 0)) (sym k-is) ∙ sym (p.done k (omega arith)) ∙ e in
              let i-is : i ≡ u = ap amount (sym here-is ∙ turn) in
              p.hits j (into u j (subst (λ (x : ℕ). near x j ≡ true) i-is t)) o)
              (λ q.
              let n = eqb-false k at q in
              p.stays j (T.done k i h (omega arith) (sym (p.done k (omega arith)) ∙ e) j o t))
              (two (eqb k at));
          begun = p.stays seed T.begun;
          from_start = let b = T.from_start in omega arith;
          upto = let a = p.longer in omega arith;
        }
      where
        p : Grown (around u) f (push_all (around u) f)
        p =
            all_grown (around u) f T.good
            (λ j m o. step (T.good.reach u turn-taken) (out u j m) (eq-eqb (get_or L j 0) 1 o))

  -- the work list is used up
  all-taken : (f : Fill) → State f f.end → (i : ℕ) → Linked (labelled 1 L) near seed i → Taken L f.labels i
  all-taken f T i l =
      follow (Taken L f.labels)
      (λ u v t j m. let q = T.good.queued u t in T.done q.0 u q.1 q.2 q.3 v (eqb-true (get_or L v 0) 1 m) j)
      l T.begun

  pub ended : (f : Fill) (at : ℕ) → f.end ≤ at → State f at → Flooded near B f seed
  ended f at h T₀ =
      let G = T₀.good in
      let u = T₀.upto in
      let T = subst (State f) (let e : at ≡ f.end = omega arith in e) T₀ in
      record {
        len = G.len;
        kept = G.kept;
        linked = G.reach;
        whole = all-taken f T;
        longer = G.longer;
        earlier = G.earlier;
        listed = G.listed;
        queued = G.queued;
        counted = G.counted;
      }
