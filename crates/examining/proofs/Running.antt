-- Examinations in turn are the rule's carving.
use mathlib.Core.Path.{◌≡◌, refl, sym, ap, ap₂, ◌∙◌, subst}
use mathlib.Core.Bool.{Bool, true, false, cond}
use mathlib.Core.List.{List}
use Rattle.std.specs.Prelude.{Option, None, Some}
use Prim.Native.Nat.{ℕ, zero, suc, ◌+◌, ◌-◌, ◌≤◌, ◌<◌}
use native.Mathlib.Omega.{arith}
use lib.IntN.{ℤ}
use lib.ListN.{length}
use mir.Val.{bool_byte}
use Rattle.cells.specs.Groups.{any}
use Rattle.rules.specs.declared.Sides.{Sides}
use Rattle.rules.specs.Grid.{size, range, voxels}
use Rattle.rules.specs.Status.{is_pending, any_pending, test_at, first_of, goes, examine, Progress, progress, latest, counted, examining, carving}
use Rattle.rules.proofs.Latest.{latest-over, carving-face}
use Rattle.rules.specs.Marks.{Marked}
use Rattle.rules.specs.Machine.{may_go, sooner}
use Rattle.queue.specs.Queue.{Best, Queue}
use Rattle.examining.specs.declared.Step.{Step}
use Rattle.examining.specs.declared.Count.{Count}
use Rattle.rules.specs.Neighbours.{Inner}
use Rattle.last_removal.specs.LastRemoval.{face_after}
use Rattle.examining.specs.Examining.{Workable, Examined, Run, Tallied}
use Rattle.examining.proofs.Working.{pending-inner, workable-examine, face-examined}

-- ---- the rule, a step at a time

module _ (s : Sides) (free : ℕ → Bool) (ahead : ℕ → ℕ → Bool) (status : List ℕ) where
  abbrev next : ℕ → Option ℕ → Progress
  next n o = examining s free status (λ i. carving s free ahead n (examine s free status i)) o

  carving-none : (n : ℕ) → first_of s ahead (is_pending status) ≡ None → carving s free ahead n status ≡ progress 0 0 6 status
  unfolding carving
  carving-none zero e = refl
  carving-none (suc n) e = ap (next n) e

  carving-some : (n i : ℕ) → first_of s ahead (is_pending status) ≡ Some i
      → carving s free ahead (suc n) status
      ≡ counted (goes s free status i) (test_at s status i).face (carving s free ahead n (examine s free status i))
  unfolding carving
  carving-some n i e = ap (next n) e

  carving-zero : (n : ℕ) → n ≡ 0 → carving s free ahead n status ≡ progress 0 0 6 status
  unfolding carving
  carving-zero n e = ap (λ (m : ℕ). carving s free ahead m status) e

-- a test as a number
pub byte : (t : Bool) → bool_byte t ≡ cond t 1 0
byte true = refl
byte false = refl

pub byte-small : (t : Bool) → bool_byte t ≤ 1
byte-small true = omega arith
byte-small false = omega arith

-- what was done, and then the rest
abbrev pub onward : ℕ → ℕ → ℕ → Progress → Progress
onward examined removed face rest =
    progress (examined + rest.examined) (removed + rest.removed) (latest face rest.removed rest.face) rest.status

one_more :
    (examined removed earlier : ℕ) (t : Bool) (face : ℕ) (rest : Progress)
    → onward (examined + 1) (removed + cond t 1 0) (latest earlier (cond t 1 0) face) rest ≡ onward examined removed earlier (counted t face rest)
one_more examined removed earlier t face rest =
    let e : examined + 1 + rest.examined ≡ examined + suc rest.examined = omega arith in
    let r = removals t in
    let f = faces t in
    λ n. progress (e n) (r n) (f n) rest.status
  where
    removals : (t : Bool) → removed + cond t 1 0 + rest.removed ≡ removed + cond t (suc rest.removed) rest.removed
    removals true = omega arith
    removals false = omega arith

    faces : (t : Bool) → latest (latest earlier (cond t 1 0) face) rest.removed rest.face
        ≡ latest earlier (cond t (suc rest.removed) rest.removed) (latest (cond t face 6) rest.removed rest.face)
    faces true = refl
    faces false = sym (latest-over earlier 6 rest.removed rest.face)

no_more : (examined removed face : ℕ) (status : List ℕ) → onward examined removed face (progress 0 0 6 status) ≡ progress examined removed face status
no_more examined removed face status =
    let e : examined + 0 ≡ examined = omega arith in
    let r : removed + 0 ≡ removed = omega arith in
    λ n. progress (e n) (r n) face status

-- ---- the loop: what remains to be carved gives the same end

pub record Running (s : Sides) (mk : Marked) (dist : List ℤ) (limit : ℕ) (before offsets0 tree0 front0 status offsets tree front : List ℕ)
    (examined removed : ℕ) (last : Option ℕ) (head : ℕ) : Type 0 where
  pub rule : onward examined removed (face_after s status last) (carving s (may_go mk dist) (sooner mk dist) (limit - examined) status)
      ≡ carving s (may_go mk dist) (sooner mk dist) limit before
  pub work : Workable s status
  pub queue : Queue mk dist status offsets tree front head
  pub up_to : examined ≤ limit
  pub fewer : removed ≤ examined
  pub inner : (j : ℕ) → last ≡ Some j → Inner s j
  pub statuses : length status ≡ length before
  pub stretched : length offsets ≡ length offsets0
  pub noded : length tree ≡ length tree0
  pub placed : length front ≡ length front0

-- the choice, as a match has it
pub best-as : {mk : Marked} {dist : List ℤ} {status front : List ℕ} {head : ℕ} {c d : Option ℕ} → c ≡ d → Best mk dist status front head c
    → Best mk dist status front head d
best-as {mk} {dist} {status} {front} {head} e b = subst (Best mk dist status front head) e b

-- the front is filled
pub running-filled :
    {s : Sides} {mk : Marked} {dist : List ℤ} {limit : ℕ} {before offsets0 tree0 front0 status offsets tree front offsets1 tree1 front1 : List ℕ}
    {examined removed head head1 : ℕ} {last : Option ℕ} → Running s mk dist limit before offsets0 tree0 front0 status offsets tree front examined removed last head
    → Queue mk dist status offsets1 tree1 front1 head1 → length offsets1 ≡ length offsets → length tree1 ≡ length tree → length front1 ≡ length front
    → Running s mk dist limit before offsets0 tree0 front0 status offsets1 tree1 front1 examined removed last head1
running-filled k Q lo lt lf =
    record {
      rule = k.rule;
      work = k.work;
      queue = Q;
      up_to = k.up_to;
      fewer = k.fewer;
      inner = k.inner;
      statuses = k.statuses;
      stretched = lo ∙ k.stretched;
      noded = lt ∙ k.noded;
      placed = lf ∙ k.placed;
    }

module _ (s : Sides) (mk : Marked) (dist : List ℤ) (limit : ℕ) (before offsets0 tree0 front0 : List ℕ) where
  abbrev rest : ℕ → List ℕ → Progress
  rest n status = carving s (may_go mk dist) (sooner mk dist) n status

  pub running-start : (head : ℕ) → Queue mk dist before offsets0 tree0 front0 head → Workable s before
      → Running s mk dist limit before offsets0 tree0 front0 before offsets0 tree0 front0 0 0 None head
  running-start head i w =
      let z : limit - 0 ≡ limit = omega arith in
      let p = rest limit before in
      let e : 0 + p.examined ≡ p.examined = omega arith in
      let r : 0 + p.removed ≡ p.removed = omega arith in
      record {
        rule =
            ap (λ (n : ℕ). onward 0 0 6 (rest n before)) z
            ∙ (λ n. progress (e n) (r n) (carving-face s (may_go mk dist) (sooner mk dist) limit before n) p.status);
        work = w;
        queue = i;
        up_to = omega arith;
        fewer = omega arith;
        inner = λ j e. (cc);
        statuses = refl;
        stretched = refl;
        noded = refl;
        placed = refl;
      }

  module _ (status offsets tree front : List ℕ) (examined removed : ℕ) (last : Option ℕ) (head : ℕ)
      (k : Running s mk dist limit before offsets0 tree0 front0 status offsets tree front examined removed last head) where
    first-is : (c : Option ℕ) → Best mk dist status front head c → first_of s (sooner mk dist) (is_pending status) ≡ c
    first-is c b = sym (b.rule s (sym k.work.body.statuses.lent))

    abbrev reached : Count
    reached = record { examined = examined; removed = removed; last = last; head = head }

    ended : rest (limit - examined) status ≡ progress 0 0 6 status → Run s mk dist limit before status offsets tree front reached
    ended f =
        let face = face_after s status last in
        record {
          rule = sym (no_more examined removed face status) ∙ ap (onward examined removed face) (sym f) ∙ k.rule;
          up_to = k.up_to;
          fewer = k.fewer;
          last = record { statuses = k.work.body.statuses; voxel = k.inner };
          queue = k.queue;
        }

    pub running_none : Best mk dist status front head None → Run s mk dist limit before status offsets tree front reached
    running_none b = ended (carving-none s (may_go mk dist) (sooner mk dist) status (limit - examined) (first-is None b))

    pub running-done : limit ≤ examined → Run s mk dist limit before status offsets tree front reached
    running-done h = ended (carving-zero s (may_go mk dist) (sooner mk dist) status (limit - examined) (omega arith))

    module _ (i : ℕ) (b : Best mk dist status front head (Some i)) where
      pub running-below : i < size s
      running-below = let h = b.inside i refl in omega (arith, k.work.body.statuses.lent)

      pub running-step :
          (after offsets1 tree1 front1 : List ℕ) (r : Step) (now : Option ℕ) (one : ℕ)
          → examined < limit
          → Examined s mk dist status after offsets1 tree1 front1 i r
          → now ≡ cond r.removed (Some i) last
          → one ≡ bool_byte r.removed
          → length after ≡ length status
          → length offsets1 ≡ length offsets
          → length tree1 ≡ length tree
          → length front1 ≡ length front
          → Running s mk dist limit before offsets0 tree0 front0 after offsets1 tree1 front1 (examined + 1) (removed + one) now r.head
      running-step after offsets1 tree1 front1 r now one h x y z ls lo lt lf =
          let n : limit - examined ≡ suc (limit - (examined + 1)) = omega arith in
          let m : ℕ = limit - (examined + 1) in
          let free = may_go mk dist in
          let u = goes s free status i in
          let face = face_after s status last in
          let c : one ≡ cond u 1 0 = z ∙ byte r.removed ∙ ap (λ (t : Bool). cond t 1 0) x.gone in
          let waits = b.pending i refl in
          record {
            rule =
                ap (λ (n : ℕ). onward (examined + 1) (removed + n) (face_after s after now) (rest m after)) c
                ∙ ap₂ (λ (v : Option ℕ) (l : List ℕ). onward (examined + 1) (removed + cond u 1 0) (face_after s l v) (rest m l))
                (y ∙ ap (λ (t : Bool). cond t (Some i) last) x.gone) x.status
                ∙ ap (λ (f : ℕ). onward (examined + 1) (removed + cond u 1 0) f (rest m (examine s free status i)))
                (face-examined s status k.work i running-below waits free last)
                ∙ one_more examined removed face u (test_at s status i).face (rest m (examine s free status i))
                ∙ ap (onward examined removed face) (sym (carving-some s free (sooner mk dist) status m i (first-is (Some i) b)))
                ∙ ap (λ (j : ℕ). onward examined removed face (rest j status)) (sym n)
                ∙ k.rule;
            work = subst (Workable s) (sym x.status) (workable-examine s status k.work free i running-below waits);
            queue = x.queue;
            up_to = omega arith;
            fewer = omega (arith, byte-small r.removed, k.fewer);
            inner = inner r.removed y;
            statuses = ls ∙ k.statuses;
            stretched = lo ∙ k.stretched;
            noded = lt ∙ k.noded;
            placed = lf ∙ k.placed;
          }
        where
          inner : (t : Bool) → now ≡ cond t (Some i) last → (j : ℕ) → now ≡ Some j → Inner s j
          inner true y j e = let q : i ≡ j = cc in subst (Inner s) q (pending-inner s status k.work i running-below (b.pending i refl))
          inner false y j e = k.inner j (sym y ∙ e)

-- ---- what is still pending

pub tallied :
    (s : Sides) (mk : Marked) (dist : List ℤ) (limit : ℕ) (before after offsets tree front : List ℕ) (c : Count) (p : Bool) (face : ℕ)
    → Workable s before
    → length after ≡ length before
    → Run s mk dist limit before after offsets tree front c
    → p ≡ any (is_pending after) (range 0 (length after))
    → face ≡ face_after s after c.last
    → Tallied s mk dist limit before after (record { examined = c.examined; removed = c.removed; pending = p; face = face })
unfolding any_pending voxels
tallied s mk dist limit before after offsets tree front c p face w l r e f =
    record {
      rule = ap (λ (f : ℕ). progress c.examined c.removed f after) f ∙ r.rule;
      up_to = r.up_to;
      fewer = r.fewer;
      left = e ∙ ap (λ (n : ℕ). any (is_pending after) (range 0 n)) (l ∙ w.body.statuses.lent);
    }
