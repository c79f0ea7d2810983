-- The queue of pending voxels, step by step.
use mathlib.Core.Path.{◌≡◌, refl, sym, ap, ◌∙◌}
use mathlib.Core.Bool.{Bool, true, false}
use mathlib.Core.List.{List}
use Prim.Native.Nat.{ℕ, ◌+◌, ◌-◌, ◌*◌, ◌/◌, ◌≤◌, ◌<◌}
use native.Mathlib.Omega.{arith}
use native.Mathlib.Decide.{ℕ_discrete, dec_lt}
use lib.IntN.{ℤ}
use lib.ListN.{length, get_or, set, length-set}
use lib.Seq.{get_or-set_same}
use Rattle.rules.specs.Status.{pending_byte, is_pending}
use Rattle.rules.specs.Marks.{Marked}
use Rattle.keys.specs.Key.{key_at, voxel_key, voxel_of, width}
use Rattle.keys.proofs.Ranks.{pending-inside, key-by, key-some, Keyed, keyed}
use Rattle.offsets.proofs.Held.{keyed-named}
use Rattle.pending.specs.Index.{Index, Raising, Raised, Refreshing, Refreshed}
use Rattle.front.specs.Front.{Inserted, lead, Parting, Parted}
use Rattle.queue.specs.Queue.{places, Queue, Filled}
use Rattle.queue.proofs.Changes.{key-other, lent-set, key_set}
use Rattle.queue.proofs.Queuing.{queued-empty, queued-start, all-low, root-low, lowered, entering, queued-left, queued-raised, queued-inserted}
use Rattle.queue.proofs.Queuing.{last-inside, last-raising, queued-spilled}
use Rattle.queue.proofs.Queuing.{root-inside, part_falls, root-refreshing, queued-refilled, refilled-some}

module _ (m : Marked) (dist : List ℤ) (status : List ℕ) where
  abbrev hurried : ℕ → Bool
  hurried = m.hurried

  abbrev key : ℕ → ℕ
  key = key_at hurried dist status

  pub queue-start : (offsets tree front : List ℕ) → Index m dist status offsets tree → length front ≡ places
      → Queue m dist status offsets tree (set front lead 0) lead
  queue-start offsets tree front I room =
      let n = length-set front lead 0 in
      record {
        lent = I.lent;
        room = n ∙ room;
        top = get_or tree 1 0;
        keys = queued-start hurried dist key (keyed hurried dist status I.lent) offsets tree (set front lead 0) lead (omega arith)
            (get_or-set_same front lead 0 0 (omega arith)) I.index;
      }

  module _ (offsets tree front : List ℕ) (head : ℕ) (Q : Queue m dist status offsets tree front head) where
    abbrev K : Keyed hurried dist key
    K = keyed hurried dist status Q.lent

    pub some : 1 ≤ length dist
    some = omega (arith, Q.lent.some, Q.lent.same)

    -- ---- all keys of the front go into the index

    pub end_is : (r : ℕ) → head ≤ r → r < length front → get_or front r 0 ≡ 0 → ((p : ℕ) → head ≤ p → p < r → 0 < get_or front p 0)
        → Q.keys.list.end ≡ r
    end_is r l u z f =
        let F = Q.keys.list in
        elim (dec_lt F.end r) [
          | yes h ↦ (let y : ⊥ = omega (arith, f F.end F.order h, F.ended) in absurd y)
          | no h ↦ elim (ℕ_discrete F.end r) [
            | yes e ↦ e
            | no n ↦ (let y : ⊥ = omega (arith, F.falls r F.end l (omega arith) (omega arith)) in absurd y)
          ]
        ]

    -- an empty front may begin elsewhere
    pub room-made : get_or front head 0 ≡ 0 → Queue m dist status offsets tree (set front lead 0) lead
    room-made z =
        let n = length-set front lead 0 in
        let room = Q.room in
        record {
          lent = Q.lent;
          room = n ∙ room;
          top = Q.top;
          keys = queued-empty key Q.top (length dist) offsets tree (set front lead 0) lead (omega arith) (get_or-set_same front lead 0 0 (omega arith))
              (all-low hurried dist key K some Q.top offsets tree front head Q.keys z) Q.keys.index;
        }

    -- ---- the first leaves

    pub queue-left : (i s : ℕ) → get_or front head 0 ≡ key i → is_pending status i ≡ true → pending_byte s ≡ false
        → Queue m dist (set status i s) offsets tree front (head + 1)
    queue-left i s first p idle =
        let inside = pending-inside status i p in
        record {
          lent = lent-set hurried dist status i s Q.lent;
          room = Q.room;
          top = Q.top;
          keys = queued-left hurried dist key K some Q.top offsets tree front head Q.keys (key_at hurried dist (set status i s)) i
              (key-other hurried dist status i s) (key_set hurried dist status i s inside false idle) first
              (key-some hurried dist status i (omega (arith, Q.lent.few)) p);
        }

    -- ---- voxel j becomes pending

    pub enter-raising : (j w : ℕ) → j < length status → Raising dist offsets tree j
    enter-raising j w h =
        entering hurried dist key K some Q.top offsets tree front head Q.keys j w (omega (arith, Q.lent.same))

    module _ (j s w : ℕ) (inside : j < length status) (idle : is_pending status j ≡ false) (on : pending_byte s ≡ true) (e : w ≡ voxel_key hurried dist j) where
      abbrev later : ℕ → ℕ
      later = key_at hurried dist (set status j s)

      none : key j ≡ 0
      none = key-by hurried dist status j false idle

      own : later j ≡ w
      own = key_set hurried dist status j s inside true on ∙ sym e

      pub queue-raised : w ≤ get_or tree 1 0 → (offsets1 tree1 : List ℕ) → Raised hurried dist offsets offsets1 tree tree1 j w
          → Queue m dist (set status j s) offsets1 tree1 front head
      queue-raised h offsets1 tree1 R =
          record {
            lent = lent-set hurried dist status j s Q.lent;
            room = Q.room;
            top = Q.top;
            keys = queued-raised hurried dist key K some Q.top offsets tree front head Q.keys later j (key-other hurried dist status j s) w none own
                (omega (arith, root-low hurried dist key K some Q.top offsets tree front head Q.keys)) (omega (arith, Q.lent.same)) offsets1 tree1 R;
          }

      pub queue-inserted : get_or tree 1 0 < w → 1 ≤ head → (front1 : List ℕ) → Inserted front front1 head w
          → Queue m dist (set status j s) offsets tree front1 (head - 1)
      queue-inserted h low front1 I =
          let lent = lent-set hurried dist status j s Q.lent in
          let named = keyed-named hurried dist later (keyed hurried dist (set status j s) lent) j (omega (arith, own)) in
          record {
            lent = lent;
            room = I.same ∙ Q.room;
            top = get_or tree 1 0;
            keys = queued-inserted hurried dist key K some (get_or tree 1 0) offsets tree front head
                (lowered hurried dist key K some Q.top offsets tree front head Q.keys) later j (key-other hurried dist status j s) w none own h
                (ap voxel_of (sym own) ∙ named) front1 low I;
          }

    -- ---- the front is filled

    module _ (empty : get_or front head 0 ≡ 0) (more : 0 < get_or tree 1 0) where
      pub refill-inside : voxel_of (get_or tree 1 0) < length dist
      refill-inside = root-inside hurried dist key K some Q.top offsets tree front head Q.keys empty more

      module _ (k floor : ℕ) (stretch : k ≡ voxel_of (get_or tree 1 0) / width) (ground : floor ≡ (get_or tree 1 0 - 1) / 64 * 64) where
        pub refill-parting : Parting hurried dist status front k floor
        refill-parting =
            let i = refill-inside in
            record {
              lent = Q.lent;
              inside = omega arith;
              room = omega (arith, Q.room);
              falls = part_falls hurried dist key K some Q.top offsets tree front head Q.keys empty more k floor stretch ground;
            }

        module _ (w : ℕ) (front1 : List ℕ) (P : Parted key front1 k floor w) where
          pub refill-refreshing : Refreshing dist offsets tree k w
          refill-refreshing =
              root-refreshing hurried dist key K some Q.top offsets tree front head Q.keys empty more k floor stretch ground w front1 P

          pub queue-refilled : (offsets1 tree1 : List ℕ) → Refreshed hurried dist offsets offsets1 tree tree1 k w → length front1 ≡ length front
              → Filled m dist status offsets1 tree1 front1 lead
          queue-refilled offsets1 tree1 R n =
              record {
                queue =
                    record {
                      lent = Q.lent;
                      room = n ∙ Q.room;
                      top = floor;
                      keys = queued-refilled hurried dist key K some Q.top offsets tree front head Q.keys empty more k floor stretch ground w front1 P
                          offsets1 tree1 R;
                    };
                empty = λ z.
                    (let s = refilled-some hurried dist key K some Q.top offsets tree front head Q.keys empty more k floor stretch ground w front1 P in
                    let y : ⊥ = omega arith in absurd y);
              }

  -- ---- spilling, the least key first: the front ends at e

  pub record Spilling (offsets0 tree0 front0 offsets tree front : List ℕ) (head e : ℕ) : Type 0 where
    pub stretched : length offsets ≡ length offsets0
    pub noded : length tree ≡ length tree0
    pub placed : length front ≡ length front0
    pub queue : Queue m dist status offsets tree front head
    pub ends : queue.keys.list.end ≡ e

  pub spilling-start : (offsets tree front : List ℕ) (head e : ℕ) (Q : Queue m dist status offsets tree front head) → Q.keys.list.end ≡ e
      → Spilling offsets tree front offsets tree front head e
  spilling-start offsets tree front head e Q h = record { stretched = refl; noded = refl; placed = refl; queue = Q; ends = h }

  module _ (offsets0 tree0 front0 offsets tree front : List ℕ) (head e : ℕ) (S : Spilling offsets0 tree0 front0 offsets tree front head e)
      (low : head < e) where
    abbrev w : ℕ
    w = get_or front (e - 1) 0

    abbrev Q : Queue m dist status offsets tree front head
    Q = S.queue

    ends_now : Q.keys.list.end ≡ e - 1 + 1
    ends_now = omega (arith, S.ends)

    abbrev keys-now : Keyed hurried dist key
    keys-now = keyed hurried dist status Q.lent

    pub spill-some : (0 < w) × (voxel_of w < length dist)
    spill-some = (
      omega (arith, Q.keys.above (e - 1) (omega arith) (omega (arith, S.ends))),
      last-inside hurried dist key keys-now (some offsets tree front head Q) Q.top offsets tree front head Q.keys (e - 1) ends_now (omega arith),
    )

    pub spill-raising : Raising dist offsets tree (voxel_of w)
    spill-raising =
        last-raising hurried dist key keys-now (some offsets tree front head Q) Q.top offsets tree front head Q.keys (e - 1) ends_now (omega arith)

    pub spilling-step : (offsets1 tree1 : List ℕ) → Raised hurried dist offsets offsets1 tree tree1 (voxel_of w) w → length offsets1 ≡ length offsets
        → length tree1 ≡ length tree → Spilling offsets0 tree0 front0 offsets1 tree1 (set front (e - 1) 0) head (e - 1)
    spilling-step offsets1 tree1 R lo lt =
        let n = length-set front (e - 1) 0 in
        let r =
        queued-spilled hurried dist key keys-now (some offsets tree front head Q) Q.top offsets tree front head Q.keys (e - 1) ends_now (omega arith)
        offsets1 tree1 R in
        record {
          stretched = lo ∙ S.stretched;
          noded = lt ∙ S.noded;
          placed = n ∙ S.placed;
          queue = record { lent = Q.lent; room = n ∙ Q.room; top = w; keys = r.0 };
          ends = r.1;
        }
