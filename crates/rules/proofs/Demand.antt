-- Demand 3 of document 01: it holds after every list of calls, from any body to start from, and so on every grid that begin accepts.
use mathlib.Core.Path.{◌≡◌, refl, ap, sym, ◌∙◌, subst}
use mathlib.Core.Bool.{Bool, true, false}
use mathlib.Core.List.{List, [], ◌∷◌, ◌++◌}
use Prim.Native.Nat.{ℕ, ◌<◌}
use native.Mathlib.Omega.{arith}
use lib.IntN.{ℤ, pos}
use Rattle.rules.specs.declared.Sides.{Sides}
use Rattle.rules.specs.declared.Record.{Record}
use Rattle.rules.specs.Grid.{size, voxel, voxels}
use Rattle.rules.specs.Answer.{done, untouched, buffers}
use Rattle.rules.specs.Fill.{filled}
use Rattle.rules.specs.Begin.{is_in, inside, in_box, worked, start_status, new_record, begin_checks, begun_on, begun, begin}
use Rattle.rules.specs.Status.{is_pending, test_at, any_pending}
use Rattle.rules.specs.Machine.{State, state}
use Rattle.rules.specs.Marks.{Marked, marked}
use Rattle.rules.specs.Demand.{Call, carve_up_to, take_at, open_one, finish_it, Promise, FromBegin, Lends, AllLend, Unchanged, call, run}
use Rattle.rules.specs.Demand.{DemandAfter, DemandIsMet}
use Rattle.rules.specs.Meaning.{found}
use Rattle.rules.specs.Fit.{Beginnable}
use Rattle.rules.proofs.Checks.{by-checks}
use Rattle.prelude.proofs.Ranges.{none_below}
use Rattle.rules.proofs.Places.{fit}
use Rattle.rules.proofs.Inside.{inside-some, inside-members, negative-lt}
use Rattle.rules.proofs.Boxes.{inside-off-border}
use Rattle.rules.proofs.Fit.{beginnable}
use Rattle.rules.proofs.Fill.{beginnable-filled}
use Rattle.rules.proofs.Topology.Around.{Inner}
use Rattle.rules.proofs.Topology.Moves.{Shape, Inv}
use Rattle.rules.proofs.Topology.Steps.{sets}
use Rattle.rules.proofs.Topology.Calls.{tally_of, Good, Held, Keeps, run-keeps}
use Rattle.rules.proofs.Topology.Start.{in_grid, border-inner, start-sound, box-shape, box-holds, worked-signs}

not-pending : (s : Sides) (status : List ℕ) → any_pending s status ≡ false → (i : ℕ) → i < size s → is_pending status i ≡ false
unfolding any_pending voxels
not-pending s status quiet = none_below (is_pending status) (size s) quiet

-- a list of calls after another
pub run-append : (cs ds : List Call) (g : State) → (run (cs ++ ds) g).end ≡ (run ds (run cs g).end).end
unfolding run
run-append [] ds g = refl
run-append (c ∷ cs) ds g = run-append cs ds (call c g).end

-- ---- any body to start from whose status bytes are sound, with distances whose signs are S

-- marks of one property have another that follows from it
pub lends-map : (P Q : List ℕ → Type 0) → ((marks : List ℕ) → P marks → Q marks) → (c : Call) → Lends P c → Lends Q c
lends-map P Q f (carve_up_to marks limit) h = f marks h
lends-map P Q f (take_at marks i) h = f marks h
lends-map P Q f (open_one marks) h = f marks h
lends-map P Q f finish_it h = tt

pub all-lend-map : (P Q : List ℕ → Type 0) → ((marks : List ℕ) → P marks → Q marks) → (cs : List Call) (g : State) → AllLend P g cs → AllLend Q g cs
all-lend-map P Q f [] g h = tt
all-lend-map P Q f (c ∷ cs) g h = (λ r. lends-map P Q f c (h.0 r), all-lend-map P Q f cs (call c g).end h.1)

lends-any : (c : Call) → Lends (λ marks. Unit {0}) c
lends-any (carve_up_to marks limit) = tt
lends-any (take_at marks i) = tt
lends-any (open_one marks) = tt
lends-any finish_it = tt

pub all-lend-any : (cs : List Call) (g : State) → AllLend (λ marks. Unit {0}) g cs
all-lend-any [] g = tt
all-lend-any (c ∷ cs) g = (λ r. lends-any c, all-lend-any cs (call c g).end)

-- every voxel held: what holds whatever marks each call gets
abbrev pub all_held : ℕ → Bool
all_held j = true

pub held_all : (S : ℕ → Bool) (total : ℕ) (calls : List Call) (g : State) → AllLend (Held S all_held total) g calls
held_all S total calls g = all-lend-map (λ marks. Unit {0}) (Held S all_held total) (λ marks u j e. refl) calls g (all-lend-any calls g)

-- the voxels held that begin's marks pin: what holds besides where marks are unchanged
held_same : (S : ℕ → Bool) (total : ℕ) (marks : List ℕ) (calls : List Call) (g : State) → Unchanged marks g calls
    → AllLend (Held S (marked marks).pinned total) g calls
held_same S total marks =
    all-lend-map (λ lent. lent ≡ marks) (Held S (marked marks).pinned total) (λ lent u j e. ap (λ (l : List ℕ). (marked l).pinned j) (sym u) ∙ e)

-- a body to start from, on a grid that begin accepts: of the right shape, and S within it
pub record Startable (s : Sides) (values : List ℤ) (start : ℕ → Bool) : Type 0 where
  pub accepted : Beginnable s values
  pub shape : Shape s (in_grid s start) 0 (pos 1)
  pub holds : (j : ℕ) → is_in (inside s values) j ≡ true → in_grid s start j ≡ true

-- the state that a start hands out
abbrev pub start_state : Sides → ℕ → List ℤ → Marked → (ℕ → Bool) → State
start_state s T values m start = let S = inside s values in state (new_record s T) (worked s values S) (start_status s m S start)

abbrev pub FromStart : Promise → Type 0
FromStart P =
    (s : Sides) (T : ℕ) (values : List ℤ) (marks : List ℕ) (start : ℕ → Bool) → Startable s values start
    → P s T values marks start (start_state s T values (marked marks) start)

module _ (s : Sides) (values : List ℤ) (start : ℕ → Bool) (from : Startable s values start) where
  abbrev S : ℕ → Bool
  S = is_in (inside s values)

  abbrev total : ℕ
  total = found s start

  pub some-inside : (i : ℕ) × (S i ≡ true)
  some-inside = inside-some s values from.accepted.some from.accepted.some-negative

  module _ (T : ℕ) (m : Marked) where
    abbrev started : State
    started = start_state s T values m start

    pub good_start : (held : ℕ → Bool) → ((j : ℕ) → m.pinned j ≡ true → held j ≡ true) → Good S held total started
    good_start held within =
        record { sound = start-sound s m (inside s values) start from.shape from.holds held within; signs = λ f. worked-signs s values }

    -- whatever marks each call gets
    pub keeps-after : (calls : List Call) → let after = run calls started in Keeps S all_held total started after.end after.answers
    keeps-after calls = run-keeps S all_held total calls started (held_all S total calls started) (good_start all_held (λ j e. refl))

pub demand-after : FromStart DemandAfter
unfolding test_at
demand-after s T values marks start from calls =
    let S = is_in (inside s values) in
    let m = marked marks in
    let begun = start_state s T values m start in
    let g = (run calls begun).end in
    let keeps = keeps-after s values start from T m calls in
    let adds = keeps.adds in
    let here : (held : ℕ → Bool) → Good S held (found s start) g → Inv s S held (found s start) (sets g.status (tally_of g.rec)) =
    λ held good. subst (λ (t : Sides). Inv t S held (found s start) (sets g.status (tally_of g.rec))) adds.sides good.sound.inv in
    let inv = here all_held keeps.good in
    let shape = inv.shape in
    record {
      same-sides = adds.sides;
      inside-kept = inv.inside;
      background-one-piece = shape.outside;
      euler-of-body = shape.counted;
      euler-of-openings = adds.euler;
      unopened-one-piece = λ e. (shape.unopened (omega (arith, adds.openings))).0;
      unopened-euler = λ e. (shape.unopened (omega (arith, adds.openings))).1;
      none_passes = λ same quiet i ki si pi.
          (here m.pinned (run-keeps S m.pinned (found s start) calls begun (held_same S (found s start) marks calls begun same)
          (good_start s values start from T m m.pinned (λ j e. e))).good
          ).failing i ki si pi (not-pending s g.status quiet i (shape.inner i ki).0);
      examinations-bound = omega (arith, inv.bounded, adds.examinations, adds.removals);
      openings-count = omega (arith, adds.openings);
      removals-count = omega (arith, adds.removals);
      examinations-count = omega (arith, adds.examinations);
    }

-- ---- begin: the solid box is a body to start from

pub box-start : (s : Sides) (values : List ℤ) → Beginnable s values → Startable s values (in_box s (inside s values))
box-start s values accepted =
    let first = inside-some s values accepted.some accepted.some-negative in
    let f = fit s accepted.sides in
    record {
      accepted = accepted;
      shape = box-shape s f (inside s values) off first.0 first.1;
      holds = box-holds s f (inside s values) off first.0 first.1;
    }
  where
    off : (i : ℕ) → is_in (inside s values) i ≡ true → (i < size s) × (Inner s (voxel s i))
    off i m =
        let h = negative-lt s values i (inside-members s values i m) in
        (h, border-inner s i h (inside-off-border s values accepted.border i m))

-- the state that begin hands out
abbrev pub handed : Sides → ℕ → List ℤ → Marked → State
handed s T values m = start_state s T values m (in_box s (inside s values))

-- what holds of it for the filled values of every grid that begin accepts, holds of begin's answer and buffers
module _ (P : State → Type 0) where
  pub by-begin : (s : Sides) (T : ℕ) (values : List ℤ) (marks : List ℕ) (dist : List ℤ) (status : List ℕ)
      → (let used = filled s values in Beginnable s used → P (handed s T used (marked marks)))
      → (r : Record) → (begin s T values marks dist status).answer ≡ done r
      → let b = begin s T values marks dist status in P (state r b.lent.dist b.lent.status)
  unfolding begin begun begun_on
  by-begin s T values marks dist status holds r e =
      let used = filled s values in
      let g = handed s T used (marked marks) in
      by-checks (untouched (buffers dist status)) (begun s T values (marked marks)) (λ o. o.answer ≡ done r → P (state r o.lent.dist o.lent.status))
      (begin_checks s values marks dist status)
      (λ n f. let z : ◌≡◌ {A = ℕ} 0 1 = cc in let y : ⊥ = omega arith in absurd y)
      (λ p f. let q : new_record s T ≡ r = cc in
      subst (λ (r : Record). P (state r g.dist g.status)) q
      (holds (beginnable-filled s values (beginnable s values marks dist status p)))) e

-- and so does what every start promises
pub from-begin : (P : Promise) → FromStart P → FromBegin P
from-begin P holds s T values marks dist status r e =
    let used = filled s values in
    let box = in_box s (inside s used) in
    by-begin (P s T used marks box) s T values marks dist status (λ accepted. holds s T used marks box (box-start s used accepted)) r e

pub demand-is-met : DemandIsMet
demand-is-met = from-begin DemandAfter demand-after
