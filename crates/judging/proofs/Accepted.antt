-- A list is accepted exactly when each of its clauses holds; the answer is how many it removed and opened, and the Euler number.
use mathlib.Core.Path.{◌≡◌, refl, ap, sym, ◌∙◌, subst}
use mathlib.Core.Bool.{Bool, true, false, not, cond, ◌&&◌, true≢false}
use mathlib.Core.List.{List, [], ◌∷◌, ◌++◌, map}
use Prim.Native.Nat.{ℕ, zero, suc, ◌+◌, ◌*◌, ◌≤◌, ◌<◌}
use native.Mathlib.Omega.{arith}
use native.Mathlib.Decide.{ℕ_discrete}
use lib.Dec.{ltb}
use lib.ListN.{length}
use lib.IntN.{ℤ, pos, ◌+ℤ◌, ◌-ℤ◌, +ℤ_assoc, +ℤ_idl, +ℤ_idr}
use borrow.Author.Tests.{ltb-true, lt-ltb, ltb-false, le-ltb, leb-false, lt-leb}
use Rattle.cells.specs.Cells.{test, passes}
use Rattle.prelude.proofs.Bools.{and-true, true-and, not-true, not-false, not-both}
use Rattle.prelude.proofs.Ranges.{none_below, below_none}
use Rattle.rules.specs.declared.Sides.{Sides}
use Rattle.rules.specs.Grid.{size, range, voxels, neighbourhood}
use Rattle.rules.specs.Begin.{exposed}
use Rattle.rules.specs.Checks.{Check, AllHold, unless}
use Rattle.rules.specs.Answer.{Reply, refused, done, Outcome, outcome, untouched, Buffers}
use Rattle.rules.specs.Status.{is_kept}
use Rattle.rules.specs.Machine.{State, lent_to, is_inside, working_checks}
use Rattle.rules.proofs.Checks.{by-checks, hold-append, append-hold, held_at, unless-held, unless-after}
use Rattle.judging.specs.Judge.{Entry, entry_length, entry_at, entry_count, entries_in, Body, start_from, less_one, can_pass, some_passes, can_open, allows}
use Rattle.judging.specs.declared.Judgement.{Judgement}
use Rattle.judging.specs.Judge.{goes, leaves, entry_checks, list_checks, judgement_of, judge_checks, body_left, judge}
use Rattle.judging.specs.Accepted.{kept_after, openings, change, NonePasses, InTurn, Accepted, Readable, Fair, counts_of}
use Rattle.judging.specs.Accepted.{AcceptedExactlyWhen, NothingWritten, OnlyKeptIsRead}

-- ---- records from r on

abbrev pub entries_from : List ℕ → ℕ → ℕ → List Entry
entries_from list left r = map (λ r. entry_at list (entry_length * r)) (range r left)

pub first-or-later : {P : ℕ → Type 0} (r left : ℕ) → P r → ((q : ℕ) → suc r ≤ q → q < suc r + left → P q) → (q : ℕ) → r ≤ q → q < r + suc left → P q
first-or-later {P} r left here later q l h =
    elim (ℕ_discrete r q) [ yes e ↦ subst P e here | no n ↦ later q (omega arith) (omega arith) ]

module _ (s : Sides) (S : ℕ → Bool) where
  -- ---- no kept outside voxel passes

  pub none_passes : (kept : ℕ → Bool) → some_passes s S kept ≡ false → NonePasses s S kept
  unfolding some_passes voxels can_pass
  none_passes kept e i h k n = rw (k, n) at (none_below (can_pass s S kept) (size s) e i h)

  pub passes_none : (kept : ℕ → Bool) → NonePasses s S kept → some_passes s S kept ≡ false
  unfolding some_passes voxels can_pass
  passes_none kept none = below_none (can_pass s S kept) (size s) (λ i h. go i (kept i) (S i) (none i h))
    where
      go : (i : ℕ) (k o : Bool) → (k ≡ true → o ≡ false → passes (test (neighbourhood s kept i)) ≡ false)
          → (k && (not o && passes (test (neighbourhood s kept i)))) ≡ false
      go i false o f = refl
      go i true true f = refl
      go i true false f = f refl refl

  module _ (T : ℕ) where
    -- ---- an entry is allowed exactly at its turn, while fewer than T are opened

    module _ (b : Body) (e : Entry) where
      abbrev kept : ℕ → Bool
      kept = b.kept

      abbrev here : Bool
      here = passes (test (neighbourhood s kept e.at))

      abbrev last : Bool
      last = exposed s kept e.at && not (some_passes s S kept)

      pub allowed-turn : allows s S T b e ≡ true → (InTurn s S kept e) × (e.opens ≡ true → b.opened < T)
      unfolding allows can_pass can_open
      allowed-turn ok = go e.opens refl ok
        where
          go : (o : Bool) → e.opens ≡ o → cond o (can_open s S kept e.at && ltb b.opened T) (can_pass s S kept e.at) ≡ true
              → (InTurn s S kept e) × (e.opens ≡ true → b.opened < T)
          go true q ok =
              let l = and-true (can_open s S kept e.at) (ltb b.opened T) ok in
              let k = and-true (kept e.at) (not (S e.at) && last) l.0 in
              let n = and-true (not (S e.at)) last k.1 in
              let x = and-true (exposed s kept e.at) (not (some_passes s S kept)) n.1 in (
                record {
                  is-kept = k.0;
                  is-outside = not-true (S e.at) n.0;
                  ordinary-passes = λ f. not-both e.opens q f;
                  opening-exposed = λ _. x.0;
                  opening-last = λ _. none_passes kept (not-true (some_passes s S kept) x.1);
                },
                λ _. ltb-true b.opened T l.1,
              )
          go false q ok =
              let k = and-true (kept e.at) (not (S e.at) && here) ok in
              let n = and-true (not (S e.at)) here k.1 in (
                record {
                  is-kept = k.0;
                  is-outside = not-true (S e.at) n.0;
                  ordinary-passes = λ _. n.1;
                  opening-exposed = λ f. not-both e.opens f q;
                  opening-last = λ f. not-both e.opens f q;
                },
                λ f. not-both e.opens f q,
              )

      pub turn-allowed : InTurn s S kept e → (e.opens ≡ true → b.opened < T) → allows s S T b e ≡ true
      unfolding allows can_pass can_open
      turn-allowed turn few = go e.opens refl
        where
          outside : (rest : Bool) → rest ≡ true → (kept e.at && (not (S e.at) && rest)) ≡ true
          outside rest r = true-and (kept e.at) _ turn.is-kept (true-and (not (S e.at)) rest (ap not turn.is-outside) r)

          go : (o : Bool) → e.opens ≡ o → cond o (can_open s S kept e.at && ltb b.opened T) (can_pass s S kept e.at) ≡ true
          go true q =
              true-and (can_open s S kept e.at) (ltb b.opened T)
              (outside last (true-and (exposed s kept e.at) (not (some_passes s S kept)) (turn.opening-exposed q)
              (ap not (passes_none kept (turn.opening-last q)))))
              (lt-ltb b.opened T (few q))
          go false q = outside here (turn.ordinary-passes q)

    -- ---- one after the other: each entry is allowed, and none passes at the end

    unfoldable pub Follows : Body → List Entry → Type 0
    Follows b [] = some_passes s S b.kept ≡ false
    Follows b (e ∷ es) = (allows s S T b e ≡ true) × (Follows (goes s b e) es)

    abbrev Turns : (ℕ → Bool) → List Entry → Type 0
    Turns kept es = (before : List Entry) (e : Entry) (later : List Entry) → es ≡ before ++ (e ∷ later) → InTurn s S (kept_after kept before) e

    no-turns : (kept : ℕ → Bool) → Turns kept []
    no-turns kept [] e later q = let z : ◌≡◌ {A = ℕ} 0 1 = cc in let y : ⊥ = omega arith in absurd y
    no-turns kept (x ∷ before) e later q = let z : ◌≡◌ {A = ℕ} 0 1 = cc in let y : ⊥ = omega arith in absurd y

    more-turns : (kept : ℕ → Bool) (e : Entry) (es : List Entry) → InTurn s S kept e → Turns (less_one kept e.at) es → Turns kept (e ∷ es)
    unfolding kept_after
    more-turns kept e es first rest [] f later q = let p : e ≡ f = cc in subst (λ (f : Entry). InTurn s S kept f) p first
    more-turns kept e es first rest (x ∷ before) f later q =
        let p : e ≡ x = cc in
        let r : es ≡ before ++ (f ∷ later) = cc in
        subst (λ (x : Entry). InTurn s S (kept_after (less_one kept x.at) before) f) p (rest before f later r)

    -- the clauses, of a body with openings made before
    record Clauses (b : Body) (es : List Entry) : Type 0 where
      turns : Turns b.kept es
      few : b.opened + openings es ≤ T
      at-end : NonePasses s S (kept_after b.kept es)

    follows-clauses : (es : List Entry) (b : Body) → b.opened ≤ T → Follows b es → Clauses b es
    unfolding Follows kept_after openings goes
    follows-clauses [] b l f = record { turns = no-turns b.kept; few = omega arith; at-end = none_passes b.kept f }
    follows-clauses (e ∷ es) b l f =
        let t = allowed-turn b e f.0 in
        let rest = follows-clauses es (goes s b e) (opened e.opens t.1) f.1 in
        record { turns = more-turns b.kept e es t.0 rest.turns; few = few e.opens rest.few; at-end = rest.at-end }
      where
        opened : (o : Bool) → (o ≡ true → b.opened < T) → cond o (suc b.opened) b.opened ≤ T
        opened true h = h refl
        opened false h = l

        few : (o : Bool) → cond o (suc b.opened) b.opened + openings es ≤ T → b.opened + cond o (suc (openings es)) (openings es) ≤ T
        few true h = omega arith
        few false h = h

    clauses-follow : (es : List Entry) (b : Body) → Clauses b es → Follows b es
    unfolding Follows kept_after openings goes
    clauses-follow [] b c = passes_none b.kept c.at-end
    clauses-follow (e ∷ es) b c = (
      turn-allowed b e (c.turns [] e es refl) (λ q. fewer e.opens q c.few),
      clauses-follow es (goes s b e) (record {
        turns = λ before f later q. c.turns (e ∷ before) f later (ap (λ (l : List Entry). e ∷ l) q);
        few = few e.opens c.few;
        at-end = c.at-end;
      }),
    )
      where
        fewer : (o : Bool) → o ≡ true → b.opened + cond o (suc (openings es)) (openings es) ≤ T → b.opened < T
        fewer true q h = omega arith
        fewer false q h = absurd (true≢false (sym q))

        few : (o : Bool) → b.opened + cond o (suc (openings es)) (openings es) ≤ T → cond o (suc b.opened) b.opened + openings es ≤ T
        few true h = omega arith
        few false h = h

    -- from a body with none opened yet
    module _ (b : Body) (fresh : b.opened ≡ 0) (es : List Entry) where
      pub follows-accepted : Follows b es → Accepted s S T b.kept es
      follows-accepted f =
          let c = follows-clauses es b (omega arith) f in
          record { turns = c.turns; few = omega (arith, c.few); at-end = c.at-end }

      pub accepted-follows : Accepted s S T b.kept es → Follows b es
      accepted-follows a = clauses-follow es b (record { turns = a.turns; few = omega (arith, a.few); at-end = a.at-end })

    -- ---- the records of a list, so many from record r on

    checks-hold : (list : List ℕ) (left r : ℕ) (b : Body) → AllHold (list_checks s S T list left r b)
        → ((q : ℕ) → r ≤ q → q < r + left → Readable (size s) list q) × (Follows b (entries_from list left r))
    unfolding list_checks Follows range
    checks-hold list zero r b h = (λ q l m. let z : ⊥ = omega arith in absurd z, held_at (list_checks s S T list zero r b) h 33)
    checks-hold list (suc left) r b h =
        let own = entry_checks s S T list (entry_length * r) b in
        let b2 = goes s b (entry_at list (entry_length * r)) in
        let p = hold-append own (list_checks s S T list left (suc r) b2) h in
        let held = held_at own p.0 in
        let rest = checks-hold list left (suc r) b2 p.1 in (
          first-or-later r left
              (record { full = ltb-false _ _ (held 21); marked = not-false _ (held 22); below = leb-false (size s) _ (held 5) }) rest.0,
          (not-false _ (held 32), rest.1),
        )

    hold-checks : (list : List ℕ) (left r : ℕ) (b : Body) → ((q : ℕ) → r ≤ q → q < r + left → Readable (size s) list q)
        → Follows b (entries_from list left r) → AllHold (list_checks s S T list left r b)
    unfolding list_checks Follows range
    hold-checks list zero r b w f = (f, tt)
    hold-checks list (suc left) r b w f =
        let b2 = goes s b (entry_at list (entry_length * r)) in
        let here = w r (omega arith) (omega arith) in
        append-hold (entry_checks s S T list (entry_length * r) b) (list_checks s S T list left (suc r) b2)
        (le-ltb _ _ here.full, (ap not here.marked, (lt-leb _ _ here.below, (ap not f.0, tt))))
        (hold-checks list left (suc r) b2 (λ q l m. w q (omega arith) (omega arith)) f.1)

-- ---- the body that entries leave

pub leaves_kept : (s : Sides) (es : List Entry) (b : Body) → (leaves s b es).kept ≡ kept_after b.kept es
unfolding leaves kept_after goes
leaves_kept s [] b = refl
leaves_kept s (e ∷ es) b = leaves_kept s es (goes s b e)

leaves-removed : (s : Sides) (es : List Entry) (b : Body) → (leaves s b es).removed ≡ b.removed + length es
unfolding leaves goes
leaves-removed s [] b = omega arith
leaves-removed s (e ∷ es) b = omega (arith, leaves-removed s es (goes s b e))

leaves-opened : (s : Sides) (es : List Entry) (b : Body) → (leaves s b es).opened ≡ b.opened + openings es
unfolding leaves goes openings
leaves-opened s [] b = omega arith
leaves-opened s (e ∷ es) b = leaves-opened s es (goes s b e) ∙ go e.opens
  where
    go : (o : Bool) → cond o (suc b.opened) b.opened + openings es ≡ b.opened + cond o (suc (openings es)) (openings es)
    go true = omega arith
    go false = refl

leaves-euler : (s : Sides) (es : List Entry) (b : Body) → (leaves s b es).euler ≡ b.euler +ℤ change s b.kept es
unfolding leaves goes change
leaves-euler s [] b = sym (+ℤ_idr b.euler)
leaves-euler s (e ∷ es) b = leaves-euler s es (goes s b e) ∙ go e.opens
  where
    d : ℤ
    d = pos (test (neighbourhood s b.kept e.at)).k -ℤ pos (test (neighbourhood s b.kept e.at)).m

    rest : ℤ
    rest = change s (less_one b.kept e.at) es

    go : (o : Bool) → cond o (b.euler +ℤ d) b.euler +ℤ rest ≡ b.euler +ℤ (cond o d (pos 0) +ℤ rest)
    go true = +ℤ_assoc b.euler d rest
    go false = ap (λ (c : ℤ). b.euler +ℤ c) (sym (+ℤ_idl rest))

pub leaves-counts : (s : Sides) (status : List ℕ) (es : List Entry) → judgement_of (leaves s (start_from status) es) ≡ counts_of s (is_kept status) es
leaves-counts s status es =
    let b = start_from status in
    let removed : (leaves s b es).removed ≡ length es = leaves-removed s es b ∙ omega arith in
    let opened : (leaves s b es).opened ≡ openings es = leaves-opened s es b ∙ omega arith in
    λ n. record { removed = removed n; opened = opened n; euler = leaves-euler s es b n }

-- ---- the call

module _ (list : List ℕ) (g : State) where
  abbrev s : Sides
  s = g.rec.sides

  abbrev S : ℕ → Bool
  S = is_inside g.dist

  abbrev T : ℕ
  T = g.rec.allowed

  abbrev start : Body
  start = start_from g.status

  abbrev entries_checked : Body → List Check
  entries_checked = list_checks s S T list (entry_count list) 0

  abbrev work : Outcome Buffers Judgement
  work = outcome (done (judgement_of (body_left list g))) (lent_to g)

  holds-fair : AllHold (judge_checks list g) → Fair list g
  unfolding entries_in
  holds-fair h =
      let p = hold-append (working_checks g) (entries_checked start) h in
      let r = checks-hold s S T list (entry_count list) 0 start p.1 in
      record {
        working = p.0;
        readable = λ q l. r.0 q (omega arith) (omega arith);
        accepted = follows-accepted s S T start refl (entries_in list) r.1;
      }

  fair-holds : Fair list g → AllHold (judge_checks list g)
  unfolding entries_in
  fair-holds f =
      append-hold (working_checks g) (entries_checked start) f.working
      (hold-checks s S T list (entry_count list) 0 start (λ q l m. f.readable q (omega arith))
      (accepted-follows s S T start refl (entries_in list) f.accepted))

  counts-left : judgement_of (body_left list g) ≡ counts_of s (is_kept g.status) (entries_in list)
  unfolding body_left
  counts-left = leaves-counts s g.status (entries_in list)

  done-fair : (a : Judgement) → (judge list g).answer ≡ done a → (Fair list g) × (a ≡ counts_of s (is_kept g.status) (entries_in list))
  unfolding judge
  done-fair a e =
      by-checks (untouched (lent_to g)) work (λ o. o.answer ≡ done a → (Fair list g) × (a ≡ counts_of s (is_kept g.status) (entries_in list)))
      (judge_checks list g) (λ n f. let z : ◌≡◌ {A = ℕ} 0 1 = cc in let y : ⊥ = omega arith in absurd y)
      (λ h f. (holds-fair h, let q : a ≡ judgement_of (body_left list g) = cc in q ∙ counts-left)) e

  fair-done : Fair list g → (judge list g).answer ≡ done (counts_of s (is_kept g.status) (entries_in list))
  unfolding judge
  fair-done f =
      ap (λ (o : Outcome Buffers Judgement). o.answer) (unless-held (untouched (lent_to g)) work (judge_checks list g) (fair-holds f))
      ∙ ap (λ (j : Judgement). done j) counts-left

pub accepted-exactly-when : AcceptedExactlyWhen
accepted-exactly-when list g a = (done-fair list g a, λ r. fair-done list g r.0 ∙ ap (λ (j : Judgement). done j) (sym r.1))

pub nothing_written : NothingWritten
unfolding judge
nothing_written list g = by-checks (untouched (lent_to g)) (work list g) (λ o. o.lent ≡ lent_to g) (judge_checks list g) (λ n. refl) (λ h. refl)

-- ---- what is read

-- the answer alone, whatever was lent
pub answer-alone : {A : Type 0} (lent : Buffers) (a : Reply A) (cs : List Check)
    → (unless cs (untouched lent) (outcome a lent)).answer ≡ unless cs (λ n. refused n) a
unfolding unless
answer-alone lent a [] = refl
answer-alone {A} lent a (c ∷ cs) = go c.fails (answer-alone lent a cs)
  where
    go : (t : Bool) → (unless cs (untouched lent) (outcome a lent)).answer ≡ unless cs (λ n. refused n) a
        → (cond t (untouched lent c.number) (unless cs (untouched lent) (outcome a lent))).answer
        ≡ cond t (refused c.number) (unless cs (λ n. refused n) a)
    go true e = refl
    go false e = e

-- what decides it where the grid's checks hold
abbrev decided : List ℕ → Sides → ℕ → List ℤ → (ℕ → Bool) → Reply Judgement
decided list s T dist kept =
    let b : Body = record { kept = kept; removed = 0; opened = 0; euler = pos 1 } in
    unless (list_checks s (is_inside dist) T list (entry_count list) 0 b) (λ n. refused n) (done (judgement_of (leaves s b (entries_in list))))

answer-decided : (list : List ℕ) (g : State) → AllHold (working_checks g)
    → (judge list g).answer ≡ decided list g.rec.sides g.rec.allowed g.dist (is_kept g.status)
unfolding judge body_left
answer-decided list g held =
    answer-alone (lent_to g) _ (judge_checks list g) ∙ unless-after (λ n. refused n) _ (working_checks g) (entries_checked list g (start list g)) held

pub only-kept-is-read : OnlyKeptIsRead
only-kept-is-read list g h held-g held-h sides allowed dist kept =
    answer-decided list g held-g ∙ (λ n. decided list (sides n) (allowed n) (dist n) (kept n)) ∙ sym (answer-decided list h held-h)
