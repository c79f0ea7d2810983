-- The entries one after the other: what is left to check decides the number, what is left to go the answer, and the bytes say who is gone.
use mathlib.Core.Path.{◌≡◌, refl, ap, sym, ◌∙◌, fun_ext}
use mathlib.Core.Bool.{Bool, true, false, cond, true≢false}
use mathlib.Core.List.{List, map}
use Prim.Native.Nat.{ℕ, suc, ◌+◌, ◌-◌, ◌*◌, ◌^◌, ◌≤◌, ◌<◌}
use native.Mathlib.Omega.{arith}
use native.Mathlib.Numerals.{add-one}
use borrow.Author.Tests.{ltb-true, ltb-false, leb-false}
use lib.IntN.{ℤ, pos, nat_abs}
use lib.ListN.{length, length-set}
use Rattle.prelude.proofs.Bools.{not-false}
use Rattle.rules.specs.declared.Sides.{Sides}
use Rattle.rules.specs.Grid.{size, range, neighbourhood}
use Rattle.rules.specs.Neighbours.{Inner}
use Rattle.rules.specs.Status.{status_of, is_kept}
use Rattle.rules.specs.Machine.{is_inside}
use Rattle.std.specs.Prelude.{Result, Ok, Err}
use Rattle.std.specs.Result.{is_err}
use Rattle.rules.proofs.Refusals.{numbers}
use Rattle.rules.specs.declared.Refusal.{Refusal}
use Rattle.rules.specs.Refusals.{number_in}
use Rattle.rules.specs.Checks.{Check, first_failing, AllHold}
use Rattle.rules.proofs.Checks.{held_none, held_at, Deciding, deciding-refused, deciding-next}
use Rattle.neighbourhood.proofs.Bodies.{kept-inner, fit-body}
use Rattle.judging.specs.Judge.{entry_length, entry_count, entries_in, Entry, entry_at, Body, start_from, goes, leaves}
use Rattle.judging.specs.Judge.{some_passes, allows, entry_checks, list_checks, judgement_of}
use Rattle.judging.proofs.Accepted.{passes_none, allowed-turn}
use Rattle.entries.specs.Entries.{index_of, taken_out, put_back}
use Rattle.entries.proofs.Undoing.{put-back-taken}
use Rattle.watching.proofs.Gone.{gone-below, gone-odd, gone-kept}
use Rattle.watching.proofs.Since.{since-ordinary, since-opening}
use Rattle.tallies.specs.declared.Tally.{Tally}
use Rattle.tallies.specs.Counts.{body_of, tally_after, Stepping}
use Rattle.turns.specs.Turns.{Turn}
use Rattle.verdicts.specs.Verdict.{end_checks, Walkable, Walked}
use Rattle.tallies.proofs.Counts.{change-small}

-- ---- whether a check refuses, by its number

pub number-err : (v : Result (Unit {0}) Refusal) → is_err v ≡ true → number_in v ≡ 0 → ⊥
number-err (Ok u) e h = absurd (true≢false (sym e))
number-err (Err r) e h = numbers r h

pub number-ok : (v : Result (Unit {0}) Refusal) → is_err v ≡ false → number_in v ≡ 0
number-ok (Ok u) e = refl
number-ok (Err r) e = absurd (true≢false e)

-- ---- an entry that may go

module _ (s : Sides) (S : ℕ → Bool) (T : ℕ) (b : Body) (i : ℕ) where
  abbrev entry_as : Bool → Entry
  entry_as opens = record { opens = opens; at = i }

  pub goes_kept : (opens : Bool) → allows s S T b (entry_as opens) ≡ true → b.kept i ≡ true
  goes_kept opens e = (allowed-turn s S T b (entry_as opens) e).0.is-kept

  -- as an opening
  pub opens-last : allows s S T b (entry_as true) ≡ true → some_passes s S b.kept ≡ false
  opens-last e = passes_none s S b.kept ((allowed-turn s S T b (entry_as true) e).0.opening-last refl)

  pub opens-few : allows s S T b (entry_as true) ≡ true → b.opened < T
  opens-few e = (allowed-turn s S T b (entry_as true) e).1 refl

-- ---- from entry to entry

module _ (s : Sides) (dist : List ℤ) (T : ℕ) (list before : List ℕ) where
  abbrev S : ℕ → Bool
  S = is_inside dist

  abbrev own : List ℕ → Tally → List Check
  own status t = entry_checks s S T list (entry_length * t.removed) (body_of status t)

  abbrev left : ℕ → ℕ → Body → List Check
  left n r b = list_checks s S T list n r b

  abbrev after : ℕ → ℕ → Body → Body
  after n r b = leaves s b (map (λ q. entry_at list (entry_length * q)) (range r n))

  pub record Walking (status : List ℕ) (t : Tally) : Type 0 where
    pub turn : Turn s dist status list t
    pub same : length status ≡ length before
    pub back : put_back list t.removed status ≡ before
    pub few : t.opened ≤ T
    pub small : nat_abs t.euler ≤ 1 + 8 * t.opened
    pub deciding : Deciding (left (entry_count list) 0 (start_from before)) (left (entry_count list - t.removed) t.removed (body_of status t))
    pub leaving : after (entry_count list - t.removed) t.removed (body_of status t) ≡ after (entry_count list) 0 (start_from before)

  abbrev none : Tally
  none = record { removed = 0; opened = 0; euler = pos 1; last = 0 }

  pub walking_start : Walkable s dist before T → Walking before none
  walking_start w =
      let whole : entry_count list - 0 ≡ entry_count list = omega arith in
      record {
        turn = record {
          held = record { body = fit-body s before dist w.fit; distances = w.fit.lent.distances };
          order = omega arith;
          listed = record { whole = omega arith; below = λ r h. omega arith };
          past = λ r h. let z : ⊥ = omega arith in absurd z;
          near = λ e. let z : 0 < 0 = ltb-true 0 0 e in let y : ⊥ = omega arith in absurd y;
        };
        same = refl;
        back = refl;
        few = omega arith;
        small = omega arith;
        deciding = ap (λ (n : ℕ). first_failing (left n 0 (start_from before))) whole;
        leaving = ap (λ (n : ℕ). after n 0 (start_from before)) whole;
      }

  module _ (status : List ℕ) (t : Tally) (w : Walking status t) where
    abbrev r : ℕ
    r = t.removed

    abbrev b : Body
    b = body_of status t

    abbrev e : Entry
    e = entry_at list (entry_length * r)

    abbrev i : ℕ
    i = index_of list r

    module _ (more : entry_length * r < length list) (n : ℕ) (q : n ≡ first_failing (own status t)) where
      one_more : entry_count list - r ≡ suc (entry_count list - suc r)
      one_more = omega arith

      decides : Deciding (left (entry_count list) 0 (start_from before)) (left (suc (entry_count list - suc r)) r b)
      decides = sym (ap (λ (n : ℕ). first_failing (left n r b)) one_more) ∙ w.deciding

      pub walking-refused : (n ≡ 0 → ⊥) → (v : Result (Unit {0}) Refusal) → number_in v ≡ n → Walked s dist T list before status (record { tally = t; verdict = v })
      unfolding list_checks
      walking-refused f v e =
          record {
            number = e ∙ deciding-refused _ (own status t) _ decides n q f;
            answer = λ z. absurd (f (sym e ∙ z));
            listed = w.turn.listed;
            same = w.same;
            back = w.back;
          }

      module _ (z : n ≡ 0) where
        held : AllHold (own status t)
        held = held_none (own status t) n q refl z

        whole : entry_length * r + entry_length ≤ length list
        whole = ltb-false _ _ (held_at (own status t) held 21)

        below : i < size s
        below = leb-false _ _ (held_at (own status t) held 5)

        allowed : allows s S T b e ≡ true
        allowed = not-false _ (held_at (own status t) held 32)

        kept : is_kept status i ≡ true
        kept = goes_kept s S T b i e.opens allowed

        inner : Inner s i
        inner = kept-inner s status w.turn.held.body i below kept

        pub walking-step : T ≤ 65535 → length list < 2 ^ 64 → Stepping s status list t
        walking-step most long =
            record {
              countable = record {
                voxel = inner;
                statuses = w.turn.held.body.statuses;
                roomy = record { few = omega (arith, w.few); small = w.small };
                long = omega (arith, whole);
              };
              whole = whole;
              kept = kept;
            }

        abbrev next : Tally
        next = tally_after s (is_kept status) e t

        record After (u : Tally) : Type 0 where
          turn : Turn s dist (taken_out status i) list u
          few : u.opened ≤ T
          small : nat_abs u.euler ≤ 1 + 8 * u.opened

        afterwards : After next
        unfolding tally_after
        afterwards = go e.opens allowed
          where
            go : (o : Bool) → allows s S T b (record { opens = o; at = i }) ≡ true
                → After (tally_after s (is_kept status) (record { opens = o; at = i }) t)
            go true a =
                record {
                  turn = since-opening s dist status list _ _ r w.turn whole inner kept _ (opens-last s S T b i a);
                  few = omega (arith, opens-few s S T b i a);
                  small = change-small (neighbourhood s (is_kept status) i) t.euler t.opened w.small;
                }
            go false a =
                record { turn = since-ordinary s dist status list _ _ r w.turn whole inner kept; few = w.few; small = w.small }

        gone : goes s b e ≡ body_of (taken_out status i) next
        unfolding goes tally_after
        gone = λ j.
            record {
              kept = sym (fun_ext (gone-kept s dist status w.turn.held i below kept)) j;
              removed = sym (add-one r) j;
              opened = cond e.opens (sym (add-one t.opened) j) t.opened;
              euler = next.euler;
            }

        -- what is left after it
        rest : {A : Type 0} (f : ℕ → ℕ → Body → A) → f (entry_count list - (r + 1)) (r + 1) (body_of (taken_out status i) next)
            ≡ f (entry_count list - suc r) (suc r) (goes s b e)
        rest f = (λ j. f (entry_count list - add-one r j) (add-one r j) (sym gone j))

        walking-gone : Walking (taken_out status i) next
        unfolding list_checks leaves range tally_after
        walking-gone =
            let a = afterwards in
            let g = gone-below s dist status w.turn.held i below kept in
            record {
              turn = a.turn;
              same = length-set status i (status_of status i - 1) ∙ w.same;
              back =
                  ap (λ (k : ℕ). put_back list k (taken_out status i)) (add-one r)
                  ∙ put-back-taken list status r g (gone-odd s dist status w.turn.held i below kept)
                  ∙ w.back;
              few = a.few;
              small = a.small;
              deciding = rest (λ (n r : ℕ) (b : Body). first_failing (left n r b)) ∙ deciding-next _ (own status t) _ decides n q refl z;
              leaving = rest after ∙ sym (ap (λ (n : ℕ). after n r b) one_more) ∙ w.leaving;
            }

        pub walking-next : (gone : List ℕ) (u : Tally) → gone ≡ taken_out status i → u ≡ next → Walking gone u
        walking-next gone u f g = rw (f, g) walking-gone

    -- ---- the end

    module _ (done : length list ≤ entry_length * r) (n : ℕ) (q : n ≡ first_failing (end_checks s S (is_kept status))) where
      none_left : entry_count list - r ≡ 0
      none_left = omega arith

      pub walking-end : (v : Result (Unit {0}) Refusal) → number_in v ≡ n → Walked s dist T list before status (record { tally = t; verdict = v })
      unfolding list_checks leaves range entries_in
      walking-end v e =
          record {
            number = e ∙ q ∙ sym (ap (λ (k : ℕ). first_failing (left k r b)) none_left) ∙ w.deciding;
            answer = λ _. ap judgement_of (sym (ap (λ (k : ℕ). after k r b) none_left) ∙ w.leaving);
            listed = w.turn.listed;
            same = w.same;
            back = w.back;
          }
