-- All checks of serve: those on the grids and the order record, and then 35, which the choice of a place makes.
use mathlib.Core.Path.{◌≡◌, refl, ap, sym, ◌∙◌, subst}
use mathlib.Core.Bool.{false, not, ◌&&◌, ◌||◌}
use mathlib.Core.List.{List, [], ◌∷◌, ◌++◌}
use Rattle.std.specs.Prelude.{Option, None, Some, Result, Ok, Err, IsErrAnd, ok_or}
use Prim.Native.Nat.{ℕ}
use native.Mathlib.Omega.{arith}
use lib.Dec.{leb, ltb}
use lib.IntN.{ℤ}
use lib.ListN.{length}
use borrow.Author.Tests.{leb-false, ltb-false}
use Rattle.cells.specs.Groups.{any}
use Rattle.prelude.proofs.Bools.{or-false}
use Rattle.prelude.proofs.Lists.{none-at}
use Rattle.prelude.proofs.Ranges.{below-any, below_none}
use Rattle.rules.specs.declared.Record.{Record}
use Rattle.rules.specs.Grid.{range, fit_sides}
use Rattle.rules.specs.Checks.{Check, ◌when◌, first_failing, AllHold}
use Rattle.rules.specs.declared.Refusal.{Refusal}
use Rattle.rules.specs.Refusals.{number_of}
use Rattle.rules.specs.Marks.{stray_mark}
use Rattle.rules.specs.Machine.{unfit}
use Rattle.rules.proofs.Checks.{fails-first, holds-first, hold-append}
use Rattle.rules.proofs.Refusals.{refused-before, passed-before, passed}
use Rattle.office.specs.declared.Grids.{Grids}
use Rattle.office.specs.declared.Order.{Order}
use Rattle.office.specs.Parts.{total}
use Rattle.office.specs.Order.{names_twice, unfit_order, queue, first_waiting}
use Rattle.office.specs.Serve.{Office, grids, no_record, grid_at, waits, to_serve, within, wrong_lengths, serve_checks}
use Rattle.office.proofs.Queue.{fit-order, queue-fit, in-queue, first-mem, none-waits}
use Rattle.office.specs.Structs.{records_of, places_of, office_given}
use Rattle.order_record.proofs.Places.{length-listed, length-places, listed_at}
use Rattle.serving_checks.specs.Given.{sizes_of, grids_of, LaidOut, layout_checks, state_checks, grid_checks}
use Rattle.serving_checks.proofs.Numbers.{laid_out}
use Rattle.choosing.specs.Choice.{Choosing, Looked}

module _ (marks : List ℕ) (limit : ℕ) (g : Grids) (o : Order) (dist : List ℤ) (status : List ℕ) where
  abbrev O : Office
  O = office_given g o dist status

  abbrev own : List Check
  own = grid_checks marks limit g o dist status

  abbrev quiet : List Check
  quiet = 35 when not (any (waits O) (range 0 g.count)) ∷ []

  pub grids-are : grids O ≡ g.count
  grids-are = length-listed no_record g.count g.records

  checks-are : serve_checks marks limit O ≡ own ++ quiet
  unfolding wrong_lengths grid_at
  checks-are =
      ap (λ (n : ℕ).
      34 when not (within 1 1000 limit && within 1 16 n)
      ∷ 1 when any (λ (r : Record). not (fit_sides r.sides)) (records_of g)
      ∷ 2 when wrong_lengths marks O
      ∷ 7 when (any (λ p. unfit (grid_at O p)) (range 0 n) || unfit_order n (places_of o))
      ∷ 29 when stray_mark marks
      ∷ 8 when any (λ (r : Record). r.finished) (records_of g)
      ∷ 35 when not (any (waits O) (range 0 n))
      ∷ []) grids-are

  -- what 34, 1 and 2 give where no check fails
  pub all_laid : AllHold (serve_checks marks limit O) → (LaidOut g dist status) × (length marks ≡ total (sizes_of g))
  all_laid h =
      laid_out limit g dist status marks (hold-append (layout_checks limit g (length dist) (length status) (length marks))
      (state_checks marks g o dist status ++ quiet) (subst AllHold checks-are h)).0

  own-refused : (e : Refusal) → number_of e ≡ first_failing own → number_of e ≡ first_failing (serve_checks marks limit O)
  own-refused e h = refused-before own quiet e h ∙ ap first_failing (sym checks-are)

  pub looked-refused : (l : Result ℕ Refusal) (e : Refusal) → IsErrAnd l (λ d. d ≡ e) → number_of e ≡ first_failing own → Looked l marks limit O
  looked-refused (Ok p) e h f = absurd h
  looked-refused (Err d) e h f = ap number_of h ∙ own-refused e f

  -- no check but 35 fails
  module _ (z : 0 ≡ first_failing own) where
    then-quiet : (m : ℕ) → m ≡ first_failing quiet → m ≡ first_failing (serve_checks marks limit O)
    then-quiet m f = passed-before own quiet refl z m f ∙ ap first_failing (sym checks-are)

    held : (AllHold (layout_checks limit g (length dist) (length status) (length marks))) × (AllHold (state_checks marks g o dist status))
    held = hold-append (layout_checks limit g (length dist) (length status) (length marks)) (state_checks marks g o dist status) (passed own refl z)

    -- the order record is fit
    ordered : unfit_order g.count (places_of o) ≡ false
    ordered = (or-false (any (λ p. unfit (grid_at (grids_of g dist status) p)) (range 0 g.count)) (unfit_order g.count (places_of o)) held.1.0).1

    pub choosing : Choosing g o status
    unfolding unfit_order
    choosing =
        let laid = (laid_out limit g dist status marks held.0).0 in
        let longer = or-false (ltb g.count (length (places_of o))) (names_twice (places_of o) || any (leb g.count) (places_of o)) ordered in
        let past = or-false (names_twice (places_of o)) (any (leb g.count) (places_of o)) longer.1 in
        record {
          laid = record { sized = laid.sized; statuses = laid.statuses };
          few = omega (arith, ltb-false g.count (length (places_of o)) longer.0, length-places o, laid.sized.few);
          below = λ k h.
              leb-false g.count _ (ap (leb g.count) (sym (listed_at 0 o.len o.places k h))
              ∙ none-at (leb g.count) 0 (places_of o) past.1 k (omega (arith, length-places o)));
        }

    -- nothing to serve is nothing pending, and who is served has something pending
    served-none : first_waiting (waits O) (queue (grids O) (places_of o)) ≡ None → 35 ≡ first_failing (serve_checks marks limit O)
    served-none e =
        then-quiet 35 (sym (fails-first 35 _ [] (ap not (below_none (waits O) g.count (λ p b.
        none-waits (waits O) (queue (grids O) (places_of o)) e p (in-queue (grids O) (places_of o) p (omega (arith, grids-are))))))))

    served-zero : (p : ℕ) → first_waiting (waits O) (queue (grids O) (places_of o)) ≡ Some p → 0 ≡ first_failing (serve_checks marks limit O)
    unfolding first_failing
    served-zero p e =
        let m = first-mem (waits O) (queue (grids O) (places_of o)) p e in
        let fit = fit-order (grids O) (places_of o) (ap (λ (n : ℕ). unfit_order n (places_of o)) grids-are ∙ ordered) in
        let below = (queue-fit (grids O) (places_of o) fit).below p m.0 in
        then-quiet 0 (sym (holds-first 35 _ [] (ap not (below-any (waits O) g.count p (omega (arith, below, grids-are)) m.1))))

    -- what the choice finds: the distances do not matter to it
    pub looked : (r : Option ℕ) → r ≡ to_serve (office_given g o [] status)
        → (l : Result ℕ Refusal) → l ≡ ok_or r Refusal.NothingPending → Looked l marks limit O
    unfolding to_serve waits grid_at
    looked None e l f = let P : Result ℕ Refusal → Type 0 = λ l. Looked l marks limit O in subst P (sym f) (served-none (sym e))
    looked (Some p) e l f =
        let P : Result ℕ Refusal → Type 0 = λ l. Looked l marks limit O in subst P (sym f) (served-zero p (sym e), sym e)
