-- Write's checks, by what the code found: of the grid first, then of the room.
use mathlib.Core.Path.{◌≡◌, refl, ap, sym, ◌∙◌}
use mathlib.Core.Bool.{Bool, true, false, cond}
use mathlib.Core.List.{List, [], ◌∷◌}
use Prim.Native.Nat.{ℕ, ◌≤◌, ◌<◌}
use native.Mathlib.Omega.{arith}
use lib.Dec.{ltb}
use lib.ListN.{length}
use lib.IntN.{ℤ}
use borrow.Author.Tests.{lt-ltb, eqb-true}
use Rattle.prelude.specs.Lists.{any}
use Rattle.prelude.proofs.Bools.{not-false}
use Rattle.rules.specs.declared.Sides.{Sides}
use Rattle.rules.specs.Value.{stray}
use Rattle.rules.specs.Grid.{fit_sides}
use Rattle.rules.specs.Checks.{Check, ◌when◌, first_failing, unless, AllHold}
use Rattle.rules.specs.Answer.{untouched}
use Rattle.rules.proofs.Checks.{fails-first, held_at, held_none, call-refused, unless-after, refused-first, held_first, append-hold}
use Rattle.format.specs.Written.{written_length, size_checks, grid_checks, write_checks, written, write}
use Rattle.writing.specs.Room.{Room}

-- what holds of a grid that is not refused
module _ (s : Sides) (values : List ℤ) (h : AllHold (grid_checks s values)) where
  pub grid-fits : fit_sides s ≡ true
  grid-fits = not-false _ (held_at (grid_checks s values) h 1)

  pub has_room : (lent : ℕ) → written_length s values ≤ lent → Room s values lent
  has_room lent r =
      let held = held_at (grid_checks s values) h in
      record { fits = grid-fits; long = eqb-true _ _ (not-false _ (held 2)); known = held 28; room = r }

module _ (s : Sides) (T : ℕ) (values : List ℤ) (file : List ℕ) where
  abbrev room_checks : List Check
  room_checks = 26 when ltb (length file) (written_length s values) ∷ []

  pub grid-refused : (n : ℕ) → n ≡ first_failing (grid_checks s values) → (n ≡ 0 → ⊥) → untouched file n ≡ write s T values file
  unfolding write
  grid-refused n e f =
      call-refused (untouched file) (written s T values file) (write_checks s values (length file)) n
      (refused-first (grid_checks s values) room_checks n e f) f

  abbrev stray_checks : List Check
  stray_checks = 28 when any stray values ∷ []

  -- by the number of checks 1 and 2, and what the scan of the values found
  module _ (n : ℕ) (e : n ≡ first_failing (size_checks s values)) where
    pub size-refused : (n ≡ 0 → ⊥) → untouched file n ≡ write s T values file
    size-refused f = grid-refused n (refused-first (size_checks s values) stray_checks n e f) f

    pub stray-refused : n ≡ 0 → any stray values ≡ true → untouched file 28 ≡ write s T values file
    stray-refused z t =
        grid-refused 28 (held_first (size_checks s values) stray_checks n e refl z 28 (sym (fails-first 28 (any stray values) [] t))) (λ e. omega arith)

    pub grid-holds : n ≡ 0 → any stray values ≡ false → AllHold (grid_checks s values)
    grid-holds z t = append-hold (size_checks s values) stray_checks (held_none (size_checks s values) n e refl z) (t, tt)

  module _ (h : AllHold (grid_checks s values)) where
    pub room-refused : length file < written_length s values → untouched file 26 ≡ write s T values file
    unfolding write unless
    room-refused l =
        sym (unless-after (untouched file) (written s T values file) (grid_checks s values) room_checks h
        ∙ ap (λ (t : Bool). cond t (untouched file 26) (written s T values file)) (lt-ltb (length file) (written_length s values) l))
