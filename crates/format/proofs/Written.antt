-- Write where none of its checks fails.
use mathlib.Core.Path.{◌≡◌, sym}
use mathlib.Core.List.{List, [], ◌∷◌}
use Prim.Native.Nat.{ℕ, ◌≤◌}
use lib.Dec.{ltb}
use lib.ListN.{length}
use lib.IntN.{ℤ}
use borrow.Author.Tests.{le-ltb}
use Rattle.rules.specs.declared.Sides.{Sides}
use Rattle.rules.specs.Checks.{◌when◌, AllHold}
use Rattle.rules.specs.Answer.{untouched}
use Rattle.rules.proofs.Checks.{unless-held, append-hold}
use Rattle.format.specs.Written.{written_length, grid_checks, write_checks, written, write}

pub all-written :
    (s : Sides) (T : ℕ) (values : List ℤ) (file : List ℕ) → AllHold (grid_checks s values) → written_length s values ≤ length file
    → written s T values file ≡ write s T values file
unfolding write
all-written s T values file h r =
    sym (unless-held (untouched file) (written s T values file) (write_checks s values (length file))
    (append-hold (grid_checks s values) (26 when ltb (length file) (written_length s values) ∷ []) h (le-ltb (length file) (written_length s values) r, tt)))
