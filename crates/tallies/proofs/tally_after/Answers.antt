-- `tallies::tally_after` meets its contract.
use mathlib.Core.Path.{refl}
use Prim.Native.Nat.{◌≤◌}
use native.Mathlib.Omega.{arith}
use borrow.Author.Rules.{sfits_of, rules}
use lib.IntN.{nat_abs}
use mir.Syntax.{w32}
use mir.Val.{SFits}
use mir.Facts.{to_z-of_z}
use Rattle.counting.proofs.Sums.{sum_fits, sum_is}
use Rattle.neighbourhood.proofs.Few.{groups-few, change-few}
use Rattle.tallies.proofs.Counts.{tally-ordinary, tally-opening}
use Rattle.tallies.proofs.tally_after.Goals as goal
use Rattle.tallies.proofs.tally_after.Goals.{After-struct_told-1, After-struct_told-2-1}

euler-fits : (c : After-struct_told-1) → SFits w32 c.args.t.euler
euler-fits c = search rules

pub returns-then-not-opens : goal.returns-then-not-opens
returns-then-not-opens c =
    let a = c.args in
    tally-ordinary a.s a.status.now a.i a.t _ refl a.opens c.if-not-opens.true refl (to_z-of_z (euler-fits c)) refl

pub change-requires : goal.change-requires
change-requires c = let a = c.args in groups-few a.s a.status.now a.i c.groups_at-g.result c.groups_at-g.ensures

-- the sum, as the machine holds it
module _ (c : After-struct_told-2-1) where
  held : SFits w32 c.args.t.euler
  held = search rules

  small : nat_abs c.change.result ≤ 52
  small =
      let a = c.args in
      change-few a.s a.status.now a.i c.groups_at-g.result c.groups_at-g.ensures c.change.result c.change.ensures

  most : nat_abs c.args.t.euler ≤ 2097152
  most = omega (arith, c.requires.roomy.few, c.requires.roomy.small)

pub overflow_add-result-4 : goal.overflow_add-result-4
overflow_add-result-4 c = sum_fits c.args.t.euler c.change.result (held c) (sfits_of {w = w32} c.change.type_inv) (most c) (small c)

pub returns : goal.returns
returns c =
    let a = c.args in
    tally-opening a.s a.status.now a.i a.t _ refl a.opens c.if-not-opens.false c.groups_at-g.result
    c.groups_at-g.ensures refl c.change.result c.change.ensures
    (sum_is a.t.euler c.change.result (held c) (sfits_of {w = w32} c.change.type_inv) (most c) (small c)) refl
