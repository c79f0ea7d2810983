-- `serving::serve_at` meets its contract: the part of the grid is carved, and the order record moved.
use mathlib.Core.Path.{refl}
use borrow.Author.Rules.{rules}
use Rattle.serving.proofs.AtPlace.{Ready, ready, within, part-marking, served-is}
use Rattle.serving.proofs.serve_at.Goals as goal
use Rattle.serving.proofs.serve_at.Goals.{Start}

is-ready : (c : Start) → let a = c.args in Ready a.marks.now a.limit a.g a.o a.dist.now a.status.now a.p
is-ready c = let a = c.args in ready a.marks.now a.limit a.g a.o a.dist.now a.status.now a.p c.requires.0 c.requires.1

pub start_of-from-requires : goal.start_of-from-requires
start_of-from-requires c = let r = is-ready (goal.at.start_of-from-requires c).Start in search rules

pub overflow_add-p : goal.overflow_add-p
overflow_add-p c = let r = is-ready (goal.at.overflow_add-p c).Start in search rules

pub start_of-to-requires : goal.start_of-to-requires
start_of-to-requires c = let r = is-ready (goal.at.start_of-to-requires c).Start in search rules

pub record_at-given-requires : goal.record_at-given-requires
record_at-given-requires c = let r = is-ready (goal.at.record_at-given-requires c).Start in search rules

pub overflow_cast-place : goal.overflow_cast-place
overflow_cast-place c = let r = is-ready (goal.at.overflow_cast-place c).Start in search rules

pub served_last-order-requires : goal.served_last-order-requires
served_last-order-requires c = let r = is-ready (goal.at.served_last-order-requires c).Start in search rules

pub carve-carving-requires : goal.carve-carving-requires
carve-carving-requires c =
    let a = c.args in (
      within a.marks.now a.limit a.g a.o a.dist.now a.status.now a.p (is-ready (goal.at.carve-carving-requires c).Start) _ _ c.start_of-from.ensures
          c.start_of-to.ensures _ c.record_at-given.ensures,
      part-marking a.marks.now a.limit a.g a.o a.dist.now a.status.now a.p (is-ready (goal.at.carve-carving-requires c).Start) _ _ c.start_of-from.ensures
          c.start_of-to.ensures _ c.record_at-given.ensures,
    )

pub returns : goal.returns
returns c =
    let a = c.args in
    served-is a.marks.now a.limit a.g a.o a.dist.now a.status.now a.p (is-ready (goal.at.returns c).Start) _ _ c.start_of-from.ensures c.start_of-to.ensures _
    c.record_at-given.ensures _ _ _ _ refl c.served_last-order.ensures c.carve-carving.ensures
