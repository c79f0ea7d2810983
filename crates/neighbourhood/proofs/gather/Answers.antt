-- `neighbourhood::gather` meets its contract.
use mathlib.Core.Path.{sym, ap, ◌∙◌, subst, subst₂}
use mathlib.Core.List.{List}
use Prim.Native.Nat.{ℕ, ◌*◌}
use native.Mathlib.Omega.{arith}
use Rattle.neighbourhood.specs.Neighbourhood.{Room, cube_at, Gathered}
use Rattle.neighbourhood.proofs.Interior.{layer-small, room}
use Rattle.neighbourhood.proofs.Gathering.{gathered}
use borrow.Author.Rules.{rules}
use Rattle.neighbourhood.proofs.gather.Goals as goal

pub overflow_mul-s : goal.overflow_mul-s
overflow_mul-s c = record { fits = let b = layer-small _ _ c.requires.0 in omega arith }

pub cube-requires : goal.cube-requires
cube-requires c =
    let s = c.args.s in (
      subst₂ (λ (m n : ℕ). Room s.a (s.a * s.b) m n) (sym c.first_around-at.ensures) (sym c.requires.1.lent) (room s c.args.i c.requires.0),
      c.requires.1.few,
    )

pub returns : goal.returns
returns c =
    let a = c.args in
    subst (λ (block : List (List ℕ)). Gathered a.s a.status.now a.i block)
    (sym (c.cube.ensures ∙ ap (cube_at a.status.now a.s.a (a.s.a * a.s.b)) c.first_around-at.ensures))
    (gathered a.s a.status.now a.i)
