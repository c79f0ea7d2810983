-- `layers::any_stray` meets its contract: what is found is whether one of the values before i is stray.
use mathlib.Core.Path.{◌≡◌, refl, ap, sym, ◌∙◌}
use Prim.Native.Nat.{ℕ, ◌+◌, ◌*◌, ◌≤◌}
use native.Mathlib.Omega.{arith}
use lib.ListN.{length}
use mir.Facts.{to_z-of_z}
use borrow.Author.Rules.{sfits_of}
use Rattle.prelude.specs.Lists.{any, range}
use Rattle.prelude.proofs.Ranges.{any-run-none, scan-next}
use Rattle.rules.specs.Value.{stray}
use Rattle.format.specs.Bytes.{value_of}
use Rattle.format.proofs.Sizes.{value_room}
use Rattle.format.proofs.Strays.{strays-by-index}
use mir.Syntax.{w32}
use Rattle.layers.proofs.any_stray.Goals as goal
use Rattle.layers.proofs.any_stray.Goals.{In-loop-i}

room : (c : In-loop-i) → let a = c.args in 4 * c.loop-i.i + 4 ≤ length a.bytes.now
room c = value_room _ _ _ _ c.requires (omega arith)

pub loop-i-init : goal.loop-i-init
loop-i-init c = sym (any-run-none _ 0 0 refl)

pub overflow_mul-i : goal.overflow_mul-i
overflow_mul-i c = omega (arith, room c)

pub value-v-requires : goal.value-v-requires
value-v-requires c = room c

pub loop-i-preserved : goal.loop-i-preserved
loop-i-preserved c =
    scan-next _ c.loop-i.i _ _ c.loop-i.invariant (c.beyond-found.ensures ∙ ap stray (to_z-of_z (sfits_of {w = w32} c.value-v.type_inv) ∙ c.value-v.ensures))

pub returns : goal.returns
returns c =
    let a = c.args in
    let all : c.loop-i.i ≡ a.count = omega arith in
    c.loop-i.invariant
    ∙ ap (λ (n : ℕ). any (λ k. stray (value_of 4 a.bytes.now (4 * k))) (range 0 n)) all
    ∙ sym (strays-by-index 4 a.count a.bytes.now)
