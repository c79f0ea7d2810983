-- `pin` by whether there are marks.
use mathlib.Core.Path.{◌≡◌, ap, sym, ◌∙◌}
use mathlib.Core.Logic.{inl, inr}
use Prim.Native.Nat.{ℕ, ◌/◌, ◌≤◌}
use native.Mathlib.Omega.{arith}
use borrow.Author.Tests.{eqb-true, eqb-false}
use lib.ListN.{length, take}
use lib.Seq.{length-take-le, take_at}
use borrow.Author.Rules.{rules}
use Rattle.rules.specs.Grid.{size}
use Rattle.rules.specs.Marks.{marked}
use Rattle.coarse.specs.Blocks.{halved}
use Rattle.blocks.proofs.Rows.{eighth}
use Rattle.coarse_run.proofs.Running.{unpinned}
use Rattle.coarse_run.proofs.pin.Goals as goal
use Rattle.coarse_run.proofs.pin.Goals.{Else-is_empty}

pub returns-then-is_empty : goal.returns-then-is_empty
returns-then-is_empty c = let a = c.args in (omega arith, unpinned a.s a.marks.now (eqb-true _ _ (sym c.is_empty.ensures ∙ c.if-is_empty.true)))

pub slice_bounds-pin-end-2 : goal.slice_bounds-pin-end-2
slice_bounds-pin-end-2 c = sym (length-take-le _ _ (omega arith))

-- an eighth of the bytes is one for each block
blocks-room : (c : Else-is_empty) → let a = c.args in length a.bytes.now / 8 ≡ size (halved a.s)
blocks-room c = ap (λ (n : ℕ). n / 8) c.requires.len ∙ eighth c.args.s c.requires.even

pub pin-requires : goal.pin-requires
pin-requires c =
    let few : length c.args.bytes.now / 8 ≤ length c.args.bytes.now = omega arith in
    record {
      sides = c.requires.sides;
      half-sides = c.requires.half-sides;
      even = c.requires.even;
      len = elim c.requires.marks-len [ inl z ↦ (let y : ⊥ = omega (arith, eqb-false _ _ (sym c.is_empty.ensures ∙ c.if-is_empty.false)) in absurd y) | inr q ↦ q ];
      blocks-len = length-take-le _ _ few ∙ blocks-room (goal.at.pin-requires c).Else-is_empty;
    }

pub returns : goal.returns
returns c =
    let n = length c.args.bytes.now / 8 in
    let few : n ≤ length c.args.bytes.now = omega arith in
    let same : length c.pin.new.pins ≡ length (take n c.args.bytes.now) = search rules in
    let whole : length c.pin.new.pins ≡ n = same ∙ length-take-le _ _ few in
    (omega (arith, blocks-room (goal.at.returns c).Else-is_empty), ap marked (take_at c.pin.new.pins _ n whole) ∙ c.pin.ensures)
