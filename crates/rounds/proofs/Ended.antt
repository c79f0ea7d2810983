-- The line at the end, by what the rounds and finish left.
use mathlib.Core.Path.{◌≡◌, ap, sym, ◌∙◌}
use mathlib.Core.List.{List}
use Prim.Native.Nat.{ℕ}
use lib.ListN.{length}
use lib.IntN.{ℤ}
use Rattle.prelude.proofs.Counts.{counted}
use Rattle.rules.specs.declared.Record.{Record}
use Rattle.rules.specs.Grid.{size, voxels}
use Rattle.rules.specs.Meaning.{found}
use Rattle.rules.specs.Status.{is_kept}
use Rattle.rules.specs.Machine.{State, state}
use Rattle.text.specs.Line.{carved_line}
use Rattle.program.specs.Program.{after_finish, rounds_left, all_rounds, line_of, carved_to_end}
use Rattle.program.proofs.Rounds.{finish-unmoved, rounds-sides}

module _ (marks : List ℕ) (given : Record) (dist : List ℤ) (status : List ℕ) where
  pub line-ended :
      (carved ended : Record) (d : List ℤ) (b : List ℕ) (kept : ℕ) (euler : ℤ)
      → length b ≡ size given.sides
      → state carved dist b ≡ all_rounds marks (state given dist status)
      → state ended d b ≡ after_finish (state carved dist b)
      → kept ≡ counted (is_kept b) (length b)
      → euler ≡ ended.euler
      → carved_line kept ended.removals ended.openings ended.examinations euler ≡ carved_to_end marks (state given dist status)
  unfolding carved_to_end line_of voxels
  line-ended carved ended d b kept euler l e f k z =
      let rounds = rounds_left given in
      let g = state given dist status in
      let sides : ended.sides ≡ given.sides =
      ap (λ (h : State). h.rec.sides) f ∙ (finish-unmoved (state carved dist b)).sides ∙ ap (λ (h : State). h.rec.sides) e ∙ rounds-sides marks rounds g in
      let kept-found : kept ≡ found ended.sides (is_kept b) = k ∙ ap (counted (is_kept b)) (l ∙ ap size (sym sides)) in
      rw (kept-found, z) (ap line_of (f ∙ ap after_finish e))
