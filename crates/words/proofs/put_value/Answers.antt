-- `words::put_value` meets its contract.
use mathlib.Core.Path.{◌≡◌, ap, ap₂, sym, subst, subst₂, ◌∙◌}
use Prim.Native.Nat.{ℕ, ◌+◌, ◌<◌}
use lib.IntN.{ℤ}
use lib.Seq.{sets}
use lib.Signed.{mag}
use mir.Syntax.{w32}
use mir.Val.{to_z, of_z}
use mir.Facts.{to_z-of_z}
use borrow.Author.Rules.{sfits_of}
use Rattle.format.specs.Bytes.{word_bytes, unsigned, half, Holds, narrowed, value_bytes}
use Rattle.format.proofs.Bytes.{half-low, narrowed-mag}
use Rattle.words.specs.Widths.{bytes_in}
use Rattle.words.proofs.Widths.{two-or-four}
use Rattle.words.proofs.put_value.Goals as goal
use Rattle.words.proofs.put_value.Goals.{After-narrowed}

pub narrowed-requires : goal.narrowed-requires
narrowed-requires c = subst (Holds (half (bytes_in c.args.width))) (sym (to_z-of_z c.ranges.v)) c.requires.1

said : (c : After-narrowed) → let a = c.args in to_z w32 (of_z w32 c.narrowed.result) ≡ narrowed (half (bytes_in a.width)) a.v
said c =
    to_z-of_z (sfits_of {w = w32} c.narrowed.type_inv)
    ∙ c.narrowed.ensures
    ∙ ap (narrowed (half (bytes_in c.args.width))) (to_z-of_z c.ranges.v)

pub unsigned-requires : goal.unsigned-requires
unsigned-requires c =
    let h = c.half_of.ensures in
    (h.1, subst₂ (λ (v : ℤ) (k : ℕ). mag v < k) (sym (said c)) (sym h.0) (narrowed-mag _ _ (half-low _ (two-or-four c.args.width)) c.requires.1))

pub put_word-requires : goal.put_word-requires
put_word-requires c = (c.requires.0, subst (λ (k : ℕ). c.unsigned.result < k + k) c.half_of.ensures.0 c.unsigned.ensures.1)

pub returns : goal.returns
unfolding value_bytes
returns c =
    let a = c.args in
    c.put_word.ensures
    ∙ ap (λ (k : ℕ). sets a.bytes.now a.at (word_bytes (bytes_in a.width) k))
    (c.unsigned.ensures.0 ∙ ap₂ unsigned c.half_of.ensures.0 (said (goal.at.returns c).After-narrowed))
