-- Column by column.
use mathlib.Core.Path.{◌≡◌, refl, sym, ap, ◌∙◌}
use mathlib.Core.Logic.{⊎_elim}
use mathlib.Core.List.{List}
use Prim.Native.Nat.{ℕ, suc, ◌+◌, ◌*◌, ◌<◌, ◌≤◌}
use native.Mathlib.Omega.{arith}
use native.Mathlib.Nat.{suc-mul}
use lib.ListN.{length, get_or}
use borrow.Rule.Slice.PartMut.{put_mid}
use Rattle.loops.proofs.Orders.{split, times-next}
use Rattle.loops.proofs.Parts.{part_length, part_at, outside}
use Rattle.transposing.specs.Transposed.{Transposed}

module _ (from : List ℕ) (at rows m first : ℕ) where
  -- one column more
  pub transposed-more : (n : ℕ) (to mid ys : List ℕ) → first + n * rows + rows ≤ length mid → length ys ≡ rows → Transposed from at rows m n first to mid
      → ((r : ℕ) → r < rows → get_or ys r 0 ≡ get_or from (at + r * m + n) 0)
      → Transposed from at rows m (n + 1) first to (put_mid (first + n * rows) rows mid ys)
  transposed-more n to mid ys h e T column =
      let start = first + n * rows in
      let next = suc-mul n rows in
      let one : (n + 1) * rows ≡ n * rows + rows = omega (arith, ap (λ (x : ℕ). x * rows) (let e : n + 1 ≡ suc n = omega arith in e)) in
      let beyond = outside 0 start rows (start + rows) mid ys h refl e in
      record {
        len = part_length 0 start rows (start + rows) mid ys h refl e ∙ T.len;
        inside = λ j r g l. ⊎_elim
            (λ q.
            let s : j ≡ n = omega arith in
            ap (λ (x : ℕ). get_or (put_mid start rows mid ys) (first + x * rows + r) 0) s
            ∙ part_at 0 start rows (start + rows) mid ys h refl e r l
            ∙ column r l
            ∙ ap (λ (x : ℕ). get_or from (at + r * m + x) 0) (sym s))
            (λ q.
            let b = times-next j n rows q in
            beyond (first + j * rows + r) (λ g. let z : ⊥ = omega arith in absurd z) ∙ T.inside j r q l)
            (split n j);
        outside = λ k o. ⊎_elim
            (λ q. beyond k (λ g. omega (arith, o (omega arith))) ∙ T.outside k (λ g. omega (arith, o g)))
            (λ q. beyond k (λ g. let z : ⊥ = omega arith in absurd z) ∙ T.outside k (λ g. omega (arith, o g)))
            (split start k);
      }
