-- The rows of a layer, swept as the columns of the layer transposed; and a layer at which there is nothing to sweep.
use mathlib.Core.Path.{◌≡◌, refl, sym, ap, ◌∙◌}
use mathlib.Core.Logic.{⊎_elim}
use mathlib.Core.Bool.{true, false}
use mathlib.Core.List.{List}
use Prim.Native.Nat.{ℕ, ◌+◌, ◌-◌, ◌*◌, ◌/◌, ◌%◌, ◌≤◌, ◌<◌}
use native.Mathlib.Omega.{arith}
use native.Mathlib.Nat.{mul_comm, mod-lt, div-add-mod', div-lt_iff_lt-mul}
use lib.ListN.{length, get_or, replicate, length-replicate, get_or-replicate, get_or-eq_default}
use Rattle.std.specs.List.{between}
use Rattle.std.proofs.lemmas.List.Edits.{length-between, get_or-between}
use Rattle.rules.specs.Grid.{gap}
use Rattle.loops.proofs.Orders.{split}
use Rattle.transposing.specs.Transposed.{Transposed}
use Rattle.sweeps.specs.Sweep.{Slab, Both}
use Rattle.sweeps.proofs.Spreading.{place_in}

-- an index below n rows of w is at some place of some row
record Placed (n w k : ℕ) : Type 0 where
  row : ℕ
  place : ℕ
  row_in : row < n
  place_in : place < w
  is : k ≡ row * w + place

placed : (n w k : ℕ) → 0 < w → k < n * w → Placed n w k
placed n w k p h =
    record { row = k / w; place = k % w; row_in = (div-lt_iff_lt-mul p).1 h; place_in = mod-lt k p; is = sym (div-add-mod' k w) }

-- the layer before anything stands in it
abbrev blank : List ℕ
blank = replicate 4096 0

blank-len : length blank ≡ 4096
blank-len = length-replicate {A = ℕ} 4096 0

blank-at : (k : ℕ) → get_or blank k 0 ≡ 0
blank-at k =
    ⊎_elim (λ h. get_or-eq_default blank 0 {n = k} (omega (arith, blank-len))) (λ h. get_or-replicate {A = ℕ} 4096 k 0 0 h) (split 4096 k)

module _ (d : List ℕ) (st m at : ℕ) (B : Slab d st m at) where
  -- all are the same
  pub level-both : (let part = between at (at + m * st) d in (k : ℕ) → k < length part → get_or part k 0 ≡ get_or part 0 0) → Both true st m at d d
  unfolding gap
  level-both L =
      record {
        len = refl;
        lower = λ k. omega arith;
        spread =
            record {
              near = λ q q' r h h' l. omega (arith, same q r h l, same q' r h' l);
              some = λ q r h l. (q, h, omega arith);
            };
        outside = λ k o. refl;
      }
    where
      same : (q r : ℕ) → q < m → r < st → get_or d (at + r * m + q) 0 ≡ get_or d at 0
      same q r h l =
          let i = place_in true st m at r q h l in
          let end = at + m * st in
          let long = length-between d at end B.fits in
          let k = r * m + q in
          let e : at + r * m + q ≡ at + k = omega arith in
          let z : at + 0 ≡ at = omega arith in
          ap (λ (x : ℕ). get_or d x 0) e
          ∙ sym (get_or-between d at end k 0 (omega arith))
          ∙ L k (omega arith)
          ∙ get_or-between d at end 0 0 (omega arith)
          ∙ ap (λ (x : ℕ). get_or d x 0) z

  -- transposed into a blank layer, swept there, and transposed back
  module _ (small : m * st ≤ 4096) (layer : List ℕ) (T : Transposed d at st m m 0 blank layer) where
    layer-len : length layer ≡ 4096
    layer-len = T.len ∙ blank-len

    pub layer-slab : Slab layer st m 0
    layer-slab =
        record {
          st-pos = B.st-pos;
          m-pos = B.m-pos;
          fits = omega (arith, layer-len);
          few = omega (arith, layer-len);
          small = λ k. ⊎_elim
              (λ h. omega (arith, T.outside k (λ z. h), blank-at k))
              (λ h.
              let P = placed m st k B.st-pos (omega arith) in
              let e = ap (λ (i : ℕ). get_or layer i 0) (let q : k ≡ 0 + P.row * st + P.place = omega (arith, P.is) in q) in
              omega (arith, T.inside P.row P.place P.row_in P.place_in, B.small (at + P.place * m + P.row)))
              (split (0 + m * st) k);
        }

    module _ (swept d' : List ℕ) (S : Both false st m 0 layer swept) (U : Transposed swept 0 m st st at d d') where
      was : (q r : ℕ) → q < m → r < st → get_or layer (0 + q * st + r) 0 ≡ get_or d (at + r * m + q) 0
      was q r h l = T.inside q r h l

      now-is : (q r : ℕ) → q < m → r < st → get_or d' (at + r * m + q) 0 ≡ get_or swept (0 + q * st + r) 0
      now-is q r h l = U.inside r q l h

      pub rows_both : Both true st m at d d'
      rows_both =
          record {
            len = U.len;
            lower = lower;
            spread =
                record {
                  near = λ q q' r h h' l. omega (arith, S.spread.near q q' r h h' l, now-is q r h l, was q' r h' l);
                  some = λ q r h l.
                      let w = S.spread.some q r h l in
                      (w.0, w.1, omega (arith, w.2, now-is q r h l, was w.0 r w.1 l));
                };
            outside = λ k o. U.outside k (λ z. let h = o z in omega (arith, mul_comm st m));
          }
        where
          lower : (k : ℕ) → get_or d' k 0 ≤ get_or d k 0
          lower k =
              ⊎_elim
              (λ h. ⊎_elim
              (λ g. omega (arith, U.outside k (λ z. omega (arith, mul_comm st m))))
              (λ g.
              let P = placed st m (k - at) B.m-pos (omega (arith, mul_comm st m)) in
              let q : k ≡ at + P.row * m + P.place = omega (arith, P.is) in
              let i = P.place in
              let j = P.row in
              omega (
                arith,
                ap (λ (x : ℕ). get_or d' x 0) q,
                ap (λ (x : ℕ). get_or d x 0) q,
                now-is i j P.place_in P.row_in,
                was i j P.place_in P.row_in,
                S.lower (0 + i * st + j),
              ))
              (split (at + m * st) k))
              (λ h. omega (arith, U.outside k (λ z. absurd (omega arith))))
              (split at k)
