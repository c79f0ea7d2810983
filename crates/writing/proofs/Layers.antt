-- The records, of either width, written one after the other behind the header: the loop's invariant.
use mathlib.Core.Path.{◌≡◌, sym, ap, ap₂, ◌∙◌}
use mathlib.Core.Bool.{true}
use mathlib.Core.List.{List, ◌++◌, flat_map, append-nil, append_assoc}
use Prim.Native.Nat.{ℕ, suc, ◌+◌, ◌-◌, ◌*◌, ◌≤◌, ◌<◌}
use native.Mathlib.Omega.{arith}
use native.Mathlib.Nat.{mul-le-mul, mul-le-mul_right}
use lib.ListN.{length, take, drop, length-append, length-drop, take-append-drop}
use lib.Seq.{length-take-le}
use lib.IntN.{ℤ}
use Rattle.prelude.specs.Lists.{range}
use Rattle.rules.specs.declared.Sides.{Sides}
use Rattle.rules.specs.Grid.{fit_sides}
use Rattle.rules.proofs.Places.{fit}
use Rattle.format.specs.Layer.{area, layer_length}
use Rattle.format.specs.File.{header_length}
use Rattle.format.specs.Written.{layer_values, width_for, Held, layer_form, layers_form, written_length}
use Rattle.format.proofs.Sizes.{length_part}
use Rattle.format.proofs.Holding.{held, held-between}
use Rattle.format.proofs.Forms.{length-layer_values, length-layers_form, layers_form-next}
use Rattle.writing.specs.Room.{Room}
use Rattle.file_records.proofs.Laying.{lay}

-- so many records and the header, by the length of a record that the code found: no sum of the writer's overflows
pub records-end : (s : Sides) (count total : ℕ) → fit_sides s ≡ true → count ≤ s.c → total ≤ 16387 → header_length + count * total ≤ 1048775
records-end s count total f c t =
    let n : count ≤ 64 = omega (arith, (fit s f).c-high) in
    let m : count * total ≤ 64 * 16387 = mul-le-mul n t in
    omega arith

module _ (s : Sides) (width : ℕ) (values : List ℤ) (lent : List ℕ) where
  -- the first layers behind the header
  abbrev laid : ℕ → List ℕ
  laid z = take header_length lent ++ layers_form s width values z

  -- they stand before what was lent
  pub record Laid (file : List ℕ) (start z : ℕ) : Type 0 where
    pub ready : Room s values (length lent)
    pub width_is : width ≡ width_for values
    pub within : z ≤ s.c
    pub at : start ≡ header_length + z * layer_length s width
    pub stands : file ≡ laid z ++ drop start lent

  pub laid-start : Room s values (length lent) → width ≡ width_for values → Laid lent header_length 0
  unfolding layers_form flat_map range
  laid-start r e =
      let stands = take-append-drop header_length lent in
      record {
        ready = r;
        width_is = e;
        within = omega arith;
        at = omega arith;
        stands = sym (ap (λ (h : List ℕ). h ++ drop header_length lent) (append-nil (take header_length lent)) ∙ stands);
      }

  module _ (file : List ℕ) (start z : ℕ) (p : Laid file start z) where
    laid-held : Held width values
    laid-held = rw p.width_is (held values p.ready.known)

    -- all records lie in the buffer
    laid-fits : header_length + s.c * layer_length s width ≤ length lent
    laid-fits = rw p.width_is p.ready.room

    length-laid : length (laid z) ≡ start
    length-laid =
        let h = length-take-le header_length lent (omega (arith, laid-fits)) in
        length-append (take header_length lent) (layers_form s width values z)
        ∙ ap₂ (λ (m n : ℕ). m + n) h (length-layers_form s width values p.ready.long z p.within)
        ∙ sym p.at

    in_lent : (k : ℕ) → k ≤ s.c → header_length + k * layer_length s width ≤ length lent
    in_lent k h =
        let m : k * layer_length s width ≤ s.c * layer_length s width = mul-le-mul_right (layer_length s width) h in
        omega (arith, laid-fits)

    pub laid-long : length file ≡ length lent
    laid-long =
        ap length p.stands
        ∙ length-append (laid z) (drop start lent)
        ∙ omega (arith, length-laid, length-drop start lent, p.at, in_lent z p.within)

    -- the next record, by the length that the code found, lies in the buffer
    pub laid-room : (total : ℕ) → z < s.c → total ≡ layer_length s width → start + total ≤ length file
    laid-room total h e = omega (arith, p.at, e, in_lent (suc z) h, laid-long)

    -- and ends below what a file may have
    pub laid_end : (total : ℕ) → z < s.c → total ≡ layer_length s width → total ≤ 16387 → start + total ≤ 1048775
    laid_end total h e t =
        let at : start ≡ header_length + z * total = p.at ∙ ap (λ (n : ℕ). header_length + z * n) (sym e) in
        omega (arith, records-end s (suc z) total p.ready.fits h t)

    -- the values of the next layer and the bytes of its record, as the parts that the code takes
    module _ (from count total : ℕ) (h : z < s.c) (ef : from ≡ z * area s) (ec : count ≡ area s) (et : total ≡ layer_length s width) where
      abbrev part : List ℤ
      part = take (from + count - from) (drop from values)

      part-is : part ≡ layer_values s values z
      part-is = let k : from + count - from ≡ area s = omega (arith, ec) in ap₂ (λ (n f : ℕ). take n (drop f values)) k ef

      pub laid-part : (Held width part) × (length (take (start + total - start) (drop start file)) ≡ 3 + width * length part)
      laid-part =
          let bytes = length_part file start (start + total) (omega arith) (laid-room total h et) in
          let all : start + total - start ≡ layer_length s width = omega (arith, et) in
          let long : length part ≡ area s = ap length part-is ∙ length-layer_values s width values p.ready.long z h in
          (held-between laid-held (from + count - from) from, bytes ∙ all ∙ ap (λ (n : ℕ). 3 + width * n) (sym long))

      pub laid_next :
          (new : List ℕ) → new ≡ layer_form width z part
          → Laid (take start file ++ (new ++ drop (start + total - start) (drop start file))) (start + total) (z + 1)
      laid_next new e =
          record {
            ready = p.ready;
            width_is = p.width_is;
            within = omega arith;
            at = omega (arith, p.at, et);
            stands =
                ap (λ (f : List ℕ). take start f ++ (new ++ drop total' (drop start f))) p.stands
                ∙ lay (laid z) new lent start length-laid total'
                ∙ ap₂ (λ (l : List ℕ) (n : ℕ). l ++ drop (start + n) lent) one_more (omega arith);
          }
        where
          total' : ℕ
          total' = start + total - start

          one_more : laid z ++ new ≡ laid (z + 1)
          one_more =
              let m : z + 1 ≡ suc z = omega arith in
              append_assoc (take header_length lent) (layers_form s width values z) new
              ∙ ap (λ (l : List ℕ). take header_length lent ++ (layers_form s width values z ++ l)) (e ∙ ap (layer_form width z) part-is)
              ∙ ap (λ (l : List ℕ). take header_length lent ++ l) (sym (layers_form-next s width values z) ∙ ap (layers_form s width values) (sym m))

    pub laid_done : s.c ≤ z → file ≡ laid s.c ++ drop (written_length s values) lent
    laid_done h =
        let e : z ≡ s.c = omega (arith, p.within) in
        let f : start ≡ written_length s values = p.at ∙ ap₂ (λ (k w : ℕ). header_length + k * layer_length s w) e p.width_is in
        p.stands ∙ ap₂ (λ (k n : ℕ). laid k ++ drop n lent) e f
