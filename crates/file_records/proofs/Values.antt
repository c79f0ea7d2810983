-- A layer's values, written one after the other, of either width: the loop's invariant.
use mathlib.Core.Path.{◌≡◌, refl, sym, ap, ap₂, ◌∙◌}
use mathlib.Core.List.{List, ◌++◌, flat_map, append-nil}
use Prim.Native.Nat.{ℕ, suc, ◌+◌, ◌*◌, ◌≤◌, ◌<◌}
use native.Mathlib.Nat.{mul-zero}
use native.Mathlib.Omega.{arith}
use lib.ListN.{length, take, drop, get_or}
use lib.Seq.{sets, length-sets, length-take-le, take-length, drop-length}
use lib.IntN.{ℤ, pos}
use Rattle.format.specs.Bytes.{value_bytes}
use Rattle.format.specs.Written.{Held, values_form}
use Rattle.format.proofs.Bytes.{length-value_bytes}
use Rattle.format.proofs.Sizes.{value_room}
use Rattle.format.proofs.Forms.{length-values_form, values_form-next}
use Rattle.file_records.proofs.Laying.{lay-sets}

module _ (width : ℕ) (values : List ℤ) (lent : List ℕ) where
  -- the values below i stand before what was lent
  pub record Laid (bytes : List ℕ) (i : ℕ) : Type 0 where
    pub held : Held width values
    pub within : i ≤ length values
    pub room : length lent ≡ width * length values
    pub long : length bytes ≡ length lent
    pub stands : bytes ≡ values_form width (take i values) ++ drop (width * i) lent

  pub laid-start : Held width values → length lent ≡ width * length values → Laid lent 0
  unfolding values_form flat_map
  laid-start h e = record { held = h; within = omega arith; room = e; long = refl; stands = rw mul-zero }

  module _ (bytes : List ℕ) (i : ℕ) (p : Laid bytes i) where
    laid-length : length (values_form width (take i values)) ≡ width * i
    laid-length = length-values_form width (take i values) ∙ ap (λ (n : ℕ). width * n) (length-take-le i values p.within)

    -- the next value lies in the bytes
    pub laid-room : i < length values → width * i + width ≤ length bytes
    laid-room h = value_room width i (length values) (length bytes) (p.long ∙ p.room) h

    pub laid_next : (v : ℤ) → i < length values → v ≡ get_or values i (pos 0) → Laid (sets bytes (width * i) (value_bytes width v)) (i + 1)
    laid_next v h e =
        record {
          held = p.held;
          within = omega arith;
          room = p.room;
          long = length-sets bytes at new ∙ p.long;
          stands =
              ap (λ (b : List ℕ). sets b at new) p.stands
              ∙ lay-sets (values_form width (take i values)) new lent at laid-length (omega (arith, width_is, ap length p.stands, laid-room h))
              ∙ ap₂ (λ (b c : List ℕ). b ++ c) one_more (ap (λ (n : ℕ). drop n lent) after);
        }
      where
        at : ℕ
        at = width * i

        new : List ℕ
        new = value_bytes width v

        width_is : length new ≡ width
        width_is = length-value_bytes width v

        after : at + length new ≡ width * (i + 1)
        after = omega (arith, width_is)

        one_more : values_form width (take i values) ++ new ≡ values_form width (take (i + 1) values)
        one_more =
            let s : i + 1 ≡ suc i = omega arith in
            ap (λ (w : ℤ). values_form width (take i values) ++ value_bytes width w) e
            ∙ sym (values_form-next width values i h)
            ∙ ap (λ (n : ℕ). values_form width (take n values)) (sym s)

    pub laid_done : length values ≤ i → bytes ≡ values_form width values
    laid_done h =
        let e : i ≡ length values = omega (arith, p.within) in
        let f : width * i ≡ length lent = ap (λ (n : ℕ). width * n) e ∙ sym p.room in
        p.stands
        ∙ ap₂ (λ (n k : ℕ). values_form width (take n values) ++ drop k lent) e f
        ∙ ap₂ (λ (v : List ℤ) (r : List ℕ). values_form width v ++ r) (take-length values) (drop-length lent)
        ∙ append-nil (values_form width values)
