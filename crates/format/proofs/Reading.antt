-- The next of the written records in a file: its mark tells its width, it has the values of its layer, and its checks hold.
use mathlib.Core.Path.{◌≡◌, ap, ap₂, sym, ◌∙◌}
use mathlib.Core.Logic.{⊎_elim}
use mathlib.Core.Bool.{Bool, true, cond, not, ◌&&◌, ◌||◌}
use mathlib.Core.List.{List, [], ◌++◌, flat_map, append-nil}
use Prim.Native.Nat.{ℕ, suc, ◌+◌, ◌-◌, ◌*◌, ◌≤◌, ◌<◌}
use native.Mathlib.Omega.{arith}
use lib.Dec.{eqb}
use lib.ListN.{length, take, drop, length-append, length-drop}
use lib.Seq.{take_at, drop_at, drop-drop, get_or-drop}
use lib.IntN.{ℤ}
use borrow.Author.Tests.{le-ltb, lt-leb}
use Rattle.prelude.specs.Lists.{any, range}
use Rattle.rules.specs.declared.Sides.{Sides}
use Rattle.rules.specs.Value.{stray}
use Rattle.rules.specs.Checks.{AllHold}
use Rattle.format.specs.Bytes.{Width, byte_at, tagged, values_of}
use Rattle.format.specs.Layer.{narrow_kind, wide_kind, kind_of, area, layer_length, width_at, record_length, z_at, layer_at, stretch, values_in}
use Rattle.format.specs.File.{layer_start, record_checks}
use Rattle.format.specs.Written.{layer_values, width_for, Held, values_form}
use Rattle.format.specs.Widths.{layer_due}
use Rattle.format.specs.RoundTrip.{Writable}
use Rattle.format.proofs.Bytes.{values_of-values_bytes}
use Rattle.format.proofs.Records.{order-holds, checked-record}
use Rattle.format.proofs.Holding.{held, held_at, held-between, none_between}
use Rattle.format.proofs.Forms.{record_form, records_from, length-layer_values, length-layer, length-record_form}

-- ---- a kind tells the width, and is the mark of a layer

kind-width : (width : ℕ) → Width width → cond (eqb (kind_of width) wide_kind) 4 2 ≡ width
kind-width width = ⊎_elim (λ e. rw e) (λ e. rw e)

kind-known : (width : ℕ) → Width width → (eqb (kind_of width) narrow_kind || eqb (kind_of width) wide_kind) ≡ true
kind-known width = ⊎_elim (λ e. rw e) (λ e. rw e)

-- ---- records ahead

module _ (s : Sides) (width : ℕ) (values : List ℤ) where
  -- what is left of a file from where layer z is due: those records and nothing more
  pub record Ahead (file : List ℕ) (z left : ℕ) : Type 0 where
    pub count : z + left ≡ s.c
    pub holds : drop (layer_start s file z) file ≡ records_from s width values z left

module _ {s : Sides} {T : ℕ} {values : List ℤ} (w : Writable s T values) where
  abbrev width : ℕ
  width = width_for values

  own : Held width values
  own = held values w.known

  abbrev own-values : (z : ℕ) → z < s.c → length (layer_values s values z) ≡ area s
  own-values = length-layer_values s width values w.long

  abbrev pub own-length : (z : ℕ) → z < s.c → length (record_form s width values z) ≡ layer_length s width
  own-length = length-record_form s width values w.long

  -- ---- the next record

  module _ {file : List ℕ} {z left : ℕ} (r : Ahead s width values file z (suc left)) where
    z-below : z < s.c
    z-below = omega arith

    abbrev start : ℕ
    start = layer_start s file z

    abbrev rest : List ℕ
    rest = records_from s width values (suc z) left

    pub starts : drop start file ≡ record_form s width values z ++ rest
    unfolding flat_map range
    starts = r.holds

    byte-ahead : (i : ℕ) → byte_at file (start + i) ≡ byte_at (record_form s width values z ++ rest) i
    byte-ahead i = sym (get_or-drop start file i 0) ∙ ap (λ (l : List ℕ). byte_at l i) starts

    tag-ahead : (kind : ℕ) → tagged kind file start ≡ eqb (kind_of width) kind
    tag-ahead kind =
        let e : start + 0 ≡ start = omega arith in
        ap₂ (λ (x y : ℕ). eqb x 0x56 && eqb y kind) (ap (byte_at file) (sym e) ∙ byte-ahead 0) (byte-ahead 1)

    pub width-ahead : width_at file start ≡ width
    unfolding width_at
    width-ahead = ap (λ (t : Bool). cond t 4 2) (tag-ahead wide_kind) ∙ kind-width width own.two-or-four

    length-ahead : record_length s file start ≡ layer_length s width
    length-ahead = ap (layer_length s) width-ahead

    z-ahead : z_at file start ≡ z
    z-ahead = byte-ahead 2

    pub ahead-next : Ahead s width values file (suc z) left
    unfolding layer_start
    ahead-next =
        record {
          count = omega arith;
          holds =
              sym (drop-drop (record_length s file start) start file)
              ∙ ap₂ drop length-ahead starts
              ∙ drop_at (record_form s width values z) rest (layer_length s width) (own-length z z-below);
        }

    -- ---- its values

    stretch-ahead : stretch file (layer_at s file start) ≡ values_form width (layer_values s values z)
    stretch-ahead =
        let n : start + record_length s file start - (start + 3) ≡ width * area s = omega (arith, length-ahead) in
        ap₂ take n (sym (drop-drop 3 start file) ∙ ap (drop 3) starts)
        ∙ take_at (values_form width (layer_values s values z)) rest (width * area s) (length-layer s width values w.long z z-below)

    pub values-ahead : layer_due s file z ≡ layer_values s values z
    unfolding values_in values_form
    values-ahead =
        ap (λ (v : ℕ). values_of v (area s) (stretch file (layer_at s file start))) width-ahead
        ∙ ap₂ (values_of width) (sym (own-values z z-below)) (stretch-ahead ∙ sym (append-nil _))
        ∙ values_of-values_bytes width own.two-or-four [] (layer_values s values z) (held_at (held-between own (area s) (z * area s)))

    -- ---- its checks

    whole-ahead : start + record_length s file start ≤ length file
    whole-ahead =
        let n = length-append (record_form s width values z) rest in
        omega (arith, length-ahead, length-drop start file, ap length starts, n, own-length z z-below)

    mark-ahead : (tagged narrow_kind file start || tagged wide_kind file start) ≡ true
    mark-ahead = ap₂ ◌||◌ (tag-ahead narrow_kind) (tag-ahead wide_kind) ∙ kind-known width own.two-or-four

    pub record-holds : AllHold (record_checks s file start z)
    record-holds =
        checked-record s file start z (record {
          layer = (le-ltb _ _ whole-ahead, (ap not mark-ahead, (rw z-ahead (lt-leb _ _ z-below), tt)));
          order = order-holds file start z z-ahead;
          range = (ap (any stray) values-ahead ∙ none_between stray (area s) (z * area s) values w.known, tt);
        })
