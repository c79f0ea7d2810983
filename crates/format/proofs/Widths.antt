-- The widths of a file's layers: where layers of one width begin, and the values of a file that read takes.
use mathlib.Core.Path.{◌≡◌, refl, ap, ap₂, sym, ◌∙◌}
use mathlib.Core.Bool.{false, ◌||◌}
use mathlib.Core.List.{List, [], ◌∷◌, ◌++◌, flat_map, append_assoc, append-nil}
use Prim.Native.Nat.{ℕ, zero, suc, ◌+◌, ◌*◌, ◌≤◌, ◌<◌}
use native.Mathlib.Omega.{arith}
use lib.ListN.{length, take, drop, set, length-append}
use lib.Seq.{length-take-le, take_all, take_at}
use lib.IntN.{ℤ}
use borrow.Author.Tests.{eqb-true}
use Rattle.prelude.specs.Lists.{any, range}
use Rattle.prelude.proofs.Bools.{or-false, not-false}
use Rattle.prelude.proofs.Lists.{any_append}
use Rattle.prelude.proofs.Ranges.{length-map-range}
use Rattle.rules.specs.declared.Sides.{Sides}
use Rattle.rules.specs.Value.{stray}
use Rattle.rules.specs.Grid.{size}
use Rattle.rules.specs.Checks.{AllHold}
use Rattle.rules.specs.Answer.{Outcome, untouched}
use Rattle.rules.proofs.Checks.{hold-append, unless-held}
use Rattle.format.specs.declared.LayerSpan.{LayerSpan}
use Rattle.format.specs.Bytes.{value_of, values_of}
use Rattle.format.specs.Layer.{area, layer_length, width_at, layer_at, stretch, values_in, with_layer}
use Rattle.format.specs.Patch.{patch_length, index_at, patch_at, patch_count, applied_of, patched}
use Rattle.format.specs.File.{header_length, layer_start, range_checks, record_checks, layers_checks, layers_filled, layers_end}
use Rattle.format.specs.declared.Header.{Header}
use Rattle.format.specs.File.{read_checks, Accepted, filled, accepted, read_up_to}
use Rattle.format.specs.BottomUp.{Takes}
use Rattle.format.specs.Widths.{Even, layer_due, Widths}
use Rattle.format.proofs.Widening.{widening}
use Rattle.format.proofs.Sizes.{layer-room, length-with_layer}
use Rattle.format.proofs.Strays.{narrow-layer}
use Rattle.format.proofs.Records.{record-checked}
use Rattle.format.proofs.Headers.{done-checked, done-sides, taken}
use Rattle.format.proofs.BottomUp.{checked}

-- ---- layers of one width

module _ (s : Sides) (file : List ℕ) (width count : ℕ) (same : Even s file width count) where
  pub even-start : (z : ℕ) → z ≤ count → layer_start s file z ≡ header_length + z * layer_length s width
  unfolding layer_start
  even-start zero h = omega arith
  even-start (suc z) h =
      let before = even-start z (omega arith) in
      let own = ap (layer_length s) (same z (omega arith)) in
      omega (arith, before, own)

-- no value of two bytes is out of the range
narrow : (s : Sides) (file : List ℕ) (start : ℕ) → width_at file start ≡ 2 → AllHold (range_checks s file start)
narrow s file start e = (narrow-layer s file (layer_at s file start) e, tt)

-- ---- the layers' values, one after the other

module _ (s : Sides) (file : List ℕ) where
  length-values_in : (l : LayerSpan) → length (values_in s file l) ≡ area s
  unfolding values_in values_of
  length-values_in l = length-map-range (λ k. value_of l.width (stretch file l) (l.width * k)) (area s)

  -- a buffer that holds the layers below z holds one more
  take-with_layer :
      (values : List ℤ) (l : LayerSpan) (z : ℕ) → l.z ≡ z → z < s.c → length values ≡ size s
      → take (suc z * area s) (with_layer s file values l) ≡ take (z * area s) values ++ values_in s file l
  unfolding with_layer values_in
  take-with_layer values l z e below long =
      let k : ℕ = z * area s in
      let below = length-take-le k values (omega (arith, layer-room s z (area s) refl below)) in
      rw (e, ← append_assoc)
      (take_at (take k values ++ values_in s file l) (drop (k + area s) values) (suc z * area s)
      (length-append (take k values) (values_in s file l) ∙ omega (arith, below, length-values_in l)))

  pub filled-layers :
      (left next : ℕ) (values : List ℤ) → next + left ≡ s.c → length values ≡ size s → AllHold (layers_checks s file left next)
      → layers_filled s file left next values ≡ take (next * area s) values ++ flat_map (layer_due s file) (range next left)
  unfolding layers_checks layers_filled flat_map range size
  filled-layers zero next values all long a =
      let n : next * area s ≡ s.c * area s = ap (λ (k : ℕ). k * area s) (omega (arith, all)) in
      sym (append-nil (take (next * area s) values) ∙ take_all (next * area s) values (omega arith))
  filled-layers (suc left) next values all long a =
      let start : ℕ = layer_start s file next in
      let l : LayerSpan = layer_at s file start in
      let both = hold-append (record_checks s file start next) (layers_checks s file left (suc next)) a in
      let own = record-checked s file start next both.0 in
      let due : l.z ≡ next = eqb-true _ _ (not-false _ own.order.1.0) in
      let below : next < s.c = omega arith in
      filled-layers left (suc next) (with_layer s file values l) (omega arith) (length-with_layer s file values l (rw due below) long) both.1
      ∙ ap (λ (xs : List ℤ). xs ++ flat_map (layer_due s file) (range (suc next) left)) (take-with_layer values l next due below long)
      ∙ append_assoc (take (next * area s) values) (values_in s file l) (flat_map (layer_due s file) (range (suc next) left))

  due-in-range : (left next : ℕ) → AllHold (layers_checks s file left next) → any stray (flat_map (layer_due s file) (range next left)) ≡ false
  unfolding layers_checks flat_map range any
  due-in-range zero next a = refl
  due-in-range (suc left) next a =
      let start : ℕ = layer_start s file next in
      let both = hold-append (record_checks s file start next) (layers_checks s file left (suc next)) a in
      any_append stray (layer_due s file next) (flat_map (layer_due s file) (range (suc next) left))
      ∙ ap₂ ◌||◌ (record-checked s file start next both.0).range.0 (due-in-range left (suc next) both.1)

-- ---- the patches

set-in-range : (values : List ℤ) (i : ℕ) (v : ℤ) → any stray values ≡ false → stray v ≡ false → any stray (set values i v) ≡ false
unfolding any
set-in-range [] i v e f = refl
set-in-range (x ∷ xs) zero v e f = ap₂ ◌||◌ f (or-false (stray x) (any stray xs) e).1
set-in-range (x ∷ xs) (suc i) v e f = let p = or-false (stray x) (any stray xs) e in ap₂ ◌||◌ p.0 (set-in-range xs i v p.1 f)

patched-in-range : (file : List ℕ) (left at : ℕ) (values : List ℤ) → any stray values ≡ false → any stray (applied_of file left at values) ≡ false
unfolding applied_of
patched-in-range file zero at values e = e
patched-in-range file (suc left) at values e =
    patched-in-range file left (at + patch_length) (set values (index_at file at) (patch_at file at))
    (set-in-range values (index_at file at) (patch_at file at) e (widening.in-range file (at + 6)))

-- ---- a file that is taken

module _ (greatest : ℕ) (file : List ℕ) (lent : List ℤ) (h : Header) (e : Takes greatest file lent h) where
  abbrev s : Sides
  s = h.sides

  accepts : Accepted s file (length lent)
  accepts = taken greatest file lent h e

  layers : layers_filled s file s.c 0 lent ≡ flat_map (layer_due s file) (range 0 s.c)
  layers =
      let n : 0 * area s ≡ 0 = omega arith in
      filled-layers s file s.c 0 lent (omega arith) accepts.long accepts.layers
      ∙ ap (λ (k : ℕ). take k lent ++ flat_map (layer_due s file) (range 0 s.c)) n

  values : (read_up_to greatest file lent).lent ≡ patched file (layers_end s file) (flat_map (layer_due s file) (range 0 s.c))
  unfolding read_up_to filled
  values =
      let cs = read_checks greatest file (length lent) in
      ap (λ (o : Outcome (List ℤ) Header). o.lent) (unless-held (untouched lent) (accepted file lent) cs (done-checked cs file lent h e))
      ∙ ap (λ (s : Sides). filled s file lent) (sym (done-sides cs file lent h e))
      ∙ ap (patched file (layers_end s file)) layers

  in-range : any stray (read_up_to greatest file lent).lent ≡ false
  in-range =
      ap (any stray) values
      ∙ patched-in-range file (patch_count file (layers_end s file)) (layers_end s file) _ (due-in-range s file s.c 0 accepts.layers)

  layers-in-range : (z : ℕ) → z < s.c → any stray (layer_due s file z) ≡ false
  layers-in-range z b = (checked greatest file lent h e z b).range.0

pub widths : Widths
widths = record { even = even-start; narrow = narrow; values = values; layers-in-range = layers-in-range; in-range = in-range }
