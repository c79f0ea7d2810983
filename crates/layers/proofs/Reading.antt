-- A layer record: what holds where no check fails, and where the layer then lies.
use Rattle.std.specs.Prelude.{Result, Ok, Err, IsErrAnd}
use mathlib.Core.Path.{◌≡◌, ap, sym, subst, ◌∙◌}
use mathlib.Core.Bool.{true, not}
use mathlib.Core.List.{List}
use Prim.Native.Nat.{ℕ, ◌+◌, ◌*◌, ◌≤◌, ◌<◌}
use native.Mathlib.Omega.{arith}
use lib.ListN.{length}
use borrow.Author.Tests.{ltb-false, leb-false, le-ltb, lt-leb}
use Rattle.prelude.proofs.Bools.{not-false}
use Rattle.rules.specs.declared.Sides.{Sides}
use Rattle.rules.specs.Grid.{fit_sides}
use Rattle.rules.specs.Checks.{AllHold}
use Rattle.rules.specs.Answer.{Reply, refused, done}
use Rattle.rules.specs.declared.Refusal.{Refusal}
use Rattle.rules.specs.Refusals.{number_of, replied}
use Rattle.rules.proofs.Checks.{by-checks, held_at, unless-held}
use Rattle.format.specs.declared.LayerSpan.{LayerSpan}
use Rattle.format.specs.Bytes.{Width}
use Rattle.format.specs.Layer.{area, record_length, layer_checks, read_layer_checks, layer_at, read_layer, stretch, bytes_of}
use Rattle.format.proofs.WidthAt.{width_is}
use Rattle.format.proofs.Sizes.{length_part}
use Rattle.layers.specs.Readable.{Readable}

-- what `?` hands on
pub refused_on : {A : Type 0} (r : Result A Refusal) (e : Refusal) → IsErrAnd r (λ d. d ≡ e) → replied r ≡ refused (number_of e)
refused_on (Ok a) e h = absurd h
refused_on (Err d) e h = ap (λ (d : Refusal). refused (number_of d)) h

pub span-is : (l m : LayerSpan) → l.z ≡ m.z → l.width ≡ m.width → l.from ≡ m.from → l.to ≡ m.to → l ≡ m
span-is l m e w f g = λ i. record { z = e i; width = w i; from = f i; to = g i }

-- a layer of the grid, in the file, with as many bytes as its values have
pub record Placed (s : Sides) (file : List ℕ) (l : LayerSpan) : Type 0 where
  pub z-below : l.z < s.c
  pub width_is : Width l.width
  pub ordered : l.from ≤ l.to
  pub in-file : l.to ≤ length file
  pub long : length (stretch file l) ≡ l.width * area s

-- the stretch lies in the file
abbrev pub Within : List ℕ → Reply LayerSpan → Type 0
Within file (refused n) = Unit {0}
Within file (done l) = (l.from ≤ l.to) × (l.to ≤ length file)

module _ (s : Sides) (file : List ℕ) (start : ℕ) where
  pub readable : fit_sides s ≡ true → AllHold (layer_checks s file start) → Readable s file start
  readable e h =
      let held = held_at (layer_checks s file start) h in
      record { fits = e; whole = ltb-false _ _ (held 21); marked = not-false _ (held 22); z-below = leb-false _ _ (held 23) }

  -- such a record is read, and its part is the layer's stretch
  read_done : Readable s file start → read_layer s file start ≡ done (layer_at s file start)
  unfolding read_layer
  read_done r =
      unless-held refused (done (layer_at s file start)) (read_layer_checks s file start)
      (ap not r.fits, (le-ltb _ _ r.whole, (ap not r.marked, (lt-leb _ _ r.z-below, tt))))

  pub part-is : Readable s file start → (l : LayerSpan) → l ≡ layer_at s file start → (bytes : List ℕ) → bytes ≡ bytes_of file (read_layer s file start)
      → bytes ≡ stretch file l
  part-is r l e bytes f = f ∙ ap (bytes_of file) (read_done r) ∙ ap (stretch file) (sym e)

  pub placed : Readable s file start → (l : LayerSpan) → l ≡ layer_at s file start → Placed s file l
  placed r l e =
      subst (Placed s file) (sym e) (record {
        z-below = r.z-below;
        width_is = width_is file start;
        ordered = omega arith;
        in-file = r.whole;
        long = length_part file (start + 3) (start + record_length s file start) (omega arith) r.whole ∙ omega arith;
      })

  pub found_within : Within file (read_layer s file start)
  unfolding read_layer
  found_within =
      by-checks refused (done (layer_at s file start)) (Within file) (read_layer_checks s file start) (λ n. tt)
      (λ h. let r = readable (not-false _ h.0) h.1 in (omega arith, r.whole))
