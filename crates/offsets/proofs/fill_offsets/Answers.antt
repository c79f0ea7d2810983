-- `fill_offsets` meets its contract: the stretches so far have their offsets.
use mathlib.Core.Path.{◌≡◌, refl, ◌∙◌}
use Prim.Native.Nat.{ℕ}
use native.Mathlib.Omega.{arith}
use lib.ListN.{length, length-append, length-take, get_or-append}
use Rattle.rules.specs.Marks.{marked}
use Rattle.keys.specs.Key.{key_at}
use Rattle.keys.proofs.Ranks.{keyed}
use Rattle.offsets.proofs.Offsets.{offset_made}
use Rattle.offsets.proofs.Held.{keyed-named}
use Rattle.offsets.proofs.fill_offsets.Goals as goal

pub returns : goal.returns
returns c =
    let a = c.args in
    let key = key_at (marked a.marks.now).hurried a.dist.now a.status.now in
    let p = c.count_stretches-p.result in
    let items = c.loop-k.offset-items in
    let n : length items ≡ p = omega (arith, length-take {A = ℕ}) in
    record {
      room = omega (arith, length-append {A = ℕ}, n);
      each = λ k u. offset_made key k (keyed-named _ _ _ (keyed _ _ _ c.requires.0)) _ _ refl
          (get_or-append items _ 0 k (omega arith) ∙ c.loop-k.invariant k (omega arith));
    }
