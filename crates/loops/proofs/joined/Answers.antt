-- `joined`: the bytes from first up to end, one after the other.
use Rattle.std.proofs.Common.{◌≡◌, ◌-◌, sym, subst, take, drop, ℕ, bit_or, rules}
use Rattle.std.specs.List.{fold}
use Rattle.std.proofs.lemmas.Iterator.{YieldsList-from_slice}
use Rattle.std.proofs.lemmas.Iterator.Consumers.{fold_from_yields_List}
use Rattle.loops.specs.Joined.{Joined}
use Rattle.loops.proofs.Joining.{joined_all}
use Rattle.loops.proofs.joined.Goals as goal

pub returns : goal.returns
returns c =
    let a = c.args in
    let part = take (a.end - a.first) (drop a.first a.bytes.now) in
    let e : c.fold.result ≡ fold bit_or 0 part =
    fold_from_yields_List _ bit_or 0 c.fold.result c.fold.ensures.ran (YieldsList-from_slice part cc) (λ a x b q k. search rules) in
    subst (λ (r : ℕ). Joined a.bytes.now a.first a.end r) (sym e) (joined_all a.bytes.now a.first a.end c.requires.0 c.requires.1)
