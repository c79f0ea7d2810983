-- `searching::on_surface` meets its contract: bit 0 of the six bytes joined.
use mathlib.Core.Bool.{Bool, not, ◌&&◌}
use mathlib.Core.Path.{refl, ap₂, ◌∙◌}
use Prim.Native.Nat.{ℕ, ◌+◌, ◌-◌}
use Rattle.rules.specs.Status.{status_of, is_kept}
use Rattle.status.proofs.Bytes.{kept_and}
use Rattle.searching.specs.Argmax.{enclosed, surface_at}
use Rattle.searching.proofs.on_surface.Goals as goal

pub returns : goal.returns
unfolding surface_at enclosed is_kept
returns c =
    let a = c.args in
    let x : ℕ → ℕ = status_of a.status.now in
    let last = kept_and (x (a.i + 1)) _ (kept_and (x (a.i + a.a)) (x (a.i + a.l)) refl) in
    let six = kept_and (x (a.i - a.l)) _ (kept_and (x (a.i - a.a)) _ (kept_and (x (a.i - 1)) _ last)) in
    ap₂ (λ (own near : Bool). own && not near) c.is_kept.ensures (c.is_kept-2.ensures ∙ six)
