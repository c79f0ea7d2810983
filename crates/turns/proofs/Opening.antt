-- What may be opened, by the faces of its voxel.
use mathlib.Core.Path.{◌≡◌, ap, sym, ◌∙◌}
use mathlib.Core.Bool.{Bool, true, false, not, ◌&&◌}
use mathlib.Core.List.{List}
use Prim.Native.Nat.{ℕ, ◌+◌, ◌*◌, ◌≤◌, ◌<◌}
use native.Mathlib.Omega.{arith}
use native.Mathlib.Nat.{mul-le-mul_left}
use lib.IntN.{ℤ}
use lib.ListN.{length}
use Rattle.rules.specs.declared.Sides.{Sides}
use Rattle.rules.specs.Grid.{size}
use Rattle.rules.specs.Begin.{exposed}
use Rattle.rules.specs.Status.{is_kept}
use Rattle.rules.specs.Machine.{is_inside}
use Rattle.rules.specs.Neighbours.{Inner}
use Rattle.rules.proofs.Places.{fit}
use Rattle.neighbourhood.proofs.Interior.{first_below, room}
use Rattle.neighbourhood.proofs.Bodies.{kept-inner}
use Rattle.searching.specs.Argmax.{enclosed, surface_at, Span}
use Rattle.searching.proofs.Surface.{exposed-is}
use Rattle.judging.specs.Judge.{some_passes, can_open}
use Rattle.watching.specs.Watching.{standing, Held}
use Rattle.watching.proofs.Standing.{stands-not, stands-so, stands-kept}

module _ (s : Sides) (dist : List ℤ) (status : List ℕ) (held : Held s dist status) (i : ℕ) (below : i < size s)
    (stands : Bool) (e : stands ≡ standing dist status i) where
  pub open_gone : stands ≡ false → false ≡ can_open s (is_inside dist) (is_kept status) i
  unfolding can_open
  open_gone n = sym n ∙ stands-not dist status i stands e _ n

  module _ (n : stands ≡ true) where
    kept : is_kept status i ≡ true
    kept = stands-kept dist status i stands e n

    inner : Inner s i
    inner = kept-inner s status held.body i below kept

    pub layer : s.a * s.b ≤ 4096
    layer = (room s i inner).layer

    pub span : Span s.a (s.a * s.b) i (i + 1) (length status)
    span =
        let f = fit s held.body.sides in
        let low = f.a-low in
        let row : s.a * 3 ≤ s.a * s.b = mul-le-mul_left s.a f.b-low in
        let first = first_below s i inner in
        let ends = (room s i inner).ends in
        let n = held.body.statuses.lent in
        record { one = omega arith; row = omega arith; low = omega arith; order = omega arith; high = omega arith }

    module _ (bare : Bool) (f : bare ≡ surface_at status s.a (s.a * s.b) i) where
      shown : bare ≡ exposed s (is_kept status) i
      unfolding surface_at
      shown = f ∙ ap (λ (t : Bool). t && not (enclosed status s.a (s.a * s.b) i)) kept ∙ sym (exposed-is s status i inner)

      opens : (some : Bool) → some ≡ some_passes s (is_inside dist) (is_kept status) → bare && not some ≡ can_open s (is_inside dist) (is_kept status) i
      unfolding can_open
      opens some g = (λ j. shown j && not (g j)) ∙ stands-so dist status i stands e _ n

      pub open-within : bare ≡ false → false ≡ can_open s (is_inside dist) (is_kept status) i
      open-within b =
          let some = some_passes s (is_inside dist) (is_kept status) in
          sym (ap (λ (t : Bool). t && not some) b) ∙ opens some (λ j. some)

      pub open-last : bare ≡ true → (some : Bool) → some ≡ some_passes s (is_inside dist) (is_kept status)
          → not some ≡ can_open s (is_inside dist) (is_kept status) i
      open-last b some g = sym (ap (λ (t : Bool). t && not some) b) ∙ opens some g
