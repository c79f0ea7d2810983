-- What step 4 on blocks starts from.
use Rattle.std.specs.Prelude.{◌≡◌, true, cond, List, ℕ, ◌<◌, ℤ, length}
use Rattle.rules.specs.declared.Sides.{Sides}
use Rattle.rules.specs.Grid.{fit_sides, size, is_negative}
use Rattle.rules.specs.Machine.{is_inside}

-- 0 for a block of the inside
abbrev pub label_of : ℤ → ℕ
label_of d = cond (is_negative d) 0 1

-- block distances of which one is negative, and room for n status bytes
pub record Startable (h : Sides) (blocks : List ℤ) (n : ℕ) : Type 0 where
  pub fit : fit_sides h ≡ true
  pub len : length blocks ≡ size h
  pub same : n ≡ size h
  pub some : ℕ
  pub some_in : some < size h
  pub some-negative : is_inside blocks some ≡ true
