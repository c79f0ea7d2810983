-- What holds of a layer record that no check refuses.
use Rattle.std.specs.Prelude.{◌≡◌, true, ◌||◌, List, ℕ, ◌+◌, ◌≤◌, ◌<◌, length}
use Rattle.rules.specs.declared.Sides.{Sides}
use Rattle.rules.specs.Grid.{fit_sides}
use Rattle.format.specs.Bytes.{tagged}
use Rattle.format.specs.Layer.{narrow_kind, wide_kind, record_length, z_at}

pub record Readable (s : Sides) (file : List ℕ) (start : ℕ) : Type 0 where
  pub fits : fit_sides s ≡ true
  pub whole : start + record_length s file start ≤ length file
  pub marked : (tagged narrow_kind file start || tagged wide_kind file start) ≡ true
  pub z-below : z_at file start < s.c
