-- How many bytes a value has, as a number.
use Rattle.std.specs.Prelude.{ℕ}
use Rattle.words.specs.declared.Width.{Width}

abbrev pub bytes_in : Width → ℕ
bytes_in Width.Two = 2
bytes_in Width.Four = 4
