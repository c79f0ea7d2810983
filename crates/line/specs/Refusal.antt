-- The number of an answer.
use Rattle.std.specs.Prelude.{ℕ}
use Rattle.rules.specs.Answer.{Reply, refused, done}

-- 0 stands for no refusal
abbrev pub refusal_of : {A : Type 0} → Reply A → ℕ
refusal_of (refused n) = n
refusal_of (done a) = 0
