-- What each struct holds for each reply of a call that changes no grid. After a refusal all else is 0.
use Rattle.std.specs.Prelude.{true, false, ℕ, pos, Option, None, Some}
use Rattle.std.specs.Float.Ieee.{of_bits}
use Rattle.std.specs.Float.{binary64}
use Rattle.rules.specs.Answer.{Reply, refused, done}
use Rattle.surface.specs.declared.Point.{Point}
use Rattle.points.specs.declared.Listing.{Listing}
use Rattle.format.specs.declared.Header.{Header}
use Rattle.format.specs.declared.LayerSpan.{LayerSpan}
use Rattle.judging.specs.declared.Judgement.{Judgement}
use Rattle.look_replies.specs.declared.CrossingAnswer.{CrossingAnswer}
use Rattle.look_replies.specs.declared.PointsAnswer.{PointsAnswer}
use Rattle.look_replies.specs.declared.ReadReply.{ReadReply}
use Rattle.look_replies.specs.declared.LayerReply.{LayerReply}
use Rattle.look_replies.specs.declared.WriteReply.{WriteReply}
use Rattle.look_replies.specs.declared.JudgeAnswer.{JudgeAnswer}
use Rattle.look_replies.specs.declared.PracticeAnswer.{PracticeAnswer}

-- all bits 0
abbrev pub origin : Point
origin = record { x = of_bits binary64 0; y = of_bits binary64 0; z = of_bits binary64 0 }

abbrev pub crossing_struct : Reply (Option Point) → CrossingAnswer
crossing_struct (refused n) = record { refusal = n; crosses = false; point = origin }
crossing_struct (done None) = record { refusal = 0; crosses = false; point = origin }
crossing_struct (done (Some p)) = record { refusal = 0; crosses = true; point = p }

abbrev pub points_struct : Reply Listing → PointsAnswer
points_struct (refused n) = record { refusal = n; count = 0; next = 0 }
points_struct (done l) = record { refusal = 0; count = l.count; next = l.next }

abbrev pub read_struct : Reply Header → ReadReply
read_struct (refused n) = record { refusal = n; sides = record { a = 0; b = 0; c = 0 }; allowed = 0 }
read_struct (done h) = record { refusal = 0; sides = h.sides; allowed = h.allowed }

abbrev pub layer_struct : Reply LayerSpan → LayerReply
layer_struct (refused n) = record { refusal = n; z = 0; width = 0; from = 0; to = 0 }
layer_struct (done l) = record { refusal = 0; z = l.z; width = l.width; from = l.from; to = l.to }

abbrev pub write_struct : Reply ℕ → WriteReply
write_struct (refused n) = record { refusal = n; length = 0 }
write_struct (done l) = record { refusal = 0; length = l }

abbrev pub judge_struct : Reply Judgement → JudgeAnswer
judge_struct (refused n) = record { refusal = n; removals = 0; openings = 0; euler = pos 0 }
judge_struct (done j) = record { refusal = 0; removals = j.removed; openings = j.opened; euler = j.euler }

abbrev pub practice_struct : Reply (Unit {0}) → PracticeAnswer
practice_struct (refused n) = record { refusal = n }
practice_struct (done u) = record { refusal = 0 }
