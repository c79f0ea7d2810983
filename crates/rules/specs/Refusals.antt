-- The number of each refusal, and what a call that may be refused answers: its numbers are the papers', and 0 stands for none.
use Rattle.std.specs.Prelude.{Result, Ok, Err, ℕ}
use Rattle.rules.specs.declared.Refusal.{Refusal}
use Rattle.rules.specs.Answer.{Reply, refused, done}

abbrev pub number_of : Refusal → ℕ
number_of Refusal.Side = 1
number_of Refusal.Length = 2
number_of Refusal.BorderNegative = 3
number_of Refusal.NoNegative = 4
number_of Refusal.Index = 5
number_of Refusal.Axis = 6
number_of Refusal.Unfit = 7
number_of Refusal.Finished = 8
number_of Refusal.NotFinished = 9
number_of Refusal.GoneAlready = 10
number_of Refusal.Inside = 11
number_of Refusal.NotPassed = 12
number_of Refusal.StillPending = 13
number_of Refusal.NoOpeningLeft = 14
number_of Refusal.NothingToOpen = 15
number_of Refusal.Short = 21
number_of Refusal.Mark = 22
number_of Refusal.Layer = 23
number_of Refusal.LayerTwice = 24
number_of Refusal.Room = 26
number_of Refusal.LayerOrder = 27
number_of Refusal.Value = 28
number_of Refusal.MarkByte = 29
number_of Refusal.PinnedVoxel = 30
number_of Refusal.Coarse = 31
number_of Refusal.BreaksRules = 32
number_of Refusal.StillPasses = 33
number_of Refusal.Office = 34
number_of Refusal.NothingPending = 35

-- the number that a call's checks give
abbrev pub number_in : Result (Unit {0}) Refusal → ℕ
number_in (Ok u) = 0
number_in (Err refusal) = number_of refusal

-- what a call answers
abbrev pub replied : {A : Type 0} → Result A Refusal → Reply A
replied (Ok a) = done a
replied (Err refusal) = refused (number_of refusal)
