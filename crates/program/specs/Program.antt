-- Document 01, "The grid file", with document 02's CR 2: the program carve, from the bytes of a file to its line.
use Rattle.std.specs.Prelude.{Bool, true, false, not, cond, List, ℕ, zero, suc, ◌+◌, ◌-◌, ltb, length, replicate, ℤ, pos}
use Rattle.rules.specs.declared.Record.{Record}
use Rattle.rules.specs.Grid.{size}
use Rattle.rules.specs.Answer.{Reply, refused, done, Outcome, Buffers}
use Rattle.rules.specs.Marks.{no_marks}
use Rattle.rules.specs.Begin.{begin}
use Rattle.rules.specs.Meaning.{found}
use Rattle.rules.specs.Status.{is_kept}
use Rattle.rules.specs.Machine.{State, state, after, carve, open_next, finish}
use Rattle.format.specs.declared.Header.{Header}
use Rattle.format.specs.File.{sides_in, read_up_to}
use Rattle.text.specs.Line.{Line, refused_line, carved_line}

-- ---- after begin: carve to empty and open in turn until open refuses, then finish; each call is lent the marks that begin was

-- more examinations than any grid takes, so that a carve goes on until nothing is pending (Ends.antt)
abbrev pub no_limit : ℕ
no_limit = 4294967295

unfoldable pub after_carve : List ℕ → State → State
after_carve marks g = after (λ r. r.next) g (carve marks no_limit g)

unfoldable pub after_open : List ℕ → State → State
after_open marks g = after (λ r. r.next) g (open_next marks g)

unfoldable pub after_finish : State → State
after_finish g = after (λ r. r) g (finish g)

abbrev pub is_refused : {A : Type 0} → Reply A → Bool
is_refused (refused n) = true
is_refused (done a) = false

unfoldable pub opens : List ℕ → State → Bool
opens marks g = not (is_refused (open_next marks g).answer)

-- so many rounds at most
unfoldable pub carve_and_open : List ℕ → ℕ → State → State
carve_and_open marks zero g = g
carve_and_open marks (suc rounds) g =
    let h = after_carve marks g in elim (opens marks h) [ true ↦ carve_and_open marks rounds (after_open marks h) | false ↦ h ]

-- the openings that are left, and the round whose open is refused
abbrev pub rounds_left : Record → ℕ
rounds_left r = r.allowed - r.openings + 1

abbrev pub all_rounds : List ℕ → State → State
all_rounds marks g = carve_and_open marks (rounds_left g.rec) g

-- kept voxels at the end, then the record's removals, openings, examinations and Euler number
unfoldable pub line_of : State → Line
line_of g =
    let r = g.rec in
    carved_line (found r.sides (is_kept g.status)) r.removals r.openings r.examinations r.euler

unfoldable pub carved_to_end : List ℕ → State → Line
carved_to_end marks g = line_of (after_finish (all_rounds marks g))

-- ---- a refused file prints the number that read or begin gave

unfoldable pub line_from : List ℕ → Outcome Buffers Record → Line
line_from marks o = elim o.answer [ refused n ↦ refused_line n | done next ↦ carved_to_end marks (state next o.lent.dist o.lent.status) ]

-- the program's own buffers hold zeros, and no voxel is marked
abbrev pub zeros : ℕ → List ℤ
zeros n = replicate n (pos 0)

unfoldable pub line_after_read : Outcome (List ℤ) Header → Line
line_after_read o =
    elim o.answer [
      | refused n ↦ refused_line n
      | done h ↦
          let n = size h.sides in
          let marks = no_marks h.sides in
          line_from marks (begin h.sides h.allowed o.lent marks (zeros n) (replicate n 0))
    ]

-- a side over 24 is refused as 1
abbrev pub greatest_side : ℕ
greatest_side = 24

unfoldable pub file_line : List ℕ → Line
file_line file = line_after_read (read_up_to greatest_side file (zeros (size (sides_in file))))

-- document 02, CR 2: 25 for input over 65,536 bytes, before any other check
abbrev pub longest_input : ℕ
longest_input = 65536

unfoldable pub program_line : List ℕ → Line
program_line file = cond (ltb longest_input (length file)) (refused_line 25) (file_line file)
