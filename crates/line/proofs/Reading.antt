-- The line of a file, by what read and begin answer; and the buffers that the program lends, which matter only where the header is right.
use Rattle.std.specs.Prelude.{Result, Ok, Err}
use mathlib.Core.Path.{◌≡◌, refl, ap, sym, ◌∙◌}
use mathlib.Core.Bool.{Bool, true, false, not, cond}
use mathlib.Core.List.{List, ◌∷◌}
use Prim.Native.Nat.{ℕ, ◌*◌, ◌≤◌, ◌<◌}
use native.Mathlib.Nat.{mul-le-mul}
use borrow.Author.Tests.{leb-true, lt-ltb, le-ltb}
use lib.Dec.{leb, ltb, eqb}
use lib.ListN.{length, take, replicate, length-replicate}
use lib.IntN.{ℤ, pos}
use Rattle.prelude.proofs.Bools.{and-true}
use Rattle.prelude.proofs.Ranges.{length-map-range}
use Rattle.prelude.proofs.Replicate.{take-replicate}
use Rattle.rules.specs.declared.Sides.{Sides}
use Rattle.rules.specs.declared.Record.{Record}
use Rattle.rules.specs.declared.Refusal.{Refusal}
use Rattle.rules.specs.Grid.{fit_sides, size, voxels}
use Rattle.rules.specs.Checks.{◌when◌, unless}
use Rattle.rules.specs.Answer.{done, Outcome, outcome, untouched, Buffers, buffers}
use Rattle.rules.specs.Refusals.{number_of, replied}
use Rattle.rules.specs.Fill.{filled}
use Rattle.rules.specs.Marks.{marked, no_marks}
use Rattle.rules.specs.Begin.{inside, in_box, status_at, start_status, begin}
use Rattle.rules.specs.Machine.{state}
use Rattle.rules.proofs.Demand.{by-begin}
use Rattle.format.specs.Bytes.{tagged}
use Rattle.format.specs.declared.Header.{Header}
use Rattle.format.specs.File.{sides_in, fit_up_to, records_checks, accepted, read_up_to}
use Rattle.format.proofs.Headers.{taken}
use Rattle.text.specs.declared.Text.{Text}
use Rattle.text.specs.Line.{refused_line}
use Rattle.text.specs.Written.{printed}
use Rattle.program.specs.Program.{carved_to_end, line_from, zeros, line_after_read}
use Rattle.program.specs.Program.{greatest_side, file_line}
use Rattle.line.specs.Buffers.{lent_for}
use Rattle.line.specs.Refusal.{refusal_of}

-- ---- what begin leaves: as many status bytes as voxels

module _ (s : Sides) (T : ℕ) (values : List ℤ) (marks : List ℕ) (dist : List ℤ) (status : List ℕ) where
  pub begin-long :
      (next : Record) (d : List ℤ) (b : List ℕ) → outcome (done next) (buffers d b) ≡ begin s T values marks dist status → length b ≡ size next.sides
  unfolding start_status voxels
  begin-long next d b e =
      let S = inside s (filled s values) in
      ap (λ (o : Outcome Buffers Record). length o.lent.status) e
      ∙ by-begin (λ g. length g.status ≡ size g.rec.sides) s T values marks dist status
      (λ accepted. length-map-range (status_at s (marked marks) S (in_box s S)) (size s)) next (sym (ap (λ (o : Outcome Buffers Record). o.answer) e))

  -- the line, by begin's answer
  module _ (a : Result Record Refusal) (d : List ℤ) (b : List ℕ) (e : outcome (replied a) (buffers d b) ≡ begin s T values marks dist status) where
    pub ready : (next : Record) → a ≡ Ok next → outcome (done next) (buffers d b) ≡ begin s T values marks dist status
    ready next f = sym (ap (λ (x : Result Record Refusal). outcome (replied x) (buffers d b)) f) ∙ e

    pub line-begun : (next : Record) → a ≡ Ok next → (r : Text) → r ≡ printed (carved_to_end marks (state next d b))
        → r ≡ printed (line_from marks (begin s T values marks dist status))
    unfolding line_from
    line-begun next f r h = h ∙ ap (λ (o : Outcome Buffers Record). printed (line_from marks o)) (ready next f)

    pub line-begin-refused : (why : Refusal) → a ≡ Err why → (r : Text) → r ≡ printed (refused_line (number_of why))
        → r ≡ printed (line_from marks (begin s T values marks dist status))
    unfolding line_from
    line-begin-refused why f r h =
        h ∙ ap (λ (o : Outcome Buffers Record). printed (line_from marks o)) (sym (ap (λ (x : Result Record Refusal). outcome (replied x) (buffers d b)) f) ∙ e)

-- ---- how many voxels' buffers are lent

pub lent_length : {A : Type 0} (k n : ℕ) (x : A) → k ≤ n → k ≡ length (take k (replicate n x))
lent_length k n x h = sym (ap length (take-replicate k n x h) ∙ length-replicate k x)

pub lent_for-short : (file : List ℕ) → length file < 7 → 0 ≡ lent_for file
unfolding lent_for
lent_for-short file h = rw (lt-ltb (length file) 7 h)

module _ (file : List ℕ) (h : 7 ≤ length file) where
  pub lent_for-unfit : fit_up_to greatest_side (sides_in file) ≡ false → 0 ≡ lent_for file
  unfolding lent_for
  lent_for-unfit e = rw (le-ltb (length file) 7 h, e)

  pub lent_for-fit : fit_up_to greatest_side (sides_in file) ≡ true → size (sides_in file) ≡ lent_for file
  unfolding lent_for
  lent_for-fit e = rw (le-ltb (length file) 7 h, e)

pub size_fits : (s : Sides) → fit_up_to greatest_side s ≡ true → size s ≤ 13824
unfolding fit_up_to size
size_fits s e =
    let p = and-true (fit_sides s) _ e in
    let q = and-true (leb s.a greatest_side) _ p.1 in
    let r = and-true (leb s.b greatest_side) (leb s.c greatest_side) q.1 in
    let area : s.a * s.b ≤ 24 * 24 = mul-le-mul (leb-true s.a 24 q.0) (leb-true s.b 24 r.0) in
    mul-le-mul area (leb-true s.c 24 r.1)

-- ---- the lent buffers do not matter where the header is refused

module _ (file : List ℕ) where
  abbrev s : Sides
  s = sides_in file

  -- short, tagged and fit decide before the lent buffer is looked at
  abbrev by_tests : Bool → Bool → Bool → List ℤ → Outcome (List ℤ) Header
  by_tests short tag fit lent =
      cond short (untouched lent 21) (cond (not tag) (untouched lent 22) (cond (not fit) (untouched lent 1) (
      unless (2 when not (eqb (length lent) (size s)) ∷ records_checks s file) (untouched lent) (accepted file lent))))

  read-tests : (lent : List ℤ) → read_up_to greatest_side file lent ≡ by_tests (ltb (length file) 7) (tagged 0x48 file 0) (fit_up_to greatest_side s) lent
  unfolding read_up_to unless
  read-tests lent = refl

  same :
      (short tag fit : Bool) (lent other : List ℤ)
      → (short ≡ false → fit ≡ true → lent ≡ other)
      → line_after_read (by_tests short tag fit lent) ≡ line_after_read (by_tests short tag fit other)
  unfolding line_after_read
  same true tag fit lent other e = refl
  same false false fit lent other e = refl
  same false true false lent other e = refl
  same false true true lent other e = ap (λ (l : List ℤ). line_after_read (by_tests false true true l)) (e refl refl)

  lent_for-size : ltb (length file) 7 ≡ false → fit_up_to greatest_side s ≡ true → size s ≡ lent_for file
  unfolding lent_for
  lent_for-size h e = rw (h, e)

  pub line-lent : file_line file ≡ line_after_read (read_up_to greatest_side file (zeros (lent_for file)))
  unfolding file_line
  line-lent =
      ap line_after_read (read-tests (zeros (size s)))
      ∙ same (ltb (length file) 7) (tagged 0x48 file 0) (fit_up_to greatest_side s) (zeros (size s)) (zeros (lent_for file)) (λ h e. ap zeros (lent_for-size h e))
      ∙ sym (ap line_after_read (read-tests (zeros (lent_for file))))

  read_done : (lent : List ℤ) (h : Header) → (read_up_to greatest_side file lent).answer ≡ done h → size h.sides ≡ length lent
  read_done lent h e = sym (taken greatest_side file lent h e).long

  -- ---- the line by what read answered

  module _ (answer : Result Header Refusal) (values lent : List ℤ) (r : outcome (replied answer) values ≡ read_up_to greatest_side file lent)
      (z : lent ≡ zeros (lent_for file)) where
    by_answer : line_after_read (outcome (replied answer) values) ≡ file_line file
    by_answer = ap line_after_read (r ∙ ap (read_up_to greatest_side file) z) ∙ sym line-lent

    pub line_refused : (m : Refusal) (n : ℕ) → answer ≡ Err m → n ≡ refusal_of (replied answer) → refused_line n ≡ file_line file
    unfolding line_after_read
    line_refused m n e f =
        ap refused_line (f ∙ ap (λ (a : Result Header Refusal). refusal_of (replied a)) e)
        ∙ sym (ap (λ (a : Result Header Refusal). line_after_read (outcome (replied a) values)) e)
        ∙ by_answer

    pub line-grid :
        (h : Header) (marks : List ℕ) (dist : List ℤ) (status : List ℕ)
        → answer ≡ Ok h
        → marks ≡ replicate (lent_for file) 0
        → dist ≡ zeros (lent_for file)
        → status ≡ replicate (lent_for file) 0
        → line_from marks (begin h.sides h.allowed values marks dist status) ≡ file_line file
    unfolding line_after_read no_marks
    line-grid h marks dist status e m d b =
        let s = h.sides in
        let T = h.allowed in
        let n : size s ≡ lent_for file =
        read_done lent h (sym (ap (λ (o : Outcome (List ℤ) Header). o.answer) r) ∙ ap replied e) ∙ ap length z ∙ length-replicate (lent_for file) (pos 0) in
        let same : marks ≡ no_marks s = m ∙ ap (λ (k : ℕ). replicate k 0) (sym n) in
        ap (λ (l : List ℕ). line_from l (begin s T values l dist status)) same
        ∙ ap (λ (l : List ℤ). line_from (no_marks s) (begin s T values (no_marks s) l status)) (d ∙ ap zeros (sym n))
        ∙ ap (λ (l : List ℕ). line_from (no_marks s) (begin s T values (no_marks s) (zeros (size s)) l)) (b ∙ ap (λ (k : ℕ). replicate k 0) (sym n))
        ∙ sym (ap (λ (a : Result Header Refusal). line_after_read (outcome (replied a) values)) e)
        ∙ by_answer

    -- and as it is printed
    pub printed-grid : (text : Text) (h : Header) (marks : List ℕ) (dist : List ℤ) (status : List ℕ)
        → text ≡ printed (line_from marks (begin h.sides h.allowed values marks dist status))
        → answer ≡ Ok h → marks ≡ replicate (lent_for file) 0 → dist ≡ zeros (lent_for file) → status ≡ replicate (lent_for file) 0
        → text ≡ printed (file_line file)
    printed-grid text h marks dist status p e m d b = p ∙ ap printed (line-grid h marks dist status e m d b)
