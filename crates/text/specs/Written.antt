-- What the contracts of this crate cite: a text written before another in a buffer, and a line as it is handed back.
use Rattle.std.specs.Prelude.{◌≡◌, List, ◌++◌, ℕ, ◌+◌, ◌-◌, ◌≤◌, length, take, drop, replicate}
use Rattle.text.specs.declared.Summary.{Summary}
use Rattle.text.specs.declared.Text.{Text}
use Rattle.text.specs.Line.{Line, carved_line, line_text}

-- the new buffer is the old one up to start, then the text; start lies at most so many bytes before the index at
pub record Written (most at start : ℕ) (old new text : List ℕ) : Type 0 where
  pub near : at ≤ start + most
  pub below : start ≤ at
  pub reads : new ≡ take start old ++ text

-- a text was written before the one that stood from the index at on
abbrev pub Before : ℕ → ℕ → ℕ → List ℕ → List ℕ → (List ℕ → List ℕ) → Type 0
Before most at start old new f = Written most at start old new (f (drop at old))

abbrev pub summary_line : Summary → Line
summary_line s = carved_line s.kept s.removed s.opened s.examined s.euler

-- a line as it is handed back: at the end of 160 bytes, with zeros before it
unfoldable pub printed : Line → Text
printed l =
    let text = line_text l in
    let start = 160 - length text in
    record { bytes = replicate start 0 ++ text; start = start }
