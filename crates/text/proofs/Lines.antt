-- A signed number, and a line as it is handed back.
use mathlib.Core.Path.{◌≡◌, ap, sym, subst, ◌∙◌}
use mathlib.Core.Bool.{Bool, true, false, cond, true≢false}
use mathlib.Core.List.{List, [], ◌∷◌, ◌++◌}
use Prim.Native.Nat.{ℕ, zero, suc, ◌+◌, ◌-◌, ◌/◌, ◌%◌, ◌≤◌}
use native.Mathlib.Omega.{arith}
use lib.Dec.{ltb}
use lib.ListN.{length, take, drop, replicate, length-append, length-replicate}
use lib.Seq.{drop-length}
use lib.IntN.{ℤ, pos, negsuc, nat_abs}
use Rattle.prelude.specs.Integers.{is_negative}
use Rattle.prelude.proofs.Replicate.{take-replicate}
use Rattle.text.specs.declared.Text.{Text}
use Rattle.text.specs.Line.{Line, refused_line, carved_line, decimal, number, signed_number, line_text}
use Rattle.text.specs.Line.{refused_word, kept_word, removed_word, opened_word, examined_word, euler_word}
use Rattle.text.specs.Written.{Written, printed}
use Rattle.text.proofs.Writing.{written_then}

-- ---- a signed number

module _ (z : ℤ) (n at mid : ℕ) (old between : List ℕ) (e : n ≡ nat_abs z) (w : Written 20 at mid old between (number n (drop at old))) where
  pub signed-negative :
      (start : ℕ) (new : List ℕ)
      → at ≤ length old
      → is_negative z ≡ true
      → Written 1 mid start between new (0x2D ∷ drop mid between)
      → Written 21 at start old new (signed_number z (drop at old))
  signed-negative start new room h v =
      let both = written_then (λ t. 0x2D ∷ t) room w v in
      record { near = both.near; below = both.below; reads = both.reads ∙ ap (λ (t : List ℕ). take start old ++ t) (go z e h) }
    where
      go : (z : ℤ) → n ≡ nat_abs z → is_negative z ≡ true → 0x2D ∷ number n (drop at old) ≡ signed_number z (drop at old)
      go (pos k) e h = absurd (true≢false (sym h))
      go (negsuc k) e h = ap (λ (i : ℕ). 0x2D ∷ number i (drop at old)) e

  pub signed-positive : is_negative z ≡ false → Written 21 at mid old between (signed_number z (drop at old))
  signed-positive h =
      record { near = omega (arith, w.near); below = w.below; reads = w.reads ∙ ap (λ (t : List ℕ). take mid old ++ t) (go z e h) }
    where
      go : (z : ℤ) → n ≡ nat_abs z → is_negative z ≡ false → number n (drop at old) ≡ signed_number z (drop at old)
      go (pos k) e h = ap (λ (i : ℕ). number i (drop at old)) e
      go (negsuc k) e h = absurd (true≢false h)

-- ---- the whole line

module _ {m start : ℕ} {old new : List ℕ} where
  -- nothing stands after the line feed
  ends : (f : List ℕ → List ℕ) → length old ≡ 160 → Written m 160 start old new (f (drop 160 old)) → Written m 160 start old new (f [])
  ends f e w = subst (λ (t : List ℕ). Written m 160 start old new (f t)) (ap (λ (k : ℕ). drop k old) (sym e) ∙ drop-length old) w

  pub refused-text :
      (n : ℕ)
      → length old ≡ 160
      → Written m 160 start old new (refused_word ++ number n (0x0A ∷ drop 160 old))
      → Written m 160 start old new (line_text (refused_line n))
  unfolding line_text
  refused-text n e w = ends (λ t. refused_word ++ number n (0x0A ∷ t)) e w

  pub carved-text :
      (kept removed opened examined : ℕ) (held euler : ℤ)
      → held ≡ euler
      → length old ≡ 160
      → Written m 160 start old new (
      kept_word ++ number kept (
      removed_word ++ number removed (
      opened_word ++ number opened (
      examined_word ++ number examined (
      euler_word ++ signed_number held (0x0A ∷ drop 160 old))))))
      → Written m 160 start old new (line_text (carved_line kept removed opened examined euler))
  unfolding line_text
  carved-text kept removed opened examined held euler z e w =
      subst (λ (z : ℤ). Written m 160 start old new (line_text (carved_line kept removed opened examined z))) z (ends (λ t.
      kept_word ++ number kept (
      removed_word ++ number removed (
      opened_word ++ number opened (
      examined_word ++ number examined (
      euler_word ++ signed_number held (0x0A ∷ t)))))) e w)

pub is-printed :
    (m start : ℕ) (new : List ℕ) (l : Line)
    → length new ≡ 160
    → Written m 160 start (replicate 160 0) new (line_text l)
    → ◌≡◌ {A = Text} (record { bytes = new; start = start }) (printed l)
unfolding printed
is-printed m start new l e w =
    let same : new ≡ replicate start 0 ++ line_text l = w.reads ∙ ap (λ (t : List ℕ). t ++ line_text l) (take-replicate start 160 0 w.below) in
    let long = length-append (replicate start 0) (line_text l) in
    let s : start ≡ 160 - length (line_text l) = omega (arith, long, length-replicate {A = ℕ} start 0, ap length same) in
    rw same (ap (λ (k : ℕ). record { bytes = replicate k 0 ++ line_text l; start = k }) s)

-- ---- every line fits

decimal-length : (digits n : ℕ) (text : List ℕ) → length (decimal digits n text) ≤ digits + length text
unfolding decimal
decimal-length zero n text = omega arith
decimal-length (suc digits) n text = go (ltb n 10) (decimal-length digits (n / 10) ((n % 10 + 0x30) ∷ text))
  where
    go :
        (t : Bool)
        → length (decimal digits (n / 10) ((n % 10 + 0x30) ∷ text)) ≤ digits + suc (length text)
        → length (cond t ((n + 0x30) ∷ text) (decimal digits (n / 10) ((n % 10 + 0x30) ∷ text))) ≤ suc digits + length text
    go true h = omega arith
    go false h = omega arith

field-length : (word : List ℕ) (n : ℕ) (text : List ℕ) → length (word ++ number n text) ≤ length word + (20 + length text)
field-length word n text = omega (arith, length-append word (number n text), decimal-length 20 n text)

signed-length : (z : ℤ) (text : List ℕ) → length (signed_number z text) ≤ 21 + length text
signed-length (pos n) text = omega (arith, decimal-length 20 n text)
signed-length (negsuc n) text = omega (arith, decimal-length 20 (suc n) text)

line-fits : (l : Line) → length (line_text l) ≤ 160
unfolding line_text
line-fits (refused_line n) = omega (arith, field-length refused_word n (0x0A ∷ []))
line-fits (carved_line kept removed opened examined euler) =
    let euler₁ = euler_word ++ signed_number euler (0x0A ∷ []) in
    let examined₁ = examined_word ++ number examined euler₁ in
    let opened₁ = opened_word ++ number opened examined₁ in
    let removed₁ = removed_word ++ number removed opened₁ in
    let a = signed-length euler (0x0A ∷ []) in
    let b = length-append euler_word (signed_number euler (0x0A ∷ [])) in
    let c = field-length examined_word examined euler₁ in
    let d = field-length opened_word opened examined₁ in
    let e = field-length removed_word removed opened₁ in
    let f = field-length kept_word kept removed₁ in
    omega arith

-- what whoever prints a line needs
module _ (l : Line) where
  pub start-within : (printed l).start ≤ 160
  unfolding printed
  start-within = omega arith

  pub bytes-long : length (printed l).bytes ≡ 160
  unfolding printed
  bytes-long =
      let start : ℕ = 160 - length (line_text l) in
      omega (arith, length-append (replicate start 0) (line_text l), length-replicate {A = ℕ} start 0, line-fits l)
