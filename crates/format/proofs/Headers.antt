-- The header: what holds where none of its checks fails; that no check of read has the number 0; and what holds of a file that read takes.
use mathlib.Core.Path.{◌≡◌}
use mathlib.Core.Bool.{true}
use mathlib.Core.List.{List}
use Prim.Native.Nat.{ℕ}
use native.Mathlib.Omega.{arith}
use borrow.Author.Tests.{ltb-false, eqb-true}
use lib.ListN.{length}
use lib.IntN.{ℤ}
use Rattle.prelude.proofs.Bools.{and-true, not-false}
use Rattle.rules.specs.declared.Sides.{Sides}
use Rattle.rules.specs.Grid.{fit_sides, size}
use Rattle.rules.specs.Checks.{Check, unless, numbered, AllHold}
use Rattle.rules.specs.Answer.{Reply, refused, done, untouched}
use Rattle.rules.proofs.Checks.{by-checks, unless-held, numbered-append, hold-append, held_at}
use Rattle.format.specs.Patch.{patches_checks}
use Rattle.format.specs.File.{sides_in, allowed_in, fit_up_to, header_checks, layers_checks, layers_end, records_checks, read_checks}
use Rattle.format.specs.declared.Header.{Header}
use Rattle.format.specs.File.{Accepted, accepted, read_up_to}
use Rattle.format.proofs.Patch.{patches-numbered}
use Rattle.format.proofs.Records.{layers-numbered}

pub fit_up_to-fits : (greatest : ℕ) (s : Sides) → fit_up_to greatest s ≡ true → fit_sides s ≡ true
unfolding fit_up_to
fit_up_to-fits greatest s e = (and-true (fit_sides s) _ e).0

module _ (greatest : ℕ) (file : List ℕ) (lent : ℕ) where
  pub read-numbered : numbered (read_checks greatest file lent) ≡ true
  read-numbered =
      let s = sides_in file in
      numbered-append (layers_checks s file s.c 0) _ (layers-numbered s file s.c 0) (patches-numbered (size s) file _ (layers_end s file))

  pub header-fits : AllHold (header_checks greatest file lent) → fit_sides (sides_in file) ≡ true
  header-fits h = fit_up_to-fits greatest (sides_in file) (not-false _ (held_at (header_checks greatest file lent) h 1))

  pub header-long : AllHold (header_checks greatest file lent) → lent ≡ size (sides_in file)
  header-long h = eqb-true _ _ (not-false _ (held_at (header_checks greatest file lent) h 2))

  pub is-accepted : AllHold (read_checks greatest file lent) → Accepted (sides_in file) file lent
  is-accepted h =
      let s = sides_in file in
      let p = hold-append (header_checks greatest file lent) (records_checks s file) h in
      let r = hold-append (layers_checks s file s.c 0) (patches_checks (size s) file (layers_end s file)) p.1 in
      let own = p.0 in
      record {
        whole = ltb-false _ _ own.0;
        fits = header-fits own;
        long = header-long own;
        layers = r.0;
        patches = r.1;
      }

-- ---- a file that read takes

-- a refusal is no answer
pub no_answer : {A P : Type 0} (n : ℕ) (a : A) → ◌≡◌ {A = Reply A} (refused n) (done a) → P
no_answer n a e = let z : ◌≡◌ {A = ℕ} 0 1 = cc in let y : ⊥ = omega arith in absurd y

module _ (cs : List Check) (file : List ℕ) (lent : List ℤ) (h : Header) (e : (unless cs (untouched lent) (accepted file lent)).answer ≡ done h) where
  pub done-checked : AllHold cs
  done-checked = by-checks (untouched lent) (accepted file lent) (λ o. o.answer ≡ done h → AllHold cs) cs (λ n f. no_answer n h f) (λ p f. p) e

  pub done-sides : h.sides ≡ sides_in file
  done-sides =
      let works = unless-held (untouched lent) (accepted file lent) cs done-checked in
      let same : record { sides = sides_in file; allowed = allowed_in file } ≡ h = cc in
      cc

pub taken : (greatest : ℕ) (file : List ℕ) (lent : List ℤ) (h : Header) → (read_up_to greatest file lent).answer ≡ done h → Accepted h.sides file (length lent)
unfolding read_up_to
taken greatest file lent h e =
    let cs = read_checks greatest file (length lent) in
    rw (done-sides cs file lent h e) (is-accepted greatest file (length lent) (done-checked cs file lent h e))
