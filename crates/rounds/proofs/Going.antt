-- The loop of rounds: from a state just carved, what is still to be done gives the final state.
use mathlib.Core.Path.{◌≡◌, refl, ap, sym, ◌∙◌}
use mathlib.Core.Bool.{Bool, true, false}
use mathlib.Core.List.{List}
use Prim.Native.Nat.{ℕ, suc, ◌-◌, ◌<◌}
use native.Mathlib.Omega.{arith}
use lib.IntN.{ℤ}
use Rattle.rules.specs.declared.Record.{Record}
use Rattle.rules.specs.Machine.{State, state}
use Rattle.program.specs.Program.{after_carve, after_open, opens, carve_and_open, rounds_left}
use Rattle.program.proofs.Rounds.{carve-same, open-refused, open_done, after_round, round}

-- the openings that are left
abbrev pub left : Record → ℕ
left r = r.allowed - r.openings

-- open, and the rounds that follow it
abbrev onwards : List ℕ → State → State
onwards marks h = after_round marks (opens marks h) (left h.rec) h

from-carve : (marks : List ℕ) (g : State) → onwards marks (after_carve marks g) ≡ carve_and_open marks (rounds_left g.rec) g
from-carve marks g =
    let h = after_carve marks g in
    let s = carve-same marks g in
    let q : rounds_left g.rec ≡ suc (left h.rec) = omega (arith, s.allowed, s.openings) in
    sym (ap (λ (n : ℕ). carve_and_open marks n g) q ∙ round marks (left h.rec) g (opens marks h) refl)

pub record Going (marks : List ℕ) (final : State) (carved : Record) (dist : List ℤ) (status : List ℕ) : Type 0 where
  pub rest : onwards marks (state carved dist status) ≡ final

module _ (marks : List ℕ) (dist : List ℤ) where
  pub going_start :
      (given carved : Record) (status new : List ℕ)
      → state carved dist new ≡ after_carve marks (state given dist status)
      → Going marks (carve_and_open marks (rounds_left given) (state given dist status)) carved dist new
  going_start given carved status new e = record { rest = ap (onwards marks) e ∙ from-carve marks (state given dist status) }

  module _ (final : State) (carved : Record) (status : List ℕ) (g : Going marks final carved dist status) where
    abbrev now : State
    now = state carved dist status

    pub going_next :
        (next again : Record) (between new : List ℕ)
        → true ≡ opens marks now
        → state next dist between ≡ after_open marks now
        → state again dist new ≡ after_carve marks (state next dist between)
        → (Going marks final again dist new) × (left again < left carved)
    going_next next again between new o e f =
        let opened = open_done marks now (sym o) in
        let same = carve-same marks (state next dist between) in
        let q : rounds_left (after_open marks now).rec ≡ left carved = omega (arith, opened.openings, opened.allowed, opened.left) in (
          record {
            rest =
                ap (onwards marks) f ∙ from-carve marks (state next dist between)
                ∙ ap (λ (h : State). carve_and_open marks (rounds_left h.rec) h) e
                ∙ ap (λ (n : ℕ). carve_and_open marks n (after_open marks now)) q
                ∙ ap (λ (t : Bool). after_round marks t (left carved) now) o
                ∙ g.rest;
          },
          omega (
            arith,
            ap (λ (h : State). h.rec.openings) f,
            ap (λ (h : State). h.rec.allowed) f,
            same.openings,
            same.allowed,
            ap (λ (h : State). h.rec.openings) e,
            ap (λ (h : State). h.rec.allowed) e,
            opened.openings,
            opened.allowed,
            opened.left,
          ),
        )

    pub going_done :
        (new : List ℕ)
        → false ≡ opens marks now
        → state carved dist new ≡ after_open marks now
        → state carved dist new ≡ final
    going_done new o e =
        e ∙ open-refused marks now (sym o) ∙ ap (λ (t : Bool). after_round marks t (left carved) now) o ∙ g.rest
