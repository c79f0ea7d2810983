-- Closed sets of cells: with a cell, such a set has every cell on its border. A test of a tally that goes from cell to cell holds of every
-- closed set if it holds at every leaf of one tree.
use mathlib.Core.Path.{◌≡◌, refl}
use mathlib.Core.Bool.{Bool, true, false, cond, ◌&&◌, true≢false}
use mathlib.Core.Logic.{inl, inr}
use mathlib.Core.List.{List, [], ◌∷◌}
use Prim.Native.Nat.{ℕ}
use Rattle.cells.specs.Groups.{any}
use Rattle.cells.specs.Cells.{contains}
use Rattle.prelude.proofs.Bools.{and-true, two, not-both}
use Rattle.prelude.proofs.Lists.{Mem, here, there, false-any}

abbrev pub ClosedSet : (ℕ → Bool) → Type 0
ClosedSet t = (d c : ℕ) → contains d c ≡ true → t d ≡ true → t c ≡ true

-- of two ways on, the one that is not ruled out
onward-in : (a b x y : Bool) → b ≡ false → (elim a [ true ↦ x | false ↦ elim b [ true ↦ y | false ↦ x && y ] ]) ≡ true → x ≡ true
onward-in true b x y n h = h
onward-in false true x y n h = absurd (true≢false n)
onward-in false false x y n h = (and-true x y h).0

onward-out : (a b x y : Bool) → a ≡ false → (elim a [ true ↦ x | false ↦ elim b [ true ↦ y | false ↦ x && y ] ]) ≡ true → y ≡ true
onward-out true b x y n h = absurd (true≢false n)
onward-out false true x y n h = h
onward-out false false x y n h = (and-true x y h).1

all_cons : (p : ℕ → Type 0) (c : ℕ) (cs : List ℕ) → p c → ((d : ℕ) → Mem d cs → p d) → (d : ℕ) → Mem d (c ∷ cs) → p d
all_cons p c cs h k d here = h
all_cons p c cs h k d (there m) = k d m

module _ {S : Type 0} (with without : ℕ → S → S) (fits : S → Bool) where
  -- a cell that a cell of the set contains is in the set, and one that contains a cell outside is outside
  unfoldable pub every_closed : List ℕ → List ℕ → List ℕ → S → Bool
  every_closed [] ins outs s = fits s
  every_closed (c ∷ cs) ins outs s =
      elim (any (λ d. contains d c) ins) [
        | true ↦ every_closed cs (c ∷ ins) outs (with c s)
        | false ↦
            elim (any (contains c) outs) [
              | true ↦ every_closed cs ins (c ∷ outs) (without c s)
              | false ↦ every_closed cs (c ∷ ins) outs (with c s) && every_closed cs ins (c ∷ outs) (without c s)
            ]
      ]

  -- the tally of one set
  unfoldable pub walk : (ℕ → Bool) → List ℕ → S → S
  walk t [] s = s
  walk t (c ∷ cs) s = walk t cs (cond (t c) (with c s) (without c s))

  module _ (t : ℕ → Bool) (closed : ClosedSet t) where
    pub closed-fits : (cs ins outs : List ℕ) (s : S)
        → ((d : ℕ) → Mem d ins → t d ≡ true) → ((d : ℕ) → Mem d outs → t d ≡ false)
        → every_closed cs ins outs s ≡ true → fits (walk t cs s) ≡ true
    unfolding every_closed walk
    closed-fits [] ins outs s hi ho h = h
    closed-fits (c ∷ cs) ins outs s hi ho h =
        let forced-in = any (λ d. contains d c) ins in
        let forced-out = any (contains c) outs in
        let every-with = every_closed cs (c ∷ ins) outs (with c s) in
        let every-without = every_closed cs ins (c ∷ outs) (without c s) in
        go (t c) refl
        (λ e. closed-fits cs (c ∷ ins) outs (with c s) (all_cons (λ d. t d ≡ true) c ins e hi) ho
        (onward-in forced-in forced-out every-with every-without (free_in e) h))
        (λ e. closed-fits cs ins (c ∷ outs) (without c s) hi (all_cons (λ d. t d ≡ false) c outs e ho)
        (onward-out forced-in forced-out every-with every-without (free-out e) h))
      where
        free_in : t c ≡ true → any (contains c) outs ≡ false
        free_in e = false-any (contains c) outs (λ d m. elim (two (contains c d)) [ inl k ↦ not-both (t d) (closed c d k e) (ho d m) | inr k ↦ k ])

        free-out : t c ≡ false → any (λ d. contains d c) ins ≡ false
        free-out e = false-any (λ d. contains d c) ins (λ d m. elim (two (contains d c)) [ inl k ↦ not-both (t c) (closed d c k (hi d m)) e | inr k ↦ k ])

        go : (b : Bool) → t c ≡ b → (t c ≡ true → fits (walk t cs (with c s)) ≡ true) → (t c ≡ false → fits (walk t cs (without c s)) ≡ true)
            → fits (walk t cs (cond b (with c s) (without c s))) ≡ true
        go true e y n = y e
        go false e y n = n e
