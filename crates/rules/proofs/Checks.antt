-- The laws of lists of checks, for every call: the first that fails decides, a list after another, and what holds where none fails.
use mathlib.Core.Path.{◌≡◌, refl, ap, sym, ◌∙◌}
use mathlib.Core.Bool.{Bool, true, false, cond, not}
use mathlib.Core.List.{List, [], ◌∷◌, ◌++◌}
use Prim.Native.Nat.{ℕ, zero, suc}
use native.Mathlib.Omega.{arith}
use lib.Dec.{eqb}
use Rattle.prelude.proofs.Bools.{and-true, true-and}
use Rattle.rules.specs.Checks.{Check, ◌when◌, first_failing, unless, numbered, AllHold}

-- ---- the first check

module _ (n : ℕ) (t : Bool) (cs : List Check) where
  pub fails-first : t ≡ true → first_failing (n when t ∷ cs) ≡ n
  unfolding first_failing
  fails-first e = ap (λ (u : Bool). cond u n (first_failing cs)) e

  pub holds-first : t ≡ false → first_failing (n when t ∷ cs) ≡ first_failing cs
  unfolding first_failing
  holds-first e = ap (λ (u : Bool). cond u n (first_failing cs)) e

-- ---- a property of what a call answers, by its checks

module _ {R : Type 0} (refuse : ℕ → R) (work : R) (P : R → Type 0) where
  pub by-checks : (cs : List Check) → ((n : ℕ) → P (refuse n)) → (AllHold cs → P work) → P (unless cs refuse work)
  unfolding unless
  by-checks [] refused worked = worked tt
  by-checks (c ∷ cs) refused worked = go c.fails refl (λ worked. by-checks cs refused worked)
    where
      go : (t : Bool) → c.fails ≡ t → ((AllHold cs → P work) → P (unless cs refuse work)) → P (cond t (refuse c.number) (unless cs refuse work))
      go true e rest = refused c.number
      go false e rest = rest (λ h. worked (e, h))

-- ---- the number: 0 stands for no refusal

no_zero : {P : Type 0} (n : ℕ) → not (eqb n 0) ≡ true → n ≡ 0 → P
no_zero zero h e = let z : ◌≡◌ {A = ℕ} 0 1 = cc in let y : ⊥ = omega arith in absurd y
no_zero (suc n) h e = let y : ⊥ = omega arith in absurd y

pub all_hold : (cs : List Check) → numbered cs ≡ true → first_failing cs ≡ 0 → AllHold cs
unfolding first_failing
all_hold [] h e = tt
all_hold (c ∷ cs) h e =
    let p = and-true (not (eqb c.number 0)) (numbered cs) h in
    go c.fails refl p.0 e (all_hold cs p.1)
  where
    go : (t : Bool) → c.fails ≡ t → not (eqb c.number 0) ≡ true → cond t c.number (first_failing cs) ≡ 0 → (first_failing cs ≡ 0 → AllHold cs)
        → (c.fails ≡ false) × (AllHold cs)
    go true u n e rest = no_zero c.number n e
    go false u n e rest = (u, rest e)

-- a call's number is 0
pub held_none : (cs : List Check) (n : ℕ) → n ≡ first_failing cs → numbered cs ≡ true → n ≡ 0 → AllHold cs
held_none cs n e h z = all_hold cs h (sym e ∙ z)

pub hold-none : (cs : List Check) → AllHold cs → first_failing cs ≡ 0
unfolding first_failing
hold-none [] h = refl
hold-none (c ∷ cs) h = ap (λ (u : Bool). cond u c.number (first_failing cs)) h.0 ∙ hold-none cs h.1

-- a call that asks for the number first
module _ {R : Type 0} (refuse : ℕ → R) (work : R) where
  pub unless-held : (cs : List Check) → AllHold cs → unless cs refuse work ≡ work
  unfolding unless
  unless-held [] h = refl
  unless-held (c ∷ cs) h = ap (λ (u : Bool). cond u (refuse c.number) (unless cs refuse work)) h.0 ∙ unless-held cs h.1

  -- checks that hold before others do not matter
  pub unless-after : (cs ds : List Check) → AllHold cs → unless (cs ++ ds) refuse work ≡ unless ds refuse work
  unfolding unless
  unless-after [] ds h = refl
  unless-after (c ∷ cs) ds h = ap (λ (u : Bool). cond u (refuse c.number) (unless (cs ++ ds) refuse work)) h.0 ∙ unless-after cs ds h.1

  unless-first : (cs : List Check) → (first_failing cs ≡ 0 → ⊥) → unless cs refuse work ≡ refuse (first_failing cs)
  unfolding unless first_failing
  unless-first [] f = absurd (f refl)
  unless-first (c ∷ cs) f = go c.fails f (unless-first cs)
    where
      go : (t : Bool) → (cond t c.number (first_failing cs) ≡ 0 → ⊥) → ((first_failing cs ≡ 0 → ⊥) → unless cs refuse work ≡ refuse (first_failing cs))
          → cond t (refuse c.number) (unless cs refuse work) ≡ refuse (cond t c.number (first_failing cs))
      go true f rest = refl
      go false f rest = rest f

  module _ (cs : List Check) (n : ℕ) (e : n ≡ first_failing cs) where
    pub call-refused : (n ≡ 0 → ⊥) → refuse n ≡ unless cs refuse work
    call-refused f = ap refuse e ∙ sym (unless-first cs (λ z. f (e ∙ z)))

    pub call-done : numbered cs ≡ true → n ≡ 0 → (r : R) → r ≡ work → r ≡ unless cs refuse work
    call-done h z r f = f ∙ sym (unless-held cs (all_hold cs h (sym e ∙ z)))

-- ---- a list after another: the first decides where it refuses, else the second

pub hold-append : (cs ds : List Check) → AllHold (cs ++ ds) → (AllHold cs) × (AllHold ds)
hold-append [] ds h = (tt, h)
hold-append (c ∷ cs) ds h = let r = hold-append cs ds h.1 in ((h.0, r.0), r.1)

pub numbered-append : (cs ds : List Check) → numbered cs ≡ true → numbered ds ≡ true → numbered (cs ++ ds) ≡ true
numbered-append [] ds e f = f
numbered-append (c ∷ cs) ds e f =
    let p = and-true (not (eqb c.number 0)) (numbered cs) e in
    true-and (not (eqb c.number 0)) (numbered (cs ++ ds)) p.0 (numbered-append cs ds p.1 f)

pub append-hold : (cs ds : List Check) → AllHold cs → AllHold ds → AllHold (cs ++ ds)
append-hold [] ds h k = k
append-hold (c ∷ cs) ds h k = (h.0, append-hold cs ds h.1 k)

first-held : (cs ds : List Check) → AllHold cs → first_failing (cs ++ ds) ≡ first_failing ds
unfolding first_failing
first-held [] ds h = refl
first-held (c ∷ cs) ds h = ap (λ (u : Bool). cond u c.number (first_failing (cs ++ ds))) h.0 ∙ first-held cs ds h.1

first-refused : (cs ds : List Check) → (first_failing cs ≡ 0 → ⊥) → first_failing (cs ++ ds) ≡ first_failing cs
unfolding first_failing
first-refused [] ds f = absurd (f refl)
first-refused (c ∷ cs) ds f = go c.fails f (first-refused cs ds)
  where
    go : (t : Bool) → (cond t c.number (first_failing cs) ≡ 0 → ⊥) → ((first_failing cs ≡ 0 → ⊥) → first_failing (cs ++ ds) ≡ first_failing cs)
        → cond t c.number (first_failing (cs ++ ds)) ≡ cond t c.number (first_failing cs)
    go true f rest = refl
    go false f rest = rest f

module _ (cs ds : List Check) (n : ℕ) (e : n ≡ first_failing cs) where
  pub refused-first : (n ≡ 0 → ⊥) → n ≡ first_failing (cs ++ ds)
  refused-first f = e ∙ sym (first-refused cs ds (λ z. f (e ∙ z)))

  pub held_first : numbered cs ≡ true → n ≡ 0 → (m : ℕ) → m ≡ first_failing ds → m ≡ first_failing (cs ++ ds)
  held_first h z m f = f ∙ sym (first-held cs ds (all_hold cs h (sym e ∙ z)))

-- ---- lists one after the other, each checked before the next: what is left to check decides the number

abbrev pub Deciding : List Check → List Check → Type 0
Deciding all left = first_failing left ≡ first_failing all

module _ (all own left : List Check) (i : Deciding all (own ++ left)) (n : ℕ) (e : n ≡ first_failing own) where
  pub deciding-refused : (n ≡ 0 → ⊥) → n ≡ first_failing all
  deciding-refused f = refused-first own left n e f ∙ i

  pub deciding-next : numbered own ≡ true → n ≡ 0 → Deciding all left
  deciding-next h z = held_first own left n e h z _ refl ∙ i

pub deciding-done : (all : List Check) → Deciding all [] → 0 ≡ first_failing all
unfolding first_failing
deciding-done all i = i

-- ---- what a check that holds gives, by its number: a new number shifts no other

-- whether the check of that number fails
abbrev pub fails_at : ℕ → List Check → Bool
fails_at n [] = false
fails_at n (c ∷ cs) = cond (eqb c.number n) c.fails (fails_at n cs)

pub held_at : (cs : List Check) → AllHold cs → (n : ℕ) → fails_at n cs ≡ false
held_at [] h n = refl
held_at (c ∷ cs) h n = go (eqb c.number n) (held_at cs h.1 n)
  where
    go : (t : Bool) → fails_at n cs ≡ false → cond t c.fails (fails_at n cs) ≡ false
    go true rest = h.0
    go false rest = rest
