-- Sets in one piece: what taking a point out, or putting one in, does to them.
use mathlib.Core.Path.{◌≡◌, sym, ◌∙◌, subst}
use mathlib.Core.Logic.{◌⊎◌, inl, inr}
use mathlib.Core.Bool.{Bool, true, false}
use Rattle.cells.specs.Linked.{Linked, stay, step, OnePiece}
use Rattle.prelude.proofs.Bools.{not-both}
use Rattle.cells.proofs.Chains.{last-member, append, before, link, widen}

-- v is taken out of p, which leaves q; a bridge of q joins the neighbours of v
module _ {A : Type 0} (p q : A → Bool) (joined : A → A → Bool) (v : A)
    (out : q v ≡ false) (split : (u : A) → p u ≡ true → (u ≡ v) ⊎ (q u ≡ true))
    (bridge : (n o : A) → q n ≡ true → q o ≡ true → joined n v ≡ true → joined v o ≡ true → Linked q joined n o) where
  -- a chain of p goes round v
  record Round (u w : A) : Type 0 where
    past : q w ≡ true → Linked q joined u w
    onto : w ≡ v → (n : A) → q n ≡ true → joined v n ≡ true → Linked q joined u n

  round : {u w : A} → q u ≡ true → Linked p joined u w → Round u w
  round {u} qu (stay m) = record { past = λ qw. stay qw; onto = λ e n qn j. not-both (q u) qu (subst (λ (t : A). q t ≡ false) (sym e) out) }
  round {u} qu (step {y = y} {z = z} c j m) = go (round qu c) (split y (last-member c))
    where
      go : Round u y → (y ≡ v) ⊎ (q y ≡ true) → Round u z
      go r (inl e) =
          record {
            past = λ qz. r.onto e z qz (subst (λ (t : A). joined t z ≡ true) e j);
            onto = λ f n qn jn. r.onto e n qn jn;
          }
      go r (inr qy) =
          record {
            past = λ qz. step (r.past qy) j qz;
            onto = λ f n qn jn. append (r.past qy) (bridge y n qy qn (subst (λ (t : A). joined y t ≡ true) f j) jn);
          }

  pub one-taken : ((u : A) → q u ≡ true → p u ≡ true) → OnePiece p joined → OnePiece q joined
  one-taken sub h u w qu qw = (round qu (h u w (sub u qu) (sub w qw))).past qw

-- v, joined to a member n of p, is put in, which gives q
module _ {A : Type 0} (p q : A → Bool) (joined : A → A → Bool) (v n : A)
    (sub : (u : A) → p u ≡ true → q u ≡ true) (split : (u : A) → q u ≡ true → (u ≡ v) ⊎ (p u ≡ true))
    (pn : p n ≡ true) (there : joined v n ≡ true) (back : joined n v ≡ true) where
  pub one-put : OnePiece p joined → OnePiece q joined
  one-put h u w qu qw = go (split u qu) (split w qw)
    where
      go : (u ≡ v) ⊎ (p u ≡ true) → (w ≡ v) ⊎ (p w ≡ true) → Linked q joined u w
      go (inl e) (inl f) = subst (λ (t : A). Linked q joined u t) (e ∙ sym f) (stay qu)
      go (inl e) (inr pw) = before qu (subst (λ (t : A). joined t n ≡ true) (sym e) there) (widen sub (h n w pn pw))
      go (inr pu) (inl f) = step (widen sub (h u n pu pn)) (subst (λ (t : A). joined n t ≡ true) (sym f) back) qw
      go (inr pu) (inr pw) = widen sub (h u w pu pw)

-- ---- a chain of cells carries a chain of the points that hold them
module _ {A C : Type 0} (q : A → Bool) (joined : A → A → Bool) (cell : C → Bool) (meet : C → C → Bool) (Holds : C → A → Type 0)
    (held : (c : C) (u w : A) → Holds c u → Holds c w → joined u w ≡ true)
    (holder : (c : C) → cell c ≡ true → (u : A) × (q u ≡ true) × (Holds c u))
    (border : (c d : C) → meet c d ≡ true → ((u : A) → Holds d u → Holds c u) ⊎ ((u : A) → Holds c u → Holds d u)) where
  pub cells-carry : {c d : C} → Linked cell meet c d → (u w : A) → q u ≡ true → Holds c u → q w ≡ true → Holds d w → Linked q joined u w
  cells-carry {c} (stay m) u w qu hu qw hw = link qu (held c u w hu hw) qw
  cells-carry (step {y = e} {z = d} l j m) u w qu hu qw hw =
      elim (border e d j) [
        | inl f ↦ cells-carry l u w qu hu qw (f w hw)
        | inr f ↦
            let o = holder e (last-member l) in
            step (cells-carry l u o.0 qu hu o.1 o.2) (held d o.0 w (f o.0 o.2) hw) qw
      ]
