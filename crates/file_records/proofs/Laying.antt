-- Bytes laid one after the other into a lent buffer: what is laid so far stands before what was lent.
use mathlib.Core.Path.{◌≡◌, refl, sym, ap, ◌∙◌}
use mathlib.Core.List.{List, [], ◌∷◌, ◌++◌, append_assoc}
use Prim.Native.Nat.{ℕ, zero, suc, ◌+◌, ◌≤◌}
use native.Mathlib.Omega.{arith}
use lib.ListN.{length, take, drop, get_or}
use lib.Seq.{sets, sets-eq, take_at, drop_at, drop-drop}

module _ {A : Type 0} (done new lent : List A) (at : ℕ) (e : length done ≡ at) where
  -- by a part of the buffer
  pub lay : (n : ℕ) → let file = done ++ drop at lent in take at file ++ (new ++ drop n (drop at file)) ≡ (done ++ new) ++ drop (at + n) lent
  lay n =
      rw (take_at done (drop at lent) at e, drop_at done (drop at lent) at e, drop-drop)
      (sym (append_assoc done new (drop (at + n) lent)))

  pub lay-on : (n : ℕ) → let file = done ++ drop at lent in (take at file ++ new) ++ drop (at + n) file ≡ (done ++ new) ++ drop (at + n) lent
  lay-on n =
      let file : List A = done ++ drop at lent in
      append_assoc (take at file) new (drop (at + n) file)
      ∙ ap (λ (r : List A). take at file ++ (new ++ r)) (sym (drop-drop n at file))
      ∙ lay n

  -- by stores
  pub lay-sets : at + length new ≤ length (done ++ drop at lent) → sets (done ++ drop at lent) at new ≡ (done ++ new) ++ drop (at + length new) lent
  lay-sets h = sets-eq new (done ++ drop at lent) at h ∙ lay-on (length new)

module _ {A : Type 0} (d : A) where
  -- a list whose first elements stand by themselves: stores at their indices then compute, in whatever order they are made
  abbrev pub spread : ℕ → List A → List A
  spread zero l = l
  spread (suc k) l = get_or l 0 d ∷ spread k (drop 1 l)

  pub is-spread : (k : ℕ) (l : List A) → k ≤ length l → l ≡ spread k l
  is-spread zero l h = refl
  is-spread (suc k) [] h = let z : ⊥ = omega arith in absurd z
  is-spread (suc k) (x ∷ l) h = ap (λ (r : List A). x ∷ r) (is-spread k l (omega arith))
