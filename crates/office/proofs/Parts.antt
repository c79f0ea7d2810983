-- Lists laid end to end: cut at their lengths they are there again, and one of them may become another.
use mathlib.Core.Path.{◌≡◌, refl, ap, ap₂, sym, ◌∙◌, subst}
use mathlib.Core.Logic.{◌≢◌}
use mathlib.Core.Bool.{Bool, false}
use mathlib.Core.List.{List, [], ◌∷◌, ◌++◌, map, append_assoc}
use Prim.Native.Nat.{ℕ, zero, suc, ◌+◌, ◌<◌}
use native.Mathlib.Omega.{arith}
use lib.ListN.{length, get_or, set, take, drop, length-append, length-drop, take-append-drop}
use lib.Seq.{take-append_seam, drop-append_seam, length-take-le, map-set_same, set-get_or, get_or-set_same, get_or-set_other, take-add, drop-drop}
use Rattle.cells.specs.Groups.{any}
use Rattle.prelude.proofs.Lists.{none-split}
use Rattle.office.specs.Parts.{total, laid, cut, part_at, put}

module _ {A : Type 0} where
  -- ---- laid and cut

  pub cut-laid : (ls : List (List A)) → cut (map length ls) (laid ls) ≡ ls
  unfolding cut laid
  cut-laid [] = refl
  cut-laid (l ∷ ls) =
      ap₂ (λ (x : List A) (xs : List (List A)). x ∷ xs) (take-append_seam l (laid ls))
      (ap (cut (map length ls)) (drop-append_seam l (laid ls)) ∙ cut-laid ls)

  pub length-laid : (ls : List (List A)) → length (laid ls) ≡ total (map length ls)
  unfolding laid total
  length-laid [] = refl
  length-laid (l ∷ ls) = length-append l (laid ls) ∙ ap (λ (n : ℕ). length l + n) (length-laid ls)

  pub laid-cut : (ns : List ℕ) (l : List A) → length l ≡ total ns → laid (cut ns l) ≡ l
  unfolding cut laid total
  laid-cut [] [] e = refl
  laid-cut [] (x ∷ l) e = let z : ⊥ = omega arith in absurd z
  laid-cut (n ∷ ns) l e = ap (λ (r : List A). take n l ++ r) (laid-cut ns (drop n l) (length-drop n l ∙ omega arith)) ∙ take-append-drop n l

  pub length_cut : (ns : List ℕ) (l : List A) → length (cut ns l) ≡ length ns
  unfolding cut
  length_cut [] l = refl
  length_cut (n ∷ ns) l = ap suc (length_cut ns (drop n l))

  pub cut-lengths : (ns : List ℕ) (l : List A) → length l ≡ total ns → map length (cut ns l) ≡ ns
  unfolding cut total
  cut-lengths [] l e = refl
  cut-lengths (n ∷ ns) l e =
      ap₂ (λ (x : ℕ) (xs : List ℕ). x ∷ xs) (length-take-le n l (omega arith)) (cut-lengths ns (drop n l) (length-drop n l ∙ omega arith))

  -- ---- a part becomes another of its length

  module _ (ns : List ℕ) (l : List A) (p : ℕ) (part : List A) (e : length l ≡ total ns) (same : length part ≡ length (part_at ns l p)) where
    put-lengths : map length (set (cut ns l) p part) ≡ ns
    put-lengths = map-set_same length (cut ns l) p part [] same ∙ cut-lengths ns l e

    pub cut-put : cut ns (put ns l p part) ≡ set (cut ns l) p part
    unfolding put
    cut-put = subst (λ (m : List ℕ). cut m (laid (set (cut ns l) p part)) ≡ set (cut ns l) p part) put-lengths (cut-laid (set (cut ns l) p part))

    pub length-put : length (put ns l p part) ≡ total ns
    unfolding put
    length-put = length-laid (set (cut ns l) p part) ∙ ap total put-lengths

    pub part-put : p < length ns → part_at ns (put ns l p part) p ≡ part
    part-put h = rw cut-put (get_or-set_same (cut ns l) p part [] (omega (arith, length_cut ns l)))

    -- the others stay
    pub part-put-other : (q : ℕ) → q ≢ p → part_at ns (put ns l p part) q ≡ part_at ns l q
    part-put-other q d = rw cut-put (get_or-set_other (cut ns l) p q part [] d)

  pub put_same : (ns : List ℕ) (l : List A) (p : ℕ) → length l ≡ total ns → put ns l p (part_at ns l p) ≡ l
  unfolding put
  put_same ns l p e = ap laid (set-get_or (cut ns l) p []) ∙ laid-cut ns l e

  -- ---- a part by where it starts, at the sum of the lengths before it, and its length

  pub part-at : (ns : List ℕ) (l : List A) (p : ℕ) → part_at ns l p ≡ take (get_or ns p 0) (drop (total (take p ns)) l)
  unfolding cut total
  part-at [] l p = refl
  part-at (n ∷ ns) l zero = refl
  part-at (n ∷ ns) l (suc p) = part-at ns (drop n l) p ∙ ap (take (get_or ns p 0)) (drop-drop (total (take p ns)) n l)

  pub put-at : (ns : List ℕ) (l : List A) (p : ℕ) (part : List A) → p < length ns → length l ≡ total ns
      → let from = total (take p ns) in put ns l p part ≡ take from l ++ (part ++ drop (get_or ns p 0) (drop from l))
  unfolding put cut laid total
  put-at [] l p part h e = let z : ⊥ = omega arith in absurd z
  put-at (n ∷ ns) l zero part h e = ap (λ (r : List A). part ++ r) (laid-cut ns (drop n l) (length-drop n l ∙ omega arith))
  put-at (n ∷ ns) l (suc p) part h e =
      let k = total (take p ns) in
      let m = get_or ns p 0 in
      ap (λ (r : List A). take n l ++ r) (put-at ns (drop n l) p part (omega arith) (length-drop n l ∙ omega arith))
      ∙ sym (append_assoc (take n l) (take k (drop n l)) (part ++ drop m (drop k (drop n l))))
      ∙ ap₂ (λ (x y : List A). x ++ (part ++ drop m y)) (sym (take-add n k l)) (drop-drop k n l)

  -- the length of a part, and where the next one starts: all of them lie within the list
  pub part_length : (ns : List ℕ) (l : List A) → length l ≡ total ns → (p : ℕ) → length (part_at ns l p) ≡ get_or ns p 0
  unfolding cut total
  part_length [] l e p = refl
  part_length (n ∷ ns) l e zero = length-take-le n l (omega arith)
  part_length (n ∷ ns) l e (suc p) = part_length ns (drop n l) (length-drop n l ∙ omega arith) p

  -- what no element passes, none of a part does
  pub none-in-part : (t : A → Bool) (ns : List ℕ) (l : List A) → any t l ≡ false → (p : ℕ) → any t (part_at ns l p) ≡ false
  unfolding cut any
  none-in-part t [] l e p = refl
  none-in-part t (n ∷ ns) l e zero = (none-split t n l e).0
  none-in-part t (n ∷ ns) l e (suc p) = none-in-part t ns (drop n l) (none-split t n l e).1 p
