-- A write to a part of a list, `l[at..hi]`, and a pass over that part, as a pass over the list.
use mathlib.Core.Path.{◌≡◌, sym, ap, ◌∙◌}
use mathlib.Core.List.{List}
use Prim.Native.Nat.{ℕ, ◌+◌, ◌-◌, ◌≤◌, ◌<◌}
use native.Mathlib.Omega.{arith}
use borrow.Rule.Slice.PartMut.{put_mid}
use lib.ListN.{length, get_or, take, drop}
use Rattle.std.proofs.lemmas.List.{places, length-take, length-drop, length-append, get_or-take, get_or-drop, get_or_past}
use Rattle.loops.specs.InPlace.{Each}

-- of all of a list
pub each_whole : {A : Type 0} (d : A) (f : ℕ → A → A) (l l' : List A) → length l' ≡ length l
    → ((k : ℕ) → k < length l → get_or l' k d ≡ f k (get_or l k d)) → Each d f 0 (length l) l l'
each_whole d f l l' e here =
    record {
      len = e;
      inside = λ k _ h. here k h;
      outside = λ k o. (let h : length l ≤ k = o (omega arith) in get_or_past l' k d (omega arith) ∙ sym (get_or_past l k d h));
    }

module _ {A : Type 0} (d : A) (at n hi : ℕ) (l part : List A) (room : hi ≤ length l) (up-to : hi ≡ at + n) (len : length part ≡ n) where
  abbrev whole : List A
  whole = put_mid at n l part

  pub part_length : length whole ≡ length l
  part_length = omega (arith, length-take {A = A}, length-drop {A = A}, length-append {A = A})

  pub part_at : (k : ℕ) → k < n → get_or whole (at + k) d ≡ get_or part k d
  part_at k h = grind (arith, places)

  pub within : (k : ℕ) → at ≤ k → k < hi → get_or whole k d ≡ get_or part (k - at) d
  within k h q = grind (arith, places)

  pub outside : (k : ℕ) → (at ≤ k → hi ≤ k) → get_or whole k d ≡ get_or l k d
  outside k o = grind (arith, places)

  pub each_part : (f : ℕ → A → A) → ((k : ℕ) → k < n → get_or part k d ≡ f (at + k) (get_or l (at + k) d)) → Each d f at hi l whole
  each_part f here =
      record {
        len = part_length;
        inside = λ k h q.
            within k h q
            ∙ here (k - at) (omega arith)
            ∙ ap (λ (j : ℕ). f j (get_or l j d)) (let e : at + (k - at) ≡ k = omega arith in e);
        outside = outside;
      }

  -- a part in which each element is what g makes of it there
  pub each_passed : (f g : ℕ → A → A) (end : ℕ) → n ≤ end → Each d g 0 end (take n (drop at l)) part
      → ((k : ℕ) (x : A) → k < n → g k x ≡ f (at + k) x) → Each d f at hi l whole
  each_passed f g end e E same =
      each_part f
      (λ k h.
      E.inside k (omega arith) (omega arith)
      ∙ same k (get_or (take n (drop at l)) k d) h
      ∙ ap (f (at + k)) (get_or-take n (drop at l) k d h ∙ get_or-drop at l k d))
