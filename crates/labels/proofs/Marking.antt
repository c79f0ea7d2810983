-- The labels before the floods: of a value, and of a row.
use mathlib.Core.Path.{◌≡◌, refl, sym, ap, ◌∙◌, subst, subst₂}
use mathlib.Core.Bool.{Bool, true, false, not, cond, true≢false}
use mathlib.Core.List.{List, map}
use Prim.Native.Nat.{ℕ, ◌+◌, ◌-◌, ◌*◌, ◌^◌, ◌≤◌, ◌<◌}
use native.Mathlib.Omega.{arith}
use borrow.Rule.Slice.PartMut.{put_mid}
use lib.IntN.{ℤ, pos, negsuc}
use lib.ListN.{length, length-map, length-set, length-drop, get_or, set, take, drop, replicate}
use Rattle.std.proofs.lemmas.List.{length-take-le, length-replicate, get_or-replicate, get_or-take, get_or-drop, get_or-map}
use lib.Signed.{lt_z}
use mir.Syntax.{w32}
use mir.Val.{SFits, of_z}
use borrow.Author.Tests.{ltb-true, eq-eqb, ne_eqb}
use Rattle.values.proofs.Signs.{missing-bits}
use Rattle.rules.specs.declared.Sides.{Sides}
use Rattle.rules.specs.Value.{is_missing}
use Rattle.rules.specs.Grid.{on_border, measured_negative, measured_non_negative, missing as beyond, value_at}
use Rattle.loops.specs.InPlace.{Each}
use Rattle.loops.proofs.InPlace.{each_none, each_more, each-join}
use Rattle.loops.proofs.Parts.{each_part}
use Rattle.loops.proofs.Rows.{edge, row-edge, row_first, row_last, row-middle}
use Rattle.labels.specs.Labels.{kind_of, mark_of}

-- ---- a value

pub data Kind (v : ℤ) : ℕ → Type 0 where
  negative : measured_negative v ≡ true → Kind v 0
  missing : is_missing v ≡ true → Kind v 1
  other : measured_negative v ≡ false → is_missing v ≡ false → Kind v 3

pub kind-is : (v : ℤ) → Kind v (kind_of v)
unfolding kind_of measured_negative measured_non_negative is_missing
kind-is (pos n) = other refl refl
kind-is (negsuc n) = go (is_missing (negsuc n)) refl
  where
    go : (t : Bool) → is_missing (negsuc n) ≡ t → Kind (negsuc n) (cond t 1 0)
    go true e = missing e
    go false e = negative (ap not e)

-- the same by the machine's bits

pub kind-missing : (v : ℤ) → SFits w32 v → of_z w32 v ≡ 2147483648 → kind_of v ≡ 1
unfolding kind_of measured_non_negative
kind-missing (pos n) h e = let l : n < 2 ^ 31 = h.sfits in let q : n ≡ 2147483648 = e in let z : ⊥ = omega arith in absurd z
kind-missing (negsuc n) h e = rw (sym (missing-bits (negsuc n) h) ∙ eq-eqb (of_z w32 (negsuc n)) 2147483648 e)

pub kind-negative : (v : ℤ) → SFits w32 v → lt_z v (pos 0) ≡ true → (of_z w32 v ≡ 2147483648 → ⊥) → kind_of v ≡ 0
unfolding kind_of measured_non_negative
kind-negative (pos n) h t e = let l = ltb-true n 0 t in let z : ⊥ = omega arith in absurd z
kind-negative (negsuc n) h t e = rw (sym (missing-bits (negsuc n) h) ∙ ne_eqb (of_z w32 (negsuc n)) 2147483648 e)

pub kind-other : (v : ℤ) → lt_z v (pos 0) ≡ false → kind_of v ≡ 3
unfolding kind_of measured_non_negative
kind-other (pos n) t = refl
kind-other (negsuc n) t = absurd (true≢false t)

-- ---- a row

-- a pass over one element
each-one : (f : ℕ → ℕ → ℕ) (i : ℕ) (l : List ℕ) (v : ℕ) → i < length l → v ≡ f i (get_or l i 0) → Each 0 f i (i + 1) l (set l i v)
each-one f i l v h e = each_more 0 f i i l l v (omega arith) h (each_none 0 f i i l (omega arith)) e

module _ (s : Sides) (values : List ℤ) (r : ℕ) where
  abbrev first : ℕ
  first = s.a * r

  abbrev mark : ℕ → ℕ → ℕ
  mark k d = mark_of s values k

  on : (k : ℕ) → on_border s k ≡ true → 3 ≡ mark_of s values k
  on k e = sym (ap (λ (t : Bool). cond t 3 (kind_of (value_at values k))) e)

  -- a row on the border
  pub edge-marked : (l ys : List ℕ) {n : ℕ} → n ≡ s.a → first + s.a ≤ length l → edge s r ≡ true → ys ≡ replicate s.a 3
      → Each 0 mark first (first + s.a) l (put_mid first n l ys)
  edge-marked l ys {n} q h e is =
      let len = ap length is ∙ length-replicate s.a 3 in
      subst (λ (m : ℕ). Each 0 mark first (first + s.a) l (put_mid first m l ys)) (sym q)
      (each_part 0 first s.a (first + s.a) l ys h refl len mark
      (λ k a.
      ap (λ (zs : List ℕ). get_or zs k 0) is ∙ get_or-replicate s.a k 3 0 a
      ∙ on (first + k) (row-edge s r e (first + k) (omega arith) (omega arith))))

  -- a row's ends, and what lies between
  pub row-marked : (l ys : List ℕ) {n last : ℕ} → 3 ≤ s.a → first + s.a ≤ length l → length l ≡ length values → edge s r ≡ false
      → n ≡ s.a - 2 → last ≡ first + s.a - 1 → ys ≡ map kind_of (take n (drop (first + 1) values))
      → Each 0 mark first (first + s.a) l (set (put_mid (first + 1) n (set l first 3) ys) last 3)
  row-marked l ys {n} {last} a-low h w e q u is =
      let l₁ = set l first 3 in
      let l₂ = put_mid (first + 1) n l₁ ys in
      let len₁ = length-set l first 3 in
      let room : first + 1 + n ≤ length l₁ = omega arith in
      let long : length ys ≡ n =
      ap length is ∙ length-map (take n (drop (first + 1) values)) kind_of ∙ length-take-le n (drop (first + 1) values)
      (omega (arith, length-drop (first + 1) values)) in
      let F : Each 0 mark first (first + 1) l l₁ =
      each-one mark first l 3 (omega arith) (on first (row_first s r (omega arith))) in
      let M : Each 0 mark (first + 1) (first + 1 + n) l₁ l₂ =
      each_part 0 (first + 1) n (first + 1 + n) l₁ ys room refl long mark between in
      let G : Each 0 mark last (last + 1) l₂ (set l₂ last 3) =
      each-one mark last l₂ 3 (omega (arith, M.len)) (on last (row_last s r last (omega arith) (omega arith))) in
      each-join 0 mark first (first + 1) (first + s.a) l l₁ (set l₂ last 3) (omega arith) (omega arith) F
      (each-join 0 mark (first + 1) (first + 1 + n) (first + s.a) l₁ l₂ (set l₂ last 3) (omega arith) (omega arith) M
      (subst₂ (λ (x y : ℕ). Each 0 mark x y l₂ (set l₂ last 3)) (let z : last ≡ first + 1 + n = omega arith in z)
      (let z : last + 1 ≡ first + s.a = omega arith in z) G))
    where
      between : (i : ℕ) → i < n → get_or ys i 0 ≡ mark_of s values (first + 1 + i)
      between i b =
          let k = first + 1 + i in
          let middle = row-middle s r e k (omega arith) (omega arith) in
          ap (λ (zs : List ℕ). get_or zs i 0) is
          ∙ get_or-map kind_of (take n (drop (first + 1) values)) i beyond 0
          (omega (arith, length-take-le n (drop (first + 1) values) (omega (arith, length-drop (first + 1) values))))
          ∙ ap kind_of (get_or-take n (drop (first + 1) values) i beyond (omega arith) ∙ get_or-drop (first + 1) values i beyond
          ∙ ap (value_at values) (let z : first + 1 + i ≡ k = omega arith in z))
          ∙ sym (ap (λ (t : Bool). cond t 3 (kind_of (value_at values k))) middle)
