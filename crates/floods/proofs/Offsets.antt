-- Neighbours by offsets: pushing them in turn, and which voxels they are.
use mathlib.Core.Path.{◌≡◌, refl, sym, ap, ap₂, ◌∙◌, subst}
use mathlib.Core.Bool.{true}
use mathlib.Core.List.{List, [], ◌∷◌, ◌++◌, map-append, flat_map}
use Prim.Native.Nat.{ℕ, zero, suc, ◌+◌, ◌-◌, ◌*◌, ◌≤◌, ◌<◌}
use native.Mathlib.Omega.{arith}
use native.Mathlib.Numerals.{add-one}
use lib.Dec.{eqb}
use lib.ListN.{length, get_or, drop, drop_of_length-le}
use lib.Seq.{drop-cons}
use borrow.Author.Tests.{eq-eqb, eqb-true}
use Rattle.prelude.proofs.Lists.{Mem, here, there, mem-left, mem-right, any-true, true-any}
use Rattle.prelude.proofs.Ranges.{mem-range}
use Rattle.cells.proofs.GroupsAre.{get_d-mem}
use Rattle.rules.specs.Grid.{range}
use Rattle.rules.proofs.InsideLeast.{mem-map}
use Rattle.pushing.specs.declared.Patch.{Patch}
use Rattle.pushing.specs.Push.{patch_at}
use Rattle.floods.specs.Flood.{shifted, spanned, near_by}

-- ---- one patch after the other

shifted-range : (base o n : ℕ) → shifted base (range o n) ≡ range (base + o) n
unfolding range
shifted-range base o zero = refl
shifted-range base o (suc n) =
    ap (λ (l : List ℕ). (base + o) ∷ l) (shifted-range base (suc o) n ∙ ap (λ (i : ℕ). range i n) (let e : base + suc o ≡ suc (base + o) = omega arith in e))

module _ (p : Patch) (base : ℕ) where
  shifted-rows : (o : ℕ) (rows : List ℕ)
      → shifted base (flat_map (λ r. range (o + r * p.step) p.wide) rows) ≡ flat_map (λ r. range (base + o + r * p.step) p.wide) rows
  unfolding flat_map
  shifted-rows o [] = refl
  shifted-rows o (r ∷ rows) =
      let e : base + (o + r * p.step) ≡ base + o + r * p.step = omega arith in
      map-append (λ o. base + o) (range (o + r * p.step) p.wide) (flat_map (λ r. range (o + r * p.step) p.wide) rows)
      ∙ ap₂ ◌++◌ (shifted-range base (o + r * p.step) p.wide ∙ ap (λ (i : ℕ). range i p.wide) e) (shifted-rows o rows)

  -- the patch at offset k, and the patches after it
  pub patches-next : (offsets : List ℕ) (k : ℕ) → k < length offsets
      → shifted base (spanned p (drop k offsets)) ≡ patch_at p (base + get_or offsets k 0) ++ shifted base (spanned p (drop (k + 1) offsets))
  unfolding flat_map
  patches-next offsets k h =
      ap (λ (l : List ℕ). shifted base (spanned p l)) (drop-cons offsets k 0 h)
      ∙ map-append (λ o. base + o) (patch_at p (get_or offsets k 0)) (spanned p (drop (suc k) offsets))
      ∙ ap₂ (λ (l : List ℕ) (n : ℕ). l ++ shifted base (spanned p (drop n offsets))) (shifted-rows (get_or offsets k 0) (range 0 p.rows)) (sym (add-one k))

  pub patches-none : (offsets : List ℕ) (k : ℕ) → length offsets ≤ k → shifted base (spanned p (drop k offsets)) ≡ []
  unfolding flat_map
  patches-none offsets k h = ap (λ (l : List ℕ). shifted base (spanned p l)) (drop_of_length-le offsets h)

-- ---- which voxels

module _ (offsets : List ℕ) (back : ℕ) where
  pub near-mem : (v j : ℕ) → near_by offsets back v j ≡ true → Mem j (shifted (v - back) offsets)
  unfolding near_by
  near-mem v j e =
      let w = any-true (eqb j) (shifted (v - back) offsets) e in
      subst (λ (x : ℕ). Mem x (shifted (v - back) offsets)) (sym (eqb-true j w.0 w.2)) w.1

  pub mem-near : (v j : ℕ) → Mem j (shifted (v - back) offsets) → near_by offsets back v j ≡ true
  unfolding near_by
  mem-near v j m = true-any (eqb j) (shifted (v - back) offsets) j m (eq-eqb j j refl)

pub offset_near : (offsets : List ℕ) (back v k : ℕ) → k < length offsets → near_by offsets back v (v - back + get_or offsets k 0) ≡ true
offset_near offsets back v k l = mem-near offsets back v _ (mem-map (λ o. v - back + o) offsets (get_or offsets k 0) (get_d-mem 0 offsets k l))

mem-flat : {A B : Type 0} (f : A → List B) {x : A} {xs : List A} {y : B} → Mem x xs → Mem y (f x) → Mem y (flat_map f xs)
unfolding flat_map
mem-flat f {x} {y = y} (here {xs = xs}) m = mem-left y (f x) (flat_map f xs) m
mem-flat f {y = y} (there {y = z} {xs = xs} i) m = mem-right y (f z) (flat_map f xs) (mem-flat f i m)

-- each voxel of a patch is a neighbour
pub patch-near : (p : Patch) (offsets : List ℕ) (back v k r t : ℕ) → k < length offsets → r < p.rows → t < p.wide
    → near_by (spanned p offsets) back v (v - back + (get_or offsets k 0 + r * p.step + t)) ≡ true
patch-near p offsets back v k r t l h g =
    let o = get_or offsets k 0 in
    let i = mem-range (o + r * p.step) p.wide (o + r * p.step + t) (omega arith) (omega arith) in
    let j = mem-flat (λ r. range (o + r * p.step) p.wide) (mem-range 0 p.rows r (omega arith) (omega arith)) i in
    mem-near (spanned p offsets) back v _
    (mem-map (λ o. v - back + o) (spanned p offsets) (o + r * p.step + t) (mem-flat (patch_at p) (get_d-mem 0 offsets k l) j))

-- patches of one voxel
abbrev pub single : Patch
single = record { wide = 1; rows = 1; step = 0 }

pub spanned-single : (offsets : List ℕ) → spanned single offsets ≡ offsets
unfolding flat_map range
spanned-single [] = refl
spanned-single (o ∷ offsets) = ap₂ ◌∷◌ (let e : o + 0 * 0 ≡ o = omega arith in e) (spanned-single offsets)
