-- The offset of a stretch's best voxel, for any key that names its voxel.
use mathlib.Core.Path.{◌≡◌, sym, ap, ◌∙◌, subst}
use mathlib.Core.Logic.{◌⊎◌, inl, inr}
use mathlib.Core.List.{List}
use Prim.Native.Nat.{ℕ, ◌+◌, ◌*◌, ◌%◌, ◌≤◌, ◌<◌}
use native.Mathlib.Omega.{arith}
use native.Mathlib.Decide.{ℕ_discrete}
use borrow.Author.Tests.{ne_eqb}
use lib.ListN.{length, get_or, set}
use lib.Seq.{get_or-set_same, get_or-set_other}
use Rattle.keys.specs.Key.{voxel_of, width, stretch_key}
use Rattle.keys.proofs.Greatest.{greatest-of}
use Rattle.offsets.specs.Offsets.{offset_of, Offset}

-- what stands at m after a change at i
pub at_set :
    (P : ℕ → Type 0) (t : List ℕ) (i v m : ℕ) → i < length t → (m ≡ i → P v) → ((m ≡ i → ⊥) → P (get_or t m 0))
    → P (get_or (set t i v) m 0)
at_set P t i v m h f g =
    elim (ℕ_discrete m i) [
      | yes e ↦ subst P (sym (ap (λ (x : ℕ). get_or (set t i v) x 0) e ∙ get_or-set_same t i v 0 h)) (f e)
      | no n ↦ subst P (sym (get_or-set_other t i m v 0 n)) (g n)
    ]

-- ---- offsets

pub offset-none : (w : ℕ) → w ≡ 0 → offset_of w ≡ width
unfolding offset_of
offset-none w e = rw e

pub offset-some : (w : ℕ) → (w ≡ 0 → ⊥) → offset_of w ≡ voxel_of w % width
unfolding offset_of
offset-some w n = rw (ne_eqb w 0 n)

-- the key of a voxel says which voxel it is
abbrev pub Named : (ℕ → ℕ) → Type 0
Named key = (j : ℕ) → 0 < key j → voxel_of (key j) ≡ j

module _ (key : ℕ → ℕ) (k : ℕ) where
  pub stretch-of :
      (stretch_key key k ≡ 0) ⊎ ((j : ℕ) × (width * k ≤ j) × (j < width * k + width) × (stretch_key key k ≡ key j))
  unfolding stretch_key
  stretch-of = greatest-of key (width * k) width

  offset-off : (o : ℕ) → o ≡ width → stretch_key key k ≡ 0 → Offset key k o
  offset-off o e z =
      record {
        high = omega arith;
        off = λ h. z;
        on = λ h. let b : ⊥ = omega arith in absurd b;
        some = λ h. let b : ⊥ = omega arith in absurd b;
      }

  pub offset-on : (o j : ℕ) → width * k + o ≡ j → o < width → stretch_key key k ≡ key j → 0 < key j → Offset key k o
  offset-on o j e h q p =
      record {
        high = omega arith;
        off = λ z. let b : ⊥ = omega arith in absurd b;
        on = λ z. q ∙ ap key (sym e);
        some = λ z. omega arith;
      }

  pub offset_made : Named key → (w o : ℕ) → w ≡ stretch_key key k → o ≡ offset_of w → Offset key k o
  offset_made named w o e q = go (ℕ_discrete (stretch_key key k) 0) stretch-of
    where
      go :
          Dec (stretch_key key k ≡ 0)
          → (stretch_key key k ≡ 0) ⊎ ((j : ℕ) × (width * k ≤ j) × (j < width * k + width) × (stretch_key key k ≡ key j))
          → Offset key k o
      go (yes z) s = offset-off o (q ∙ offset-none w (e ∙ z)) z
      go (no n) (inl z) = absurd (n z)
      go (no n) (inr s) =
          let j = s.0 in
          let l = s.1 in
          let u = s.2 in
          let p : 0 < key j = omega (arith, s.3) in
          let v = ap voxel_of (e ∙ s.3) ∙ named j p in
          let r = q ∙ offset-some w (λ z. n (sym e ∙ z)) ∙ ap (λ (x : ℕ). x % width) v in
          offset-on o j (omega arith) (omega arith) s.3 p

  -- .. and for another key, if neither the stretch's greatest changes nor the voxel's that has it
  pub offset-same :
      (later : ℕ → ℕ) (o : ℕ) → stretch_key later k ≡ stretch_key key k
      → (o < width → 0 < key (width * k + o) → later (width * k + o) ≡ key (width * k + o))
      → Offset key k o → Offset later k o
  offset-same later o e same O =
      record {
        high = O.high;
        off = λ h. e ∙ O.off h;
        on = λ h. (let q = O.on h in e ∙ q ∙ sym (same h (omega (arith, O.some h))));
        some = λ h. omega (arith, O.some h);
      }
