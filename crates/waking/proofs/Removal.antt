-- A voxel set to gone, and the idle voxels around it woken: the removal of the rule.
use mathlib.Core.Path.{◌≡◌, sym, ap, ◌∙◌, subst, subst₂}
use mathlib.Core.Logic.{◌⊎◌, inl, inr}
use mathlib.Core.Bool.{Bool, true, false, not, cond, ◌&&◌}
use mathlib.Core.List.{List}
use Prim.Native.Nat.{ℕ, ◌+◌, ◌*◌, ◌/◌, ◌<◌}
use native.Mathlib.Omega.{arith}
use native.Mathlib.Decide.{ℕ_discrete}
use borrow.Author.Tests.{eq-eqb, ne_eqb, eqb-false}
use lib.Dec.{eqb}
use lib.ListN.{length, set, length-set}
use lib.Seq.{get_or-set_same, get_or-set_other}
use Rattle.prelude.proofs.Bools.{two, and-true, true-and, not-true}
use Rattle.prelude.proofs.Ranges.{is-map-range}
use Rattle.rules.specs.declared.Sides.{Sides}
use Rattle.rules.specs.Grid.{size, voxels, touch}
use Rattle.rules.specs.Status.{status_of, is_kept, is_pending, woken, removable, status_without, without}
use Rattle.bits.specs.Bits.{has, bits}
use Rattle.rules.specs.Neighbours.{Inner}
use Rattle.neighbourhood.specs.Neighbourhood.{first_around, around, offset, code_of}
use Rattle.neighbourhood.proofs.Interior.{around-apart, around-middle, around-touch, touch-around}
use Rattle.neighbourhood.proofs.Gathering.{code-kept, code-pending}
use Rattle.waking.specs.Waking.{idle_at, idle_bit, Woken, AtBits, from_voxel}
use Rattle.waking.proofs.Idle.{idle-position, position-idle}
use Rattle.status.proofs.Bytes.{pending-stays}

-- ---- the rule at a voxel

module _ (s : Sides) (free : ℕ → Bool) (status : List ℕ) (i j : ℕ) where
  abbrev wakes : Bool
  wakes = removable free status j && touch s i j

  abbrev rest : Bool → ℕ
  rest t = cond t (woken (status_of status j)) (status_of status j)

  pub without-self : j ≡ i → status_without s free status i j ≡ 0
  unfolding status_without
  without-self e = ap (λ (t : Bool). cond t 0 (rest wakes)) (eq-eqb j i e)

  module _ (n : j ≡ i → ⊥) where
    without_other : status_without s free status i j ≡ rest wakes
    unfolding status_without
    without_other = ap (λ (t : Bool). cond t 0 (rest wakes)) (ne_eqb j i n)

    pub without-near : is_kept status j ≡ true → free j ≡ true → touch s i j ≡ true → status_without s free status i j ≡ woken (status_of status j)
    unfolding removable
    without-near k f t = without_other ∙ ap rest (true-and (is_kept status j && free j) (touch s i j) (true-and (is_kept status j) (free j) k f) t)

    -- where it stays as it is unless it is to wake
    pub without-rest :
        ((is_kept status j ≡ true) → (free j ≡ true) → (touch s i j ≡ true) → woken (status_of status j) ≡ status_of status j)
        → status_without s free status i j ≡ status_of status j
    unfolding removable
    without-rest h =
        elim (two wakes) [
          | inl t ↦
              (let p = and-true (is_kept status j && free j) (touch s i j) t in
              let q = and-true (is_kept status j) (free j) p.0 in
              without_other ∙ ap rest t ∙ h q.0 q.1 p.1)
          | inr t ↦ without_other ∙ ap rest t
        ]

-- ---- all voxels

module _ (s : Sides) (free : ℕ → Bool) (status : List ℕ) (i : ℕ) (n : Inner s i) (l : length status ≡ size s) (idle : ℕ)
    (e : idle ≡ bits 54 (idle_bit (code_of s status i))) (after : List ℕ)
    (w : Woken (AtBits free idle (from_voxel s.a (s.a * s.b) (first_around s i))) (set status i 0) after) where
  abbrev code : ℕ
  code = code_of s status i

  -- an idle position
  at_position : (t : ℕ) → has idle t ≡ true → (t / 2 < 27) × (idle_at code (t / 2) ≡ true)
  at_position t h = idle-position code t (ap (λ (x : ℕ). has x t) (sym e) ∙ h)

  position_at : (p : ℕ) → p < 27 → idle_at code p ≡ true → has idle (2 * p) ≡ true
  position_at p h q = ap (λ (x : ℕ). has x (2 * p)) e ∙ position-idle code p h q

  here : status_of (set status i 0) i ≡ 0
  here = get_or-set_same status i 0 0 (subst (λ (m : ℕ). i < m) (sym l) n.below)

  abbrev Called : ℕ → Type 0
  Called = AtBits free idle (from_voxel s.a (s.a * s.b) (first_around s i))

  -- the middle is not called
  self-rests : (j : ℕ) → j ≡ i → Called j → ⊥
  unfolding around
  self-rests j q (t, h, f, g) =
      let p = at_position t h in
      let m : t / 2 ≡ 13 = around-apart s i n (t / 2) 13 p.0 (omega arith) (sym f ∙ q ∙ sym (around-middle s i n)) in
      let z = and-true (not (eqb (t / 2) 13)) _ p.1 in
      eqb-false (t / 2) 13 (not-true (eqb (t / 2) 13) z.0) m

  -- who is called is kept, may go and touches the voxel
  called-wakes : (j : ℕ) → (j ≡ i → ⊥) → Called j → status_without s free status i j ≡ woken (status_of status j)
  unfolding around
  called-wakes j m (t, h, f, g) =
      let p = at_position t h in
      let z = and-true (not (eqb (t / 2) 13)) _ p.1 in
      let k = and-true (has code (2 * (t / 2))) _ z.1 in
      let f' : j ≡ around s i (t / 2) = f in
      without-near s free status i j m (ap (is_kept status) f' ∙ sym (code-kept s status i (t / 2) p.0) ∙ k.0) g
      (ap (touch s i) f' ∙ around-touch s i n (t / 2) p.0)

  -- who is not called does not touch it, or may not go, or is pending
  others-rest : (j : ℕ) → (j ≡ i → ⊥) → (Called j → ⊥) → status_without s free status i j ≡ status_of status j
  unfolding around is_pending
  others-rest j m c = without-rest s free status i j m (λ k f t.
      let r = touch-around s i n j t in
      let p = r.0 in
      elim (two (is_pending status j)) [
        | inl q ↦ pending-stays (status_of status j) q
        | inr q ↦
            (let middle : p ≡ 13 → ⊥ = λ z. m (r.2 ∙ ap (around s i) z ∙ around-middle s i n) in
            let kept : has code (2 * p) ≡ true = code-kept s status i p r.1 ∙ ap (is_kept status) (sym r.2) ∙ k in
            let rests : has code (2 * p + 1) ≡ false = code-pending s status i p r.1 ∙ ap (is_pending status) (sym r.2) ∙ q in
            let a = true-and (not (eqb p 13)) _ (ap not (ne_eqb p 13 middle)) (true-and _ _ kept (ap not rests)) in
            let d : 2 * p / 2 ≡ p = omega arith in
            let b : j ≡ first_around s i + offset s.a (s.a * s.b) (2 * p / 2) = r.2 ∙ ap (around s i) (sym d) in
            absurd (c (2 * p, position_at p r.1 a, b, f)))
      ])

  removed-at : (j : ℕ) → status_of after j ≡ status_without s free status i j
  removed-at j = at (ℕ_discrete j i) (w.each j)
    where
      at : Dec (j ≡ i)
          → ((Called j) × (status_of after j ≡ woken (status_of (set status i 0) j))) ⊎ ((Called j → ⊥) × (status_of after j ≡ status_of (set status i 0) j))
          → status_of after j ≡ status_without s free status i j
      at (yes q) (inl p) = absurd (self-rests j q p.0)
      at (yes q) (inr p) = p.1 ∙ ap (status_of (set status i 0)) q ∙ here ∙ sym (without-self s free status i j q)
      at (no m) (inl p) = p.1 ∙ ap woken (get_or-set_other status i j 0 0 m) ∙ sym (called-wakes j m p.0)
      at (no m) (inr p) = p.1 ∙ get_or-set_other status i j 0 0 m ∙ sym (others-rest j m p.0)

  removed-is : after ≡ without s free status i
  unfolding without voxels
  removed-is = is-map-range (status_without s free status i) 0 (size s) after (w.same ∙ length-set status i 0 ∙ l) (λ j h. removed-at j)

-- the same, from what code holds in between
pub removed-from :
    (s : Sides) (free : ℕ → Bool) (status : List ℕ) (i : ℕ)
    → Inner s i
    → length status ≡ size s
    → {idle at : ℕ} {between after : List ℕ}
    → idle ≡ bits 54 (idle_bit (code_of s status i))
    → at ≡ first_around s i
    → between ≡ set status i 0
    → Woken (AtBits free idle (from_voxel s.a (s.a * s.b) at)) between after
    → after ≡ without s free status i
removed-from s free status i n l {idle} {at} {between} {after} e f g w =
    removed-is s free status i n l idle e after
    (subst₂ (λ (m : ℕ) (b : List ℕ). Woken (AtBits free idle (from_voxel s.a (s.a * s.b) m)) b after) f g w)
