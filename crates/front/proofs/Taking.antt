-- The bits of a stretch one after the other: keys above the floor make a falling list, and the greatest of the others is found.
use mathlib.Core.Path.{◌≡◌, refl, sym, ap, ◌∙◌, subst}
use mathlib.Core.Bool.{Bool, true, false, cond}
use mathlib.Core.List.{List}
use Prim.Native.Nat.{ℕ, ◌+◌, ◌-◌, ◌*◌, ◌/◌, ◌≤◌, ◌<◌, max}
use native.Mathlib.Omega.{arith}
use native.Mathlib.Decide.{ℕ_discrete, dec_lt}
use borrow.Author.Tests.{lt-ltb, le-ltb, ltb-true, ltb-false}
use lib.Bits.{bit_and}
use lib.Dec.{ltb}
use lib.ListN.{length, get_or, set, length-set}
use lib.Seq.{get_or-set_same, get_or-set_other}
use Rattle.bits.specs.Bits.{has}
use Rattle.bits.specs.Lowest.{Lowest}
use Rattle.keys.specs.Key.{greatest, width, stretch_key}
use Rattle.keys.proofs.Greatest.{greatest-none, greatest-lift, greatest-moved}
use Rattle.masks.proofs.Crossing.{has-none}
use Rattle.keys.proofs.Scanning.{left_over}
use Rattle.front.specs.Front.{lead, up_to, Parted}

-- a key is taken from those that are left
taken-over : (k r n x y t : ℕ) → max k x ≡ t → x ≡ max y r → max k r ≡ n → max n y ≡ t
taken-over k r n x y t e f g = omega arith

module _ (key : ℕ → ℕ) (floor j : ℕ) where
  pub up-to-as : (b : Bool) → ltb floor (key j) ≡ b → up_to floor key j ≡ cond b 0 (key j)
  unfolding up_to
  up-to-as b e = ap (λ (t : Bool). cond t 0 (key j)) e

  pub up-to-above : floor < key j → up_to floor key j ≡ 0
  up-to-above h = up-to-as true (lt-ltb floor (key j) h)

  pub up-to-below : key j ≤ floor → up_to floor key j ≡ key j
  up-to-below h = up-to-as false (le-ltb floor (key j) h)

  -- none is above the bound, and one that is there is the key
  pub up-to-low : up_to floor key j ≤ floor
  up-to-low =
      elim (dec_lt floor (key j)) [ yes h ↦ omega (arith, up-to-above h) | no h ↦ omega (arith, up-to-below (omega arith)) ]

  pub up-to-some : 0 < up_to floor key j → up_to floor key j ≡ key j
  up-to-some p =
      elim (dec_lt floor (key j)) [
        | yes h ↦ (let z : ⊥ = omega (arith, up-to-above h) in absurd z)
        | no h ↦ up-to-below (omega arith)
      ]

-- for any key; of stretch k, above the floor, they fall with the index
module _ (key : ℕ → ℕ) (k floor : ℕ)
    (order : (i j : ℕ) → i < j → i / width ≡ k → j / width ≡ k → floor < key i → floor < key j → key j < key i)
  where
    abbrev at : ℕ → ℕ
    at t = width * k + t

    -- what the bits that are left come to
    abbrev left : ℕ → ℕ → ℕ
    left m t = cond (has m t) (up_to floor key (at t)) 0

    left_as : (m t : ℕ) (b : Bool) → has m t ≡ b → left m t ≡ cond b (up_to floor key (at t)) 0
    left_as m t b e = ap (λ (b : Bool). cond b (up_to floor key (at t)) 0) e

    pub record Taking (front0 front : List ℕ) (e g m : ℕ) : Type 0 where
      pub same : length front ≡ length front0
      pub low : lead ≤ e
      pub high : e ≤ lead + width
      pub early : (t : ℕ) → has m t ≡ true → e ≤ lead + t
      pub some : (t : ℕ) → t < width → has m t ≡ true → 0 < key (at t)
      pub falls : (p q : ℕ) → lead ≤ p → p < q → q < e → get_or front q 0 < get_or front p 0
      pub own : (p : ℕ) → lead ≤ p → p < e
          → (u : ℕ) × (u < width) × ((t : ℕ) → has m t ≡ true → u < t) × (floor < key (at u)) × (get_or front p 0 ≡ key (at u))
      pub all : (u : ℕ) → u < width → has m u ≡ false → floor < key (at u) → (p : ℕ) × (lead ≤ p) × (p < e) × (get_or front p 0 ≡ key (at u))
      pub total : max g (greatest (left m) 0 width) ≡ stretch_key (up_to floor key) k

    -- the bits are those of the voxels with a key
    pub taking-start :
        (front : List ℕ) (set : ℕ) → ((t : ℕ) → t < width → has set t ≡ true → 0 < key (at t))
        → ((t : ℕ) → t < width → has set t ≡ false → key (at t) ≡ 0) → Taking front front lead 0 set
    unfolding stretch_key
    taking-start front set on off =
        record {
          same = refl;
          low = omega arith;
          high = omega arith;
          early = λ t h. omega arith;
          some = on;
          falls = λ p q l b u. let z : ⊥ = omega arith in absurd z;
          own = λ p l u. let z : ⊥ = omega arith in absurd z;
          all = λ u h f l. let z : ⊥ = omega (arith, off u h f) in absurd z;
          total = omega (
            arith,
            greatest-moved (left set) (up_to floor key) (width * k) 0 width (λ t l u. shown t (omega arith) (has set t) refl),
            ap (λ (x : ℕ). greatest (up_to floor key) x width) from,
          );
        }
      where
        from : width * k + 0 ≡ width * k
        from = omega arith

        shown : (t : ℕ) → t < width → (b : Bool) → has set t ≡ b → left set t ≡ up_to floor key (at t)
        shown t h true e = left_as set t true e
        shown t h false e = let z = off t h e in left_as set t false e ∙ sym (up-to-below key floor (at t) (omega arith) ∙ z)

    module _ (front0 front : List ℕ) (e g m t : ℕ) (T : Taking front0 front e g m) (L : Lowest m t) where
      taking-room : e ≤ lead + t
      taking-room = T.early t L.here

      module _ (room : lead + width < length front0) (x v h : ℕ) (own : x ≡ key (at t)) (next : v ≡ e + cond (ltb floor x) 1 0)
          (best : h ≡ max g (cond (ltb floor x) 0 x))
        where
          pub taking_step : Taking front0 (set front e x) v h (bit_and m (m - 1))
          taking_step = go (ltb floor x) refl
            where
              after : List ℕ
              after = set front e x

              m1 : ℕ
              m1 = bit_and m (m - 1)

              here : get_or after e 0 ≡ x
              here = get_or-set_same front e x 0 (omega (arith, T.same, taking-room, L.below))

              other : (p : ℕ) → p < e → get_or after p 0 ≡ get_or front p 0
              other p u = get_or-set_other front e p x 0 (λ z. omega arith)

              falls : (p q : ℕ) → lead ≤ p → p < q → q < e → get_or after q 0 < get_or after p 0
              falls p q l b u = omega (arith, T.falls p q l b u, other p (omega arith), other q u)

              owns : (p : ℕ) → lead ≤ p → p < e
                  → (u : ℕ) × (u < width) × ((c : ℕ) → has m1 c ≡ true → u < c) × (floor < key (at u)) × (get_or after p 0 ≡ key (at u))
              owns p l u = let w = T.own p l u in (w.0, w.1, λ c s. w.2 c (left_over m t c L s).0, w.3, other p u ∙ w.4)

              alls : (u : ℕ) → u < width → (u ≡ t → ⊥) → has m1 u ≡ false → floor < key (at u)
                  → (p : ℕ) × (lead ≤ p) × (p < e) × (get_or after p 0 ≡ key (at u))
              alls u b n f l = let w = T.all u b (sym (L.others u n) ∙ f) l in (w.0, w.1, w.2, other w.0 w.2 ∙ w.3)

              total : (b : Bool) → ltb floor x ≡ b → max h (greatest (left m1) 0 width) ≡ stretch_key (up_to floor key) k
              total b s =
                  taken-over g (left m t) h _ _ _ T.total
                  (greatest-lift (left m1) (left m) 0 width t (omega arith) (omega (arith, L.below)) (left_as m1 t false L.gone)
                  (λ c n. left_as m1 c (has m c) (L.others c n)))
                  (ap (max g) (left_as m t true L.here ∙ up-to-as key floor (at t) b (ap (ltb floor) (sym own) ∙ s) ∙ ap (cond b 0) (sym own))
                  ∙ sym (best ∙ ap (λ (y : Bool). max g (cond y 0 x)) s))

              go : (b : Bool) → ltb floor x ≡ b → Taking front0 after v h m1
              go true s =
                  let up = ltb-true floor x s in
                  let n : v ≡ e + 1 = next ∙ ap (λ (b : Bool). e + cond b 1 0) s in
                  let low = T.low in
                  subst (λ (v : ℕ). Taking front0 after v h m1) (sym n) (
                  record {
                    same = length-set front e x ∙ T.same;
                    low = omega arith;
                    high = omega (arith, taking-room, L.below);
                    early = λ c r. omega (arith, taking-room, (left_over m t c L r).1);
                    some = λ c u r. T.some c u (left_over m t c L r).0;
                    falls = λ p q l b u.
                        elim (ℕ_discrete q e) [
                          | yes z ↦ (
                              let w = T.own p l (omega arith) in
                              let d = w.2 t L.here in
                              let f = order (at w.0) (at t) (omega arith) (omega (arith, w.1)) (omega (arith, L.below)) w.3 (omega arith) in
                              omega (arith, here, ap (λ (y : ℕ). get_or after y 0) z, other p (omega arith), w.4)
                              )
                          | no z ↦ falls p q l b (omega arith)
                        ];
                    own = λ p l u.
                        elim (ℕ_discrete p e) [
                          | yes z ↦ (t, L.below, λ c r. (left_over m t c L r).1, omega arith, ap (λ (y : ℕ). get_or after y 0) z ∙ here ∙ own)
                          | no z ↦ owns p l (omega arith)
                        ];
                    all = λ u b f l.
                        elim (ℕ_discrete u t) [
                          | yes z ↦ (e, T.low, omega arith, here ∙ own ∙ ap (λ (y : ℕ). key (at y)) (sym z))
                          | no z ↦ (let w = alls u b z f l in let i = w.2 in (w.0, w.1, omega arith, w.3))
                        ];
                    total = total true s;
                  }
                  )
              go false s =
                  let down = ltb-false floor x s in
                  let n : v ≡ e = next ∙ ap (λ (b : Bool). e + cond b 1 0) s ∙ omega arith in
                  subst (λ (v : ℕ). Taking front0 after v h m1) (sym n) (
                  record {
                    same = length-set front e x ∙ T.same;
                    low = T.low;
                    high = T.high;
                    early = λ c r. T.early c (left_over m t c L r).0;
                    some = λ c u r. T.some c u (left_over m t c L r).0;
                    falls = falls;
                    own = owns;
                    all = λ u b f l.
                        elim (ℕ_discrete u t) [
                          | yes z ↦ (let i = ap (λ (y : ℕ). key (at y)) z in let y : ⊥ = omega arith in absurd y)
                          | no z ↦ alls u b z f l
                        ];
                    total = total false s;
                  }
                  )

    pub taking-done :
        (front0 front : List ℕ) (e g m : ℕ) → lead + width < length front0 → m ≡ 0 → Taking front0 front e g m → Parted key (set front e 0) k floor g
    taking-done front0 front e g m room z T =
        let none : (t : ℕ) → has m t ≡ false = λ t. ap (λ (x : ℕ). has x t) z ∙ has-none t in
        record {
          list =
              record {
                end = e;
                order = T.low;
                room = omega (arith, T.same, T.high, length-set front e 0);
                ended = ended;
                falls = λ p q l b u.
                    elim (ℕ_discrete q e) [
                      | yes n ↦ (
                          let w = T.own p l (omega arith) in
                          omega (arith, ended, ap (λ (y : ℕ). get_or (set front e 0) y 0) n, other p (omega arith), w.3, w.4)
                          )
                      | no n ↦ omega (arith, T.falls p q l b (omega arith), other p (omega arith), other q (omega arith))
                    ];
              };
          own = λ p l u. (let w = T.own p l u in (at w.0, w.3, other p u ∙ w.4));
          all = λ j s l. (
              let u : ℕ = j - width * k in
              let i : j ≡ width * k + u = omega arith in
              let w = T.all u (omega arith) (none u) (subst (λ (y : ℕ). floor < key y) i l) in
              (w.0, w.1, w.2, other w.0 w.2 ∙ w.3 ∙ ap key (sym i))
              );
          greatest = omega (arith, T.total, greatest-none (left m) 0 width (λ t l. left_as m t false (none t)));
        }
      where
        ended : get_or (set front e 0) e 0 ≡ 0
        ended = get_or-set_same front e 0 0 (omega (arith, T.same, T.high))

        other : (p : ℕ) → p < e → get_or (set front e 0) p 0 ≡ get_or front p 0
        other p u = get_or-set_other front e p 0 0 (λ z. omega arith)
