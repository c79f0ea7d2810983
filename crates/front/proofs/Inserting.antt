-- A key is put in its place: at each step those before p are greater, and moved down by one.
use mathlib.Core.Path.{◌≡◌, refl, sym, ap, ◌∙◌}
use mathlib.Core.List.{List}
use Prim.Native.Nat.{ℕ, ◌+◌, ◌-◌, ◌≤◌, ◌<◌}
use native.Mathlib.Omega.{arith}
use native.Mathlib.Decide.{ℕ_discrete}
use lib.ListN.{length, get_or, set, length-set}
use lib.Seq.{get_or-set_same, get_or-set_other}
use Rattle.front.specs.Front.{Falling, Inserted}

pub record Moving (front0 front : List ℕ) (head w p : ℕ) : Type 0 where
  pub list : Falling front0 head
  pub same : length front ≡ length front0
  pub room : 1 ≤ head
  pub low : head ≤ p
  pub high : p ≤ list.end
  pub moved : (q : ℕ) → head ≤ q + 1 → q + 1 < p → get_or front q 0 ≡ get_or front0 (q + 1) 0
  pub rest : (q : ℕ) → p ≤ q → get_or front q 0 ≡ get_or front0 q 0
  pub greater : (q : ℕ) → head ≤ q → q < p → w < get_or front0 q 0

pub moving-start : (front : List ℕ) (head w : ℕ) → 1 ≤ head → Falling front head → Moving front front head w head
moving-start front head w h F =
    record {
      list = F;
      same = refl;
      room = h;
      low = omega arith;
      high = F.order;
      moved = λ q l u. let z : ⊥ = omega arith in absurd z;
      rest = λ q l. refl;
      greater = λ q l u. let z : ⊥ = omega arith in absurd z;
    }

module _ (front0 front : List ℕ) (head w p : ℕ) (M : Moving front0 front head w p) where
  -- the 0 is no greater than any
  moving-room : w < get_or front p 0 → p < M.list.end
  moving-room h =
      elim (ℕ_discrete p M.list.end) [
        | yes e ↦ (let z : ⊥ = omega (arith, M.rest p (omega arith), ap (λ (x : ℕ). get_or front0 x 0) e, M.list.ended) in absurd z)
        | no n ↦ omega (arith, M.high)
      ]

  pub moving-step : (v : ℕ) → v ≡ get_or front p 0 → w < v → Moving front0 (set front (p - 1) v) head w (p + 1)
  moving-step v e h =
      let own = M.rest p (omega arith) in
      let room = M.room in
      let low = M.low in
      let high = moving-room (omega arith) in
      let here = get_or-set_same front (p - 1) v 0 (omega (arith, M.same, M.list.room)) in
      record {
        list = M.list;
        same = length-set front (p - 1) v ∙ M.same;
        room = room;
        low = omega arith;
        high = omega arith;
        moved = λ q l u.
            elim (ℕ_discrete (q + 1) p) [
              | yes n ↦ (let z : q ≡ p - 1 = omega arith in
                  ap (λ (x : ℕ). get_or (set front (p - 1) v) x 0) z ∙ here ∙ e ∙ own ∙ ap (λ (x : ℕ). get_or front0 x 0) (sym n))
              | no n ↦ get_or-set_other front (p - 1) q v 0 (λ z. n (omega arith)) ∙ M.moved q l (omega arith)
            ];
        rest = λ q l. get_or-set_other front (p - 1) q v 0 (λ z. omega arith) ∙ M.rest q (omega arith);
        greater = λ q l u.
            elim (ℕ_discrete q p) [
              | yes n ↦ omega (arith, ap (λ (x : ℕ). get_or front0 x 0) n)
              | no n ↦ M.greater q l (omega arith)
            ];
      }

  pub moving-done : get_or front p 0 ≤ w → Inserted front0 (set front (p - 1) w) head w
  moving-done h =
      let room = M.room in
      let low = M.low in
      record {
        place = p;
        low = low;
        same = length-set front (p - 1) w ∙ M.same;
        moved = λ q l u. get_or-set_other front (p - 1) q w 0 (λ z. omega arith) ∙ M.moved q l u;
        here = λ q e. (let z : q ≡ p - 1 = omega arith in
            ap (λ (x : ℕ). get_or (set front (p - 1) w) x 0) z ∙ get_or-set_same front (p - 1) w 0 (omega (arith, M.same, M.list.room, M.high)));
        rest = λ q l. get_or-set_other front (p - 1) q w 0 (λ z. omega arith) ∙ M.rest q l;
        greater = M.greater;
        least = omega (arith, M.rest p (omega arith));
      }
