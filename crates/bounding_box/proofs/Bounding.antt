-- The box, row by row.
use mathlib.Core.Path.{◌≡◌, refl, sym, ap, ◌∙◌, subst}
use mathlib.Core.Logic.{inl, inr, ⊎_elim}
use mathlib.Core.List.{List}
use Prim.Native.Nat.{ℕ, ◌+◌, ◌-◌, ◌*◌, ◌/◌, ◌%◌, ◌≤◌, ◌<◌, min, max}
use native.Mathlib.Omega.{arith}
use lib.ListN.{get_or}
use Rattle.rules.specs.declared.Sides.{Sides}
use Rattle.rules.specs.Grid.{Voxel, size, voxel}
use Rattle.rules.proofs.Places.{fit, InGrid, voxel-in}
use Rattle.std.specs.Prelude.{Option, None, Some, MatchOption}
use Rattle.std.specs.Option.{unwrap_or}
use Rattle.loops.specs.Searches.{Absent, First, Last}
use Rattle.loops.proofs.Orders.{split}
use Rattle.loops.proofs.Rows.{row-voxel, rows_more, rows_all}
use Rattle.bounding_box.specs.declared.Bounds.{Bounds}
use Rattle.bounding_box.specs.Bounds.{widened_by, Widened, clear, taken, Reached, Spanned, Bounded, Enclosable, Enclosed}

-- ---- one axis

module _ (d : List ℕ) (coordinate : ℕ → ℕ) (side : ℕ) where
  spanned-none : Spanned d coordinate side 0 side 0
  spanned-none =
      record {
        above = λ k h. let z : ⊥ = omega arith in absurd z;
        below = λ k h. let z : ⊥ = omega arith in absurd z;
        lowest = inl refl;
        highest = inl refl;
      }

  later : (n m p q : ℕ) → n ≤ m → p ≡ q → Reached d coordinate n p → Reached d coordinate m q
  later n m p q h e r = record { reached = r.reached; below = omega (arith, r.below); listed = r.listed; stands = r.stands ∙ e }

  -- voxels that are none of S
  spanned-skip : (n m low high : ℕ) → n ≤ m → ((k : ℕ) → n ≤ k → k < m → get_or d k 0 ≡ 0 → ⊥) → Spanned d coordinate side n low high
      → Spanned d coordinate side m low high
  spanned-skip n m low high h none S =
      record {
        above = λ k l e. S.above k (earlier k l e) e;
        below = λ k l e. S.below k (earlier k l e) e;
        lowest = ⊎_elim inl (λ r. inr (later n m low low h refl r)) S.lowest;
        highest = ⊎_elim inl (λ r. inr (later n m high high h refl r)) S.highest;
      }
    where
      earlier : (k : ℕ) → k < m → get_or d k 0 ≡ 0 → k < n
      earlier k l e = ⊎_elim (λ g. absurd (none k g l e)) (λ g. g) (split n k)

  -- voxels of which those of S lie from lo to hi, with one at each end
  spanned-take : (n m low high lo hi : ℕ) → n ≤ m → lo < side
      → ((k : ℕ) → n ≤ k → k < m → get_or d k 0 ≡ 0 → (lo ≤ coordinate k) × (coordinate k ≤ hi))
      → Reached d coordinate m lo → Reached d coordinate m hi → Spanned d coordinate side n low high
      → Spanned d coordinate side m (min lo low) (max hi high)
  spanned-take n m low high lo hi h small each rl rh S =
      record {
        above = λ k l e. ⊎_elim (λ g. let w = (each k g l e).0 in omega arith) (λ g. let w = S.above k g e in omega arith) (split n k);
        below = λ k l e. ⊎_elim (λ g. let w = (each k g l e).1 in omega arith) (λ g. let w = S.below k g e in omega arith) (split n k);
        lowest = inr (⊎_elim
            (λ f. later m m lo (min lo low) (omega arith) (omega arith) rl)
            (λ f. ⊎_elim
            (λ e. let z : ⊥ = omega arith in absurd z)
            (λ r. later n m low (min lo low) h (omega arith) r)
            S.lowest)
            (split lo low));
        highest = inr (⊎_elim
            (λ f. later m m hi (max hi high) (omega arith) (omega arith) rh)
            (λ f. ⊎_elim
            (λ e. let z : ⊥ = omega arith in absurd z)
            (λ r. later n m high (max hi high) h (omega arith) r)
            S.highest)
            (split high hi));
      }

  -- where there is a voxel of S, both ends are reached
  module _ (n low high k : ℕ) (l : k < n) (e : get_or d k 0 ≡ 0) (S : Spanned d coordinate side n low high) where
    pub low-reached : coordinate k < side → Reached d coordinate n low
    low-reached h = ⊎_elim (λ q. let a = S.above k l e in let z : ⊥ = omega arith in absurd z) (λ r. r) S.lowest

    pub high-reached : Reached d coordinate n high
    high-reached =
        ⊎_elim
        (λ q. record { reached = k; below = l; listed = e; stands = let a = S.below k l e in let z : coordinate k ≡ high = omega arith in z })
        (λ r. r)
        S.highest

-- ---- three axes

pub bounded-none : (s : Sides) (d : List ℕ) → Bounded s d 0 (record { x0 = s.a; x1 = 0; y0 = s.b; y1 = 0; z0 = s.c; z1 = 0 })
bounded-none s d = record { x-spanned = spanned-none _ _ _; y-spanned = spanned-none _ _ _; z-spanned = spanned-none _ _ _ }

-- the last voxel of S is the last after the first, if there is one, and else the first
pub last_after : (d : List ℕ) (first end p q : ℕ) (r : Option ℕ) → First d 0 first end p
    → MatchOption r (Absent d 0 (p + 1) end) (λ i. Last d 0 (p + 1) end i) → q ≡ unwrap_or r p → Last d 0 first end q
last_after d first end p q None P none e =
    subst (Last d 0 first end) (sym e)
    (record { low = P.low; high = P.high; none_after = λ k l h z. none k (omega arith) h z; found = P.found })
last_after d first end p q (Some i) P L e =
    subst (Last d 0 first end) (sym e)
    (record { low = omega (arith, P.low, L.low); high = L.high; none_after = L.none_after; found = L.found })

-- a voxel of a row
module _ (s : Sides) (r : ℕ) where
  pub in_row : (k : ℕ) → s.a * r ≤ k → k < s.a * r + s.a → voxel s k ≡ record { x = k - s.a * r; y = r % s.b; z = r / s.b }
  in_row k l h = ap (voxel s) (let e : k ≡ s.a * r + (k - s.a * r) = omega arith in e) ∙ row-voxel s r (k - s.a * r) (omega arith)

module _ (s : Sides) (d : List ℕ) (r : ℕ) where
  reached-at : (coordinate : Voxel → ℕ) (k p : ℕ) → s.a * r ≤ k → k < s.a * r + s.a → get_or d k 0 ≡ 0
      → coordinate (record { x = k - s.a * r; y = r % s.b; z = r / s.b }) ≡ p
      → Reached d (λ j. coordinate (voxel s j)) (s.a * (r + 1)) p
  reached-at coordinate k p l h e q =
      record { reached = k; below = omega (arith, rows_more s.a r); listed = e; stands = ap coordinate (in_row s r k l h) ∙ q }

  module _ (b : Bounds) (B : Bounded s d (s.a * r) b) where
    bounded-clear : ((k : ℕ) → s.a * r ≤ k → k < s.a * r + s.a → get_or d k 0 ≡ 0 → ⊥) → Bounded s d (s.a * (r + 1)) b
    bounded-clear none =
        let up : s.a * r ≤ s.a * (r + 1) = omega (arith, rows_more s.a r) in
        let none' : (k : ℕ) → s.a * r ≤ k → k < s.a * (r + 1) → get_or d k 0 ≡ 0 → ⊥ = λ k l h. none k l (omega (arith, rows_more s.a r)) in
        record {
          x-spanned = spanned-skip _ _ _ _ _ _ _ up none' B.x-spanned;
          y-spanned = spanned-skip _ _ _ _ _ _ _ up none' B.y-spanned;
          z-spanned = spanned-skip _ _ _ _ _ _ _ up none' B.z-spanned;
        }

    module _ (p q : ℕ) (P : First d 0 (s.a * r) (s.a * r + s.a) p) (Q : Last d 0 (s.a * r) (s.a * r + s.a) q) where
      -- along an axis on which the row's voxels of S lie from lo to hi
      axis : (coordinate : Voxel → ℕ) (side low high lo hi : ℕ) → lo < side
          → ((k : ℕ) → s.a * r ≤ k → k < s.a * r + s.a → get_or d k 0 ≡ 0
          → (lo ≤ coordinate (record { x = k - s.a * r; y = r % s.b; z = r / s.b }))
          × (coordinate (record { x = k - s.a * r; y = r % s.b; z = r / s.b }) ≤ hi))
          → coordinate (record { x = p - s.a * r; y = r % s.b; z = r / s.b }) ≡ lo
          → coordinate (record { x = q - s.a * r; y = r % s.b; z = r / s.b }) ≡ hi
          → Spanned d (λ j. coordinate (voxel s j)) side (s.a * r) low high
          → Spanned d (λ j. coordinate (voxel s j)) side (s.a * (r + 1)) (min lo low) (max hi high)
      axis coordinate side low high lo hi small each el eh S =
          spanned-take d (λ j. coordinate (voxel s j)) side (s.a * r) (s.a * (r + 1)) low high lo hi (omega (arith, rows_more s.a r)) small
          (λ k l h e.
          let h' : k < s.a * r + s.a = omega (arith, rows_more s.a r) in
          subst (λ (v : Voxel). (lo ≤ coordinate v) × (coordinate v ≤ hi)) (sym (in_row s r k l h')) (each k l h' e))
          (reached-at coordinate p lo P.low P.high P.found el)
          (reached-at coordinate q hi Q.low Q.high Q.found eh) S

      bounded-taken : r % s.b < s.b → r / s.b < s.c
          → Bounded s d (s.a * (r + 1)) (widened_by b (p - s.a * r) (q - s.a * r) (r % s.b) (r / s.b))
      bounded-taken hy hz =
          record {
            x-spanned = axis (λ v. v.x) s.a _ _ (p - s.a * r) (q - s.a * r) (omega (arith, P.low, P.high))
                (λ k l h e. (from_low k l h e, to_high k l h e)) refl refl B.x-spanned;
            y-spanned = axis (λ v. v.y) s.b _ _ (r % s.b) (r % s.b) hy (λ k l h e. (omega arith, omega arith)) refl refl B.y-spanned;
            z-spanned = axis (λ v. v.z) s.c _ _ (r / s.b) (r / s.b) hz (λ k l h e. (omega arith, omega arith)) refl refl B.z-spanned;
          }
        where
          from_low : (k : ℕ) → s.a * r ≤ k → k < s.a * r + s.a → get_or d k 0 ≡ 0 → p - s.a * r ≤ k - s.a * r
          from_low k l h e = ⊎_elim (λ g. omega arith) (λ g. absurd (P.none_before k l g e)) (split p k)

          to_high : (k : ℕ) → s.a * r ≤ k → k < s.a * r + s.a → get_or d k 0 ≡ 0 → k - s.a * r ≤ q - s.a * r
          to_high k l h e = ⊎_elim (λ g. omega arith) (λ g. absurd (Q.none_after k g h e)) (split k q)

  pub bounded-more : (b b' : Bounds) → Bounded s d (s.a * r) b → r % s.b < s.b → r / s.b < s.c → Widened s d r b b' → Bounded s d (s.a * (r + 1)) b'
  bounded-more b b' B hy hz (clear none e) = subst (Bounded s d (s.a * (r + 1))) (sym e) (bounded-clear b B none)
  bounded-more b b' B hy hz (taken p q P Q e) = subst (Bounded s d (s.a * (r + 1))) (sym e) (bounded-taken b B p q P Q hy hz)

-- all rows
pub bounded-all : (s : Sides) (d : List ℕ) (r : ℕ) (b : Bounds) → Enclosable s d → r ≡ s.b * s.c → Bounded s d (s.a * r) b → Enclosed s d b
bounded-all s d r b E e B₀ =
    let B = subst (λ (n : ℕ). Bounded s d n b) (ap (λ (k : ℕ). s.a * k) e ∙ rows_all s) B₀ in
    let F = fit s E.fit in
    let in-grid : (k : ℕ) → k < size s → InGrid s (voxel s k) = λ k h. voxel-in s k (omega (arith, F.a-low)) (omega (arith, F.b-low)) h in
    let k = E.some in
    let lx = B.x-spanned.above k E.some_in E.some-listed in
    let hx = B.x-spanned.below k E.some_in E.some-listed in
    let x = high-reached d _ s.a _ _ _ k E.some_in E.some-listed B.x-spanned in
    let y = high-reached d _ s.b _ _ _ k E.some_in E.some-listed B.y-spanned in
    let z = high-reached d _ s.c _ _ _ k E.some_in E.some-listed B.z-spanned in
    record {
      bounded = B;
      proper =
          record {
            x-order = omega arith;
            x-in = omega (arith, x.stands, (in-grid x.reached x.below).x-in);
            y-in = omega (arith, y.stands, (in-grid y.reached y.below).y-in);
            z-in = omega (arith, z.stands, (in-grid z.reached z.below).z-in);
          };
    }
