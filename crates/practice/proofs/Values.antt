-- The value of an s: from -1,000 to 1,000, and as the machine holds it.
use Rattle.std.proofs.Common.{◌≡◌, ℕ, suc, ◌-◌, ◌%◌, ◌^◌, ◌<◌, ◌≤◌, Bool, true, false, cond, ltb, ℤ, pos, negsuc, ◌-ℤ◌, nat_abs, sym, refl, ap, ◌∙◌, subst, arith, to_z-of_z, w32, SFits, to_z, of_z, ltb-false, ltb-true}
use mir.Facts.{to_z_pos}
use Rattle.practice.specs.Practice.{mixed, value_of}

less-thousand : (x : ℕ) → x ≤ 2000 → nat_abs (pos x -ℤ pos 1000) ≤ 1000
less-thousand x h = go (ltb x 1000) (ltb-true x 1000) (ltb-false x 1000)
  where
    go : (t : Bool) → (t ≡ true → x < 1000) → (t ≡ false → 1000 ≤ x) → nat_abs (cond t (negsuc (1000 - suc x)) (pos (x - 1000))) ≤ 1000
    go true low high = omega (arith, low refl)
    go false low high = omega (arith, high refl)

module _ (s : ℕ) where
  pub value-size : nat_abs (value_of s) ≤ 1000
  unfolding value_of
  value-size = less-thousand (mixed s % 2001) (omega arith)

  -- ---- in the machine's bits

  abbrev held : ℤ
  held = to_z w32 (mixed s % 2001) -ℤ pos 1000

  held-is : held ≡ value_of s
  unfolding value_of
  held-is = let h : mixed s % 2001 < 2 ^ 31 = omega arith in ap (λ (z : ℤ). z -ℤ pos 1000) (to_z_pos w32 h)

  pub held_fits : SFits w32 held
  held_fits = subst (λ (z : ℤ). SFits w32 z) (sym held-is) (fits (value_of s) value-size)
    where
      fits : (z : ℤ) → nat_abs z ≤ 1000 → SFits w32 z
      fits (pos n) h = record { sfits = let q : n < 2 ^ 31 = omega arith in q }
      fits (negsuc n) h = record { sfits = let q : n < 2 ^ 31 = omega arith in q }

  pub held-value : to_z w32 (of_z w32 held) ≡ value_of s
  held-value = to_z-of_z held_fits ∙ held-is
