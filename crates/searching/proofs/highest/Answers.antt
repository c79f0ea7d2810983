-- `searching::highest` meets its contract: the loop has the first stretch of the greatest height before voxel i.
use mathlib.Core.Path.{◌≡◌, refl, sym, ap, ◌∙◌, subst}
use Prim.Native.Nat.{ℕ, ◌+◌, ◌-◌}
use native.Mathlib.Omega.{arith}
use borrow.Author.Rules.{sfits_of, rules}
use lib.IntN.{ℤ, negsuc}
use lib.ListN.{length}
use mir.Facts.{to_z-of_z}
use Rattle.rules.specs.Marks.{marked}
use Rattle.searching.specs.Argmax.{key_at, held_of, Holding}
use Rattle.searching.proofs.Argmax.{holding-start, holding-step}
use mir.Syntax.{w32}
use Rattle.searching.proofs.highest.Goals as goal

pub overflow_add-first : goal.overflow_add-first
overflow_add-first c = let p = c.requires.0 in search rules

pub overflow_add-first-2 : goal.overflow_add-first-2
overflow_add-first-2 c = let p = c.requires.0 in search rules

pub overflow_sub-end : goal.overflow_sub-end
overflow_sub-end c = let p = c.requires.0 in omega (arith, p.ends)

pub loop-i-init : goal.loop-i-init
loop-i-init c =
    let a = c.args in
    let k = 1 + a.a + a.l in
    let f = key_at (marked a.marks.now) a.dist.now a.status.now a.a a.l in
    (refl, refl, omega arith, omega (arith, c.requires.0.ends), holding-start f k (record { height = negsuc 0; first = k; end = k }) refl refl refl)

pub greatest-requires : goal.greatest-requires
greatest-requires c =
    let p = c.requires in
    let y = p.0 in
    let v = c.loop-i.invariant in
    let t = c.loop-i-test.true in (
      record {
        one = y.one;
        row = y.row;
        low = omega (arith, v.0, v.2);
        order = omega (arith, c.min-e.ensures);
        high = omega (arith, v.0, v.1, v.3, c.min-e.ensures, y.ends);
      },
      p.1,
    )

pub loop-i-preserved : goal.loop-i-preserved
loop-i-preserved c =
    let a = c.args in
    let v = c.loop-i.invariant in
    let i = c.loop-i.i in
    let t = c.loop-i-test.true in
    let e = c.min-e.result in
    let k = 1 + a.a + a.l in
    let f = key_at (marked a.marks.now) a.dist.now a.status.now a.a a.l in (
      refl,
      refl,
      omega (arith, v.2, c.min-e.ensures, t),
      omega (arith, c.min-e.ensures),
      subst (Holding f k e) (sym (c.keep-best.ensures ∙ ap (λ (z : ℤ). held_of c.loop-i.best z i e) (to_z-of_z (sfits_of {w = w32} c.greatest.type_inv))))
          (holding-step f k i e c.greatest.result c.loop-i.best v.2 (omega (arith, c.min-e.ensures, t)) v.4 c.greatest.ensures),
    )

pub returns : goal.returns
returns c =
    let a = c.args in
    let v = c.loop-i.invariant in
    let k = 1 + a.a + a.l in
    let e : c.loop-i.i ≡ length a.status.now - k = omega (arith, v.0, v.1, v.3, c.loop-i-test.false) in
    subst (λ (n : ℕ). Holding (key_at (marked a.marks.now) a.dist.now a.status.now a.a a.l) k n c.loop-i.best) e v.4
