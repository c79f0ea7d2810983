-- `greatest`: M over the voxels so far.
use Rattle.std.proofs.Common.{◌≡◌, ◌≤◌, ◌<◌, ◌+◌, ◌∙◌, ap, ap₂, sym, refl, subst, min, ℕ, ℤ, [], ◌∷◌, ◌++◌, pos, cond, eqb, max, arith, rules, length, get_or, to_z, of_z, w32}
use denote.Ref.{Bor}
use mir.Val.{SFits}
use mir.Facts.{to_z-of_z}
use Rattle.std.proofs.lemmas.Slice.Zip.{zip_turn, zip_end}
use Rattle.std.proofs.lemmas.List.{length_push}
use Rattle.cells.specs.Groups.{filter}
use Rattle.rules.proofs.Fit.{none-stray}
use Rattle.rules.specs.Grid.{range, amount, missing, value_at}
use Rattle.rules.specs.Begin.{greatest}
use Rattle.values.specs.Values.{counts, greatest_by}
use Rattle.values.proofs.Signs.{most, raised, in-range}
use Rattle.loops.proofs.Below.{greatest-more}
use Rattle.values.proofs.greatest.Goals as goal

pub loop-v-init : goal.loop-v-init
unfolding range filter greatest
loop-v-init c = (omega arith, refl)

pub loop-v-preserved : goal.loop-v-preserved
loop-v-preserved c =
    let values = c.args.values.now in
    let d = c.args.d.now in
    let i = length c.loop-v.yielded in
    let p : Bor ℤ × Bor ℕ = (c.in-Some.field-0-0, c.in-Some.field-0-1) in
    let t : (i < length values) × (i < length d) × ((e : ℤ) → p.0.now ≡ get_or values i e) × ((e : ℕ) → p.1.now ≡ get_or d i e) =
    zip_turn values d c.loop-v.yielded c.into_iter-v-iterator.result c.loop-v.v-iterator c.next.new.self _ (cc) (cc) c.loop-v.yielded_by p c.in-Some.is c.next.ensures.steps in
    let x = value_at values i in
    let g = counts values d i in
    let so_far = most values d i in
    let fits : SFits w32 p.0.now = search rules in
    let v-at : to_z w32 (of_z w32 p.0.now) ≡ x = to_z-of_z fits ∙ t.2 missing in
    let steps-at : p.1.now ≡ get_or d i 0 = t.3 0 in
    let part-fits : SFits w32 c.beside.result = search rules in
    let part-is : to_z w32 (of_z w32 c.beside.result) ≡ cond (eqb (get_or d i 0) 1) x (pos 0) =
    to_z-of_z part-fits ∙ c.beside.ensures ∙ ap₂ (λ (v : ℤ) (k : ℕ). cond (eqb k 1) v (pos 0)) v-at steps-at in
    let m-is : c.max-m.result ≡ pos (cond g (max (amount x) so_far) so_far) =
    raised (get_or d i 0) x c.loop-v.invariant.1 c.max-m.ensures.value part-is in
    let more : most values d (i + 1) ≡ cond g (max (amount x) so_far) so_far = greatest-more (λ k. amount (value_at values k)) (counts values d) 1 i in
    let n : length (c.loop-v.yielded ++ p ∷ []) ≡ i + 1 = length_push c.loop-v.yielded p in
    let low : most values d (i + 1) ≤ 1000000000 =
    subst (λ (m : ℕ). m ≤ 1000000000) (sym more) (in-range g x (none-stray values c.requires.1 i) c.loop-v.invariant.0) in
    let m-fits : SFits w32 c.max-m.result = search rules in
    subst (λ (k : ℕ). (most values d k ≤ 1000000000) × (to_z w32 (of_z w32 c.max-m.result) ≡ pos (most values d k))) (sym n)
    (low, to_z-of_z m-fits ∙ m-is ∙ ap pos (sym more))

pub returns : goal.returns
unfolding greatest_by
returns c =
    let values = c.args.values.now in
    let d = c.args.d.now in
    let n : length c.loop-v.yielded ≡ min (length values) (length d) =
    zip_end values d c.loop-v.yielded c.into_iter-v-iterator.result c.loop-v.v-iterator c.next.new.self _ (cc) (cc) c.loop-v.yielded_by c.in-None.is c.next.ensures.steps in
    let e : length c.loop-v.yielded ≡ length values = omega (arith, n, c.requires.0) in
    let most-is : most values d (length c.loop-v.yielded) ≡ greatest_by values d = ap (most values d) e in
    rw c.loop-v.invariant.1 (most-is, c.loop-v.invariant.0)
