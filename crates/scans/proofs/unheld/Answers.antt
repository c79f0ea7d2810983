-- `scans::unheld` meets its contract. The sign of the bits joined tells whether a distance so far is negative where it may not be.
use Rattle.std.proofs.Common.{◌≡◌, ◌<◌, ◌∙◌, ap, ap₂, sym, refl, subst, min, ℕ, ℤ, pos, arith, rules, length, get_or, of_z, w32, bit_or}
use denote.Ref.{Bor}
use mir.Val.{SFits}
use mir.Facts.{to_z-of_z}
use Rattle.std.proofs.lemmas.Slice.Zip.{zip_turn, zip_end}
use Rattle.std.proofs.lemmas.List.{length_push}
use Rattle.cells.specs.Groups.{any}
use Rattle.rules.specs.Grid.{range}
use Rattle.rules.specs.Machine.{is_inside}
use Rattle.scans.specs.Scans.{held_up, unheld_at}
use Rattle.prelude.proofs.Ranges.{any-run-none, scan-next}
use Rattle.prelude.proofs.Signs.{sign_bit, sign_read, high-joined}
use Rattle.scans.proofs.Borders.{sign-held-up}
use Rattle.scans.proofs.unheld.Goals as goal

pub loop-d-init : goal.loop-d-init
loop-d-init c = sym (any-run-none _ 0 0 refl)

pub loop-d-preserved : goal.loop-d-preserved
unfolding unheld_at is_inside
loop-d-preserved c =
    let dist = c.args.dist.now in
    let status = c.args.status.now in
    let i = length c.loop-d.yielded in
    let p : Bor ℤ × Bor ℕ = (c.in-Some.field-0-0, c.in-Some.field-0-1) in
    let t : (i < length dist) × (i < length status) × ((e : ℤ) → p.0.now ≡ get_or dist i e) × ((e : ℕ) → p.1.now ≡ get_or status i e) =
    zip_turn dist status c.loop-d.yielded c.into_iter-d-iterator.result c.loop-d.d-iterator c.next.new.self _ (cc) (cc) c.loop-d.yielded_by p c.in-Some.is c.next.ensures.steps in
    let all = c.loop-d.all-bits in
    let h = of_z w32 c.held_up-all.result in
    let fits : SFits w32 p.0.now = search rules in
    let distance-fits : SFits w32 (get_or dist i (pos 0)) = subst (λ (x : ℤ). SFits w32 x) (t.2 (pos 0)) fits in
    let e : c.held_up-all.result ≡ held_up (get_or dist i (pos 0)) (get_or status i 0) =
    c.held_up-all.ensures ∙ ap₂ held_up (to_z-of_z fits ∙ t.2 (pos 0)) (t.3 0) in
    sign_read (bit_or all h)
    ∙ high-joined 31 all h
    ∙ scan-next (unheld_at dist status) i (sign_bit all) (sign_bit h) (sym (sign_read all) ∙ c.loop-d.invariant)
    (ap (λ (x : ℤ). sign_bit (of_z w32 x)) e ∙ sign-held-up (get_or dist i (pos 0)) (get_or status i 0) distance-fits)
    ∙ ap (λ (n : ℕ). any (unheld_at dist status) (range 0 n)) (sym (length_push c.loop-d.yielded p))

pub returns : goal.returns
returns c =
    let dist = c.args.dist.now in
    let status = c.args.status.now in
    let n : length c.loop-d.yielded ≡ min (length dist) (length status) =
    zip_end dist status c.loop-d.yielded c.into_iter-d-iterator.result c.loop-d.d-iterator c.next.new.self _ (cc) (cc) c.loop-d.yielded_by c.in-None.is c.next.ensures.steps in
    let e : length c.loop-d.yielded ≡ length status = omega (arith, n, c.requires) in
    c.loop-d.invariant ∙ ap (λ (k : ℕ). any (unheld_at dist status) (range 0 k)) e
