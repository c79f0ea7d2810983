-- `scans::used_row` meets its contract: a row on the border whole, otherwise its two ends.
use mathlib.Core.Path.{ap, ◌∙◌}
use native.Mathlib.Omega.{arith}
use Prim.Native.Nat.{ℕ, ◌+◌, ◌-◌, ◌*◌}
use lib.ListN.{length}
use Rattle.cells.specs.Groups.{any}
use Rattle.rules.specs.Grid.{range}
use Rattle.scans.specs.Scans.{used_at}
use Rattle.scans.proofs.Borders.{row_in, used-on-border, used-ends}
use Rattle.scans.proofs.used_row.Goals as goal

pub overflow_mul-first : goal.overflow_mul-first
overflow_mul-first c =
    let a = c.args in
    let r = row_in a.s a.y a.z c.requires.1 (length a.status.now) c.requires.0 c.requires.2 in
    record { fits = omega arith }

pub overflow_add-first : goal.overflow_add-first
overflow_add-first c =
    let a = c.args in
    let r = row_in a.s a.y a.z c.requires.1 (length a.status.now) c.requires.0 c.requires.2 in
    record { fits = omega arith }

pub overflow_mul-first-2 : goal.overflow_mul-first-2
overflow_mul-first-2 c =
    let a = c.args in
    let r = row_in a.s a.y a.z c.requires.1 (length a.status.now) c.requires.0 c.requires.2 in
    record { fits = omega arith }

pub overflow_add-end : goal.overflow_add-end
overflow_add-end c =
    let a = c.args in
    let r = row_in a.s a.y a.z c.requires.1 (length a.status.now) c.requires.0 c.requires.2 in
    record { fits = omega arith }

pub used_span-requires : goal.used_span-requires
used_span-requires c =
    let a = c.args in
    let r = row_in a.s a.y a.z c.requires.1 (length a.status.now) c.requires.0 c.requires.2 in
    (omega arith, omega arith)

pub returns-then-y-s : goal.returns-then-y-s
returns-then-y-s c =
    let a = c.args in
    let r = row_in a.s a.y a.z c.requires.1 (length a.status.now) c.requires.0 c.requires.2 in
    c.used_span.ensures
    ∙ ap (λ (n : ℕ). any (used_at a.status.now) (range (a.s.a * (a.y + a.s.b * a.z)) n)) (omega arith)
    ∙ used-on-border a.s a.y a.z c.requires.1 a.status.now c.if-y-s.true

pub bounds-status-first : goal.bounds-status-first
bounds-status-first c =
    let a = c.args in
    let r = row_in a.s a.y a.z c.requires.1 (length a.status.now) c.requires.0 c.requires.2 in
    omega arith

pub overflow_sub-result : goal.overflow_sub-result
overflow_sub-result c =
    let a = c.args in
    let r = row_in a.s a.y a.z c.requires.1 (length a.status.now) c.requires.0 c.requires.2 in
    omega arith

pub bounds-status-end : goal.bounds-status-end
bounds-status-end c =
    let a = c.args in
    let r = row_in a.s a.y a.z c.requires.1 (length a.status.now) c.requires.0 c.requires.2 in
    omega arith

pub returns-else-y-s : goal.returns-else-y-s
unfolding used_at
returns-else-y-s c =
    let a = c.args in
    let r = row_in a.s a.y a.z c.requires.1 (length a.status.now) c.requires.0 c.requires.2 in
    used-ends a.s a.y a.z c.requires.1 a.status.now (a.s.a * (a.y + a.s.b * a.z) + a.s.a - 1) r.row.a-low (omega arith) c.if-y-s.false
