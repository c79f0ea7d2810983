-- `largest`: the components of the voxels below next are counted.
use Prim.Native.Nat.{ℕ, ◌-◌}
use mathlib.Core.Path.{subst}
use native.Mathlib.Omega.{arith}
use Rattle.floods.specs.Flood.{spanned, near_by}
use Rattle.components.specs.Search.{Longest}
use Rattle.components.proofs.Searching.{search-begin, search-start, search-win, search-keep, search-end}
use Rattle.components.proofs.largest.Goals as goal
use Rattle.components.proofs.largest.Goals.{then-len, else-len}

pub loop-i-init : goal.loop-i-init
loop-i-init c =
    let a = c.args in
    (omega arith, search-begin (spanned a.patch a.offsets.now) a.back a.label.now a.work.now)

pub flood-requires : goal.flood-requires
flood-requires c =
    let a = c.args in
    let l = c.loop-i in (
      c.requires.0,
      c.requires.1,
      search-start (spanned a.patch a.offsets.now) a.back a.label.now _ _ l.label l.work l.end l.next l.longest.start (l.longest.end - l.longest.start)
          l.invariant.1 c.in-Some.i c.in-Some.ensures c.requires.2,
    )

pub loop-i-preserved : goal.loop-i-preserved
loop-i-preserved c =
    let a = c.args in
    let l = c.loop-i in
    let o = spanned a.patch a.offsets.now in
    let most = l.longest.end - l.longest.start in
    elim c.if-len.branch [
      | then-len w ↦
          rw w.longest-is (
            c.flood.ensures.longer,
            search-win o a.back a.label.now _ _ l.label l.work l.end l.next l.longest.start most l.invariant.1 c.in-Some.i c.in-Some.ensures
                c.flood.new.label c.flood.new.work c.flood.result c.flood.ensures c.flood.auto.work
                (omega (arith, w.if-len.true, c.len.ensures.value, c.len-in-Some.ensures.value)),
          )
      | else-len w ↦
          rw w.longest-is (
            l.invariant.0,
            search-keep o a.back a.label.now _ _ l.label l.work l.end l.next l.longest.start most l.invariant.1 c.in-Some.i c.in-Some.ensures
                c.flood.new.label c.flood.new.work c.flood.result c.flood.ensures c.flood.auto.work
                (omega (arith, w.if-len.false, c.len.ensures.value, c.len-in-Some.ensures.value)),
          )
    ]

pub returns : goal.returns
returns c =
    let a = c.args in
    let l = c.loop-i in
    let most = l.longest.end - l.longest.start in
    subst (λ (e : ℕ). Longest (near_by (spanned a.patch a.offsets.now) a.back) a.label.now l.work l.longest.start e) (omega arith)
    (search-end (spanned a.patch a.offsets.now) a.back a.label.now _ _ l.label l.work l.end l.next l.longest.start most l.invariant.1
    c.in_default.ensures c.requires.2)
