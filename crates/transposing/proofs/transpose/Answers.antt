-- `transpose`: the columns before j stand where they are to stand.
use Rattle.std.proofs.Common.{◌≡◌, ℕ, ◌+◌, ◌-◌, ◌*◌, length, subst, arith}
use Rattle.std.proofs.lemmas.List.{places}
use borrow.Rule.Slice.PartMut.{put_mid}
use Rattle.loops.proofs.Orders.{times-next}
use Rattle.transposing.specs.Transposed.{Transposed}
use Rattle.transposing.proofs.Columns.{transposed-more}
use Rattle.transposing.proofs.transpose.Goals as goal

pub loop-j-preserved : goal.loop-j-preserved
loop-j-preserved c =
    let a = c.args in
    let l = c.loop-j in
    let start = a.first + l.j * a.rows in
    let n : a.rows ≡ start + a.rows - start = omega arith in
    let next = times-next l.j a.m a.rows c.loop-j-test.true in
    let long : length c.gather.new.to ≡ a.rows = grind (arith, places) in
    subst (λ (k : ℕ). Transposed a.from.now a.at a.rows a.m (l.j + 1) a.first a.to.now (put_mid start k l.to c.gather.new.to)) n
    (transposed-more a.from.now a.at a.rows a.m a.first l.j a.to.now l.to c.gather.new.to (omega arith) long l.invariant
    (λ r h. let e = c.gather.ensures r (omega arith) in grind (arith, places)))
