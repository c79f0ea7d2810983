-- `watching::some_pass` meets its contract.
use mathlib.Core.Path.{subst}
use mathlib.Core.Bool.{Bool}
use Rattle.watching.specs.Watching.{Since}
use Rattle.watching.proofs.some_pass.Goals as goal

pub any_since-requires : goal.any_since-requires
any_since-requires c =
    let a = c.args in
    subst (λ (b : Bool). Since a.s a.dist.now a.status.now a.list.now b a.from a.to) c.if-asked.true c.requires
