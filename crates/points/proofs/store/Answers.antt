-- `points::store` meets its contract: three doubles are put in the place of three.
use mathlib.Core.Path.{◌≡◌, ap, sym, ◌∙◌}
use mathlib.Core.List.{List, [], ◌∷◌, ◌++◌, append_assoc}
use Prim.Native.Nat.{ℕ, ◌+◌, ◌*◌, ◌-◌, ◌≤◌}
use native.Mathlib.Omega.{arith}
use lib.Ieee.{Float}
use lib.ListN.{length, take, drop}
use lib.Seq.{sets, sets-eq}
use borrow.Rule.Slice.PartMut.{put_mid}
use Rattle.std.proofs.lemmas.List.{drop-drop}
use Rattle.points.specs.Positions.{stored}
use Rattle.points.proofs.store.Goals as goal

put-sets : (xs vs : List Float) (i k : ℕ) → k ≡ length vs → i + length vs ≤ length xs → put_mid i k xs vs ≡ sets xs i vs
put-sets xs vs i k e h =
    ap (λ (rest : List Float). take i xs ++ (vs ++ rest)) (drop-drop k i xs ∙ ap (λ (n : ℕ). drop (i + n) xs) e)
    ∙ sym (append_assoc (take i xs) vs (drop (i + length vs) xs)) ∙ sym (sets-eq vs xs i h)

pub returns : goal.returns
unfolding stored
returns c =
    let xs : List Float = c.args.out.now in
    let vs : List Float = c.args.q.x ∷ c.args.q.y ∷ c.args.q.z ∷ [] in
    let i : ℕ = 3 * c.args.count in
    ap (λ (ys : List Float). put_mid i (i + 3 - i) xs ys) c.copy_from_slice.ensures.after ∙ put-sets xs vs i (i + 3 - i) (omega arith) (omega arith)
