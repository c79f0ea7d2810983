-- `writing::write_layer` meets its contract.
use mathlib.Core.Path.{◌≡◌, ap, ap₂, ◌∙◌}
use mathlib.Core.List.{List, ◌∷◌, ◌++◌, append-nil}
use Prim.Native.Nat.{ℕ, suc, ◌+◌, ◌-◌, ◌*◌}
use native.Mathlib.Omega.{arith}
use lib.ListN.{length, drop, length-set, length-take, length-drop}
use lib.Seq.{drop-length}
use Rattle.format.specs.Written.{values_form}
use Rattle.format.proofs.Forms.{length-values_form}
use Rattle.file_records.proofs.Laying.{is-spread}
use Rattle.words.specs.Widths.{bytes_in}
use Rattle.file_records.proofs.write_layer.Goals as goal
use Rattle.file_records.proofs.write_layer.Goals.{After-kind_of}

long : (c : After-kind_of) → let a = c.args in length a.bytes.now ≡ 3 + bytes_in a.width * length a.values.now
long c = c.requires.1

pub bounds-bytes-1 : goal.bounds-bytes-1
bounds-bytes-1 c = simp length-set (omega (arith, long c))

pub bounds-bytes-2 : goal.bounds-bytes-2
bounds-bytes-2 c = simp length-set (omega (arith, long c))

pub slice_bounds-write_values-count : goal.slice_bounds-write_values-count
slice_bounds-write_values-count c = simp length-set (omega (arith, long c))

pub slice_bounds-write_values-start : goal.slice_bounds-write_values-start
slice_bounds-write_values-start c = simp length-set (omega (arith, long c))

pub write_values-requires : goal.write_values-requires
write_values-requires c = (c.requires.0, simp (length-take, length-drop, length-set) (omega (arith, long (goal.at.write_values-requires c).After-kind_of)))

-- nothing is left behind the values
none_left : (form rest : List ℕ) → form ++ drop (suc (suc (suc (length rest))) - 3) rest ≡ form
none_left form rest =
    let e : suc (suc (suc (length rest))) - 3 ≡ length rest = omega arith in
    ap (λ (n : ℕ). form ++ drop n rest) e ∙ ap (λ (l : List ℕ). form ++ l) (drop-length rest) ∙ append-nil form

pub returns : goal.returns
returns c =
    let a = c.args in
    let l = a.bytes.now in
    rw (c.write_values.ensures, is-spread 0 3 l (omega (arith, long (goal.at.returns c).After-kind_of)))
    (ap₂ (λ (t : ℕ) (m : List ℕ). 0x56 ∷ t ∷ a.z ∷ m) c.kind_of.ensures
    (none_left (values_form (bytes_in a.width) a.values.now) (drop 1 (drop 1 (drop 1 l)))))

pub shape_of-bytes : goal.shape_of-bytes
shape_of-bytes c =
    let a = c.args in
    ap length (returns c) ∙ omega (arith, length-values_form (bytes_in a.width) a.values.now, long (goal.at.shape_of-bytes c).After-kind_of)
