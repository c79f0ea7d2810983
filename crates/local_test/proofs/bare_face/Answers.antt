-- `local_test::bare_face` meets its contract.
use native.Mathlib.Omega.{arith}
use borrow.Author.Rules.{rules}
use Rattle.cells.specs.Faces.{face_at}
use Rattle.bits.proofs.Bits.{bits-lt}
use Rattle.local_test.specs.Touched.{cells_of}
use Rattle.local_test.proofs.Faces.{faces-trailing}
use Rattle.local_test.proofs.bare_face.Goals as goal

pub overflow_add-result : goal.overflow_add-result
overflow_add-result c = record { fits = omega (arith, c.face_bits.ensures, bits-lt 6 (λ n. cells_of c.args.t (face_at n))) }

pub returns : goal.returns
returns c = faces-trailing c.args.t (omega (arith, c.face_bits.ensures))
