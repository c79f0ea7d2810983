-- Document 01's nine worked local tests, by computation.
use mathlib.Core.Path.{◌≡◌, refl, ap, sym, ◌∙◌}
use mathlib.Core.Bool.{true, false}
use mathlib.Core.List.{List, [], ◌∷◌}
use Prim.Native.Nat.{ℕ}
use native.Mathlib.Omega.{arith}
use lib.ListN.{get_or}
use Rattle.cells.specs.Groups.{any, filter, reached, others, enter, gather, groups}
use Rattle.cells.specs.Cells.{contains, joined, touched, group_count, dimension, count_of, before, Test, test_of, test}
use Rattle.cells.specs.Examples.{km, only, LocalTests, TestVaries, BareFaces}

pub local-tests : LocalTests
unfolding any filter reached others enter gather groups contains joined touched group_count dimension count_of test_of test km only
local-tests =
    record {
      none = refl;
      all = refl;
      one-face = refl;
      one-corner = refl;
      two-opposite-faces = refl;
      four-side-faces = refl;
      five-faces = refl;
      eight-corners = refl;
      corners-and-edges = refl;
    }

pub test-varies : TestVaries
unfolding km
test-varies c h =
    let z : ◌≡◌ {A = ℕ} 0 1 =
    ap (λ (ks : List ℕ). get_or ks 0 0) (sym local-tests.none ∙ ap digits (h (λ p. false) ∙ sym (h (λ p. true))) ∙ local-tests.all) in
    omega arith
  where
    digits : Test → List ℕ
    digits t = t.k ∷ t.m ∷ []

pub bare-faces : BareFaces
unfolding any filter reached others enter gather groups contains joined touched group_count dimension count_of before test_of test
bare-faces =
    record { low_x = refl; high-x = refl; low-y = refl; high-y = refl; low-z = refl; high-z = refl; none_bare = refl; first = refl }
