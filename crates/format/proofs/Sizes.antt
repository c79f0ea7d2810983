-- How large a layer is, and where it lies in the buffer of the whole grid.
use mathlib.Core.Path.{◌≡◌, refl, ap, ◌∙◌}
use mathlib.Core.Logic.{inl, inr}
use mathlib.Core.Bool.{true}
use mathlib.Core.List.{List, ◌++◌}
use Prim.Native.Nat.{ℕ, suc, ◌+◌, ◌-◌, ◌*◌, ◌≤◌, ◌<◌}
use native.Mathlib.Nat.{mul-le-mul, mul-le-mul_left, mul-le-mul_right, mul_comm}
use native.Mathlib.Omega.{arith}
use lib.ListN.{length, take, drop, length-append, length-take, length-drop}
use lib.Seq.{length-take-le, drop-drop}
use lib.IntN.{ℤ}
use Rattle.prelude.proofs.Ranges.{length-map-range}
use Rattle.rules.specs.declared.Sides.{Sides}
use Rattle.rules.specs.Grid.{fit_sides, size}
use Rattle.rules.proofs.Places.{fit}
use Rattle.format.specs.declared.LayerSpan.{LayerSpan}
use Rattle.format.specs.Bytes.{Width, value_of, values_of}
use Rattle.format.specs.Layer.{area, stretch, values_in, with_layer}

pub area_small : (s : Sides) → fit_sides s ≡ true → area s ≤ 4096
area_small s e = let f = fit s e in mul-le-mul f.a-high f.b-high

pub width_small : (width : ℕ) → Width width → width ≤ 4
width_small width (inl e) = omega arith
width_small width (inr e) = omega arith

-- the value bytes of a layer
pub bytes_small : (s : Sides) (width : ℕ) → fit_sides s ≡ true → Width width → width * area s ≤ 16384
bytes_small s width e w = mul-le-mul (width_small width w) (area_small s e)

-- the bytes of one of so many values
pub value_room : (width i count long : ℕ) → long ≡ width * count → i < count → width * i + width ≤ long
value_room width i count long e h = let p : width * suc i ≤ width * count = mul-le-mul_left width h in omega arith

pub size_small : (s : Sides) → fit_sides s ≡ true → size s ≤ 262144
unfolding size
size_small s e = mul-le-mul (area_small s e) (fit s e).c-high

pub layer-room : (s : Sides) (z n : ℕ) → n ≡ area s → z < s.c → z * n + n ≤ size s
unfolding size
layer-room s z n e h =
    let p : suc z * n ≤ s.c * n = mul-le-mul_right n h in
    let q : s.c * n ≡ s.a * s.b * s.c = ap (λ (n : ℕ). s.c * n) e ∙ mul_comm s.c (s.a * s.b) in
    omega arith

-- a part of a list, from one index up to another
pub length_part : {A : Type 0} (l : List A) (from to : ℕ) → from ≤ to → to ≤ length l → length (take (to - from) (drop from l)) ≡ to - from
length_part l from to h k = length-take-le (to - from) (drop from l) (omega (arith, length-drop from l))

pub length-with_layer :
    (s : Sides) (file : List ℕ) (values : List ℤ) (l : LayerSpan) → l.z < s.c → length values ≡ size s → length (with_layer s file values l) ≡ size s
unfolding with_layer values_in values_of
length-with_layer s file values l h e =
    let n = length-map-range (λ k. value_of l.width (stretch file l) (l.width * k)) (area s) in
    simp (length-append, length-take, length-drop, n) (omega (arith, layer-room s l.z (area s) refl h))

-- a layer's values in the middle of the buffer, by the numbers that the code has
pub with_layer-middle :
    (s : Sides) (file : List ℕ) (values new : List ℤ) (l : LayerSpan) (n : ℕ)
    → n ≡ area s
    → l.z < s.c
    → length values ≡ size s
    → let at = l.z * n in
    new ≡ values_of l.width (length (take (at + n - at) (drop at values))) (stretch file l)
    → take at values ++ (new ++ drop (at + n - at) (drop at values)) ≡ with_layer s file values l
unfolding with_layer values_in
with_layer-middle s file values new l n e below long filled =
    let at : ℕ = l.z * n in
    let k : at + n - at ≡ n = omega arith in
    let room = layer-room s l.z n e below in
    rw (filled, length_part values at (at + n) (omega arith) (omega arith), k, drop-drop, e)
