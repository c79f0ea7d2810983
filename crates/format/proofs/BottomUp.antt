-- Layers from the bottom up: where each stands, and what read answered before.
use mathlib.Core.Path.{◌≡◌, refl, ap, ap₂, sym, subst, ◌∙◌}
use mathlib.Core.Logic.{◌⊎◌, inl, inr, ⊎_elim}
use mathlib.Core.Bool.{Bool, true, false, not, cond, ◌||◌}
use mathlib.Core.List.{List, [], ◌∷◌, ◌++◌}
use Prim.Native.Nat.{ℕ, zero, suc, ◌+◌, ◌≤◌, ◌<◌}
use native.Mathlib.Omega.{arith}
use native.Mathlib.Decide.{ℕ_discrete}
use lib.Dec.{ltb, eqb}
use lib.ListN.{length}
use lib.IntN.{ℤ}
use borrow.Author.Tests.{ltb-true, lt-ltb, le-ltb, eqb-true, eq-eqb, ne_eqb}
use Rattle.prelude.specs.Lists.{any}
use Rattle.prelude.proofs.Bools.{or-zero, not-false, both_ways}
use Rattle.rules.specs.declared.Sides.{Sides}
use Rattle.rules.specs.Grid.{size}
use Rattle.rules.specs.Checks.{Check, ◌when◌, unless, AllHold}
use Rattle.rules.specs.Answer.{Outcome, outcome, refused, done, untouched}
use Rattle.rules.specs.Begin.{is_in}
use Rattle.rules.proofs.Checks.{hold-append, append-hold, unless-held}
use Rattle.format.specs.Bytes.{tagged}
use Rattle.format.specs.Layer.{narrow_kind, wide_kind, kind_of, width_at, record_length, z_at, layer_checks, read_layer_checks, layer_at, read_layer}
use Rattle.format.specs.Patch.{patches_checks}
use Rattle.format.specs.File.{sides_in, header_checks, layer_start, range_checks, record_checks, layers_checks, layers_end}
use Rattle.format.specs.declared.Header.{Header}
use Rattle.format.specs.File.{records_checks, read_checks, Accepted, accepted, read_up_to}
use Rattle.format.specs.BottomUp.{any_order_checks, layers_in_any_order, any_order_read_checks, read_in_any_order, Takes, InOrder, BottomUp}
use Rattle.format.proofs.Records.{order-holds, Checked, record-checked, checked-record}
use Rattle.format.proofs.Headers.{no_answer, done-checked, done-sides, taken}

-- ---- where layer z stands

-- a record's mark is that of its width
kind-marked :
    (file : List ℕ) (start : ℕ) → (tagged narrow_kind file start || tagged wide_kind file start) ≡ true
    → tagged (kind_of (width_at file start)) file start ≡ true
unfolding width_at
kind-marked file start h = go (tagged wide_kind file start) refl h
  where
    go : (t : Bool) → tagged wide_kind file start ≡ t → (tagged narrow_kind file start || t) ≡ true → tagged (kind_of (cond t 4 2)) file start ≡ true
    go true e h = e
    go false e h = sym (or-zero (tagged narrow_kind file start)) ∙ h

module _ (s : Sides) (file : List ℕ) where
  record-at :
      (left next z : ℕ) → AllHold (layers_checks s file left next) → z < left
      → AllHold (record_checks s file (layer_start s file (next + z)) (next + z))
  unfolding layers_checks
  record-at zero next z a h = let y : ⊥ = omega arith in absurd y
  record-at (suc left) next zero a h =
      let p : next ≡ next + 0 = omega arith in
      let both = hold-append (record_checks s file (layer_start s file next) next) (layers_checks s file left (suc next)) a in
      subst (λ (n : ℕ). AllHold (record_checks s file (layer_start s file n) n)) p both.0
  record-at (suc left) next (suc z) a h =
      let p : suc next + z ≡ next + suc z = omega arith in
      let both = hold-append (record_checks s file (layer_start s file next) next) (layers_checks s file left (suc next)) a in
      subst (λ (n : ℕ). AllHold (record_checks s file (layer_start s file n) n)) p (record-at left (suc next) z both.1 (omega arith))

module _ (greatest : ℕ) (file : List ℕ) (lent : List ℤ) (h : Header) (e : Takes greatest file lent h) where
  abbrev s : Sides
  s = h.sides

  accepts : Accepted s file (length lent)
  accepts = taken greatest file lent h e

  module _ (z : ℕ) (b : z < s.c) where
    abbrev start : ℕ
    start = layer_start s file z

    held : AllHold (record_checks s file start z)
    held =
        let first : 0 + z ≡ z = omega arith in
        subst (λ (n : ℕ). AllHold (record_checks s file (layer_start s file n) n)) first (record-at s file s.c 0 z accepts.layers b)

    pub checked : Checked s file start z
    checked = record-checked s file start z held

    stands : (tagged (kind_of (width_at file start)) file start ≡ true) × (z_at file start ≡ z)
    stands = (kind-marked file start (not-false _ checked.layer.1.0), eqb-true _ _ (not-false _ checked.order.1.0))

    read-there :
        read_layer s file start
        ≡ done (record { z = z; width = width_at file start; from = start + 3; to = layer_start s file (suc z) })
    unfolding read_layer layer_start
    read-there =
        unless-held refused (done (layer_at s file start)) (read_layer_checks s file start) (ap not accepts.fits, checked.layer)
        ∙ ap (λ (z : ℕ). done (record { z = z; width = width_at file start; from = start + 3; to = start + record_length s file start })) stands.1

-- ---- the same answer as before, or 27

-- the layers that came before are those below the next
abbrev Below : List ℕ → ℕ → Type 0
Below seen next = (i : ℕ) → is_in seen i ≡ ltb i next

below_none : Below [] 0
unfolding is_in any
below_none i = sym (le-ltb i 0 (omega arith))

at_most : (i n : ℕ) → (eqb i n || ltb i n) ≡ ltb i (suc n)
at_most i n = go (ℕ_discrete i n)
  where
    go : Dec (i ≡ n) → (eqb i n || ltb i n) ≡ ltb i (suc n)
    go (yes e) = ap (λ (t : Bool). t || ltb i n) (eq-eqb i n e) ∙ sym (lt-ltb i (suc n) (omega arith))
    go (no f) =
        ap (λ (t : Bool). t || ltb i n) (ne_eqb i n f)
        ∙ both_ways (ltb i n) (ltb i (suc n))
        (λ t. lt-ltb i (suc n) (omega (arith, ltb-true i n t))) (λ t. lt-ltb i n (omega (arith, ltb-true i (suc n) t)))

below_next : (seen : List ℕ) (z next : ℕ) → Below seen next → z ≡ next → Below (z ∷ seen) (suc next)
unfolding is_in any
below_next seen z next f e i = ap₂ ◌||◌ (ap (eqb i) e) (f i) ∙ at_most i next

module _ {R : Type 0} (refuse : ℕ → R) (work : R) where
  -- checks of read now, and before
  abbrev Same : List Check → List Check → Type 0
  Same now then = (unless now refuse work ≡ unless then refuse work) ⊎ (unless now refuse work ≡ refuse 27)

  same-behind : (cs now then : List Check) → Same now then → Same (cs ++ now) (cs ++ then)
  unfolding unless
  same-behind [] now then k = k
  same-behind (c ∷ cs) now then k = go c.fails (same-behind cs now then k)
    where
      go : (t : Bool) → Same (cs ++ now) (cs ++ then) → Same (c.number when t ∷ (cs ++ now)) (c.number when t ∷ (cs ++ then))
      go true k = inl refl
      go false k = k

  same_next : (z next : ℕ) (now then : List Check) → (z ≡ next → Same now then) → Same (27 when not (eqb z next) ∷ now) then
  unfolding unless
  same_next z next now then k = go (eqb z next) refl
    where
      go : (t : Bool) → eqb z next ≡ t → Same (27 when not t ∷ now) then
      go true e = k (eqb-true z next e)
      go false e = inr refl

  module _ (s : Sides) (file : List ℕ) (rest : List Check) where
    same-layers :
        (left next : ℕ) (seen : List ℕ) → Below seen next
        → Same (layers_checks s file left next ++ rest) (layers_in_any_order s file left next seen ++ rest)
    unfolding layers_checks layers_in_any_order
    same-layers zero next seen f = inl refl
    same-layers (suc left) next seen f =
        let start = layer_start s file next in
        let z = z_at file start in
        let range = range_checks s file start in
        let now = layers_checks s file left (suc next) ++ rest in
        let then = layers_in_any_order s file left (suc next) (z ∷ seen) ++ rest in
        rw (f z)
        (same-behind (layer_checks s file start ++ (24 when ltb z next ∷ [])) (27 when not (eqb z next) ∷ (range ++ now)) (range ++ then)
        (same_next z next (range ++ now) (range ++ then)
        (λ e. same-behind range now then (same-layers left (suc next) (z ∷ seen) (below_next seen z next f e)))))

module _ (greatest : ℕ) (file : List ℕ) (lent : List ℤ) where
  same-or-27 : (read_up_to greatest file lent ≡ read_in_any_order greatest file lent) ⊎ (read_up_to greatest file lent ≡ outcome (refused 27) lent)
  unfolding read_up_to read_in_any_order
  same-or-27 =
      let s = sides_in file in
      same-behind (untouched lent) (accepted file lent) (header_checks greatest file (length lent)) _ _
      (same-layers (untouched lent) (accepted file lent) s file (patches_checks (size s) file (layers_end s file)) s.c 0 [] below_none)

  read-before : (h : Header) → Takes greatest file lent h → read_up_to greatest file lent ≡ read_in_any_order greatest file lent
  read-before h e = ⊎_elim (λ p. p) (λ p. no_answer 27 h (sym (ap (λ (o : Outcome (List ℤ) Header). o.answer) p) ∙ e)) same-or-27

-- ---- layers in order

module _ (s : Sides) (file : List ℕ) where
  order-checked :
      (left next : ℕ) (seen : List ℕ) → AllHold (layers_in_any_order s file left next seen)
      → ((z : ℕ) → next ≤ z → z < next + left → z_at file (layer_start s file z) ≡ z)
      → AllHold (layers_checks s file left next)
  unfolding layers_checks layers_in_any_order
  order-checked zero next seen a f = tt
  order-checked (suc left) next seen a f =
      let start : ℕ = layer_start s file next in
      let layer = layer_checks s file start in
      let any_order = any_order_checks file start seen in
      let range = range_checks s file start in
      let both = hold-append (layer ++ (any_order ++ range)) (layers_in_any_order s file left (suc next) (z_at file start ∷ seen)) a in
      let own = hold-append layer (any_order ++ range) both.0 in
      let order = order-holds file start next (f next (omega arith) (omega arith)) in
      let now : Checked s file start next = record { layer = own.0; order = order; range = (hold-append any_order range own.1).1 } in
      append-hold (record_checks s file start next) (layers_checks s file left (suc next)) (checked-record s file start next now)
      (order-checked left (suc next) (z_at file start ∷ seen) both.1 (λ z low high. f z (omega arith) (omega arith)))

module _ (greatest : ℕ) (file : List ℕ) (lent : List ℤ) (h : Header) (e : (read_in_any_order greatest file lent).answer ≡ done h)
    (f : InOrder h.sides file) where
  still_read : read_up_to greatest file lent ≡ read_in_any_order greatest file lent
  unfolding read_up_to read_in_any_order
  still_read =
      let s = sides_in file in
      let then = any_order_read_checks greatest file (length lent) in
      let header = header_checks greatest file (length lent) in
      let layers = layers_in_any_order s file s.c 0 [] in
      let patches = patches_checks (size s) file (layers_end s file) in
      let held = done-checked then file lent h e in
      let p = hold-append header (layers ++ patches) held in
      let r = hold-append layers patches p.1 in
      let places = subst (λ (s : Sides). InOrder s file) (done-sides then file lent h e) f in
      let ordered = order-checked s file s.c 0 [] r.0 (λ z low high. places z (omega arith)) in
      unless-held (untouched lent) (accepted file lent) (read_checks greatest file (length lent))
      (append-hold header (records_checks s file) p.0 (append-hold (layers_checks s file s.c 0) patches ordered r.1))
      ∙ sym (unless-held (untouched lent) (accepted file lent) then held)

pub bottom-up : BottomUp
bottom-up = record { stands = stands; read-there = read-there; same-or-27 = same-or-27; read-before = read-before; still_read = still_read }
