-- A list of entries written as bytes is read back, each a whole record.
use mathlib.Core.Path.{◌≡◌, refl, ap, ap₂, sym, ◌∙◌, subst}
use mathlib.Core.Bool.{Bool, true, false, cond, ◌||◌}
use mathlib.Core.List.{List, [], ◌∷◌, ◌++◌}
use Prim.Native.Nat.{ℕ, suc, ◌+◌, ◌*◌, ◌≤◌, ◌<◌}
use native.Mathlib.Omega.{arith}
use lib.ListN.{length, drop}
use lib.Seq.{get_or-drop, drop-drop}
use Rattle.rules.specs.Grid.{range}
use Rattle.format.specs.Bytes.{byte_at, word, word_bytes, tagged}
use Rattle.format.proofs.Bytes.{word-drop, word-word_bytes}
use Rattle.judging.specs.Judge.{Entry, entry_length, entry_at, entry_count, entries_in}
use Rattle.judging.specs.Accepted.{Readable}
use Rattle.judging.specs.Own.{entry_bytes, list_bytes, AllBelow, ListReadsBack}
use Rattle.judging.proofs.Accepted.{entries_from, first-or-later}

-- ---- a record, wherever it begins

tagged-drop : (kind : ℕ) (list : List ℕ) (start : ℕ) → tagged kind list start ≡ tagged kind (drop start list) 0
tagged-drop kind list start =
    let p : start ≡ start + 0 = omega arith in
    ap₂ (λ (x y : ℕ). tagged kind (x ∷ y ∷ []) 0) (ap (byte_at list) p ∙ sym (get_or-drop start list 0 0)) (sym (get_or-drop start list 1 0))

entry-drop : (list : List ℕ) (start : ℕ) → entry_at list start ≡ entry_at (drop start list) 0
entry-drop list start = λ i. record { opens = tagged-drop 0x4F list start i; at = sym (word-drop 4 start list 2) i }

abbrev either_mark : List ℕ → ℕ → Bool
either_mark list start = tagged 0x52 list start || tagged 0x4F list start

entry_read : (e : Entry) (rest : List ℕ) → e.at < 4294967296 → (entry_at (entry_bytes e ++ rest) 0 ≡ e) × (either_mark (entry_bytes e ++ rest) 0 ≡ true)
entry_read e rest h = go e.opens refl
  where
    bytes : ℕ → List ℕ
    bytes mark = 0x56 ∷ mark ∷ (word_bytes 4 e.at ++ rest)

    index : (mark : ℕ) → word 4 (bytes mark) 2 ≡ e.at
    index mark = sym (word-drop 4 2 (bytes mark) 0) ∙ word-word_bytes 4 e.at rest h

    go : (o : Bool) → e.opens ≡ o → (entry_at (bytes (cond o 0x4F 0x52)) 0 ≡ e) × (either_mark (bytes (cond o 0x4F 0x52)) 0 ≡ true)
    go true q = (λ i. record { opens = sym q i; at = index 0x4F i }, refl)
    go false q = (λ i. record { opens = sym q i; at = index 0x52 i }, refl)

length-list : (es : List Entry) → length (list_bytes es) ≡ entry_length * length es
unfolding list_bytes
length-list [] = refl
length-list (e ∷ es) = omega (arith, length-list es)

-- ---- one record after the other: from record k on the list is the bytes of these entries

module _ (n : ℕ) (small : n ≤ 4294967296) (list : List ℕ) where
  reads-from : (es : List Entry) (k : ℕ) → AllBelow n es → drop (entry_length * k) list ≡ list_bytes es → entry_length * (k + length es) ≤ length list
      → (entries_from list (length es) k ≡ es) × ((q : ℕ) → k ≤ q → q < k + length es → Readable n list q)
  unfolding range list_bytes
  reads-from [] k a p l = (refl, λ q l m. let z : ⊥ = omega arith in absurd z)
  reads-from (e ∷ es) k a p l =
      let r = entry_read e (list_bytes es) (omega (arith, a.0)) in
      let here : entry_at list (entry_length * k) ≡ e = entry-drop list (entry_length * k) ∙ ap (λ (l : List ℕ). entry_at l 0) p ∙ r.0 in
      let mark : either_mark list (entry_length * k) ≡ true =
      ap₂ ◌||◌ (tagged-drop 0x52 list (entry_length * k)) (tagged-drop 0x4F list (entry_length * k)) ∙ ap (λ (l : List ℕ). either_mark l 0) p ∙ r.1 in
      let next : entry_length * suc k ≡ entry_length * k + entry_length = omega arith in
      let later = reads-from es (suc k) a.1
      (ap (λ (m : ℕ). drop m list) next ∙ sym (drop-drop entry_length (entry_length * k) list) ∙ ap (drop entry_length) p) (omega arith) in (
        ap₂ (λ (x : Entry) (l : List Entry). x ∷ l) here later.0,
        first-or-later k (length es)
            (record { full = omega arith; marked = mark; below = subst (λ (x : Entry). x.at < n) (sym here) a.0 }) later.1,
      )

pub list-reads-back : ListReadsBack
unfolding entries_in
list-reads-back n es small a =
    let l = length-list es in
    let r = reads-from n small (list_bytes es) es 0 a refl (omega arith) in
    let c : entry_count (list_bytes es) ≡ length es = omega arith in
    (ap (λ (m : ℕ). entries_from (list_bytes es) m 0) c ∙ r.0, λ q h. r.1 q (omega arith) (omega arith))
