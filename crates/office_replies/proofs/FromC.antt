-- A record that goes out to C and is put back is the one that the rule goes on with, and so is the order record: a list of calls from C leaves what the
-- list leaves by the rule.
use mathlib.Core.Path.{◌≡◌, refl, ap, ap₂, sym, ◌∙◌, subst}
use mathlib.Core.Bool.{Bool, true, false, cond}
use mathlib.Core.List.{List, [], ◌∷◌}
use Prim.Native.Nat.{ℕ, ◌≤◌, ◌<◌}
use native.Mathlib.Omega.{arith}
use native.Mathlib.Decide.{ℕ_discrete}
use borrow.Author.Tests.{ne_eqb}
use lib.Dec.{eqb}
use lib.ListN.{length, get_or, set, length-set}
use lib.Seq.{get_or-set_same, get_or-set_other}
use Rattle.prelude.proofs.Ranges.{get_d-map-range, is-map-range}
use Rattle.rules.specs.declared.Record.{Record}
use Rattle.rules.specs.Checks.{Check, first_failing, unless}
use Rattle.rules.specs.Answer.{done, Outcome, outcome, untouched}
use Rattle.rules.specs.Machine.{the_voxel}
use Rattle.rules.proofs.Checks.{all_hold, held_at, call-refused, unless-held}
use Rattle.office.specs.declared.Serving.{Serving}
use Rattle.office.specs.Serve.{Office, office, grids, no_record, to_serve, serve_checks, Left, left, served_at, serve, after_serve}
use Rattle.office.specs.Lists.{Request, after_all}
use Rattle.office.proofs.Step.{served}
use Rattle.replies.specs.declared.CRecord.{CRecord}
use Rattle.replies.specs.Structs as structs
use Rattle.replies.specs.Structs.{record_out}
use Rattle.replies.proofs.FromC.{record-comes-back}
use Rattle.office.specs.Structs.{listed, records_of}
use Rattle.order_record.proofs.Places.{length-listed, listed_at, places-packed}
use Rattle.serving_checks.proofs.Numbers.{few-grids}
use Rattle.office_replies.specs.declared.CGrids.{CGrids}
use Rattle.office_replies.specs.Serving.{record_at, grids_in, served_out}
use Rattle.office_replies.specs.FromC.{HeldOffice, office_in, put_back, serve_from_c, all_from_c, ServeListsAgree}

-- ---- the record that is put back

module _ (g : CGrids) (p : ℕ) (x : Record) (full : length g.records ≡ 16) (below : p < g.count) (few : g.count ≤ 16) where
  abbrev put : CGrids
  put = record { count = g.count; records = set g.records p (record_out x) }

  -- the record at a place, of those that are there
  at : (g : CGrids) (i : ℕ) → i < g.count → i < 16 → get_or (records_of (grids_in g)) i no_record ≡ record_at g i
  at g i h l = listed_at no_record g.count (grids_in g).records i h ∙ get_d-map-range (record_at g) no_record 16 i l

  pub records-put : records_of (grids_in put) ≡ set (records_of (grids_in g)) p x
  unfolding listed
  records-put =
      sym (is-map-range (λ i. get_or (grids_in put).records i no_record) no_record g.count (set (records_of (grids_in g)) p x)
      (length-set (records_of (grids_in g)) p x ∙ length-listed no_record g.count (grids_in g).records) (λ i h.
      same i h (ℕ_discrete i p) ∙ sym (get_d-map-range (record_at put) no_record 16 i (omega arith))))
    where
      same : (i : ℕ) → i < g.count → Dec (i ≡ p) → get_or (set (records_of (grids_in g)) p x) i no_record ≡ record_at put i
      same i h (yes e) =
          ap (λ (j : ℕ). get_or (set (records_of (grids_in g)) p x) j no_record) e
          ∙ get_or-set_same (records_of (grids_in g)) p x no_record (omega (arith, length-listed no_record g.count (grids_in g).records))
          ∙ sym (record-comes-back x)
          ∙ ap structs.record_in (sym (ap (λ (j : ℕ). get_or (set g.records p (record_out x)) j structs.no_record) e
          ∙ get_or-set_same g.records p (record_out x) structs.no_record (omega arith)))
      same i h (no d) =
          get_or-set_other (records_of (grids_in g)) p i x no_record d ∙ at g i h (omega arith)
          ∙ ap structs.record_in (sym (get_or-set_other g.records p i (record_out x) structs.no_record d))

-- ---- one call

module _ (c : Request) (h : HeldOffice) (full : length h.grids.records ≡ 16) where
  abbrev O : Office
  O = office_in h

  -- what C holds after an outcome
  abbrev after : Outcome Left Serving → HeldOffice
  after o =
      let r = served_out h.order o in
      record { grids = put_back h.grids r.answer; order = r.answer.order; dist = r.lent.dist; status = r.lent.status }

  Agrees : Outcome Left Serving → Type 0
  Agrees o = office_in (after o) ≡ after_serve O o

  refused-agrees : (n : ℕ) → (n ≡ 0 → ⊥) → Agrees (untouched (left O.order O.dist O.status) n)
  unfolding Agrees after_serve
  refused-agrees n f =
      ap (λ (t : Bool). let g = cond t (record { count = h.grids.count; records = set h.grids.records 0 structs.no_record }) h.grids in
      office (records_of (grids_in g)) O.order O.dist O.status) (ne_eqb n 0 f)

  served-agrees : (a : Serving) (l : Left) → a.place < h.grids.count → h.grids.count ≤ 16 → Agrees (outcome (done a) l)
  unfolding Agrees after_serve
  served-agrees a l below few =
      ap₂ (λ (records : List Record) (order : List ℕ). office records order l.dist l.status)
      (records-put h.grids a.place a.carving.next full below few) (places-packed l.order)

  same-call : office_in (serve_from_c c h) ≡ after_serve O (serve c.marks c.limit O)
  unfolding serve_from_c serve Agrees
  same-call = go (ℕ_discrete (first_failing checks) 0)
    where
      checks : List Check
      checks = serve_checks c.marks c.limit O

      refuse : ℕ → Outcome Left Serving
      refuse = untouched (left O.order O.dist O.status)

      work : Outcome Left Serving
      work = served_at c.marks c.limit O (the_voxel (to_serve O))

      go : Dec (first_failing checks ≡ 0) → Agrees (unless checks refuse work)
      go (no f) = subst Agrees (call-refused refuse work checks _ refl f) (refused-agrees (first_failing checks) f)
      go (yes z) =
          let all = all_hold checks refl z in
          let s = served c.marks c.limit O all in
          let n = length-listed no_record h.grids.count (grids_in h.grids).records in
          subst Agrees (sym s.is ∙ sym (unless-held refuse work checks all))
          (served-agrees s.answer s.lent (omega (arith, s.serves.below)) (omega (arith, few-grids c.limit (grids O) (held_at checks all 34))))

-- ---- lists of calls

still_full : (c : Request) (h : HeldOffice) → length h.grids.records ≡ 16 → length (serve_from_c c h).grids.records ≡ 16
unfolding serve_from_c
still_full c h e =
    let a = (served_out h.order (serve c.marks c.limit (office_in h))).answer in
    go (eqb a.refusal 0) a.place a.next
  where
    go : (t : Bool) (p : ℕ) (x : CRecord) → length (cond t (record { count = h.grids.count; records = set h.grids.records p x }) h.grids).records ≡ 16
    go true p x = length-set h.grids.records p x ∙ e
    go false p x = e

pub serve-lists-agree : ServeListsAgree
unfolding all_from_c after_all
serve-lists-agree [] h e = refl
serve-lists-agree (c ∷ cs) h e = serve-lists-agree cs (serve_from_c c h) (still_full c h e) ∙ ap (after_all cs) (same-call c h e)
