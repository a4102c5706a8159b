-- An entry's addendum in its file.
-- Assumes nothing.
use Rattle.std.specs.Prelude.{Ok, Err}
use mathlib.Core.Path.{◌≡◌, refl, sym, ap, ◌∙◌, subst}
use mathlib.Core.Bool.{Bool, true, false, ◌&&◌}
use mathlib.Core.List.{List, [], ◌∷◌, append-nil}
use Prim.Native.Nat.{ℕ, ◌+◌, ◌-◌, ◌*◌, ◌≤◌}
use native.Mathlib.Omega.{arith}
use borrow.Author.Tests.{leb-true, eq-eqb, ne_eqb, eqb-false}
use lib.Dec.{leb, ltb, eqb, lit<, lit≤}
use lib.ListN.{length, get_or, take, drop}
use Rattle.text.specs.Decimal.{pick}
use Rattle.text.proofs.DecimalLaws.{and_both}
use Rattle.text.proofs.RowLaws.{get_d_columns}
use Rattle.text.specs.Rows.{joined}
use Rattle.text.specs.Widths.{AllLong}
use Rattle.layout.specs.Answers.{Answer}
use Rattle.layout.specs.declared.Refusal.{Refusal}
use Rattle.layout.specs.declared.Fault.{Fault}
use Rattle.check_order.specs.Order.{takes_addendum}
use Rattle.check_record.specs.Record.{columns_in, checked_of}
use Rattle.view.specs.View.{entry_record, addendum_record, entries_of, view_of}
use Rattle.view.specs.Sized.{SizedEntry}
use Rattle.view.specs.Outcome.{Part, no_part, no_entry, entry_at, demand, and_then, spot_of, entry_number, addendum_answer, addendum_part_of, part_if, addendum_of}
use Rattle.layout.specs.Paper.{refusal}
use Rattle.view_laws.proofs.Lists.{all_at}
use Rattle.view_laws.proofs.Tables.{entries_sized}
use Rattle.view_laws.proofs.Bridge.{accepted_view}
use Rattle.view_laws.proofs.BridgeFields.{by_eq}
use Rattle.view_laws.proofs.Own.{own_entries, own_records}
use Rattle.view_laws.proofs.Amend.{spot_entry}
use Rattle.view_laws.proofs.Formed.{addendum_fields}
use Rattle.layout.specs.declared.Way.{Way}
use Rattle.layout.specs.Ways.{record_bytes}
use Rattle.find_entry.specs.WorkFind.{nth_of}
use Rattle.find_entry.specs.WorkThere.{There, EntryAt}
use Rattle.find_entry.specs.WorkAsked.{asked_of}
use Rattle.find_entry.proofs.Parts.{record_byte, record_part, counted, on}
use Rattle.find_entry.proofs.Accepted.{entry_at_lem, entry_text}
use Rattle.find_entry.proofs.Places.{addendum_behind}

-- ---- the question

-- the number of entries that an acceptance gives is that of the file's entries
pub asked_answer : (way : Way) (f : List ℕ) (k : ℕ) → asked_of (checked_of way f) k ≡ addendum_answer way f k
asked_answer way f k = go (checked_of way f).answer refl
  where
    exist : ℕ → Answer
    exist n = demand (leb 1 k && leb k n) (refusal Fault.NoEntry 0 0) (Ok tt)

    go : (a : Answer) → (checked_of way f).answer ≡ a → and_then a (exist (checked_of way f).entries) ≡ and_then a (exist (length (entries_of (view_of way f))))
    go (Ok _) e = ap exist (own_entries way f e).entries
    go (Err r) e = refl

-- it is granted where there is such an entry
pub granted_there : (way : Way) (f : List ℕ) (k : ℕ) → addendum_answer way f k ≡ Ok tt → There way f k
granted_there way f k = go (checked_of way f).answer refl
  where
    exist : Bool → Answer
    exist t = demand t (refusal Fault.NoEntry 0 0) (Ok tt)

    exists : (t : Bool) → exist t ≡ Ok tt → t ≡ true
    exists true e = refl
    exists false e = cc

    go : (a : Answer) → (checked_of way f).answer ≡ a → and_then a (exist (leb 1 k && leb k (length (entries_of (view_of way f))))) ≡ Ok tt → There way f k
    go (Ok _) e g =
        let b = and_both (leb 1 k) (leb k (length (entries_of (view_of way f)))) (exists _ g) in
        record { accepted = e; first = leb-true 1 k b.0; last = leb-true k (length (entries_of (view_of way f))) b.1 }
    go (Err r) e g = absurd (let z : ◌≡◌ {A = ℕ} 0 1 = cc in omega arith)

-- ---- the part

module _ (way : Way) (f : List ℕ) (k i : ℕ) (t : There way f k) (at : EntryAt way f k i) where
  -- its column 79 says how many addenda it has
  addenda_due_lem : length (entry_at (view_of way f) k).addenda ≡ pick (eqb (get_or f (record_bytes way * i + 78) 0) 49) 1 0
  addenda_due_lem =
      let v = view_of way f in
      let sized = all_at SizedEntry (entries_of v) (k - 1) no_entry (entries_sized v.batches (accepted_view way f t.accepted).sized.each) (omega (arith, t.first, t.last)) in
      sized.due
      ∙ ap (λ n. pick (eqb n 49) 1 0) (get_d_columns 79 79 (entry_record (entry_at v k)) 0 (omega arith) ∙ ap (λ r. get_or r 78 0) (sym (entry_text way f k t i at)) ∙ record_byte way f i (omega (arith, counted way (length f) (i + 2) at.inside)) 78 (lit< tt))

  part_is : addendum_answer way f k ≡ Ok tt → addendum_of way f k ≡ pick (ltb 0 (pick (eqb (get_or f (record_bytes way * i + 78) 0) 49) 1 0)) (record { from = record_bytes way * i + record_bytes way + 3; size = 80 }) no_part
  part_is e =
      let v = view_of way f in
      let from : record_bytes way * entry_number (spot_of v k) + 3 ≡ record_bytes way * i + record_bytes way + 3 = ap (λ n. n + 3) (ap (λ n. record_bytes way * n) (sym at.number) ∙ sym (on way i)) in
      ap (λ a. part_if a (addendum_part_of (entry_at v k) (record_bytes way * entry_number (spot_of v k)))) e
      ∙ ap (λ n. pick (ltb 0 n) (record { from = record_bytes way * entry_number (spot_of v k) + 3; size = 80 }) no_part) addenda_due_lem
      ∙ ap (λ n. pick (ltb 0 (pick (eqb (get_or f (record_bytes way * i + 78) 0) 49) 1 0)) (record { from = n; size = 80 }) no_part) from

  -- columns 4-83 of the record behind it
  pub part_there : addendum_answer way f k ≡ Ok tt → get_or f (record_bytes way * i + 78) 0 ≡ 49 → addendum_of way f k ≡ record { from = record_bytes way * i + record_bytes way + 3; size = 80 }
  part_there e h = part_is e ∙ rw (eq-eqb (get_or f (record_bytes way * i + 78) 0) 49 h)

  -- or none
  pub part_none : addendum_answer way f k ≡ Ok tt → (get_or f (record_bytes way * i + 78) 0 ≡ 49 → ⊥) → addendum_of way f k ≡ no_part
  part_none e h = part_is e ∙ rw (ne_eqb (get_or f (record_bytes way * i + 78) 0) 49 h)

pub part_refused : (way : Way) (f : List ℕ) (k : ℕ) (r : Refusal) → addendum_answer way f k ≡ Err r → addendum_of way f k ≡ no_part
part_refused way f k r e = ap (λ a. part_if a (addendum_part_of (entry_at (view_of way f) k) (record_bytes way * entry_number (spot_of (view_of way f) k)))) e

-- the record behind an entry's, in the file
pub behind : (way : Way) (n i : ℕ) → record_bytes way * (i + 2) ≤ n → record_bytes way * i + record_bytes way + 94 ≤ n
behind Way.Plain n i h = omega arith
behind Way.Lined n i h = omega arith

-- either way it lies in the file
abbrev Inside : List ℕ → Part → Type 0
Inside f p = p.from + p.size ≤ length f

pub part_inside : (way : Way) (f : List ℕ) (k : ℕ) → (addendum_of way f k).from + (addendum_of way f k).size ≤ length f
part_inside way f k = go (addendum_answer way f k) refl
  where
    go : (a : Answer) → addendum_answer way f k ≡ a → Inside f (addendum_of way f k)
    go (Ok _) e =
        let t = granted_there way f k e in
        let i = nth_of 54 (k - 1) (columns_in way f) in
        let at = entry_at_lem way f k t i (omega arith) in
        by_eq (get_or f (record_bytes way * i + 78) 0) 49
        (λ h. subst (Inside f) (sym (part_there way f k i t at e h)) (omega (arith, behind way (length f) i at.inside)))
        (λ h. subst (Inside f) (sym (part_none way f k i t at e (eqb-false (get_or f (record_bytes way * i + 78) 0) 49 h))) (omega arith))
    go (Err r) e = subst (Inside f) (sym (part_refused way f k r e)) (omega arith)

-- a part is told by its two numbers
pub both : {p q : Part} → p ≡ q → (q.from ≡ p.from) × (q.size ≡ p.size)
both e = (ap (λ x. x.from) (sym e), ap (λ x. x.size) (sym e))

-- ---- what it says

one_most : (b : Bool) → pick b 1 0 ≤ 1
one_most true = lit≤ tt
one_most false = lit≤ tt

module _ (way : Way) (f : List ℕ) (k : ℕ) (t : There way f k) where
  -- the entry's addendum stands behind its record, in columns 4-83
  addendum_text : (text : List ℕ) → (entry_at (view_of way f) k).addenda ≡ text ∷ [] → take 80 (drop (record_bytes way * entry_number (spot_of (view_of way f) k) + 3) f) ≡ text
  addendum_text text h =
      let v = view_of way f in
      let n = entry_number (spot_of v k) in
      let s = (accepted_view way f t.accepted).sized in
      let same = spot_entry v k 0 s t.first t.last (lit< tt) in
      let sized = all_at SizedEntry (entries_of v) (k - 1) no_entry (entries_sized v.batches s.each) (omega (arith, t.first, t.last)) in
      let i = nth_of 54 (k - 1) (columns_in way f) in
      let at = entry_at_lem way f k t i (omega arith) in
      let fields = addendum_fields (entry_at v k) text sized.long (subst (AllLong 80) h sized.texts).0 in
      sym (record_part way f n (omega (arith, at.number, counted way (length f) (i + 2) at.inside)) 3 80 (lit≤ tt))
      ∙ ap (λ rs. take 80 (drop 3 (get_or rs n []))) (own_records way f t.accepted)
      ∙ ap (λ r. take 80 (drop 3 r)) (addendum_behind v k t.first t.last text (ap (λ e. e.addenda) same ∙ h) ∙ ap (λ e. addendum_record e text) same)
      ∙ fields.whole

  -- so the part that is handed back is the entry's addendum, or empty where it has none
  pub handed : addendum_answer way f k ≡ Ok tt → take (addendum_of way f k).size (drop (addendum_of way f k).from f) ≡ joined (entry_at (view_of way f) k).addenda
  unfolding joined
  handed g = ap (λ a. cut (part_if a (place (entry_at (view_of way f) k).addenda))) g ∙ go (entry_at (view_of way f) k).addenda refl
    where
      cut : Part → List ℕ
      cut p = take p.size (drop p.from f)

      place : List (List ℕ) → Part
      place texts = pick (ltb 0 (length texts)) (record { from = record_bytes way * entry_number (spot_of (view_of way f) k) + 3; size = 80 }) no_part

      few : length (entry_at (view_of way f) k).addenda ≤ 1
      few =
          let v = view_of way f in
          let sized = all_at SizedEntry (entries_of v) (k - 1) no_entry (entries_sized v.batches (accepted_view way f t.accepted).sized.each) (omega (arith, t.first, t.last)) in
          subst (λ n. n ≤ 1) (sym sized.due) (one_most (takes_addendum (54 ∷ (entry_at v k).row)))

      go : (texts : List (List ℕ)) → (entry_at (view_of way f) k).addenda ≡ texts → cut (place (entry_at (view_of way f) k).addenda) ≡ joined (entry_at (view_of way f) k).addenda
      go [] h = ap (λ ts. cut (place ts)) h ∙ ap joined (sym h)
      go (x ∷ []) h = ap (λ ts. cut (place ts)) h ∙ addendum_text x h ∙ sym (append-nil x) ∙ ap joined (sym h)
      go (x ∷ y ∷ texts) h = absurd (omega (arith, few, ap length h))
