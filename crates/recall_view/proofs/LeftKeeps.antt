-- What stays keeps the rules: traces and batch numbers still rise, totals only fall, records only become fewer.
-- Assumes that the view kept the rules.
use Rattle.std.specs.Prelude.{Ok}
use mathlib.Core.Path.{◌≡◌, sym, subst, ◌∙◌}
use mathlib.Core.Bool.{Bool, true, false, ◌&&◌}
use mathlib.Core.List.{List, [], ◌∷◌}
use Prim.Native.Nat.{ℕ, ◌+◌, ◌≤◌, ◌<◌}
use native.Mathlib.Omega.{arith}
use borrow.Author.Tests.{leb-true, le-leb, ltb-true, lt-ltb, ne_eqb}
use lib.Dec.{eqb, leb, ltb}
use lib.ListN.{length, take, drop, take-append-drop}
use Rattle.text.specs.Decimal.{pick, digits, value}
use Rattle.text.specs.Same.{same_bytes}
use Rattle.text.proofs.DecimalLaws.{and_both}
use Rattle.layout.specs.declared.Fault.{Fault}
use Rattle.layout.specs.declared.Row.{Row}
use Rattle.layout.specs.Fields.{part, entry, batch_header}
use Rattle.check_alone.specs.Kinds.{need}
use Rattle.check_across.specs.declared.Sums.{Sums}
use Rattle.check_across.specs.Across.{trace_bank, trace_number, entry_trace, batch_bank, batch_number, trace_follows, trace_rule, batch_number_rule}
use Rattle.check_field.specs.Field.{field_of}
use Rattle.view.specs.View.{Entry, Batch, View, records_in, debit_of, credit_of, entry_record, batch_record, entries_of}
use Rattle.view.specs.Sized.{All}
use Rattle.view.specs.Keeps.{Right, seen, Within, EntryKeeps, EntriesKeep, BatchKeeps, BatchesKeep, Keeps}
use Rattle.view_laws.proofs.Lists.{all_append, all_take, all_drop}
use Rattle.view_laws.proofs.Tables.{entries_in}
use Rattle.view_laws.proofs.BridgeFields.{need_right}
use Rattle.recall_view.specs.RecallView.{entries_left, batches_left, without}
use Rattle.recall_view.proofs.Left.{by_named, unless_empty_lem, sum_less, entries_without, records_fewer}

-- ---- traces

-- behind m records with the last trace s a trace may stand that may stand behind n records with the last trace t
record Follows (n t m s : ℕ) : Type 0 where
  on : (x : ℕ) → trace_follows (seen 0 n t) x ≡ true → trace_follows (seen 0 m s) x ≡ true

-- a greater trace may stand there too
follows_more : (m s x y : ℕ) → trace_follows (seen 0 m s) x ≡ true → x < y → trace_follows (seen 0 m s) y ≡ true
follows_more m s x y f h = go (eqb m 0) f
  where
    go : (b : Bool) → pick b (leb 1 x) (ltb s x) ≡ true → pick b (leb 1 y) (ltb s y) ≡ true
    go true e = le-leb 1 y (omega (arith, leb-true 1 x e))
    go false e = lt-ltb s y (omega (arith, ltb-true s x e))

-- behind an entry only its trace counts
behind_entry : (n t x : ℕ) (e : Entry) → trace_follows (seen 0 (n + records_in e) t) x ≡ ltb t x
behind_entry n t x e = rw (ne_eqb (n + records_in e) 0 (λ z. omega arith))

-- of an entry that keeps the rules the trace follows
trace_right : (n t : ℕ) (h p : List ℕ) → trace_rule (seen 0 n t) h p ≡ Ok tt
    → (digits p ≡ true) × (same_bytes (trace_bank p) (batch_bank h) ≡ true) × (trace_follows (seen 0 n t) (trace_number p) ≡ true)
trace_right n t h p e =
    let same = same_bytes (trace_bank p) (batch_bank h) in
    let follows = trace_follows (seen 0 n t) (trace_number p) in
    let one = need_right (digits p) Fault.Digits (need (same && follows) Fault.Trace (Ok tt)) e in
    let two = and_both same follows (need_right (same && follows) Fault.Trace (Ok tt) one.1).0 in
    (one.0, two.0, two.1)

trace_moved : (n t m s : ℕ) (h p : List ℕ) → Follows n t m s → trace_rule (seen 0 n t) h p ≡ Ok tt → trace_rule (seen 0 m s) h p ≡ Ok tt
trace_moved n t m s h p f e =
    let r = trace_right n t h p e in
    rw (r.0, r.1, f.on (trace_number p) r.2)

-- ---- the last field of a record

-- a record's last field looks at the records before it, and the others do not: with this one right they are all right again
renewed : (n : ℕ) (rows : List Row) (s s' : Sums) (h r : List ℕ) → (Right (take n rows) s h r → Right (take n rows) s' h r)
    → Right rows s h r → Right (drop n rows) s' h r → Right rows s' h r
renewed n rows s s' h r f a b =
    let new : Row → Type 0 = λ row. field_of s' h r row ≡ Ok tt in
    subst (All new) (take-append-drop n rows) (all_append new (take n rows) (drop n rows) (f (all_take (λ row. field_of s h r row ≡ Ok tt) n rows a)) b)

-- ---- the entries of a batch

entry_trace_lem : (h : List ℕ) (n t : ℕ) (e : Entry) → EntryKeeps h n t e → trace_rule (seen 0 n t) h (part entry 11 (entry_record e)) ≡ Ok tt
entry_trace_lem h n t e k = (all_drop (λ row. field_of (seen 0 n t) h (entry_record e) row ≡ Ok tt) 10 entry k.fields).0

entry_moved : (h : List ℕ) (n t m s : ℕ) (e : Entry) → Follows n t m s → EntryKeeps h n t e → EntryKeeps h m s e
entry_moved h n t m s e f k =
    let r = entry_record e in
    record {
      fields =
          renewed 10 entry (seen 0 n t) (seen 0 m s) h r (λ a. a) k.fields
          (trace_moved n t m s h (part entry 11 r) f (entry_trace_lem h n t e k), tt);
      due = k.due;
      addenda = k.addenda;
    }

-- "the last seven digits must be greater than in the entry before within the batch": those between may go. "A first entry still has
-- at least 1": a later one has more
entries_keep : (ns : List ℕ) (k : ℕ) (h : List ℕ) (n t m s : ℕ) (es : List Entry) → Follows n t m s → EntriesKeep h n t es → EntriesKeep h m s (entries_left ns k es)
unfolding entries_left
entries_keep ns k h n t m s [] f a = tt
entries_keep ns k h n t m s (e ∷ es) f a =
    let x = entry_trace (entry_record e) in
    let own = (trace_right n t h (part entry 11 (entry_record e)) (entry_trace_lem h n t e a.0)).2 in
    by_named k ns
    (λ g. rw g (entries_keep ns (k + 1) h (n + records_in e) x m s es
    (record { on = λ y l. follows_more m s x y (f.on x own) (ltb-true x y (rw (behind_entry n x y e) at l)) }) a.1))
    (λ g. rw g (
      entry_moved h n t m s e f a.0,
      entries_keep ns (k + 1) h (n + records_in e) x (m + records_in e) x es
          (record { on = λ y l. behind_entry m x y e ∙ sym (behind_entry n x y e) ∙ l }) a.1,
    ))

-- ---- batches

number_right : (number : ℕ) (p : List ℕ) → batch_number_rule (seen number 0 0) p ≡ Ok tt
    → (digits p ≡ true) × (leb 1 (value p) ≡ true) × (number < value p)
number_right number p e =
    let some = leb 1 (value p) in
    let more = ltb number (value p) in
    let one = need_right (digits p) Fault.Digits (need (some && more) Fault.BatchNumber (Ok tt)) e in
    let two = and_both some more (need_right (some && more) Fault.BatchNumber (Ok tt) one.1).0 in
    (one.0, two.0, ltb-true number (value p) two.1)

number_moved : (number less : ℕ) (p : List ℕ) → less ≤ number → batch_number_rule (seen number 0 0) p ≡ Ok tt → batch_number_rule (seen less 0 0) p ≡ Ok tt
number_moved number less p h e =
    let r = number_right number p e in
    rw (r.0, r.1, lt-ltb less (value p) (omega (arith, r.2)))

batch_number_lem : (number : ℕ) (b : Batch) → BatchKeeps number b → batch_number_rule (seen number 0 0) (part batch_header 13 (batch_record b)) ≡ Ok tt
batch_number_lem number b k = (all_drop (λ row. field_of (seen number 0 0) [] (batch_record b) row ≡ Ok tt) 12 batch_header k.fields).0

left_within : (ns : List ℕ) (k : ℕ) (es : List Entry) → Within es → Within (entries_left ns k es)
left_within ns k es w =
    record { debit = omega (arith, w.debit, sum_less ns debit_of k es); credit = omega (arith, w.credit, sum_less ns credit_of k es) }

-- a batch with what is left of its entries, behind a batch with a lower number
batch_keeps : (ns : List ℕ) (k number less : ℕ) (b : Batch) → less ≤ number → BatchKeeps number b → 1 ≤ length (entries_left ns k b.entries)
    → BatchKeeps less (record { row = b.row; entries = entries_left ns k b.entries })
batch_keeps ns k number less b h a some =
    let r = batch_record b in
    record {
      fields =
          renewed 12 batch_header (seen number 0 0) (seen less 0 0) [] r (λ x. x) a.fields
          (number_moved number less (part batch_header 13 r) h (batch_number_lem number b a), tt);
      nonempty = some;
      entries = entries_keep ns k r 0 0 0 0 b.entries (record { on = λ x e. e }) a.entries;
      within = left_within ns k b.entries a.within;
    }

-- "greater than the batch number before": those between may be dropped
batches_keep : (ns : List ℕ) (k number less : ℕ) (bs : List Batch) → less ≤ number → BatchesKeep number bs → BatchesKeep less (batches_left ns k bs)
unfolding batches_left
batches_keep ns k number less [] h a = tt
batches_keep ns k number less (b ∷ bs) h a =
    let own = batch_number (batch_record b) in
    let above : number < own = (number_right number (part batch_header 13 (batch_record b)) (batch_number_lem number b a.0)).2 in
    let rest = batches_left ns (k + length b.entries) bs in
    unless_empty_lem (BatchesKeep less) b.row (entries_left ns k b.entries) rest
    (batches_keep ns (k + length b.entries) own less bs (omega arith) a.1)
    (λ some. (batch_keeps ns k number less b h a.0 some, batches_keep ns (k + length b.entries) own own bs (omega arith) a.1))

-- ---- the view

some_batch : (bs : List Batch) → 1 ≤ length (entries_in bs) → 1 ≤ length bs
some_batch [] h = h
some_batch (b ∷ bs) h = omega arith

-- where an entry is left, what is left keeps every rule
pub without_keeps : (v : View) (ns : List ℕ) → Keeps v → 1 ≤ length (entries_of (without v ns)) → Keeps (without v ns)
without_keeps v ns k some =
    record {
      fields = k.fields;
      nonempty = some_batch (without v ns).batches some;
      batches = batches_keep ns 1 0 0 v.batches (omega arith) k.batches;
      within = subst Within (sym (entries_without v ns)) (left_within ns 1 (entries_of v) k.within);
      fits = omega (arith, k.fits, records_fewer v ns);
    }
