-- A file says what it was formed of.
-- Assumes the view's sizes.
use mathlib.Core.Path.{◌≡◌, refl, ap, ◌∙◌}
use mathlib.Core.List.{List, [], ◌∷◌, ◌++◌, map, foldr, foldr-append}
use Prim.Native.Nat.{ℕ, zero, suc, ◌+◌, ◌*◌}
use lib.ListN.{length, replicate, take-append-drop}
use Rattle.text.specs.Widths.{AllLong}
use Rattle.text.proofs.RowLaws.{long_append}
use Rattle.layout.specs.declared.Way.{Way}
use Rattle.layout.specs.Ways.{record_bytes}
use Rattle.view.specs.View.{Entry, Batch, View, Reading, nothing, gather, addendum_record, entry_records, batch_records, batch_control_record, file_control_record, fillers_after, filler_record, body_of, records_of, file_of, view_of_records, view_of}
use Rattle.view.specs.Sized.{All, SizedEntry, SizedBatch, Sized}
use Rattle.view_laws.proofs.Ways.{closed_length, columns_back}
use Rattle.view_laws.proofs.Formed.{file_fields, batch_fields, entry_fields, addendum_fields, batch_control_fields, file_control_fields}

-- what is read so far
abbrev reading : List ℕ → List Batch → List Entry → List (List ℕ) → Reading
reading row bs es ts = record { row = row; batches = bs; entries = es; addenda = ts }

-- an entry's addenda
read_addenda : (e : Entry) → length e.row ≡ 93 → (ts : List (List ℕ)) → AllLong 80 ts → (row : List ℕ) (bs : List Batch) (es : List Entry)
    → foldr gather (reading row bs es []) (map (addendum_record e) ts) ≡ reading row bs es ts
read_addenda e h [] a row bs es = refl
read_addenda e h (t ∷ ts) a row bs es =
    let f = addendum_fields e t h a.0 in
    rw (read_addenda e h ts a.1 row bs es, f.type, f.whole)

-- entries with their addenda
read_entries : (es : List Entry) → All SizedEntry es → (row : List ℕ) (bs : List Batch)
    → foldr gather (reading row bs [] []) (foldr (λ e rs. entry_records e ++ rs) [] es) ≡ reading row bs es []
read_entries [] a row bs = refl
read_entries (e ∷ es) a row bs =
    let h = a.0 in
    let rest = foldr (λ e rs. entry_records e ++ rs) [] es in
    foldr-append gather (reading row bs [] []) (entry_records e) rest
    ∙ ap (λ g. foldr gather g (entry_records e)) (read_entries es a.1 row bs)
    ∙ rw (read_addenda e h.long e.addenda h.texts row bs es, (entry_fields e h.long).whole) refl

-- batches
read_batches : (bs : List Batch) → All SizedBatch bs → (row : List ℕ)
    → foldr gather (reading row [] [] []) (foldr (λ b rs. batch_records b ++ rs) [] bs) ≡ reading row bs [] []
read_batches [] a row = refl
read_batches (b ∷ bs) a row =
    let h = a.0 in
    let f = batch_fields b h.long in
    let es = foldr (λ e rs. entry_records e ++ rs) [] b.entries in
    let rest = foldr (λ b rs. batch_records b ++ rs) [] bs in
    foldr-append gather (reading row [] [] []) (batch_records b) rest
    ∙ ap (λ g. foldr gather g (batch_records b)) (read_batches bs a.1 row)
    ∙ rw (foldr-append gather (reading row bs [] []) es (batch_control_record b ∷ []), (batch_control_fields b h.long).type, read_entries b.entries h.each row bs, f.type, f.front, f.back, take-append-drop)

-- filler says nothing
read_fillers : (n : ℕ) → foldr gather nothing (replicate n filler_record) ≡ nothing
read_fillers zero = refl
read_fillers (suc n) = ap (gather filler_record) (read_fillers n)

-- the records of a view say that view
pub view_of_records_lem : (v : View) → Sized v → view_of_records (records_of v) ≡ v
view_of_records_lem v s =
    let f = file_fields v s.long in
    let bs = foldr (λ b rs. batch_records b ++ rs) [] v.batches in
    let end = file_control_record v ∷ replicate (fillers_after (length (body_of v) + 1)) filler_record in
    rw (foldr-append gather nothing bs end, read_fillers, (file_control_fields v).type, read_batches v.batches s.each [], f.type, f.front, f.back, take-append-drop)

-- ---- 94 bytes each

long_addenda : (e : Entry) → length e.row ≡ 93 → (ts : List (List ℕ)) → AllLong 80 ts → AllLong 94 (map (addendum_record e) ts)
long_addenda e h [] a = tt
long_addenda e h (t ∷ ts) a = ((addendum_fields e t h a.0).long, long_addenda e h ts a.1)

long_entries : (es : List Entry) → All SizedEntry es → AllLong 94 (foldr (λ e rs. entry_records e ++ rs) [] es)
long_entries [] a = tt
long_entries (e ∷ es) a =
    let h = a.0 in
    long_append 94 (entry_records e) _ ((entry_fields e h.long).long, long_addenda e h.long e.addenda h.texts) (long_entries es a.1)

long_batches : (bs : List Batch) → All SizedBatch bs → AllLong 94 (foldr (λ b rs. batch_records b ++ rs) [] bs)
long_batches [] a = tt
long_batches (b ∷ bs) a =
    let h = a.0 in
    let es = foldr (λ e rs. entry_records e ++ rs) [] b.entries in
    long_append 94 (batch_records b) _ ((batch_fields b h.long).long, long_append 94 es (batch_control_record b ∷ []) (long_entries b.entries h.each) ((batch_control_fields b h.long).long, tt)) (long_batches bs a.1)

long_fillers : (n : ℕ) → AllLong 94 (replicate n filler_record)
long_fillers zero = tt
long_fillers (suc n) = (refl, long_fillers n)

-- "a file is records of 94 bytes"
pub records_long : (v : View) → Sized v → AllLong 94 (records_of v)
records_long v s =
    long_append 94 (body_of v) _ ((file_fields v s.long).long, long_batches v.batches s.each) ((file_control_fields v).long, long_fillers (fillers_after (length (body_of v) + 1)))

-- so the file's length is theirs, line ends included
pub file_length : (way : Way) (v : View) → Sized v → length (file_of way v) ≡ record_bytes way * length (records_of v)
file_length way v s = closed_length way (records_of v) (records_long v s)

-- a file says the view that it was formed of
pub view_of_file : (way : Way) (v : View) → Sized v → view_of way (file_of way v) ≡ v
view_of_file way v s = ap view_of_records (columns_back way (records_of v) (records_long v s)) ∙ view_of_records_lem v s
