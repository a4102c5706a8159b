-- What a reading answers, and what it leaves: the file's refusal, no room, or the pay table.
-- Assumes nothing.
use Rattle.std.specs.Prelude.{Ok}
use Prim.Native.Nat.{ℕ, ◌+◌, ◌*◌, ◌<◌, ◌≤◌}
use native.Mathlib.Nat.{zero-add}
use native.Mathlib.Omega.{arith}
use mathlib.Core.Path.{◌≡◌, sym, ap, ◌∙◌}
use mathlib.Core.List.{List, ◌++◌}
use borrow.Author.Tests.{le-leb, lt-leb}
use lib.ListN.{length, drop}
use lib.Seq.{sets, sets-eq}
use Rattle.layout.specs.declared.Fault.{Fault}
use Rattle.layout.specs.Answers.{made_as, checked_as}
use Rattle.layout.specs.declared.Acceptance.{Acceptance}
use Rattle.check_record.specs.Record.{checked_of}
use Rattle.view.specs.View.{entries_of, records_of, view_of}
use Rattle.view.specs.Table.{addenda_of, table_of}
use Rattle.view.specs.Outcome.{read_of}
use Rattle.layout.specs.Paper.{refusal}
use Rattle.view_laws.proofs.Reading.{file_length}
use Rattle.view_laws.proofs.BridgeSums.{records_length}
use Rattle.view_laws.proofs.Bridge.{accepted_view}
use Rattle.view_laws.proofs.Own.{own_entries, own_records}
use Rattle.table_read.specs.WorkPasses.{whole_bytes}
use Rattle.table_read.specs.WorkPuts.{Puts, Room}
use Rattle.table_read.proofs.Sections.{file_table, table_length}
use Rattle.layout.specs.declared.Way.{Way}
use Rattle.layout.specs.Ways.{record_bytes}

-- a file of n records
file_long : (way : Way) (size n : ℕ) → size ≡ record_bytes way * n → 1 ≤ n → record_bytes way ≤ size
file_long Way.Plain size n e h = omega arith
file_long Way.Lined size n e h = omega arith

file_short : (way : Way) (size n : ℕ) → size ≡ record_bytes way * n → n ≤ 1000000 → size ≤ 96000000
file_short Way.Plain size n e h = omega arith
file_short Way.Lined size n e h = omega arith

abbrev size_of : Acceptance → ℕ
size_of a = 109 + 95 * a.batches + 93 * a.entries + 80 * a.addenda

-- what an acceptance tells a reading
pub record Accepted (way : Way) (f : List ℕ) (a : Acceptance) : Type 0 where
  pub granted : (checked_of way f).answer ≡ Ok tt
  pub long : record_bytes way ≤ length f
  pub short : length f ≤ 96000000
  pub batches : a.batches < 1000000
  pub entries : a.entries < 1000000
  pub addenda : a.addenda < 1000000
  pub size : length (table_of way f) ≡ size_of a
  pub bytes : whole_bytes way f a.batches a.entries a.addenda ≡ table_of way f

pub accepted : (way : Way) (f : List ℕ) (a : Acceptance) → checked_as (Ok a) ≡ checked_of way f → Accepted way f a
accepted way f a e =
    let granted : (checked_of way f).answer ≡ Ok tt = sym (ap (λ x. x.answer) e) in
    let v = view_of way f in
    let p = accepted_view way f granted in
    let told = own_entries way f granted in
    let size = ap length p.form ∙ file_length way v p.sized in
    let many = records_length v in
    let batches : a.batches ≡ length v.batches = ap (λ x. x.batches) e ∙ told.batches in
    let entries : a.entries ≡ length (entries_of v) = ap (λ x. x.entries) e ∙ told.entries in
    let addenda : a.addenda ≡ length (addenda_of v) = ap (λ x. x.addenda) e ∙ told.addenda in
    record {
      granted = granted;
      long = file_long way (length f) (length (records_of v)) size (omega arith);
      short = file_short way (length f) (length (records_of v)) size p.keeps.fits;
      batches = omega (arith, p.sized.batches);
      entries = omega (arith, p.sized.entries);
      addenda = omega (arith, p.sized.addenda);
      size = rw (batches, entries, addenda) (table_length v p.sized);
      bytes = rw (batches, entries, addenda) (file_table way f v p.sized (own_records way f granted));
    }

module _ (way : Way) (f t : List ℕ) (a : Acceptance) (g : Accepted way f a) where
  -- no room
  pub read_short : length t < size_of a → (record { answer = refusal Fault.Room 0 0; length = 0 } ≡ (read_of way f t).gives) × (t ≡ (read_of way f t).leaves)
  read_short h =
      let short = lt-leb (length (table_of way f)) (length t) (omega (arith, g.size)) in
      (rw (g.granted, short), rw (g.granted, short))

  pub read_room : size_of a ≤ length t → Room (whole_bytes way f a.batches a.entries a.addenda) t 0
  read_room h = record { fits = rw g.bytes (omega (arith, g.size)) }

  -- the table, and the bytes past it
  pub read_made : size_of a ≤ length t → {after : List ℕ} {next : ℕ} → Puts (whole_bytes way f a.batches a.entries a.addenda) t after 0 next
      → (made_as (Ok (size_of a)) ≡ (read_of way f t).gives) × (after ≡ (read_of way f t).leaves)
  read_made h {after} p =
      let room = le-leb (length (table_of way f)) (length t) (omega (arith, g.size)) in
      let stands : after ≡ table_of way f ++ drop (length (table_of way f)) t =
      p.stands ∙ ap (sets t 0) g.bytes ∙ sets-eq (table_of way f) t 0 (omega (arith, g.size)) ∙ rw (zero-add (length (table_of way f))) in
      (rw (g.granted, room, g.size), rw (g.granted, room) stands)
