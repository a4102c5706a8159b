-- The records of a view that keeps the rules are accepted, and with which numbers.
-- Assumes the view's sizes.
use Rattle.std.specs.Prelude.{Ok}
use mathlib.Core.Path.{◌≡◌, refl, ◌∙◌}
use mathlib.Core.List.{List, [], ◌∷◌}
use Prim.Native.Nat.{ℕ, ◌^◌, ◌≤◌, ◌<◌}
use Rattle.std.proofs.Common.{rules}
use native.Mathlib.Omega.{arith}
use lib.ListN.{length}
use Rattle.layout.specs.declared.Line.{Line}
use Rattle.layout.specs.Fields.{rows_of}
use Rattle.check_across.specs.declared.Sums.{Sums}
use Rattle.check_sums.specs.Sums.{start, no_sums, add_record, add_batch}
use Rattle.check_across.specs.Across.{batch_number}
use Rattle.view.specs.View.{Entry, Batch, View, batch_record, records_of, records_in, sum_over}
use Rattle.view.specs.Sized.{All, SizedBatch, Sized}
use Rattle.view.specs.Keeps.{Right, EntriesKeep, BatchesKeep, Keeps}
use Rattle.view_laws.proofs.Lists.{sum_append}
use Rattle.view_laws.proofs.Tables.{entries_in}
use Rattle.view_laws.proofs.BridgeSums.{after_entry, after_batch, entry_count, entry_trace_lem, batch_number_lem, records_length, body_length}
use Rattle.view_laws.proofs.BridgeControls.{total_right, control_marks, file_control_marks}
use Rattle.view_laws.proofs.BridgeWalk.{granted_of, pass, EntriesOk, BatchesOk, Some, file_walk}
use Rattle.view_laws.proofs.Ways.{bare_run}

abbrev RightAt : Line → Sums → List ℕ → List ℕ → Type 0
RightAt line s h r = Right (rows_of line) s h r

-- what a view keeps is what the run asks of its records
entries_right : (s : Sums) (h : List ℕ) (es : List Entry) → EntriesKeep h s.batchrecords s.trace es → EntriesOk RightAt s h es
entries_right s h [] k = tt
entries_right s h (e ∷ es) k =
    (k.0.fields, k.0.addenda, entries_right (after_entry s e) h es (rw (entry_count s e, entry_trace_lem s e) k.1))

batches_right : (s : Sums) (bs : List Batch) → All SizedBatch bs → BatchesKeep s.number bs → sum_over records_in (entries_in bs) < 10 ^ 6 → BatchesOk RightAt s bs
batches_right s [] l k n = tt
batches_right s (b ∷ bs) l k n =
    let all = sum_append records_in b.entries (entries_in bs) in
    let w = k.0.within in (
      record {
        header = λ h. k.0.fields;
        entries = entries_right (add_batch s (batch_record b)) (batch_record b) b.entries k.0.entries;
        control = control_marks (λ m. m ≡ Ok tt) refl s b l.0.long (omega arith) (total_right _ w.debit) (total_right _ w.credit);
      },
      batches_right (after_batch s b) bs l.1 (rw (batch_number_lem s b) k.1) (omega arith),
    )

-- no batch is empty, nor is the file
some : {A : Type 0} (xs : List A) → 1 ≤ length xs → Some ⊥ xs
some xs l = search rules

all_some : (number : ℕ) (bs : List Batch) → BatchesKeep number bs → All (λ b. Some ⊥ b.entries) bs
all_some number [] k = tt
all_some number (b ∷ bs) k = (some b.entries k.0.nonempty, all_some (batch_number (batch_record b)) bs k.1)

-- the records of a view that keeps the rules are accepted
pub records_accepted : (v : View) → Sized v → Keeps v → bare_run start (records_of v) ≡ granted_of v
records_accepted v l k =
    let all = records_length v in
    let body = body_length v in
    let w = k.within in
    file_walk (λ c. c ≡ granted_of v) RightAt ⊥ (λ st line r rs e g p. pass st line r rs e g ∙ p) (λ n st r rs e. absurd n) v l
    (some v.batches k.nonempty)
    (all_some 0 v.batches k.batches)
    (record {
      header = k.fields;
      batches = batches_right (add_record no_sums) v.batches l.each k.batches (omega arith);
      control = λ h. file_control_marks (λ m. m ≡ Ok tt) refl v h k.fits (total_right _ w.debit) (total_right _ w.credit);
    })
    refl
