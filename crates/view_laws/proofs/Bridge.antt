-- The bridge: a file is accepted exactly if it is the file of a view that has its sizes and keeps the rules; that view is the one
-- which the file says. From here on no theorem speaks of the run.
-- Assumes nothing.
use Rattle.std.specs.Prelude.{Ok}
use mathlib.Core.Path.{◌≡◌, refl, sym, ap, ◌∙◌, subst}
use mathlib.Core.Logic.{◌↔◌}
use mathlib.Core.Bool.{Bool, true, false, ◌&&◌}
use mathlib.Core.List.{List, map}
use Prim.Native.Nat.{ℕ, ◌*◌, ◌/◌, ◌%◌, ◌<◌, ◌≤◌}
use native.Mathlib.Nat.{mul-mod_right, mul-le-mul_left, one-le-mul}
use native.Mathlib.Omega.{arith}
use lib.Dec.{eqb, leb}
use lib.ListN.{length, take, length-map}
use lib.Seq.{take_all}
use borrow.Author.Tests.{eqb-true, leb-true, le-leb, lt-leb}
use Rattle.text.specs.Decimal.{pick}
use Rattle.text.specs.Rows.{joined}
use Rattle.text.specs.Widths.{AllLong}
use Rattle.text.proofs.DecimalLaws.{and_both}
use Rattle.text.proofs.RowLaws.{joined_rows, rows_long, length_rows}
use Rattle.layout.specs.declared.Way.{Way}
use Rattle.layout.specs.Ways.{record_bytes}
use Rattle.layout.specs.declared.Fault.{Fault}
use Rattle.check_sums.specs.Sums.{start}
use Rattle.check_record.specs.Record.{run_from, refused, checked_of, length_fits, most_records, raw_records, piece_of}
use Rattle.check_record.proofs.Ways.{some_bytes, rows_inside, rows_whole, rows_few, rows_many}
use Rattle.view.specs.View.{View, closed_by, records_of, file_of, view_of, entries_of}
use Rattle.view.specs.Sized.{Sized}
use Rattle.view.specs.Keeps.{Keeps}
use Rattle.view_laws.proofs.Ways.{bare_run, closed_length, pieces_back, cut_long}
use Rattle.view_laws.proofs.Reading.{records_long, view_of_file}
use Rattle.view_laws.proofs.BridgeSums.{records_length, body_length, count_records}
use Rattle.view_laws.proofs.BridgeSound.{raw_granted, source}
use Rattle.view_laws.proofs.BridgeWalk.{granted_of}
use Rattle.view_laws.proofs.BridgeComplete.{records_accepted}

-- checking a file is running over its records
pub checked_joined : (way : Way) (rs : List (List ℕ)) → AllLong 94 rs → 1 ≤ length rs → length rs ≤ most_records
    → checked_of way (joined (map (closed_by way) rs)) ≡ bare_run start rs
checked_joined way rs l a b =
    let w = record_bytes way in
    rw (pieces_back way rs l, closed_length way rs l, le-leb 1 (w * length rs) (one-le-mul (some_bytes way) a), mul-mod_right w (length rs), le-leb (w * length rs) (w * most_records) (mul-le-mul_left w b))

-- more records than a file may have are refused 1
pub checked_many : (way : Way) (rs : List (List ℕ)) → AllLong 94 rs → most_records < length rs → checked_of way (joined (map (closed_by way) rs)) ≡ refused Fault.Length 0 0
checked_many way rs l m =
    let w = record_bytes way in
    rw (closed_length way rs l, le-leb 1 (w * length rs) (one-le-mul (some_bytes way) (omega arith)), mul-mod_right w (length rs), lt-leb (w * length rs) (w * most_records) (rows_many way (length rs) m)) refl

-- a file that a view makes
pub record FileOf (way : Way) (f : List ℕ) (v : View) : Type 0 where
  pub sized : Sized v
  pub keeps : Keeps v
  pub form : f ≡ file_of way v

module _ (way : Way) where
  -- the file of a view that keeps the rules is accepted, with the sums of its entries
  pub complete : (v : View) → Sized v → Keeps v → checked_of way (file_of way v) ≡ granted_of v
  complete v l k =
      let all = records_length v in
      checked_joined way (records_of v) (records_long v l) (omega arith) k.fits ∙ records_accepted v l k

  -- so it is granted
  pub granted : (v : View) → Sized v → Keeps v → (checked_of way (file_of way v)).answer ≡ Ok tt
  granted v l k = ap (λ c. c.answer) (complete v l k)

  -- an accepted file is the file of a view that keeps the rules
  pub sound : (f : List ℕ) → (checked_of way f).answer ≡ Ok tt → (v : View) × FileOf way f v
  sound f e = go (length_fits way (length f)) refl e
    where
      go : (b : Bool) → length_fits way (length f) ≡ b → (pick b (run_from start (map (piece_of way) (raw_records way f))) (refused Fault.Length 0 0)).answer ≡ Ok tt
          → (v : View) × FileOf way f v
      go false h g = cc
      go true h g =
          let w = record_bytes way in
          let n = length f / w in
          let one = and_both (leb 1 (length f) && eqb (length f % w) 0) (leb (length f) (w * most_records)) h in
          let whole = rows_whole way (length f) (eqb-true (length f % w) 0 (and_both (leb 1 (length f)) _ one.0).1) in
          let few = rows_few way (length f) (leb-true (length f) (w * most_records) one.1) in
          let raw = raw_records way f in
          let closed = raw_granted way start raw g in
          let s = source (map (take 94) raw) (cut_long way raw (rows_long w n f (rows_inside way (length f)))) closed.1 in
          let counted : length (records_of s.view) ≡ n = ap length (sym s.form) ∙ length-map raw (take 94) ∙ length_rows w n f in
          let all = records_length s.view in
          let body = body_length s.view in
          let entries = count_records (entries_of s.view) in
          let fits : length (records_of s.view) ≤ most_records = rw counted few in (
            s.view,
            record {
              sized = record { long = s.long; each = s.each; batches = omega arith; entries = omega arith; addenda = omega arith };
              keeps = record { fields = s.fields; nonempty = s.nonempty; batches = s.batches; within = s.within; fits = fits };
              form = sym (take_all (w * n) f whole) ∙ sym (joined_rows w n f) ∙ ap joined closed.0 ∙ ap (λ rs. joined (map (closed_by way) rs)) s.form;
            },
          )

  -- exactly so
  pub accepted_exactly : (f : List ℕ) → ((checked_of way f).answer ≡ Ok tt) ↔ ((v : View) × FileOf way f v)
  accepted_exactly f = (sound f, λ p. rw p.1.form (granted p.0 p.1.sized p.1.keeps))

  -- and it is the view that the file says: there is one such view
  pub only_view : (f : List ℕ) (v : View) → FileOf way f v → v ≡ view_of way f
  only_view f v p = rw p.form (sym (view_of_file way v p.sized))

  -- so an accepted file says a view that keeps the rules, and is the file of it
  pub accepted_view : (f : List ℕ) → (checked_of way f).answer ≡ Ok tt → FileOf way f (view_of way f)
  accepted_view f e = let p = sound f e in subst (FileOf way f) (only_view f p.0 p.1) p.1

  -- and what its check gives is told by that view
  pub accepted_gives : (f : List ℕ) → (checked_of way f).answer ≡ Ok tt → checked_of way f ≡ granted_of (view_of way f)
  accepted_gives f e = let p = accepted_view f e in ap (checked_of way) p.form ∙ complete (view_of way f) p.sized p.keeps

  -- a view's file is accepted exactly if the view keeps the rules
  pub keeps_exactly : (v : View) → Sized v → ((checked_of way (file_of way v)).answer ≡ Ok tt) ↔ Keeps v
  keeps_exactly v l = (λ e. subst Keeps (view_of_file way v l) (accepted_view (file_of way v) e).keeps, granted v l)
