-- What an accepted file tells of an entry that there is.
-- Assumes nothing but that.
use mathlib.Core.Path.{◌≡◌, sym, ap, ◌∙◌}
use mathlib.Core.List.{List, []}
use Prim.Native.Nat.{ℕ, ◌+◌, ◌-◌, ◌*◌, ◌/◌, ◌≤◌, ◌<◌}
use native.Mathlib.Omega.{arith}
use lib.Dec.{lit<}
use lib.ListN.{length, take, drop, get_or, length-map}
use Rattle.text.proofs.RowLaws.{length_rows}
use Rattle.view.specs.View.{entry_record, batch_control_record, records_of, view_of}
use Rattle.view.specs.Outcome.{entry_at, spot_of, entry_number, batch_control_number, file_control_number}
use Rattle.view_laws.proofs.AmendFile.{entry_record_lem, batch_control_record_lem}
use Rattle.view_laws.proofs.Bridge.{accepted_view}
use Rattle.view_laws.proofs.Own.{own_records}
use Rattle.find_entry.specs.declared.find.Places.{Places}
use Rattle.layout.specs.declared.Way.{Way}
use Rattle.layout.specs.Ways.{record_bytes}
use Rattle.check_record.specs.Record.{raw_records, columns_in}
use Rattle.find_entry.specs.WorkFind.{nth_of}
use Rattle.find_entry.specs.WorkThere.{There, EntryAt, Found}
use Rattle.find_entry.proofs.Parts.{record_part, starts, counted}
use Rattle.find_entry.proofs.Places.{entry_found, control_found, last_found, in_order}

module _ (way : Way) (f : List ℕ) (k : ℕ) (t : There way f k) where
  records_are : columns_in way f ≡ records_of (view_of way f)
  records_are = own_records way f t.accepted

  records_many : length (records_of (view_of way f)) ≡ length f / record_bytes way
  records_many = ap length (sym records_are) ∙ length-map (raw_records way f) (take 94) ∙ length_rows (record_bytes way) (length f / record_bytes way) f

  pub entry_at_lem : (i : ℕ) → i ≡ 0 + nth_of 54 (k - 1) (drop 0 (columns_in way f)) → EntryAt way f k i
  entry_at_lem i e =
      let v = view_of way f in
      let number : nth_of 54 (k - 1) (columns_in way f) + 1 ≡ entry_number (spot_of v k) =
      ap (λ rs. nth_of 54 (k - 1) rs + 1) records_are ∙ entry_found v k t.first t.last in
      record { number = omega (arith, e, number); inside = starts way (length f) (i + 2) (omega (arith, e, number, (in_order v k t.first t.last).0, (in_order v k t.first t.last).1, (in_order v k t.first t.last).2, records_many)) }

  pub found : (p : Places) → EntryAt way f k p.entry
      → p.control ≡ p.entry + nth_of 56 0 (drop p.entry (columns_in way f))
      → p.last ≡ p.entry + nth_of 57 0 (drop p.entry (columns_in way f)) → Found way f k p
  found p a c l =
      let v = view_of way f in
      let i = p.entry in
      let control : i + nth_of 56 0 (drop i (columns_in way f)) + 1 ≡ batch_control_number (spot_of v k) =
      ap (λ rs. i + nth_of 56 0 (drop i rs) + 1) records_are ∙ control_found v k t.first t.last i a.number in
      let last : i + nth_of 57 0 (drop i (columns_in way f)) + 1 ≡ file_control_number v =
      ap (λ rs. i + nth_of 57 0 (drop i rs) + 1) records_are ∙ last_found v k t.first t.last i a.number in
      let order = in_order v k t.first t.last in
      record {
        entry = a.number;
        control = omega (arith, c, control);
        last = omega (arith, l, last);
        first = omega (arith, a.number, c, control, order.0);
        second = omega (arith, c, control, l, last, order.1);
        inside = starts way (length f) (p.last + 1) (omega (arith, l, last, order.2, records_many));
      }

  -- the record at that index is the entry's
  pub entry_text : (i : ℕ) → EntryAt way f k i → get_or (columns_in way f) i [] ≡ entry_record (entry_at (view_of way f) k)
  entry_text i at =
      let v = view_of way f in
      let here : i ≡ entry_number (spot_of v k) - 1 = omega (arith, at.number) in
      ap (λ rs. get_or rs i []) records_are
      ∙ ap (λ n. get_or (records_of v) n []) here
      ∙ entry_record_lem v k 0 (accepted_view way f t.accepted).sized t.first t.last (lit< tt)

  module _ (p : Places) (at : Found way f k p) where
    pub found_entry : EntryAt way f k p.entry
    found_entry = record { number = at.entry; inside = starts way (length f) (p.entry + 2) (omega (arith, at.first, at.second, counted way (length f) (p.last + 1) at.inside)) }

    -- and the one at the control's index is its batch's control
    control_text : get_or (columns_in way f) p.control [] ≡ batch_control_record (spot_of (view_of way f) k).batch
    control_text =
        let v = view_of way f in
        let here : p.control ≡ batch_control_number (spot_of v k) - 1 = omega (arith, at.control) in
        ap (λ rs. get_or rs p.control []) records_are
        ∙ ap (λ n. get_or (records_of v) n []) here
        ∙ batch_control_record_lem v k 0 (accepted_view way f t.accepted).sized t.first t.last (lit< tt)

    -- so a total of it stands in the file
    pub total_text : (o : ℕ) → o + 12 ≤ 94 → take 12 (drop (record_bytes way * p.control + o) f) ≡ take 12 (drop o (batch_control_record (spot_of (view_of way f) k).batch))
    total_text o h =
        sym (record_part way f p.control (omega (arith, at.second, counted way (length f) (p.last + 1) at.inside)) o 12 h) ∙ ap (λ r. take 12 (drop o r)) control_text

    pub few_records : p.last < 1000000
    few_records = omega (arith, at.last, (in_order (view_of way f) k t.first t.last).2, (accepted_view way f t.accepted).keeps.fits)
