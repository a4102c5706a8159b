-- The three demands, sentence by sentence, over the contracts alone: whatever outcome a contract permits has these properties.
-- Assumes nothing.
use Rattle.std.specs.Prelude.{Ok, Err}
use mathlib.Core.Path.{◌≡◌, refl, sym, ap, ◌∙◌, subst}
use mathlib.Core.Logic.{◌↔◌, ◌⊎◌, inl, inr}
use mathlib.Core.Bool.{true, false}
use mathlib.Core.List.{List, [], ◌++◌, map}
use Prim.Native.Nat.{ℕ, ◌≤◌}
use lib.ListN.{length, get_or, take, drop}
use lib.Seq.{take-append_seam}
use lib.IntN.{pos, ◌-ℤ◌}
use Rattle.text.specs.Decimal.{render}
use Rattle.text.specs.Rows.{joined}
use Rattle.layout.specs.declared.Fault.{Fault}
use Rattle.layout.specs.Answers.{Answer}
use Rattle.layout.specs.declared.Refusal.{Refusal}
use Rattle.layout.specs.Answers.{Checked}
use Rattle.layout.specs.Answers.{Made}
use Rattle.layout.specs.Answers.{Altered}
use Rattle.layout.specs.Fields.{part, entry, batch_control, file_control}
use Rattle.layout.specs.Paper.{paper_of}
use Rattle.find_entry.specs.AskedSpan.{AskedSpan}
use Rattle.check_sums.specs.Sums.{start}
use Rattle.check_record.specs.Record.{length_fits, raw_records, columns_in, piece_of, checked_of}
use Rattle.view.specs.View.{View, sum_over, debit_of, credit_of, amount_of, entries_of, file_control_record, records_of, view_of}
use Rattle.view.specs.Table.{shaped, formed, table_of, view_of_table}
use Rattle.view.specs.Outcome.{made, read_of, write_of, alter_of, addendum_answer, addendum_of, entry_at, spot_of, entry_number, batch_control_number, file_control_number, exists, altered_table}
use Rattle.view.specs.Sized.{All}
use Rattle.view.specs.Runs.{Alterable}
use Rattle.funds.specs.Funds.{rows_of, true_list}
use Rattle.funds.specs.Outcome.{check_of}
use Rattle.alter.specs.Alter.{alter_listed_of}
use Rattle.funds.proofs.CheckLaws.{check_own, check_leaves, check_exactly, check_gives}
use Rattle.funds.proofs.FrontLaws.{begins_exactly}
use Rattle.alter.proofs.Listing.{listed_exactly, as_asked, listed_refused}
use Rattle.view_laws.proofs.Formed.{BatchControlFields, FileControlFields, file_control_fields}
use Rattle.view_laws.proofs.AmendFile.{field_at, Outside}
use Rattle.view_laws.proofs.Bridge.{FileOf, accepted_exactly, only_view}
use Rattle.view_laws.proofs.Own.{Told, own_entries, own_controls, own_records, own_table}
use Rattle.view_laws.proofs.RoundTrips.{read_done, write_done, read_write, write_read}
use Rattle.view_laws.proofs.Alter.{alter_exactly, alter_leaves, alter_accepted, alter_table, alter_length, alter_bytes, alter_difference, alter_same}
use Rattle.find_entry.proofs.Addenda.{granted_there, part_refused, handed}
use Rattle.ach.specs.Permits.{Checks, Reads, Writes, Alters, HandsOut, Explains, Spans}
use Rattle.ach.proofs.ToldLaws.{number_range}
use Rattle.ach.proofs.First.{First, refused_first}
use Rattle.ach.proofs.Grants.{read_leaves, write_leaves, read_exactly, write_exactly, write_file, done}
use Rattle.layout.specs.declared.Way.{Way}

module _ (way : Way) where
  -- byte i of a file lies outside of the amount of entry k, of the two totals of its batch, and of the two of the file
  pub record Elsewhere (v : View) (k i : ℕ) : Type 0 where
    pub amount : Outside i (field_at way entry 6 (entry_number (spot_of v k))) 10
    pub batch_debit : Outside i (field_at way batch_control 5 (batch_control_number (spot_of v k))) 12
    pub batch_credit : Outside i (field_at way batch_control 6 (batch_control_number (spot_of v k))) 12
    pub file_debit : Outside i (field_at way file_control 6 (file_control_number v)) 12
    pub file_credit : Outside i (field_at way file_control 7 (file_control_number v)) 12

  -- ---- 1. Every public entry point takes all input, well formed or not, ends, and does its own checking.

  -- for every input an outcome is permitted: no contract asks anything of its caller
  pub check_ends : (f held : List ℕ) → (r : Checked) × (left : List ℕ) × Checks way f held r left
  check_ends f held = ((check_of way f held).gives, (check_of way f held).leaves, (refl, refl))

  pub read_ends : (f held : List ℕ) → (r : Made) × (left : List ℕ) × Reads way f held r left
  read_ends f held = ((read_of way f held).gives, (read_of way f held).leaves, (refl, refl))

  pub write_ends : (t held : List ℕ) → (r : Made) × (left : List ℕ) × Writes way t held r left
  write_ends t held = ((write_of way t held).gives, (write_of way t held).leaves, (refl, refl))

  pub alter_ends : (f held : List ℕ) (k a : ℕ) → (r : Altered) × (left : List ℕ) × (rows : List ℕ) × Alters way f held k a r left rows
  alter_ends f held k a =
      let o = alter_listed_of way f held k a in
      (o.gives, o.leaves, o.rows, (refl, refl, refl))

  pub addendum_ends : (f : List ℕ) (k : ℕ) → ((bytes : List ℕ) × HandsOut way f k bytes) × ((e : Answer) × Explains way f k e) × ((r : AskedSpan) × Spans way f k r)
  addendum_ends f k =
      let p = addendum_of way f k in
      let e = addendum_answer way f k in
      ((take p.size (drop p.from f), refl), (e, refl), (record { answer = e; from = p.from; size = p.size }, (refl, refl, refl)))

  -- and no other: any two permitted outcomes coincide, the result and the content of all that is lent
  same : {A : Type 0} {x y z : A} → x ≡ z → y ≡ z → x ≡ y
  same p q = p ∙ sym q

  pub check_one : (f held left kept : List ℕ) (r s : Checked) → Checks way f held r left → Checks way f held s kept → (r ≡ s) × (left ≡ kept)
  check_one f held left kept r s p q = (same p.0 q.0, same p.1 q.1)

  pub read_one : (f held left kept : List ℕ) (r s : Made) → Reads way f held r left → Reads way f held s kept → (r ≡ s) × (left ≡ kept)
  read_one f held left kept r s p q = (same p.0 q.0, same p.1 q.1)

  pub write_one : (t held left kept : List ℕ) (r s : Made) → Writes way t held r left → Writes way t held s kept → (r ≡ s) × (left ≡ kept)
  write_one t held left kept r s p q = (same p.0 q.0, same p.1 q.1)

  pub alter_one : (f held left kept rows list : List ℕ) (k a : ℕ) (r s : Altered) → Alters way f held k a r left rows → Alters way f held k a s kept list
      → (r ≡ s) × (left ≡ kept) × (rows ≡ list)
  alter_one f held left kept rows list k a r s p q = (same p.0 q.0, same p.1 q.1, same p.2 q.2)

  pub addendum_one : (f x y : List ℕ) (k : ℕ) → HandsOut way f k x → HandsOut way f k y → x ≡ y
  addendum_one f x y k p q = same p q

  pub answer_one : (f : List ℕ) (k : ℕ) (r s : Answer) → Explains way f k r → Explains way f k s → r ≡ s
  answer_one f k r s p q = same p q

  spans_same : (r s : AskedSpan) → r.answer ≡ s.answer → r.from ≡ s.from → r.size ≡ s.size → r ≡ s
  spans_same r s a b c = rw (a, b, c)

  pub span_one : (f : List ℕ) (k : ℕ) (r s : AskedSpan) → Spans way f k r → Spans way f k s → r ≡ s
  span_one f k r s p q = spans_same r s (same p.0 q.0) (same p.1 q.1) (same p.2 q.2)

  -- It grants, or names the first refusal by number, record and field.

  -- the answer is a grant, numbered 0, or a refusal, numbered 1 to 34
  pub grants_or_names : (a : Answer) → ((a ≡ Ok tt) × ((paper_of a).number ≡ 0)) ⊎ ((x : Refusal) × (a ≡ Err x) × (1 ≤ (paper_of a).number) × ((paper_of a).number ≤ 34))
  grants_or_names (Ok _) = inl (refl, refl)
  grants_or_names (Err x) = inr (x, refl, (number_range x.fault).0, (number_range x.fault).1)

  -- the file's own is the one where the run over records and fields in order stops: all records before passed, and all fields before were right
  pub check_first : (f held left : List ℕ) (r : Checked) (x : Refusal) → Checks way f held r left → (checked_of way f).answer ≡ Err x
      → (paper_of r.answer ≡ paper_of (Err x))
      × (((length_fits way (length f) ≡ false) × (x.fault ≡ Fault.Length) × (x.record.0 ≡ 0) × (x.field ≡ 0)) ⊎ First start (map (piece_of way) (raw_records way f)) x)
  check_first f held left r x p e = (ap (λ (c : Checked). paper_of c.answer) (p.0 ∙ (check_own way f held x e).0) ∙ ap paper_of e, refused_first way f x e)

  -- such a file is refused by checking, reading, altering and asking for an addendum, with the same number, record and field, whatever else is lent
  pub file_refused : (f held left kept rows list table : List ℕ) (k a : ℕ) (c : Checked) (r : Made) (s : Altered) (e : Answer) (x : Refusal)
      → (checked_of way f).answer ≡ Err x → Checks way f rows c list → Reads way f table r left → Alters way f rows k a s kept held → Explains way f k e
      → (c.answer ≡ Err x) × (r.answer ≡ Err x) × (s.answer ≡ Err x) × (e ≡ Err x)
  file_refused f held left kept rows list table k a c r s e x h p q u w =
      (ap (λ (m : Checked). m.answer) (p.0 ∙ (check_own way f rows x h).0) ∙ h, rw (q.0, h), rw (u.0, h), rw (w, h))

  -- After a refusal the lent file and table hold exactly the bytes they held before.
  pub read_refused : (f held left : List ℕ) (r : Made) (x : Refusal) → Reads way f held r left → r.answer ≡ Err x → left ≡ held
  read_refused f held left r x p e = p.1 ∙ (read_leaves way f held x (rw (← p.0) e)).0

  pub write_refused : (t held left : List ℕ) (r : Made) (x : Refusal) → Writes way t held r left → r.answer ≡ Err x → left ≡ held
  write_refused t held left r x p e = p.1 ∙ (write_leaves way t held x (rw (← p.0) e)).0

  pub check_refused : (f held left : List ℕ) (r : Checked) (x : Refusal) → Checks way f held r left → r.answer ≡ Err x → left ≡ held
  check_refused f held left r x p e = p.1 ∙ (check_leaves way f held x (rw (← p.0) e)).1

  pub alteration_refused : (f held left rows : List ℕ) (k a : ℕ) (r : Altered) (x : Refusal) → Alters way f held k a r left rows → r.answer ≡ Err x
      → (left ≡ f) × (rows ≡ held) × (r.difference ≡ pos 0)
  alteration_refused f held left rows k a r x p e =
      let o = listed_refused way f held k a x (rw (← p.0) e) in
      (p.1 ∙ o.0, p.2 ∙ o.1, ap (λ (m : Altered). m.difference) p.0 ∙ o.2)

  -- ---- 2. A file is accepted exactly if it keeps the rules for PPD and CCD, its counts, hashes and totals being those of its own entries.

  -- it is the file that a view makes which keeps the rules; there is one such view, and it is what the file says. (Checking asks for room in the
  -- lent list besides: `exactly_checked` in Money.)
  pub exactly_accepted : (f : List ℕ) → ((checked_of way f).answer ≡ Ok tt) ↔ ((v : View) × FileOf way f v)
  exactly_accepted f = accepted_exactly way f

  pub one_view : (f : List ℕ) (v : View) → FileOf way f v → v ≡ view_of way f
  one_view f = only_view way f

  module _ (f held left : List ℕ) (c : Checked) (p : Checks way f held c left) where
    module _ (g : c.answer ≡ Ok tt) where
      accepted : (checked_of way f).answer ≡ Ok tt
      accepted = ((check_exactly way f held).0 (rw (← p.0) g)).0

      -- its records are those of that view, one for one and in order, the controls among them
      pub own_records_in_order : columns_in way f ≡ records_of (view_of way f)
      own_records_in_order = own_records way f accepted

      -- and the numbers given, and every field of the controls, are counts and sums over its own entries
      pub own_numbers : Told c (view_of way f) × All BatchControlFields (view_of way f).batches × FileControlFields (view_of way f)
      own_numbers =
          let o = own_controls way f accepted in
          (subst (λ x. Told x (view_of way f)) (sym (p.0 ∙ check_gives way f held (rw (← p.0) g))) (own_entries way f accepted), o.0, o.1)

  -- Reading an accepted file into enough room gives its pay table;
  module _ (f held left : List ℕ) (r : Made) (p : Reads way f held r left) where
    pub exactly_read : (r.answer ≡ Ok tt) ↔ (((checked_of way f).answer ≡ Ok tt) × (length (table_of way f) ≤ length held))
    exactly_read = rw p.0 (read_exactly way f held)

    pub read_gives : r.answer ≡ Ok tt → (r.length ≡ length (table_of way f)) × (left ≡ table_of way f ++ drop (length (table_of way f)) held)
    read_gives g =
        let h = (read_exactly way f held).0 (rw (← p.0) g) in
        let o = read_done way f held h.0 h.1 in
        (ap (λ (m : Made). m.length) (p.0 ∙ ap (λ x. x.gives) o), p.1 ∙ ap (λ x. x.leaves) o)

  -- a table is written exactly if the file formed from it would be accepted and there is room. (Bytes of another shape are no table.)
  module _ (t held left : List ℕ) (r : Made) (p : Writes way t held r left) where
    pub exactly_written : (r.answer ≡ Ok tt) ↔ ((shaped t ≡ true) × ((checked_of way (formed way t)).answer ≡ Ok tt) × (length (formed way t) ≤ length held))
    exactly_written = rw p.0 (write_exactly way t held)

    pub write_gives : r.answer ≡ Ok tt → (r.length ≡ length (formed way t)) × (left ≡ formed way t ++ drop (length (formed way t)) held)
    write_gives g =
        let h = (write_exactly way t held).0 (rw (← p.0) g) in
        let o = write_done way t held h.0 h.1 h.2 in
        (ap (λ (m : Made). m.length) (p.0 ∙ ap (λ x. x.gives) o), p.1 ∙ ap (λ x. x.leaves) o)

  -- Reading undoes writing and writing undoes reading;
  pub writing_undoes_reading : (f held left room kept : List ℕ) (r s : Made) → Reads way f held r left → r.answer ≡ Ok tt
      → Writes way (take r.length left) room s kept → length f ≤ length room
      → (s.answer ≡ Ok tt) × (s.length ≡ length f) × (take s.length kept ≡ f)
  writing_undoes_reading f held left room kept r s p g q l =
      let o = read_write way f held room (rw (← p.0) g) l in
      done s kept f room (q.0 ∙ rw (p.0, p.1) (ap (λ x. x.gives) o)) (q.1 ∙ rw (p.0, p.1) (ap (λ x. x.leaves) o))

  pub reading_undoes_writing : (t held left room kept : List ℕ) (r s : Made) → Writes way t held r left → r.answer ≡ Ok tt
      → Reads way (take r.length left) room s kept → length t ≤ length room
      → (s.answer ≡ Ok tt) × (s.length ≡ length t) × (take s.length kept ≡ t)
  reading_undoes_writing t held left room kept r s p g q l =
      let o = write_read way t held room (rw (← p.0) g) l in
      done s kept t room (q.0 ∙ rw (p.0, p.1) (ap (λ x. x.gives) o)) (q.1 ∙ rw (p.0, p.1) (ap (λ x. x.leaves) o))

  -- the table's debits and credits are the file's two totals, to the cent.
  pub table_totals : (f held left rows list : List ℕ) (c : Checked) (r : Made) → Checks way f rows c list → c.answer ≡ Ok tt → Reads way f held r left → r.answer ≡ Ok tt
      → let es = entries_of (view_of_table (take r.length left)) in
      (sum_over debit_of es ≡ c.debit) × (sum_over credit_of es ≡ c.credit)
      × (part file_control 6 (file_control_record (view_of way f)) ≡ render 12 c.debit) × (part file_control 7 (file_control_record (view_of way f)) ≡ render 12 c.credit)
  table_totals f held left rows list c r q a p g =
      let h = (read_exactly way f held).0 (rw (← p.0) g) in
      let got = read_gives f held left r p g in
      let t : take r.length left ≡ table_of way f = rw (got.0, got.1) (take-append_seam (table_of way f) (drop (length (table_of way f)) held)) in
      let gave : c ≡ checked_of way f = q.0 ∙ check_gives way f rows (rw (← q.0) a) in
      let own = own_table way f h.0 in
      let told = own_entries way f h.0 in
      let fields = file_control_fields (view_of way f) in
      (rw (t, gave) own.0, rw (t, gave) own.1, fields.debit ∙ rw gave (ap (render 12) (sym told.debit)), fields.credit ∙ rw gave (ap (render 12) (sym told.credit)))

  -- ---- 3. In an accepted file one entry's amount may be altered:

  module _ (f held left rows : List ℕ) (k a : ℕ) (r : Altered) (p : Alters way f held k a r left rows) where
    -- granted exactly if the entry exists, the amount fits ten digits and the file written afresh from the altered table would be accepted, and
    -- the first rows lent are the list of the file before the alteration.
    pub exactly_altered : (r.answer ≡ Ok tt) ↔ (Alterable way f k a × (take (length (rows_of (view_of way f))) held ≡ rows_of (view_of way f)))
    exactly_altered =
        let own = begins_exactly (rows_of (view_of way f)) held in (
          λ e. let h = (listed_exactly way f held k a).0 (rw (← p.0) e) in ((alter_exactly way f k a).0 h.0, own.0 h.1),
          λ h. rw p.0 ((listed_exactly way f held k a).1 ((alter_exactly way f k a).1 h.0, own.1 h.1)),
        )

    module _ (g : r.answer ≡ Ok tt) where
      granted : (alter_of way f k a).gives.answer ≡ Ok tt
      granted = ((listed_exactly way f held k a).0 (rw (← p.0) g)).0

      gave : (r ≡ (alter_of way f k a).gives) × (left ≡ (alter_of way f k a).leaves)
      gave =
          let o = as_asked way f held k a ((alter_exactly way f k a).0 granted).accepted ((listed_exactly way f held k a).0 (rw (← p.0) g)).1 in
          (p.0 ∙ sym o.0, p.1 ∙ sym o.1)

      -- The result is that file; (it is the one that write permits)
      pub alter_afresh : left ≡ formed way (altered_table (table_of way f) k a)
      alter_afresh = gave.1 ∙ alter_leaves way f k a granted

      pub alter_as_written : (lent kept : List ℕ) (s : Made) → Writes way (altered_table (table_of way f) k a) lent s kept → length f ≤ length lent
          → (s.answer ≡ Ok tt) × (s.length ≡ length left) × (take s.length kept ≡ left)
      alter_as_written lent kept s q l =
          let o : write_of way (altered_table (table_of way f) k a) lent ≡ made (Ok tt) (alter_of way f k a).leaves lent =
          ap (λ t. write_of way t lent) (sym (alter_table way f k a granted)) ∙ write_file way (alter_of way f k a).leaves lent (alter_accepted way f k a granted) (rw (alter_length way f k a granted) l) in
          rw gave.1 (done s kept (alter_of way f k a).leaves lent (q.0 ∙ ap (λ x. x.gives) o) (q.1 ∙ ap (λ x. x.leaves) o))

      -- no byte differs outside that amount, the two totals of its batch and the two of the file.
      pub other_bytes : (i : ℕ) → Elsewhere (view_of way f) k i → get_or left i 0 ≡ get_or f i 0
      other_bytes i o = rw gave.1 (alter_bytes way f k a granted i o.amount o.batch_debit o.batch_credit o.file_debit o.file_credit)

      pub same_length : length left ≡ length f
      same_length = rw gave.1 (alter_length way f k a granted)

      -- it gives the new amount less the old, in cents
      pub difference : r.difference ≡ pos a -ℤ pos (amount_of (entry_at (view_of way f) k))
      difference = rw gave.0 (alter_difference way f k a granted)

  -- altering to the amount that stands there, with the file's list, is granted, gives 0, and changes no byte
  pub same_amount : (f held left rows : List ℕ) (k : ℕ) (r : Altered) → (checked_of way f).answer ≡ Ok tt → true_list way f held ≡ true → exists (view_of way f) k ≡ true
      → Alters way f held k (amount_of (entry_at (view_of way f) k)) r left rows → (r.answer ≡ Ok tt) × (r.difference ≡ pos 0) × (left ≡ f)
  same_amount f held left rows k r g t x p =
      let o = alter_same way f k g x in
      let asked = as_asked way f held k (amount_of (entry_at (view_of way f) k)) g t in
      let given = p.0 ∙ sym asked.0 ∙ ap (λ y. y.gives) o in
      (ap (λ (m : Altered). m.answer) given, ap (λ (m : Altered). m.difference) given, p.1 ∙ sym asked.1 ∙ ap (λ y. y.leaves) o)

  -- ---- An entry's addendum is handed out: it is the addendum that the file says of that entry, or empty where it has none or the question is refused.

  pub addendum_handed : (f bytes : List ℕ) (k : ℕ) (e : Answer) → HandsOut way f k bytes → Explains way f k e → e ≡ Ok tt → bytes ≡ joined (entry_at (view_of way f) k).addenda
  addendum_handed f bytes k e p q g = let h = sym q ∙ g in p ∙ handed way f k (granted_there way f k h) h

  pub addendum_refused : (f bytes : List ℕ) (k : ℕ) (e : Answer) (x : Refusal) → HandsOut way f k bytes → Explains way f k e → e ≡ Err x → bytes ≡ []
  addendum_refused f bytes k e x p q g = p ∙ ap (λ o. take o.size (drop o.from f)) (part_refused way f k x (sym q ∙ g))
