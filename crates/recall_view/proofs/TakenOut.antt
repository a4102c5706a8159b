-- Taking out, for any bytes and any list: when it is granted, what it gives, and what it leaves.
-- Assumes nothing; what a grant leaves is told of granted calls.
use Rattle.std.specs.Prelude.{Ok, Err}
use mathlib.Core.Path.{◌≡◌, refl, sym, ap, ap₂, subst, ◌∙◌}
use mathlib.Core.Logic.{◌↔◌}
use mathlib.Core.Bool.{Bool, true, false}
use mathlib.Core.List.{List, [], ◌∷◌, ◌++◌, map, append-nil}
use Prim.Native.Nat.{ℕ, ◌+◌, ◌-◌, ◌*◌, ◌≤◌, ◌<◌}
use native.Mathlib.Omega.{arith}
use borrow.Author.Tests.{leb-true, le-leb, lt-leb, eq-eqb}
use lib.Dec.{leb}
use lib.ListN.{length, take, drop, replicate, length-append, length-replicate}
use lib.Seq.{take-append_seam, drop-append_seam}
use Rattle.text.specs.Rows.{section}
use Rattle.text.proofs.DecimalLaws.{and_both, both_and}
use Rattle.layout.specs.declared.Fault.{Fault}
use Rattle.layout.specs.Answers.{Answer, Made}
use Rattle.layout.specs.declared.Refusal.{Refusal}
use Rattle.layout.specs.declared.Way.{Way}
use Rattle.check_across.specs.Across.{batch_number}
use Rattle.check_record.specs.Record.{checked_of}
use Rattle.view.specs.View.{Entry, Batch, View, batch_record, entries_of, file_of, view_of}
use Rattle.view.specs.Table.{count_wide, batch_row, table_bytes, view_of_table, formed, table_of}
use Rattle.view.specs.Outcome.{Outcome, demand, and_then, exists}
use Rattle.layout.specs.Paper.{refusal}
use Rattle.view.specs.Sized.{Sized}
use Rattle.view.specs.Keeps.{BatchesKeep, Keeps}
use Rattle.view_laws.proofs.Tables.{entries_in, texts_in, view_of_table_lem, formed_of_table, table_of_file}
use Rattle.view_laws.proofs.Reading.{view_of_file}
use Rattle.view_laws.proofs.Bridge.{granted, accepted_view}
use Rattle.view_laws.proofs.BridgeFields.{by_eq, never}
use Rattle.std.proofs.lemmas.Bool.Decides.{same_from_decides}
use Rattle.view_laws.proofs.Answers.{demand_granted, then_granted, then_refused}
use Rattle.funds.specs.Funds.{rows_of, in_front, enough_rows}
use Rattle.funds.specs.Outcome.{Listed, relisted}
use Rattle.recall_view.specs.RecallView.{named, entries_left, unless_empty, batches_left, without, table_without, all_exist, take_out_answer, shortened, take_out_of}
use Rattle.recall_view.proofs.Left.{entries_without, bytes_fewer, without_sized}
use Rattle.recall_view.proofs.LeftKeeps.{without_keeps}

-- ---- the table

-- "the table without those rows": the batches that are not left empty, each with its new number of entries, the rows of the entries
-- that stay, and the texts of their addenda
pub table_sections : (t ns : List ℕ)
    → let es = entries_left ns 1 (entries_of (view_of_table t)) in
    table_without t ns
    ≡ section count_wide ((view_of_table t).row ∷ [])
    ++ (section count_wide (map batch_row (batches_left ns 1 (view_of_table t).batches)) ++ (section count_wide (map (λ e. e.row) es) ++ section count_wide (texts_in es)))
table_sections t ns =
    let v = view_of_table t in
    ap (λ es. section count_wide (v.row ∷ []) ++ (section count_wide (map batch_row (batches_left ns 1 v.batches)) ++ (section count_wide (map (λ e. e.row) es) ++ section count_wide (texts_in es))))
    (entries_without v ns)

-- ---- the new file, of an accepted one with an entry left

module _ (way : Way) (f ns : List ℕ) (g : (checked_of way f).answer ≡ Ok tt) where
  sized : Sized (without (view_of way f) ns)
  sized = without_sized (view_of way f) ns (accepted_view way f g).sized

  -- the file is accepted
  pub result_accepted : 1 ≤ length (entries_of (without (view_of way f) ns)) → (checked_of way (file_of way (without (view_of way f) ns))).answer ≡ Ok tt
  result_accepted some = granted way (without (view_of way f) ns) sized (without_keeps (view_of way f) ns (accepted_view way f g).keeps some)

  -- and says what is left
  pub result_view : view_of way (file_of way (without (view_of way f) ns)) ≡ without (view_of way f) ns
  result_view = view_of_file way (without (view_of way f) ns) sized

  -- the table of an accepted file without those rows is the table of what is left
  table_left : table_without (table_of way f) ns ≡ table_bytes (without (view_of way f) ns)
  table_left = ap (λ v. table_bytes (without v ns)) (view_of_table_lem (view_of way f) (accepted_view way f g).sized)

  -- "The result is the file written from the table without those rows"
  pub result_written : formed way (table_without (table_of way f) ns) ≡ file_of way (without (view_of way f) ns)
  result_written = ap (formed way) table_left ∙ formed_of_table way (without (view_of way f) ns) sized

  pub result_table : table_of way (file_of way (without (view_of way f) ns)) ≡ table_without (table_of way f) ns
  result_table = table_of_file way (without (view_of way f) ns) sized ∙ sym table_left

  -- it is no longer than the old one
  pub result_fits : length (file_of way (without (view_of way f) ns)) ≤ length f
  result_fits =
      let p = accepted_view way f g in
      let l = bytes_fewer (view_of way f) ns way p.sized in
      let e = ap length p.form in
      omega arith

-- ---- lists that name the same entries

-- "repeats counting once", and "in any order": only which entries are named counts
module _ (ns ms : List ℕ) (same : (k : ℕ) → named k ns ≡ named k ms) where
  entries_same : (k : ℕ) (es : List Entry) → entries_left ns k es ≡ entries_left ms k es
  unfolding entries_left
  entries_same k [] = refl
  entries_same k (e ∷ es) = rw (same k, entries_same (k + 1) es)

  batches_same : (k : ℕ) (bs : List Batch) → batches_left ns k bs ≡ batches_left ms k bs
  unfolding batches_left
  batches_same k [] = refl
  batches_same k (b ∷ bs) = ap₂ (unless_empty b.row) (entries_same k b.entries) (batches_same (k + length b.entries) bs)

  pub without_same : (v : View) → without v ns ≡ without v ms
  without_same v = ap (λ bs. record { row = v.row; batches = bs }) (batches_same 1 v.batches)

-- every number of the list is an entry's exactly if every one that is named is
named_exist : (v : View) (ns : List ℕ) → all_exist v ns ≡ true → (k : ℕ) → named k ns ≡ true → exists v k ≡ true
unfolding named all_exist
named_exist v [] a k h = cc
named_exist v (n ∷ ns) a k h =
    let both = and_both (exists v n) (all_exist v ns) a in
    by_eq n k
    (λ e. subst (λ j. exists v j ≡ true) e both.0)
    (λ d. named_exist v ns both.1 k (rw d at h))

exist_named : (v : View) (ns : List ℕ) → ((k : ℕ) → named k ns ≡ true → exists v k ≡ true) → all_exist v ns ≡ true
unfolding named all_exist
exist_named v [] f = refl
exist_named v (n ∷ ns) f =
    both_and (f n (rw (eq-eqb n n refl)))
    (exist_named v ns (λ k h. f k (by_eq n k (λ e. rw (eq-eqb n k e)) (λ d. rw (d, h)))))

-- so the same entries named are the same outcome, whatever stands how often and where
pub same_outcome : (way : Way) (f ns ms held : List ℕ) → ((k : ℕ) → named k ns ≡ named k ms) → take_out_of way f ns held ≡ take_out_of way f ms held
same_outcome way f ns ms held same =
    let v = view_of way f in
    let all : all_exist v ns ≡ all_exist v ms =
    same_from_decides {P = (k : ℕ) → named k ns ≡ true → exists v k ≡ true} (all_exist v ns) (all_exist v ms)
    (named_exist v ns, exist_named v ns)
    (λ a k h. named_exist v ms a k (sym (same k) ∙ h), λ e. exist_named v ms (λ k h. e k (same k ∙ h))) in
    let answer : Bool → View → Answer = λ exist left.
    and_then (checked_of way f).answer
    (demand exist (refusal Fault.NoEntry 0 0)
    (demand (leb 1 (length (entries_of left))) (refusal Fault.NoneLeft 0 0) (demand (enough_rows left (length held)) (refusal Fault.Room 0 0) (Ok tt)))) in
    let outcome : Bool → View → Listed Made = λ exist left.
    let done = shortened (answer exist left) (file_of way left) f in
    record { gives = done.gives; leaves = done.leaves; rows = relisted (answer exist left) left held } in
    ap₂ outcome all (without_same ns ms same v)

-- "what the list held before is not read"
pub list_unread : (way : Way) (f ns held other : List ℕ) → length held ≡ length other
    → ((take_out_of way f ns held).gives ≡ (take_out_of way f ns other).gives) × ((take_out_of way f ns held).leaves ≡ (take_out_of way f ns other).leaves)
list_unread way f ns held other e =
    let same = ap (λ n. shortened (take_out_answer way f ns n) (file_of way (without (view_of way f) ns)) f) e in
    (ap (λ o. o.gives) same, ap (λ o. o.leaves) same)

-- ---- the empty list

entries_none : (k : ℕ) (es : List Entry) → entries_left [] k es ≡ es
unfolding named entries_left
entries_none k [] = refl
entries_none k (e ∷ es) = ap (λ l. e ∷ l) (entries_none (k + 1) es)

-- every batch that has an entry stays as it is
batches_none : (k number : ℕ) (bs : List Batch) → BatchesKeep number bs → batches_left [] k bs ≡ bs
unfolding batches_left
batches_none k number [] a = refl
batches_none k number (b ∷ bs) a =
    ap₂ (unless_empty b.row) (entries_none k b.entries) (batches_none (k + length b.entries) (batch_number (batch_record b)) bs a.1)
    ∙ kept b.row b.entries bs a.0.nonempty
  where
    kept : (row : List ℕ) (es : List Entry) (rest : List Batch) → 1 ≤ length es → unless_empty row es rest ≡ record { row = row; entries = es } ∷ rest
    kept row [] rest h = absurd (omega arith)
    kept row (e ∷ es) rest h = refl

without_none : (v : View) → Keeps v → without v [] ≡ v
without_none v k = ap (λ bs. record { row = v.row; batches = bs }) (batches_none 1 0 v.batches k.batches)

-- ---- when it is granted

answered : (x : Answer) (result f : List ℕ) → (shortened x result f).gives.answer ≡ x
answered (Ok _) result f = refl
answered (Err r) result f = refl

-- an accepted file, a list of entries that there are, an entry left, and room for a row of each batch left
pub record Removable (way : Way) (f ns held : List ℕ) : Type 0 where
  pub accepted : (checked_of way f).answer ≡ Ok tt
  pub numbers : all_exist (view_of way f) ns ≡ true
  pub left : 1 ≤ length (entries_of (without (view_of way f) ns))
  pub room : 2 * length (without (view_of way f) ns).batches ≤ length held

pub take_out_exactly : (way : Way) (f ns held : List ℕ) → ((take_out_of way f ns held).gives.answer ≡ Ok tt) ↔ Removable way f ns held
take_out_exactly way f ns held =
    let v = view_of way f in
    let left = without v ns in
    let some = leb 1 (length (entries_of left)) in
    let needed = 2 * length left.batches in
    let last = demand (enough_rows left (length held)) (refusal Fault.Room 0 0) (Ok tt) in
    let rest = demand some (refusal Fault.NoneLeft 0 0) last in
    let asked = demand (all_exist v ns) (refusal Fault.NoEntry 0 0) rest in
    let told = answered (take_out_answer way f ns (length held)) (file_of way left) f in (
      λ e.
          let a = then_granted (checked_of way f).answer asked (sym told ∙ e) in
          let b = demand_granted (all_exist v ns) _ rest a.1 in
          let c = demand_granted some _ last b.1 in
          let d = demand_granted (enough_rows left (length held)) _ (Ok tt) c.1 in
          record { accepted = a.0; numbers = b.0; left = leb-true 1 (length (entries_of left)) c.0; room = leb-true needed (length held) d.0 },
      λ r. told ∙ rw (r.accepted, r.numbers, le-leb 1 (length (entries_of left)) r.left, le-leb needed (length held) r.room),
    )

-- ---- why it is refused

module _ (way : Way) (f ns held : List ℕ) where
  pub told : (take_out_of way f ns held).gives.answer ≡ take_out_answer way f ns (length held)
  told = answered (take_out_answer way f ns (length held)) (file_of way (without (view_of way f) ns)) f

  -- "the file's own",
  pub refused_own : (x : Refusal) → (checked_of way f).answer ≡ Err x → (take_out_of way f ns held).gives.answer ≡ Err x
  refused_own x e = told ∙ then_refused (checked_of way f).answer _ x e

  module _ (g : (checked_of way f).answer ≡ Ok tt) where
    -- "25 for the first bad number in the list": for one that is bad, wherever it stands
    pub refused_number : (k : ℕ) → named k ns ≡ true → exists (view_of way f) k ≡ false → (take_out_of way f ns held).gives.answer ≡ refusal Fault.NoEntry 0 0
    refused_number k h bad = told ∙ rw (g, go (all_exist (view_of way f) ns) refl)
      where
        go : (b : Bool) → all_exist (view_of way f) ns ≡ b → all_exist (view_of way f) ns ≡ false
        go true e = never (sym bad ∙ named_exist (view_of way f) ns e k h)
        go false e = e

    module _ (a : all_exist (view_of way f) ns ≡ true) where
      -- "27 if no entry would be left"
      pub refused_none : length (entries_of (without (view_of way f) ns)) ≡ 0 → (take_out_of way f ns held).gives.answer ≡ refusal Fault.NoneLeft 0 0
      refused_none z = told ∙ rw (g, a, z)

      -- "23, last"
      pub refused_room : 1 ≤ length (entries_of (without (view_of way f) ns)) → length held < 2 * length (without (view_of way f) ns).batches
          → (take_out_of way f ns held).gives.answer ≡ refusal Fault.Room 0 0
      refused_room some short =
          told ∙ rw (g, a, le-leb 1 (length (entries_of (without (view_of way f) ns))) some, lt-leb (2 * length (without (view_of way f) ns).batches) (length held) short)

-- ---- what it leaves

-- "every refusal leaves lent memory untouched", the list too, and its length is 0
pub take_out_refused : (way : Way) (f ns held : List ℕ) (r : Refusal) → (take_out_of way f ns held).gives.answer ≡ Err r
    → ((take_out_of way f ns held).leaves ≡ f) × ((take_out_of way f ns held).rows ≡ held) × ((take_out_of way f ns held).gives.length ≡ 0)
take_out_refused way f ns held r e = go (take_out_answer way f ns (length held)) e
  where
    left : View
    left = without (view_of way f) ns

    go : (x : Answer) → (shortened x (file_of way left) f).gives.answer ≡ Err r
        → ((shortened x (file_of way left) f).leaves ≡ f) × (relisted x left held ≡ held) × ((shortened x (file_of way left) f).gives.length ≡ 0)
    go (Ok _) e = cc
    go (Err p) e = (refl, refl, refl)

-- a grant gives the new length, and leaves the new file with blanks behind it
granted_leaves : (x : Answer) (result f : List ℕ) → (shortened x result f).gives.answer ≡ Ok tt
    → ((shortened x result f).gives.length ≡ length result) × ((shortened x result f).leaves ≡ result ++ replicate (length f - length result) 32)
granted_leaves (Ok _) result f e = (refl, refl)
granted_leaves (Err r) result f e = cc

module _ (way : Way) (f ns held : List ℕ) (e : (take_out_of way f ns held).gives.answer ≡ Ok tt) where
  may : Removable way f ns held
  may = (take_out_exactly way f ns held).0 e

  abbrev new : List ℕ
  new = file_of way (without (view_of way f) ns)

  gives : (take_out_of way f ns held).gives.length ≡ length new
  gives = (granted_leaves (take_out_answer way f ns (length held)) new f e).0

  leaves : (take_out_of way f ns held).leaves ≡ new ++ replicate (length f - length new) 32
  leaves = (granted_leaves (take_out_answer way f ns (length held)) new f e).1

  -- in front, as long as is given, "the file written from the table without those rows"
  pub take_out_written : take (take_out_of way f ns held).gives.length (take_out_of way f ns held).leaves ≡ formed way (table_without (table_of way f) ns)
  take_out_written = ap₂ take gives leaves ∙ take-append_seam new (replicate (length f - length new) 32) ∙ sym (result_written way f ns may.accepted)

  -- "the freed bytes after the new end become blanks"
  pub take_out_blanks : drop (take_out_of way f ns held).gives.length (take_out_of way f ns held).leaves ≡ replicate (length f - (take_out_of way f ns held).gives.length) 32
  take_out_blanks =
      ap₂ drop gives leaves ∙ drop-append_seam new (replicate (length f - length new) 32) ∙ ap (λ n. replicate (length f - n) 32) (sym gives)

  -- the lent bytes stay as many, and the new file is no longer than the old one
  pub take_out_length : ((take_out_of way f ns held).gives.length ≤ length f) × (length (take_out_of way f ns held).leaves ≡ length f)
  take_out_length =
      let fits = result_fits way f ns may.accepted in (
        rw gives fits,
        ap length leaves ∙ length-append new (replicate (length f - length new) 32) ∙ rw length-replicate (omega arith),
      )

  front : take (take_out_of way f ns held).gives.length (take_out_of way f ns held).leaves ≡ new
  front = take_out_written ∙ result_written way f ns may.accepted

  -- that file is accepted
  pub take_out_accepted : (checked_of way (take (take_out_of way f ns held).gives.length (take_out_of way f ns held).leaves)).answer ≡ Ok tt
  take_out_accepted = ap (λ g. (checked_of way g).answer) front ∙ result_accepted way f ns may.accepted may.left

  -- it says what the old one said, without those entries
  pub take_out_view : view_of way (take (take_out_of way f ns held).gives.length (take_out_of way f ns held).leaves) ≡ without (view_of way f) ns
  take_out_view = ap (view_of way) front ∙ result_view way f ns may.accepted

  -- and its table is the old one without those rows
  pub take_out_table : table_of way (take (take_out_of way f ns held).gives.length (take_out_of way f ns held).leaves) ≡ table_without (table_of way f) ns
  take_out_table = ap (table_of way) front ∙ result_table way f ns may.accepted

  -- the list is that file's: "taking entries out rebuilds it"; what stands behind it stays
  pub take_out_rows : (take_out_of way f ns held).rows ≡ in_front (rows_of (view_of way (take (take_out_of way f ns held).gives.length (take_out_of way f ns held).leaves))) held
  take_out_rows =
      ap (λ x. relisted x (without (view_of way f) ns) held) (sym (told way f ns held) ∙ e) ∙ ap (λ v. in_front (rows_of v) held) (sym take_out_view)

-- ---- the empty list is granted

some_entry : (number : ℕ) (bs : List Batch) → BatchesKeep number bs → 1 ≤ length bs → 1 ≤ length (entries_in bs)
some_entry number [] a h = h
some_entry number (b ∷ bs) a h = rw (length-append b.entries (entries_in bs)) (omega (arith, a.0.nonempty))

unchanged : (x : Answer) (result f : List ℕ) → x ≡ Ok tt → result ≡ f
    → shortened x result f ≡ record { gives = record { answer = Ok tt; length = length f }; leaves = f }
unchanged x result f p q =
    let none : length f - length f ≡ 0 = omega arith in
    ap₂ (λ y r. shortened y r f) p q
    ∙ ap (λ l. record { gives = record { answer = Ok tt; length = length f }; leaves = l }) (ap (λ n. f ++ replicate n 32) none ∙ append-nil f)

-- and "changes nothing" of the file
pub take_out_none : (way : Way) (f held : List ℕ) → (checked_of way f).answer ≡ Ok tt → 2 * length (view_of way f).batches ≤ length held
    → take_out_of way f [] held
    ≡ record { gives = record { answer = Ok tt; length = length f }; leaves = f; rows = in_front (rows_of (view_of way f)) held }
unfolding all_exist
take_out_none way f held g h =
    let v = view_of way f in
    let p = accepted_view way f g in
    let all = without_none v p.keeps in
    let some = some_entry 0 v.batches p.keeps.batches p.keeps.nonempty in
    let may : Removable way f [] held =
    record {
      accepted = g;
      numbers = refl;
      left = subst (λ w. 1 ≤ length (entries_of w)) (sym all) some;
      room = subst (λ w. 2 * length w.batches ≤ length held) (sym all) h;
    } in
    let x = take_out_answer way f [] (length held) in
    let granted = sym (told way f [] held) ∙ (take_out_exactly way f [] held).1 may in
    let o = unchanged x (file_of way (without v [])) f granted (ap (file_of way) all ∙ sym p.form) in
    ap₂ (λ (d : Outcome Made) (l : List ℕ). record { gives = d.gives; leaves = d.leaves; rows = l }) o (ap₂ (λ y w. relisted y w held) granted all)
