-- Idle programs that the contracts rule out by name.
-- Assumes nothing.
use Rattle.std.specs.Prelude.{Ok}
use mathlib.Core.Path.{◌≡◌, refl, sym, ap, ◌∙◌}
use mathlib.Core.Logic.{◌≢◌}
use mathlib.Core.Bool.{true, false}
use mathlib.Core.List.{List, [], ◌∷◌}
use Prim.Native.Nat.{ℕ, ◌+◌, ◌*◌, ◌≤◌, ◌<◌}
use native.Mathlib.Omega.{arith}
use lib.ListN.{length, get_or, take}
use Rattle.text.specs.Decimal.{render}
use Rattle.text.specs.Rows.{joined}
use Rattle.layout.specs.declared.Fault.{Fault}
use Rattle.layout.specs.Answers.{Checked}
use Rattle.layout.specs.Answers.{Made}
use Rattle.layout.specs.Answers.{Altered}
use Rattle.check_record.specs.Record.{checked_of}
use Rattle.view.specs.View.{amount_of, file_of, view_of}
use Rattle.view.specs.Table.{table_bytes, table_of}
use Rattle.view.specs.Outcome.{entry_at}
use Rattle.layout.specs.Paper.{refusal}
use Rattle.funds.specs.RunsOut.{RunsOut}
use Rattle.funds.specs.Funds.{rows_of, in_front, begins_with, true_list}
use Rattle.funds.proofs.Examples.{asks, altered}
use Rattle.funds.proofs.CheckLaws.{check_done}
use Rattle.alter.proofs.Listing.{listed_exactly, as_asked, listed_step}
use Rattle.view_laws.proofs.Alter.{alter_exactly}
use Rattle.view_laws.proofs.Own.{own_entries}
use Rattle.view_laws.proofs.RoundTrips.{read_done}
use Rattle.view_laws.proofs.Whole.{whole, whole_accepted}
use Rattle.view.proofs.Across.{two, across}
use Rattle.recall_view.proofs.Left.{some_distinct}
use Rattle.recall_view.proofs.Examples.{recalled}
use Rattle.ach.specs.Permits.{Checks, Finds, Reads, Alters, TakesOut, Run}
use Rattle.ach.proofs.Money.{as_the_file, checked_short, other_rows}
use Rattle.ach.proofs.Runs.{permitted}
use Rattle.ach.proofs.Recalls.{recall_entries}
use Rattle.ach.proofs.Grants.{alter_amount, done}
use Rattle.layout.specs.declared.Way.{Way}

-- the last digit of the first amount tells these two files apart
first_differs : file_of Way.Plain (two 101 1001) ≢ file_of Way.Plain (two 100 1001)
unfolding joined render
first_differs e = let z : ◌≡◌ {A = ℕ} 49 48 = ap (λ f. get_or f (94 * 2 + 38) 0) e in omega arith

-- the file of two batches: it is accepted, and this is its list
sent_granted : (checked_of Way.Plain (file_of Way.Plain (two 100 1000))).answer ≡ Ok tt
sent_granted = ap (λ c. c.answer) across.accepted

sent_list : rows_of (view_of Way.Plain (file_of Way.Plain (two 100 1000))) ≡ 6 ∷ 100 ∷ 10 ∷ 1140 ∷ []
sent_list = ap rows_of across.read ∙ asks.list

sent_true : (behind : List ℕ) → true_list Way.Plain (file_of Way.Plain (two 100 1000)) (6 ∷ 100 ∷ 10 ∷ 1140 ∷ behind) ≡ true
unfolding begins_with
sent_true behind = ap (λ l. begins_with l (6 ∷ 100 ∷ 10 ∷ 1140 ∷ behind)) sent_list

sent_false : (held : List ℕ) → begins_with (6 ∷ 100 ∷ 10 ∷ 1140 ∷ []) held ≡ false → true_list Way.Plain (file_of Way.Plain (two 100 1000)) held ≡ false
sent_false held e = ap (λ l. begins_with l held) sent_list ∙ e

sent_batches : length (view_of Way.Plain (file_of Way.Plain (two 100 1000))).batches ≡ 2
sent_batches = ap (λ v. length v.batches) across.read

-- a check of a file with one batch, with a list lent that has room
checked_whole : (held left : List ℕ) (r : Checked) → Checks Way.Plain whole held r left → 2 ≤ length held → r ≡ checked_of Way.Plain whole
checked_whole held left r p l =
    let g = ap (λ c. c.answer) whole_accepted in
    as_the_file Way.Plain whole held left r p (omega (arith, l, (own_entries Way.Plain whole g).batches, ap (λ c. c.batches) whole_accepted))

-- one that refuses always, and one that grants always
pub not_refusing_always : (held left : List ℕ) (r : Checked) → Checks Way.Plain whole held r left → 2 ≤ length held → r.answer ≡ Ok tt
not_refusing_always held left r p l = ap (λ c. c.answer) (checked_whole held left r p l ∙ whole_accepted)

pub not_granting_always : (held left : List ℕ) (r : Checked) → Checks Way.Plain [] held r left → r.answer ≡ refusal Fault.Length 0 0
not_granting_always held left r p = ap (λ c. c.answer) p.0

-- one that says the same of every file, with counts of its own: two batches and four entries here, one batch and two entries there
pub not_always_same : (held left list : List ℕ) (r s : Checked) → Checks Way.Plain whole held r left → 2 ≤ length held
    → Checks Way.Plain (file_of Way.Plain (two 100 1000)) (1 ∷ 2 ∷ 3 ∷ 4 ∷ 5 ∷ []) s list → r ≢ s
not_always_same held left list r s p l q e =
    let n : s.batches ≡ 2 = ap (λ c. c.batches) (as_the_file Way.Plain (file_of Way.Plain (two 100 1000)) (1 ∷ 2 ∷ 3 ∷ 4 ∷ 5 ∷ []) list s q (omega (arith, sent_batches)) ∙ across.accepted) in
    let z : ◌≡◌ {A = ℕ} 1 2 = ap (λ c. c.batches) (sym (checked_whole held left r p l ∙ whole_accepted) ∙ e) ∙ n in
    omega arith

-- one that gives no list, another batch's credits, or writes behind its rows; one that grants where there is no room
pub list_of_the_file : (left : List ℕ) (r : Checked) → Checks Way.Plain (file_of Way.Plain (two 100 1000)) (1 ∷ 2 ∷ 3 ∷ 4 ∷ 5 ∷ []) r left
    → left ≡ 6 ∷ 100 ∷ 10 ∷ 1140 ∷ 5 ∷ []
list_of_the_file left r p =
    let held : List ℕ = 1 ∷ 2 ∷ 3 ∷ 4 ∷ 5 ∷ [] in
    p.1 ∙ (check_done Way.Plain (file_of Way.Plain (two 100 1000)) held sent_granted (omega (arith, sent_batches))).1 ∙ ap (λ l. in_front l held) sent_list

pub no_room_for_it : (left : List ℕ) (r : Checked) → Checks Way.Plain (file_of Way.Plain (two 100 1000)) (1 ∷ 2 ∷ 3 ∷ []) r left
    → (r.answer ≡ refusal Fault.Room 0 0) × (r.batches ≡ 0) × (left ≡ 1 ∷ 2 ∷ 3 ∷ [])
no_room_for_it left r p =
    let o = checked_short Way.Plain (file_of Way.Plain (two 100 1000)) (1 ∷ 2 ∷ 3 ∷ []) left r p sent_granted (omega (arith, sent_batches)) in
    (ap (λ c. c.answer) o.0, ap (λ c. c.batches) o.0, o.1)

-- a question that always finds, or never
pub finds_some_and_none : (r s : RunsOut) → Finds (6 ∷ 100 ∷ 10 ∷ 1140 ∷ []) 100 r → Finds (6 ∷ 100 ∷ 10 ∷ 1140 ∷ []) 1140 s
    → (r ≡ record { found = true; «record» = 10; credits = 1140; rows = 2 }) × (s ≡ record { found = false; «record» = 0; credits = 0; rows = 2 })
finds_some_and_none r s p q = (p ∙ asks.exceeds, q ∙ asks.none)

-- a reader of the first batch only
pub every_batch_read : (held left : List ℕ) (r : Made) → Reads Way.Plain (file_of Way.Plain (two 100 1000)) held r left → 751 ≤ length held
    → (r.answer ≡ Ok tt) × (r.length ≡ 751) × (take 751 left ≡ table_bytes (two 100 1000))
every_batch_read held left r p l =
    let t : table_of Way.Plain (file_of Way.Plain (two 100 1000)) ≡ table_bytes (two 100 1000) = ap table_bytes across.read in
    let n : length (table_of Way.Plain (file_of Way.Plain (two 100 1000))) ≡ 751 = ap length t ∙ across.tables.1 in
    let o = read_done Way.Plain (file_of Way.Plain (two 100 1000)) held (ap (λ c. c.answer) across.accepted) (rw n l) in
    let d = done r left (table_of Way.Plain (file_of Way.Plain (two 100 1000))) held (p.0 ∙ ap (λ x. x.gives) o) (p.1 ∙ ap (λ x. x.leaves) o) in
    (d.0, d.1 ∙ n, ap (λ m. take m left) (sym (d.1 ∙ n)) ∙ d.2 ∙ t)

-- an alteration that does nothing
pub alteration_does_something : (way : Way) (f held left rows : List ℕ) (k a : ℕ) (r : Altered) → Alters way f held k a r left rows → r.answer ≡ Ok tt
    → a ≢ amount_of (entry_at (view_of way f) k) → left ≢ f
alteration_does_something way f held left rows k a r p g d e =
    let h = (listed_exactly way f held k a).0 (rw (← p.0) g) in
    let o = as_asked way f held k a ((alter_exactly way f k a).0 h.0).accepted h.1 in
    d (sym (alter_amount way f k a h.0) ∙ ap (λ x. amount_of (entry_at (view_of way x) k)) (o.1 ∙ sym p.1 ∙ e))

-- one that leaves the list of the file before, and one that alters with any list
pub list_of_the_altered : (left rows : List ℕ) (r : Altered) → Alters Way.Plain (file_of Way.Plain (two 100 1000)) (6 ∷ 100 ∷ 10 ∷ 1140 ∷ 5 ∷ []) 3 1001 r left rows
    → (r.answer ≡ Ok tt) × (left ≡ file_of Way.Plain (two 100 1001)) × (rows ≡ 6 ∷ 100 ∷ 10 ∷ 1141 ∷ 5 ∷ [])
list_of_the_altered left rows r p =
    let f = file_of Way.Plain (two 100 1000) in
    let held : List ℕ = 6 ∷ 100 ∷ 10 ∷ 1140 ∷ 5 ∷ [] in
    let o = as_asked Way.Plain f held 3 1001 sent_granted (sent_true (5 ∷ [])) in
    let s = listed_step Way.Plain f held 3 1001 sent_granted (sent_true (5 ∷ [])) in (
      ap (λ (m : Altered). m.answer) (p.0 ∙ sym o.0 ∙ ap (λ x. x.gives) across.third),
      p.1 ∙ sym o.1 ∙ ap (λ x. x.leaves) across.third,
      p.2 ∙ s.rows ∙ ap (λ x. in_front (rows_of (view_of Way.Plain x.leaves)) held) across.third ∙ ap (λ l. in_front l held) altered.one,
    )

pub not_with_another_list : (left rows : List ℕ) (r : Altered) → Alters Way.Plain (file_of Way.Plain (two 100 1000)) (6 ∷ 100 ∷ 10 ∷ 1141 ∷ []) 9 1001 r left rows
    → r.answer ≡ refusal Fault.Rows 0 0
unfolding begins_with
not_with_another_list left rows r p =
    let held : List ℕ = 6 ∷ 100 ∷ 10 ∷ 1141 ∷ [] in
    ap (λ (m : Altered). m.answer) (other_rows Way.Plain (file_of Way.Plain (two 100 1000)) held left rows 9 1001 r p sent_granted (sent_false held refl)).0

-- a taking out that takes nothing: a list that is granted and not empty leaves fewer entries than there were
pub taking_out_does_something : (way : Way) (f ns held left rows : List ℕ) (n : ℕ) (r : Made) → TakesOut way f (n ∷ ns) held r left rows → r.answer ≡ Ok tt
    → (checked_of way (take r.length left)).entries < (checked_of way f).entries
taking_out_does_something way f ns held left rows n r p g = omega (arith, some_distinct n ns, recall_entries way f (n ∷ ns) held left rows r p g)

-- one that leaves the list of the file before, or writes behind it: without entry 2 both controls stand two records earlier
pub list_of_the_file_left : (left rows : List ℕ) (r : Made) → TakesOut Way.Plain (file_of Way.Plain (two 100 1000)) (2 ∷ []) (1 ∷ 2 ∷ 3 ∷ 4 ∷ 5 ∷ []) r left rows
    → rows ≡ 4 ∷ 100 ∷ 8 ∷ 1140 ∷ 5 ∷ []
list_of_the_file_left left rows r p = p.2 ∙ ap (λ o. o.rows) recalled.plain

-- the first of a run only, or the refused one too: of these three the last is refused, and both others stand
pub not_first_of_a_run_only : (g rows : List ℕ) → Run Way.Plain ((3, 1001) ∷ (1, 101) ∷ (1, 0) ∷ []) (file_of Way.Plain (two 100 1000)) (6 ∷ 100 ∷ 10 ∷ 1140 ∷ []) g rows
    → (g ≡ file_of Way.Plain (two 101 1001)) × (g ≢ file_of Way.Plain (two 100 1001)) × (rows ≡ 6 ∷ 101 ∷ 10 ∷ 1142 ∷ [])
not_first_of_a_run_only g rows p =
    let calls : List (ℕ × ℕ) = (3, 1001) ∷ (1, 101) ∷ (1, 0) ∷ [] in
    let u = permitted Way.Plain calls (file_of Way.Plain (two 100 1000)) (6 ∷ 100 ∷ 10 ∷ 1140 ∷ []) g rows sent_granted (sent_true []) p in
    let e = u.0 ∙ across.run in
    (e, λ z. first_differs (sym e ∙ z), u.1 ∙ ap (λ x. in_front (rows_of (view_of Way.Plain x)) (6 ∷ 100 ∷ 10 ∷ 1140 ∷ [])) e ∙ ap (λ l. in_front l (6 ∷ 100 ∷ 10 ∷ 1140 ∷ [])) altered.both)
