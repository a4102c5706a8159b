-- The list of a file: how long it is, and that the records of an accepted file tell it.
-- Assumes nothing but what a statement says.
use Rattle.std.specs.Prelude.{Ok}
use mathlib.Core.Path.{◌≡◌, refl, ap, ◌∙◌}
use mathlib.Core.Bool.{true, false}
use mathlib.Core.List.{List, [], ◌∷◌, ◌++◌, map, append_assoc}
use Prim.Native.Nat.{ℕ, zero, suc, ◌+◌, ◌*◌, ◌≤◌}
use native.Mathlib.Nat.{add-zero}
use native.Mathlib.Omega.{arith}
use lib.Dec.{eqb}
use lib.ListN.{length, get_or, replicate}
use Rattle.text.specs.Decimal.{value}
use Rattle.text.specs.Rows.{joined}
use Rattle.text.proofs.DecimalLaws.{value_render_lt}
use Rattle.layout.specs.declared.Way.{Way}
use Rattle.check_record.specs.Record.{columns_in, checked_of}
use Rattle.view.specs.View.{Entry, Batch, View, file_record, entry_record, addendum_record, batch_record, batch_control_record, file_control_record, filler_record, fillers_after, body_of, sum_over, records_in, credit_of, view_of}
use Rattle.view.specs.Sized.{All, SizedBatch}
use Rattle.view.specs.Keeps.{BatchesKeep}
use Rattle.view_laws.proofs.Amend.{records_for}
use Rattle.view_laws.proofs.Bridge.{accepted_view}
use Rattle.view_laws.proofs.BridgeSums.{entries_records}
use Rattle.view_laws.proofs.Formed.{batch_control_fields}
use Rattle.view_laws.proofs.Own.{own_records}
use Rattle.funds.specs.Funds.{rows_from, rows_of, control_credit, rows_along}

-- two numbers for each batch
rows_many : (n sum : ℕ) (bs : List Batch) → length (rows_from n sum bs) ≡ 2 * length bs
unfolding rows_from
rows_many n sum [] = refl
rows_many n sum (b ∷ bs) = omega (arith, rows_many (n + 1 + sum_over records_in b.entries + 1) (sum + sum_over credit_of b.entries) bs)

pub rows_long : (v : View) → length (rows_of v) ≡ 2 * length v.batches
rows_long v = rows_many 2 0 v.batches

-- ---- along records

-- a record that is no batch control
pub other : (n sum : ℕ) (r : List ℕ) (rs : List (List ℕ)) → eqb (get_or r 0 0) 56 ≡ false → rows_along n sum (r ∷ rs) ≡ rows_along (n + 1) sum rs
unfolding rows_along
other n sum r rs e = rw (e, add-zero sum) refl

-- one that is
pub control : (n sum : ℕ) (r : List ℕ) (rs : List (List ℕ)) → eqb (get_or r 0 0) 56 ≡ true
    → rows_along n sum (r ∷ rs) ≡ n ∷ (sum + control_credit r) ∷ rows_along (n + 1) (sum + control_credit r) rs
unfolding rows_along
control n sum r rs e = rw e refl

-- records that begin with another digit
other_byte : (c : ℕ) (fs : List (List ℕ)) → eqb c 56 ≡ false → eqb (get_or (joined ((c ∷ []) ∷ fs)) 0 0) 56 ≡ false
unfolding joined
other_byte c fs e = e

along_addenda : (n sum : ℕ) (e : Entry) (texts : List (List ℕ)) (rs : List (List ℕ)) → rows_along n sum (map (addendum_record e) texts ++ rs) ≡ rows_along (n + length texts) sum rs
along_addenda n sum e [] rs = rw (add-zero n) refl
along_addenda n sum e (t ∷ texts) rs =
    let more : n + 1 + length texts ≡ n + suc (length texts) = omega arith in
    other n sum (addendum_record e t) (map (addendum_record e) texts ++ rs) (other_byte 55 _ refl)
    ∙ along_addenda (n + 1) sum e texts rs
    ∙ ap (λ m. rows_along m sum rs) more

along_entries : (n sum : ℕ) (es : List Entry) (rs : List (List ℕ)) → rows_along n sum (entries_records es ++ rs) ≡ rows_along (n + sum_over records_in es) sum rs
unfolding sum_over
along_entries n sum [] rs = rw (add-zero n) refl
along_entries n sum (e ∷ es) rs =
    let addenda = map (addendum_record e) e.addenda in
    let more : n + 1 + length e.addenda + sum_over records_in es ≡ n + (1 + length e.addenda + sum_over records_in es) = omega arith in
    other n sum (entry_record e) ((addenda ++ entries_records es) ++ rs) refl
    ∙ ap (rows_along (n + 1) sum) (append_assoc addenda (entries_records es) rs)
    ∙ along_addenda (n + 1) sum e e.addenda (entries_records es ++ rs)
    ∙ along_entries (n + 1 + length e.addenda) sum es rs
    ∙ ap (λ m. rows_along m sum rs) more

-- a batch control tells the credits of its batch
credits_told : (b : Batch) → length b.row ≡ 89 → sum_over credit_of b.entries ≤ 999999999999 → control_credit (batch_control_record b) ≡ sum_over credit_of b.entries
credits_told b l h = ap value (batch_control_fields b l).credit ∙ value_render_lt 12 (sum_over credit_of b.entries) (omega (arith, h))

along_batches : (n sum number : ℕ) (bs : List Batch) (rs : List (List ℕ)) → All SizedBatch bs → BatchesKeep number bs → ((m s : ℕ) → rows_along m s rs ≡ [])
    → rows_along n sum (records_for bs ++ rs) ≡ rows_from n sum bs
unfolding rows_from
along_batches n sum number [] rs sized keep none = none n sum
along_batches n sum number (b ∷ bs) rs sized keep none =
    let es = entries_records b.entries in
    let c = batch_control_record b in
    let m = n + 1 + sum_over records_in b.entries in
    let told = credits_told b sized.0.long keep.0.within.credit in
    let rest = records_for bs ++ rs in
    other n sum (batch_record b) (((es ++ (c ∷ [])) ++ records_for bs) ++ rs) (other_byte 53 _ refl)
    ∙ ap (rows_along (n + 1) sum) (append_assoc (es ++ (c ∷ [])) (records_for bs) rs ∙ append_assoc es (c ∷ []) rest)
    ∙ along_entries (n + 1) sum b.entries (c ∷ rest)
    ∙ control m sum c rest (ap (λ x. eqb x 56) (batch_control_fields b sized.0.long).type)
    ∙ ap (λ x. m ∷ (sum + x) ∷ rows_along (m + 1) (sum + x) rest) told
    ∙ ap (λ xs. m ∷ (sum + sum_over credit_of b.entries) ∷ xs) (along_batches (m + 1) (sum + sum_over credit_of b.entries) _ bs rs sized.1 keep.1 none)

-- the file control and the fillers are none
along_fillers : (n sum k : ℕ) → rows_along n sum (replicate k filler_record) ≡ []
unfolding rows_along
along_fillers n sum zero = refl
along_fillers n sum (suc k) = other n sum filler_record (replicate k filler_record) refl ∙ along_fillers (n + 1) sum k

-- the records of an accepted file tell its list
pub rows_told : (way : Way) (f : List ℕ) → (checked_of way f).answer ≡ Ok tt → rows_along 1 0 (columns_in way f) ≡ rows_of (view_of way f)
rows_told way f g =
    let v = view_of way f in
    let a = accepted_view way f g in
    let k = fillers_after (length (body_of v) + 1) in
    let end = file_control_record v ∷ replicate k filler_record in
    ap (rows_along 1 0) (own_records way f g)
    ∙ other 1 0 (file_record v) (records_for v.batches ++ end) (other_byte 49 _ refl)
    ∙ along_batches 2 0 0 v.batches end a.sized.each a.keeps.batches
    (λ m s. other m s (file_control_record v) (replicate k filler_record) (other_byte 57 _ refl) ∙ along_fillers (m + 1) s k)
