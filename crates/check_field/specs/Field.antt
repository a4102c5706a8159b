-- One field's check: the kinds in the order of their numbers, with the sums that control records repeat.
use Rattle.std.specs.Prelude.{Ok, Err}
use Rattle.std.specs.Prelude.{ℕ, ◌+◌, ◌-◌, ◌/◌, ◌%◌, List, leb, eqb, length, take, drop}
use Rattle.text.specs.Decimal.{digits, value}
use Rattle.text.specs.Rows.{columns}
use Rattle.text.specs.Same.{same_bytes}
use Rattle.layout.specs.declared.Fault.{Fault}
use Rattle.layout.specs.declared.Kind.{Kind}
use Rattle.layout.specs.declared.Sum.{Sum}
use Rattle.layout.specs.declared.Row.{Row}
use Rattle.check_alone.specs.Mark.{Mark}
use Rattle.check_alone.specs.Kinds.{need, nine_filled, blank_filled, fixed, all_digits, optional_text, mandatory_text, date}
use Rattle.check_alone.specs.Own.{own_rule}
use Rattle.check_across.specs.declared.Sums.{Sums}
use Rattle.check_across.specs.Across.{near_rule}

-- "blocks, that is this record's own number divided by ten, rounded up"
abbrev pub blocks : ℕ → ℕ
blocks n = (n + 9) / 10

-- the sums that control records repeat: of the batch, and over the file
abbrev pub sum_of : Sums → Sum → ℕ
sum_of s Sum.BatchRecords = s.batchrecords
sum_of s Sum.BatchHash = s.batchhash
sum_of s Sum.BatchDebit = s.batchdebit
sum_of s Sum.BatchCredit = s.batchcredit
sum_of s Sum.Batches = s.batches
sum_of s Sum.Blocks = blocks (s.records + 1)
sum_of s Sum.FileRecords = s.entries + s.addenda
sum_of s Sum.FileHash = s.hash
sum_of s Sum.FileDebit = s.debit
sum_of s Sum.FileCredit = s.credit

-- "digits, number of .. (18)"
abbrev pub count_rule : ℕ → List ℕ → Mark
count_rule n p = need (digits p) Fault.Digits (need (eqb (value p) n) Fault.Count (Ok tt))

-- "Entry hash: sum of the eight-digit field 3 of each 6 record, remainder by 10,000,000,000."
abbrev pub hash_of : ℕ → ℕ
hash_of n = n % 10000000000

-- "digits, entry hash (19)"
abbrev pub hash_rule : ℕ → List ℕ → Mark
hash_rule n p = need (digits p) Fault.Digits (need (eqb (value p) (hash_of n)) Fault.Hash (Ok tt))

abbrev pub total_limit : ℕ
total_limit = 999999999999

-- "each digits (6), then the true sum at most 999,999,999,999 (20), then equal to it (21)"
abbrev pub total_rule : ℕ → List ℕ → Mark
total_rule n p =
    need (digits p) Fault.Digits (need (leb n total_limit) Fault.Limit (need (eqb (value p) n) Fault.Total (Ok tt)))

-- "as in record 5 (22)": the same bytes as record 5 has from column c on
abbrev pub as_batch_rule : List ℕ → ℕ → List ℕ → Mark
as_batch_rule h c p = need (same_bytes p (take (length p) (drop (c - 1) h))) Fault.Batch (Ok tt)

-- a field's kind against its bytes p: s is what was summed before this record r, and h the record 5 of its batch
abbrev pub kind_rule : Sums → List ℕ → List ℕ → Kind → List ℕ → Mark
kind_rule s h r Kind.Type p = Ok tt
kind_rule s h r Kind.Misplaced p = Err Fault.Misplaced
kind_rule s h r Kind.Past p = Err Fault.Past
kind_rule s h r Kind.Nines p = nine_filled p
kind_rule s h r (Kind.Fixed n) p = fixed n p
kind_rule s h r Kind.Blanks p = blank_filled p
kind_rule s h r Kind.Digits p = all_digits p
kind_rule s h r Kind.Optional p = optional_text p
kind_rule s h r Kind.Mandatory p = mandatory_text p
kind_rule s h r Kind.Date p = date p
kind_rule s h r (Kind.Own o) p = own_rule o p
kind_rule s h r (Kind.Near n) p = near_rule s h r n p
kind_rule s h r (Kind.AsBatch c) p = as_batch_rule h c p
kind_rule s h r (Kind.Count t) p = count_rule (sum_of s t) p
kind_rule s h r (Kind.Hash t) p = hash_rule (sum_of s t) p
kind_rule s h r (Kind.Total t) p = total_rule (sum_of s t) p

abbrev pub field_of : Sums → List ℕ → List ℕ → Row → Mark
field_of s h r row = kind_rule s h r row.kind (columns row.first row.last r)
