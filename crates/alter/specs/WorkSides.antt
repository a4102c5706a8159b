-- One side of a file: where its totals stand, and what an exchange of one amount makes of them.
use Rattle.std.specs.Prelude.{Ok}
use Rattle.std.specs.Prelude.{ℕ, ◌+◌, ◌-◌, ◌*◌, ◌≤◌, ◌<◌, List, leb, pos, ◌-ℤ◌, length, get_or, take, drop}
use Rattle.std.proofs.lemmas.List.Edits.{sets}
use Rattle.text.specs.Decimal.{value, render}
use Rattle.layout.specs.declared.Fault.{Fault}
use Rattle.layout.specs.Answers.{Answer}
use Rattle.layout.specs.Answers.{Altered}
use Rattle.layout.specs.Fields.{no_row, batch_control, file_control}
use Rattle.check_field.specs.Field.{total_limit}
use Rattle.view.specs.Outcome.{Outcome, demand, altered}
use Rattle.layout.specs.Paper.{refusal}
use Rattle.find_entry.specs.declared.find.Places.{Places}
use Rattle.alter.specs.declared.sides.Side.{Side}
use Rattle.layout.specs.declared.Way.{Way}
use Rattle.layout.specs.Ways.{record_bytes}

abbrev pub debit_side : Side
debit_side =
    record {
      batchfield = 5;
      batchat = (get_or batch_control 4 no_row).first - 1;
      filefield = 6;
      fileat = (get_or file_control 5 no_row).first - 1;
    }

abbrev pub credit_side : Side
credit_side =
    record {
      batchfield = 6;
      batchat = (get_or batch_control 5 no_row).first - 1;
      filefield = 7;
      fileat = (get_or file_control 6 no_row).first - 1;
    }

-- the total in the batch's control
abbrev pub batch_total : Way → List ℕ → Places → Side → ℕ
batch_total way f p s = value (take 12 (drop (record_bytes way * p.control + s.batchat) f))

-- "20 at the batch's control, 20 at the file's", of the new totals
abbrev pub side_answer : Places → Side → ℕ → ℕ → Answer
side_answer p s batch whole =
    demand (leb batch total_limit) (refusal Fault.Limit (p.control + 1) s.batchfield)
    (demand (leb whole total_limit) (refusal Fault.Limit (p.last + 1) s.filefield) (Ok tt))

-- columns 30-39 of the entry, the batch's total and the file's
abbrev pub side_put : Way → List ℕ → Places → Side → ℕ → ℕ → ℕ → List ℕ
side_put way f p s amount batch whole =
    sets (sets (sets f
    (record_bytes way * p.entry + 29) (render 10 amount))
    (record_bytes way * p.control + s.batchat) (render 12 batch))
    (record_bytes way * p.last + s.fileat) (render 12 whole)

-- the old amount goes out of both totals, and the new one comes in
abbrev pub side_outcome : Way → List ℕ → Places → Side → ℕ → ℕ → ℕ → Outcome Altered
side_outcome way f p s total old amount =
    altered (side_answer p s (batch_total way f p s - old + amount) (total - old + amount))
    (pos amount -ℤ pos old)
    (side_put way f p s amount (batch_total way f p s - old + amount) (total - old + amount)) f

-- the three records lie in n bytes, and the totals in their records
pub record Ordered (way : Way) (n : ℕ) (p : Places) (s : Side) : Type 0 where
  pub first : p.entry < p.control
  pub second : p.control < p.last
  pub inside : record_bytes way * (p.last + 1) ≤ n
  pub batchat : s.batchat + 12 ≤ 94
  pub fileat : s.fileat + 12 ≤ 94

-- both totals have the old amount in them, and no number is large
pub record Ready (way : Way) (f : List ℕ) (p : Places) (s : Side) (total old amount : ℕ) : Type 0 where
  pub ordered : Ordered way (length f) p s
  pub few : p.last < 1000000
  pub inbatch : old ≤ batch_total way f p s
  pub batch : batch_total way f p s ≤ total_limit
  pub intotal : old ≤ total
  pub whole : total ≤ total_limit
  pub new : amount < 10000000000
