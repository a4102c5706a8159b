-- Where the sections of a table stand, by bytes from its start.
use Rattle.std.specs.Prelude.{ℕ, ◌+◌, ◌*◌, ◌<◌, ◌≡◌, List, take, drop}
use Rattle.text.specs.Decimal.{value}
use Rattle.view.specs.Table.{batch_part, entry_part, addendum_part, count_of, count_wide, batch_wide, entry_wide, addendum_wide}
use Rattle.table_form.specs.declared.Sections.{Sections}

-- the number in six digits at a byte
abbrev pub count_at : List ℕ → ℕ → ℕ
count_at t at = value (take count_wide (drop at t))

-- "the length is 109 + 95 × batches + 93 × entries + 80 × addenda"
abbrev pub size_by : List ℕ → ℕ
size_by t =
    109 + batch_wide * count_of (batch_part t) + entry_wide * count_of (entry_part t) + addendum_wide * count_of (addendum_part t)

-- the counts of a table, and where its entry rows and its addenda begin
pub record Counted (t : List ℕ) (s : Sections) : Type 0 where
  pub batches : s.batches ≡ count_of (batch_part t)
  pub entries : s.entries ≡ count_of (entry_part t)
  pub addenda : s.addenda ≡ count_of (addendum_part t)
  pub batchesfew : s.batches < 1000000
  pub entriesfew : s.entries < 1000000
  pub addendafew : s.addenda < 1000000
  pub entryrows : s.entryrows ≡ 103 + 95 * s.batches
  pub textrows : s.textrows ≡ 109 + 95 * s.batches + 93 * s.entries
