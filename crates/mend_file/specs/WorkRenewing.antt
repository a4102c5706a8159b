-- What memory holds once the records before the 9 are put: only the 9 and the fillers are wanting to the mended file.
use Rattle.std.specs.Prelude.{ℕ, ◌*◌, ◌≡◌, List, [], get_or}
use Rattle.text.specs.Rows.{joined}
use Rattle.layout.specs.declared.Way.{Way}
use Rattle.layout.specs.Ways.{record_bytes}
use Rattle.check_across.specs.declared.Sums.{Sums}
use Rattle.check_across.specs.WorkSmall.{Small}
use Rattle.check_record.specs.Record.{raw_records}
use Rattle.table_read.proofs.Writing.{Left}
use Rattle.mend.specs.Mend.{mended_end, mended_file, nine_at}

-- the 9 and the fillers behind it, of the lent file f
abbrev pub end_from : Way → List ℕ → Sums → List ℕ
end_from way f s = joined (mended_end way s (get_or (raw_records way f) (nine_at (raw_records way f)) []))

-- memory held `held`, and now holds m; the records before the 9 sum to s
pub record Bodied (way : Way) (f held : List ℕ) (s : Sums) (m : List ℕ) : Type 0 where
  pub small : Small s
  pub count : s.records ≡ nine_at (raw_records way f)
  pub left : Left (end_from way f s) (mended_file way f) held m 0 (record_bytes way * nine_at (raw_records way f))
