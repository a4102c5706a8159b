-- What the code relies on of the sums, and no rule of the paper: each of n records adds less than 10,000,000,000 to a sum.
use Rattle.std.specs.Prelude.{◌≤◌, ◌*◌}
use Rattle.check_across.specs.declared.Sums.{Sums}

pub record Small (s : Sums) : Type 0 where
  pub few : s.records ≤ 1000000
  pub batches : s.batches ≤ s.records
  pub entries : s.entries ≤ s.records
  pub addenda : s.addenda ≤ s.records
  pub hash : s.hash ≤ s.records * 10000000000
  pub debit : s.debit ≤ s.records * 10000000000
  pub credit : s.credit ≤ s.records * 10000000000
  pub batchrecords : s.batchrecords ≤ s.records
  pub batchhash : s.batchhash ≤ s.records * 10000000000
  pub batchdebit : s.batchdebit ≤ s.records * 10000000000
  pub batchcredit : s.batchcredit ≤ s.records * 10000000000
