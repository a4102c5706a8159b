use Rattle.csv_entry.proofs.EntryLaws.{bank_put}
use Rattle.csv_entry.proofs.entries.empty_row.Goals as goal

pub returns : goal.returns
returns c = bank_put c.args.bank.now c.put_number.new.s c.copy_into.new.to c.args.number c.told-bank c.copy_into.ensures c.put_number.ensures
