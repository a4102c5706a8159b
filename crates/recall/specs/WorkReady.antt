-- What the code relies on behind the check of a file, and no rule of the paper.
use Rattle.std.specs.Prelude.{Ok}
use Rattle.std.specs.Prelude.{ℕ, ◌≡◌, List}
use Rattle.layout.specs.Answers.{Checked}
use Rattle.layout.specs.declared.Way.{Way}
use Rattle.check_record.specs.Record.{checked_of}

-- the file is accepted, and this is what its check gave
pub record AcceptedAs (way : Way) (f : List ℕ) (checked : Checked) : Type 0 where
  pub told : checked ≡ checked_of way f
  pub granted : checked.answer ≡ Ok tt
