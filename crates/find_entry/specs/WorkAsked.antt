-- An entry number, asked of a file that was checked.
use Rattle.std.specs.Prelude.{Ok}
use Rattle.std.specs.Prelude.{ℕ, ◌&&◌, leb}
use Rattle.layout.specs.declared.Fault.{Fault}
use Rattle.layout.specs.Answers.{Answer}
use Rattle.layout.specs.Answers.{Checked}
use Rattle.view.specs.Outcome.{demand, and_then}
use Rattle.layout.specs.Paper.{refusal}

abbrev pub asked_of : Checked → ℕ → Answer
asked_of c k = and_then c.answer (demand (leb 1 k && leb k c.entries) (refusal Fault.NoEntry 0 0) (Ok tt))
