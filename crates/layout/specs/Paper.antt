-- "For every answer that is an enum, a definition gives this paper's number and values for each case of the enum."
use Rattle.std.specs.Prelude.{Ok, Err}
use Rattle.std.specs.Prelude.{ℕ}
use Rattle.layout.specs.declared.Fault.{Fault}
use Rattle.layout.specs.Answers.{Answer}

-- the paper's table of numbers
abbrev pub number_of : Fault → ℕ
-- length 0, not a multiple of 94, or over 94,000,000
number_of Fault.Length = 1
-- data end where a record is still due, filler included
number_of Fault.Ended = 2
-- record type not allowed here
number_of Fault.Misplaced = 3
-- a record after the filled block
number_of Fault.Past = 4
-- Fixed: exactly the text shown (else 5)
number_of Fault.Fixed = 5
-- Digits: '0' to '9' only (else 6)
number_of Fault.Digits = 6
-- Text: bytes 0x20 to 0x7E without a to z (else 7)
number_of Fault.Text = 7
-- Mandatory text is not all blank (else 8)
number_of Fault.Blank = 8
-- Text that isn't all blank doesn't start with a blank (else 9)
number_of Fault.Leading = 9
-- a real day of 2000 to 2099 (10); hour 00-23 and minute 00-59 (10)
number_of Fault.Date = 10
-- a value that is not among those allowed (11)
number_of Fault.Value = 11
-- check digit (12)
number_of Fault.CheckDigit = 12
-- first digit 0 to 3 (13)
number_of Fault.Bank = 13
-- amount in cents (14)
number_of Fault.Amount = 14
-- under 220 credit codes only, under 225 debit codes only (15)
number_of Fault.Side = 15
-- trace (16)
number_of Fault.Trace = 16
-- batch number (17)
number_of Fault.BatchNumber = 17
-- counts (18)
number_of Fault.Count = 18
-- entry hash (19)
number_of Fault.Hash = 19
-- the true sum at most 999,999,999,999 (20)
number_of Fault.Limit = 20
-- then equal to it (21)
number_of Fault.Total = 21
-- as in record 5 (22)
number_of Fault.Batch = 22
-- granted otherwise, but the lent buffer is too short
number_of Fault.Room = 23
-- a table of wrong shape
number_of Fault.Shape = 24
-- no such entry number
number_of Fault.NoEntry = 25
-- a record not followed by CR LF
number_of Fault.LineEnd = 26
-- no entry would be left
number_of Fault.NoneLeft = 27
-- a zero-dollar code in a PPD batch, or without the addendum
number_of Fault.Remittance = 28
-- a line that is not six fields in the RFC's grammar
number_of Fault.Comma = 29
-- a line's amount not in its form or over 9,999,999,999 cents
number_of Fault.Cents = 30
-- another field of a line too long for its columns
number_of Fault.Long = 32
-- the first rows lent with an alteration aren't that file's list
number_of Fault.Rows = 34

-- what the paper prints of an answer: number, record, field; all 0 where it is granted
pub record Paper : Type 0 where
  pub number : ℕ
  pub record_no : ℕ
  pub field_no : ℕ

abbrev pub paper_of : Answer → Paper
paper_of (Ok _) = record { number = 0; record_no = 0; field_no = 0 }
paper_of (Err r) = record { number = number_of r.fault; record_no = r.record.0; field_no = r.field }

-- a refusal, by its cause and its place
abbrev pub refusal : Fault → ℕ → ℕ → Answer
refusal fault n k = Err (record { fault = fault; «record» = record { 0 = n }; field = k })
