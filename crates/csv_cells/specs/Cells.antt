-- RFC 4180, as the lists of clients use it: fields, in quotes or not, with commas between them, and lines that end with CR LF.
use Rattle.std.specs.Prelude.{ℕ, zero, suc, ◌+◌, ◌-◌, Bool, true, false, ◌&&◌, ◌||◌, List, [], ◌∷◌, ◌++◌, leb, eqb, length, get_or, take, drop, replicate}
use Rattle.text.specs.Decimal.{pick}
use Rattle.csv_cells.specs.declared.Scan.{Scan}
use Rattle.csv_cells.specs.declared.Cell.{Cell}

-- "TEXTDATA = %x20-21 / %x23-2B / %x2D-7E"
abbrev pub is_text_data : ℕ → Bool
is_text_data b = (leb 32 b && leb b 33) || (leb 35 b && leb b 43) || (leb 45 b && leb b 126)

-- between quotes "TEXTDATA / COMMA / CR / LF / 2DQUOTE", the doubled quote aside
abbrev pub is_quoted_data : ℕ → Bool
is_quoted_data b = is_text_data b || eqb b 44 || eqb b 13 || eqb b 10

-- "escaped = DQUOTE *(TEXTDATA / COMMA / CR / LF / 2DQUOTE) DQUOTE", "non-escaped = *TEXTDATA": how a field goes on with the byte b.
-- A quote inside quotes is the first of two, or closes.
abbrev pub go_on : Scan → ℕ → Scan
go_on Scan.Fresh b = pick (eqb b 34) Scan.Quoted (pick (is_text_data b) Scan.Plain Scan.Stuck)
go_on Scan.Plain b = pick (is_text_data b) Scan.Plain Scan.Stuck
go_on Scan.Quoted b = pick (eqb b 34) Scan.Quote (pick (is_quoted_data b) Scan.Quoted Scan.Stuck)
go_on Scan.Quote b = pick (eqb b 34) Scan.Quoted Scan.Stuck
go_on Scan.Stuck b = Scan.Stuck

abbrev pub is_stuck : Scan → Bool
is_stuck Scan.Fresh = false
is_stuck Scan.Plain = false
is_stuck Scan.Quoted = false
is_stuck Scan.Quote = false
is_stuck Scan.Stuck = true

-- a field may end anywhere but inside its quotes
abbrev pub may_end : Scan → Bool
may_end Scan.Fresh = true
may_end Scan.Plain = true
may_end Scan.Quoted = false
may_end Scan.Quote = true
may_end Scan.Stuck = false

-- the field goes on as far as it can: how many bytes that are, and whether it may end there
unfoldable pub size_from : Scan → List ℕ → ℕ
size_from st [] = 0
size_from st (b ∷ bs) = pick (is_stuck (go_on st b)) 0 (1 + size_from (go_on st b) bs)

unfoldable pub ends_from : Scan → List ℕ → Bool
ends_from st [] = may_end st
ends_from st (b ∷ bs) = pick (is_stuck (go_on st b)) (may_end st) (ends_from (go_on st b) bs)

-- the field at the front of these bytes
abbrev pub cell_of : List ℕ → Cell
cell_of xs = record { size = size_from Scan.Fresh xs; whole = ends_from Scan.Fresh xs }

-- what a field says: what stands between its quotes, or all of it, with one quote for two
abbrev pub inner_of : List ℕ → List ℕ
inner_of raw = pick (eqb (get_or raw 0 0) 34) (take (length raw - 2) (drop 1 raw)) raw

-- `second`: the byte before was the first of two quotes
unfoldable pub undoubled : Bool → List ℕ → List ℕ
undoubled second [] = []
undoubled true (b ∷ bs) = undoubled false bs
undoubled false (b ∷ bs) = b ∷ undoubled (eqb b 34) bs

abbrev pub text_of : List ℕ → List ℕ
text_of raw = undoubled false (inner_of raw)

-- ---- a line, by the bytes from its first on

-- where the field at a byte stops, and what it says
abbrev pub stop_from : List ℕ → ℕ → ℕ
stop_from xs at = at + (cell_of (drop at xs)).size

abbrev pub text_from : List ℕ → ℕ → List ℕ
text_from xs at = text_of (take (cell_of (drop at xs)).size (drop at xs))

-- "CRLF", or the end of the bytes
abbrev pub break_at : List ℕ → ℕ → Bool
break_at xs n = leb (length xs) n || (eqb (get_or xs n 0) 13 && eqb (get_or xs (n + 1) 0) 10)

-- "record = field *(COMMA field)": one field and n more from a byte on, and the break behind the last
unfoldable pub fields_right : ℕ → List ℕ → ℕ → Bool
fields_right zero xs at = (cell_of (drop at xs)).whole && break_at xs (stop_from xs at)
fields_right (suc n) xs at =
    (cell_of (drop at xs)).whole && eqb (get_or xs (stop_from xs at) 0) 44 && fields_right n xs (stop_from xs at + 1)

unfoldable pub texts_from : ℕ → List ℕ → ℕ → List (List ℕ)
texts_from zero xs at = text_from xs at ∷ []
texts_from (suc n) xs at = text_from xs at ∷ texts_from n xs (stop_from xs at + 1)

unfoldable pub last_stop : ℕ → List ℕ → ℕ → ℕ
last_stop zero xs at = stop_from xs at
last_stop (suc n) xs at = last_stop n xs (stop_from xs at + 1)

-- the bytes of a line that stops there, its break included
abbrev pub size_by : List ℕ → ℕ → ℕ
size_by xs stop = pick (leb (length xs) stop) (length xs) (stop + 2)

-- "A line holds code, nine-digit routing number, account, amount, identification and name": six fields
abbrev pub six_fields : List ℕ → Bool
six_fields xs = fields_right 5 xs 0

abbrev pub six_texts : List ℕ → List (List ℕ)
six_texts xs = texts_from 5 xs 0

abbrev pub line_size : List ℕ → ℕ
line_size xs = size_by xs (last_stop 5 xs 0)

-- "A break at the very end starts no line, and empty input has none": each line by the bytes from its first on. There are no more
-- lines than bytes.
unfoldable pub lines_from : ℕ → List ℕ → List (List ℕ)
lines_from zero xs = []
lines_from (suc n) [] = []
lines_from (suc n) (b ∷ bs) = (b ∷ bs) ∷ lines_from n (drop (line_size (b ∷ bs)) (b ∷ bs))

abbrev pub lines_in : List ℕ → List (List ℕ)
lines_in xs = lines_from (length xs) xs

-- "all fields but the amount are filled with blanks on the right"
abbrev pub filled_to : ℕ → List ℕ → List ℕ
filled_to w p = p ++ replicate (w - length p) 32
