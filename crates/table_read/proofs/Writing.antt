-- Writing one thing behind the other, and the walk along a file's records that does so.
-- Assumes nothing.
use Prim.Native.Nat.{ℕ, ◌+◌, ◌<◌, ◌≤◌}
use native.Mathlib.Nat.{add-zero, add_assoc}
use native.Mathlib.Omega.{arith}
use mathlib.Core.Path.{◌≡◌, refl, sym, ap, ◌∙◌}
use mathlib.Core.Bool.{Bool, true, false}
use mathlib.Core.List.{List, [], ◌∷◌, ◌++◌, map}
use borrow.Author.Tests.{eq-eqb, ne_eqb}
use lib.Dec.{eqb}
use lib.ListN.{length, get_or, take, length-append}
use lib.Seq.{sets, length-sets}
use Rattle.text.specs.Decimal.{pick, render}
use Rattle.text.proofs.SetLaws.{sets_append}
use Rattle.layout.specs.declared.Way.{Way}
use Rattle.layout.specs.Ways.{record_bytes}
use Rattle.check_record.specs.Record.{columns_in}
use Rattle.check_record.proofs.Ways.{raw_chunk, raw_none, some_bytes}
use Rattle.table_read.specs.WorkPasses.{between, row_of, row_bytes, count_after, batch_piece, batch_bytes}
use Rattle.table_read.specs.WorkPuts.{Puts, Room}

-- ---- one behind the other

-- the memory keeps its length
pub puts_long : {xs a b : List ℕ} {to next : ℕ} → Puts xs a b to next → length b ≡ length a
puts_long {xs} {a} {b} {to} p = ap length p.stands ∙ length-sets a to xs

-- nothing written
pub puts_none : {xs a : List ℕ} {to : ℕ} → xs ≡ [] → Puts xs a a to to
puts_none {xs} {a} {to} e = record { stands = rw e refl; behind = rw e (sym (add-zero to)) }

-- two writers are one
pub puts_both : {xs ys a b c : List ℕ} {to middle next : ℕ} → Puts xs a b to middle → Puts ys b c middle next → Puts (xs ++ ys) a c to next
puts_both {xs} {ys} {a} {b} {c} {to} p q =
    record {
      stands = q.stands ∙ rw (p.stands, p.behind) (sym (sets_append a to xs ys));
      behind = q.behind ∙ rw (p.behind, length-append xs ys) (add_assoc to (length xs) (length ys));
    }

-- room for two is room for the first, and behind the first for the second
pub room_front : (xs ys : List ℕ) {a : List ℕ} {to : ℕ} → Room (xs ++ ys) a to → Room xs a to
room_front xs ys h = record { fits = omega (arith, length-append xs ys) }

pub room_rest : {xs a b : List ℕ} {to next : ℕ} → Puts xs a b to next → (ys : List ℕ) → Room (xs ++ ys) a to → Room ys b next
room_rest {xs} p ys h = record { fits = omega (arith, length-append xs ys, puts_long p, p.behind) }

-- ---- a pass that is under way: what is left, written from here on, gives the whole
pub record Left (rest all was here : List ℕ) (start to : ℕ) : Type 0 where
  pub stands : sets here to rest ≡ sets was start all
  pub behind : to + length rest ≡ start + length all

pub left_start : (all was : List ℕ) (start : ℕ) → Left all all was was start start
left_start all was start = record { stands = refl; behind = refl }

module _ {rest all was here : List ℕ} {start to : ℕ} (left : Left rest all was here start to) where
  pub left_long : length here ≡ length was
  left_long = sym (length-sets here to rest) ∙ ap length left.stands ∙ length-sets was start all

  pub left_end : rest ≡ [] → Puts all was here start to
  left_end e =
      record {
        stands = ap (sets here to) (sym e) ∙ left.stands;
        behind = sym (add-zero to) ∙ ap (λ l. to + length l) (sym e) ∙ left.behind;
      }

  -- the next piece has room
  pub left_room : (xs more : List ℕ) → rest ≡ xs ++ more → Room all was start → Room xs here to
  left_room xs more e h = record { fits = omega (arith, left_long, left.behind, ap length e, length-append xs more) }

  -- and leaves what is behind it
  pub left_next : (xs more after : List ℕ) (next : ℕ) → rest ≡ xs ++ more → Puts xs here after to next → Left more all was after start next
  left_next xs more after next e p =
      record {
        stands = rw (p.stands, p.behind) (sym (sets_append here to xs more)) ∙ ap (sets here to) (sym e) ∙ left.stands;
        behind = rw p.behind (add_assoc to (length xs) (length more)) ∙ ap (λ n. to + n) (sym (length-append xs more) ∙ ap length (sym e)) ∙ left.behind;
      }

-- ---- the columns of the records that are left, a chunk off the front

-- the turn of a pass: what it found left, the record that stands there with its line end, and the rest
pub record Turn (way : Way) (found raw rest rec : List ℕ) : Type 0 where
  pub parts : found ≡ raw ++ rest
  pub long : length raw ≡ record_bytes way
  pub cut : rec ≡ take 94 raw

columns_next : {way : Way} {found raw rest rec : List ℕ} → Turn way found raw rest rec → columns_in way found ≡ rec ∷ columns_in way rest
columns_next {way} {found} {raw} {rest} {rec} t =
    rw (t.parts, t.cut) (ap (map (take 94)) (raw_chunk way raw rest t.long))

columns_end : (way : Way) (rest : List ℕ) → length rest < record_bytes way → columns_in way rest ≡ []
columns_end way rest h = ap (map (take 94)) (raw_none way rest h)

-- ---- one record

-- of the kind asked for, or not
module _ (kind from end : ℕ) (r : List ℕ) where
  pub row_is : get_or r 0 0 ≡ kind → row_of kind from end r ≡ between from end r
  row_is e = rw (eq-eqb (get_or r 0 0) kind e)

  pub row_not : (get_or r 0 0 ≡ kind → ⊥) → row_of kind from end r ≡ []
  row_not d = rw (ne_eqb (get_or r 0 0) kind d)

-- a record 5, a record 8, any other
module _ (r : List ℕ) (n : ℕ) where
  pub batch_opens : get_or r 0 0 ≡ 53 → batch_piece r n ≡ between 1 75 r ++ between 79 94 r
  batch_opens e = rw e

  pub batch_closes : get_or r 0 0 ≡ 56 → batch_piece r n ≡ render 6 n
  batch_closes e = rw e

  pub batch_not : (get_or r 0 0 ≡ 53 → ⊥) → (get_or r 0 0 ≡ 56 → ⊥) → batch_piece r n ≡ []
  batch_not d e = rw (ne_eqb (get_or r 0 0) 53 d, ne_eqb (get_or r 0 0) 56 e)

  pub count_small : count_after r n ≤ n + 1
  count_small = go (eqb (get_or r 0 0) 53) (eqb (get_or r 0 0) 54)
    where
      go : (a b : Bool) → pick a 0 (pick b (n + 1) n) ≤ n + 1
      go true b = omega arith
      go false true = omega arith
      go false false = omega arith

-- ---- the passes

-- entries or addenda
module _ (way : Way) (kind from end : ℕ) (f was : List ℕ) (start : ℕ) where
  abbrev pub RowsLeft : List ℕ → List ℕ → ℕ → Type 0
  RowsLeft rest here to = Left (row_bytes kind from end (columns_in way rest)) (row_bytes kind from end (columns_in way f)) was here start to

  pub rows_end : (rest : List ℕ) {here : List ℕ} {to : ℕ} → RowsLeft rest here to → length rest < record_bytes way → Puts (row_bytes kind from end (columns_in way f)) was here start to
  unfolding row_bytes
  rows_end rest left h = left_end left (rw (columns_end way rest h))

  module _ {found raw rest rec : List ℕ} (t : Turn way found raw rest rec) where
    row_step : row_bytes kind from end (columns_in way found) ≡ row_of kind from end rec ++ row_bytes kind from end (columns_in way rest)
    unfolding row_bytes
    row_step = rw (columns_next t)

    module _ {here : List ℕ} {to : ℕ} (left : RowsLeft found here to) where
      pub rows_room : Room (row_bytes kind from end (columns_in way f)) was start → Room (row_of kind from end rec) here to
      rows_room h = left_room left (row_of kind from end rec) (row_bytes kind from end (columns_in way rest)) row_step h

      pub rows_next : {after : List ℕ} {next : ℕ} → Puts (row_of kind from end rec) here after to next → RowsLeft rest after next
      rows_next {after} {next} p = left_next left (row_of kind from end rec) (row_bytes kind from end (columns_in way rest)) after next row_step p

-- batches, with the entries counted so far
module _ (way : Way) (f was : List ℕ) (start : ℕ) where
  abbrev pub BatchesLeft : ℕ → List ℕ → List ℕ → ℕ → Type 0
  BatchesLeft count rest here to = Left (batch_bytes count (columns_in way rest)) (batch_bytes 0 (columns_in way f)) was here start to

  pub batches_end : (count : ℕ) (rest : List ℕ) {here : List ℕ} {to : ℕ} → BatchesLeft count rest here to → length rest < record_bytes way → Puts (batch_bytes 0 (columns_in way f)) was here start to
  unfolding batch_bytes
  batches_end count rest left h = left_end left (rw (columns_end way rest h))

  module _ {found raw rest rec : List ℕ} (t : Turn way found raw rest rec) (count : ℕ) where
    batch_step : batch_bytes count (columns_in way found) ≡ batch_piece rec count ++ batch_bytes (count_after rec count) (columns_in way rest)
    unfolding batch_bytes
    batch_step = rw (columns_next t)

    module _ {here : List ℕ} {to : ℕ} (left : BatchesLeft count found here to) where
      pub batches_room : Room (batch_bytes 0 (columns_in way f)) was start → Room (batch_piece rec count) here to
      batches_room h = left_room left (batch_piece rec count) (batch_bytes (count_after rec count) (columns_in way rest)) batch_step h

      pub batches_next : {after : List ℕ} {next : ℕ} → Puts (batch_piece rec count) here after to next → BatchesLeft (count_after rec count) rest after next
      batches_next {after} {next} p =
          left_next left (batch_piece rec count) (batch_bytes (count_after rec count) (columns_in way rest)) after next batch_step p

    -- the count stays below the bytes passed
    pub count_under : (size : ℕ) → count + length found ≤ size → count < size
    count_under size h = omega (arith, ap length t.parts, length-append raw rest, t.long, some_bytes way)

    pub count_less : (size : ℕ) → count + length found ≤ size → count_after rec count + length rest ≤ size
    count_less size h = omega (arith, count_small rec count, ap length t.parts, length-append raw rest, t.long, some_bytes way)
