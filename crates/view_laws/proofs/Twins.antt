-- The two ways say the same: the same records, with line ends and without, are checked alike and have one view and one table.
-- Assumes records of 94 columns.
use Rattle.std.specs.Prelude.{Ok}
use mathlib.Core.Path.{◌≡◌, refl, sym, ap, ◌∙◌}
use mathlib.Core.List.{List, [], ◌∷◌, map}
use Prim.Native.Nat.{ℕ}
use native.Mathlib.Omega.{arith}
use mathlib.Core.Bool.{Bool, true, false}
use lib.Dec.{leb}
use lib.ListN.{length}
use borrow.Author.Tests.{leb-true, leb-false}
use Rattle.text.specs.Rows.{joined}
use Rattle.text.specs.Widths.{AllLong}
use Rattle.layout.specs.declared.Way.{Way}
use Rattle.check_record.specs.Record.{checked_of, most_records}
use Rattle.view.specs.View.{closed_by, view_of, file_of, view_of_records}
use Rattle.view.specs.Table.{table_bytes, table_of}
use Rattle.view_laws.proofs.Ways.{columns_back}
use Rattle.view_laws.proofs.Reading.{view_of_file}
use Rattle.view_laws.proofs.Bridge.{checked_joined, checked_many, complete, accepted_view, accepted_gives}

-- the same answer, refusal or acceptance, of any records
pub twins : (way other : Way) (rs : List (List ℕ)) → AllLong 94 rs
    → checked_of way (joined (map (closed_by way) rs)) ≡ checked_of other (joined (map (closed_by other) rs))
unfolding joined
twins way other [] l = refl
twins way other (r ∷ rs) l = go (leb (length (r ∷ rs)) most_records) refl
  where
    go : (b : Bool) → leb (length (r ∷ rs)) most_records ≡ b
        → checked_of way (joined (map (closed_by way) (r ∷ rs))) ≡ checked_of other (joined (map (closed_by other) (r ∷ rs)))
    go true e =
        let m = leb-true (length (r ∷ rs)) most_records e in
        checked_joined way (r ∷ rs) l (omega arith) m ∙ sym (checked_joined other (r ∷ rs) l (omega arith) m)
    go false e =
        let m = leb-false (length (r ∷ rs)) most_records e in
        checked_many way (r ∷ rs) l m ∙ sym (checked_many other (r ∷ rs) l m)

-- the same view and the same table
pub twin_view : (way other : Way) (rs : List (List ℕ)) → AllLong 94 rs
    → view_of way (joined (map (closed_by way) rs)) ≡ view_of other (joined (map (closed_by other) rs))
twin_view way other rs l = ap view_of_records (columns_back way rs l ∙ sym (columns_back other rs l))

pub twin_table : (way other : Way) (rs : List (List ℕ)) → AllLong 94 rs
    → table_of way (joined (map (closed_by way) rs)) ≡ table_of other (joined (map (closed_by other) rs))
twin_table way other rs l = ap table_bytes (twin_view way other rs l)

-- an accepted file has a twin in the other way: the file of its view, accepted with the same counts and sums, whose twin it is
pub record Twin (way other : Way) (f g : List ℕ) : Type 0 where
  pub checked : checked_of other g ≡ checked_of way f
  pub view : view_of other g ≡ view_of way f
  pub table : table_of other g ≡ table_of way f
  pub back : file_of way (view_of other g) ≡ f

pub accepted_twin : (way other : Way) (f : List ℕ) → (checked_of way f).answer ≡ Ok tt → Twin way other f (file_of other (view_of way f))
accepted_twin way other f e =
    let p = accepted_view way f e in
    let same = view_of_file other (view_of way f) p.sized in
    record {
      checked = complete other (view_of way f) p.sized p.keeps ∙ sym (accepted_gives way f e);
      view = same;
      table = ap table_bytes same;
      back = ap (file_of way) same ∙ sym p.form;
    }
