-- A granted mending says what the lent file says: the mended file has the lent file's view, and is the file of that view and of its table.
-- Assumes that mending is granted.
use Rattle.std.specs.Prelude.{Ok}
use mathlib.Core.Path.{◌≡◌, refl, sym, ap, ◌∙◌, subst}
use mathlib.Core.Bool.{Bool, true, false, ◌||◌}
use mathlib.Core.List.{List, [], ◌∷◌, ◌++◌, map, foldr}
use Prim.Native.Nat.{ℕ}
use borrow.Author.Tests.{eqb-true}
use lib.Dec.{eqb}
use lib.ListN.{take}
use Rattle.text.specs.Decimal.{pick}
use Rattle.layout.specs.declared.Way.{Way}
use Rattle.check_record.specs.Record.{raw_records}
use Rattle.view.specs.View.{Reading, nothing, gather, file_of, view_of}
use Rattle.view.specs.Table.{table_bytes, formed, table_of}
use Rattle.view_laws.proofs.Bridge.{FileOf, accepted_view}
use Rattle.view_laws.proofs.RoundTrips.{file_back}
use Rattle.mend.specs.Mend.{type_of, mended_file, mend_answer}
use Rattle.mend.specs.Kept.{beside_controls}
use Rattle.mend.proofs.Again.{by_test}
use Rattle.mend.proofs.Together.{columns_type}
use Rattle.mend.proofs.Granted.{exactly_granted, grant_keeps}

-- ---- a view is read from the records that are neither controls nor fillers

-- a record that begins with 8 or 9 adds nothing
silent : (r : List ℕ) (g : Reading) (t : Bool) → eqb (type_of r) 56 ≡ t → (t || eqb (type_of r) 57) ≡ true → gather (take 94 r) g ≡ g
silent r g true h e = rw (columns_type r ∙ eqb-true (type_of r) 56 h)
silent r g false h e = rw (columns_type r ∙ eqb-true (type_of r) 57 e)

-- what records tell, with what stands in the place of a line end
abbrev told : List (List ℕ) → Reading
told rs = foldr gather nothing (map (take 94) rs)

told_beside : (rs : List (List ℕ)) → told rs ≡ told (beside_controls rs)
unfolding beside_controls
told_beside [] = refl
told_beside (r ∷ rs) =
    by_test (eqb (type_of r) 56 || eqb (type_of r) 57)
    (λ e. silent r (told rs) (eqb (type_of r) 56) refl e ∙ told_beside rs ∙ sym (ap (λ t. told (pick t [] (r ∷ []) ++ beside_controls rs)) e))
    (λ e. ap (gather (take 94 r)) (told_beside rs) ∙ sym (ap (λ t. told (pick t [] (r ∷ []) ++ beside_controls rs)) e))

module _ (way : Way) where
  -- so files with the same such records have the same view
  pub view_beside : (f g : List ℕ) → beside_controls (raw_records way f) ≡ beside_controls (raw_records way g) → view_of way f ≡ view_of way g
  view_beside f g e =
      let same : told (raw_records way f) ≡ told (raw_records way g) = told_beside (raw_records way f) ∙ ap told e ∙ sym (told_beside (raw_records way g)) in
      ap (λ t. record { row = t.row; batches = t.batches }) same

  -- ---- a grant

  -- nobody's header, entry or addendum changes: the two files say the same
  pub granted_view : (f : List ℕ) (n m : ℕ) → mend_answer way f n m ≡ Ok tt → view_of way (mended_file way f) ≡ view_of way f
  granted_view f n m e = view_beside (mended_file way f) f (grant_keeps way f n m e)

  -- that view has its sizes and keeps the rules, and the mended file is the file of it
  pub granted_form : (f : List ℕ) (n m : ℕ) → mend_answer way f n m ≡ Ok tt → FileOf way (mended_file way f) (view_of way f)
  granted_form f n m e =
      subst (FileOf way (mended_file way f)) (granted_view f n m e) (accepted_view way (mended_file way f) ((exactly_granted way f n m).0 e).accepted)

  pub granted_file : (f : List ℕ) (n m : ℕ) → mend_answer way f n m ≡ Ok tt → mended_file way f ≡ file_of way (view_of way f)
  granted_file f n m e = (granted_form f n m e).form

  -- both files have one table, and the mended file is the one that is formed of it
  pub granted_table_lem : (f : List ℕ) (n m : ℕ) → mend_answer way f n m ≡ Ok tt
      → (table_of way (mended_file way f) ≡ table_of way f) × (mended_file way f ≡ formed way (table_of way f))
  granted_table_lem f n m e =
      let same = ap table_bytes (granted_view f n m e) in
      (same, sym (file_back way (mended_file way f) ((exactly_granted way f n m).0 e).accepted).1 ∙ ap (formed way) same)

  -- so what the lent controls and fillers say has no part in it: files that say the same are mended to the same file
  pub granted_one : (f g : List ℕ) (n m k l : ℕ) → mend_answer way f n m ≡ Ok tt → mend_answer way g k l ≡ Ok tt
      → view_of way f ≡ view_of way g → mended_file way f ≡ mended_file way g
  granted_one f g n m k l e d same = granted_file f n m e ∙ ap (file_of way) same ∙ sym (granted_file g k l d)
