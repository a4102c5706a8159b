-- Bytes set inside one row.
use Rattle.std.specs.Prelude.{ℕ, zero, suc, List, [], ◌∷◌}
use Rattle.std.proofs.lemmas.List.Edits.{sets}

-- the rows, with the bytes vs in row k from its byte o on; both are counted from 0
unfoldable pub patch : List (List ℕ) → ℕ → ℕ → List ℕ → List (List ℕ)
patch [] k o vs = []
patch (r ∷ rs) zero o vs = sets r o vs ∷ rs
patch (r ∷ rs) (suc k) o vs = r ∷ patch rs k o vs
