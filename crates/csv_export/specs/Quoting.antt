-- One field of an exported line: "puts every field in quotes, drops trailing blanks and the amount's leading zeros down to one digit
-- before the point".
use Rattle.std.specs.Prelude.{ℕ, ◌&&◌, List, [], ◌∷◌, ◌++◌, ltb, eqb, length, take, drop}
use Rattle.text.specs.Decimal.{pick}

-- "drops trailing blanks": a byte before what is left of those behind it, where nothing is left a blank goes too
abbrev pub in_front : ℕ → List ℕ → List ℕ
in_front b [] = pick (eqb b 32) [] (b ∷ [])
in_front b (c ∷ cs) = b ∷ c ∷ cs

unfoldable pub trimmed : List ℕ → List ℕ
trimmed [] = []
trimmed (b ∷ bs) = in_front b (trimmed bs)

-- "a quote inside a field is doubled"
abbrev pub escaped : ℕ → List ℕ
escaped b = pick (eqb b 34) (34 ∷ 34 ∷ []) (b ∷ [])

unfoldable pub doubled : List ℕ → List ℕ
doubled [] = []
doubled (b ∷ bs) = escaped b ++ doubled bs

-- "escaped = DQUOTE *(..) DQUOTE"
abbrev pub quoted : List ℕ → List ℕ
quoted p = 34 ∷ (doubled p ++ (34 ∷ []))

-- a field in quotes, and the byte behind it
unfoldable pub cell : List ℕ → ℕ → List ℕ
cell p behind = quoted p ++ (behind ∷ [])

-- "drops .. the amount's leading zeros down to one digit before the point"
unfoldable pub unpadded : List ℕ → List ℕ
unpadded [] = []
unpadded (b ∷ bs) = pick (eqb b 48 && ltb 0 (length bs)) (unpadded bs) (b ∷ bs)

-- an amount of ten digits: eight before the point, two behind it
abbrev pub amount_text : List ℕ → List ℕ
amount_text p = unpadded (take 8 p) ++ (46 ∷ drop 8 p)
