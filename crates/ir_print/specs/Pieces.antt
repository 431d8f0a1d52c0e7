-- Texts that are put together of pieces.
use Rattle.std.specs.Prelude.{ℕ, List, [], ◌∷◌, ◌++◌, codes, flat_map}

-- pieces behind one another
abbrev pub joined : List (List ℕ) → List ℕ
joined [] = []
joined (piece ∷ []) = piece
joined (piece ∷ next ∷ pieces) = piece ++ joined (next ∷ pieces)

-- pieces, each behind a comma
abbrev pub after_commas : List (List ℕ) → List ℕ
after_commas pieces = flat_map (λ piece. codes ", " ++ piece) pieces

-- pieces with commas between them
abbrev pub commas : List (List ℕ) → List ℕ
commas [] = []
commas (piece ∷ pieces) = piece ++ after_commas pieces

-- pieces, each behind a space
abbrev pub after_spaces : List (List ℕ) → List ℕ
after_spaces pieces = flat_map (λ piece. codes " " ++ piece) pieces

-- pieces with spaces between them
abbrev pub spaces : List (List ℕ) → List ℕ
spaces [] = []
spaces (piece ∷ pieces) = piece ++ after_spaces pieces
