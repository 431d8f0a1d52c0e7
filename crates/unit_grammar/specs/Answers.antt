-- What a reader of a part answers, in the words of its texts.
use Rattle.std.specs.Prelude.{ℕ, List, drop, Result, Ok, Err}
use Rattle.unit_grammar.specs.declared.stop.Stop.{Stop}
use Rattle.unit_grammar.specs.declared.stop.Stop.TheVariants.{Absent, Deep, Memory}
use Rattle.unit_grammar.specs.Pieces.{Piece}
use Rattle.unit_grammar.specs.Longest.{IsLongest, NoneBegins}

-- The longest of the texts Q in front, which is one of P; that none of them begins there; or that O holds, which tells
-- that a part is opened too deep. Want of memory says nothing.
abbrev pub Tells : {A : Type 0} → (List Piece → A → Type 0) → (List Piece → A → Type 0) → (List Piece → Type 0) →
    List Piece → List Piece → Result (A × ℕ) Stop → Type 0
Tells P Q O tokens ts (Ok x) = IsLongest P Q ts x.0 (drop x.1 tokens)
Tells P Q O tokens ts (Err Absent) = NoneBegins Q ts
Tells P Q O tokens ts (Err Deep) = O ts
Tells P Q O tokens ts (Err Memory) = Unit {0}
