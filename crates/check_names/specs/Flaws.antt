-- The flaws of a unit, and which of several counts.
-- Source: none; the codes, and which of several flaws is told, are this project's own (docs/refusals.md).
use Rattle.std.specs.Prelude.{ℕ, Bool, cond, nat_le, List, [], ◌∷◌, Option, Some, None}
use Rattle.ltt_base.specs.declared.refusal.Code.{Code}
use Rattle.ltt_base.specs.declared.refusal.Code.TheVariants.{E01, E02, E03, E04, E05, E06, E07, E08, E09, E10, E11, E12}
use Rattle.check_names.specs.declared.flaws.Flaw.{Flaw}
use Rattle.ir_names.specs.Words.{named_word}

-- a code's number
abbrev pub rank : Code → ℕ
rank E01 = 1
rank E02 = 2
rank E03 = 3
rank E04 = 4
rank E05 = 5
rank E06 = 6
rank E07 = 7
rank E08 = 8
rank E09 = 9
rank E10 = 10
rank E11 = 11
rank E12 = 12

-- of two flaws in the order of the text, the one that counts: the lower code, and of one code the first
abbrev pub counted : Flaw → Flaw → Flaw
counted f g = cond (nat_le (rank f.code) (rank g.code)) f g

infixr 5 ◌then◌
abbrev pub ◌then◌ : Option Flaw → Option Flaw → Option Flaw
(Some f) then (Some g) = Some (counted f g)
(Some f) then None = Some f
None then g = g

-- of the flaws of a list's items, the one that counts
abbrev pub each : {A : Type 0} → (A → Option Flaw) → List A → Option Flaw
each f [] = None
each f (x ∷ xs) = f x then each f xs

-- a flaw whose word is the unit's first token
abbrev pub when : Bool → Code → Option Flaw
when broken code = cond broken (Some (record { code = code; name = None })) None

-- a flaw with a word of its own
abbrev pub worded_when : Bool → Code → List ℕ → Option Flaw
worded_when broken code word = cond broken (Some (record { code = code; name = Some word })) None

-- a flaw whose word is a name behind its sign
abbrev pub named_when : Bool → Code → List ℕ → List ℕ → Option Flaw
named_when broken code sign name = worded_when broken code (named_word sign name)
