-- How the texts of a part begin and what could follow them, so that a part is read by looking at two tokens.
use Rattle.std.specs.Prelude.{Bool, true, false, not, ◌&&◌, ◌||◌, cond, List, [], ◌∷◌, ◌++◌, map, Some, None}
use Rattle.unit_grammar.specs.Signs.{Sign, Start, all_apart}
use Rattle.unit_grammar.specs.Grammar.{Part, nothing, token, enclosed, ◌▹◌, ◌⋆◌, says, ◌or◌, maybe, many, at}

abbrev pub one_sign : Sign → Start
one_sign s = record { first = s; second = None }

abbrev pub two_signs : Sign → Start → Start
two_signs s r = record { first = s; second = Some r.first }

-- whether nothing is a text of the part
abbrev pub nullable : {N : Type 0} {V : N → Type 0} {A : Type 0} → Part N V A → Bool
nullable (nothing x) = true
nullable (token s f) = false
nullable (enclosed o c) = false
nullable (s ▹ p) = false
nullable (p ⋆ q) = nullable p && nullable q
nullable (says f p) = nullable p
nullable (p or q) = nullable p || nullable q
nullable (maybe p) = true
nullable (many p) = true
nullable (at x) = false

-- how the texts of a part that have tokens begin, where B tells it of the named parts
abbrev pub starts : {N : Type 0} {V : N → Type 0} → (N → List Start) → {A : Type 0} → Part N V A → List Start
starts B (nothing x) = []
starts B (token s f) = one_sign s ∷ []
starts B (enclosed o c) = one_sign o ∷ []
starts B (s ▹ p) = cond (nullable p) (one_sign s ∷ []) (map (two_signs s) (starts B p))
starts B (p ⋆ q) = starts B p ++ cond (nullable p) (starts B q) []
starts B (says f p) = starts B p
starts B (p or q) = starts B p ++ starts B q
starts B (maybe p) = starts B p
starts B (many p) = starts B p
starts B (at x) = B x

-- how what could make a text of the part longer begins, where M tells it of the named parts
abbrev pub more : {N : Type 0} {V : N → Type 0} → (N → List Start) → (N → List Start) → {A : Type 0} → Part N V A → List Start
more B M (nothing x) = []
more B M (token s f) = []
more B M (enclosed o c) = []
more B M (s ▹ p) = more B M p
more B M (p ⋆ q) = more B M q ++ cond (nullable q) (more B M p) []
more B M (says f p) = more B M p
more B M (p or q) = more B M p ++ more B M q
more B M (maybe p) = more B M p ++ starts B p
more B M (many p) = more B M p ++ starts B p
more B M (at x) = M x

-- two tokens tell at each place which way a text goes on
abbrev pub is_told : {N : Type 0} {V : N → Type 0} → (N → List Start) → (N → List Start) → {A : Type 0} → Part N V A → Bool
is_told B M (nothing x) = true
is_told B M (token s f) = true
is_told B M (enclosed o c) = true
is_told B M (s ▹ p) = is_told B M p
is_told B M (p ⋆ q) = is_told B M p && is_told B M q && all_apart (more B M p) (starts B q)
is_told B M (says f p) = is_told B M p
is_told B M (p or q) = is_told B M p && is_told B M q && not (nullable p) && not (nullable q) && all_apart (starts B p) (starts B q)
is_told B M (maybe p) = is_told B M p && not (nullable p)
is_told B M (many p) = is_told B M p && not (nullable p) && all_apart (more B M p) (starts B p)
is_told B M (at x) = true
