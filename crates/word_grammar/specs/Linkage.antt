-- The linkage of an item.
--
-- Source: LLVM Language Reference, "Linkage Types". Differs: what is left out is read too.
use Rattle.std.specs.Prelude.{ℕ, List, ◌∷◌, ◌++◌, codes, Option}
use Rattle.ir_lex.specs.Words as table
use Rattle.unit_grammar.specs.Signs.{words}
use Rattle.unit_grammar.specs.Grammar.{token, maybe}
use Rattle.type_grammar.specs.Types.{IsPart}

-- all of them, and all but `external`
unfoldable pub linkage_words : List (List ℕ)
linkage_words = table.linkage_words ++ table.left_linkage_words

unfoldable pub other_linkage_words : List (List ℕ)
other_linkage_words =
    codes "private" ∷ codes "internal" ∷ codes "linkonce" ∷ codes "weak" ∷ codes "linkonce_odr" ∷ codes "weak_odr" ∷
    table.left_linkage_words

-- any of them, which says its word
unfoldable pub linkage : IsPart (List ℕ)
linkage = token (words linkage_words) (λ t. t.bytes)

unfoldable pub maybe_linkage : IsPart (Option (List ℕ))
maybe_linkage = maybe linkage

unfoldable pub other_linkage : IsPart (List ℕ)
other_linkage = token (words other_linkage_words) (λ t. t.bytes)

unfoldable pub maybe_other_linkage : IsPart (Option (List ℕ))
maybe_other_linkage = maybe other_linkage
