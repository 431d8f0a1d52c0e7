-- Units that are left out.
--
-- Source: LLVM Language Reference; the words are those of what docs/language.md leaves out. Differs: such a unit ends with
-- its line or a later one, whatever stands in it.
use Rattle.std.specs.Prelude.{◌≡◌, ℕ, Bool, false, cond, ◌&&◌, List, [], ◌∷◌, drop, Option, Some, None, codes}
use Rattle.std.specs.List.{list_all}
use Rattle.ir_lex.specs.Letters.{is_word_start, is_word_byte}
use Rattle.ir_lex.specs.Words as table
use Rattle.ir_lex.specs.declared.token.Kind.TheVariants.{Global, Local, Comdat, HashWord}
use Rattle.ir_values.specs.declared.units.Form.{Form}
use Rattle.ir_values.specs.declared.units.Form.TheVariants.{LeftForm}
use Rattle.unit_grammar.specs.Pieces.{Piece}
use Rattle.unit_grammar.specs.Attachments.{meta_kind, meta_node}
use Rattle.unit_grammar.specs.Signs.{of_kind, mark, word, words}
use Rattle.unit_grammar.specs.Grammar.{Text, Is, token, ◌▹◌, ◌⋆◌, ◌or◌, maybe, many, mapped, sign}
use Rattle.type_grammar.specs.Names.{Name, Value}
use Rattle.type_grammar.specs.Types.{IsPart}
use Rattle.word_grammar.specs.Linkage.{linkage_words}
use Rattle.word_grammar.specs.Runs.{dropped_word}
use Rattle.module_grammar.specs.Lines.{Lined, Known}

-- a word that may stand before what is left out
unfoldable pub early_word : IsPart (Unit {0})
early_word = sign (words linkage_words) or dropped_word

unfoldable pub early_run : IsPart (Unit {0})
early_run = mapped (λ _. tt) (many early_word)

-- A token by which a unit is left out. It says its text, and where it ends.
abbrev pub telling : Piece → Option (List ℕ) × ℕ
telling t = (Some t.bytes, t.end)

unfoldable pub left_words : List (List ℕ)
left_words = table.left_words

unfoldable pub left_word : IsPart (Option (List ℕ) × ℕ)
left_word = token (words left_words) telling

unfoldable pub hash_word : IsPart (Option (List ℕ) × ℕ)
hash_word = token (of_kind HashWord) telling

unfoldable pub access_words : List (List ℕ)
access_words = codes "load" ∷ codes "store" ∷ []

unfoldable pub access_kinds : List (List ℕ)
access_kinds = codes "volatile" ∷ codes "atomic" ∷ []

-- `load volatile` and its like
unfoldable pub access : IsPart (Option (List ℕ) × ℕ)
access = words access_words ▹ token (words access_kinds) telling

unfoldable pub telling_word : IsPart (Option (List ℕ) × ℕ)
telling_word = left_word or hash_word or access

-- any number of words, then one by which the unit is left out
unfoldable pub plain_head : IsPart (Option (List ℕ) × ℕ)
plain_head = mapped (λ x. x.1) (early_run ⋆ telling_word)

-- a letter or `_`, then letters, digits and `_`
abbrev pub is_word : List ℕ → Bool
is_word [] = false
is_word (b ∷ bytes) = is_word_start b && list_all is_word_byte bytes

-- `!` and a word
abbrev pub node_word_of : List ℕ → Option (List ℕ)
node_word_of bytes = cond (is_word (drop 1 bytes)) (Some bytes) None

unfoldable pub maybe_distinct : IsPart (Unit {0})
maybe_distinct = mapped (λ _. tt) (maybe (sign (word (codes "distinct"))))

-- `!Word`, which says nothing where it is no `!` and a word
unfoldable pub node_word : IsPart (Option (List ℕ))
node_word = token meta_kind (λ t. node_word_of t.bytes)

-- `[distinct] !Word (`
unfoldable pub node_head : IsPart (Option (List ℕ) × ℕ)
node_head = mapped (λ x. x.1) (maybe_distinct ⋆ node_word ⋆ token (mark (codes "(")) (λ t. t.end))

-- what may stand before `=`, but for the number of a node
unfoldable pub left_name : IsPart (Unit {0})
left_name = sign (of_kind Global) or sign (of_kind Local) or sign (of_kind Comdat) or sign meta_kind

unfoldable pub named_head : IsPart (Option (List ℕ) × ℕ)
named_head = mapped (λ x. x.1) (left_name ⋆ mark (codes "=") ▹ plain_head)

unfoldable pub numbered_head : IsPart (Option (List ℕ) × ℕ)
numbered_head = meta_node ▹ mark (codes "=") ▹ (plain_head or node_head)

-- how a left unit begins
unfoldable pub left_head : IsPart (Option (List ℕ) × ℕ)
left_head = named_head or numbered_head or plain_head

-- the words that may stand first on a later line of the unit
unfoldable pub carried_words : List (List ℕ)
carried_words = codes "to" ∷ codes "cleanup" ∷ codes "catch" ∷ codes "filter" ∷ []

-- how a left unit begins, and all tokens up to the next that stands first on its line and is none of these words
abbrev pub IsLeftUnit : ((x : Name) → Text (Value x)) → Text Form
IsLeftUnit E ts form = (word : List ℕ) × Lined carried_words (Known (Is E left_head)) ts word × (form ≡ LeftForm word)
