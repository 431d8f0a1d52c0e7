-- What stands behind the parameters of a head.
--
-- Source: LLVM Language Reference, "Functions", "Garbage Collector Strategy Names", "Prefix Data", "Prologue Data" and
-- "Personality Function". Differs: these four are kept by their words, and may stand at any place behind the parameters.
use Rattle.std.specs.Prelude.{ℕ, List, [], ◌∷◌, ◌++◌, codes}
use Rattle.ir_lex.specs.declared.token.Kind.TheVariants.{Quoted}
use Rattle.ir_values.specs.declared.units.Attach.{Attach}
use Rattle.head_grammar.specs.declared.attached.Attached.{Attached}
use Rattle.head_grammar.specs.declared.attached.Gathered.{Gathered}
use Rattle.unit_grammar.specs.Signs.{of_kind, word, words}
use Rattle.unit_grammar.specs.Grammar.{token, ◌⋆◌, ◌or◌, ◌◃◌, maybe, many, at, mapped, listed}
use Rattle.type_grammar.specs.Names.{a_type, a_constant}
use Rattle.type_grammar.specs.Types.{IsPart}
use Rattle.word_grammar.specs.Attached.{head_attach}
use Rattle.word_grammar.specs.Places.{section, comdat, placed}
use Rattle.word_grammar.specs.Runs.{function_run}

unfoldable pub constant_words : List (List ℕ)
constant_words = codes "personality" ∷ codes "prefix" ∷ codes "prologue" ∷ []

-- `personality T C`, and the other two
unfoldable pub with_constant : IsPart (List ℕ)
with_constant = mapped (λ x. x.0) (token (words constant_words) (λ t. t.bytes) ⋆ at a_type ⋆ at a_constant)

-- `gc "s"`
unfoldable pub collector : IsPart (List ℕ)
collector = token (word (codes "gc")) (λ t. t.bytes) ◃ of_kind Quoted

-- one of these with the words behind it
unfoldable pub extra : IsPart (List ℕ)
extra = mapped (λ x. x.0) ((with_constant or collector) ⋆ function_run)

unfoldable pub extras : IsPart (List (List ℕ))
extras = many extra

-- the words behind the parameters first
unfoldable pub all_extras : IsPart (List (List ℕ))
all_extras = mapped (λ x. x.1) (function_run ⋆ extras)

-- a place and what stands behind it, or nothing
abbrev pub perhaps_at : IsPart (Unit {0}) → IsPart (List (List ℕ))
perhaps_at place = mapped listed (maybe (mapped (λ x. x.1) (place ⋆ extras)))

unfoldable pub at_section : IsPart (List (List ℕ))
at_section = perhaps_at section

unfoldable pub at_comdat : IsPart (List (List ℕ))
at_comdat = perhaps_at comdat

unfoldable pub at_alignment : IsPart (List (List ℕ))
at_alignment = perhaps_at placed

-- all up to the attachments
unfoldable pub put : IsPart (List (List ℕ))
put = mapped (λ x. x.0 ++ x.1.0 ++ x.1.1.0 ++ x.1.1.1) (all_extras ⋆ at_section ⋆ at_comdat ⋆ at_alignment)

abbrev pub attached_of : Attach × List (List ℕ) → Attached
attached_of x = record { attach = x.0; left = x.1 }

-- an attachment and what stands behind it
unfoldable pub attached : IsPart Attached
attached = mapped attached_of (head_attach ⋆ extras)

abbrev pub attachments_of : List Attached → List Attach
attachments_of [] = []
attachments_of (x ∷ xs) = x.attach ∷ attachments_of xs

abbrev pub left_of : List Attached → List (List ℕ)
left_of [] = []
left_of (x ∷ xs) = x.left ++ left_of xs

abbrev pub gathered_of : List Attached → Gathered
gathered_of xs = record { attached = attachments_of xs; left = left_of xs }

unfoldable pub all_attached : IsPart Gathered
all_attached = mapped gathered_of (many attached)
