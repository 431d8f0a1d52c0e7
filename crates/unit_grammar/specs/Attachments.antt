-- Attachments.
--
-- Source: LLVM Language Reference, "Metadata". Differs: an attached node has a number.
use Rattle.std.specs.Prelude.{ℕ, List, codes}
use Rattle.ir_lex.specs.declared.token.Kind.TheVariants.{Meta}
use Rattle.ir_values.specs.declared.units.Attach.{Attach}
use Rattle.unit_grammar.specs.Signs.{Sign, of_number, of_no_number, mark, name}
use Rattle.unit_grammar.specs.Grammar.{token, ◌▹◌, ◌⋆◌, many, mapped}
use Rattle.unit_grammar.specs.Plain.{Plain}

-- `!KIND`, which is no number, and `!N`; 33 is `!`
abbrev pub meta_kind : Sign
meta_kind = of_no_number Meta 33

abbrev pub meta_node : Sign
meta_node = of_number Meta 33

abbrev pub attach_of : List ℕ × List ℕ → Attach
attach_of x = record { kind = x.0; node = x.1 }

-- `, !KIND !N`
unfoldable pub attach : Plain Attach
attach = mapped attach_of (mark (codes ",") ▹ token meta_kind (name Meta) ⋆ token meta_node (name Meta))

unfoldable pub attachments : Plain (List Attach)
attachments = many attach
