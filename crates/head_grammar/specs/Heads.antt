-- The heads of functions.
--
-- Source: LLVM Language Reference, "Functions".
use Rattle.std.specs.Prelude.{ℕ, Bool, true, false, List, ◌++◌, Option, codes}
use Rattle.ir_lex.specs.declared.token.Kind.TheVariants.{Global}
use Rattle.ir_values.specs.declared.types.Ty.{Ty}
use Rattle.ir_values.specs.declared.units.Attach.{Attach}
use Rattle.ir_values.specs.declared.units.Head.{Head}
use Rattle.ir_values.specs.declared.units.Param.{Param}
use Rattle.ir_values.specs.declared.units.Form.{Form}
use Rattle.ir_values.specs.declared.units.Form.TheVariants.{DeclareForm, DefineForm}
use Rattle.head_grammar.specs.declared.attached.Gathered.{Gathered}
use Rattle.head_grammar.specs.declared.begun.Begun.{Begun}
use Rattle.unit_grammar.specs.Signs.{of_kind, mark, word, name}
use Rattle.unit_grammar.specs.Grammar.{token, ◌▹◌, ◌⋆◌, at, mapped, ◌◃◌}
use Rattle.type_grammar.specs.Names.{a_type}
use Rattle.type_grammar.specs.Types.{IsPart}
use Rattle.word_grammar.specs.Linkage.{maybe_linkage}
use Rattle.word_grammar.specs.Attached.{head_attachments}
use Rattle.word_grammar.specs.Runs.{item_run}
use Rattle.head_grammar.specs.Parameters.{parameters}
use Rattle.head_grammar.specs.Extras.{all_extras, put, all_attached}

abbrev pub begun_of : Option (List ℕ) × (Unit {0} × (Ty × (List ℕ × (List Param × Bool)))) → Begun
begun_of x = record { linkage = x.0; result = x.1.1.0; name = x.1.1.1.0; params = x.1.1.1.1.0; dots = x.1.1.1.1.1 }

-- `[linkage] W T @Name(T W [%p], ..)`
unfoldable pub begun : Bool → IsPart Begun
begun declared = mapped begun_of (maybe_linkage ⋆ item_run ⋆ at a_type ⋆ token (of_kind Global) (name Global) ⋆ parameters declared)

abbrev pub head_of : Begun → List (List ℕ) → List Attach → Head
head_of b left attached = record {
  name = b.name;
  linkage = b.linkage;
  result = b.result;
  params = b.params;
  dots = b.dots;
  left = left;
  attached = attached;
}

abbrev pub declare_of : List Attach × (Begun × List (List ℕ)) → Form
declare_of x = DeclareForm (head_of x.1.0 x.1.1 x.0)

-- a declaration
unfoldable pub declare_form : IsPart Form
declare_form = mapped declare_of (word (codes "declare") ▹ head_attachments ⋆ begun true ⋆ all_extras)

abbrev pub define_of : Begun × (List (List ℕ) × Gathered) → Form
define_of x = DefineForm (head_of x.0 (x.1.0 ++ x.1.1.left) x.1.1.attached)

-- the head of a definition, up to its `{`
unfoldable pub define_form : IsPart Form
define_form = mapped define_of (word (codes "define") ▹ begun false ⋆ put ⋆ all_attached ◃ mark (codes "{"))
