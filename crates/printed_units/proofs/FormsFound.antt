-- What the reader of forms finds where a text of one of the lines of a printed module stands.
use Rattle.std.proofs.Common.{◌≡◌, true, List, ◌++◌, refl}
use Rattle.ir_values.specs.declared.units.Form.{Form}
use Rattle.unit_grammar.specs.Pieces.{Piece}
use Rattle.unit_grammar.specs.Signs.{Start, begins_any, all_apart}
use Rattle.unit_grammar.specs.Readers.{found, absent}
use Rattle.unit_grammar.proofs.SignLaws.{never_both}
use Rattle.unit_grammar.proofs.CoverLaws.{all_cover}
use Rattle.type_grammar.specs.Types.{IsPart}
use Rattle.head_grammar.specs.Heads.{declare_form, define_form}
use Rattle.head_grammar.specs.Variables.{variable_form}
use Rattle.head_grammar.proofs.HeadLaws.{declare_told, define_told, variable_told}
use Rattle.instruction_grammar.specs.Actions.{action, plain_action}
use Rattle.instruction_grammar.proofs.ActionLaws.{action_told, plain_action_told}
use Rattle.module_grammar.specs.Headers.{header}
use Rattle.module_grammar.specs.Items.{comdat, attributes, label, close}
use Rattle.module_grammar.specs.Metadata.{metadata}
use Rattle.module_grammar.specs.Tables.{table}
use Rattle.module_grammar.proofs.FormLaws.{header_told, comdat_told, attributes_told, label_told, close_told, metadata_told, table_told}
use Rattle.ir_text.specs.Forms.{named, body_form, module_form, form}
use Rattle.ir_text.specs.UnitReaders.{form_read}
use Rattle.ir_text.proofs.FormLaws.{named_starts, named_told, named_some, named_covered, body_begun}
use Rattle.ir_text.proofs.UnionLaws.{part_begun}
use Rattle.ir_text.proofs.InstructionStarts.{action_starts, action_some, action_covered, plain_action_starts, plain_action_some, plain_action_covered}
use Rattle.ir_text.proofs.HeadStarts.{declare_form_starts, declare_form_some, declare_form_covered, define_form_starts, define_form_some, define_form_covered, variable_form_starts, variable_form_some, variable_form_covered}
use Rattle.ir_text.proofs.ModuleStarts.{header_starts, header_some, header_covered, comdat_starts, comdat_some, comdat_covered, attributes_starts, attributes_some, attributes_covered, label_starts, label_some, label_covered, close_starts, close_some, close_covered, metadata_starts, metadata_some, metadata_covered, table_starts, table_some, table_covered}
use Rattle.printed_units.proofs.PartsFound.{IsToldBy, IsText, part_read, part_starts, part_begins}

-- a part isn't found where something else begins
pub not_there : {A : Type 0} {g : IsPart A} {T : List Start} → IsToldBy g T → (S : List Start) (ts : List Piece) → all_apart S T ≡ true →
    begins_any S ts ≡ true → part_read g ts ≡ absent
not_there {g = g} {T = T} h S ts apart begun = (part_begun g T h.is.told h.is.some h.covers).absent_at ts (never_both S T ts apart begun)

-- and where a text of it stands, it begins so
pub begins_so : {A : Type 0} {g : IsPart A} {T : List Start} → IsToldBy g T → (front rest : List Piece) (a : A) → IsText g front a →
    begins_any T (front ++ rest) ≡ true
begins_so {g = g} {T = T} h front rest a is =
    all_cover T (part_starts g) (front ++ rest) h.covers (part_begins h.is front rest a is)

-- the parts of the lines of a printed module, and those that are tried before them

pub named_told_by : IsToldBy named named_starts
named_told_by = record { is = record { told = named_told; some = named_some }; covers = named_covered }

pub action_told_by : IsToldBy action action_starts
action_told_by = record { is = record { told = action_told; some = action_some }; covers = action_covered }

pub plain_told_by : IsToldBy plain_action plain_action_starts
plain_told_by = record { is = record { told = plain_action_told; some = plain_action_some }; covers = plain_action_covered }

pub label_told_by : IsToldBy label label_starts
label_told_by = record { is = record { told = label_told; some = label_some }; covers = label_covered }

pub close_told_by : IsToldBy close close_starts
close_told_by = record { is = record { told = close_told; some = close_some }; covers = close_covered }

pub variable_told_by : IsToldBy variable_form variable_form_starts
variable_told_by = record { is = record { told = variable_told; some = variable_form_some }; covers = variable_form_covered }

pub metadata_told_by : IsToldBy metadata metadata_starts
metadata_told_by = record { is = record { told = metadata_told; some = metadata_some }; covers = metadata_covered }

pub define_told_by : IsToldBy define_form define_form_starts
define_told_by = record { is = record { told = define_told; some = define_form_some }; covers = define_form_covered }

pub declare_told_by : IsToldBy declare_form declare_form_starts
declare_told_by = record { is = record { told = declare_told; some = declare_form_some }; covers = declare_form_covered }

pub attributes_told_by : IsToldBy attributes attributes_starts
attributes_told_by = record { is = record { told = attributes_told; some = attributes_some }; covers = attributes_covered }

pub comdat_told_by : IsToldBy comdat comdat_starts
comdat_told_by = record { is = record { told = comdat_told; some = comdat_some }; covers = comdat_covered }

pub header_told_by : IsToldBy header header_starts
header_told_by = record { is = record { told = header_told; some = header_some }; covers = header_covered }

pub table_told_by : IsToldBy table table_starts
table_told_by = record { is = record { told = table_told; some = table_some }; covers = table_covered }

-- the lines of a body

abbrev body_starts : List Start
body_starts = named_starts ++ action_starts ++ plain_action_starts ++ label_starts ++ close_starts

body_absent : (S : List Start) (ts : List Piece) → all_apart S body_starts ≡ true → begins_any S ts ≡ true → part_read body_form ts ≡ absent
body_absent S ts apart begun = body_begun.absent_at ts (never_both S body_starts ts apart begun)

-- where the tokens begin so, what is found of the first part is found of the second
abbrev Passes : IsPart Form → IsPart Form → List Start → Type 0
Passes g h T =
    (ts : List Piece) (f : Form) (rest : List Piece) → begins_any T ts ≡ true → part_read g ts ≡ found f rest →
    part_read h ts ≡ found f rest

named_first : Passes named body_form named_starts
unfolding body_form
named_first ts f rest begun e = rw e refl

action_second : Passes action body_form action_starts
unfolding body_form
action_second ts f rest begun e = rw (not_there named_told_by action_starts ts refl begun, e) refl

plain_third : Passes plain_action body_form plain_action_starts
unfolding body_form
plain_third ts f rest begun e =
    rw (not_there named_told_by plain_action_starts ts refl begun, not_there action_told_by plain_action_starts ts refl begun, e) refl

label_fourth : Passes label body_form label_starts
unfolding body_form
label_fourth ts f rest begun e =
    rw (
      not_there named_told_by label_starts ts refl begun,
      not_there action_told_by label_starts ts refl begun,
      not_there plain_told_by label_starts ts refl begun,
      e,
    ) refl

close_fifth : Passes close body_form close_starts
unfolding body_form
close_fifth ts f rest begun e =
    rw (
      not_there named_told_by close_starts ts refl begun,
      not_there action_told_by close_starts ts refl begun,
      not_there plain_told_by close_starts ts refl begun,
      not_there label_told_by close_starts ts refl begun,
      e,
    ) refl

-- what stands outside of bodies

variable_first : Passes variable_form module_form variable_form_starts
unfolding module_form
variable_first ts f rest begun e = rw e refl

define_third : Passes define_form module_form define_form_starts
unfolding module_form
define_third ts f rest begun e =
    rw (not_there variable_told_by define_form_starts ts refl begun, not_there metadata_told_by define_form_starts ts refl begun, e) refl

declare_fourth : Passes declare_form module_form declare_form_starts
unfolding module_form
declare_fourth ts f rest begun e =
    rw (
      not_there variable_told_by declare_form_starts ts refl begun,
      not_there metadata_told_by declare_form_starts ts refl begun,
      not_there define_told_by declare_form_starts ts refl begun,
      e,
    ) refl

table_last : Passes table module_form table_starts
unfolding module_form
table_last ts f rest begun e =
    rw (
      not_there variable_told_by table_starts ts refl begun,
      not_there metadata_told_by table_starts ts refl begun,
      not_there define_told_by table_starts ts refl begun,
      not_there declare_told_by table_starts ts refl begun,
      not_there attributes_told_by table_starts ts refl begun,
      not_there comdat_told_by table_starts ts refl begun,
      not_there header_told_by table_starts ts refl begun,
      e,
    ) refl

-- where the tokens begin so, what is found of the part is the form

abbrev pub IsForm : IsPart Form → List Start → Type 0
IsForm g T =
    (ts : List Piece) (f : Form) (rest : List Piece) → begins_any T ts ≡ true → part_read g ts ≡ found f rest → form_read ts ≡ found f rest

in_body : (g : IsPart Form) (T : List Start) → Passes g body_form T → IsForm g T
unfolding form_read form
in_body g T passes ts f rest begun e = rw (passes ts f rest begun e) refl

in_module : (g : IsPart Form) (T : List Start) → all_apart T body_starts ≡ true → Passes g module_form T → IsForm g T
unfolding form_read form
in_module g T apart passes ts f rest begun e = rw (body_absent T ts apart begun, passes ts f rest begun e) refl

pub named_form : IsForm named named_starts
named_form = in_body named named_starts named_first

pub action_form : IsForm action action_starts
action_form = in_body action action_starts action_second

pub plain_form : IsForm plain_action plain_action_starts
plain_form = in_body plain_action plain_action_starts plain_third

pub label_form : IsForm label label_starts
label_form = in_body label label_starts label_fourth

pub close_form : IsForm close close_starts
close_form = in_body close close_starts close_fifth

pub a_variable_form : IsForm variable_form variable_form_starts
a_variable_form = in_module variable_form variable_form_starts refl variable_first

pub a_define_form : IsForm define_form define_form_starts
a_define_form = in_module define_form define_form_starts refl define_third

pub a_declare_form : IsForm declare_form declare_form_starts
a_declare_form = in_module declare_form declare_form_starts refl declare_fourth

pub a_table_form : IsForm table table_starts
a_table_form = in_module table table_starts refl table_last
