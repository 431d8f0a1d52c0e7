-- The variables that the units of a file become.
-- Source: LLVM Language Reference, "Global Variables". Differs: a variable without an initialiser is a declaration, which keeps no attachment;
-- in a source the alignment is the written one, in an output at least that of its type.
use Rattle.std.specs.Prelude.{ℕ, Bool, cond, max, List, [], ◌∷◌, Option, Some, None, is_none, unwrap_or}
use Rattle.ltt_base.specs.declared.refusal.Place.{Place}
use Rattle.ltt_base.specs.declared.refusal.Placed.{Placed}
use Rattle.ir_values.specs.declared.types.Ty.{Ty}
use Rattle.ir_values.specs.declared.constants.Const.{Const}
use Rattle.ir_values.specs.declared.modules.Var.{Var}
use Rattle.ir_values.specs.declared.units.Unit.{Unit}
use Rattle.ir_values.specs.declared.units.Attach.{Attach}
use Rattle.ir_values.specs.declared.units.Form.{Form}
use Rattle.ir_values.specs.declared.units.Form.TheVariants.{VariableForm}
use Rattle.check_types.specs.Measures.{align}
use Rattle.check_types.specs.Replaced.{replaced}
use Rattle.check_constants.specs.Kept.{kept}
use Rattle.check_items.specs.Entries.{entries_of, visibility_of}
use Rattle.built_modules.specs.Linkages.{linkage_of}

-- the alignment that is written; 1 where none is, or no number
abbrev pub written_align : Option (Option ℕ) → ℕ
written_align None = 1
written_align (Some bytes) = unwrap_or bytes 1

-- the alignment that a variable of a type is given
abbrev pub align_of : Bool → List (Placed Unit) → Ty → Option (Option ℕ) → ℕ
align_of output us ty written = cond output (max (written_align written) (align us ty)) (written_align written)

abbrev pub init_of : List (Placed Unit) → Ty → Option Const → Option Const
init_of us ty None = None
init_of us ty (Some constant) = Some (kept us (Some ty) constant)

-- the attachments that count: those of a definition
abbrev pub kept_attached : Option Const → List Attach → List Attach
kept_attached init attached = cond (is_none init) [] attached

-- the variable that a unit declares or defines
abbrev pub var_of : Bool → List (Placed Unit) → ℕ → Place → List ℕ → Option (List ℕ) → Bool → Ty → Option Const → Option (Option ℕ) → List Attach → Var
var_of output us file place name linkage constant ty init align attached = record {
  place = place;
  name = name;
  linkage = linkage_of (is_none init) linkage;
  constant = constant;
  ty = replaced us ty;
  init = init_of us ty init;
  align = align_of output us ty align;
  entries = entries_of us file (kept_attached init attached);
  visibility = visibility_of us (kept_attached init attached);
}

abbrev pub vars_in : Bool → List (Placed Unit) → ℕ → Place → Form → List Var
vars_in output us file place (VariableForm name linkage constant ty init align attached) =
    var_of output us file place name linkage constant ty init align attached ∷ []
vars_in output us file place _ = []

-- the variable of a unit that is one
abbrev pub vars_at : Bool → List (Placed Unit) → ℕ → Placed Unit → List Var
vars_at output us file u = vars_in output us file u.place u.value.form
