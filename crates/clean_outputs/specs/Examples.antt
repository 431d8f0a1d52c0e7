-- A module of one variable, whose text is an output without flaws:
--
--     @v = global i64 7, align 8
use Rattle.std.specs.Prelude.{false, [], ◌∷◌, codes, Some}
use Rattle.ir_values.specs.declared.types.Width.TheVariants.{W64}
use Rattle.ir_values.specs.declared.types.Ty.TheVariants as ty
use Rattle.ir_values.specs.declared.constants.Const.TheVariants as const
use Rattle.ir_values.specs.declared.modules.Linkage.TheVariants.{Strong}
use Rattle.ir_values.specs.declared.modules.Module.{Module}
use Rattle.printed_modules.specs.Printed.{no_place}

abbrev pub example : Module
example = record {
  vars = record {
    place = no_place;
    name = codes "v";
    linkage = Strong;
    constant = false;
    ty = ty.Int W64;
    init = Some (const.Int W64 7);
    align = 8;
    entries = [];
    visibility = 0;
  } ∷ [];
  funcs = [];
  jumps = [];
}
