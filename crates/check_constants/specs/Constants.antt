-- What is found of a constant.
use Rattle.std.specs.Prelude.{false, None}
use Rattle.ir_values.specs.declared.constants.Const.{Const, fold-Const}
use Rattle.ir_values.specs.declared.constants.Const.TheOpen.{Const-F, Operand-F}
use Rattle.ir_values.specs.declared.constants.Operand.{Operand, fold-Operand}
use Rattle.check_constants.specs.declared.indices.Index.TheVariants.{Variable}
use Rattle.ir_values.specs.declared.constants.Const.TheVariants.{Null}
use Rattle.check_constants.specs.Weighed.{Weighed}
use Rattle.check_constants.specs.Addresses.{index_step, global_step, offset_step, null_step}
use Rattle.check_constants.specs.Keeping.{kept_step}
use Rattle.check_constants.specs.Rules.{written_step, flaw_step}

abbrev pub const_step : Const-F Weighed Weighed → Weighed
const_step layer = record {
  written = written_step layer;
  index = λ us ty. index_step us ty layer;
  global = global_step layer;
  offset = λ us. offset_step us layer;
  is_null = λ us. null_step us layer;
  kept = λ us ty. kept_step us ty layer;
  flaw = λ output us quiet allowed ty. flaw_step output us quiet allowed ty layer;
}

-- a register, which stands in no constant
abbrev pub register : Weighed
register = record {
  written = None;
  index = λ us ty. Variable;
  global = None;
  offset = λ us. 0;
  is_null = λ us. false;
  kept = λ us ty. Null;
  flaw = λ output us quiet allowed ty. None;
}

abbrev pub operand_step : Operand-F Weighed Weighed → Weighed
operand_step (Operand-F.Reg name) = register
operand_step (Operand-F.Const constant) = constant

abbrev pub weighed : Const → Weighed
weighed = fold-Const Weighed Weighed const_step operand_step

abbrev pub operand_weighed : Operand → Weighed
operand_weighed = fold-Operand Weighed Weighed const_step operand_step
