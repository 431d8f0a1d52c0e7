-- The module of an output without flaws is as a printed one.
use Rattle.std.proofs.Common.{◌≡◌, ℕ, true, false, List}
use Rattle.ltt_base.specs.declared.refusal.Placed.{Placed}
use Rattle.ir_values.specs.declared.units.Unit.{Unit as TheUnit}
use Rattle.check_names.specs.Reserved.{is_intrinsic}
use Rattle.built_modules.specs.Modules.{module_of}
use Rattle.printed_units.specs.Written.{IsVar, IsFunc}
use Rattle.printed_units.proofs.ListLemmas.{all_of}
use Rattle.printed_units.proofs.ReadsAgain.{printed_reads_again}
use Rattle.printed_modules.specs.Printed.{IsKeptVar, IsKeptFunc}
use Rattle.printed_modules.proofs.ModuleLaws.{printed_is_same}
use Rattle.said_units.proofs.ReadLaws.{read_units_are_said}
use Rattle.clean_outputs.specs.Laws.{IsCleanOutput, CleanOutputsArePrinted, CleanIsSameAgain, OutputsWithoutNamedTypesAreShallow, OutputsWithoutNamedTypesAreSameAgain}
use Rattle.clean_outputs.specs.Shallow.{declarations_first}
use Rattle.clean_outputs.proofs.FileLemmas.{IsFile, file_of}
use Rattle.clean_outputs.proofs.GlobalLemmas.{globals_apart, functions_known}
use Rattle.clean_outputs.proofs.ItemLemmas.{IsPrintedVar, vars_printed, tables_printed}
use Rattle.clean_outputs.proofs.FuncLemmas.{IsPrintedFunc, funcs_printed}
use Rattle.clean_outputs.proofs.OrderLemmas.{ordered, all_ordered}
use Rattle.clean_outputs.proofs.ShallowLemmas.{unnamed_shallow}

output_file : (file : ℕ) (text : List ℕ) (us : List (Placed TheUnit)) → IsCleanOutput file text us → IsFile us
output_file file text us is = file_of us (read_units_are_said file text us is.bytes is.read) is.clean

pub clean_outputs_are_printed : CleanOutputsArePrinted
clean_outputs_are_printed file text us is small =
    let of = output_file file text us is in
    let m = module_of true us file in
    let known = functions_known us of file in
    let funcs = (declarations_first m).funcs in
    let vars = vars_printed us of file small.vars in
    let printed = all_ordered (IsPrintedFunc funcs) m (funcs_printed us of file funcs known small.funcs) in
    record {
      written = record {
        vars = all_of IsPrintedVar IsVar (λ v is. is.written) m.vars vars;
        tables = tables_printed us of file;
        funcs = all_of (IsPrintedFunc funcs) IsFunc (λ f is. is.written) funcs printed;
      };
      order = ordered m;
      vars = all_of IsPrintedVar IsKeptVar (λ v is. is.keeps) m.vars vars;
      funcs = all_of (IsPrintedFunc funcs) (IsKeptFunc funcs) (λ f is. is.keeps) funcs printed;
      apart = globals_apart us of file;
      no_intrinsic = all_of (IsPrintedFunc funcs) (λ f. is_intrinsic f.name ≡ false) (λ f is. is.plain) funcs printed;
    }

pub clean_is_same_again : CleanIsSameAgain
clean_is_same_again file text us is small again =
    printed_is_same printed_reads_again again (declarations_first (module_of true us file)) (clean_outputs_are_printed file text us is small)

pub outputs_without_named_types_are_shallow : OutputsWithoutNamedTypesAreShallow
outputs_without_named_types_are_shallow file text us is untyped = unnamed_shallow us (output_file file text us is) untyped file

pub outputs_without_named_types_are_same_again : OutputsWithoutNamedTypesAreSameAgain
outputs_without_named_types_are_same_again file text us is untyped again =
    clean_is_same_again file text us is (outputs_without_named_types_are_shallow file text us is untyped) again
