-- What is written of a thin file is as a printed module.
use Rattle.std.proofs.Common.{◌≡◌, refl, ap, arith, ◌^◌, ◌≤◌, false, not, List, [], ◌∷◌, length, map, filter}
use Rattle.std.specs.List.{AllByRecursion}
use Rattle.ir_values.specs.declared.modules.Func.{Func}
use Rattle.ir_values.specs.declared.modules.Module.{Module}
use Rattle.ir_print.specs.declared.intrinsics.Intrinsic.{Intrinsic}
use Rattle.ir_print.specs.ModuleText.{is_called}
use Rattle.check_names.specs.Reserved.{is_intrinsic}
use Rattle.thin_files.specs.declared.thin.Variable.{Variable}
use Rattle.thin_files.specs.Thin.{HaveCounts, module_of, variable_of}
use Rattle.thin_files.proofs.Example.{example-allowed}
use Rattle.test_lowering.specs.Rewriting.{combined_from, rewritten}
use Rattle.printed_units.specs.Written.{IsVar, IsFunc}
use Rattle.printed_units.proofs.ListLemmas.{all_of}
use Rattle.printed_units.proofs.ReadsAgain.{printed_reads_again}
use Rattle.printed_modules.specs.Printed.{IsKeptVar, IsKeptFunc, IsPrinted, is_declared, intrinsics_of}
use Rattle.printed_modules.proofs.ModuleLaws.{printed_is_same}
use Rattle.reprinted_outputs.specs.Laws.{OutputsArePrinted, OutputsAreSameAgain, ExampleHasOutput}
use Rattle.reprinted_outputs.proofs.CountLemmas.{few_variables}
use Rattle.reprinted_outputs.proofs.NameLemmas.{IsFree, no_intrinsic, names_apart}
use Rattle.reprinted_outputs.proofs.VariableLemmas.{IsMadeVar, made_vars}
use Rattle.reprinted_outputs.proofs.FunctionLemmas.{IsMade, AreMade, made_functions}

-- no function is declared, and none calls an intrinsic

none_declared : (funcs : List Func) → AllByRecursion IsMade funcs → filter is_declared funcs ≡ []
none_declared [] made = refl
none_declared (f ∷ funcs) made = rw made.0.defined (none_declared funcs made.1)

all_defined : (funcs : List Func) → AllByRecursion IsMade funcs → funcs ≡ filter (λ f. not (is_declared f)) funcs
all_defined [] made = refl
all_defined (f ∷ funcs) made = rw made.0.defined (ap (λ rest. f ∷ rest) (all_defined funcs made.1))

none_called : (intrinsic : Intrinsic) (funcs : List Func) → AllByRecursion IsMade funcs → is_called intrinsic funcs ≡ false
none_called intrinsic [] made = refl
none_called intrinsic (f ∷ funcs) made = rw (made.0.calls_none intrinsic) (none_called intrinsic funcs made.1)

no_intrinsics : (funcs : List Func) → AllByRecursion IsMade funcs → intrinsics_of funcs ≡ []
no_intrinsics funcs made =
    rw (none_called Intrinsic.Rotation funcs made, none_called Intrinsic.Trap funcs made, none_called Intrinsic.CodedTrap funcs made) refl

free_names : (funcs : List Func) → AllByRecursion IsMade funcs → AllByRecursion IsFree (map (λ f. f.name) funcs)
free_names [] made = tt
free_names (f ∷ funcs) made = (made.0.free, free_names funcs made.1)

-- the module of these variables and functions

abbrev output : List Variable → List Func → Module
output vs funcs = record { vars = combined_from 0 (map variable_of vs); funcs = funcs; jumps = [] }

output_printed : (vs : List Variable) (funcs : List Func) → HaveCounts vs → length vs ≤ 2 ^ 32 → AreMade funcs → IsPrinted (output vs funcs)
output_printed vs funcs counts few made =
    let vars = combined_from 0 (map variable_of vs) in
    let are = made_vars 0 vs counts in
    record {
      written = record {
        vars = all_of IsMadeVar IsVar (λ v is. is.written) vars are;
        tables = tt;
        funcs = all_of IsMade IsFunc (λ f is. is.written) funcs made.each;
      };
      order = rw (none_declared funcs made.each) (all_defined funcs made.each);
      vars = all_of IsMadeVar IsKeptVar (λ v is. is.kept) vars are;
      funcs = all_of IsMade (IsKeptFunc funcs) (λ f is. is.kept funcs) funcs made.each;
      apart = rw (no_intrinsics funcs made.each)
          (names_apart 0 vs (map (λ f. f.name) funcs) (omega (arith, few)) (free_names funcs made.each) made.apart);
      no_intrinsic = all_of IsMade (λ f. is_intrinsic f.name ≡ false) (λ f is. no_intrinsic f.name is.free) funcs made.each;
    }

pub outputs_are_printed : OutputsArePrinted
outputs_are_printed t allowed bytes =
    output_printed t.variables (rewritten (module_of t)).funcs allowed.counts (few_variables t allowed) (made_functions t allowed bytes)

pub outputs_are_same_again : OutputsAreSameAgain
outputs_are_same_again t allowed bytes file =
    printed_is_same printed_reads_again file (rewritten (module_of t)) (outputs_are_printed t allowed bytes)

pub example_has_output : ExampleHasOutput
example_has_output = (
  example-allowed,
  record { name = refl; pointer = refl; register = refl; second = record { name = refl; register = refl } },
)
