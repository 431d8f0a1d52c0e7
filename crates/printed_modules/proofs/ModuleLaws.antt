-- What is read again of a printed module: the same module.
use Rattle.std.proofs.Common.{◌≡◌, ◌∙◌, ap, sym, ℕ, Bool, true, false, List, [], ◌∷◌}
use Rattle.std.specs.List.{list_any, AllByRecursion}
use Rattle.ir_values.specs.declared.modules.Block.{Block}
use Rattle.ir_values.specs.declared.modules.Func.{Func}
use Rattle.ir_values.specs.declared.modules.Module.{Module}
use Rattle.ir_print.specs.declared.intrinsics.Intrinsic.{Intrinsic}
use Rattle.ir_print.specs.ModuleText.{is_call, is_called, module_text}
use Rattle.check_names.specs.Reserved.{is_intrinsic}
use Rattle.built_modules.specs.Modules.{module_of}
use Rattle.unit_grammar.proofs.BoolLemmas.{or_first, or_second}
use Rattle.printed_units.specs.Written.{IsInst, IsBlock, IsFunc}
use Rattle.printed_units.specs.Laws.{PrintedReadsAgain}
use Rattle.printed_units.proofs.ListLemmas.{all_both}
use Rattle.printed_units.proofs.WrittenLemmas.{each_is_inst}
use Rattle.printed_modules.specs.Laws.{LinesAreTheModule, PrintedIsSameAgain}
use Rattle.printed_modules.specs.Printed.{IsKeptInst, IsKeptBlock, IsKeptFunc, IsPrinted}
use Rattle.printed_modules.proofs.TypeKept.{Units}
use Rattle.printed_modules.proofs.InstKept.{inst_again}
use Rattle.printed_modules.proofs.Callees.{Knows}
use Rattle.printed_modules.proofs.ModuleForms.{forms, parts_of, forms_are}
use Rattle.printed_modules.proofs.KnowsLemmas.{knows}
use Rattle.printed_modules.proofs.BodyLemmas.{IsAgain}
use Rattle.printed_modules.proofs.ItemLemmas.{vars_are, tables_are}
use Rattle.printed_modules.proofs.PlainLemmas.{plain_text}
use Rattle.printed_modules.proofs.FunctionLemmas.{IsReady, funcs_are}

-- what follows of each item from what follows from some item
each_with : {A X : Type 0} (P R : X → Type 0) (C : A → Type 0) (p : A → X → Bool)
    → ((x : X) → P x → ((a : A) → p a x ≡ true → C a) → R x) → (xs : List X) → AllByRecursion P xs
    → ((a : A) → list_any (p a) xs ≡ true → C a) → AllByRecursion R xs
each_with P R C p so [] all some = tt
each_with P R C p so (x ∷ xs) all some = (
  so x all.0 (λ a is. some a (or_first (p a x) (list_any (p a) xs) is)),
  each_with P R C p so xs all.1 (λ a is. some a (or_second (p a x) (list_any (p a) xs) is)),
)

-- each function of the module is read again
module _ (us : Units) (file : ℕ) (m : Module) (known : Knows us m) where
  abbrev Called : Intrinsic → Type 0
  Called intrinsic = is_called intrinsic m.funcs ≡ true

  block_again : (block : Block) → IsBlock block × IsKeptBlock m.funcs block
      → ((intrinsic : Intrinsic) → list_any (is_call intrinsic) block.insts ≡ true → Called intrinsic)
      → AllByRecursion (IsAgain us file) block.insts
  block_again block both some =
      each_with (λ i. IsInst i × IsKeptInst m.funcs i) (IsAgain us file) Called is_call
      (λ i parts calls next. inst_again us m file next i known parts.0 parts.1 calls) block.insts
      (all_both IsInst (IsKeptInst m.funcs) block.insts (each_is_inst block.insts both.0.insts) both.1) some

  func_ready : (f : Func) → (IsFunc f × IsKeptFunc m.funcs f) × (is_intrinsic f.name ≡ false)
      → ((intrinsic : Intrinsic) → list_any (λ (block : Block). list_any (is_call intrinsic) block.insts) f.blocks ≡ true → Called intrinsic)
      → IsReady us file m.funcs f
  func_ready f parts some = record {
    is = parts.0.0;
    keeps = parts.0.1;
    plain = parts.1;
    again = each_with (λ block. IsBlock block × IsKeptBlock m.funcs block) (λ block. AllByRecursion (IsAgain us file) block.insts) Called
        (λ intrinsic block. list_any (is_call intrinsic) block.insts) block_again f.blocks
        (all_both IsBlock (IsKeptBlock m.funcs) f.blocks parts.0.0.blocks parts.0.1.blocks) some;
  }

  funcs_ready : IsPrinted m → AllByRecursion (IsReady us file m.funcs) m.funcs
  funcs_ready printed =
      each_with (λ f. (IsFunc f × IsKeptFunc m.funcs f) × (is_intrinsic f.name ≡ false)) (IsReady us file m.funcs) Called
      (λ intrinsic f. list_any (λ (block : Block). list_any (is_call intrinsic) block.insts) f.blocks) func_ready m.funcs
      (all_both (λ f. IsFunc f × IsKeptFunc m.funcs f) (λ f. is_intrinsic f.name ≡ false) m.funcs
      (all_both IsFunc (IsKeptFunc m.funcs) m.funcs printed.written.funcs printed.funcs) printed.no_intrinsic)
      (λ intrinsic is. is)

-- units that say what the lines of a printed module say have the same module
pub lines_are_the_module : LinesAreTheModule
unfolding module_of
lines_are_the_module us file m printed say =
    let parts : forms us ≡ parts_of m = say ∙ forms_are m in
    let ready = funcs_ready us file m (knows us m printed say) printed in
    let vars = vars_are us file m printed.written.vars printed.vars parts in
    let funcs = funcs_are us file m ready printed.order parts in
    let tables = tables_are us m parts in
    λ i. record { vars = vars i; funcs = funcs i; jumps = tables i }

-- so the text of a printed module, which is read as such units, is that of the same module
pub printed_is_same : PrintedReadsAgain → PrintedIsSameAgain
printed_is_same reads_again file m printed =
    let reads = reads_again file m printed.written in
    let again = module_of true reads.us file in
    let same = lines_are_the_module reads.us file m printed reads.say in
    record { us = reads.us; read = reads.read; same = same; printed = sym (plain_text again) ∙ ap module_text same ∙ plain_text m }
