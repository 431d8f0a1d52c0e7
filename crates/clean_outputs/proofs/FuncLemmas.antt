-- The functions of a file without flaws.
use Rattle.std.proofs.Common.{◌≡◌, refl, sym, subst, arith, ℕ, Bool, true, false, not, ◌&&◌, cond, List, [], ◌∷◌, Some, slice_get}
use Rattle.std.specs.List.{AllByRecursion}
use Rattle.ltt_base.specs.declared.refusal.Place.{Place}
use Rattle.ltt_base.specs.declared.refusal.Placed.{Placed}
use Rattle.ir_values.specs.declared.instructions.Inst.{Inst}
use Rattle.ir_values.specs.declared.modules.Block.{Block}
use Rattle.ir_values.specs.declared.modules.Func.{Func}
use Rattle.ir_values.specs.declared.units.Head.{Head}
use Rattle.ir_values.specs.declared.units.Unit.{Unit as TheUnit}
use Rattle.ir_values.specs.declared.units.Form.{Form}
use Rattle.ir_values.specs.declared.units.Form.TheVariants.{DeclareForm, DefineForm}
use Rattle.check_names.specs.Reserved.{is_intrinsic}
use Rattle.check_bodies.specs.declared.standing.Standing.TheVariants.{Outside}
use Rattle.check_bodies.specs.Standing.{standing}
use Rattle.built_modules.specs.Blocks.{body_blocks}
use Rattle.built_modules.specs.Functions.{param_types, param_names, defined, declared, funcs_in}
use Rattle.built_modules.specs.Linkages.{linkage_of}
use Rattle.built_modules.specs.Modules.{module_of}
use Rattle.printed_units.specs.Written.{IsInst, is_terminator, AreInsts, IsBlock, IsFunc}
use Rattle.printed_modules.specs.Printed.{LinkageFits, IsKeptInst, IsKeptBlock, IsKeptFunc}
use Rattle.sized_modules.proofs.UnitLemmas.{Units, clean_item}
use Rattle.said_units.specs.Sayable.{IsSaid, IsSaidHead}
use Rattle.clean_outputs.specs.Shallow.{IsShallowInst, IsShallowFunc}
use Rattle.clean_outputs.proofs.FileLemmas.{IsFile, said_at}
use Rattle.clean_outputs.proofs.ListedLemmas.{funcs_got, funcs_parts}
use Rattle.clean_outputs.proofs.HeadPlaces.{stands_outside}
use Rattle.clean_outputs.proofs.TypeLemmas.{returned_at}
use Rattle.clean_outputs.proofs.FunctionsKnown.{KnowsFunctions}
use Rattle.clean_outputs.proofs.InstLemmas.{inst_good}
use Rattle.clean_outputs.proofs.BodyLemmas.{are_ended, insts_inside, IsEndedBlock, blocks_ended, some_block}
use Rattle.clean_outputs.proofs.ItemLemmas.{linkage_fits, no_entries, defined_named}
use Rattle.clean_outputs.proofs.HeadLemmas.{types_of, params_of_blocks, IsCleanHead, params_good, IsCleanDefinition, clean_define, clean_declare}

pub record IsPrintedFunc (funcs : List Func) (f : Func) : Type 0 where
  pub written : IsFunc f
  pub keeps : IsKeptFunc funcs f
  pub plain : is_intrinsic f.name ≡ false

-- the instructions of a block

ended_first : (one other : Bool) → not one && other ≡ true → one ≡ false
ended_first one other ends = grind arith

ended_others : (one other : Bool) → not one && other ≡ true → other ≡ true
ended_others one other ends = grind arith

insts_written : (insts : List Inst) → are_ended insts ≡ true → AllByRecursion IsInst insts → AreInsts insts
insts_written [] ends all = absurd (grind arith)
insts_written (i ∷ []) ends all = (all.0, ends)
insts_written (i ∷ next ∷ insts) ends all =
    let others = are_ended (next ∷ insts) in
    (all.0, ended_first (is_terminator i) others ends, insts_written (next ∷ insts) (ended_others (is_terminator i) others ends) all.1)

-- an item that stands in a list unless something is so
all_unless : {X : Type 0} (P : X → Type 0) (is : Bool) (x : X) → (is ≡ false → P x) → AllByRecursion P (cond is [] (x ∷ []))
all_unless P true x good = tt
all_unless P false x good = (good refl, tt)

module _ (funcs : List Func) where
  -- what holds of an instruction whose types are shallow
  abbrev IsGoodInst : Inst → Type 0
  IsGoodInst i = IsShallowInst i → IsInst i × IsKeptInst funcs i

  abbrev AreGoodInsts : Block → Type 0
  AreGoodInsts block = AllByRecursion IsGoodInst block.insts

  abbrev AreShallowInsts : Block → Type 0
  AreShallowInsts block = AllByRecursion IsShallowInst block.insts

  insts_good : (insts : List Inst) → AllByRecursion IsGoodInst insts → AllByRecursion IsShallowInst insts
      → AllByRecursion IsInst insts × AllByRecursion (IsKeptInst funcs) insts
  insts_good [] good shallow = (tt, tt)
  insts_good (i ∷ insts) good shallow =
      let own = good.0 shallow.0 in
      let others = insts_good insts good.1 shallow.1 in
      ((own.0, others.0), (own.1, others.1))

  blocks_good : (blocks : List Block) → AllByRecursion IsEndedBlock blocks → AllByRecursion AreGoodInsts blocks
      → AllByRecursion AreShallowInsts blocks → AllByRecursion IsBlock blocks × AllByRecursion (IsKeptBlock funcs) blocks
  blocks_good [] ended good shallow = (tt, tt)
  blocks_good (block ∷ blocks) ended good shallow =
      let own = insts_good block.insts good.0 shallow.0 in
      let others = blocks_good blocks ended.1 good.1 shallow.1 in
      let written : IsBlock block = record { label = ended.0.label; insts = insts_written block.insts ended.0.ends own.0 } in
      ((written, others.0), (own.1, others.1))

  module _ (us : Units) (of : IsFile us) (known : KnowsFunctions us funcs) (file : ℕ) where
    define_printed : (at : ℕ) (u : Placed TheUnit) (place : Place) (own : Head) → slice_get us at ≡ Some u → u.value.form ≡ DefineForm own
        → standing us at ≡ Outside → IsSaidHead own → IsCleanDefinition us at own → IsShallowFunc (defined true us file at place own)
        → IsPrintedFunc funcs (defined true us file at place own)
    define_printed at u place own here is stands said clean shallow =
        let blocks = body_blocks true us file at in
        let some = some_block us of file at u own here is stands in
        let inside = insts_inside true us file IsGoodInst (λ k v spot i. inst_good us of funcs known file k v spot i) at u here stands in
        let good = blocks_good blocks (blocks_ended us of file at u own here is stands) inside shallow in
        let params = params_good us of at own said.params clean.clean in
        record {
          written = record {
            name = defined_named us at own.name said.name clean.clean.defined;
            result = returned_at us of own.result said.result clean.clean.result_none;
            params = params_of_blocks blocks some (param_types us own.params) (param_names own.params) params;
            blocks = good.0;
          };
          keeps = record {
            linkage = subst (λ none. LinkageFits none (linkage_of false own.linkage)) (sym some) (linkage_fits false own.linkage);
            entries = no_entries us file own.attached clean.attached_none;
            blocks = good.1;
          };
          plain = clean.plain;
        }

    declare_printed : (at : ℕ) (place : Place) (own : Head) → IsSaidHead own → is_intrinsic own.name ≡ false → IsCleanHead us at own
        → IsPrintedFunc funcs (declared us place own)
    declare_printed at place own said plain clean =
        let params = params_good us of at own said.params clean in
        record {
          written = record {
            name = defined_named us at own.name said.name clean.defined;
            result = returned_at us of own.result said.result clean.result_none;
            params = types_of (param_types us own.params) (param_names own.params) params;
            blocks = tt;
          };
          keeps = record { linkage = refl; entries = refl; blocks = tt };
          plain = plain;
        }

    func_at : (at : ℕ) (u : Placed TheUnit) → slice_get us at ≡ Some u → (says : Form) → u.value.form ≡ says
        → AllByRecursion IsShallowFunc (funcs_in true us file at u.place says)
        → AllByRecursion (IsPrintedFunc funcs) (funcs_in true us file at u.place says)
    func_at at u here (DeclareForm own) is shallow =
        let said = subst IsSaid is (said_at us of at u here) in
        let none = clean_item true us at u (DeclareForm own) of.clean here is (λ spot. refl) in
        all_unless (IsPrintedFunc funcs) (is_intrinsic own.name) (declared us u.place own)
        (λ plain. declare_printed at u.place own said plain (clean_declare us at own plain none))
    func_at at u here (DefineForm own) is shallow =
        let said = subst IsSaid is (said_at us of at u here) in
        let clean = clean_define us at own (clean_item true us at u (DefineForm own) of.clean here is (λ spot. refl)) in
        let stands = stands_outside us of at u (DefineForm own) here is (λ spot. refl) in
        (define_printed at u u.place own here is stands said clean shallow.0, tt)
    func_at at u here _ is shallow = tt

pub funcs_printed : (us : Units) → IsFile us → (file : ℕ) (funcs : List Func) → KnowsFunctions us funcs
    → AllByRecursion IsShallowFunc (module_of true us file).funcs → AllByRecursion (IsPrintedFunc funcs) (module_of true us file).funcs
unfolding module_of
funcs_printed us of file funcs known shallow =
    funcs_got true us file (IsPrintedFunc funcs)
    (λ at u here. func_at funcs us of known file at u here u.value.form refl (funcs_parts true us file IsShallowFunc shallow at u here))
