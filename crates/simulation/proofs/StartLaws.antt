-- The states before the first step.
use Rattle.std.proofs.Common.{◌≡◌, ℕ, ◌-◌, ◌==◌, Bool, true, false, ◌&&◌, IsTrue, zero, suc, List, [], ◌∷◌, map, Option, Some, None, option_map, refl, sym, ap, subst, ◌∙◌, slice_get, arith}
use Rattle.std.proofs.lemmas.Option.{slice_get-map}
use Rattle.std.specs.Prelude.{if◌then◌else◌}
use Rattle.ir_values.specs.declared.types.Width.{Width}
use Rattle.ir_values.specs.declared.types.Ty.{Ty, out-Ty}
use Rattle.ir_values.specs.declared.types.Ty.TheOpen.{Ty-F}
use Rattle.ir_values.specs.declared.modules.Module.{Module}
use Rattle.ir_values.specs.declared.modules.Func.{Func}
use Rattle.type_metadata.specs.declared.objects.Object.{Object}
use Rattle.ir_memories.specs.declared.values.Value.{Value}
use Rattle.ir_meaning.specs.declared.states.Register.{Register}
use Rattle.ir_meaning.specs.Places.{module_at, function_at}
use Rattle.ir_meaning.specs.Starts.{takes, argument, parameters, first_registers, first_frame, start, IsEntry}
use Rattle.ir_meaning.specs.Sequence.{◌>>=◌}
use Rattle.test_lowering.specs.Rewriting.{rewritten, rewritten_func}
use Rattle.simulation.specs.Same.{SameValue, SameRegisters, SameFrame, Related}
use Rattle.simulation.proofs.ValueLaws.{same_put}

-- a function of a lone module is in file 1
file_is : (M : Module) (flag : Bool) (file index : ℕ) (args : List ℕ) → (flag && takes (function_at (M ∷ []) file index) args) ≡ true → file ≡ 1
file_is M flag zero index args is = absurd (never flag is) where
  never : (b : Bool) → (b && false) ≡ true → ⊥
  never true e = cc
  never false e = cc
file_is M flag (suc zero) index args is = refl
file_is M flag (suc (suc file)) index args is = absurd (never flag (ap (λ f. flag && takes f args) (sym none) ∙ is)) where
  never : (b : Bool) → (b && false) ≡ true → ⊥
  never true e = cc
  never false e = cc

  at_file : (b : Bool) → (if b then None else slice_get (M ∷ []) (suc (suc file) - 1)) ≡ None
  at_file true = refl
  at_file false = let e : suc (suc file) - 1 ≡ suc file = omega arith in ap (slice_get (M ∷ [])) e

  none : function_at (M ∷ []) (suc (suc file)) index ≡ None
  none = ap (λ (m : Option Module). m >>= λ n. slice_get n.funcs index) (at_file (suc (suc file) == 0))

module _ {P Q : Type 0} (Stands : P → Q → Type 0) where
  same_argument : (ty : Ty-F Ty) (n : ℕ) → SameValue Stands (argument ty n) (argument ty n)
  same_argument (Ty-F.Int width) n = (refl, refl)
  same_argument _ n = (refl, refl)

  same_parameters : (names : List (List ℕ)) (tys : List Ty) (ns : List ℕ) (rs : List (Register P)) (qs : List (Register Q)) → SameRegisters Stands rs qs
      → SameRegisters Stands (parameters rs names tys ns) (parameters qs names tys ns)
  same_parameters [] tys ns rs qs same = same
  same_parameters (name ∷ names) [] ns rs qs same = same
  same_parameters (name ∷ names) (ty ∷ tys) [] rs qs same = same
  same_parameters (name ∷ names) (ty ∷ tys) (n ∷ ns) rs qs same =
      same_parameters names tys ns _ _ (same_put Stands rs qs name (argument (out-Ty ty) n) (argument (out-Ty ty) n) same (same_argument (out-Ty ty) n))

  same_first : (M : Module) (f : Option Func) (args : List ℕ) → SameRegisters Stands (first_registers f args) (first_registers (option_map (rewritten_func M) f) args)
  same_first M None args = tt
  same_first M (Some f) args = same_parameters f.params f.fty.params args [] [] tt

  same_function : (M : Module) (file index : ℕ) → file ≡ 1
      → function_at (rewritten M ∷ []) file index ≡ option_map (rewritten_func M) (function_at (M ∷ []) file index)
  same_function M file index first = rw first (slice_get-map (rewritten_func M) M.funcs index)

  pub start_related : {W V : Type 0} (w : W) (v : V) (M : Module) (entry : Object) (args : List ℕ) → IsEntry (M ∷ []) entry args
      → Related Stands w v (start (M ∷ []) w entry args) (start (rewritten M ∷ []) v entry args)
  start_related w v M entry args is =
      let first : entry.file ≡ 1 = file_is M entry.function entry.file entry.index args is in
      record {
        kept = refl;
        output_kept = refl;
        frame = record {
          file = refl;
          func = refl;
          block = refl;
          place = refl;
          registers = subst (λ f. SameRegisters Stands (first_registers (function_at (M ∷ []) entry.file entry.index) args) (first_registers f args))
              (sym (same_function M entry.file entry.index first)) (same_first M (function_at (M ∷ []) entry.file entry.index) args);
        };
        file = first;
        callers = refl;
        output_callers = refl;
        taken = refl;
        events = tt;
        status = refl;
        result = tt;
      }
