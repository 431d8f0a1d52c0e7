-- What the steps from a text to what a command makes of it answer is what the text is.
use Rattle.std.proofs.Common.{◌≡◌, ◌∙◌, ℕ, inl, inr, Bool, false, List, [], ◌∷◌, None, Result, Err, sym, ap, subst}
use Rattle.ltt_base.specs.declared.refusal.Placed.{Placed}
use Rattle.ltt_base.specs.declared.refusal.Refusal.{Refusal}
use Rattle.ltt_base.specs.declared.refusal.Fault.{Fault}
use Rattle.ltt_base.specs.declared.refusal.Fault.TheVariants.{Refused}
use Rattle.ir_values.specs.declared.modules.Module.{Module}
use Rattle.ir_values.specs.declared.units.Unit.{Unit as TheUnit}
use Rattle.ir_text.specs.Answers as reader
use Rattle.ir_check.specs.Answers as check
use Rattle.source_runs.specs.Runs.{IsSource}
use Rattle.source_runs.specs.Entries.{entry_of}
use Rattle.ltt_driver.specs.Files.{entry_refusal}
use Rattle.built_modules.specs.Modules as built
use Rattle.thin_files.specs.declared.thin.Thin.{Thin}
use Rattle.thin_files.specs.Thin.{IsThin, module_of}
use Rattle.test_lowering.specs.Rewriting.{rewritten}
use Rattle.ir_memories.specs.Placement.{IsPlaced}
use Rattle.ltt_driver.specs.Files.{IsChecked, IsUnchecked, IsLoweredTo, IsNotLowered, IsModuleOf, HasNoEntry, IsNotRun, Refuses, form_refusal}
use Rattle.test_lowering.proofs.ExactLaws.{exact}
use Rattle.simulation.proofs.SimulationLaws.{simulated}
use Rattle.sized_modules.proofs.RunLaws.{clean_files_can_run}

-- a fault of the reader
pub unread : (output : Bool) (text : List ℕ) (fault : Fault) (refusal : Refusal)
    → reader.Answers 1 text (Err fault) → fault ≡ Refused refusal → IsUnchecked output text refusal
unfolding IsUnchecked
unread output text fault refusal answers is =
    let refused : reader.Answers 1 text (Err (Refused refusal)) = subst (λ f. reader.Answers 1 text (Err f)) is answers in
    inl refused

-- a fault of the check
pub flawed : {M : Type 0} (Is : M → Type 0) (output : Bool) (text : List ℕ) (units : List (Placed TheUnit)) (r : Result M Fault) (refusal : Refusal)
    → reader.IsRead 1 text units → check.Answers Is output units r → r ≡ Err (Refused refusal) → IsUnchecked output text refusal
unfolding IsUnchecked
flawed Is output text units r refusal read answers is =
    let refused : check.IsRefused output units refusal = subst (λ r. check.Answers Is output units r) is answers in
    inr (record { units = units; read = read; refused = refused })

-- the fault of units that aren't lowered, as they aren't accepted
pub unchecked : (text : List ℕ) (refusal : Refusal) → IsUnchecked false text refusal → IsNotLowered text refusal
unfolding IsNotLowered
unchecked text refusal is = inl is

-- the fault of units that are no thin file
pub not_thin : (text : List ℕ) (units : List (Placed TheUnit)) (fault : Fault) (refusal : Refusal)
    → IsChecked false text units → ((t : Thin) → IsThin units t → ⊥) → Refuses form_refusal fault → fault ≡ Refused refusal → IsNotLowered text refusal
unfolding IsNotLowered
not_thin text units fault refusal checked no_thin form is =
    let refused : Refuses form_refusal (Refused refusal) = subst (Refuses form_refusal) is form in
    inr (record { units = units; checked = checked; no_thin = no_thin; is = refused })

-- a thin file that is lowered
pub lowered : (text : List ℕ) (units : List (Placed TheUnit)) (thin : Thin) (m : Module)
    → IsChecked false text units → IsThin units thin → m ≡ rewritten (module_of thin) → IsLoweredTo text m
lowered text units thin m checked is made = record {
  units = units;
  thin = thin;
  checked = checked;
  is = is;
  made = made;
  exact = λ p placed. exact thin is.allowed p (subst (λ o. IsPlaced o p) made placed);
  simulated = simulated thin is.allowed;
}

-- no run begins at a name that denotes no entry
pub no_entry : (ms : List Module) (entry : List ℕ) (fault : Fault) (refusal : Refusal)
    → entry_of ms entry ≡ None → Refuses (entry_refusal entry) fault → fault ≡ Refused refusal → HasNoEntry ms entry refusal
no_entry ms entry fault refusal none refuses is =
    let refused : Refuses (entry_refusal entry) (Refused refusal) = subst (Refuses (entry_refusal entry)) is refuses in
    record { none = none; is = refused }

-- in the module of a text without flaws a run may begin
pub can_run : (text : List ℕ) (m : Module) (ms : List Module) → IsModuleOf false text m → ms ≡ m ∷ [] → IsSource ms
can_run text m ms source are =
    let sized : IsSource (built.module_of false source.units 1 ∷ []) = clean_files_can_run 1 text source.units source.checked.read source.checked.clean in
    subst IsSource (sym (are ∙ ap (λ m. m ∷ []) source.is)) sized

-- a text that isn't accepted isn't run
pub not_source : (entry text : List ℕ) (refusal : Refusal) → IsUnchecked false text refusal → IsNotRun entry text refusal
unfolding IsNotRun
not_source entry text refusal is = inl is

-- a text whose module has no such entry
pub not_run : (entry text : List ℕ) (m : Module) (ms : List Module) (refusal : Refusal)
    → IsModuleOf false text m → ms ≡ m ∷ [] → HasNoEntry ms entry refusal → IsNotRun entry text refusal
unfolding IsNotRun
not_run entry text m ms refusal source are none =
    inr (record { m = m; source = source; none = subst (λ ms. HasNoEntry ms entry refusal) are none })
