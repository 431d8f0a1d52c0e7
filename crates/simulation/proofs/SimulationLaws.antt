-- The output of a thin file does what the file does.
use Rattle.std.proofs.Common.{◌≡◌, ◌≢◌, ℕ, ◌+◌, ◌%◌, ◌^◌, List, [], ◌∷◌, Option, Some, None, option_map, refl, sym, ap, subst, ◌∙◌, slice_get, zero-add}
use Rattle.ir_values.specs.declared.modules.Var.{Var}
use Rattle.type_metadata.specs.declared.objects.Object.{Object}
use Rattle.type_metadata.specs.Items.{variable_at}
use Rattle.ir_memories.specs.declared.symbolic.SPtr.{SPtr}
use Rattle.ir_memories.specs.declared.symbolic.SPtr.TheVariants.{Null, At}
use Rattle.ir_memories.specs.Symbolic.{symbolic}
use Rattle.ir_memories.specs.Numeric.{numeric}
use Rattle.ir_memories.specs.Placement.{Placement, IsPlaced}
use Rattle.ir_meaning.specs.declared.states.Status.TheVariants.{Undefined}
use Rattle.ir_meaning.specs.Starts.{start, IsEntry}
use Rattle.ir_meaning.specs.Steps.{run}
use Rattle.thin_files.specs.declared.thin.Thin.{Thin}
use Rattle.thin_files.specs.Thin.{IsAllowed, module_of, variable_of}
use Rattle.test_lowering.specs.Rewriting.{group_name, rewritten}
use Rattle.test_lowering.proofs.ExactLaws.{variable_at as variable_is}
use Rattle.simulation.specs.Same.{Related}
use Rattle.simulation.specs.Runs.{source_memory, name_of_home, IsNumber, StandsIn, Stands, IsFollowed}
use Rattle.simulation.specs.Laws.{LoweringIsSimulated}
use Rattle.simulation.proofs.PlainLaws.{all_plain}
use Rattle.simulation.proofs.BridgeLaws.{VariableStands, places, output_memory, bridge}
use Rattle.simulation.proofs.StartLaws.{start_related}
use Rattle.simulation.proofs.RunLaws.{run_followed}
use Rattle.simulation.proofs.WideLaws.{option_wider, events_wider}

-- a pointer to a variable stands where the variable's home does
stands_wider : (t : Thin) (p : Placement) (q : SPtr) (a : ℕ) → VariableStands t p q a → Stands (module_of t) p q a
stands_wider t p Null a stands = stands
stands_wider t p (At object offset) a stands =
    let k = stands.0 in
    let v = stands.1.0 in
    let name : name_of_home (module_of t) (variable_at 1 k) ≡ Some (group_name k) =
    ap (option_map (λ (w : Var). group_name k)) (variable_is t k v stands.1.2) in
    let number : a ≡ (p (group_name k) + (0 + offset)) % 2 ^ 64 = stands.1.3 ∙ ap (λ o. (p (group_name k) + o) % 2 ^ 64) (sym (zero-add offset)) in
    subst (λ (o : Object). StandsIn (module_of t) p o o.file offset a) (sym stands.1.1)
    (subst (λ n. IsNumber p n (0 + offset) a) (sym name) number)

pub simulated : LoweringIsSimulated
simulated t allowed at placed entry args answers n is_entry defined =
    let m = module_of t in
    let p = places t at in
    let w = source_memory m in
    let v = output_memory t at in
    let before : Related (VariableStands t p) w v (start (m ∷ []) w entry args) (start (rewritten m ∷ []) v entry args) =
    start_related (VariableStands t p) w v m entry args is_entry in
    let after : Related (VariableStands t p) w v (run symbolic (m ∷ []) answers n (start (m ∷ []) w entry args)) (run numeric (rewritten m ∷ []) answers n (start (rewritten m ∷ []) v entry args)) =
    run_followed symbolic numeric w v (VariableStands t p) m (bridge t allowed at placed) (all_plain t allowed) answers n
    (start (m ∷ []) w entry args) (start (rewritten m ∷ []) v entry args) before defined in
    record {
      steps = n;
      bound = refl;
      same = record {
        events = events_wider (VariableStands t p) (Stands m p) (stands_wider t p) _ _ after.events;
        status = after.status;
        result = option_wider (VariableStands t p) (Stands m p) (stands_wider t p) _ _ after.result;
      };
    }
