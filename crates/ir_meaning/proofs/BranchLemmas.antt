-- Lemmas on branches.
use Rattle.std.proofs.Common.{◌≡◌, ℕ, List, [], ◌∷◌, Some, false, refl}
use Rattle.ir_values.specs.declared.instructions.Inst.{Inst}
use Rattle.ir_values.specs.declared.instructions.Inst.TheVariants.{Phi}
use Rattle.ir_memories.specs.Model.{Model}
use Rattle.ir_meaning.specs.declared.states.Register.{Register}
use Rattle.ir_meaning.specs.declared.states.Frame.{Frame}
use Rattle.ir_meaning.specs.Branches.{begins_with_phi, phis}

-- a block without phis leaves the registers as they are
pub no_phis : {W P : Type 0} (m : Model W P) (w : W) (f : Frame P) (label : List ℕ) (registers : List (Register P)) (place : ℕ) (insts : List Inst)
    → begins_with_phi insts ≡ false → phis m w f label registers place insts ≡ Some (registers, place)
no_phis m w f label registers place [] none = refl
no_phis m w f label registers place (Phi dst ty arms ∷ rest) none = cc
no_phis m w f label registers place (inst ∷ rest) none = refl
