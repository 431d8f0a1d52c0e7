-- What the instructions that stay in their frame do to it. None is an undefined step.
use Rattle.std.specs.Prelude.{List, Option, None}
use Rattle.ir_values.specs.declared.instructions.Inst.{Inst}
use Rattle.ir_values.specs.declared.instructions.Inst.TheVariants.{Binary, Compare, Select, Cast, Gep, Load, Extract, Br, CondBr, Switch, Test, Assume, CheckedLoad, Number, Rotate}
use Rattle.ir_values.specs.declared.modules.Module.{Module}
use Rattle.ir_memories.specs.Model.{Model}
use Rattle.ir_meaning.specs.declared.states.Frame.{Frame}
use Rattle.ir_meaning.specs.Frames.{given}
use Rattle.ir_meaning.specs.Instructions.{binary_at, compared_at, selected_at, converted_at, extracted_at, number_at, rotated_at, tested_at, loaded_at, checked_at}
use Rattle.ir_meaning.specs.Addresses.{address_at}
use Rattle.ir_meaning.specs.Branches.{entered, branched_at, switched_at, assumed_at}

module _ {W P : Type 0} (m : Model W P) (w : W) (f : Frame P) where
  -- those that ask the memory
  abbrev pub asking : Inst → Option (Frame P)
  asking (Load dst ty addr) = given f dst (loaded_at m w f ty addr)
  asking (Test dst ptr id) = given f dst (tested_at m w f ptr id)
  asking (CheckedLoad dst ptr offset id) = given f dst (checked_at m w f ptr offset id)
  asking (Number dst ptr) = given f dst (number_at m w f ptr)
  asking _ = None

  -- those that hand values on
  abbrev pub passing : Inst → Option (Frame P)
  passing (Select dst cond ty a b) = given f dst (selected_at m w f cond a b)
  passing (Gep dst ty base index) = given f dst (address_at m w f ty base index)
  passing (Extract dst pair part) = given f dst (extracted_at f pair part)
  passing i = asking i

  -- those that compute numbers
  abbrev pub computing : Inst → Option (Frame P)
  computing (Binary dst op width a b) = given f dst (binary_at m w f op width a b)
  computing (Compare dst pred ty a b) = given f dst (compared_at m w f pred ty a b)
  computing (Cast dst op from a to) = given f dst (converted_at m w f op from a to)
  computing (Rotate dst value by) = given f dst (rotated_at m w f value by)
  computing i = passing i

-- A phi is performed by the branch that enters its block, so that none is taken.
abbrev pub plain : {W P : Type 0} → Model W P → List Module → W → Frame P → Inst → Option (Frame P)
plain m modules w f (Br to) = entered m modules w f to
plain m modules w f (CondBr cond on off) = branched_at m modules w f cond on off
plain m modules w f (Switch width value other cases) = switched_at m modules w f width value other cases
plain m modules w f (Assume cond) = assumed_at m w f cond
plain m modules w f i = computing m w f i
