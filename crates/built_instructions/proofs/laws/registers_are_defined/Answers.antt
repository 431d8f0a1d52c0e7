use Rattle.built_instructions.proofs.RegisterLaws.{registers_defined}
use Rattle.built_instructions.proofs.laws.registers_are_defined.Goals as goal

pub returns : goal.returns
returns c = registers_defined
