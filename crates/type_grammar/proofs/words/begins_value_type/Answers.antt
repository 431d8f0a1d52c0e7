use Rattle.std.proofs.Common.{◌∙◌, ◌+◌, drop, sym}
use Rattle.type_grammar.specs.Types.{value_type_signs}
use Rattle.unit_grammar.specs.Seeing.{seen_piece, tokens}
use Rattle.unit_grammar.proofs.SignLaws.{any_one, any_none}
use Rattle.type_grammar.proofs.words.begins_value_type.Goals as goal

pub returns-in-Some : goal.returns-in-Some
returns-in-Some c =
    rw c.in-Some.ensures
    (c.is_value_type_start.ensures ∙ sym (any_one value_type_signs (seen_piece c.in-Some.seen) (drop (c.args.at + 1) (tokens c.args.input.now))))

pub returns-in-None : goal.returns-in-None
returns-in-None c = rw c.in-None.ensures (sym (any_none value_type_signs))
