-- The readers of forms and units.
use Rattle.std.specs.Prelude.{List}
use Rattle.ir_values.specs.declared.units.Form.{Form}
use Rattle.ir_values.specs.declared.units.Unit.{Unit as TheUnit}
use Rattle.unit_grammar.specs.Readers.{found, Reader, read, then_read, else_read}
use Rattle.type_grammar.specs.Levels.{levels}
use Rattle.type_grammar.specs.Reading.{reads}
use Rattle.module_grammar.specs.Reading as lines
use Rattle.ir_text.specs.Choices.{prefer, flat}
use Rattle.ir_text.specs.Forms.{form, number_form}
use Rattle.ir_text.specs.Units.{first_bytes}

unfoldable pub form_read : Reader Form
form_read ts = else_read (read (reads levels) form ts) (lines.entry_read ts)

unfoldable pub number_read : Reader Form
number_read ts = flat (read (reads levels) number_form ts)

unfoldable pub left_read : Reader Form
left_read ts = lines.left_read ts

-- the number of a pointer, or what is left out
unfoldable pub last_read : Reader Form
last_read ts = prefer (number_read ts) (flat (left_read ts))

unfoldable pub said_read : Reader Form
said_read ts = prefer (form_read ts) (flat (last_read ts))

unfoldable pub unit_read : Reader TheUnit
unit_read ts = then_read (said_read ts) (λ f rest. found (record { first = first_bytes ts; form = f }) rest)
