-- The lines that tell what a run came to.
use Rattle.std.specs.Prelude.{ℕ, List, [], ◌++◌, map, flat_map, codes, decimal, Option, Some, None}
use Rattle.ir_memories.specs.declared.symbolic.SPtr.{SPtr}
use Rattle.ir_memories.specs.declared.symbolic.SPtr.TheVariants.{Null, At}
use Rattle.ir_memories.specs.declared.values.Value.{Value}
use Rattle.ir_memories.specs.declared.values.Value.TheVariants.{Int, Ptr, Pair}
use Rattle.ir_meaning.specs.declared.states.Event.{Event}
use Rattle.ir_meaning.specs.declared.states.Status.{Status}
use Rattle.ir_meaning.specs.declared.states.Status.TheVariants.{Running, Returned, Trapped, Starved, Undefined}
use Rattle.ir_meaning.specs.declared.states.Outcome.{Outcome}
use Rattle.ir_names.specs.Names.{name_text}
use Rattle.ir_print.specs.Pieces.{commas}

-- `0` for null alone; where any other pointer leads isn't told
abbrev pub pointer_text : SPtr → List ℕ
pointer_text Null = codes "0"
pointer_text (At object offset) = codes "p"

-- an integer in decimal, without sign; a pair is no argument and no result, and is told by its pointer
abbrev pub value_text : Value SPtr → List ℕ
value_text (Int width n) = decimal n
value_text (Ptr p) = pointer_text p
value_text (Pair p found) = pointer_text p

-- a void function gives no answer
abbrev pub answer_text : Option (Value SPtr) → List ℕ
answer_text None = []
answer_text (Some value) = codes " = " ++ value_text value

-- `call NAME(A, B) = V`
abbrev pub event_line : Event SPtr → List ℕ
event_line event = codes "call " ++ name_text event.name ++ codes "(" ++ commas (map value_text event.args) ++ codes ")"
    ++ answer_text event.answer ++ codes "\n"

abbrev pub result_text : Option (Value SPtr) → List ℕ
result_text None = []
result_text (Some value) = codes " " ++ value_text value

-- how the run stands, with what it returned
abbrev pub status_text : Status → Option (Value SPtr) → List ℕ
status_text Running result = codes "running"
status_text Returned result = codes "returned" ++ result_text result
status_text Trapped result = codes "trapped"
status_text Starved result = codes "starved"
status_text Undefined result = codes "undefined"

abbrev pub status_line : Status → Option (Value SPtr) → List ℕ
status_line status result = status_text status result ++ codes "\n"

-- a line for each event, and then one for the status
abbrev pub run_text : Outcome SPtr → List ℕ
run_text outcome = flat_map event_line outcome.events ++ status_line outcome.status outcome.result
