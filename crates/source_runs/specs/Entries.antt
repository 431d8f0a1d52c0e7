-- The function at which a run begins, by its name.
use Rattle.std.specs.Prelude.{ℕ, ◌&&◌, List, [], if◌then◌else◌, Option, Some, None}
use Rattle.ir_values.specs.declared.modules.Module.{Module}
use Rattle.type_metadata.specs.declared.objects.Object.{Object}
use Rattle.type_metadata.specs.declared.objects.Denoted as answer
use Rattle.type_metadata.specs.declared.objects.Denoted.TheVariants as denotes
use Rattle.type_metadata.specs.Items.{items}
use Rattle.type_metadata.specs.Denoted.{denoted}
use Rattle.ir_meaning.specs.Places.{function_at}
use Rattle.ir_meaning.specs.Starts.{takes}

-- an object at which a run may begin: a function that is defined, and has no parameters
abbrev pub entry_at : List Module → answer.Denoted → Option Object
entry_at ms denotes.External = None
entry_at ms (denotes.Item object) =
    if object.function && takes (function_at ms object.file object.index) [] then Some object else None

-- What a name denotes outside all files, where a run may begin at it. No file has the number 0, so it isn't private.
abbrev pub entry_of : List Module → List ℕ → Option Object
entry_of ms name = entry_at ms (denoted (items ms) 0 name)
