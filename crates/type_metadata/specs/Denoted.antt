-- What a name denotes in a file: the file's own private definition of it, else the first strong definition in object order,
-- else the first weak one, else an external.
-- Source: LLVM Language Reference, "Linkage Types". Differs: looked up for each name in the list of modules.
use Rattle.std.specs.Prelude.{◌≡◌, ℕ, Bool, true, false, ◌&&◌, ◌⊎◌, nat_eq, List, [], ◌∷◌, if◌then◌else◌}
use Rattle.std.specs.Prelude.{Option, Some, None}
use Rattle.std.specs.Cmp.Lexicographic.{pointwise}
use Rattle.ir_values.specs.declared.modules.Linkage.{Linkage}
use Rattle.ir_values.specs.declared.modules.Linkage.TheVariants.{Private, Strong, Weak, External}
use Rattle.type_metadata.specs.declared.objects.Object.{Object}
use Rattle.type_metadata.specs.declared.objects.Denoted as answer
use Rattle.type_metadata.specs.declared.objects.Denoted.TheVariants as denotes
use Rattle.type_metadata.specs.declared.items.Item.{Item}

abbrev pub is_same_linkage : Linkage → Linkage → Bool
is_same_linkage Private Private = true
is_same_linkage Strong Strong = true
is_same_linkage Weak Weak = true
is_same_linkage External External = true
is_same_linkage _ _ = false

-- the item has this linkage and this name
abbrev pub is_called : Linkage → List ℕ → Item → Bool
is_called linkage name item = is_same_linkage item.linkage linkage && pointwise nat_eq item.name name

-- the item is the file's own private definition of the name
abbrev pub is_own : ℕ → List ℕ → Item → Bool
is_own file name item = nat_eq item.object.file file && is_called Private name item

-- the first item that passes the test
abbrev pub first : (Item → Bool) → List Item → Option Object
first test [] = None
first test (item ∷ items) = if test item then Some item.object else first test items

abbrev pub item_or : Option Object → answer.Denoted → answer.Denoted
item_or None otherwise = otherwise
item_or (Some object) otherwise = denotes.Item object

abbrev pub denoted : List Item → ℕ → List ℕ → answer.Denoted
denoted items file name = item_or (first (is_own file name) items) (item_or (first (is_called Strong name) items)
    (item_or (first (is_called Weak name) items) denotes.External))

-- a private definition, or the one that its name denotes
abbrev pub IsKept : List Item → Item → Type 0
IsKept items item = (item.linkage ≡ Private) ⊎ (denoted items item.object.file item.name ≡ denotes.Item item.object)
