-- The blocks of a body: their labels, where their ends go, and from where each is entered.
-- Source: LLVM Language Reference, "Functions", "Terminator Instructions" and "'phi' Instruction". Differs: a branch to a label is one
-- to each block of that label, and a block that goes to one more than once counts once.
use Rattle.std.specs.Prelude.{ℕ, ◌-◌, Bool, false, ◌&&◌, nat_eq, cond, List, [], ◌∷◌, ◌++◌, map, length, slice_get, Option, Some, None}
use Rattle.std.specs.List.{list_any, list_all}
use Rattle.std.specs.Str.{bytes_eq}
use Rattle.ltt_base.specs.declared.refusal.Placed.{Placed}
use Rattle.ir_values.specs.declared.units.Unit.{Unit}
use Rattle.ir_values.specs.declared.units.Form.{Form}
use Rattle.ir_values.specs.declared.units.Form.TheVariants as form
use Rattle.ir_values.specs.declared.units.BranchText.{BranchText}
use Rattle.ir_values.specs.declared.units.BranchText.TheVariants.{Br, CondBr, Switch}
use Rattle.check_bodies.specs.declared.standing.Spot.{Spot}
use Rattle.check_bodies.specs.declared.blocks.BlockMark.{BlockMark}
use Rattle.check_bodies.specs.declared.blocks.Edge.{Edge}
use Rattle.check_bodies.specs.Numbers.{name_or}
use Rattle.check_bodies.specs.Standing.{opened}
use Rattle.check_bodies.specs.Gathered.{of_function}

-- the labels that a branch names
abbrev pub branch_targets : BranchText → List (List ℕ)
branch_targets (Br to) = to ∷ []
branch_targets (CondBr _ one other) = one ∷ other ∷ []
branch_targets (Switch _ _ other cases) = other ∷ map (λ c. c.2) cases

abbrev pub targets : Form → List (List ℕ)
targets (form.BranchForm text) = branch_targets text
targets _ = []

-- the label that a unit writes
abbrev pub written_label : Form → Option (List ℕ)
written_label (form.LabelForm name) = Some name
written_label _ = None

abbrev pub label_of : Option (Placed Unit) → ℕ → List ℕ
label_of None number = name_or number None
label_of (Some u) number = name_or number (written_label u.value.form)

-- the label of a block, by the unit that begins it, or else by its number
abbrev pub block_label : List (Placed Unit) → BlockMark → List ℕ
block_label us mark = label_of (slice_get us mark.start) mark.number

-- the block in which a spot is
abbrev pub block_at : Spot → BlockMark
block_at spot = record { start = spot.start; number = spot.number }

-- from a block to each of some labels
abbrev pub edges_to : BlockMark → List (List ℕ) → List Edge
edges_to mark [] = []
edges_to mark (to ∷ labels) = record { from = mark; to = to } ∷ edges_to mark labels

-- where the end of a block goes, by its last instruction
abbrev pub edges_at : ℕ → Spot → Form → List Edge
edges_at at spot form = edges_to (block_at (opened at spot)) (targets form)

abbrev pub no_edge : Form → List Edge
no_edge form = []

-- the edges of the function whose head stands at a place
abbrev pub edges_of : List (Placed Unit) → ℕ → List Edge
edges_of us head = of_function no_edge edges_at us head

abbrev pub is_same_mark : BlockMark → BlockMark → Bool
is_same_mark one other = nat_eq one.start other.start && nat_eq one.number other.number

abbrev pub is_mark : BlockMark → Option BlockMark → Bool
is_mark mark None = false
is_mark mark (Some last) = is_same_mark last mark

-- a list ends with a block
abbrev pub is_last : List BlockMark → BlockMark → Bool
is_last marks mark = is_mark mark (slice_get marks (length marks - 1))

-- one more block behind others, if it isn't the last of them
abbrev pub with_source : List BlockMark → BlockMark → List BlockMark
with_source found mark = cond (is_last found mark) found (found ++ mark ∷ [])

abbrev pub with_edge : List ℕ → List BlockMark → Edge → List BlockMark
with_edge label found edge = cond (bytes_eq edge.to label) (with_source found edge.from) found

-- the blocks from which edges lead to a label, behind those found so far
unfoldable pub sources_behind : List ℕ → List BlockMark → List Edge → List BlockMark
sources_behind label found [] = found
sources_behind label found (edge ∷ edges) = sources_behind label (with_edge label found edge) edges

-- the blocks that go to a label, in the order of the text
abbrev pub sources : List (Placed Unit) → ℕ → List ℕ → List BlockMark
sources us head label = sources_behind label [] (edges_of us head)

-- the labels of the blocks from which a block is entered
abbrev pub predecessors : List (Placed Unit) → ℕ → BlockMark → List (List ℕ)
predecessors us head mark = map (block_label us) (sources us head (block_label us mark))

abbrev pub are_among : List (List ℕ) → List (List ℕ) → Bool
are_among xs ys = list_all (λ x. list_any (λ y. bytes_eq y x) ys) xs

-- the same labels, in any order and number
abbrev pub are_same_labels : List (List ℕ) → List (List ℕ) → Bool
are_same_labels xs ys = are_among xs ys && are_among ys xs

abbrev pub arm_labels : Form → List (List ℕ)
arm_labels (form.PhiForm _ _ arms) = map (λ arm. arm.1) arms
arm_labels _ = []
