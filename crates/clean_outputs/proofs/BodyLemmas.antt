-- The blocks of a body without flaws: each has a name, and ends with its one terminator.
use Rattle.std.proofs.Common.{◌≡◌, refl, ◌∙◌, ap, sym, subst, ℕ, ◌+◌, Bool, true, false, not, ◌&&◌, List, [], ◌∷◌, drop, Some, None, slice_get, arith}
use Rattle.std.specs.List.{AllByRecursion}
use Rattle.ltt_base.specs.declared.refusal.Code.TheVariants.{E03}
use Rattle.ltt_base.specs.declared.refusal.Placed.{Placed}
use Rattle.ir_values.specs.declared.instructions.Inst.{Inst}
use Rattle.ir_values.specs.declared.modules.Block.{Block}
use Rattle.ir_values.specs.declared.units.Head.{Head}
use Rattle.ir_values.specs.declared.units.Unit.{Unit as TheUnit}
use Rattle.ir_values.specs.declared.units.Form.TheVariants.{DefineForm}
use Rattle.ir_print.specs.ModuleText.{has_none}
use Rattle.check_names.specs.Flaws.{◌then◌}
use Rattle.check_bodies.specs.declared.standing.Spot.{Spot}
use Rattle.check_bodies.specs.declared.standing.Standing.{Standing}
use Rattle.check_bodies.specs.declared.standing.Standing.TheVariants.{Outside, Inside}
use Rattle.check_bodies.specs.declared.blocks.BlockMark.{BlockMark}
use Rattle.check_bodies.specs.Standing.{entered, after, standing}
use Rattle.check_bodies.specs.Structure.{is_closed}
use Rattle.check_bodies.specs.Bodies.{outside_flaw}
use Rattle.check_bodies.specs.Blocks.{block_label}
use Rattle.check_bodies.specs.Gathered.{gathered}
use Rattle.check_items.specs.Items.{item_flaw}
use Rattle.built_instructions.specs.Instructions.{instruction_of}
use Rattle.built_modules.specs.Blocks.{Piece, pieces_at, pieces_of, begins_in, with_first, blocks_of, body_blocks}
use Rattle.ir_check.specs.Units.{unclosed, flaw_at}
use Rattle.printed_units.specs.Written.{IsName, is_terminator}
use Rattle.sized_modules.proofs.FlawLemmas.{none_first, none_second, unbroken, holds}
use Rattle.sized_modules.proofs.UnitLemmas.{Units}
use Rattle.clean_outputs.proofs.FileLemmas.{IsFile, clean_at}
use Rattle.clean_outputs.proofs.GatherLemmas.{behind_is, pieces_inside, blocks_inside, stands_next}
use Rattle.clean_outputs.proofs.BlockLemmas.{AreRuns, has_no_piece, IsSpot, IsBehind, body_behind}

-- the last and it alone ends the block
abbrev pub are_ended : List Inst → Bool
are_ended [] = false
are_ended (i ∷ []) = is_terminator i
are_ended (i ∷ next ∷ insts) = not (is_terminator i) && are_ended (next ∷ insts)

-- what holds of each instruction that a unit in a body becomes
abbrev pub HoldsInside : Bool → Units → ℕ → (Inst → Type 0) → Type 0
HoldsInside output us file P = (at : ℕ) (u : Placed TheUnit) (spot : Spot) (i : Inst) → slice_get us at ≡ Some u → standing us at ≡ Inside spot
    → instruction_of output us file at spot u.value.form ≡ Some i → P i

-- holds of all that the body behind a head holds
pub insts_inside : (output : Bool) (us : Units) (file : ℕ) (P : Inst → Type 0) → HoldsInside output us file P
    → (at : ℕ) (u : Placed TheUnit) → slice_get us at ≡ Some u → standing us at ≡ Outside
    → AllByRecursion (λ (block : Block). AllByRecursion P block.insts) (body_blocks output us file at)
unfolding body_blocks
insts_inside output us file P have at u here stands =
    let place = after at Outside u.value.form in
    subst (λ pieces. AllByRecursion (λ (block : Block). AllByRecursion P block.insts) (blocks_of us pieces))
    (sym (behind_is output us file at u here))
    (blocks_inside us P (gathered (pieces_at output us file) (at + 1) place (drop (at + 1) us))
    (pieces_inside output us file P have (at + 1) place (drop (at + 1) us) refl (stands_next us at u Outside here stands)))

pub record IsEndedBlock (block : Block) : Type 0 where
  pub label : IsName block.label
  pub ends : are_ended block.insts ≡ true

-- runs of instructions make such blocks

first_some : (us : Units) (first : Piece) (begins : Bool) (blocks : List Block) → has_none (with_first us first begins blocks) ≡ false
first_some us first true [] = refl
first_some us first true (next ∷ blocks) = refl
first_some us first false blocks = refl

runs_some : (us : Units) (pieces : List Piece) → has_no_piece pieces ≡ false → has_none (blocks_of us pieces) ≡ false
unfolding blocks_of
runs_some us [] some = some
runs_some us (first ∷ pieces) some = first_some us first (begins_in first.mark pieces) (blocks_of us pieces)

begun_some : (mark : BlockMark) (pieces : List Piece) → begins_in mark pieces ≡ true → has_no_piece pieces ≡ false
begun_some mark [] begins = sym begins
begun_some mark (first ∷ pieces) begins = refl

longer_ended : (i : Inst) (insts : List Inst) → is_terminator i ≡ false → are_ended insts ≡ true → are_ended (i ∷ insts) ≡ true
longer_ended i [] goes_on ends = absurd (cc)
longer_ended i (next ∷ insts) goes_on ends = ap (λ b. not b && are_ended (next ∷ insts)) goes_on ∙ ends

first_ended : (us : Units) (first : Piece) (ends : Bool) (blocks : List Block) → is_terminator first.inst ≡ ends
    → IsName (block_label us first.mark) → (ends ≡ false → has_none blocks ≡ false) → AllByRecursion IsEndedBlock blocks
    → AllByRecursion IsEndedBlock (with_first us first (not ends) blocks)
first_ended us first true blocks is name some are = (record { label = name; ends = is }, are)
first_ended us first false [] is name some are = absurd (grind (arith, some refl))
first_ended us first false (next ∷ blocks) is name some are =
    (record { label = are.0.label; ends = longer_ended first.inst next.insts is are.0.ends }, are.1)

runs_ended : (us : Units) (pieces : List Piece) → AreRuns us pieces → AllByRecursion IsEndedBlock (blocks_of us pieces)
unfolding blocks_of
runs_ended us [] are = tt
runs_ended us (first ∷ pieces) are =
    let ends = is_terminator first.inst in
    let later = blocks_of us pieces in
    subst (λ begins. AllByRecursion IsEndedBlock (with_first us first begins later)) (sym are.1)
    (first_ended us first ends later refl are.0
    (λ goes_on. runs_some us pieces (begun_some first.mark pieces (are.1 ∙ ap not goes_on))) (runs_ended us pieces are.2))

-- a body is of them

abbrev IsBody : Units → ℕ → Head → List Piece → Type 0
IsBody us at own pieces = IsBehind us (at + 1) (entered at own.params) pieces

closed : (us : Units) (at : ℕ) (own : Head) → flaw_at true us at Outside (DefineForm own) ≡ None → is_closed us at ≡ true
closed us at own none =
    let form = DefineForm own in
    let inner = unclosed us at form then item_flaw true us at form in
    holds (is_closed us at) (unbroken (not (is_closed us at)) E03
    (none_first (unclosed us at form) (item_flaw true us at form) (none_second (outside_flaw form) inner none)))

body_is : (us : Units) → IsFile us → (file at : ℕ) (u : Placed TheUnit) (own : Head) → slice_get us at ≡ Some u
    → u.value.form ≡ DefineForm own → standing us at ≡ Outside → IsBody us at own (pieces_of true us file at)
body_is us of file at u own here is stands =
    let spot = entered at own.params in
    let goes : after at Outside u.value.form ≡ Inside spot = ap (after at Outside) is in
    let clean : flaw_at true us at Outside (DefineForm own) ≡ None = (λ k. flaw_at true us at (sym stands k) (sym is k)) ∙ clean_at us of at u here in
    let known : IsSpot us (at + 1) spot = record { before = omega arith; named = λ begun. absurd (cc) } in
    let pieces = λ (place : Standing). gathered (pieces_at true us file) (at + 1) place (drop (at + 1) us) in
    subst (IsBody us at own) (sym (behind_is true us file at u here ∙ ap pieces goes))
    (body_behind us of file (at + 1) spot (drop (at + 1) us) refl (stands_next us at u Outside here stands ∙ goes) known (closed us at own clean))

pub blocks_ended : (us : Units) → IsFile us → (file at : ℕ) (u : Placed TheUnit) (own : Head) → slice_get us at ≡ Some u
    → u.value.form ≡ DefineForm own → standing us at ≡ Outside → AllByRecursion IsEndedBlock (body_blocks true us file at)
unfolding body_blocks
blocks_ended us of file at u own here is stands = runs_ended us (pieces_of true us file at) (body_is us of file at u own here is stands).runs

-- there is a block
pub some_block : (us : Units) → IsFile us → (file at : ℕ) (u : Placed TheUnit) (own : Head) → slice_get us at ≡ Some u
    → u.value.form ≡ DefineForm own → standing us at ≡ Outside → has_none (body_blocks true us file at) ≡ false
unfolding body_blocks
some_block us of file at u own here is stands =
    runs_some us (pieces_of true us file at) ((body_is us of file at u own here is stands).some refl)
