-- Along a body: where its units stand, and the instructions that they give.
use Rattle.std.proofs.Common.{◌≡◌, refl, ◌∙◌, ap, ℕ, zero, suc, ◌+◌, Bool, true, false, List, [], ◌∷◌, ◌++◌, drop, slice_get, Option, Some, None, add-one}
use Rattle.std.specs.List.{AllByRecursion}
use Rattle.std.proofs.lemmas.Option.{slice_get_within, get_or_from_slice_get}
use Rattle.ltt_base.specs.declared.refusal.Placed.{Placed}
use Rattle.ir_values.specs.declared.instructions.Inst.{Inst}
use Rattle.ir_values.specs.declared.modules.Block.{Block}
use Rattle.ir_values.specs.declared.units.Unit.{Unit as TheUnit}
use Rattle.check_bodies.specs.declared.standing.Spot.{Spot}
use Rattle.check_bodies.specs.declared.standing.Standing.{Standing}
use Rattle.check_bodies.specs.declared.standing.Standing.TheVariants.{Outside, Inside}
use Rattle.check_bodies.specs.declared.blocks.BlockMark.{BlockMark}
use Rattle.check_bodies.specs.Standing.{opened, after, standing}
use Rattle.check_bodies.specs.Gathered.{gathered, behind_head, of_function}
use Rattle.check_bodies.specs.Blocks.{block_at}
use Rattle.check_bodies.proofs.StandingLemmas.{standing_next}
use Rattle.built_instructions.specs.Instructions.{instruction_of}
use Rattle.built_modules.specs.Blocks.{Piece, pieces_in, pieces_at, no_piece, pieces_of, begins_in, with_first, blocks_of}
use Rattle.sized_modules.proofs.UnitLemmas.{Units}

-- the first of what is behind a place stands there
pub drop_here : {X : Type 0} (us : List X) (at : ℕ) (u : X) (rest : List X) → drop at us ≡ u ∷ rest → slice_get us at ≡ Some u
drop_here [] zero u rest is = absurd (cc)
drop_here [] (suc at) u rest is = absurd (cc)
drop_here (v ∷ us) zero u rest is = cc
drop_here (v ∷ us) (suc at) u rest is = drop_here us at u rest is

-- and the others behind the next place
drop_suc : {X : Type 0} (us : List X) (at : ℕ) (u : X) (rest : List X) → drop at us ≡ u ∷ rest → drop (suc at) us ≡ rest
drop_suc [] zero u rest is = absurd (cc)
drop_suc [] (suc at) u rest is = absurd (cc)
drop_suc (v ∷ us) zero u rest is = cc
drop_suc (v ∷ us) (suc at) u rest is = drop_suc us at u rest is

pub drop_next : {X : Type 0} (us : List X) (at : ℕ) (u : X) (rest : List X) → drop at us ≡ u ∷ rest → drop (at + 1) us ≡ rest
drop_next us at u rest is = rw add-one (drop_suc us at u rest is)

-- where the unit behind the one at a place stands
pub stands_next : (us : Units) (at : ℕ) (u : Placed TheUnit) (place : Standing) → slice_get us at ≡ Some u → standing us at ≡ place
    → standing us (at + 1) ≡ after at place u.value.form
stands_next us at u place here stands =
    standing_next us at u (slice_get_within us at u here)
    ∙ (λ k. after at (stands k) (get_or_from_slice_get us at u u here k).value.form)

-- the instructions of a body are those behind its head
pub behind_is : (output : Bool) (us : Units) (file at : ℕ) (u : Placed TheUnit) → slice_get us at ≡ Some u
    → pieces_of output us file at ≡ gathered (pieces_at output us file) (at + 1) (after at Outside u.value.form) (drop (at + 1) us)
unfolding of_function
behind_is output us file at u here = ap (behind_head no_piece (pieces_at output us file) us at) here

abbrev pub HoldAll : (Inst → Type 0) → List Piece → Type 0
HoldAll P pieces = AllByRecursion (λ (piece : Piece). P piece.inst) pieces

joined : (P : Inst → Type 0) (one other : List Piece) → HoldAll P one → HoldAll P other → HoldAll P (one ++ other)
joined P [] other are others = others
joined P (piece ∷ one) other are others = (are.0, joined P one other are.1 others)

one_piece : (P : Inst → Type 0) (mark : BlockMark) (i : Option Inst) → ((own : Inst) → i ≡ Some own → P own) → HoldAll P (pieces_in mark i)
one_piece P mark None holds = tt
one_piece P mark (Some own) holds = (holds own refl, tt)

-- what holds of each instruction that a unit inside becomes holds of all that a body gives
pub pieces_inside : (output : Bool) (us : Units) (file : ℕ) (P : Inst → Type 0)
    → ((at : ℕ) (u : Placed TheUnit) (spot : Spot) (i : Inst) → slice_get us at ≡ Some u → standing us at ≡ Inside spot
    → instruction_of output us file at spot u.value.form ≡ Some i → P i)
    → (at : ℕ) (place : Standing) (rest : Units) → drop at us ≡ rest → standing us at ≡ place
    → HoldAll P (gathered (pieces_at output us file) at place rest)
unfolding gathered
pieces_inside output us file P holds at place [] is stands = tt
pieces_inside output us file P holds at Outside (u ∷ rest) is stands = tt
pieces_inside output us file P holds at (Inside spot) (u ∷ rest) is stands =
    let form = u.value.form in
    let here = drop_here us at u rest is in
    joined P (pieces_at output us file at spot form) (gathered (pieces_at output us file) (at + 1) (after at (Inside spot) form) rest)
    (one_piece P (block_at (opened at spot)) (instruction_of output us file at spot form) (λ i made. holds at u spot i here stands made))
    (pieces_inside output us file P holds (at + 1) (after at (Inside spot) form) rest (drop_next us at u rest is)
    (stands_next us at u (Inside spot) here stands))

-- and of all in its blocks

abbrev HoldIn : (Inst → Type 0) → List Block → Type 0
HoldIn P blocks = AllByRecursion (λ (block : Block). AllByRecursion P block.insts) blocks

first_holds : (us : Units) (P : Inst → Type 0) (first : Piece) (begins : Bool) (blocks : List Block) → P first.inst → HoldIn P blocks
    → HoldIn P (with_first us first begins blocks)
first_holds us P first true [] is are = ((is, tt), tt)
first_holds us P first true (next ∷ blocks) is are = ((is, are.0), are.1)
first_holds us P first false blocks is are = ((is, tt), are)

pub blocks_inside : (us : Units) (P : Inst → Type 0) (pieces : List Piece) → HoldAll P pieces
    → AllByRecursion (λ (block : Block). AllByRecursion P block.insts) (blocks_of us pieces)
unfolding blocks_of
blocks_inside us P [] are = tt
blocks_inside us P (first ∷ pieces) are =
    first_holds us P first (begins_in first.mark pieces) (blocks_of us pieces) are.0 (blocks_inside us P pieces are.1)
