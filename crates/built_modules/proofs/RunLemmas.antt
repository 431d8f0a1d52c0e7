-- An instruction behind the open block, or in it.
use Rattle.std.proofs.Common.{◌≡◌, ℕ, ◌+◌, ◌<◌, ◌≤◌, Bool, true, false, List, [], ◌∷◌, ◌++◌, map, length, get_or, drop, Result, Ok, Err, IfOk, refl, sym, ap, ◌∙◌, append_assoc, arith}
use Rattle.std.proofs.lemmas.List.{append-nil}
use Rattle.ltt_base.specs.declared.refusal.Placed.{Placed}
use Rattle.ir_values.specs.declared.instructions.Inst.{Inst}
use Rattle.ir_values.specs.declared.modules.Block as built
use Rattle.ir_values.specs.declared.units.Unit.{Unit}
use Rattle.ir_values.specs.declared.units.Form.{Form}
use Rattle.check_bodies.specs.declared.standing.Spot.{Spot}
use Rattle.check_bodies.specs.declared.standing.Standing.{Standing}
use Rattle.check_bodies.specs.declared.standing.Standing.TheVariants.{Outside, Inside}
use Rattle.check_bodies.specs.declared.blocks.BlockMark.{BlockMark}
use Rattle.check_bodies.specs.Standing.{after}
use Rattle.check_bodies.specs.Gathered.{gathered, of_function}
use Rattle.check_bodies.specs.Blocks.{block_label, is_same_mark}
use Rattle.check_bodies.proofs.GatheredLemmas.{found_first, found_closed, found_last, found_more}
use Rattle.built_modules.specs.declared.blocks.Run.{Run}
use Rattle.built_modules.specs.Blocks.{Piece, piece, block, no_piece, begins_in, with_first, blocks_of}
use Rattle.built_modules.specs.Runs.{blocks_with}

abbrev Own : Type 0
Own = ℕ → Spot → Form → List Piece

alone : List (Placed Unit) → BlockMark → List Inst → List built.Block
alone us mark [] = []
alone us mark (inst ∷ insts) = block us mark (inst ∷ insts) ∷ []

pub same_mark : (one other : BlockMark) → is_same_mark one other ≡ true → one ≡ other
same_mark one other same = grind arith

mark_same : (mark : BlockMark) → is_same_mark mark mark ≡ true
mark_same mark = grind arith

-- instructions of one block, and others that begin in another
apart : (us : List (Placed Unit)) (mark : BlockMark) (insts : List Inst) (pieces : List Piece) → begins_in mark pieces ≡ false →
    blocks_of us (map (piece mark) insts ++ pieces) ≡ alone us mark insts ++ blocks_of us pieces
unfolding blocks_of alone
apart us mark [] pieces other = refl
apart us mark (inst ∷ []) pieces other =
    ap (λ b. with_first us (piece mark inst) b (blocks_of us pieces)) other
apart us mark (inst ∷ next ∷ insts) pieces other =
    ap (λ b. with_first us (piece mark inst) b (blocks_of us (map (piece mark) (next ∷ insts) ++ pieces))) (mark_same mark)
    ∙ ap (with_first us (piece mark inst) true) (apart us mark (next ∷ insts) pieces other)

moved : (mark : BlockMark) (insts : List Inst) (inst : Inst) (pieces : List Piece) →
    map (piece mark) (insts ++ inst ∷ []) ++ pieces ≡ map (piece mark) insts ++ piece mark inst ∷ pieces
moved mark [] inst pieces = refl
moved mark (first ∷ insts) inst pieces = ap (λ ps. piece mark first ∷ ps) (moved mark insts inst pieces)

pub first_with : (us : List (Placed Unit)) (run : Run) (mark : BlockMark) (pieces : List Piece) →
    run ≡ record { blocks = []; mark = mark; insts = [] } → blocks_with us run pieces ≡ blocks_of us pieces
unfolding blocks_with
first_with us run mark pieces is = ap (λ r. r.blocks ++ blocks_of us (map (piece r.mark) r.insts ++ pieces)) is

pub closed_none : (us : List (Placed Unit)) (run : Run) → run.insts ≡ [] → run.blocks ≡ blocks_with us run []
unfolding blocks_with blocks_of
closed_none us run none =
    sym (append-nil run.blocks) ∙ ap (λ insts. run.blocks ++ blocks_of us (map (piece run.mark) insts ++ [])) (sym none)

alone_some : (us : List (Placed Unit)) (mark : BlockMark) (insts : List Inst) (empty : Bool) → empty ≡ false → (insts ≡ [] → empty ≡ true) →
    alone us mark insts ≡ block us mark insts ∷ []
unfolding alone
alone_some us mark [] empty filled some = let full : true ≡ false = sym (some refl) ∙ filled in cc (full)
alone_some us mark (inst ∷ insts) empty filled some = refl

whole : (us : List (Placed Unit)) (run : Run) → blocks_with us run [] ≡ run.blocks ++ alone us run.mark run.insts
unfolding blocks_with blocks_of
whole us run =
    ap (λ bs. run.blocks ++ bs) (apart us run.mark run.insts [] refl ∙ append-nil (alone us run.mark run.insts))

pub closed_some : (us : List (Placed Unit)) (run : Run) (new : List built.Block) (label : List ℕ) (empty : Bool) → empty ≡ false →
    (run.insts ≡ [] → empty ≡ true) → new ≡ run.blocks ++ record { label = label; insts = run.insts } ∷ [] → label ≡ block_label us run.mark →
    new ≡ blocks_with us run []
closed_some us run new label empty filled some added is =
    added ∙ ap (λ l. run.blocks ++ record { label = l; insts = run.insts } ∷ []) is
    ∙ ap (λ bs. run.blocks ++ bs) (sym (alone_some us run.mark run.insts empty filled some)) ∙ sym (whole us run)

pub continued_with : (us : List (Placed Unit)) (run new : Run) (mark : BlockMark) (inst : Inst) (pieces : List Piece) →
    is_same_mark run.mark mark ≡ true → new ≡ record { blocks = run.blocks; mark = run.mark; insts = run.insts ++ inst ∷ [] } →
    blocks_with us new pieces ≡ blocks_with us run (piece mark inst ∷ pieces)
unfolding blocks_with
continued_with us run new mark inst pieces same is =
    ap (λ r. r.blocks ++ blocks_of us (map (piece r.mark) r.insts ++ pieces)) is
    ∙ ap (λ ps. run.blocks ++ blocks_of us ps) (moved run.mark run.insts inst pieces)
    ∙ ap (λ m. run.blocks ++ blocks_of us (map (piece run.mark) run.insts ++ piece m inst ∷ pieces)) (same_mark run.mark mark same)

pub begun_with : (us : List (Placed Unit)) (run new : Run) (blocks : List built.Block) (mark : BlockMark) (inst : Inst) (pieces : List Piece) →
    is_same_mark run.mark mark ≡ false → blocks ≡ blocks_with us run [] → new ≡ record { blocks = blocks; mark = mark; insts = inst ∷ [] } →
    blocks_with us new pieces ≡ blocks_with us run (piece mark inst ∷ pieces)
unfolding blocks_with
begun_with us run new blocks mark inst pieces other closed is =
    let rest : List built.Block = blocks_of us (piece mark inst ∷ pieces) in
    ap (λ r. r.blocks ++ blocks_of us (map (piece r.mark) r.insts ++ pieces)) is
    ∙ ap (λ bs. bs ++ rest) (closed ∙ whole us run)
    ∙ append_assoc run.blocks (alone us run.mark run.insts) rest
    ∙ ap (λ bs. run.blocks ++ bs) (sym (apart us run.mark run.insts (piece mark inst ∷ pieces) other))

pub on_ok : {A E : Type 0} (P Q : A → Type 0) (r : Result A E) → ((a : A) → P a → Q a) → IfOk r P → IfOk r Q
on_ok P Q (Ok a) turn is = turn a is
on_ok P Q (Err e) turn is = tt

pub walk_first : (own : Own) (us : List (Placed Unit)) (head : ℕ) (d : Placed Unit) (run : Run) (mark : BlockMark) (standing : Standing) →
    head < length us → run ≡ record { blocks = []; mark = mark; insts = [] } → standing ≡ after head Outside (get_or us head d).value.form →
    blocks_with us run (gathered own (head + 1) standing (drop (head + 1) us)) ≡ blocks_of us (of_function no_piece own us head)
walk_first own us head d run mark standing within is stands =
    first_with us run mark (gathered own (head + 1) standing (drop (head + 1) us)) is
    ∙ ap (blocks_of us) (found_first no_piece own us head d [] standing within refl stands)

pub walk_closed : (own : Own) (us : List (Placed Unit)) (at : ℕ) (run : Run) (all : List built.Block) (standing : Standing) → standing ≡ Outside →
    blocks_with us run (gathered own at standing (drop at us)) ≡ all → blocks_with us run [] ≡ all
walk_closed own us at run all standing closed is =
    ap (blocks_with us run) (found_closed own us at [] (gathered own at standing (drop at us)) standing closed refl) ∙ is

pub walk_last : (own : Own) (us : List (Placed Unit)) (at : ℕ) (run : Run) (all : List built.Block) (standing : Standing) → length us ≤ at →
    blocks_with us run (gathered own at standing (drop at us)) ≡ all → blocks_with us run [] ≡ all
walk_last own us at run all standing past is =
    ap (blocks_with us run) (found_last own us at [] (gathered own at standing (drop at us)) standing past refl) ∙ is

pub walk_more : (own : Own) (us : List (Placed Unit)) (at : ℕ) (d : Placed Unit) (spot : Spot) (run new : Run) (all : List built.Block) (standing next : Standing) →
    at < length us → standing ≡ Inside spot →
    ((pieces : List Piece) → blocks_with us new pieces ≡ blocks_with us run (own at spot (get_or us at d).value.form ++ pieces)) →
    next ≡ after at (Inside spot) (get_or us at d).value.form →
    blocks_with us run (gathered own at standing (drop at us)) ≡ all →
    blocks_with us new (gathered own (at + 1) next (drop (at + 1) us)) ≡ all
walk_more own us at d spot run new all standing next within inside more goes is =
    let form : Form = (get_or us at d).value.form in
    let split : own at spot form ++ gathered own (at + 1) next (drop (at + 1) us) ≡ gathered own at standing (drop at us) =
    found_more own us at d spot [] (own at spot form) (gathered own at standing (drop at us)) standing next within inside refl goes refl in
    more (gathered own (at + 1) next (drop (at + 1) us)) ∙ ap (blocks_with us run) split ∙ is
