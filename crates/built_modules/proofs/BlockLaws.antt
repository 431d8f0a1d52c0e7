-- Blocks hold the instructions that they are made of.
use Rattle.std.proofs.Common.{◌≡◌, ℕ, Bool, true, false, List, [], ◌∷◌, map, refl, sym, ap, ◌∙◌}
use Rattle.std.specs.Prelude.{flat_map}
use Rattle.ltt_base.specs.declared.refusal.Placed.{Placed}
use Rattle.ir_values.specs.declared.instructions.Inst.{Inst}
use Rattle.ir_values.specs.declared.modules.Block as built
use Rattle.ir_values.specs.declared.units.Unit.{Unit}
use Rattle.check_bodies.specs.Blocks.{block_label, is_same_mark}
use Rattle.built_modules.specs.Blocks.{Piece, begins_in, with_first, blocks_of}
use Rattle.built_modules.specs.Laws.{BlocksHoldAll, LabelsAreTheirs}
use Rattle.built_modules.proofs.RunLemmas.{same_mark}

held : List built.Block → List Inst
held blocks = flat_map (λ block. block.insts) blocks

held_first : (us : List (Placed Unit)) (first : Piece) (begins : Bool) (blocks : List built.Block) →
    held (with_first us first begins blocks) ≡ first.inst ∷ held blocks
unfolding held
held_first us first true [] = refl
held_first us first true (next ∷ blocks) = refl
held_first us first false blocks = refl

held_all : (us : List (Placed Unit)) (pieces : List Piece) → held (blocks_of us pieces) ≡ map (λ piece. piece.inst) pieces
unfolding held blocks_of
held_all us [] = refl
held_all us (first ∷ pieces) =
    held_first us first (begins_in first.mark pieces) (blocks_of us pieces)
    ∙ ap (λ insts. first.inst ∷ insts) (held_all us pieces)

pub blocks_hold_all : BlocksHoldAll
unfolding held
blocks_hold_all us pieces = held_all us pieces

labels : List built.Block → List (List ℕ)
labels blocks = flat_map (λ block. map (λ _. block.label) block.insts) blocks

abbrev Begin : List ℕ → List built.Block → Type 0
Begin label [] = ⊥
Begin label (next ∷ blocks) = next.label ≡ label

begin_with : (us : List (Placed Unit)) (first : Piece) (begins : Bool) (label : List ℕ) (blocks : List built.Block) → Begin label blocks →
    (begins ≡ true → label ≡ block_label us first.mark) → Begin (block_label us first.mark) (with_first us first begins blocks)
begin_with us first true label [] is same = absurd is
begin_with us first true label (next ∷ blocks) is same = is ∙ same refl
begin_with us first false label blocks is same = refl

first_label : (us : List (Placed Unit)) (first : Piece) (pieces : List Piece) → Begin (block_label us first.mark) (blocks_of us (first ∷ pieces))
unfolding blocks_of
first_label us first [] = refl
first_label us first (next ∷ pieces) =
    begin_with us first (is_same_mark first.mark next.mark) (block_label us next.mark) (blocks_of us (next ∷ pieces)) (first_label us next pieces)
    (λ same. ap (block_label us) (sym (same_mark first.mark next.mark same)))

labels_first : (us : List (Placed Unit)) (first : Piece) (begins : Bool) (label : List ℕ) (blocks : List built.Block) → Begin label blocks →
    (begins ≡ true → label ≡ block_label us first.mark) →
    labels (with_first us first begins blocks) ≡ block_label us first.mark ∷ labels blocks
unfolding labels
labels_first us first true label [] is same = absurd is
labels_first us first true label (next ∷ blocks) is same = ap (λ l. l ∷ labels (next ∷ blocks)) (is ∙ same refl)
labels_first us first false label blocks is same = refl

labels_all : (us : List (Placed Unit)) (pieces : List Piece) → labels (blocks_of us pieces) ≡ map (λ piece. block_label us piece.mark) pieces
unfolding labels blocks_of
labels_all us [] = refl
labels_all us (first ∷ []) = refl
labels_all us (first ∷ next ∷ pieces) =
    labels_first us first (is_same_mark first.mark next.mark) (block_label us next.mark) (blocks_of us (next ∷ pieces)) (first_label us next pieces)
    (λ same. ap (block_label us) (sym (same_mark first.mark next.mark same)))
    ∙ ap (λ ls. block_label us first.mark ∷ ls) (labels_all us (next ∷ pieces))

pub labels_are_theirs : LabelsAreTheirs
unfolding labels
labels_are_theirs us pieces = labels_all us pieces
