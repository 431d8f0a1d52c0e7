-- Lists that are put item by item.
use Rattle.std.proofs.Common.{◌≡◌, suc, refl, sym, ◌∙◌, ap, ℕ, ◌+◌, ◌<◌, List, [], ◌∷◌, ◌++◌, length, take, get_or, map, codes, add-one, arith, append_assoc}
use Rattle.std.specs.List.{flat_map}
use Rattle.std.proofs.lemmas.Bool.Decides.{nat_tests}
use Rattle.std.proofs.lemmas.Grind.{common_steps}
use Rattle.std.proofs.lemmas.List.{take_more, append-nil}
use Rattle.ir_values.specs.declared.types.Ty.{Ty}
use Rattle.ir_values.specs.declared.constants.Const
use Rattle.ir_values.specs.declared.constants.Const.{Const, fold-roll-Const}
use Rattle.ir_values.specs.declared.constants.Const.TheOpen.{Const-F}
use Rattle.ir_values.specs.declared.constants.Const.TheVariants.{rolls-Gep}
use Rattle.ir_values.specs.declared.constants.Operand.{Operand}
use Rattle.ir_print.specs.Constants.{Printed, const_step, operand_step, const_printed, operand_printed, indices_text, index_text}
use Rattle.ir_print.specs.Pieces.{joined, commas, after_commas, spaces, after_spaces}
use Rattle.ir_print.specs.Printing.{comma_at, space_at}
use Rattle.ir_names.specs.Puts.{State, Puts}
use Rattle.ir_print.specs.Types.{behind_types}
use Rattle.ir_names.proofs.PutLemmas.{puts-then, puts-as}
use Rattle.ir_names.proofs.FlatLemmas.{flat_map-last, next-flat}

pub joined-map : {X : Type 0} (text : X → List ℕ) (items : List X) → flat_map text items ≡ joined (map text items)
joined-map text [] = refl
joined-map text (item ∷ []) = append-nil (text item)
joined-map text (item ∷ next ∷ items) = ap (λ rest. text item ++ rest) (joined-map text (next ∷ items))

pub comma-later : (n : ℕ) → comma_at (n + 1) ≡ codes ", "
comma-later n = grind (arith, nat_tests)

pub commas-last : (texts : List (List ℕ)) (text : List ℕ) → commas (texts ++ (text ∷ [])) ≡ commas texts ++ (comma_at (length texts) ++ text)
commas-last [] text = append-nil text
commas-last (first ∷ texts) text = ap (λ rest. first ++ rest) (flat_map-last (λ piece. codes ", " ++ piece) texts text)
    ∙ (sym (append_assoc first (after_commas texts) (codes ", " ++ text))
    ∙ ap (λ sign. (first ++ after_commas texts) ++ (sign ++ text)) (sym (ap comma_at (sym (add-one (length texts))) ∙ comma-later (length texts))))

pub space-later : (n : ℕ) → space_at (n + 1) ≡ codes " "
space-later n = grind (arith, nat_tests)

pub spaces-last : (texts : List (List ℕ)) (text : List ℕ) → spaces (texts ++ (text ∷ [])) ≡ spaces texts ++ (space_at (length texts) ++ text)
spaces-last [] text = append-nil text
spaces-last (first ∷ texts) text = ap (λ rest. first ++ rest) (flat_map-last (λ piece. codes " " ++ piece) texts text)
    ∙ (sym (append_assoc first (after_spaces texts) (codes " " ++ text))
    ∙ ap (λ sign. (first ++ after_spaces texts) ++ (sign ++ text)) (sym (ap space_at (sym (add-one (length texts))) ∙ space-later (length texts))))

pub map-last : {X : Type 0} (text : X → List ℕ) (items : List X) (item : X) → map text (items ++ (item ∷ [])) ≡ map text items ++ (text item ∷ [])
map-last text [] item = refl
map-last text (first ∷ items) item = ap (λ rest. text first ∷ rest) (map-last text items item)

pub length-map : {X : Type 0} (text : X → List ℕ) (items : List X) → length (map text items) ≡ length items
length-map text [] = refl
length-map text (first ∷ items) = ap (λ n. suc n) (length-map text items)

pub length-take : {X : Type 0} (items : List X) (i : ℕ) → i < length items → length (take i items) ≡ i
length-take items i h = grind (arith, common_steps)

pub behind-last : {X : Type 0} (text : Ty → X → List ℕ) (types : List Ty) (items : List X) (item : X)
    → behind_types text types (items ++ (item ∷ [])) ≡ behind_types text types items ++ (text (get_or types (length items) Ty.Void) item ∷ [])
behind-last text [] [] item = refl
behind-last text (ty ∷ types) [] item = refl
behind-last text [] (first ∷ items) item = ap (λ rest. text Ty.Void first ∷ rest) (behind-last text [] items item)
behind-last text (ty ∷ types) (first ∷ items) item = ap (λ rest. text ty first ∷ rest) (behind-last text types items item)

pub length-behind : {X : Type 0} (text : Ty → X → List ℕ) (types : List Ty) (items : List X) → length (behind_types text types items) ≡ length items
length-behind text types [] = refl
length-behind text [] (first ∷ items) = ap (λ n. suc n) (length-behind text [] items)
length-behind text (ty ∷ types) (first ∷ items) = ap (λ n. suc n) (length-behind text types items)

-- an item more, of items that stand one behind the other, with commas, with spaces and behind types
pub next-comma : {X : Type 0} {a b c : State} (text : X → List ℕ) (items : List X) (i : ℕ) (d : X) → i < length items
    → Puts a b (commas (map text (take i items))) → Puts b c (comma_at i ++ text (get_or items i d)) → Puts a c (commas (map text (take (i + 1) items)))
next-comma text items i d h p q =
    let x = get_or items i d in
    let n : length (map text (take i items)) ≡ i = length-map text (take i items) ∙ length-take items i h in
    puts-as (sym (ap (λ l. commas (map text l)) (take_more items i d h) ∙ (ap commas (map-last text (take i items) x)
    ∙ (commas-last (map text (take i items)) (text x) ∙ ap (λ k. commas (map text (take i items)) ++ (comma_at k ++ text x)) n)))) (puts-then p q)

pub next-space : {X : Type 0} {a b c : State} (text : X → List ℕ) (items : List X) (i : ℕ) (d : X) → i < length items
    → Puts a b (spaces (map text (take i items))) → Puts b c (space_at i ++ text (get_or items i d)) → Puts a c (spaces (map text (take (i + 1) items)))
next-space text items i d h p q =
    let x = get_or items i d in
    let n : length (map text (take i items)) ≡ i = length-map text (take i items) ∙ length-take items i h in
    puts-as (sym (ap (λ l. spaces (map text l)) (take_more items i d h) ∙ (ap spaces (map-last text (take i items) x)
    ∙ (spaces-last (map text (take i items)) (text x) ∙ ap (λ k. spaces (map text (take i items)) ++ (space_at k ++ text x)) n)))) (puts-then p q)

pub next-behind : {X : Type 0} {a b c : State} (text : Ty → X → List ℕ) (types : List Ty) (items : List X) (i : ℕ) (d : X) → i < length items
    → Puts a b (commas (behind_types text types (take i items))) → Puts b c (comma_at i ++ text (get_or types i Ty.Void) (get_or items i d))
    → Puts a c (commas (behind_types text types (take (i + 1) items)))
next-behind text types items i d h p q =
    let x = get_or items i d in
    let n = length-take items i h in
    let done = behind_types text types (take i items) in
    puts-as (sym (ap (λ l. commas (behind_types text types l)) (take_more items i d h) ∙ (ap commas (behind-last text types (take i items) x)
    ∙ (commas-last done (text (get_or types (length (take i items)) Ty.Void) x)
    ∙ (ap (λ k. commas done ++ (comma_at k ++ text (get_or types (length (take i items)) Ty.Void) x)) (length-behind text types (take i items))
    ∙ ap (λ k. commas done ++ (comma_at k ++ text (get_or types k Ty.Void) x)) n))))) (puts-then p q)

-- texts of printed parts, as those of the parts
pub printed-map : {X : Type 0} (parts : X → Printed) (ty : Ty) (items : List X)
    → map (λ x. (parts x).typed ty) items ≡ map (λ part. part.typed ty) (map parts items)
printed-map parts ty [] = refl
printed-map parts ty (item ∷ items) = ap (λ rest. (parts item).typed ty ∷ rest) (printed-map parts ty items)

pub printed-behind : {X : Type 0} (parts : X → Printed) (types : List Ty) (items : List X)
    → behind_types (λ ty x. (parts x).typed ty) types items ≡ behind_types (λ ty part. part.typed ty) types (map parts items)
printed-behind parts types [] = refl
printed-behind parts [] (item ∷ items) = ap (λ rest. (parts item).typed Ty.Void ∷ rest) (printed-behind parts [] items)
printed-behind parts (ty ∷ types) (item ∷ items) = ap (λ rest. (parts item).typed ty ∷ rest) (printed-behind parts types items)

pub printed-indices : (items : List Operand) → flat_map index_text items ≡ indices_text (map operand_printed items)
printed-indices [] = refl
printed-indices (item ∷ items) = ap (λ rest. index_text item ++ rest) (printed-indices items)

pub next-index : {a b c : State} (items : List Operand) (i : ℕ) (d : Operand) → i < length items
    → Puts a b (indices_text (map operand_printed (take i items))) → Puts b c (index_text (get_or items i d))
    → Puts a c (indices_text (map operand_printed (take (i + 1) items)))
next-index items i d h p q =
    puts-as (printed-indices (take (i + 1) items)) (next-flat index_text items i d h (puts-as (sym (printed-indices (take i items))) p) q)

pub printed-gep : (ty : Ty) (base : Const) (indices : List Operand)
    → const_printed (Const.Gep ty base indices) ≡ const_step (Const-F.Gep ty (const_printed base) (map operand_printed indices))
printed-gep ty base indices = ap const_printed (sym (rolls-Gep ty base indices))
    ∙ fold-roll-Const Printed Printed const_step operand_step (Const-F.Gep ty base indices)
