-- The parts of a data layout, one after another.
use Rattle.std.proofs.Common.{◌≡◌, refl, ◌∙◌, ap, sym, ℕ, zero, suc, ◌+◌, ◌<◌, Bool, true, false, cond, List, [], ◌∷◌, length, take, drop, find, Some, None, arith}
use Rattle.std.specs.List.{prefix_len}
use Rattle.std.proofs.lemmas.List.Folds.{length-prefix_len}
use Rattle.check_items.specs.Layouts.{is_inner, with_byte, next_parts, layout_parts, is_foreign}

abbrev behind : List ℕ → List (List ℕ)
behind [] = []
behind (byte ∷ text) = layout_parts text

abbrev len : List ℕ → ℕ
len text = prefix_len is_inner text

cut_byte : (byte : ℕ) (text : List ℕ) (inner : Bool) → layout_parts text ≡ take (len text) text ∷ behind (drop (len text) text)
    → next_parts inner byte (layout_parts text) ≡ take (cond inner (1 + len text) 0) (byte ∷ text) ∷ behind (drop (cond inner (1 + len text) 0) (byte ∷ text))
cut_byte byte text true rest = let next : 1 + len text ≡ suc (len text) = omega arith in rw next (ap (with_byte byte) rest)
cut_byte byte text false rest = refl

-- the first part, and those behind it
parts_cut : (text : List ℕ) → layout_parts text ≡ take (len text) text ∷ behind (drop (len text) text)
unfolding layout_parts
parts_cut [] = refl
parts_cut (byte ∷ text) = cut_byte byte text (is_inner byte) (parts_cut text)

behind_dash : (n : ℕ) (text : List ℕ) → n < length text → behind (drop n text) ≡ layout_parts (drop (n + 1) text)
behind_dash n [] inside = grind arith
behind_dash zero (byte ∷ text) inside = refl
behind_dash (suc n) (byte ∷ text) inside =
    let next : suc n + 1 ≡ suc (n + 1) = omega arith in rw next (behind_dash n text (omega arith))

behind_end : (n : ℕ) (text : List ℕ) → n ≡ length text → behind (drop n text) ≡ []
behind_end n [] same = rw same refl
behind_end zero (byte ∷ text) same = grind arith
behind_end (suc n) (byte ∷ text) same = behind_end n text (omega arith)

whole : (text part : List ℕ) → part ≡ take (len text) text → length part ≡ length text → len text ≡ length text
whole text part same end = sym (length-prefix_len is_inner text) ∙ ap length (sym same) ∙ end

pub find_here : (text part : List ℕ) → part ≡ take (len text) text → is_foreign part ≡ true → find is_foreign (layout_parts text) ≡ Some part
find_here text part same is =
    ap (find is_foreign) (parts_cut text)
    ∙ ap (λ p. cond (is_foreign p) (Some p) (find is_foreign (behind (drop (len text) text)))) (sym same)
    ∙ ap (λ b. cond b (Some part) (find is_foreign (behind (drop (len text) text)))) is

pub find_behind : (text part : List ℕ) → part ≡ take (len text) text → is_foreign part ≡ false → find is_foreign (layout_parts text) ≡ find is_foreign (behind (drop (len text) text))
find_behind text part same is =
    ap (find is_foreign) (parts_cut text)
    ∙ ap (λ p. cond (is_foreign p) (Some p) (find is_foreign (behind (drop (len text) text)))) (sym same)
    ∙ ap (λ b. cond b (Some part) (find is_foreign (behind (drop (len text) text)))) is

pub find_next : (text part : List ℕ) → is_foreign part ≡ false → part ≡ take (len text) text → length part ≡ len text → length part < length text
    → find is_foreign (layout_parts text) ≡ find is_foreign (layout_parts (drop (length part + 1) text))
find_next text part is same size inside =
    find_behind text part same is
    ∙ ap (λ k. find is_foreign (behind (drop k text))) (sym size) ∙ ap (find is_foreign) (behind_dash (length part) text inside)

pub find_last : (text part : List ℕ) → is_foreign part ≡ false → part ≡ take (len text) text → length part ≡ length text
    → find is_foreign (layout_parts text) ≡ None
find_last text part is same end =
    find_behind text part same is
    ∙ ap (find is_foreign) (behind_end (len text) text (whole text part same end))
