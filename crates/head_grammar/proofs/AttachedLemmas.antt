-- Attachments with what stands behind each.
use Rattle.std.proofs.Common.{◌≡◌, List, [], ◌∷◌, ◌++◌, refl, ap, ◌∙◌, sym, append_assoc, append-nil}
use Rattle.head_grammar.specs.declared.attached.Attached.{Attached}
use Rattle.head_grammar.specs.Extras.{attachments_of, left_of}

pub left_more : (xs : List Attached) (x : Attached) → left_of (xs ++ x ∷ []) ≡ left_of xs ++ x.left
left_more [] x = append-nil x.left
left_more (y ∷ xs) x = ap (λ ls. y.left ++ ls) (left_more xs x) ∙ sym (append_assoc y.left (left_of xs) x.left)

pub attachments_more : (xs : List Attached) (x : Attached) → attachments_of (xs ++ x ∷ []) ≡ attachments_of xs ++ x.attach ∷ []
attachments_more [] x = refl
attachments_more (y ∷ xs) x = ap (λ ls. y.attach ∷ ls) (attachments_more xs x)
