-- Arms that are judged as they are read are those that are judged afterwards.
use Rattle.std.proofs.Common.{◌≡◌, ℕ, zero, suc, List, [], ◌∷◌, ◌++◌, map, length, None, codes, refl, sym, ◌∙◌, ap}
use Rattle.std.proofs.lemmas.List.{map-append}
use Rattle.ir_values.specs.declared.types.Ty.{Ty}
use Rattle.ir_values.specs.declared.constants.Operand.{Operand}
use Rattle.ir_values.specs.declared.units.Form.{Form}
use Rattle.ir_values.specs.declared.units.Form.TheVariants.{PhiForm}
use Rattle.unit_grammar.specs.Pieces.{Piece}
use Rattle.unit_grammar.specs.Signs.{Sign, mark, word}
use Rattle.unit_grammar.specs.Readers.{Read, found, absent, deep, Reader, read, then_read, past, sign_read, many_on, many_read}
use Rattle.unit_grammar.proofs.ListLemmas.{many_given}
use Rattle.type_grammar.specs.Names.{a_type}
use Rattle.type_grammar.specs.Levels.{levels}
use Rattle.type_grammar.specs.Reading.{reads}
use Rattle.instruction_grammar.specs.declared.bare_operand.BareOperand.{BareOperand}
use Rattle.instruction_grammar.specs.Memory.{arm, arms, arm_at, arm_of, phi_of, phi}
use Rattle.instruction_grammar.specs.Reading.{arms_read, phi_read}

-- the values of a reader, each changed by f
abbrev judged : {A B : Type 0} → (A → B) → Reader A → Reader B
judged {A} {B} f p ts = then_read {A = A} {B = B} (p ts) (λ a rest. found (f a) rest)

abbrev all_judged : {A B : Type 0} → (A → B) → Read (List A) → Read (List B)
all_judged {A} {B} f r = then_read {A = List A} {B = List B} r (λ xs rest. found (map f xs) rest)

many_judged : {A B : Type 0} (f : A → B) (s : Sign) (p : Reader A) (n : ℕ) (given : List A) (ts : List Piece) →
    many_read n (sign_read s (judged f p)) (map f given) ts ≡ all_judged f (many_read n (sign_read s p) given ts)
many_judged f s p zero given ts = refl
many_judged {A} {B} f s p (suc n) given ts = signed (past s ts) (λ xs us. many_judged f s p n xs us)
  where
    one : (x : Read A) → ((xs : List A) (us : List Piece) → many_read n (sign_read s (judged f p)) (map f xs) us ≡ all_judged f (many_read n (sign_read s p) xs us)) →
        many_on (then_read {A = A} {B = B} x (λ a rest. found (f a) rest)) (map f given) ts (many_read n (sign_read s (judged f p))) ≡
        all_judged f (many_on x given ts (many_read n (sign_read s p)))
    one (found a rest) again =
        ap (λ ys. many_read n (sign_read s (judged f p)) ys rest) (sym (map-append f given (a ∷ []))) ∙ again (given ++ a ∷ []) rest
    one absent again = refl
    one deep again = refl

    signed : (x : Read (Unit {0})) → ((xs : List A) (us : List Piece) → many_read n (sign_read s (judged f p)) (map f xs) us ≡ all_judged f (many_read n (sign_read s p) xs us)) →
        many_on (then_read x (λ _ rest. judged f p rest)) (map f given) ts (many_read n (sign_read s (judged f p))) ≡
        all_judged f (many_on (then_read x (λ _ rest. p rest)) given ts (many_read n (sign_read s p)))
    signed (found u rest) again = one (p rest) again
    signed absent again = refl
    signed deep again = refl

abbrev Arm : Type 0
Arm = BareOperand × List ℕ

abbrev formed : Ty → Read (List (Operand × List ℕ)) → Read Form
formed ty r = then_read r (λ xs last. found (PhiForm None ty xs) last)

-- a list of arms behind the first, as the part says it
abbrev written : Ty → Arm → Read (List Arm) → Read Form
written ty a r =
    then_read {A = Ty × List Arm} {B = Form}
    (then_read {A = List Arm} {B = Ty × List Arm}
    (then_read {A = Arm × List Arm} {B = List Arm} (then_read {A = List Arm} {B = Arm × List Arm} r (λ xs last. found (a, xs) last)) (λ x last. found (x.0 ∷ x.1) last))
    (λ xs last. found (ty, xs) last))
    (λ x last. found (phi_of x) last)

written_is : (ty : Ty) (a : Arm) (r : Read (List Arm)) →
    written ty a r ≡ formed ty (all_judged (arm_at ty) (then_read {A = List Arm} {B = List Arm} r (λ xs rest. found ((a ∷ []) ++ xs) rest)))
written_is ty a (found xs rest) = refl
written_is ty a absent = refl
written_is ty a deep = refl

pub phi_is : (ts : List Piece) → read (reads levels) phi ts ≡ phi_read ts
unfolding phi arms arm_of arms_read phi_read
phi_is ts = signed (past (word (codes "phi")) ts)
  where
    s : Sign
    s = mark (codes ",")

    p : Reader Arm
    p = read (reads levels) arm

    arms_is : (ty : Ty) (x : Read Arm) →
        then_read {A = Ty × List Arm} {B = Form}
        (then_read {A = List Arm} {B = Ty × List Arm}
        (then_read {A = Arm × List Arm} {B = List Arm} (then_read {A = Arm} {B = Arm × List Arm} x (λ a us. then_read {A = List Arm} {B = Arm × List Arm} (many_read (length us) (sign_read s p) [] us) (λ xs last. found (a, xs) last))) (λ x last. found (x.0 ∷ x.1) last))
        (λ xs last. found (ty, xs) last))
        (λ x last. found (phi_of x) last)
        ≡ formed ty (then_read (then_read {A = Arm} {B = Operand × List ℕ} x (λ a rest. found (arm_at ty a) rest)) (λ a rest. many_read (length rest) (sign_read s (judged (arm_at ty) p)) (a ∷ []) rest))
    arms_is ty (found a rest) =
        written_is ty a (many_read (length rest) (sign_read s p) [] rest)
        ∙ ap (λ r. formed ty (all_judged (arm_at ty) r)) (sym (many_given (length rest) (sign_read s p) (a ∷ []) rest))
        ∙ ap (λ r. formed ty r) (sym (many_judged (arm_at ty) s p (length rest) (a ∷ []) rest))
    arms_is ty absent = refl
    arms_is ty deep = refl

    typed : (x : Read Ty) →
        then_read {A = Ty × List Arm} {B = Form} (then_read {A = Ty} {B = Ty × List Arm} x (λ ty rest. then_read {A = List Arm} {B = Ty × List Arm} (read (reads levels) arms rest) (λ xs last. found (ty, xs) last))) (λ y last. found (phi_of y) last)
        ≡ then_read x (λ ty rest. formed ty (arms_read ty rest))
    typed (found ty rest) = arms_is ty (p rest)
    typed absent = refl
    typed deep = refl

    signed : (x : Read (Unit {0})) →
        then_read {A = Ty × List Arm} {B = Form} (then_read {A = Unit {0}} {B = Ty × List Arm} x (λ u rest. then_read {A = Ty} {B = Ty × List Arm} (reads levels a_type rest) (λ ty rest. then_read {A = List Arm} {B = Ty × List Arm} (read (reads levels) arms rest) (λ xs last. found (ty, xs) last)))) (λ y last. found (phi_of y) last)
        ≡ then_read x (λ u rest. then_read (reads levels a_type rest) (λ ty rest. formed ty (arms_read ty rest)))
    signed (found u rest) = typed (reads levels a_type rest)
    signed absent = refl
    signed deep = refl
