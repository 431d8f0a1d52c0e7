-- A token has bytes, and they lie in the text.
use Rattle.std.proofs.Common.{◌≡◌, ℕ, zero, suc, ◌-◌, ◌<◌, ◌≤◌, Bool, inl, inr, List, [], ◌∷◌, ◌++◌, length, take, drop, refl, sym, subst, arith, length-append, length-drop, length-take}
use Rattle.ir_lex.specs.declared.token.Kind.{Kind}
use Rattle.ir_lex.specs.declared.token.Kind.TheVariants.{Word, Label, Global, Local, Comdat, Meta, MetaText, Group, SummaryNumber, HashWord, Number, Float, Quoted, Bytes, Mark, Dots}
use Rattle.ir_lex.specs.declared.token.Token.{Token}
use Rattle.ir_lex.specs.Languages.{IsOne, IsThen, IsRun}
use Rattle.ir_lex.specs.Kinds.{Is}
use Rattle.ir_lex.specs.Texts.{IsNext, TokensThen}

one_some : (p : ℕ → Bool) (bytes : List ℕ) → IsOne p bytes → 0 < length bytes
one_some p [] is = absurd is
one_some p (b ∷ bytes) is = omega arith

first_some : (P Q : List ℕ → Type 0) (bytes : List ℕ) → ((front : List ℕ) → P front → 0 < length front) → IsThen P Q bytes → 0 < length bytes
first_some P Q bytes some is =
    let first = some is.front is.first in
    subst (λ (z : List ℕ). 0 < length z) (sym is.joined) (simp length-append (omega arith))

second_some : (P Q : List ℕ → Type 0) (bytes : List ℕ) → ((back : List ℕ) → Q back → 0 < length back) → IsThen P Q bytes → 0 < length bytes
second_some P Q bytes some is =
    let second = some is.back is.second in
    subst (λ (z : List ℕ). 0 < length z) (sym is.joined) (simp length-append (omega arith))

run_some : (p q : ℕ → Bool) (bytes : List ℕ) → IsRun p q bytes → 0 < length bytes
run_some p q bytes is = first_some _ _ bytes (one_some p) is

pub token_some : (k : Kind) (bytes : List ℕ) → Is k bytes → 0 < length bytes
token_some Word bytes is = run_some _ _ bytes is
token_some Label bytes is = second_some _ _ bytes (one_some _) is
token_some Global bytes is = first_some _ _ bytes (one_some _) is
token_some Local bytes is = first_some _ _ bytes (one_some _) is
token_some Comdat bytes is = first_some _ _ bytes (one_some _) is
token_some Meta bytes is = first_some _ _ bytes (one_some _) is
token_some MetaText bytes is = first_some _ _ bytes (one_some _) is
token_some Group bytes is = first_some _ _ bytes (one_some _) is
token_some SummaryNumber bytes is = first_some _ _ bytes (one_some _) is
token_some HashWord bytes is = first_some _ _ bytes (one_some _) is
token_some Number bytes is = second_some _ _ bytes (run_some _ _) is
token_some Float bytes (inl is) = second_some _ _ bytes (λ back is. first_some _ _ back (run_some _ _) is) is
token_some Float bytes (inr is) = first_some _ _ bytes (one_some _) is
token_some Quoted bytes is = first_some _ _ bytes (one_some _) is
token_some Bytes bytes is = first_some _ _ bytes (one_some _) is
token_some Mark bytes is = one_some _ bytes is
token_some Dots bytes is = first_some _ _ bytes (one_some _) is

-- where a token stands
pub record Stands (text : List ℕ) (at : ℕ) (t : Token) : Type 0 where
  pub moves : at < t.end
  pub order : t.start ≤ t.end
  pub ends : t.end ≤ length text

pub next_stands : (file : ℕ) (text : List ℕ) (at : ℕ) (t : Token) → IsNext file text at t → Stands text at t
next_stands file text at t h =
    let some : 0 < length (take (t.end - t.start) (drop t.start text)) = token_some t.kind _ h.begins.is in
    let within : t.end - t.start ≤ length text - t.start = subst (λ (z : ℕ). t.end - t.start ≤ z) (length-drop t.start text) h.begins.within in
    let behind = h.behind in
    let len = length-take (t.end - t.start) (drop t.start text) in
    let most : 0 < t.end - t.start = omega arith in
    record { moves = omega arith; order = omega arith; ends = omega arith }

-- one more token behind those that were given
pub tokens_more : (file : ℕ) (text : List ℕ) (from at : ℕ) (ts : List Token) (t : Token) →
    TokensThen (λ a. a ≡ at) file text from ts → IsNext file text at t → TokensThen (λ a. a ≡ t.end) file text from (ts ++ t ∷ [])
tokens_more file text from at [] t e next = (subst (λ (z : ℕ). IsNext file text z t) (sym e) next, refl)
tokens_more file text from at (s ∷ ts) t (first, more) next = (first, tokens_more file text s.end at ts t more next)

pub tokens_last : (Last : ℕ → Type 0) (file : ℕ) (text : List ℕ) (from at : ℕ) (ts : List Token) →
    TokensThen (λ a. a ≡ at) file text from ts → Last at → TokensThen Last file text from ts
tokens_last Last file text from at [] e last = subst Last (sym e) last
tokens_last Last file text from at (t ∷ ts) (first, more) last = (first, tokens_last Last file text t.end at ts more last)
