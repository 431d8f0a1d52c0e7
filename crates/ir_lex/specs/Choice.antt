-- The kinds that can begin with a byte, and the token of the longest of some kinds.
use Rattle.std.specs.Prelude.{ℕ, ◌==◌, nat_lt, if◌then◌else◌, List, [], ◌∷◌, slice_index, Option, Some, None, option_map}
use Rattle.std.specs.Char.{is_ascii_digit}
use Rattle.ir_lex.specs.declared.token.Kind.{Kind}
use Rattle.ir_lex.specs.declared.token.Kind.TheVariants.{Word, Label, Global, Local, Comdat, Meta, MetaText, Group, SummaryNumber, HashWord, Number, Float, Quoted, Bytes, Mark, Dots}
use Rattle.ir_lex.specs.declared.choice.Cut.{Cut}
use Rattle.ir_lex.specs.declared.choice.First.{First}
use Rattle.ir_lex.specs.declared.choice.First.TheVariants.{Letter, Minus, Dollar, Dot, Quote, At, Percent, Bang, Hash, Caret, Plus, Other}
use Rattle.ir_lex.specs.Letters.{is_word_start, is_mark}
use Rattle.ir_lex.specs.Lengths.{length_of}

-- what tokens a byte can begin
unfoldable pub first_of : ℕ → First
first_of b =
    if is_word_start b then Letter
    else if is_ascii_digit b then First.Digit
    else if b == 45 then Minus
    else if b == 36 then Dollar
    else if b == 46 then Dot
    else if b == 34 then Quote
    else if b == 64 then At
    else if b == 37 then Percent
    else if b == 33 then Bang
    else if b == 35 then Hash
    else if b == 94 then Caret
    else if b == 43 then Plus
    else if is_mark b then First.Mark
    else Other

-- the kinds, in the order of their rows
abbrev pub candidates : First → List Kind
candidates Letter = Word ∷ Label ∷ Bytes ∷ []
candidates First.Digit = Label ∷ Number ∷ Float ∷ []
candidates Minus = Label ∷ Number ∷ Float ∷ []
candidates Dollar = Label ∷ Comdat ∷ []
candidates Dot = Label ∷ Dots ∷ []
candidates Quote = Label ∷ Quoted ∷ []
candidates At = Global ∷ []
candidates Percent = Local ∷ []
candidates Bang = Meta ∷ MetaText ∷ Mark ∷ []
candidates Hash = Group ∷ HashWord ∷ []
candidates Caret = SummaryNumber ∷ []
candidates Plus = Float ∷ []
candidates First.Mark = Mark ∷ []
candidates Other = []

-- of two cuts the longer, and of two of one length the first
abbrev pub better : Option Cut → Option Cut → Option Cut
better None other = other
better (Some cut) None = Some cut
better (Some cut) (Some other) = if nat_lt cut.len other.len then Some other else Some cut

abbrev pub cut_of : Kind → Option ℕ → Option Cut
cut_of kind len = option_map (λ n. record { kind = kind; len = n }) len

-- the longest token of these kinds
abbrev pub best : List Kind → List ℕ → Option Cut
best [] bytes = None
best (k ∷ []) bytes = cut_of k (length_of k bytes)
best (k ∷ j ∷ ks) bytes = better (cut_of k (length_of k bytes)) (best (j ∷ ks) bytes)

unfoldable pub longest : List ℕ → Option Cut
longest bytes = best (candidates (first_of (slice_index bytes 0))) bytes
