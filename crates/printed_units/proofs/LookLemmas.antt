-- The tokens of lines one after another, as they look.
use Rattle.std.proofs.Common.{◌≡◌, ℕ, Bool, true, false, ◌&&◌, ◌||◌, List, [], ◌∷◌, ◌++◌, map, nat_eq, codes, refl, sym, ◌∙◌, ap}
use Rattle.std.specs.List.{list_any}
use Rattle.ir_lex.specs.declared.token.Kind.{Kind}
use Rattle.ir_lex.specs.declared.token.Kind.TheVariants.{Label, Global, Local}
use Rattle.ir_lex.specs.Kinds.{row}
use Rattle.ir_lex.specs.Letters.{is_line_end}
use Rattle.ir_lex.specs.Places.{breaks_line}
use Rattle.unit_grammar.specs.Pieces.{Piece}
use Rattle.unit_grammar.specs.Signs.{Sign, of_kind, mark, words, fits, passes, Start, begins_any, all_apart}
use Rattle.unit_grammar.specs.Beginnings.{one_sign}
use Rattle.unit_grammar.proofs.BoolLemmas.{is_false}
use Rattle.unit_grammar.proofs.SignLaws.{never_both, any_one}
use Rattle.ir_text.proofs.ChoiceLaws.{nothing_begins}
use Rattle.printed_tokens.specs.Atoms.{Atom, blank, a_token}
use Rattle.printed_tokens.specs.Looks.{Look, looks, looks_of, Seen, seen, seen_of}

-- whether a line has ended since the last token of these
abbrev pub behind : Bool → List Atom → Bool
behind broke [] = broke
behind broke (blank bytes ∷ atoms) = behind (broke || list_any is_line_end bytes) atoms
behind broke (a_token kind bytes ∷ atoms) = behind false atoms

pub behind_both : (broke : Bool) (atoms more : List Atom) → behind broke (atoms ++ more) ≡ behind (behind broke atoms) more
behind_both broke [] more = refl
behind_both broke (blank bytes ∷ atoms) more = behind_both (broke || list_any is_line_end bytes) atoms more
behind_both broke (a_token kind bytes ∷ atoms) more = behind_both false atoms more

-- where the last of these tokens ends
abbrev pub end_of : ℕ → List Piece → ℕ
end_of end [] = end
end_of end (t ∷ ts) = end_of t.end ts

abbrev look : ℕ → Piece → Look
look end t = record { kind = t.kind; bytes = t.bytes; first = breaks_line t.source end t.start }

abbrev looking : Bool → Kind → List ℕ → Look
looking broke kind bytes = record { kind = kind; bytes = bytes; first = broke }

cons_of : (x y : Look) (xs ys : List Look) → x ≡ y → xs ≡ ys → x ∷ xs ≡ y ∷ ys
cons_of x y xs ys e f = rw (e, f) refl

-- the tokens of two lists of atoms are those of the first and those of the second
pub record Halves (end : ℕ) (broke : Bool) (atoms more : List Atom) (ts : List Piece) : Type 0 where
  pub front : List Piece
  pub back : List Piece
  pub splits : ts ≡ front ++ back
  pub first : looks end front ≡ looks_of broke atoms
  pub second : looks (end_of end front) back ≡ looks_of (behind broke atoms) more

one_more : {end : ℕ} {broke : Bool} {kind : Kind} {bytes : List ℕ} {atoms more : List Atom} {ts : List Piece} (t : Piece) →
    Halves t.end false atoms more ts → look end t ≡ looking broke kind bytes → Halves end broke (a_token kind bytes ∷ atoms) more (t ∷ ts)
one_more {end} {broke} {kind} {bytes} {atoms} t h heads = record {
  front = t ∷ h.front;
  back = h.back;
  splits = ap (λ z. t ∷ z) h.splits;
  first = cons_of (look end t) (looking broke kind bytes) (looks t.end h.front) (looks_of false atoms) heads h.first;
  second = h.second;
}

pub halved : (end : ℕ) (broke : Bool) (atoms more : List Atom) (ts : List Piece) → looks end ts ≡ looks_of broke (atoms ++ more) →
    Halves end broke atoms more ts
halved end broke [] more ts e = record { front = []; back = ts; splits = refl; first = refl; second = e }
halved end broke (blank bytes ∷ atoms) more ts e =
    let h = halved end (broke || list_any is_line_end bytes) atoms more ts e in
    record { front = h.front; back = h.back; splits = h.splits; first = h.first; second = h.second }
halved end broke (a_token kind bytes ∷ atoms) more [] e = absurd cc
halved end broke (a_token kind bytes ∷ atoms) more (t ∷ ts) e =
    let heads : look end t ≡ looking broke kind bytes = cc in
    let tails : looks t.end ts ≡ looks_of false (atoms ++ more) = cc in
    one_more t (halved t.end false atoms more ts tails) heads

-- kind and bytes alone
abbrev unlooked : List Look → List Seen
unlooked [] = []
unlooked (l ∷ ls) = record { kind = l.kind; bytes = l.bytes } ∷ unlooked ls

unlooked_pieces : (end : ℕ) (ts : List Piece) → unlooked (looks end ts) ≡ seen ts
unlooked_pieces end [] = refl
unlooked_pieces end (t ∷ ts) = ap (λ (z : List Seen). record { kind = t.kind; bytes = t.bytes } ∷ z) (unlooked_pieces t.end ts)

unlooked_atoms : (broke : Bool) (atoms : List Atom) → unlooked (looks_of broke atoms) ≡ seen_of atoms
unlooked_atoms broke [] = refl
unlooked_atoms broke (blank bytes ∷ atoms) = unlooked_atoms (broke || list_any is_line_end bytes) atoms
unlooked_atoms broke (a_token kind bytes ∷ atoms) =
    ap (λ (z : List Seen). record { kind = kind; bytes = bytes } ∷ z) (unlooked_atoms false atoms)

pub seen_line : (end : ℕ) (broke : Bool) (ts : List Piece) (atoms : List Atom) → looks end ts ≡ looks_of broke atoms →
    seen ts ≡ seen_of atoms
seen_line end broke ts atoms e = sym (unlooked_pieces end ts) ∙ ap unlooked e ∙ unlooked_atoms broke atoms

-- one of these signs passes a token of this kind with these bytes
abbrev is_one : List Sign → Kind → List ℕ → Bool
is_one signs kind bytes = list_any (λ s. nat_eq (row kind) (row s.kind) && fits s.which bytes) signs

-- the first token of these passes one of the signs
abbrev pub BeginsAs : List Sign → List Atom → Type 0
BeginsAs signs [] = ⊥
BeginsAs signs (blank bytes ∷ atoms) = BeginsAs signs atoms
BeginsAs signs (a_token kind bytes ∷ atoms) = is_one signs kind bytes ≡ true

-- these tokens end here, or the first of them passes one of the signs and stands first on its line
abbrev pub Follows : List Sign → ℕ → List Piece → Type 0
Follows signs end [] = Unit {0}
Follows signs end (t ∷ ts) = (list_any (λ s. passes s t) signs ≡ true) × (breaks_line t.source end t.start ≡ true)

pub follows : (signs : List Sign) (atoms more : List Atom) (end : ℕ) (ts : List Piece) → BeginsAs signs atoms →
    looks end ts ≡ looks_of true (atoms ++ more) → Follows signs end ts
follows signs [] more end ts is e = absurd is
follows signs (blank bytes ∷ atoms) more end ts is e = follows signs atoms more end ts is e
follows signs (a_token kind bytes ∷ atoms) more end [] is e = absurd cc
follows signs (a_token kind bytes ∷ atoms) more end (t ∷ ts) is e =
    let heads : look end t ≡ looking true kind bytes = cc in
    (ap (λ (l : Look). is_one signs l.kind l.bytes) heads ∙ is, ap (λ (l : Look). l.first) heads)

-- what is apart from the signs doesn't begin there
pub none_follows : (signs : List Sign) (M : List Start) (end : ℕ) (rest : List Piece) → all_apart (map one_sign signs) M ≡ true →
    Follows signs end rest → begins_any M rest ≡ false
none_follows signs M end [] apart h = is_false _ (λ e. nothing_begins M e)
none_follows signs M end (t ∷ ts) apart h = never_both (map one_sign signs) M (t ∷ ts) apart (any_one signs t ts ∙ h.0)

-- with what the lines of a module begin
abbrev line_words : List (List ℕ)
line_words =
    codes "store" ∷ codes "call" ∷ codes "br" ∷ codes "switch" ∷ codes "ret" ∷ codes "unreachable" ∷ codes "jumptable" ∷
    codes "declare" ∷ codes "define" ∷ []

-- with what the line behind a block begins
abbrev pub end_signs : List Sign
end_signs = of_kind Label ∷ mark (codes "}") ∷ []

abbrev pub line_signs : List Sign
line_signs = of_kind Local ∷ of_kind Global ∷ words line_words ∷ end_signs
