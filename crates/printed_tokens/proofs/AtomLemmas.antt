-- Atoms put behind one another, and what they are printed as.
use Rattle.std.proofs.Common.{◌≡◌, ℕ, Bool, true, false, not, ◌&&◌, ◌==◌, List, [], ◌∷◌, ◌++◌, codes, refl, ap, ap₂, ◌∙◌}
use Rattle.std.specs.List.{list_all}
use Rattle.std.proofs.lemmas.Grind.{flat_map-append}
use Rattle.std.proofs.lemmas.List.Folds.{list_any-append}
use Rattle.ir_lex.specs.declared.token.Kind.{Kind}
use Rattle.ir_lex.specs.declared.token.Kind.TheVariants.{Word, Mark}
use Rattle.ir_lex.specs.Letters.{is_of, is_word_start, is_word_byte}
use Rattle.unit_grammar.proofs.BoolLemmas.{and_both, or_first, or_second}
use Rattle.printed_tokens.specs.Atoms.{Atom, blank, a_token, bytes_of, rendered, is_mark, is_loose, IsToken, IsBlank, AreSeparated}
use Rattle.printed_tokens.specs.Looks.{seen_of}

-- nothing, or a blank or a mark first
abbrev pub separates : List Atom → Bool
separates [] = true
separates (blank bytes ∷ atoms) = true
separates (a_token kind bytes ∷ atoms) = is_mark kind

pub rendered_append : (xs ys : List Atom) → rendered (xs ++ ys) ≡ rendered xs ++ rendered ys
rendered_append xs ys = flat_map-append bytes_of xs ys

pub seen_of_append : (xs ys : List Atom) → seen_of (xs ++ ys) ≡ seen_of xs ++ seen_of ys
seen_of_append [] ys = refl
seen_of_append (blank bytes ∷ xs) ys = seen_of_append xs ys
seen_of_append (a_token kind bytes ∷ xs) ys = ap (λ rest. record { kind = kind; bytes = bytes } ∷ rest) (seen_of_append xs ys)

-- what a blank or a mark begins may stand behind any token
separated_loose : (ys : List Atom) → separates ys ≡ true → AreSeparated false ys → (loose : Bool) → AreSeparated loose ys
separated_loose [] separate separated loose = separated
separated_loose (blank bytes ∷ ys) separate separated loose = separated
separated_loose (a_token kind bytes ∷ ys) separate separated loose = (separated.0, or_second (not loose) (is_mark kind) separate, separated.2)

separated_append : (loose : Bool) (xs ys : List Atom) → AreSeparated loose xs → separates ys ≡ true → AreSeparated false ys → AreSeparated loose (xs ++ ys)
separated_append loose [] ys separated separate then = separated_loose ys separate then loose
separated_append loose (blank bytes ∷ xs) ys separated separate then = (separated.0, separated_append false xs ys separated.1 separate then)
separated_append loose (a_token kind bytes ∷ xs) ys separated separate then =
    (separated.0, separated.1, separated_append (is_loose kind) xs ys separated.2 separate then)

-- the atoms are printed as this text, and may be told apart again
pub record Prints (atoms : List Atom) (text : List ℕ) : Type 0 where
  pub renders : rendered atoms ≡ text
  pub separated : AreSeparated false atoms

pub prints_as : {atoms : List Atom} {text other : List ℕ} → text ≡ other → Prints atoms text → Prints atoms other
prints_as same prints = record { renders = prints.renders ∙ same; separated = prints.separated }

pub prints_none : Prints [] []
prints_none = record { renders = refl; separated = tt }

pub prints_append : {xs ys : List Atom} {a b : List ℕ} → Prints xs a → Prints ys b → separates ys ≡ true → Prints (xs ++ ys) (a ++ b)
prints_append {xs} {ys} first second separate = record {
  renders = rendered_append xs ys ∙ ap₂ (λ c d. c ++ d) first.renders second.renders;
  separated = separated_append false xs ys first.separated separate second.separated;
}

pub prints_blank : {bytes text : List ℕ} {atoms : List Atom} → IsBlank bytes → Prints atoms text → Prints (blank bytes ∷ atoms) (bytes ++ text)
prints_blank {bytes} is prints = record { renders = ap (λ rest. bytes ++ rest) prints.renders; separated = (is, prints.separated) }

-- a token before a blank, a mark or the end
pub prints_token : {kind : Kind} {bytes text : List ℕ} {atoms : List Atom} → IsToken kind bytes → separates atoms ≡ true → Prints atoms text
    → Prints (a_token kind bytes ∷ atoms) (bytes ++ text)
prints_token {kind} {bytes} {atoms = atoms} is separate prints = record {
  renders = ap (λ rest. bytes ++ rest) prints.renders;
  separated = (is, refl, separated_loose atoms separate prints.separated (is_loose kind));
}

-- a mark or a label before anything
pub prints_firm : {kind : Kind} {bytes text : List ℕ} {atoms : List Atom} → IsToken kind bytes → is_loose kind ≡ false → Prints atoms text
    → Prints (a_token kind bytes ∷ atoms) (bytes ++ text)
prints_firm {kind} {bytes} {atoms = atoms} is firm prints = record {
  renders = ap (λ rest. bytes ++ rest) prints.renders;
  separated = (is, refl, rw firm prints.separated);
}

pub prints_space : {text : List ℕ} {atoms : List Atom} → Prints atoms text → Prints (blank (32 ∷ []) ∷ atoms) (32 ∷ text)
prints_space prints = prints_blank (record { some = refl; are = refl }) prints

pub prints_one : {kind : Kind} {bytes : List ℕ} → IsToken kind bytes → Prints (a_token kind bytes ∷ []) (bytes ++ [])
prints_one is = prints_token is refl prints_none

-- a word that is written out
abbrev pub is_word : List ℕ → Bool
is_word [] = false
is_word (b ∷ bytes) = is_word_start b && list_all is_word_byte bytes

pub word_token : (bytes : List ℕ) → is_word bytes ≡ true → IsToken Word bytes
word_token [] e = absurd cc
word_token (b ∷ bytes) e =
    let both = and_both (is_word_start b) (list_all is_word_byte bytes) e in
    record {
      printed = refl;
      is = record { front = b ∷ []; back = bytes; first = both.0; second = both.1; joined = refl };
      plain = refl;
    }

pub prints_word : {text : List ℕ} {atoms : List Atom} (bytes : List ℕ) → is_word bytes ≡ true → separates atoms ≡ true → Prints atoms text
    → Prints (a_token Word bytes ∷ atoms) (bytes ++ text)
prints_word bytes e separate prints = prints_token (word_token bytes e) separate prints

-- a mark that is written out
mark_token : (b : ℕ) → is_of (codes "=,(){}[]<>*") b ≡ true → IsToken Mark (b ∷ [])
mark_token b e = record {
  printed = refl;
  is = list_any-append (λ c. b == c) (codes "=,(){}[]<>*") (codes "!:") ∙ or_first (is_of (codes "=,(){}[]<>*") b) (is_of (codes "!:") b) e;
  plain = rw e refl;
}

pub prints_mark : {text : List ℕ} {atoms : List Atom} (b : ℕ) → is_of (codes "=,(){}[]<>*") b ≡ true → Prints atoms text
    → Prints (a_token Mark (b ∷ []) ∷ atoms) (b ∷ text)
prints_mark b e prints = prints_firm (mark_token b e) refl prints
