-- The spelling of a row is a line without a cause by its words, and is read as that row.
use Rattle.std.proofs.Common.{◌≡◌, ℕ, suc, ◌+◌, ◌<◌, ◌≤◌, ℤ, pos, negsuc, ◌≤ℤ◌, inl, inr, Bool, true, false, cond, not, ◌&&◌, ◌||◌, eqb, List, [], ◌∷◌, ◌++◌, map, length, Option, Some, refl, sym, ap, subst, ◌∙◌, arith}
use borrow.Author.Differences.{ints}
use Rattle.std.specs.Prelude.{is_none}
use Rattle.std.specs.Char.{is_ascii_digit}
use Rattle.std.specs.Fmt.{decimal}
use Rattle.std.specs.List.{list_any, list_all, count_by, AllByRecursion}
use Rattle.std.proofs.lemmas.Bool.{cases_Bool, and_parts, and_from, le-ltb}
use Rattle.std.proofs.lemmas.Bool.Decides.{nat_tests}
use Rattle.std.proofs.lemmas.List.Folds.{list_all-append}
use Rattle.fol_model.specs.declared.words.Keyword.{Keyword}
use Rattle.fol_model.specs.declared.words.Keyword.TheVariants as keys
use Rattle.fol_model.specs.declared.words.TextKind.{TextKind}
use Rattle.fol_model.specs.declared.words.Field.{Field}
use Rattle.fol_model.specs.declared.words.Field.TheVariants as fields
use Rattle.fol_model.specs.declared.words.Cell.{Cell}
use Rattle.fol_model.specs.declared.words.Cell.TheVariants as cells
use Rattle.fol_model.specs.TextLines.{words, line_of, is_text, is_printable, is_some_word}
use Rattle.fol_model.specs.TextNumbers.{spelled}
use Rattle.fol_model.specs.TextForms.{key_of, key_spelled, cell_spelled, line_form, action_form}
use Rattle.fol_text_laws.specs.FieldLimits.{InLimits}
use Rattle.fol_model.specs.TextCauses.{Row, placed, fills, form_of, or_nothing, is_no_action, is_nested, is_no_number, is_outside, is_post, is_every, key_or, cell_of, first_word, more_words, form_at, placed_in, row_of, wraps}
use Rattle.fol_model.specs.TextRows.{Fits, row_wraps, IsRow, row_line}
use Rattle.fol_text_laws.proofs.FieldLimits.{line_near}
use Rattle.fol_text_laws.proofs.OneSpelling.{key_again, cells_again}
use Rattle.fol_text_laws.proofs.FieldLimits.{after_near}
use Rattle.fol_text_laws.proofs.Numerals.{own}
use Rattle.std.proofs.lemmas.Fmt.{digits_decimal, decimal_nonempty}
use Rattle.fol_text_laws.proofs.OneLine.{Clean}

abbrev is_plain : ℕ → Bool
is_plain b = is_printable b && not (eqb b 32)

-- the words of a line: what stands between its spaces
pub record Plain (w : List ℕ) : Type 0 where
  pub bytes : list_all is_plain w ≡ true
  pub some : is_some_word w ≡ true

not_space : (b : ℕ) → is_plain b ≡ true → eqb b 32 ≡ false
not_space b h = elim (cases_Bool (eqb b 32)) [ inl e ↦ absurd (let k = rw e at (and_parts (is_printable b) (not (eqb b 32)) h).1 in cc) | inr e ↦ e ]

last_word : (w : List ℕ) → list_all is_plain w ≡ true → words w ≡ w ∷ []
last_word [] h = refl
last_word (b ∷ bs) h =
    let p = and_parts (is_plain b) (list_all is_plain bs) h in
    rw (not_space b p.0, last_word bs p.1) refl

next_words : (w rest : List ℕ) → list_all is_plain w ≡ true → words (w ++ 32 ∷ rest) ≡ w ∷ words rest
next_words [] rest h = refl
next_words (b ∷ bs) rest h =
    let p = and_parts (is_plain b) (list_all is_plain bs) h in
    rw (not_space b p.0, next_words bs rest p.1) refl

words_of : (w : List ℕ) (ws : List (List ℕ)) → Plain w → AllByRecursion Plain ws → words (line_of (w ∷ ws)) ≡ w ∷ ws
words_of w [] p ps = last_word w p.bytes
words_of w (v ∷ vs) p ps = next_words w (line_of (v ∷ vs)) p.bytes ∙ ap (λ (l : List (List ℕ)). w ∷ l) (words_of v vs ps.0 ps.1)

printed : (w : List ℕ) → list_all is_plain w ≡ true → list_all is_printable w ≡ true
printed [] h = refl
printed (b ∷ bs) h =
    let p = and_parts (is_plain b) (list_all is_plain bs) h in
    and_from _ _ (and_parts (is_printable b) (not (eqb b 32)) p.0).0 (printed bs p.1)

line_printed : (w : List ℕ) (ws : List (List ℕ)) → Plain w → AllByRecursion Plain ws → list_all is_printable (line_of (w ∷ ws)) ≡ true
line_printed w [] p ps = printed w p.bytes
line_printed w (v ∷ vs) p ps = list_all-append is_printable w (32 ∷ line_of (v ∷ vs)) ∙ and_from _ _ (printed w p.bytes) (line_printed v vs ps.0 ps.1)

all_some : (ws : List (List ℕ)) → AllByRecursion Plain ws → list_all is_some_word ws ≡ true
all_some [] ps = refl
all_some (w ∷ ws) ps = and_from _ _ ps.0.some (all_some ws ps.1)

pub line_is_text : (w : List ℕ) (ws : List (List ℕ)) → Plain w → AllByRecursion Plain ws → is_text (line_of (w ∷ ws)) ≡ true
line_is_text w ws p ps = and_from _ _ (line_printed w ws p ps) (ap (list_all is_some_word) (words_of w ws p ps) ∙ and_from _ _ p.some (all_some ws ps))

key_plain : (key : Keyword) → Plain (key_spelled key)
key_plain keys.World = record { bytes = refl; some = refl }
key_plain keys.Grid = record { bytes = refl; some = refl }
key_plain keys.Block = record { bytes = refl; some = refl }
key_plain keys.Entity = record { bytes = refl; some = refl }
key_plain keys.Load = record { bytes = refl; some = refl }
key_plain keys.Unload = record { bytes = refl; some = refl }
key_plain keys.Post = record { bytes = refl; some = refl }
key_plain keys.Every = record { bytes = refl; some = refl }
key_plain keys.Run = record { bytes = refl; some = refl }
key_plain keys.End = record { bytes = refl; some = refl }
key_plain keys.Set = record { bytes = refl; some = refl }
key_plain keys.Copy = record { bytes = refl; some = refl }
key_plain keys.Send = record { bytes = refl; some = refl }
key_plain keys.Arrive = record { bytes = refl; some = refl }

digit_plain : (c : ℕ) → is_ascii_digit c ≡ true → is_plain c ≡ true
digit_plain c h = grind (arith, nat_tests)

digits_plain : (w : List ℕ) → list_all is_ascii_digit w ≡ true → list_all is_plain w ≡ true
digits_plain [] h = refl
digits_plain (c ∷ cs) h =
    let p = and_parts (is_ascii_digit c) (list_all is_ascii_digit cs) h in
    and_from _ _ (digit_plain c p.0) (digits_plain cs p.1)

some_bytes : (w : List ℕ) → 0 < length w → is_some_word w ≡ true
some_bytes [] h = absurd (omega arith)
some_bytes (b ∷ bs) h = refl

number_plain : (z : ℤ) → negsuc 9999999998 ≤ℤ z → z ≤ℤ pos 9999999999 → Plain (spelled z)
number_plain (pos n) l h = record { bytes = digits_plain (decimal n) (digits_decimal own n (omega (arith, ints))); some = some_bytes (decimal n) (decimal_nonempty n (omega (arith, ints))) }
number_plain (negsuc n) l h = record { bytes = digits_plain (decimal (suc n)) (digits_decimal own (suc n) (omega (arith, ints))); some = refl }

cells_plain : (ps : List Field) (cs : List Cell) → InLimits ps → Fits ps cs → AllByRecursion Plain (map cell_spelled cs)
cells_plain [] [] near f = tt
cells_plain [] (c ∷ cs) near f = absurd f
cells_plain (p ∷ ps) [] near f = tt
cells_plain (fields.Number low high ∷ ps) (cells.Number z ∷ cs) near f = (number_plain z (omega (arith, ints, near.0.0, f.0)) (omega (arith, ints, near.0.2, f.1)), cells_plain ps cs near.1 f.2)
cells_plain (fields.Number low high ∷ ps) (cells.Word key ∷ cs) near f = absurd f
cells_plain (fields.Action ∷ ps) (cells.Number z ∷ cs) near f = absurd f
cells_plain (fields.Action ∷ ps) (cells.Word key ∷ cs) near f = (key_plain key, cells_plain (or_nothing (action_form key)) cs (after_near (Some key)) f.1)

pub row_is_line : (kind : TextKind) (r : Row) → IsRow kind r → Clean kind (row_line r) × (row_of kind (row_line r) ≡ r)
row_is_line kind r is =
    let form = or_nothing (line_form kind r.key) in
    let us = map cell_spelled r.cells in
    let near = line_near kind r.key in
    let ps = cells_plain form r.cells near is.fits in
    let e : words (row_line r) ≡ key_spelled r.key ∷ us = words_of (key_spelled r.key) us (key_plain r.key) ps in
    let first : key_of (first_word (words (row_line r))) ≡ Some r.key = ap (λ (v : List (List ℕ)). key_of (first_word v)) e ∙ key_again r.key in
    let at : form_at kind (row_line r) ≡ line_form kind r.key = ap (form_of (line_form kind)) first in
    let pl : placed_in kind (row_line r) ≡ placed form us = ap (λ (o : Option (List Field)). placed (or_nothing o) (more_words (words (row_line r)))) at ∙ ap (λ (v : List (List ℕ)). placed form (more_words v)) e in
    let reads = cells_again form r.cells near is.fits in
    let count : wraps kind (row_line r) ≡ row_wraps r = ap (λ (o : Option Keyword). cond (is_post o || is_every o) 1 0 + count_by is_nested (placed_in kind (row_line r))) first ∙ ap (λ (n : ℕ). cond (is_post (Some r.key) || is_every (Some r.key)) 1 0 + n) (ap (count_by is_nested) pl ∙ reads.nested) in (
      record {
        text = line_is_text (key_spelled r.key) us (key_plain r.key) ps;
        line_word = ap is_none at ∙ is.is_line_word;
        acts = ap (list_any is_no_action) pl ∙ reads.acts;
        fill = ap (λ (o : Option (List Field)). fills (or_nothing o) (more_words (words (row_line r)))) at ∙ ap (λ (v : List (List ℕ)). fills form (more_words v)) e ∙ reads.fill;
        nest = le-ltb _ _ (subst (λ (n : ℕ). n ≤ 8) (sym count) is.nest);
        numbers = ap (list_any is_no_number) pl ∙ reads.numbers;
        ranges = ap (list_any is_outside) pl ∙ reads.ranges;
      },
      λ i. record { key = (ap key_or first) i; cells = (ap (map cell_of) pl ∙ reads.cells) i },
    )
