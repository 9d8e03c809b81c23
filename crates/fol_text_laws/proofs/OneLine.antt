-- A line without a cause by its words alone is the spelling of its row, and the spelling of a row is such a line.
use Rattle.std.proofs.Common.{◌≡◌, ℕ, ◌+◌, ◌≤◌, inl, inr, Bool, true, false, cond, not, ◌||◌, eqb, List, [], ◌∷◌, map, Option, Some, None, refl, sym, ap, subst, ◌∙◌}
use Rattle.std.specs.Prelude.{is_none, nat_lt}
use Rattle.std.specs.List.{list_any, count_by, onto_first}
use Rattle.std.proofs.lemmas.Bool.{cases_Bool, or_parts, ltb-false}
use Rattle.std.proofs.lemmas.List.Splits.{join_with_byte-slice_split}
use Rattle.fol_model.specs.declared.words.Keyword.{Keyword}
use Rattle.fol_model.specs.declared.words.TextKind.{TextKind}
use Rattle.fol_model.specs.declared.words.Field.{Field}
use Rattle.fol_model.specs.declared.words.Field.TheVariants as fields
use Rattle.fol_model.specs.declared.causes.Cause.{Cause}
use Rattle.fol_model.specs.declared.causes.Cause.TheVariants as causes
use Rattle.fol_model.specs.TextLines.{words, line_of, is_text}
use Rattle.fol_model.specs.TextForms.{key_of, cell_spelled, line_form}
use Rattle.fol_text_laws.specs.FieldLimits.{InLimits}
use Rattle.fol_model.specs.TextCauses.{fills, form_of, or_nothing, is_no_action, is_nested, is_no_number, is_outside, is_post, is_every, key_or, cell_of, first_word, more_words, form_at, placed_in, row_of, wraps, first_cause, spelling_cause, form_cause}
use Rattle.fol_model.specs.TextRows.{Fits, is_post_cell, row_wraps, IsRow, row_words, row_line}
use Rattle.fol_text_laws.proofs.FieldLimits.{line_near}
use Rattle.fol_text_laws.proofs.OneSpelling.{key_is, key_found, cells_spelled, cells_fit, same_count}

-- ---- causes

pub two_none : (a b : Bool) (i j : Cause) → first_cause ((a, i) ∷ (b, j) ∷ []) ≡ None → (a ≡ false) × (b ≡ false)
two_none true b i j e = absurd cc
two_none false true i j e = absurd cc
two_none false false i j e = (refl, refl)

four_none : (a b c d : Bool) (i j k m : Cause) → first_cause ((a, i) ∷ (b, j) ∷ (c, k) ∷ (d, m) ∷ []) ≡ None → (a ≡ false) × (b ≡ false) × (c ≡ false) × (d ≡ false)
four_none true b c d i j k m e = absurd cc
four_none false true c d i j k m e = absurd cc
four_none false false true d i j k m e = absurd cc
four_none false false false true i j k m e = absurd cc
four_none false false false false i j k m e = (refl, refl, refl, refl)

not_false : (b : Bool) → not b ≡ false → b ≡ true
not_false true e = refl
not_false false e = absurd cc

-- ---- words

onto_some : (b : ℕ) (ws : List (List ℕ)) → onto_first b ws ≡ first_word (onto_first b ws) ∷ more_words (onto_first b ws)
onto_some b [] = refl
onto_some b (w ∷ ws) = refl

words_some : (l : List ℕ) → words l ≡ first_word (words l) ∷ more_words (words l)
words_some [] = refl
words_some (b ∷ bs) = elim (cases_Bool (eqb b 32)) [ inl e ↦ rw e refl | inr e ↦ rw e (onto_some b (words bs)) ]

nested_cells : (pl : List (Field × List ℕ)) → list_any is_no_action pl ≡ false → count_by is_nested pl ≡ count_by is_post_cell (map cell_of pl)
nested_cells [] e = refl
nested_cells ((fields.Number low high, w) ∷ pl) e = same_count (fields.Number low high) w pl (cell_of (fields.Number low high, w)) (map cell_of pl) refl (nested_cells pl e)
nested_cells ((fields.Action, w) ∷ pl) e =
    let p = or_parts _ _ e in
    same_count fields.Action w pl (cell_of (fields.Action, w)) (map cell_of pl) (ap is_post (key_found (key_of w) p.0)) (nested_cells pl p.1)

key_in : (f : Keyword → Option (List Field)) (o : Option Keyword) → is_none (form_of f o) ≡ false → o ≡ Some (key_or o)
key_in f None e = absurd cc
key_in f (Some key) e = refl

-- where the spelling and the form have no cause
pub record Clean (kind : TextKind) (l : List ℕ) : Type 0 where
  pub text : is_text l ≡ true
  pub line_word : is_none (form_at kind l) ≡ false
  pub acts : list_any is_no_action (placed_in kind l) ≡ false
  pub fill : fills (or_nothing (form_at kind l)) (more_words (words l)) ≡ true
  pub nest : nat_lt 8 (wraps kind l) ≡ false
  pub numbers : list_any is_no_number (placed_in kind l) ≡ false
  pub ranges : list_any is_outside (placed_in kind l) ≡ false

pub clean : (kind : TextKind) (l : List ℕ) → spelling_cause kind l ≡ None → form_cause kind l ≡ None → Clean kind l
clean kind l s f =
    let s2 = two_none (not (is_text l)) (is_none (form_at kind l) || list_any is_no_action (placed_in kind l)) causes.Text causes.Word s in
    let w = or_parts (is_none (form_at kind l)) (list_any is_no_action (placed_in kind l)) s2.1 in
    let f4 = four_none (not (fills (or_nothing (form_at kind l)) (more_words (words l)))) (nat_lt 8 (wraps kind l)) (list_any is_no_number (placed_in kind l)) (list_any is_outside (placed_in kind l)) causes.Count causes.Nest causes.Number causes.Range f in
    record { text = not_false _ s2.0; line_word = w.0; acts = w.1; fill = not_false _ f4.0; nest = f4.1; numbers = f4.2; ranges = f4.3 }

pub line_is_row : (kind : TextKind) (l : List ℕ) → Clean kind l → IsRow kind (row_of kind l) × (row_line (row_of kind l) ≡ l)
line_is_row kind l c =
    let w = first_word (words l) in
    let key = key_or (key_of w) in
    let k : key_of w ≡ Some key = key_in (line_form kind) (key_of w) c.line_word in
    let form : form_at kind l ≡ line_form kind key = ap (form_of (line_form kind)) k in
    let near : InLimits (or_nothing (form_at kind l)) = subst (λ (o : Option (List Field)). InLimits (or_nothing o)) (sym form) (line_near kind key) in
    let spelled = cells_spelled (or_nothing (form_at kind l)) (more_words (words l)) near c.fill c.acts c.numbers c.ranges in
    let fit = cells_fit (or_nothing (form_at kind l)) (more_words (words l)) near c.fill c.acts c.numbers c.ranges in
    let all : row_words (row_of kind l) ≡ words l = ap (λ (x : List ℕ). x ∷ map cell_spelled (map cell_of (placed_in kind l))) (sym (key_is w key k)) ∙ ap (λ (ws : List (List ℕ)). w ∷ ws) spelled ∙ sym (words_some l) in
    let count : wraps kind l ≡ row_wraps (row_of kind l) = ap (λ (o : Option Keyword). cond (is_post o || is_every o) 1 0 + count_by is_nested (placed_in kind l)) k ∙ ap (λ (n : ℕ). cond (is_post (Some key) || is_every (Some key)) 1 0 + n) (nested_cells (placed_in kind l) c.acts) in (
      record {
        is_line_word = subst (λ (o : Option (List Field)). is_none o ≡ false) form c.line_word;
        fits = subst (λ (o : Option (List Field)). Fits (or_nothing o) (map cell_of (placed_in kind l))) form fit;
        nest = subst (λ (n : ℕ). n ≤ 8) count (ltb-false _ _ c.nest);
      },
      ap line_of all ∙ join_with_byte-slice_split 32 l,
    )

pub line_word_of : (kind : TextKind) (l : List ℕ) → spelling_cause kind l ≡ None → is_none (line_form kind (row_of kind l).key) ≡ false
line_word_of kind l s =
    let s2 = two_none (not (is_text l)) (is_none (form_at kind l) || list_any is_no_action (placed_in kind l)) causes.Text causes.Word s in
    let w = (or_parts (is_none (form_at kind l)) (list_any is_no_action (placed_in kind l)) s2.1).0 in
    let k = key_in (line_form kind) (key_of (first_word (words l))) w in
    subst (λ (o : Option Keyword). is_none (form_of (line_form kind) o) ≡ false) k w
