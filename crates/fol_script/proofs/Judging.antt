-- What the reader of a line finds is what the definitions say of the line.
use Rattle.std.proofs.Common.{◌≡◌, ℕ, ◌+◌, ◌≤◌, subst, inl, inr, Bool, true, false, cond, not, ◌&&◌, ◌||◌, eqb, List, [], ◌∷◌, map, Option, Some, None, refl, sym, ap, ◌∙◌}
use Rattle.std.specs.Prelude.{is_none, nat_lt}
use Rattle.std.specs.List.{list_any, list_all, count_by, onto_first}
use Rattle.std.proofs.lemmas.Bool.{cases_Bool, or_parts, ltb-false}
use Rattle.std.proofs.lemmas.List.Splits.{join_with_byte-slice_split}
use Rattle.fol_model.specs.declared.words.Keyword.{Keyword}
use Rattle.fol_model.specs.declared.words.TextKind.{TextKind}
use Rattle.fol_model.specs.declared.words.Field.{Field}
use Rattle.fol_model.specs.declared.words.Field.TheVariants as fields
use Rattle.fol_model.specs.declared.words.Cell.{Cell}
use Rattle.fol_model.specs.TextRows.{Fits, is_post_cell, IsRow, row_words, row_line}
use Rattle.fol_text_laws.specs.FieldLimits.{InLimits}
use Rattle.fol_text_laws.proofs.FieldLimits.{line_near}
use Rattle.fol_text_laws.proofs.OneSpelling.{key_is, key_found, cells_spelled, cells_fit, same_count}
use Rattle.fol_text_laws.proofs.Again.{row_is_line}
use Rattle.fol_model.specs.declared.causes.Cause.{Cause}
use Rattle.fol_model.specs.declared.causes.Cause.TheVariants as causes
use Rattle.fol_script.specs.declared.cells.Marks.{Marks}
use Rattle.fol_script.specs.declared.judge.Judged.TheVariants.{Words}
use Rattle.fol_model.specs.TextLines.{words, line_of, is_text, is_printable, is_some_word}
use Rattle.fol_model.specs.TextForms.{key_of, key_spelled, line_form}
use Rattle.fol_script.specs.Marks.{Tells}
use Rattle.fol_script.specs.Judged.{is_tidy, faults, Judges, IsFaultless}
use Rattle.fol_model.specs.TextCauses.{Row, placed, fills, form_of, or_nothing, is_no_action, is_nested, is_no_number, is_outside, is_post, is_every, key_or, cell_of, first_word, more_words, form_at, placed_in, wraps, first_cause, spelling_cause}

tidy_more : (b : ℕ) (bs : List ℕ) (ws : List (List ℕ)) → is_tidy false bs ≡ list_all is_some_word (more_words ws) → (is_tidy false bs ≡ list_all is_some_word (onto_first b ws)) × (is_tidy false bs ≡ list_all is_some_word (more_words (onto_first b ws)))
tidy_more b bs [] e = (e, e)
tidy_more b bs (w ∷ ws) e = (e, e)

pub tidy_words : (l : List ℕ) → (is_tidy true l ≡ list_all is_some_word (words l)) × (is_tidy false l ≡ list_all is_some_word (more_words (words l)))
tidy_words [] = (refl, refl)
tidy_words (b ∷ bs) = elim (cases_Bool (eqb b 32)) [
  | inl e ↦ rw e (refl, (tidy_words bs).0)
  | inr e ↦ rw e (tidy_more b bs (words bs) (tidy_words bs).1)
]

pub text_is : (l : List ℕ) → (list_all is_printable l && is_tidy true l) ≡ is_text l
text_is l = ap (λ (b : Bool). list_all is_printable l && b) (tidy_words l).0

pub no_text : (kind : TextKind) (l : List ℕ) → is_text l ≡ false → spelling_cause kind l ≡ Some causes.Text
no_text kind l e = rw e refl

form_is : (kind : TextKind) (l w : List ℕ) (ws : List (List ℕ)) → words l ≡ w ∷ ws → form_at kind l ≡ form_of (line_form kind) (key_of w)
form_is kind l w ws e = ap (λ (v : List (List ℕ)). form_of (line_form kind) (key_of (first_word v))) e

placed_is : (kind : TextKind) (l w : List ℕ) (ws : List (List ℕ)) (form : List Field) → words l ≡ w ∷ ws → form_of (line_form kind) (key_of w) ≡ Some form → placed_in kind l ≡ placed form ws
placed_is kind l w ws form e f = ap (λ (v : List (List ℕ)). placed (or_nothing (form_of (line_form kind) (key_of (first_word v)))) (more_words v)) e ∙ ap (λ (o : Option (List Field)). placed (or_nothing o) ws) f

word_cause : (t b c : Bool) → t ≡ true → (b || c) ≡ true → first_cause ((not t, causes.Text) ∷ (b || c, causes.Word) ∷ []) ≡ Some causes.Word
word_cause t b c e f = rw (e, f) refl

no_cause : (t b c : Bool) → t ≡ true → b ≡ false → c ≡ false → first_cause ((not t, causes.Text) ∷ (b || c, causes.Word) ∷ []) ≡ None
no_cause t b c e f g = rw (e, f, g) refl

or_true : (b : Bool) → (b || true) ≡ true
or_true true = refl
or_true false = refl

pub no_line_word : (kind : TextKind) (l w : List ℕ) (ws : List (List ℕ)) → is_text l ≡ true → words l ≡ w ∷ ws → form_of (line_form kind) (key_of w) ≡ None → spelling_cause kind l ≡ Some causes.Word
no_line_word kind l w ws t e f =
    let n : is_none (form_at kind l) ≡ true = ap is_none (form_is kind l w ws e ∙ f) in
    word_cause (is_text l) (is_none (form_at kind l)) (list_any is_no_action (placed_in kind l)) t (ap (λ (b : Bool). b || list_any is_no_action (placed_in kind l)) n)

pub no_action_word : (kind : TextKind) (l w : List ℕ) (ws : List (List ℕ)) (form : List Field) (m : Marks) (old new : List Cell) → is_text l ≡ true → words l ≡ w ∷ ws → form_of (line_form kind) (key_of w) ≡ Some form
    → Tells form ws old new m → m.no_action ≡ true → spelling_cause kind l ≡ Some causes.Word
no_action_word kind l w ws form m old new t e f tells marked =
    let a : list_any is_no_action (placed_in kind l) ≡ true = ap (list_any is_no_action) (placed_is kind l w ws form e f) ∙ sym tells.no_action ∙ marked in
    word_cause (is_text l) (is_none (form_at kind l)) (list_any is_no_action (placed_in kind l)) t (ap (λ (b : Bool). is_none (form_at kind l) || b) a ∙ or_true (is_none (form_at kind l)))

same_faults : (a b c d e f g h : Bool) → a ≡ e → b ≡ f → c ≡ g → d ≡ h → first_cause ((a, causes.Count) ∷ (b, causes.Nest) ∷ (c, causes.Number) ∷ (d, causes.Range) ∷ []) ≡ first_cause ((e, causes.Count) ∷ (f, causes.Nest) ∷ (g, causes.Number) ∷ (h, causes.Range) ∷ [])
same_faults a b c d e f g h p q r s = rw (p, q, r, s) refl

pub good_words : (kind : TextKind) (l w : List ℕ) (ws : List (List ℕ)) (form : List Field) (key : Keyword) (m : Marks) (new : List Cell) (fault : Option Cause) → is_text l ≡ true → words l ≡ w ∷ ws → key_of w ≡ Some key → form_of (line_form kind) (key_of w) ≡ Some form
    → Tells form ws [] new m → m.no_action ≡ false → fault ≡ first_cause (faults key m) → Judges kind l new (Words key fault)
good_words kind l w ws form key m new fault t e k f tells acted why =
    let pl = placed_is kind l w ws form e f in
    let fo : form_at kind l ≡ Some form = form_is kind l w ws e ∙ f in
    let first : key_of (first_word (words l)) ≡ Some key = ap (λ (v : List (List ℕ)). key_of (first_word v)) e ∙ k in
    let acts : list_any is_no_action (placed_in kind l) ≡ false = ap (list_any is_no_action) pl ∙ sym tells.no_action ∙ acted in
    let a : m.unfilled ≡ not (fills (or_nothing (form_at kind l)) (more_words (words l))) =
    tells.unfilled acted ∙ sym (ap (λ (o : Option (List Field)). not (fills (or_nothing o) (more_words (words l)))) fo ∙ ap (λ (v : List (List ℕ)). not (fills form (more_words v))) e) in
    let b : nat_lt 8 (cond (is_post (Some key) || is_every (Some key)) 1 0 + m.nested) ≡ nat_lt 8 (wraps kind l) =
    sym (ap (λ (o : Option Keyword). nat_lt 8 (cond (is_post o || is_every o) 1 0 + count_by is_nested (placed_in kind l))) first
    ∙ ap (λ (n : ℕ). nat_lt 8 (cond (is_post (Some key) || is_every (Some key)) 1 0 + n)) (ap (count_by is_nested) pl ∙ sym (tells.nested acted))) in
    let c : m.no_number ≡ list_any is_no_number (placed_in kind l) = tells.no_number acted ∙ sym (ap (list_any is_no_number) pl) in
    let d : m.outside ≡ list_any is_outside (placed_in kind l) = tells.outside acted ∙ sym (ap (list_any is_outside) pl) in (
      no_cause (is_text l) (is_none (form_at kind l)) (list_any is_no_action (placed_in kind l)) t (ap is_none fo) acts,
      sym (ap key_or first),
      why ∙ same_faults m.unfilled _ m.no_number m.outside _ _ _ _ a b c d,
      tells.cells acted ∙ sym (ap (map cell_of) pl),
    )

-- ---- words that fill a form are text

four_none : (a b c d : Bool) (i j k m : Cause) → first_cause ((a, i) ∷ (b, j) ∷ (c, k) ∷ (d, m) ∷ []) ≡ None → (a ≡ false) × (b ≡ false) × (c ≡ false) × (d ≡ false)
four_none true b c d i j k m e = absurd cc
four_none false true c d i j k m e = absurd cc
four_none false false true d i j k m e = absurd cc
four_none false false false true i j k m e = absurd cc
four_none false false false false i j k m e = (refl, refl, refl, refl)

not_false : (b : Bool) → not b ≡ false → b ≡ true
not_false true e = refl
not_false false e = absurd cc

nested_cells : (pl : List (Field × List ℕ)) → list_any is_no_action pl ≡ false → count_by is_nested pl ≡ count_by is_post_cell (map cell_of pl)
nested_cells [] e = refl
nested_cells ((fields.Number low high, w) ∷ pl) e = same_count (fields.Number low high) w pl (cell_of (fields.Number low high, w)) (map cell_of pl) refl (nested_cells pl e)
nested_cells ((fields.Action, w) ∷ pl) e =
    let p = or_parts _ _ e in
    same_count fields.Action w pl (cell_of (fields.Action, w)) (map cell_of pl) (ap is_post (key_found (key_of w) p.0)) (nested_cells pl p.1)

pub text_by_words : (kind : TextKind) (l w : List ℕ) (ws : List (List ℕ)) (form : List Field) (key : Keyword) (m : Marks) (new : List Cell) → words l ≡ w ∷ ws → key_of w ≡ Some key → line_form kind key ≡ Some form
    → Tells form ws [] new m → m.no_action ≡ false → first_cause (faults key m) ≡ None → is_text l ≡ true
text_by_words kind l w ws form key m new e k f tells acted why =
    let none = four_none m.unfilled (nat_lt 8 (cond (is_post (Some key) || is_every (Some key)) 1 0 + m.nested)) m.no_number m.outside causes.Count causes.Nest causes.Number causes.Range why in
    let near : InLimits form = subst (λ (o : Option (List Field)). InLimits (or_nothing o)) f (line_near kind key) in
    let fill : fills form ws ≡ true = not_false _ (sym (tells.unfilled acted) ∙ none.0) in
    let acts : list_any is_no_action (placed form ws) ≡ false = sym tells.no_action ∙ acted in
    let numbers : list_any is_no_number (placed form ws) ≡ false = sym (tells.no_number acted) ∙ none.2 in
    let ranges : list_any is_outside (placed form ws) ≡ false = sym (tells.outside acted) ∙ none.3 in
    let cs = map cell_of (placed form ws) in
    let r : Row = record { key = key; cells = cs } in
    let row : IsRow kind r = record {
      is_line_word = ap is_none f;
      fits = subst (λ (o : Option (List Field)). Fits (or_nothing o) cs) (sym f) (cells_fit form ws near fill acts numbers ranges);
      nest = subst (λ (n : ℕ). cond (is_post (Some key) || is_every (Some key)) 1 0 + n ≤ 8) (tells.nested acted ∙ nested_cells (placed form ws) acts) (ltb-false _ _ none.1);
    } in
    let all : row_words r ≡ words l = ap (λ (v : List (List ℕ)). key_spelled key ∷ v) (cells_spelled form ws near fill acts numbers ranges) ∙ ap (λ (v : List ℕ). v ∷ ws) (sym (key_is w key k)) ∙ sym e in
    let line : row_line r ≡ l = ap line_of all ∙ join_with_byte-slice_split 32 l in
    subst (λ (v : List ℕ). is_text v ≡ true) line (row_is_line kind r row).0.text

pub faultless_none : (key : Keyword) (fault : Option Cause) → IsFaultless (Words key fault) → fault ≡ None
faultless_none key None h = refl
faultless_none key (Some c) h = absurd h
