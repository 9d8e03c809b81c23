-- The lines of a share, each by itself.
use Rattle.std.proofs.Common.{◌≡◌, ℕ, true, false, not, List, [], ◌∷◌, ◌++◌, length, map, Option, None, refl, sym, ap, subst, ◌∙◌, append_assoc}
use Rattle.std.proofs.lemmas.List.{map-append, append-nil, nil_from_length}
use Rattle.std.proofs.lemmas.List.Elements.{All-append, All-nil, All-push, filter-append}
use Rattle.fol_model.specs.declared.words.TextKind.{TextKind}
use Rattle.fol_model.specs.declared.words.Keyword.{Keyword}
use Rattle.fol_model.specs.declared.words.Cell.{Cell}
use Rattle.fol_model.specs.declared.causes.Cause.{Cause}
use Rattle.fol_model.specs.declared.scripts.Command.{Command}
use Rattle.fol_model.specs.TextLines.{lines, kept, is_skipped}
use Rattle.fol_model.specs.TextCauses.{Row, row_of, spelling_cause, form_cause}
use Rattle.fol_model.specs.TextRows.{IsRow, row_line}
use Rattle.fol_model.specs.Texts.{command_row}
use Rattle.fol_text_laws.specs.RowValues.{command_of}
use Rattle.fol_text_laws.proofs.OneLine.{clean, line_is_row}
use Rattle.fol_script.specs.ScriptBefore.{is_script}
use Rattle.fol_script.specs.Shares.{SpellEach, AddsLine, ReadsOn}
use Rattle.fol_script.proofs.ReadScript.{row_again}

kept_none : (l : List ℕ) → is_skipped l ≡ true → kept (l ∷ []) ≡ []
kept_none l e = rw e refl

kept_one : (l : List ℕ) → is_skipped l ≡ false → kept (l ∷ []) ≡ l ∷ []
kept_one l e = rw e refl

more_kept : (ls ms : List (List ℕ)) → kept (ls ++ ms) ≡ kept ls ++ kept ms
more_kept ls ms = filter-append (λ l. not (is_skipped l)) ls ms

pub spell_both : (kind : TextKind) (ls ms : List (List ℕ)) (rows more : List Row) → SpellEach kind ls rows → SpellEach kind ms more → SpellEach kind (ls ++ ms) (rows ++ more)
spell_both kind ls ms rows more s t = record {
  lines = more_kept ls ms ∙ ap (λ (ks : List (List ℕ)). ks ++ kept ms) s.lines ∙ ap (λ (ks : List (List ℕ)). map row_line rows ++ ks) t.lines ∙ sym (map-append row_line rows more);
  forms = All-append (IsRow kind) rows more s.forms t.forms;
}

pub line_skipped : (kind : TextKind) (l : List ℕ) (cs : List Command) → is_skipped l ≡ true → AddsLine kind l cs cs
line_skipped kind l cs e ls s = record {
  lines = more_kept ls (l ∷ []) ∙ ap (λ (ks : List (List ℕ)). kept ls ++ ks) (kept_none l e) ∙ append-nil (kept ls) ∙ s.lines;
  forms = s.forms;
}

-- a line without a fault is the spelling of its row
pub faultless_row : (kind : TextKind) (l : List ℕ) (fault : Option Cause) → spelling_cause kind l ≡ None → fault ≡ None → fault ≡ form_cause kind l → IsRow kind (row_of kind l) × (row_line (row_of kind l) ≡ l)
faultless_row kind l fault s none f = line_is_row kind l (clean kind l s (sym f ∙ none))

pub line_added : (kind : TextKind) (l : List ℕ) (cs ds : List Command) (key : Keyword) (cells : List Cell) (command : Command) → is_script kind ≡ true → is_skipped l ≡ false
    → IsRow kind (row_of kind l) × (row_line (row_of kind l) ≡ l) → key ≡ (row_of kind l).key → cells ≡ (row_of kind l).cells
    → command ≡ command_of key cells → ds ≡ cs ++ command ∷ [] → AddsLine kind l cs ds
line_added kind l cs ds key cells command k e row is_key is_cells is more ls s =
    let same : command_row command ≡ row_of kind l = row_again kind l key cells command k row.0 is_key is_cells is in
    let all : map command_row ds ≡ map command_row cs ++ row_of kind l ∷ [] = ap (map command_row) more ∙ map-append command_row cs (command ∷ []) ∙ ap (λ (r : Row). map command_row cs ++ r ∷ []) same in
    let one : SpellEach kind (l ∷ []) (row_of kind l ∷ []) = record {
      lines = kept_one l e ∙ ap (λ (w : List ℕ). w ∷ []) (sym row.1);
      forms = All-push (IsRow kind) [] (row_of kind l) (All-nil (IsRow kind)) row.0;
    } in
    subst (SpellEach kind (ls ++ l ∷ [])) (sym all) (spell_both kind ls (l ∷ []) (map command_row cs) (row_of kind l ∷ []) s one)

-- ---- the lines one after another

pub none_read : (kind : TextKind) (text : List ℕ) → ReadsOn kind text text []
none_read kind text = record {
  done = [];
  all = refl;
  each = record { lines = refl; forms = All-nil (IsRow kind) };
}

pub one_read : (kind : TextKind) (text rest l after : List ℕ) (cs ds : List Command) → lines rest ≡ l ∷ lines after → AddsLine kind l cs ds → ReadsOn kind text rest (map command_row cs) → ReadsOn kind text after (map command_row ds)
one_read kind text rest l after cs ds e adds r = record {
  done = r.done ++ l ∷ [];
  all = append_assoc r.done (l ∷ []) (lines after) ∙ ap (λ (ls : List (List ℕ)). r.done ++ ls) (sym e) ∙ r.all;
  each = adds r.done r.each;
}

pub all_read : (kind : TextKind) (text rest : List ℕ) (rows : List Row) → length rest ≡ 0 → ReadsOn kind text rest rows → SpellEach kind (lines text) rows
all_read kind text rest rows none r =
    subst (λ (ls : List (List ℕ)). SpellEach kind ls rows) (sym (append-nil r.done) ∙ ap (λ (t : List ℕ). r.done ++ lines t) (sym (nil_from_length rest none)) ∙ r.all) r.each
