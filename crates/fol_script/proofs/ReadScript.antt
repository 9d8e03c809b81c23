-- One line more of a script, and its end.
use Rattle.std.proofs.Common.{◌≡◌, ℕ, ◌+◌, true, false, List, [], ◌∷◌, ◌++◌, length, map, Some, None, refl, sym, ap, subst, ◌∙◌, append_assoc}
use Rattle.std.proofs.lemmas.List.{map-append, append-nil, nil_from_length}
use Rattle.fol_model.specs.declared.words.TextKind.{TextKind}
use Rattle.fol_model.specs.declared.words.TextKind.TheVariants as kinds
use Rattle.fol_model.specs.declared.words.Keyword.{Keyword}
use Rattle.fol_model.specs.declared.words.Cell.{Cell}
use Rattle.fol_model.specs.declared.causes.Cause.{Cause}
use Rattle.fol_model.specs.declared.scripts.Command.{Command}
use Rattle.fol_model.specs.IsScript.{IsScript, is_command}
use Rattle.fol_model.specs.TextLines.{lines, kept, is_skipped}
use Rattle.fol_model.specs.TextCauses.{Row, row_of, cause_of, bad_from, first_bad}
use Rattle.fol_model.specs.TextRows.{IsRow, Spells}
use Rattle.fol_model.specs.Texts.{command_row, script_kind}
use Rattle.fol_text_laws.specs.RowValues.{command_of}
use Rattle.fol_text_laws.proofs.Commands.{IsScriptKind, row_tells}
use Rattle.fol_text_laws.proofs.ScriptLaws.{script_gives_script}
use Rattle.fol_text_laws.proofs.Valid.{good, valid_is_spelled, spelled_is_valid}
use Rattle.fol_script.specs.declared.script_lines.Before.{Before}
use Rattle.fol_script.specs.ScriptBefore.{Stands, is_script}
use Rattle.fol_script.specs.ReadText.{Goes, all_rows}

kind_is : (kind : TextKind) → is_script kind ≡ true → IsScriptKind kind
kind_is kinds.World e = absurd cc
kind_is kinds.ScriptOne e = tt
kind_is kinds.ScriptTwo e = tt

-- ---- a line of any text

pub skip_bad : (kind : TextKind) (l : List ℕ) (rows : List Row) (n : ℕ) (ls : List (List ℕ)) → is_skipped l ≡ true → bad_from kind rows n (l ∷ ls) ≡ bad_from kind rows (n + 1) ls
unfolding bad_from
skip_bad kind l rows n ls e = rw e refl

pub skip_rows : (kind : TextKind) (l : List ℕ) (rows : List Row) (ls : List (List ℕ)) → is_skipped l ≡ true → all_rows kind rows (l ∷ ls) ≡ all_rows kind rows ls
skip_rows kind l rows ls e = rw e refl

pub bad_line : (kind : TextKind) (l : List ℕ) (rows : List Row) (c : Cause) → is_skipped l ≡ false → cause_of kind rows l ≡ Some c → (n : ℕ) (ls : List (List ℕ)) → bad_from kind rows n (l ∷ ls) ≡ Some (n, c)
unfolding bad_from
bad_line kind l rows c e h n ls = rw (e, h) refl

pub row_bad : (kind : TextKind) (l : List ℕ) (rows : List Row) (n : ℕ) (ls : List (List ℕ)) → is_skipped l ≡ false → cause_of kind rows l ≡ None → bad_from kind rows n (l ∷ ls) ≡ bad_from kind (rows ++ row_of kind l ∷ []) (n + 1) ls
unfolding bad_from
row_bad kind l rows n ls e h = rw (e, h) refl

pub row_rows : (kind : TextKind) (l : List ℕ) (rows : List Row) (ls : List (List ℕ)) → is_skipped l ≡ false → all_rows kind rows (l ∷ ls) ≡ all_rows kind (rows ++ row_of kind l ∷ []) ls
row_rows kind l rows ls e = rw e (sym (append_assoc rows (row_of kind l ∷ []) (map (row_of kind) (kept ls))))

-- ---- a line of a script

pub skips : (kind : TextKind) (l : List ℕ) (cs : List Command) (b : Before) → is_skipped l ≡ true → Stands (map command_row cs) b → Goes kind l cs cs b
skips kind l cs b e s = record {
  stands = s;
  bad = λ n ls. skip_bad kind l (map command_row cs) n ls e;
  rows = λ ls. skip_rows kind l (map command_row cs) ls e;
}

-- what the row of a good line tells
tells : (kind : TextKind) (l : List ℕ) → is_script kind ≡ true → IsRow kind (row_of kind l)
    → (command_row (command_of (row_of kind l).key (row_of kind l).cells) ≡ row_of kind l) × (is_command (command_of (row_of kind l).key (row_of kind l).cells) ≡ true)
tells kind l k row = row_tells kind (row_of kind l) (kind_is kind k) row

pub within_line : (kind : TextKind) (l : List ℕ) (key : Keyword) (cs : List Cell) → is_script kind ≡ true → IsRow kind (row_of kind l) → key ≡ (row_of kind l).key → cs ≡ (row_of kind l).cells → is_command (command_of key cs) ≡ true
within_line kind l key cs k row e f =
    subst (λ (q : Keyword). is_command (command_of q cs) ≡ true) (sym e) (subst (λ (ds : List Cell). is_command (command_of (row_of kind l).key ds) ≡ true) (sym f) (tells kind l k row).1)

pub row_again : (kind : TextKind) (l : List ℕ) (key : Keyword) (cells : List Cell) (command : Command) → is_script kind ≡ true → IsRow kind (row_of kind l) → key ≡ (row_of kind l).key → cells ≡ (row_of kind l).cells → command ≡ command_of key cells → command_row command ≡ row_of kind l
row_again kind l key cells command k row is_key is_cells is = ap command_row (is ∙ λ i. command_of (is_key i) (is_cells i)) ∙ (tells kind l k row).0

pub takes : (kind : TextKind) (l : List ℕ) (cs ds : List Command) (new : Before) (key : Keyword) (cells : List Cell) (command : Command) → is_script kind ≡ true → is_skipped l ≡ false
    → cause_of kind (map command_row cs) l ≡ None → key ≡ (row_of kind l).key → cells ≡ (row_of kind l).cells → Stands (map command_row cs ++ row_of kind l ∷ []) new
    → command ≡ command_of key cells → ds ≡ cs ++ command ∷ [] → Goes kind l cs ds new
takes kind l cs ds new key cells command k e none is_key is_cells s is_command more =
    let rows = map command_row cs in
    let row : command_row command ≡ row_of kind l = row_again kind l key cells command k (good kind rows l none).row is_key is_cells is_command in
    let all : map command_row ds ≡ rows ++ row_of kind l ∷ [] = ap (map command_row) more ∙ map-append command_row cs (command ∷ []) ∙ ap (λ (r : Row). rows ++ r ∷ []) row in
    record {
      stands = subst (λ (rs : List Row). Stands rs new) (sym all) s;
      bad = λ n ls. row_bad kind l rows n ls e none ∙ ap (λ (rs : List Row). bad_from kind rs (n + 1) ls) (sym all);
      rows = λ ls. row_rows kind l rows ls e ∙ ap (λ (rs : List Row). all_rows kind rs ls) (sym all);
    }

-- ---- the end

pub spelled : (kind : TextKind) (bytes rest : List ℕ) (rows : List Row) → length rest ≡ 0 → first_bad kind bytes ≡ None → all_rows kind rows (lines rest) ≡ map (row_of kind) (kept (lines bytes)) → Spells kind bytes rows
spelled kind bytes rest rows none good_text all =
    let v = valid_is_spelled kind bytes good_text in
    let e : rows ≡ v.0 = sym (append-nil rows) ∙ ap (λ (r : List ℕ). all_rows kind rows (lines r)) (sym (nil_from_length rest none)) ∙ all ∙ (spelled_is_valid kind bytes v.0 v.1).1 in
    subst (Spells kind bytes) (sym e) v.1

-- commands that a text spells make a script
pub makes_script : (version : ℕ) (kind : TextKind) (bytes : List ℕ) (cs script : List Command) → kind ≡ script_kind version → script ≡ cs → Spells kind bytes (map command_row cs) → IsScript script
makes_script version kind bytes cs script k same s =
    subst IsScript (sym same) (script_gives_script version bytes cs (subst (λ (q : TextKind). Spells q bytes (map command_row cs)) k s))
