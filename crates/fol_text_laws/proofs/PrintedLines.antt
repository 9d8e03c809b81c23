-- The lines of a printed text are the spellings of its rows.
use Rattle.std.proofs.Common.{◌≡◌, ℕ, true, false, eqb, List, [], ◌∷◌, ◌++◌, map, refl, ap, ◌∙◌, append_assoc, arith, inl, inr}
use Rattle.std.specs.Prelude.{nat_le}
use Rattle.std.specs.List.{list_all}
use Rattle.std.proofs.lemmas.Bool.{cases_Bool, and_parts, eqb-true, leb-true}
use Rattle.fol_model.specs.declared.words.Keyword.{Keyword}
use Rattle.fol_model.specs.declared.words.Keyword.TheVariants as keys
use Rattle.fol_model.specs.declared.words.TextKind.{TextKind}
use Rattle.fol_model.specs.TextLines.{lines, kept, is_skipped, words, line_of, is_printable, is_some_word}
use Rattle.fol_model.specs.TextForms.{key_spelled, cell_spelled}
use Rattle.fol_model.specs.TextCauses.{Row}
use Rattle.fol_model.specs.TextRows.{IsRow, row_line, Follow, Spells}
use Rattle.fol_text_laws.specs.Printed.{rows_text}
use Rattle.fol_text_laws.proofs.Again.{row_is_line}

no_feed : (b : ℕ) → is_printable b ≡ true → eqb b 10 ≡ false
no_feed b h = elim (cases_Bool (eqb b 10)) [
  | inl e ↦ absurd (let l = leb-true 32 b (and_parts (nat_le 32 b) (nat_le b 126) h).0 in omega (arith, l, eqb-true b 10 e))
  | inr e ↦ e
]

first_line : (l rest : List ℕ) → list_all is_printable l ≡ true → lines (l ++ 10 ∷ rest) ≡ l ∷ lines rest
first_line [] rest h = refl
first_line (b ∷ bs) rest h =
    let p = and_parts (is_printable b) (list_all is_printable bs) h in
    rw (no_feed b p.0, first_line bs rest p.1) refl

unskipped : (w : List ℕ) (ws : List (List ℕ)) → is_skipped w ≡ false → is_skipped (line_of (w ∷ ws)) ≡ false
unskipped [] ws h = absurd cc
unskipped (b ∷ bs) [] h = h
unskipped (b ∷ bs) (v ∷ vs) h = h

key_unskipped : (key : Keyword) → is_skipped (key_spelled key) ≡ false
key_unskipped keys.World = refl
key_unskipped keys.Grid = refl
key_unskipped keys.Block = refl
key_unskipped keys.Entity = refl
key_unskipped keys.Load = refl
key_unskipped keys.Unload = refl
key_unskipped keys.Post = refl
key_unskipped keys.Every = refl
key_unskipped keys.Run = refl
key_unskipped keys.End = refl
key_unskipped keys.Set = refl
key_unskipped keys.Copy = refl
key_unskipped keys.Send = refl
key_unskipped keys.Arrive = refl

row_unskipped : (r : Row) → is_skipped (row_line r) ≡ false
row_unskipped r = unskipped (key_spelled r.key) (map cell_spelled r.cells) (key_unskipped r.key)

row_printable : (kind : TextKind) (r : Row) → IsRow kind r → list_all is_printable (row_line r) ≡ true
row_printable kind r is = (and_parts (list_all is_printable (row_line r)) (list_all is_some_word (words (row_line r))) (row_is_line kind r is).0.text).0

text_lines : (kind : TextKind) (before rows : List Row) → Follow kind before rows → kept (lines (rows_text rows)) ≡ map row_line rows
text_lines kind before [] f = refl
text_lines kind before (r ∷ rs) f =
    let e : lines (rows_text (r ∷ rs)) ≡ row_line r ∷ lines (rows_text rs) =
    ap lines (append_assoc (row_line r) (10 ∷ []) (rows_text rs)) ∙ first_line (row_line r) (rows_text rs) (row_printable kind r f.0) in
    let s = row_unskipped r in
    rw (e, s) (ap (λ (l : List (List ℕ)). row_line r ∷ l) (text_lines kind (before ++ r ∷ []) rs f.4))

pub rows_spelled : (kind : TextKind) (rows : List Row) → Follow kind [] rows → Spells kind (rows_text rows) rows
rows_spelled kind rows f = record { lines = text_lines kind [] rows f; follow = f }
