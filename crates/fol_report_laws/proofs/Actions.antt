-- An action is read from its words.
use Rattle.std.proofs.Common.{◌≡◌, refl, ap, ◌∙◌, true, false, List, [], ◌∷◌, map, nat_abs}
use Rattle.std.specs.Prelude.{if◌then◌else◌}
use Rattle.std.specs.List.{AllByRecursion}
use Rattle.fol_model.specs.declared.words.Keyword.{Keyword}
use Rattle.fol_model.specs.declared.words.Keyword.TheVariants as keys
use Rattle.fol_model.specs.declared.words.Cell.{Cell}
use Rattle.fol_model.specs.declared.words.Cell.TheVariants as cells
use Rattle.fol_model.specs.declared.actions.Action.{Action}
use Rattle.fol_model.specs.Deed.{Deed, Plain, Wrap, set, copy, load, unload, send, arrive, post, every}
use Rattle.fol_model.specs.Nesting.{deed_of, wrapped, action_of}
use Rattle.fol_model.specs.ActionCells.{deed_cells}
use Rattle.fol_model.specs.LineWords.{Word}
use Rattle.fol_model.specs.Limits.{is_arrival}
use Rattle.fol_model.specs.TextCauses.{cell_number, key_or}
use Rattle.fol_model.specs.TextForms.{key_of, key_spelled, cell_spelled}
use Rattle.fol_model.specs.ReportWords.{action_words}
use Rattle.fol_text_laws.specs.RowValues.{first_key, plain_from}
use Rattle.fol_text_laws.proofs.OneSpelling.{key_again}
use Rattle.fol_text_laws.proofs.Deeds.{action_back}
use Rattle.fol_report_laws.specs.Told.{IsNearCell, IsNearAction}
use Rattle.fol_report_laws.proofs.Numbers.{integer_in, begins_with_letter, integer_again, integer_no_letter}

-- ---- cells

abbrev cell_in : Word → Cell
cell_in w = if begins_with_letter w then cells.Word (key_or (key_of w)) else cells.Number (integer_in w)

key_begins : (k : Keyword) → begins_with_letter (key_spelled k) ≡ true
key_begins keys.World = refl
key_begins keys.Grid = refl
key_begins keys.Block = refl
key_begins keys.Entity = refl
key_begins keys.Load = refl
key_begins keys.Unload = refl
key_begins keys.Post = refl
key_begins keys.Every = refl
key_begins keys.Run = refl
key_begins keys.End = refl
key_begins keys.Set = refl
key_begins keys.Copy = refl
key_begins keys.Send = refl
key_begins keys.Arrive = refl

cell_again : (c : Cell) → IsNearCell c → cell_in (cell_spelled c) ≡ c
cell_again (cells.Word k) h = rw (key_begins k) (ap (λ o. cells.Word (key_or o)) (key_again k))
cell_again (cells.Number z) h = rw (integer_no_letter z) (ap (λ y. cells.Number y) (integer_again z h))

cells_again : (cs : List Cell) → AllByRecursion IsNearCell cs → map cell_in (map cell_spelled cs) ≡ cs
cells_again [] h = refl
cells_again (c ∷ cs) h = ap (λ (d : Cell). d ∷ map cell_in (map cell_spelled cs)) (cell_again c h.0) ∙ ap (λ (l : List Cell). c ∷ l) (cells_again cs h.1)

-- ---- deeds

-- the deed with these cells, where it is no arrival
abbrev deed_in : List Cell → Deed
deed_in (cells.Word keys.Post ∷ x ∷ z ∷ d ∷ cs) = wrapped (post (record { x = cell_number x; z = cell_number z }) (nat_abs (cell_number d))) (deed_in cs)
deed_in (cells.Word keys.Every ∷ p ∷ n ∷ cs) = wrapped (every (nat_abs (cell_number p)) (nat_abs (cell_number n))) (deed_in cs)
deed_in cs = record { wraps = []; plain = (plain_from (first_key cs) cs).plain }

deed_again : (ws : List Wrap) (p : Plain) → is_arrival p ≡ false → deed_in (deed_cells (record { wraps = ws; plain = p })) ≡ record { wraps = ws; plain = p }
deed_again [] (set at id) h = refl
deed_again [] (copy at to) h = refl
deed_again [] (load c) h = refl
deed_again [] (unload c) h = refl
deed_again [] (send e to) h = refl
deed_again [] (arrive e) h = absurd (let k = h in cc)
deed_again (post c d ∷ ws) p h = ap (λ (x : Deed). wrapped (post c d) x) (deed_again ws p h)
deed_again (every period left ∷ ws) p h = ap (λ (x : Deed). wrapped (every period left) x) (deed_again ws p h)

-- ---- actions

abbrev pub action_in : List Word → Action
action_in ws = action_of (deed_in (map cell_in ws))

pub action_again : (a : Action) → IsNearAction a → is_arrival (deed_of a).plain ≡ false → action_in (action_words a) ≡ a
unfolding action_words
action_again a near h =
    ap (λ (cs : List Cell). action_of (deed_in cs)) (cells_again (deed_cells (deed_of a)) near)
    ∙ ap action_of (deed_again (deed_of a).wraps (deed_of a).plain h)
    ∙ action_back a
