-- The spelling of a row, cell by cell.
use Rattle.std.proofs.Common.{◌≡◌, ℕ, ◌+◌, ◌<◌, List, [], ◌∷◌, ◌++◌, length, take, get_or, map, refl, sym, ap, ◌∙◌, append_assoc}
use Rattle.std.specs.List.{flat_map}
use Rattle.std.proofs.lemmas.Grind.{flat_map-append}
use Rattle.std.proofs.lemmas.List.{append-nil, map-append, take_more}
use Rattle.fol_model.specs.declared.words.Keyword.{Keyword}
use Rattle.fol_model.specs.declared.words.Cell.{Cell}
use Rattle.fol_model.specs.TextLines.{line_of}
use Rattle.fol_model.specs.TextForms.{key_spelled, cell_spelled}
use Rattle.fol_model.specs.TextCauses.{Row}
use Rattle.fol_model.specs.declared.scripts.Command.{Command}
use Rattle.fol_model.specs.declared.openings.Opening.{Opening}
use Rattle.fol_model.specs.declared.openings.BlockAt.{BlockAt}
use Rattle.fol_model.specs.declared.entities.Entity.{Entity}
use Rattle.fol_model.specs.Texts.{command_row, item_row, grid_row, block, entity}
use Rattle.fol_text_laws.specs.Printed.{line_text, rows_text, script_text, world_text}
use Rattle.fol_script.specs.WorldRows.{version_row}
use Rattle.fol_script.specs.CellText.{cell_text, cells_text}

words_text : (w : List ℕ) (cs : List Cell) → line_of (w ∷ map cell_spelled cs) ≡ w ++ flat_map cell_text cs
words_text w [] = sym (append-nil w)
words_text w (c ∷ cs) = ap (λ (l : List ℕ). w ++ 32 ∷ l) (words_text (cell_spelled c) cs)

pub row_text : (key : Keyword) (cs : List Cell) → line_text (record { key = key; cells = cs }) ≡ (key_spelled key ++ cells_text cs) ++ 10 ∷ []
unfolding cells_text
row_text key cs = ap (λ (l : List ℕ). l ++ 10 ∷ []) (words_text (key_spelled key) cs)

pub no_cells : cells_text [] ≡ []
unfolding cells_text
no_cells = refl

pub one_cell_more : (cs : List Cell) (c : Cell) → cells_text (cs ++ c ∷ []) ≡ cells_text cs ++ cell_text c
unfolding cells_text
one_cell_more cs c = flat_map-append cell_text cs (c ∷ []) ∙ ap (λ (l : List ℕ). flat_map cell_text cs ++ l) (append-nil (cell_text c))

pub one_row_more : (rows : List Row) (r : Row) → rows_text (rows ++ r ∷ []) ≡ rows_text rows ++ line_text r
one_row_more rows r = flat_map-append line_text rows (r ∷ []) ∙ ap (λ (l : List ℕ). flat_map line_text rows ++ l) (append-nil (line_text r))

pub push_step : (cs : List Cell) (i : ℕ) (d : Cell) (out base new : List ℕ) → i < length cs → out ≡ base ++ cells_text (take i cs) → new ≡ out ++ cell_text (get_or cs i d) → new ≡ base ++ cells_text (take (i + 1) cs)
push_step cs i d out base new lt so_far one =
    one ∙ ap (λ (l : List ℕ). l ++ cell_text (get_or cs i d)) so_far ∙ append_assoc base (cells_text (take i cs)) (cell_text (get_or cs i d))
    ∙ ap (λ (l : List ℕ). base ++ l) (sym (ap cells_text (take_more cs i d lt) ∙ one_cell_more (take i cs) (get_or cs i d)))

-- the same of rows, each made of an element
pub row_step : {X : Type 0} (row : X → Row) (xs : List X) (i : ℕ) (d : X) (out base new : List ℕ) → i < length xs → out ≡ base ++ rows_text (map row (take i xs)) → new ≡ out ++ line_text (row (get_or xs i d)) → new ≡ base ++ rows_text (map row (take (i + 1) xs))
row_step row xs i d out base new lt so_far one =
    one ∙ ap (λ (l : List ℕ). l ++ line_text (row (get_or xs i d))) so_far ∙ append_assoc base (rows_text (map row (take i xs))) (line_text (row (get_or xs i d)))
    ∙ ap (λ (l : List ℕ). base ++ l) (sym (ap (λ l. rows_text (map row l)) (take_more xs i d lt) ∙ ap rows_text (map-append row (take i xs) (get_or xs i d ∷ [])) ∙ one_row_more (map row (take i xs)) (row (get_or xs i d))))

pub script_step : (cs : List Command) (i : ℕ) (d : Command) (out new : List ℕ) → i < length cs → out ≡ script_text (take i cs) → new ≡ out ++ line_text (command_row (get_or cs i d)) → new ≡ script_text (take (i + 1) cs)
unfolding script_text
script_step cs i d out new lt so_far one = row_step command_row cs i d out [] new lt so_far one

pub no_commands : script_text [] ≡ []
unfolding script_text
no_commands = refl

two_items : (v g bs es : List ℕ) → (((([] ++ v) ++ g) ++ bs) ++ es) ≡ v ++ (g ++ (bs ++ es))
two_items v g bs es = append_assoc (v ++ g) bs es ∙ append_assoc v g (bs ++ es)

pub world_text_is : (o : Opening) → (((([] ++ line_text (version_row o.version)) ++ line_text (grid_row o.grid)) ++ rows_text (map item_row (map block o.blocks))) ++ rows_text (map item_row (map entity o.entities))) ≡ world_text o
unfolding world_text
world_text_is o =
    two_items (line_text (version_row o.version)) (line_text (grid_row o.grid)) (rows_text (map item_row (map block o.blocks))) (rows_text (map item_row (map entity o.entities)))
    ∙ ap (λ (l : List ℕ). line_text (version_row o.version) ++ (line_text (grid_row o.grid) ++ l))
    (sym (ap rows_text (map-append item_row (map block o.blocks) (map entity o.entities)) ∙ flat_map-append line_text (map item_row (map block o.blocks)) (map item_row (map entity o.entities))))

-- the four parts of a world's text, one behind the other
pub world_lines : (o : Opening) (bs : List BlockAt) (es : List Entity) (z a b d e : List ℕ) → z ≡ [] → a ≡ z ++ line_text (version_row o.version) → b ≡ a ++ line_text (grid_row o.grid) → bs ≡ o.blocks → d ≡ b ++ rows_text (map item_row (map block bs))
    → es ≡ o.entities → e ≡ d ++ rows_text (map item_row (map entity es)) → e ≡ world_text o
world_lines o bs es z a b d e none first second are_blocks third are_entities fourth =
    let v = line_text (version_row o.version) in
    let g = line_text (grid_row o.grid) in
    fourth ∙ (λ i. third i ++ rows_text (map item_row (map entity (are_entities i))))
    ∙ (λ i. (second i ++ rows_text (map item_row (map block (are_blocks i)))) ++ rows_text (map item_row (map entity o.entities)))
    ∙ (λ i. ((first i ++ g) ++ rows_text (map item_row (map block o.blocks))) ++ rows_text (map item_row (map entity o.entities)))
    ∙ (λ i. (((none i ++ v) ++ g) ++ rows_text (map item_row (map block o.blocks))) ++ rows_text (map item_row (map entity o.entities)))
    ∙ world_text_is o
