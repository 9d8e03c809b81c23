-- The command of a script's row.
use Rattle.std.proofs.Common.{◌≡◌, ℕ, zero, suc, ◌+◌, ◌⊎◌, inl, inr, Option, ◌≤◌, pos, true, false, ◌&&◌, length, List, [], ◌∷◌, ◌++◌, refl, sym, ap, subst, ◌∙◌, arith}
use Rattle.std.specs.Prelude.{is_none}
use Rattle.std.specs.List.{count_by}
use Rattle.std.proofs.lemmas.Bool.{and_parts, and_from}
use Rattle.fol_model.specs.declared.places.ChunkPos.{ChunkPos}
use Rattle.fol_model.specs.declared.words.Keyword.{Keyword}
use Rattle.fol_model.specs.declared.words.Keyword.TheVariants as keys
use Rattle.fol_model.specs.declared.words.TextKind.{TextKind}
use Rattle.fol_model.specs.declared.words.TextKind.TheVariants as kinds
use Rattle.fol_model.specs.declared.words.Field.{Field}
use Rattle.fol_model.specs.declared.words.Field.TheVariants as fields
use Rattle.fol_model.specs.declared.words.Cell.{Cell}
use Rattle.fol_model.specs.declared.words.Cell.TheVariants as cells
use Rattle.fol_model.specs.declared.actions.Action.{Action}
use Rattle.fol_model.specs.declared.scripts.Command.{Command}
use Rattle.fol_model.specs.declared.scripts.Command.TheVariants as command
use Rattle.fol_model.specs.Deed.{Deed}
use Rattle.fol_model.specs.Nesting.{deed_of, action_of}
use Rattle.fol_model.specs.Limits as limit
use Rattle.fol_model.specs.IsScript.{is_command, is_line_action}
use Rattle.fol_model.specs.Geometry.{is_chunk}
use Rattle.fol_model.specs.TextForms.{upto, script_form, line_form}
use Rattle.fol_model.specs.TextCauses.{Row, or_nothing}
use Rattle.fol_model.specs.TextRows.{Fits, IsRow, row_wraps, is_post_cell}
use Rattle.fol_model.specs.ActionCells.{natural_cell, chunk_cells, deed_cells}
use Rattle.fol_model.specs.Texts.{command_row, action_cells, script_kind}
use Rattle.fol_text_laws.specs.Laws.{is_repeat}
use Rattle.fol_text_laws.specs.RowValues.{deed_from, command_from, InLine}
use Rattle.fol_text_laws.proofs.Ranges.{in_chunk, in_range, range_in}
use Rattle.fol_text_laws.proofs.Cells.{nothing_left, natural_first, chunk_first}
use Rattle.fol_text_laws.proofs.Deeds.{deed_at, deed_back, action_back, deed_again, deed_fits, deed_count, line_action, action_line, chunk_fits, number_fits, delayed, number_count, delay_in}

-- ---- the two versions

abbrev pub IsScriptKind : TextKind → Type 0
IsScriptKind kinds.World = ⊥
IsScriptKind kinds.ScriptOne = Unit {0}
IsScriptKind kinds.ScriptTwo = Unit {0}

pub version_kind : (version : ℕ) → IsScriptKind (script_kind version)
version_kind zero = tt
version_kind (suc zero) = tt
version_kind (suc (suc n)) = tt

form_one : (key : Keyword) → is_none (line_form kinds.ScriptOne key) ≡ false → line_form kinds.ScriptOne key ≡ script_form key
form_one keys.World h = refl
form_one keys.Grid h = refl
form_one keys.Block h = refl
form_one keys.Entity h = refl
form_one keys.Load h = refl
form_one keys.Unload h = refl
form_one keys.Post h = refl
form_one keys.Every h = absurd (let k = h in cc)
form_one keys.Run h = refl
form_one keys.End h = refl
form_one keys.Set h = refl
form_one keys.Copy h = refl
form_one keys.Send h = refl
form_one keys.Arrive h = refl

form_is : (kind : TextKind) (key : Keyword) → IsScriptKind kind → is_none (line_form kind key) ≡ false → line_form kind key ≡ script_form key
form_is kinds.World key s h = absurd s
form_is kinds.ScriptOne key s h = form_one key h
form_is kinds.ScriptTwo key s h = refl

-- ---- a row has a command

-- the command of these cells behind this line word
pub record CommandOf (key : Keyword) (cs : List Cell) : Type 0 where
  pub command : Command
  pub row : command_row command ≡ record { key = key; cells = cs }
  pub within : is_command command ≡ true

count_in : (n : ℕ) → 1 ≤ n → n ≤ 10000 → limit.is_count n ≡ true
unfolding limit.is_count
count_in n l h = in_range 1 n 10000 l h

abbrev row : Keyword → List Cell → Row
row key cs = record { key = key; cells = cs }

line_row : (key : Keyword) (cs ds : List Cell) → cs ≡ ds → row key cs ≡ row key ds
line_row key cs ds e = λ i. record { key = key; cells = e i }

load_command : (cs : List Cell) → Fits (or_nothing (script_form keys.Load)) cs → CommandOf keys.Load cs
load_command cs f =
    let c = chunk_first [] cs f in
    let e : cs ≡ chunk_cells c.at = c.is ∙ ap (λ (l : List Cell). chunk_cells c.at ++ l) (nothing_left c.rest c.fits) in
    record { command = command.Load c.at; row = line_row keys.Load (chunk_cells c.at) cs (sym e); within = in_chunk c.at c.within }

unload_command : (cs : List Cell) → Fits (or_nothing (script_form keys.Unload)) cs → CommandOf keys.Unload cs
unload_command cs f =
    let c = chunk_first [] cs f in
    let e : cs ≡ chunk_cells c.at = c.is ∙ ap (λ (l : List Cell). chunk_cells c.at ++ l) (nothing_left c.rest c.fits) in
    record { command = command.Unload c.at; row = line_row keys.Unload (chunk_cells c.at) cs (sym e); within = in_chunk c.at c.within }

run_command : (cs : List Cell) → Fits (or_nothing (script_form keys.Run)) cs → CommandOf keys.Run cs
run_command cs f =
    let n = natural_first 1 10000 [] cs f in
    let e : cs ≡ natural_cell n.n ∷ [] = n.is ∙ ap (λ (l : List Cell). natural_cell n.n ∷ l) (nothing_left n.rest n.fits) in
    record { command = command.Run n.n; row = line_row keys.Run (natural_cell n.n ∷ []) cs (sym e); within = count_in n.n n.at_least n.at_most }

end_command : (cs : List Cell) → Fits (or_nothing (script_form keys.End)) cs → CommandOf keys.End cs
end_command cs f = record { command = command.End; row = line_row keys.End [] cs (sym (nothing_left cs f)); within = refl }

-- an action with these cells, and its limits
pub record ActionOf (cs : List Cell) : Type 0 where
  pub act : Action
  pub cells : action_cells act ≡ cs
  pub within : is_line_action act ≡ true

action_at : (cs : List Cell) → Fits (fields.Action ∷ []) cs → count_by is_post_cell cs ≤ 7 → ActionOf cs
action_at cs f few =
    let d = deed_at cs f in
    let back : deed_of (action_of d.deed) ≡ d.deed = deed_back d.deed.wraps d.deed.plain in
    record {
      act = action_of d.deed;
      cells = ap deed_cells back ∙ d.cells;
      within = line_action (action_of d.deed) (subst InLine (sym back) d.in_line) (subst (λ (x : Deed). length x.wraps ≤ 7) (sym back) (omega (arith, d.count, few)));
    }

post_posts : (c : ChunkPos) (d : ℕ) (cs : List Cell) → count_by is_post_cell (chunk_cells c ++ natural_cell d ∷ cs) ≡ count_by is_post_cell cs
post_posts c d cs = number_count c.x (cells.Number c.z ∷ natural_cell d ∷ cs) ∙ number_count c.z (natural_cell d ∷ cs) ∙ number_count (pos d) cs

every_posts : (c : ChunkPos) (d p n : ℕ) (cs : List Cell) → count_by is_post_cell (chunk_cells c ++ natural_cell d ∷ natural_cell p ∷ natural_cell n ∷ cs) ≡ count_by is_post_cell cs
every_posts c d p n cs = post_posts c d (natural_cell p ∷ natural_cell n ∷ cs) ∙ number_count (pos p) (natural_cell n ∷ cs) ∙ number_count (pos n) cs

post_command : (cs : List Cell) → Fits (or_nothing (script_form keys.Post)) cs → 1 + count_by is_post_cell cs ≤ 8 → CommandOf keys.Post cs
post_command cs f few =
    let c = chunk_first (upto 1 1000000 ∷ fields.Action ∷ []) cs f in
    let d = natural_first 1 1000000 (fields.Action ∷ []) c.rest c.fits in
    let e : cs ≡ chunk_cells c.at ++ natural_cell d.n ∷ d.rest = c.is ∙ ap (λ (l : List Cell). chunk_cells c.at ++ l) d.is in
    let n : count_by is_post_cell cs ≡ count_by is_post_cell d.rest = ap (count_by is_post_cell) e ∙ post_posts c.at d.n d.rest in
    let a = action_at d.rest d.fits (omega (arith, n, few)) in
    record {
      command = command.Post c.at d.n a.act;
      row = line_row keys.Post (chunk_cells c.at ++ natural_cell d.n ∷ action_cells a.act) cs (ap (λ (l : List Cell). chunk_cells c.at ++ natural_cell d.n ∷ l) a.cells ∙ sym e);
      within = and_from (is_chunk c.at && limit.is_delay d.n) (is_line_action a.act) (and_from (is_chunk c.at) (limit.is_delay d.n) (in_chunk c.at c.within) (delay_in d.n d.at_least d.at_most)) a.within;
    }

every_command : (cs : List Cell) → Fits (or_nothing (script_form keys.Every)) cs → 1 + count_by is_post_cell cs ≤ 8 → CommandOf keys.Every cs
every_command cs f few =
    let c = chunk_first (upto 1 1000000 ∷ upto 1 1000000 ∷ upto 1 10000 ∷ fields.Action ∷ []) cs f in
    let d = natural_first 1 1000000 (upto 1 1000000 ∷ upto 1 10000 ∷ fields.Action ∷ []) c.rest c.fits in
    let p = natural_first 1 1000000 (upto 1 10000 ∷ fields.Action ∷ []) d.rest d.fits in
    let n = natural_first 1 10000 (fields.Action ∷ []) p.rest p.fits in
    let e : cs ≡ chunk_cells c.at ++ natural_cell d.n ∷ natural_cell p.n ∷ natural_cell n.n ∷ n.rest =
    c.is ∙ ap (λ (l : List Cell). chunk_cells c.at ++ l) (d.is ∙ ap (λ (l : List Cell). natural_cell d.n ∷ l) (p.is ∙ ap (λ (l : List Cell). natural_cell p.n ∷ l) n.is)) in
    let k : count_by is_post_cell cs ≡ count_by is_post_cell n.rest = ap (count_by is_post_cell) e ∙ every_posts c.at d.n p.n n.n n.rest in
    let a = action_at n.rest n.fits (omega (arith, k, few)) in
    record {
      command = command.Every c.at d.n p.n n.n a.act;
      row = line_row keys.Every (chunk_cells c.at ++ natural_cell d.n ∷ natural_cell p.n ∷ natural_cell n.n ∷ action_cells a.act) cs
          (ap (λ (l : List Cell). chunk_cells c.at ++ natural_cell d.n ∷ natural_cell p.n ∷ natural_cell n.n ∷ l) a.cells ∙ sym e);
      within = and_from ((is_chunk c.at && limit.is_delay d.n) && (limit.is_delay p.n && limit.is_count n.n)) (is_line_action a.act)
          (and_from (is_chunk c.at && limit.is_delay d.n) (limit.is_delay p.n && limit.is_count n.n)
          (and_from (is_chunk c.at) (limit.is_delay d.n) (in_chunk c.at c.within) (delay_in d.n d.at_least d.at_most))
          (and_from (limit.is_delay p.n) (limit.is_count n.n) (delay_in p.n p.at_least p.at_most) (count_in n.n n.at_least n.at_most)))
          a.within;
    }

command_at : (key : Keyword) (cs : List Cell) → is_none (script_form key) ≡ false → Fits (or_nothing (script_form key)) cs → row_wraps (record { key = key; cells = cs }) ≤ 8 → CommandOf key cs
command_at keys.World cs h f n = absurd (let k = h in cc)
command_at keys.Grid cs h f n = absurd (let k = h in cc)
command_at keys.Block cs h f n = absurd (let k = h in cc)
command_at keys.Entity cs h f n = absurd (let k = h in cc)
command_at keys.Load cs h f n = load_command cs f
command_at keys.Unload cs h f n = unload_command cs f
command_at keys.Post cs h f n = post_command cs f n
command_at keys.Every cs h f n = every_command cs f n
command_at keys.Run cs h f n = run_command cs f
command_at keys.End cs h f n = end_command cs f
command_at keys.Set cs h f n = absurd (let k = h in cc)
command_at keys.Copy cs h f n = absurd (let k = h in cc)
command_at keys.Send cs h f n = absurd (let k = h in cc)
command_at keys.Arrive cs h f n = absurd (let k = h in cc)

-- a row of a script is that of a command within its limits
pub row_command : (kind : TextKind) (r : Row) → IsScriptKind kind → IsRow kind r → CommandOf r.key r.cells
row_command kind r s is =
    let e = form_is kind r.key s is.is_line_word in
    command_at r.key r.cells (ap is_none (sym e) ∙ is.is_line_word) (subst (λ (o : Option (List Field)). Fits (or_nothing o) r.cells) e is.fits) is.nest

-- ---- a command has one row

action_again : (a : Action) → Fits (fields.Action ∷ []) (action_cells a) → action_of (deed_from (action_cells a)) ≡ a
action_again a f = ap action_of (deed_again (deed_of a).wraps (deed_of a).plain f) ∙ action_back a

pub command_again : (kind : TextKind) (c : Command) → IsScriptKind kind → IsRow kind (command_row c) → command_from (command_row c) ≡ c
command_again kind (command.Load c) s is = refl
command_again kind (command.Unload c) s is = refl
command_again kind (command.Run n) s is = refl
command_again kind command.End s is = refl
command_again kind (command.Post c d a) s is =
    let e = form_is kind keys.Post s is.is_line_word in
    let f = subst (λ (o : Option (List Field)). Fits (or_nothing o) (command_row (command.Post c d a)).cells) e is.fits in
    ap (λ (x : Action). command.Post c d x) (action_again a f.2.2.2)
command_again kind (command.Every c d p n a) s is =
    let e = form_is kind keys.Every s is.is_line_word in
    let f = subst (λ (o : Option (List Field)). Fits (or_nothing o) (command_row (command.Every c d p n a)).cells) e is.fits in
    ap (λ (x : Action). command.Every c d p n x) (action_again a f.2.2.2.2.2)

-- the command that a row tells has that row, and is within its limits
pub row_tells : (kind : TextKind) (r : Row) → IsScriptKind kind → IsRow kind r → (command_row (command_from r) ≡ r) × (is_command (command_from r) ≡ true)
row_tells kind r s is =
    let c = row_command kind r s is in
    let e : command_from r ≡ c.command = ap command_from (sym c.row) ∙ command_again kind c.command s (subst (IsRow kind) (sym c.row) is) in
    (ap command_row e ∙ c.row, subst (λ (x : Command). is_command x ≡ true) (sym e) c.within)

-- ---- the row of a command within its limits may stand in a script

pub counted : (n : ℕ) → limit.is_count n ≡ true → (1 ≤ n) × (n ≤ 10000)
unfolding limit.is_count
counted n h = range_in 1 n 10000 h

action_fits : (a : Action) → is_line_action a ≡ true → Fits (fields.Action ∷ []) (action_cells a) × (count_by is_post_cell (action_cells a) ≤ 7)
action_fits a h =
    let i = action_line a h in
    (deed_fits (deed_of a).wraps (deed_of a).plain i.0, omega (arith, i.1, deed_count (deed_of a).wraps (deed_of a).plain i.0.posts))

two_row : (c : Command) → is_command c ≡ true → IsRow kinds.ScriptTwo (command_row c)
two_row (command.Load c) h = record { is_line_word = refl; fits = chunk_fits c [] [] h tt; nest = omega arith }
two_row (command.Unload c) h = record { is_line_word = refl; fits = chunk_fits c [] [] h tt; nest = omega arith }
two_row (command.Run n) h = let i = counted n h in record { is_line_word = refl; fits = number_fits 1 10000 n [] [] i.0 i.1 tt; nest = omega arith }
two_row command.End h = record { is_line_word = refl; fits = tt; nest = omega arith }
two_row (command.Post c d a) h =
    let p = and_parts (is_chunk c && limit.is_delay d) (is_line_action a) h in
    let q = and_parts (is_chunk c) (limit.is_delay d) p.0 in
    let i = delayed d q.1 in
    let f = action_fits a p.1 in
    record {
      is_line_word = refl;
      fits = chunk_fits c (upto 1 1000000 ∷ fields.Action ∷ []) (natural_cell d ∷ action_cells a) q.0 (number_fits 1 1000000 d (fields.Action ∷ []) (action_cells a) i.0 i.1 f.0);
      nest = omega (arith, post_posts c d (action_cells a), f.1);
    }
two_row (command.Every c d p n a) h =
    let all = and_parts ((is_chunk c && limit.is_delay d) && (limit.is_delay p && limit.is_count n)) (is_line_action a) h in
    let q = and_parts (is_chunk c && limit.is_delay d) (limit.is_delay p && limit.is_count n) all.0 in
    let cd = and_parts (is_chunk c) (limit.is_delay d) q.0 in
    let pn = and_parts (limit.is_delay p) (limit.is_count n) q.1 in
    let i = delayed d cd.1 in
    let j = delayed p pn.0 in
    let k = counted n pn.1 in
    let f = action_fits a all.1 in
    record {
      is_line_word = refl;
      fits = chunk_fits c (upto 1 1000000 ∷ upto 1 1000000 ∷ upto 1 10000 ∷ fields.Action ∷ []) (natural_cell d ∷ natural_cell p ∷ natural_cell n ∷ action_cells a) cd.0
          (number_fits 1 1000000 d (upto 1 1000000 ∷ upto 1 10000 ∷ fields.Action ∷ []) (natural_cell p ∷ natural_cell n ∷ action_cells a) i.0 i.1
          (number_fits 1 1000000 p (upto 1 10000 ∷ fields.Action ∷ []) (natural_cell n ∷ action_cells a) j.0 j.1
          (number_fits 1 10000 n (fields.Action ∷ []) (action_cells a) k.0 k.1 f.0)));
      nest = omega (arith, every_posts c d p n (action_cells a), f.1);
    }

one_row : (c : Command) → is_repeat c ≡ false → IsRow kinds.ScriptTwo (command_row c) → IsRow kinds.ScriptOne (command_row c)
one_row (command.Load c) h is = record { is_line_word = is.is_line_word; fits = is.fits; nest = is.nest }
one_row (command.Unload c) h is = record { is_line_word = is.is_line_word; fits = is.fits; nest = is.nest }
one_row (command.Run n) h is = record { is_line_word = is.is_line_word; fits = is.fits; nest = is.nest }
one_row command.End h is = record { is_line_word = is.is_line_word; fits = is.fits; nest = is.nest }
one_row (command.Post c d a) h is = record { is_line_word = is.is_line_word; fits = is.fits; nest = is.nest }
one_row (command.Every c d p n a) h is = absurd (let k = h in cc)

pub command_is_row : (version : ℕ) (c : Command) → (version ≡ 2) ⊎ (is_repeat c ≡ false) → is_command c ≡ true → IsRow (script_kind version) (command_row c)
command_is_row version c (inl e) h = subst (λ (v : ℕ). IsRow (script_kind v) (command_row c)) (sym e) (two_row c h)
command_is_row zero c (inr e) h = two_row c h
command_is_row (suc zero) c (inr e) h = one_row c e (two_row c h)
command_is_row (suc (suc n)) c (inr e) h = two_row c h
