-- Every word of an event is of bytes above the quotation mark.
use Rattle.std.proofs.Common.{◌≡◌, ℕ, suc, ◌<◌, refl, arith, true, List, [], ◌∷◌, ◌++◌, map, flat_map, decimal, length}
use Rattle.std.specs.Prelude.{ℤ, pos, negsuc}
use Rattle.std.specs.Char.{is_ascii_digit}
use Rattle.std.specs.Fmt.{signed_decimal}
use Rattle.std.specs.List.{list_all}
use Rattle.std.proofs.lemmas.Bool.{and_parts, and_from}
use Rattle.std.proofs.lemmas.Bool.Decides.{nat_tests}
use Rattle.std.proofs.lemmas.List.Folds.{list_all-append}
use Rattle.fol_model.specs.declared.words.Keyword.{Keyword}
use Rattle.fol_model.specs.declared.words.Keyword.TheVariants as keys
use Rattle.fol_model.specs.declared.words.Cell.{Cell}
use Rattle.fol_model.specs.declared.words.Cell.TheVariants as cells
use Rattle.fol_model.specs.declared.actions.Action.{Action}
use Rattle.fol_model.specs.declared.tasks.Outcome.{Outcome}
use Rattle.fol_model.specs.declared.tasks.Outcome.TheVariants as outcome
use Rattle.fol_model.specs.declared.tasks.Ran.{Ran}
use Rattle.fol_model.specs.declared.events.Loaded.{Loaded}
use Rattle.fol_model.specs.declared.events.Loaded.TheVariants as loaded
use Rattle.fol_model.specs.declared.events.Unloaded.{Unloaded}
use Rattle.fol_model.specs.declared.events.Unloaded.TheVariants as unloaded
use Rattle.fol_model.specs.declared.events.Accept.{Accept}
use Rattle.fol_model.specs.declared.events.Accept.TheVariants as accept
use Rattle.fol_model.specs.declared.events.Event.{Event}
use Rattle.fol_model.specs.declared.events.Event.TheVariants.{Load, Unload, Post, PhaseOpen, Begin, End, PhaseClose, Finish, Stop}
use Rattle.fol_model.specs.declared.openings.BlockAt.{BlockAt}
use Rattle.fol_model.specs.declared.entities.Place.{Place}
use Rattle.fol_model.specs.declared.entities.Place.TheVariants as place
use Rattle.fol_model.specs.declared.closings.EntityRow.{EntityRow}
use Rattle.fol_model.specs.LineWords.{Word}
use Rattle.fol_model.specs.TextForms.{key_spelled, cell_spelled}
use Rattle.fol_model.specs.ActionCells.{deed_cells}
use Rattle.fol_model.specs.Nesting.{deed_of}
use Rattle.fol_model.specs.ReportWords.{action_words, loaded_words, unloaded_words, accept_words, ran_words, outcome_word, event_words, entry_words, place_words, entity_words, block_row_words}
use Rattle.fol_report_laws.proofs.Numbers.{decimal_digits}
use Rattle.fol_report_laws.proofs.Rows.{is_ink, is_ink_word, InkRows}

-- ---- numbers

digit_ink : (b : ℕ) → is_ascii_digit b ≡ true → is_ink b ≡ true
unfolding is_ink
digit_ink b h = grind (arith, nat_tests)

digits_ink : (w : Word) → list_all is_ascii_digit w ≡ true → is_ink_word w ≡ true
digits_ink [] h = refl
digits_ink (b ∷ bs) h =
    let p = and_parts (is_ascii_digit b) (list_all is_ascii_digit bs) h in
    and_from (is_ink b) (is_ink_word bs) (digit_ink b p.0) (digits_ink bs p.1)

pub decimal_ink : (n : ℕ) → is_ink_word (decimal n) ≡ true
decimal_ink n = digits_ink (decimal n) (decimal_digits n)

signed_ink : (z : ℤ) → is_ink_word (signed_decimal z) ≡ true
unfolding is_ink
signed_ink (pos n) = decimal_ink n
signed_ink (negsuc n) = decimal_ink (suc n)

-- ---- actions

key_ink : (k : Keyword) → is_ink_word (key_spelled k) ≡ true
unfolding is_ink
key_ink keys.World = refl
key_ink keys.Grid = refl
key_ink keys.Block = refl
key_ink keys.Entity = refl
key_ink keys.Load = refl
key_ink keys.Unload = refl
key_ink keys.Post = refl
key_ink keys.Every = refl
key_ink keys.Run = refl
key_ink keys.End = refl
key_ink keys.Set = refl
key_ink keys.Copy = refl
key_ink keys.Send = refl
key_ink keys.Arrive = refl

cell_ink : (c : Cell) → is_ink_word (cell_spelled c) ≡ true
cell_ink (cells.Word k) = key_ink k
cell_ink (cells.Number z) = signed_ink z

cells_ink : (cs : List Cell) → list_all is_ink_word (map cell_spelled cs) ≡ true
cells_ink [] = refl
cells_ink (c ∷ cs) = and_from (is_ink_word (cell_spelled c)) (list_all is_ink_word (map cell_spelled cs)) (cell_ink c) (cells_ink cs)

action_ink : (a : Action) → list_all is_ink_word (action_words a) ≡ true
unfolding action_words
action_ink a = cells_ink (deed_cells (deed_of a))

-- ---- answers

both_ink : (xs ys : List Word) → list_all is_ink_word xs ≡ true → list_all is_ink_word ys ≡ true → list_all is_ink_word (xs ++ ys) ≡ true
both_ink xs ys a b = rw (list_all-append is_ink_word xs ys, a, b) refl

all_ink : {A : Type 0} (f : A → List Word) → ((a : A) → list_all is_ink_word (f a) ≡ true) → (xs : List A) → list_all is_ink_word (flat_map f xs) ≡ true
all_ink f h [] = refl
all_ink f h (x ∷ xs) = both_ink (f x) (flat_map f xs) (h x) (all_ink f h xs)

loaded_ink : (a : Loaded) → list_all is_ink_word (loaded_words a) ≡ true
unfolding is_ink
loaded_ink loaded.Counted = refl
loaded_ink (loaded.Full present wanted) = simp decimal_ink
loaded_ink loaded.Over = refl

unloaded_ink : (a : Unloaded) → list_all is_ink_word (unloaded_words a) ≡ true
unfolding is_ink
unloaded_ink unloaded.Lowered = refl
unloaded_ink unloaded.NoTicket = refl
unloaded_ink unloaded.Over = refl

accept_ink : (a : Accept) → list_all is_ink_word (accept_words a) ≡ true
unfolding is_ink
accept_ink (accept.Posted number) = simp decimal_ink
accept_ink (accept.Full present wanted) = simp decimal_ink

outcome_ink : (o : Outcome) → is_ink_word (outcome_word o) ≡ true
unfolding is_ink
outcome_ink outcome.Done = refl
outcome_ink outcome.Foreign = refl
outcome_ink outcome.Absent = refl
outcome_ink outcome.Full = refl
outcome_ink outcome.NoTicket = refl

ran_ink : (r : Ran) → list_all is_ink_word (ran_words r) ≡ true
ran_ink r = simp (decimal_ink, outcome_ink)

-- ---- events

event_ink : (e : Event) → list_all is_ink_word (event_words e) ≡ true
unfolding is_ink
event_ink (Load caller c answer) = simp (decimal_ink, signed_ink, loaded_ink)
event_ink (Unload caller c answer) = simp (decimal_ink, signed_ink, unloaded_ink)
event_ink (Post caller c d a answer) = simp (decimal_ink, signed_ink) (both_ink (accept_words answer) (action_words a) (accept_ink answer) (action_ink a))
event_ink (PhaseOpen n) = simp decimal_ink
event_ink (Begin worker region) = simp decimal_ink
event_ink (End worker region tick ran accepts) = simp decimal_ink (both_ink (flat_map ran_words ran) _ (all_ink ran_words ran_ink ran) (simp decimal_ink (all_ink accept_words accept_ink accepts)))
event_ink PhaseClose = refl
event_ink Finish = refl
event_ink (Stop caller) = simp decimal_ink

event_some : (e : Event) → 0 < length (event_words e)
event_some (Load caller c answer) = omega arith
event_some (Unload caller c answer) = omega arith
event_some (Post caller c d a answer) = omega arith
event_some (PhaseOpen n) = omega arith
event_some (Begin worker region) = omega arith
event_some (End worker region tick ran accepts) = omega arith
event_some PhaseClose = omega arith
event_some Finish = omega arith
event_some (Stop caller) = omega arith

pub entries_ink : InkRows entry_words
entries_ink = record { some = λ e. event_some e.event; ink = λ e. event_ink e.event }

-- ---- blocks and entities

block_ink : (r : BlockAt) → list_all is_ink_word (block_row_words r) ≡ true
unfolding is_ink
block_ink r = simp (decimal_ink, signed_ink)

place_ink : (p : Place) → list_all is_ink_word (place_words p) ≡ true
unfolding is_ink
place_ink (place.At at) = simp signed_ink
place_ink (place.Transit number) = simp decimal_ink

entity_ink : (r : EntityRow) → list_all is_ink_word (entity_words r) ≡ true
unfolding is_ink
entity_ink r = simp (decimal_ink, place_ink)

pub blocks_ink : InkRows block_row_words
blocks_ink = record { some = λ r. omega arith; ink = block_ink }

pub entities_ink : InkRows entity_words
entities_ink = record { some = λ r. omega arith; ink = entity_ink }
