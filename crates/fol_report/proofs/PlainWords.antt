-- Every word of a report is of small letters, digits and dashes.
use Rattle.std.proofs.Common.{◌≡◌, refl, Bool, true, List, [], ◌∷◌, map, flat_map}
use Rattle.std.specs.List.{list_all}
use Rattle.fol_model.specs.declared.regions.State.{State}
use Rattle.fol_model.specs.declared.regions.State.TheVariants as state
use Rattle.fol_model.specs.declared.words.Keyword.{Keyword}
use Rattle.fol_model.specs.declared.words.Keyword.TheVariants as keys
use Rattle.fol_model.specs.declared.words.Cell.{Cell}
use Rattle.fol_model.specs.declared.words.Cell.TheVariants as cells
use Rattle.fol_model.specs.declared.actions.Action.{Action}
use Rattle.fol_model.specs.declared.openings.BlockAt.{BlockAt}
use Rattle.fol_model.specs.declared.tasks.Outcome.{Outcome}
use Rattle.fol_model.specs.declared.tasks.Outcome.TheVariants as outcome
use Rattle.fol_model.specs.declared.tasks.Ran.{Ran}
use Rattle.fol_model.specs.declared.events.Loaded.{Loaded}
use Rattle.fol_model.specs.declared.events.Loaded.TheVariants as loaded
use Rattle.fol_model.specs.declared.events.Unloaded.{Unloaded}
use Rattle.fol_model.specs.declared.events.Unloaded.TheVariants as unloaded
use Rattle.fol_model.specs.declared.events.Accept.{Accept}
use Rattle.fol_model.specs.declared.events.Accept.TheVariants as accept
use Rattle.fol_model.specs.declared.events.Event.{Event}
use Rattle.fol_model.specs.declared.events.Event.TheVariants.{Load, Unload, Post, PhaseOpen, Begin, End, PhaseClose, Finish, Stop}
use Rattle.fol_model.specs.declared.entities.Place.{Place}
use Rattle.fol_model.specs.declared.entities.Place.TheVariants as place
use Rattle.fol_model.specs.declared.closings.RegionRow.{RegionRow}
use Rattle.fol_model.specs.declared.closings.OwnerRow.{OwnerRow}
use Rattle.fol_model.specs.declared.closings.TaskRow.{TaskRow}
use Rattle.fol_model.specs.declared.closings.EntityRow.{EntityRow}
use Rattle.fol_model.specs.LineWords.{Word}
use Rattle.fol_model.specs.TextForms.{key_spelled, cell_spelled}
use Rattle.fol_model.specs.ActionCells.{deed_cells}
use Rattle.fol_model.specs.Nesting.{deed_of}
use Rattle.fol_model.specs.ReportWords.{action_words, loaded_words, unloaded_words, accept_words, ran_words, outcome_word, event_words, state_word, place_words, region_words, owner_words, task_words, entity_words, block_row_words}
use Rattle.fol_report.proofs.PlainBytes.{is_plain, is_plain_word, decimal_plain, signed_plain, all_append}

-- ---- actions

key_plain : (k : Keyword) → is_plain_word (key_spelled k) ≡ true
unfolding is_plain
key_plain keys.World = refl
key_plain keys.Grid = refl
key_plain keys.Block = refl
key_plain keys.Entity = refl
key_plain keys.Load = refl
key_plain keys.Unload = refl
key_plain keys.Post = refl
key_plain keys.Every = refl
key_plain keys.Run = refl
key_plain keys.End = refl
key_plain keys.Set = refl
key_plain keys.Copy = refl
key_plain keys.Send = refl
key_plain keys.Arrive = refl

cell_plain : (c : Cell) → is_plain_word (cell_spelled c) ≡ true
cell_plain (cells.Word k) = key_plain k
cell_plain (cells.Number z) = signed_plain z

all_map : {A B : Type 0} (f : A → B) (p : B → Bool) → ((a : A) → p (f a) ≡ true) → (xs : List A) → list_all p (map f xs) ≡ true
all_map f p h [] = refl
all_map f p h (x ∷ xs) = let e = h x in let k = all_map f p h xs in rw (e, k) refl

all_flat : {A : Type 0} (f : A → List Word) → ((a : A) → list_all is_plain_word (f a) ≡ true) → (xs : List A) → list_all is_plain_word (flat_map f xs) ≡ true
all_flat f h [] = refl
all_flat f h (x ∷ xs) = all_append is_plain_word (f x) (flat_map f xs) (h x) (all_flat f h xs)

action_plain : (a : Action) → list_all is_plain_word (action_words a) ≡ true
unfolding action_words
action_plain a = all_map cell_spelled is_plain_word cell_plain (deed_cells (deed_of a))

-- ---- answers

loaded_plain : (a : Loaded) → list_all is_plain_word (loaded_words a) ≡ true
unfolding is_plain
loaded_plain loaded.Counted = refl
loaded_plain (loaded.Full present wanted) = simp decimal_plain
loaded_plain loaded.Over = refl

unloaded_plain : (a : Unloaded) → list_all is_plain_word (unloaded_words a) ≡ true
unfolding is_plain
unloaded_plain unloaded.Lowered = refl
unloaded_plain unloaded.NoTicket = refl
unloaded_plain unloaded.Over = refl

accept_plain : (a : Accept) → list_all is_plain_word (accept_words a) ≡ true
unfolding is_plain
accept_plain (accept.Posted number) = simp decimal_plain
accept_plain (accept.Full present wanted) = simp decimal_plain

outcome_plain : (o : Outcome) → is_plain_word (outcome_word o) ≡ true
unfolding is_plain
outcome_plain outcome.Done = refl
outcome_plain outcome.Foreign = refl
outcome_plain outcome.Absent = refl
outcome_plain outcome.Full = refl
outcome_plain outcome.NoTicket = refl

ran_plain : (r : Ran) → list_all is_plain_word (ran_words r) ≡ true
ran_plain r = simp (decimal_plain, outcome_plain)

-- ---- events

pub event_plain : (e : Event) → list_all is_plain_word (event_words e) ≡ true
unfolding is_plain
event_plain (Load caller c answer) = simp (decimal_plain, signed_plain, loaded_plain)
event_plain (Unload caller c answer) = simp (decimal_plain, signed_plain, unloaded_plain)
event_plain (Post caller c d a answer) = simp (decimal_plain, signed_plain) (all_append is_plain_word (accept_words answer) (action_words a) (accept_plain answer) (action_plain a))
event_plain (PhaseOpen n) = simp decimal_plain
event_plain (Begin worker region) = simp decimal_plain
event_plain (End worker region tick ran accepts) = simp decimal_plain (all_append is_plain_word (flat_map ran_words ran) _ (all_flat ran_words ran_plain ran) (simp decimal_plain (all_flat accept_words accept_plain accepts)))
event_plain PhaseClose = refl
event_plain Finish = refl
event_plain (Stop caller) = simp decimal_plain

-- ---- rows

state_plain : (s : State) → is_plain_word (state_word s) ≡ true
unfolding is_plain
state_plain state.Transient = refl
state_plain state.Ready = refl
state_plain state.Ticking = refl
state_plain state.Dead = refl

pub region_plain : (r : RegionRow) → list_all is_plain_word (region_words r) ≡ true
unfolding is_plain
region_plain r = simp (decimal_plain, state_plain)

pub owner_plain : (r : OwnerRow) → list_all is_plain_word (owner_words r) ≡ true
unfolding is_plain
owner_plain r = simp (decimal_plain, signed_plain)

pub task_plain : (r : TaskRow) → list_all is_plain_word (task_words r) ≡ true
unfolding is_plain
task_plain r = simp (decimal_plain, signed_plain, action_plain)

place_plain : (p : Place) → list_all is_plain_word (place_words p) ≡ true
unfolding is_plain
place_plain (place.At at) = simp signed_plain
place_plain (place.Transit number) = simp decimal_plain

pub entity_plain : (r : EntityRow) → list_all is_plain_word (entity_words r) ≡ true
unfolding is_plain
entity_plain r = simp (decimal_plain, place_plain)

pub block_plain : (r : BlockAt) → list_all is_plain_word (block_row_words r) ≡ true
unfolding is_plain
block_plain r = simp (decimal_plain, signed_plain)
