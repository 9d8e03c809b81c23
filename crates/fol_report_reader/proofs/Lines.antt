-- The line of a row is one line, and its words are those of the row.
use Rattle.std.proofs.Common.{◌≡◌, ℕ, refl, ap, ◌∙◌, arith, Bool, true, List, [], ◌∷◌, decimal, codes}
use Rattle.std.specs.Prelude.{ℤ, pos}
use Rattle.std.specs.Fmt.{signed_decimal}
use Rattle.std.specs.List.{list_all}
use Rattle.std.proofs.lemmas.Bool.{and_parts, and_from}
use Rattle.fol_model.specs.declared.actions.Action.{Action}
use Rattle.fol_model.specs.declared.entities.Place.TheVariants.{At}
use Rattle.fol_model.specs.declared.events.Accept.TheVariants.{Posted}
use Rattle.fol_model.specs.declared.events.Event.TheVariants.{Post}
use Rattle.fol_model.specs.declared.events.Entry.{Entry}
use Rattle.fol_model.specs.declared.openings.BlockAt.{BlockAt}
use Rattle.fol_model.specs.declared.regions.State.{State}
use Rattle.fol_model.specs.declared.regions.State.TheVariants.{Transient, Ready, Ticking, Dead}
use Rattle.fol_model.specs.declared.closings.RegionRow.{RegionRow}
use Rattle.fol_model.specs.declared.closings.OwnerRow.{OwnerRow}
use Rattle.fol_model.specs.declared.closings.TaskRow.{TaskRow}
use Rattle.fol_model.specs.declared.closings.EntityRow.{EntityRow}
use Rattle.fol_model.specs.TextLines.{words, line_of}
use Rattle.fol_model.specs.LineWords.{Word}
use Rattle.fol_model.specs.ReportWords.{action_words, block_row_words, entity_words, entry_words, owner_words, region_words, state_word, task_words}
use Rattle.fol_report_laws.proofs.InkWords.{blocks_ink, decimal_ink, entities_ink, entries_ink}
use Rattle.fol_report_laws.proofs.Rows.{InkRows, is_ink, is_ink_word, line_words}
use Rattle.fol_events.specs.Cuts.{has_no_feed}
use Rattle.fol_events.proofs.Cuts.{line_no_feed}
use Rattle.fol_report_reader.specs.Parts.{is_name}

behind : {A : Type 0} (p : A → Bool) (x : A) (xs : List A) → list_all p (x ∷ xs) ≡ true → list_all p xs ≡ true
behind p x xs h = (and_parts (p x) (list_all p xs) h).1

first : {A : Type 0} (p : A → Bool) (x : A) (xs : List A) → list_all p (x ∷ xs) ≡ true → p x ≡ true
first p x xs h = (and_parts (p x) (list_all p xs) h).0

signed_ink : (z : ℤ) → is_ink_word (signed_decimal z) ≡ true
signed_ink z =
    let w = signed_decimal z in
    let h = entities_ink.ink (record { id = 0; place = At (record { x = z; y = z; z = z }) }) in
    first is_ink_word w (w ∷ w ∷ []) (behind is_ink_word (codes "at") (w ∷ w ∷ w ∷ []) (behind is_ink_word (decimal 0) (codes "at" ∷ w ∷ w ∷ w ∷ []) (behind is_ink_word (codes "entity") (decimal 0 ∷ codes "at" ∷ w ∷ w ∷ w ∷ []) h)))

action_ink : (a : Action) → list_all is_ink_word (action_words a) ≡ true
action_ink a =
    let o = signed_decimal (pos 0) in
    let n = decimal 0 in
    let h = entries_ink.ink (record { by = 0; event = Post 0 (record { x = pos 0; z = pos 0 }) 0 a (Posted 0) }) in
    behind is_ink_word n (action_words a) (behind is_ink_word (codes "posted") (n ∷ action_words a) (behind is_ink_word n (codes "posted" ∷ n ∷ action_words a) (behind is_ink_word o (n ∷ codes "posted" ∷ n ∷ action_words a)
    (behind is_ink_word o (o ∷ n ∷ codes "posted" ∷ n ∷ action_words a) (behind is_ink_word n (o ∷ o ∷ n ∷ codes "posted" ∷ n ∷ action_words a) (behind is_ink_word (codes "post") (n ∷ o ∷ o ∷ n ∷ codes "posted" ∷ n ∷ action_words a) h))))))

state_ink : (s : State) → is_ink_word (state_word s) ≡ true
unfolding is_ink
state_ink Transient = refl
state_ink Ready = refl
state_ink Ticking = refl
state_ink Dead = refl

region_ink : (r : RegionRow) → list_all is_ink_word (region_words r) ≡ true
unfolding is_ink
region_ink r = simp (decimal_ink, state_ink)

owner_ink : (r : OwnerRow) → list_all is_ink_word (owner_words r) ≡ true
unfolding is_ink
owner_ink r = simp (decimal_ink, signed_ink)

task_ink : (r : TaskRow) → list_all is_ink_word (task_words r) ≡ true
unfolding is_ink
task_ink r = simp (decimal_ink, signed_ink, action_ink)

pub regions_ink : InkRows region_words
regions_ink = record { some = λ r. omega arith; ink = region_ink }

pub owners_ink : InkRows owner_words
owners_ink = record { some = λ r. omega arith; ink = owner_ink }

pub tasks_ink : InkRows task_words
tasks_ink = record { some = λ r. omega arith; ink = task_ink }

-- ---- one line

one_line : {R : Type 0} (ws : R → List Word) → InkRows ws → (r : R) → has_no_feed (line_of (ws r)) ≡ true
one_line ws ink r = line_no_feed (ws r) (ink.some r) (ink.ink r)

pub region_line : (r : RegionRow) → has_no_feed (line_of (region_words r)) ≡ true
region_line r = one_line region_words regions_ink r

pub owner_line : (r : OwnerRow) → has_no_feed (line_of (owner_words r)) ≡ true
owner_line r = one_line owner_words owners_ink r

pub task_line : (r : TaskRow) → has_no_feed (line_of (task_words r)) ≡ true
task_line r = one_line task_words tasks_ink r

pub entity_line : (r : EntityRow) → has_no_feed (line_of (entity_words r)) ≡ true
entity_line r = one_line entity_words entities_ink r

pub block_line : (r : BlockAt) → has_no_feed (line_of (block_row_words r)) ≡ true
block_line r = one_line block_row_words blocks_ink r

pub entry_line : (e : Entry) → has_no_feed (line_of (entry_words e)) ≡ true
entry_line e = one_line entry_words entries_ink e

-- ---- the words of a line

pub words_of : {R : Type 0} (ws : R → List Word) → InkRows ws → (r : R) (l : List ℕ) → l ≡ line_of (ws r) → words l ≡ ws r
words_of ws ink r l h = ap words h ∙ line_words (ws r) (ink.some r) (ink.ink r)

-- ---- the line that tells a count

count_words_ink : (name : Word) (n : ℕ) → is_name name ≡ true → list_all is_ink_word (name ∷ decimal n ∷ []) ≡ true
unfolding is_ink
count_words_ink name n h = and_from (is_ink_word name) (list_all is_ink_word (decimal n ∷ [])) h (simp decimal_ink)

pub count_feed : (name : Word) (n : ℕ) → is_name name ≡ true → has_no_feed (line_of (name ∷ decimal n ∷ [])) ≡ true
count_feed name n h = line_no_feed (name ∷ decimal n ∷ []) (omega arith) (count_words_ink name n h)

pub count_words : (name : Word) (n : ℕ) (l : List ℕ) → is_name name ≡ true → l ≡ line_of (name ∷ decimal n ∷ []) → words l ≡ name ∷ decimal n ∷ []
count_words name n l h e = ap words e ∙ line_words (name ∷ decimal n ∷ []) (omega arith) (count_words_ink name n h)
