-- The events of a history are read from the report.
use Rattle.std.proofs.Common.{◌≡◌, ℕ, refl, sym, ap, ◌∙◌, arith, Bool, true, false, List, [], ◌∷◌, ◌++◌, map, drop, get_or, length, append_assoc}
use Rattle.std.specs.Prelude.{codes, decimal, if◌then◌else◌}
use Rattle.std.specs.List.{list_all}
use Rattle.std.specs.Str.{bytes_eq}
use Rattle.fol_model.specs.declared.closings.Closing.{Closing}
use Rattle.fol_model.specs.declared.events.Event.{Event}
use Rattle.fol_model.specs.declared.events.Event.TheVariants.{Load, Unload, Post, PhaseOpen, Begin, End, PhaseClose, Finish, Stop}
use Rattle.fol_model.specs.declared.events.Entry.{Entry}
use Rattle.fol_model.specs.declared.openings.Opening.{Opening}
use Rattle.fol_model.specs.Run.{Run}
use Rattle.fol_model.specs.LineWords.{Word, line, lines_of, part}
use Rattle.fol_model.specs.ReportWords.{event_words, entry_words, region_words, owner_words, task_words, entity_words, block_row_words}
use Rattle.fol_model.specs.Report.{report_text}
use Rattle.fol_report_laws.specs.Laws.{ReportTellsEvents, ReportTellsRun, AllTold, events}
use Rattle.fol_report_laws.specs.ShortWords.{has_short_words}
use Rattle.fol_report_laws.proofs.ShortWords.{entries_told}
use Rattle.fol_report_laws.proofs.ShortTexts.{short_behind, short_lines}
use Rattle.fol_report_laws.proofs.NoArrivals.{run_posts_no_arrival}
use Rattle.fol_report_laws.proofs.Rows.{is_ink, is_ink_word, rows_in, row_again, rows_again}
use Rattle.fol_report_laws.proofs.InkWords.{decimal_ink, entries_ink}
use Rattle.fol_report_laws.proofs.Events.{event_in, event_again}

-- the row with which the part behind the events begins
abbrev is_next_part : List Word → Bool
is_next_part ws = bytes_eq (get_or ws 0 []) (codes "regions")

abbrev events_in : List (List Word) → List Event
events_in [] = []
events_in (r ∷ rows) = if is_next_part r then [] else event_in r ∷ events_in rows

event_in_part : (e : Event) → is_next_part (event_words e) ≡ false
event_in_part (Load caller c answer) = refl
event_in_part (Unload caller c answer) = refl
event_in_part (Post caller c d a answer) = refl
event_in_part (PhaseOpen n) = refl
event_in_part (Begin worker region) = refl
event_in_part (End worker region tick ran accepts) = refl
event_in_part PhaseClose = refl
event_in_part Finish = refl
event_in_part (Stop caller) = refl

events_again : (es : List Entry) (count : Word) (rows : List (List Word)) → AllTold es → events_in (map entry_words es ++ (codes "regions" ∷ count ∷ []) ∷ rows) ≡ events es
events_again [] count rows h = refl
events_again (e ∷ es) count rows h =
    let first = event_again e.event h.0 in
    let rest = events_again es count rows h.1 in
    rw (event_in_part e.event) (λ i. first i ∷ rest i)

-- ---- the rows of a report

-- behind the rows of the events and the count of the regions
abbrev after_events : Closing → List ℕ
after_events c =
    lines_of region_words c.regions
    ++ part (codes "owners") owner_words c.owners
    ++ part (codes "tasks") task_words c.tasks
    ++ part (codes "entities") entity_words c.entities
    ++ part (codes "blocks") block_row_words c.blocks
    ++ codes "end\n"

abbrev count_row : Word → ℕ → List Word
count_row name n = name ∷ decimal n ∷ []

count_again : (name : Word) (n : ℕ) (text : List ℕ) → is_ink_word name ≡ true → rows_in (line (count_row name n) ++ text) ≡ count_row name n ∷ rows_in text
count_again name n text h =
    let all : list_all is_ink_word (count_row name n) ≡ true = rw (h, decimal_ink n) refl in
    row_again (count_row name n) text (omega arith) all

regrouped : (head n es g rs os ts ns bs foot : List ℕ) → head ++ (n ++ es) ++ (g ++ rs) ++ os ++ ts ++ ns ++ bs ++ foot ≡ head ++ (n ++ (es ++ (g ++ (rs ++ os ++ ts ++ ns ++ bs ++ foot))))
regrouped head n es g rs os ts ns bs foot = simp append_assoc

report_falls : (c : Closing) → report_text c ≡ codes "report 1\n" ++ (line (count_row (codes "events") (length c.history)) ++ (lines_of entry_words c.history ++ (line (count_row (codes "regions") (length c.regions)) ++ after_events c)))
report_falls c = regrouped (codes "report 1\n") (line (count_row (codes "events") (length c.history))) (lines_of entry_words c.history)
    (line (count_row (codes "regions") (length c.regions))) (lines_of region_words c.regions)
    (part (codes "owners") owner_words c.owners) (part (codes "tasks") task_words c.tasks) (part (codes "entities") entity_words c.entities) (part (codes "blocks") block_row_words c.blocks) (codes "end\n")

name_ink : (is_ink_word (codes "events") ≡ true) × (is_ink_word (codes "regions") ≡ true)
unfolding is_ink
name_ink = (refl, refl)

-- the rows of the head, of the events, and behind them
rows_of_report : (c : Closing) → rows_in (report_text c) ≡ (codes "report" ∷ codes "1" ∷ []) ∷ count_row (codes "events") (length c.history) ∷ (map entry_words c.history ++ count_row (codes "regions") (length c.regions) ∷ rows_in (after_events c))
rows_of_report c =
    let tail = line (count_row (codes "regions") (length c.regions)) ++ after_events c in
    let rest = lines_of entry_words c.history ++ tail in
    ap rows_in (report_falls c)
    ∙ ap (λ (rows : List (List Word)). (codes "report" ∷ codes "1" ∷ []) ∷ rows) (count_again (codes "events") (length c.history) rest name_ink.0
    ∙ ap (λ (rows : List (List Word)). count_row (codes "events") (length c.history) ∷ rows) (rows_again entry_words entries_ink c.history tail
    ∙ ap (λ (rows : List (List Word)). map entry_words c.history ++ rows) (count_again (codes "regions") (length c.regions) (after_events c) name_ink.1)))

events_of_report : (c : Closing) → AllTold c.history → events_in (drop 2 (rows_in (report_text c))) ≡ events c.history
events_of_report c h = ap (λ rows. events_in (drop 2 rows)) (rows_of_report c) ∙ events_again c.history (decimal (length c.regions)) (rows_in (after_events c)) h

pub report_tells_events : ReportTellsEvents
report_tells_events c d g h e = sym (events_of_report c g) ∙ ap (λ text. events_in (drop 2 (rows_in text))) e ∙ events_of_report d h

-- ---- the report of a run

history_told : (o : Opening) (c : Closing) → Run o c.history → has_short_words (report_text c) ≡ true → AllTold c.history
history_told o c run h =
    let tail = line (count_row (codes "regions") (length c.regions)) ++ after_events c in
    let head = codes "report 1\n" ++ line (count_row (codes "events") (length c.history)) in
    let e : report_text c ≡ head ++ (lines_of entry_words c.history ++ tail) =
    report_falls c ∙ sym (append_assoc (codes "report 1\n") (line (count_row (codes "events") (length c.history))) (lines_of entry_words c.history ++ tail)) in
    let behind = short_behind head (lines_of entry_words c.history ++ tail) (sym (ap has_short_words e) ∙ h) in
    entries_told c.history (short_lines entry_words entries_ink c.history tail behind) (run_posts_no_arrival o c.history run)

pub report_tells_run : ReportTellsRun
report_tells_run o p c d run later h e =
    report_tells_events c d (history_told o c run h) (history_told p d later (ap has_short_words (sym e) ∙ h)) e
