-- The events of a history are read from the JSON text.
use Rattle.std.proofs.Common.{◌≡◌, ℕ, refl, sym, ap, ◌∙◌, true, List, [], ◌∷◌, ◌++◌, map, append_assoc}
use Rattle.std.specs.Prelude.{codes}
use Rattle.fol_model.specs.declared.openings.Opening.{Opening}
use Rattle.fol_model.specs.declared.closings.Closing.{Closing}
use Rattle.fol_model.specs.declared.events.Event.{Event}
use Rattle.fol_model.specs.declared.events.Entry.{Entry}
use Rattle.fol_model.specs.TextLines.{words, line_of}
use Rattle.fol_model.specs.ReportWords.{entry_words, region_words, owner_words, task_words, entity_words, block_row_words}
use Rattle.fol_model.specs.JsonReport.{json_text, quoted_lines}
use Rattle.fol_model.specs.Run.{Run}
use Rattle.fol_report_laws.specs.Laws.{JsonTellsEvents, JsonTellsRun, AllTold, events}
use Rattle.fol_report_laws.specs.ShortWords.{has_short_words}
use Rattle.fol_report_laws.proofs.Rows.{line_words}
use Rattle.fol_report_laws.proofs.InkWords.{entries_ink, blocks_ink, entities_ink}
use Rattle.fol_report_laws.proofs.ShortWords.{entries_told}
use Rattle.fol_report_laws.proofs.ShortTexts.{short_behind, short_quoted}
use Rattle.fol_report_laws.proofs.NoArrivals.{run_posts_no_arrival}
use Rattle.fol_report_laws.proofs.Events.{event_in, event_again}
use Rattle.fol_report_laws.proofs.JsonPieces.{pieces, array_falls, behind_events, NoEvents, array_skipped, lines_in, array_lines}

-- ---- the parts of the text

-- behind the name of the owners and the opening of their array
abbrev after_owners : Closing → List ℕ
after_owners c =
    quoted_lines owner_words c.owners
    ++ codes "],\"regions\":[" ++ quoted_lines region_words c.regions
    ++ codes "],\"report\":1,\"tasks\":[" ++ quoted_lines task_words c.tasks
    ++ codes "]}\n"

abbrev after_events : Closing → List ℕ
after_events c = codes "],\"" ++ (codes "owners\":[" ++ after_owners c)

abbrev before_events : Closing → List ℕ
before_events c = codes "{\"blocks\":[" ++ (quoted_lines block_row_words c.blocks ++ (codes "],\"entities\":[" ++ (quoted_lines entity_words c.entities ++ codes "],\"events\":[")))

regrouped : (a bs b ns n es o os r rs t ts foot : List ℕ)
    → a ++ bs ++ b ++ ns ++ n ++ es ++ o ++ os ++ r ++ rs ++ t ++ ts ++ foot ≡ (a ++ (bs ++ (b ++ (ns ++ n)))) ++ (es ++ (o ++ (os ++ r ++ rs ++ t ++ ts ++ foot)))
regrouped a bs b ns n es o os r rs t ts foot = simp append_assoc

json_parts : (c : Closing) → json_text c ≡ before_events c ++ (quoted_lines entry_words c.history ++ after_events c)
json_parts c = regrouped (codes "{\"blocks\":[") (quoted_lines block_row_words c.blocks) (codes "],\"entities\":[") (quoted_lines entity_words c.entities)
    (codes "],\"events\":[") (quoted_lines entry_words c.history) (codes "],\"owners\":[") (quoted_lines owner_words c.owners)
    (codes "],\"regions\":[") (quoted_lines region_words c.regions) (codes "],\"report\":1,\"tasks\":[") (quoted_lines task_words c.tasks) (codes "]}\n")

-- ---- the pieces of the text

regrouped_back : (a bs b ns n rest : List ℕ) → (a ++ (bs ++ (b ++ (ns ++ n)))) ++ rest ≡ a ++ (bs ++ (b ++ (ns ++ (n ++ rest))))
regrouped_back a bs b ns n rest = simp append_assoc

no_block : NoEvents block_row_words
no_block r = refl

no_entity : NoEvents entity_words
no_entity r = refl

-- the text behind the name of the events, and behind the name of the entities
abbrev events_on : Closing → List ℕ
events_on c = codes ":[" ++ (quoted_lines entry_words c.history ++ after_events c)

abbrev entities_on : Closing → List ℕ
entities_on c = codes ":[" ++ (quoted_lines entity_words c.entities ++ (codes "],\"" ++ (codes "events\"" ++ events_on c)))

abbrev blocks_on : Closing → List ℕ
blocks_on c = codes ":[" ++ (quoted_lines block_row_words c.blocks ++ (codes "],\"" ++ (codes "entities\"" ++ entities_on c)))

json_falls : (c : Closing) → json_text c ≡ codes "{\"blocks\"" ++ blocks_on c
json_falls c = json_parts c
    ∙ regrouped_back (codes "{\"blocks\":[") (quoted_lines block_row_words c.blocks) (codes "],\"entities\":[") (quoted_lines entity_words c.entities) (codes "],\"events\":[") (quoted_lines entry_words c.history ++ after_events c)

behind_entities : (c : Closing) → behind_events (pieces (entities_on c)) ≡ pieces (events_on c)
behind_entities c =
    ap behind_events (array_falls entity_words entities_ink c.entities (codes "events\"" ++ events_on c))
    ∙ array_skipped entity_words no_entity c.entities (pieces (codes "events\"" ++ events_on c))

behind_blocks : (c : Closing) → behind_events (pieces (blocks_on c)) ≡ behind_events (pieces (entities_on c))
behind_blocks c =
    ap behind_events (array_falls block_row_words blocks_ink c.blocks (codes "entities\"" ++ entities_on c))
    ∙ array_skipped block_row_words no_block c.blocks (pieces (codes "entities\"" ++ entities_on c))

behind_name : (c : Closing) → behind_events (pieces (json_text c)) ≡ pieces (events_on c)
behind_name c = ap (λ text. behind_events (pieces text)) (json_falls c) ∙ behind_blocks c ∙ behind_entities c

-- ---- the events of the text

lines_of_json : (c : Closing) → lines_in (behind_events (pieces (json_text c))) ≡ map (λ e. line_of (entry_words e)) c.history
lines_of_json c =
    ap lines_in (behind_name c ∙ array_falls entry_words entries_ink c.history (codes "owners\":[" ++ after_owners c))
    ∙ array_lines entry_words c.history (codes "owners") (pieces (codes ":[" ++ after_owners c))

lines_again : (es : List Entry) → AllTold es → map (λ l. event_in (words l)) (map (λ e. line_of (entry_words e)) es) ≡ events es
lines_again [] h = refl
lines_again (e ∷ es) h =
    let first = ap event_in (line_words (entry_words e) (entries_ink.some e) (entries_ink.ink e)) ∙ event_again e.event h.0 in
    let rest = lines_again es h.1 in
    λ i. first i ∷ rest i

abbrev events_in : List ℕ → List Event
events_in text = map (λ l. event_in (words l)) (lines_in (behind_events (pieces text)))

events_of_json : (c : Closing) → AllTold c.history → events_in (json_text c) ≡ events c.history
events_of_json c h = ap (map (λ l. event_in (words l))) (lines_of_json c) ∙ lines_again c.history h

pub json_tells_events : JsonTellsEvents
json_tells_events c d g h e = sym (events_of_json c g) ∙ ap events_in e ∙ events_of_json d h

-- ---- the JSON text of a run

history_told : (o : Opening) (c : Closing) → Run o c.history → has_short_words (json_text c) ≡ true → AllTold c.history
history_told o c run h =
    let behind = short_behind (before_events c) (quoted_lines entry_words c.history ++ after_events c) (sym (ap has_short_words (json_parts c)) ∙ h) in
    entries_told c.history (short_quoted entry_words entries_ink c.history (after_events c) behind) (run_posts_no_arrival o c.history run)

pub json_tells_run : JsonTellsRun
json_tells_run o p c d run later h e =
    json_tells_events c d (history_told o c run h) (history_told p d later (ap has_short_words (sym e) ∙ h)) e
