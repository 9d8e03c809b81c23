-- The compact text of the report's JSON value is the text of `JsonReport`.
use Rattle.std.proofs.Common.{◌≡◌, refl, sym, ap, ◌∙◌, true, false, List, [], ◌∷◌, ◌++◌, append_assoc, map, flat_map, ℕ}
use Rattle.std.specs.Prelude.{codes}
use Rattle.std.specs.List.{list_all}
use Rattle.std.specs.Fmt.{digits}
use Rattle.serde_json.specs.Data.{string}
use Rattle.serde_json.specs.View.{items_of}
use Rattle.serde_json.specs.Written.{items_text, compact_text}
use Rattle.json.specs.Print.{escape, escape_byte}
use Rattle.fol_model.specs.declared.closings.Closing.{Closing}
use Rattle.fol_model.specs.TextLines.{line_of}
use Rattle.fol_model.specs.LineWords.{Word}
use Rattle.fol_model.specs.ReportWords.{entry_words, region_words, owner_words, task_words, entity_words, block_row_words}
use Rattle.fol_model.specs.JsonReport.{in_quotes, quoted_lines, json_text}
use Rattle.fol_report.specs.Spaced.{joined}
use Rattle.fol_report.specs.JsonData.{report_data}
use Rattle.fol_report.proofs.Joined.{line_of_joined}
use Rattle.fol_report.proofs.PlainBytes.{is_plain_word, plain_stays, joined_plain}
use Rattle.fol_report.proofs.PlainWords.{event_plain, region_plain, owner_plain, task_plain, entity_plain, block_plain}

-- a line of plain words stands in quotes as it is
line_stays : (ws : List Word) → list_all is_plain_word ws ≡ true → escape (joined ws) ≡ line_of ws
line_stays ws h = plain_stays (joined ws) (joined_plain ws h) ∙ sym (line_of_joined ws)

module _ {R : Type 0} (words : R → List Word) (plain : (r : R) → list_all is_plain_word (words r) ≡ true) where
  later : (rows : List R) → items_text true (items_of (map (λ r. string (joined (words r))) rows)) ≡ flat_map (λ q. 44 ∷ in_quotes (line_of (words q))) rows ++ 93 ∷ []
  later [] = refl
  later (r ∷ rs) = let e = line_stays (words r) (plain r) in let k = later rs in rw (e, k) (ap (λ t. 44 ∷ 34 ∷ t) (sym (append_assoc (line_of (words r) ++ 34 ∷ []) (flat_map (λ q. 44 ∷ in_quotes (line_of (words q))) rs) (93 ∷ []))))

  -- the text of an array of lines
  pub listed : (rows : List R) → items_text false (items_of (map (λ r. string (joined (words r))) rows)) ≡ quoted_lines words rows ++ 93 ∷ []
  listed [] = refl
  listed (r ∷ rs) = let e = line_stays (words r) (plain r) in let k = later rs in rw (e, k) (ap (λ t. 34 ∷ t) (sym (append_assoc (line_of (words r) ++ 34 ∷ []) (flat_map (λ q. 44 ∷ in_quotes (line_of (words q))) rs) (93 ∷ []))))

-- brackets and commas, whatever stands between
shape : (b e v o r t : List ℕ) →
    (123 ∷ (codes "\"blocks\":[" ++ ((b ++ 93 ∷ []) ++ (codes ",\"entities\":[" ++ ((e ++ 93 ∷ []) ++ (codes ",\"events\":[" ++ ((v ++ 93 ∷ []) ++ (codes ",\"owners\":[" ++ ((o ++ 93 ∷ []) ++ (codes ",\"regions\":[" ++ ((r ++ 93 ∷ []) ++ (codes ",\"report\":1" ++ (codes ",\"tasks\":[" ++ ((t ++ 93 ∷ []) ++ 125 ∷ [])))))))))))))) ++ 10 ∷ []
    ≡ codes "{\"blocks\":[" ++ b ++ codes "],\"entities\":[" ++ e ++ codes "],\"events\":[" ++ v ++ codes "],\"owners\":[" ++ o ++ codes "],\"regions\":[" ++ r ++ codes "],\"report\":1,\"tasks\":[" ++ t ++ codes "]}\n"
shape b e v o r t = simp append_assoc

pub json_text_of : (c : Closing) → compact_text (report_data c) ++ 10 ∷ [] ≡ json_text c
unfolding escape_byte digits
json_text_of c = rw (
  listed block_row_words block_plain c.blocks,
  listed entity_words entity_plain c.entities,
  listed entry_words (λ e. event_plain e.event) c.history,
  listed owner_words owner_plain c.owners,
  listed region_words region_plain c.regions,
  listed task_words task_plain c.tasks,
)
    (shape (quoted_lines block_row_words c.blocks) (quoted_lines entity_words c.entities) (quoted_lines entry_words c.history) (quoted_lines owner_words c.owners) (quoted_lines region_words c.regions) (quoted_lines task_words c.tasks))
