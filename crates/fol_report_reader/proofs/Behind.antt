-- A report from its parts.
use Rattle.std.proofs.Common.{◌≡◌, ℕ, subst, List, ◌++◌, codes, append_assoc, Ok, Err}
use Rattle.std.specs.Prelude.{Result}
use Rattle.std.specs.Result.{IfOk, MatchResult}
use Rattle.fol_model.specs.declared.closings.Closing.{Closing}
use Rattle.fol_model.specs.LineWords.{part}
use Rattle.fol_model.specs.Report.{report_text}
use Rattle.fol_model.specs.ReportWords.{block_row_words, entity_words, entry_words, owner_words, region_words, task_words}
use Rattle.fol_report_reader.specs.Reports.{events_on, further}
use Rattle.fol_report_reader.specs.declared.parts.Fault.{Fault}

-- what was read behind a part
pub read_behind : {T : Type 0} (read result : Result T Fault) (y : T) (rows : ℕ) → MatchResult read (λ x. result ≡ Ok x) (λ e. result ≡ Err (further rows e)) → result ≡ Ok y → (P : T → Type 0) → IfOk read P → P y
read_behind {T} (Ok x) result y rows m e P h = let same : x ≡ y = cc in subst P same h
read_behind {T} (Err z) result y rows m e P h = absurd (cc)

-- eight texts one behind the other
in_turn : (a b d e f g h k : List ℕ) → a ++ (b ++ (d ++ (e ++ (f ++ (g ++ (h ++ k)))))) ≡ ((((((a ++ b) ++ d) ++ e) ++ f) ++ g) ++ h) ++ k
in_turn a b d e f g h k = simp append_assoc

-- the report of these rows
pub whole : (c : Closing) → codes "report 1\n" ++ events_on (c.history, (c.regions, (c.owners, (c.tasks, (c.entities, c.blocks))))) ≡ report_text c
whole c = in_turn (codes "report 1\n") (part (codes "events") entry_words c.history) (part (codes "regions") region_words c.regions) (part (codes "owners") owner_words c.owners) (part (codes "tasks") task_words c.tasks) (part (codes "entities") entity_words c.entities) (part (codes "blocks") block_row_words c.blocks) (codes "end\n")
