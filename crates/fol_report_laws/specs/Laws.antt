-- What holds of the reports of closings.
use Rattle.std.specs.Prelude.{◌≡◌, List, map, IsTrue}
use Rattle.std.specs.List.{AllByRecursion}
use Rattle.fol_model.specs.declared.openings.Opening.{Opening}
use Rattle.fol_model.specs.declared.closings.Closing.{Closing}
use Rattle.fol_model.specs.declared.events.Event.{Event}
use Rattle.fol_model.specs.declared.events.Entry.{Entry}
use Rattle.fol_model.specs.Report.{report_text}
use Rattle.fol_model.specs.JsonReport.{json_text}
use Rattle.fol_model.specs.Run.{Run}
use Rattle.fol_report_laws.specs.Told.{IsTold, PostsNoArrival}
use Rattle.fol_report_laws.specs.ShortWords.{has_short_words}

-- all but the seats that recorded them
abbrev pub events : List Entry → List Event
events es = map (λ e. e.event) es

abbrev pub AllTold : List Entry → Type 0
AllTold es = AllByRecursion (λ e. IsTold e.event) es

abbrev pub NoArrivals : List Entry → Type 0
NoArrivals es = AllByRecursion (λ e. PostsNoArrival e.event) es

-- two closings with the same report have the same events
abbrev pub ReportTellsEvents : Type 0
ReportTellsEvents = (c d : Closing) → AllTold c.history → AllTold d.history → report_text c ≡ report_text d → events c.history ≡ events d.history

-- so do two runs, where the text of the report has short words alone: nothing else has to be known of the histories
abbrev pub ReportTellsRun : Type 0
ReportTellsRun = (o p : Opening) (c d : Closing) → Run o c.history → Run p d.history → IsTrue (has_short_words (report_text c)) → report_text c ≡ report_text d → events c.history ≡ events d.history

-- the same of the JSON form
abbrev pub JsonTellsEvents : Type 0
JsonTellsEvents = (c d : Closing) → AllTold c.history → AllTold d.history → json_text c ≡ json_text d → events c.history ≡ events d.history

abbrev pub JsonTellsRun : Type 0
JsonTellsRun = (o p : Opening) (c d : Closing) → Run o c.history → Run p d.history → IsTrue (has_short_words (json_text c)) → json_text c ≡ json_text d → events c.history ≡ events d.history

-- no event of a run posts an arrival
abbrev pub RunPostsNoArrival : Type 0
RunPostsNoArrival = (o : Opening) (es : List Entry) → Run o es → NoArrivals es
