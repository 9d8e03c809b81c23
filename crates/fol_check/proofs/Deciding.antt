-- What a replay and a comparison say of a report.
use Rattle.std.proofs.Common.{ℕ, List}
use Rattle.std.specs.Prelude.{Result, Ok, Err, IfOk}
use Rattle.std.specs.declared.alloc.AllocError.{AllocError}
use Rattle.fol_model.specs.declared.openings.Opening.{Opening}
use Rattle.fol_model.specs.declared.scripts.Command.{Command}
use Rattle.fol_model.specs.declared.closings.Closing.{Closing}
use Rattle.fol_model.specs.declared.events.Entry.{Entry}
use Rattle.fol_report_laws.specs.Laws.{events}
use Rattle.fol_events.specs.Told.{IsTold}
use Rattle.fol_check.specs.Replays.{Ends, StopsAt}
use Rattle.fol_check.specs.Verdicts.{Compares, IsUnlawful, Judges}
use Rattle.fol_check.specs.declared.verdicts.Verdict.{Verdict}
use Rattle.fol_check.specs.declared.verdicts.Verdict.TheVariants.{Event as AtEvent, Legal, State, Text}
use Rattle.fol_check.proofs.SameBy.{told_again}

module _ (o : Opening) (cs : List Command) (bytes : List ℕ) (h : List Entry) (told : IsTold bytes h) where
  judged : (c : Closing) (v : Verdict) → Ends o cs (events h) c → Compares c bytes v → Judges o cs bytes v
  judged c Legal ends same = record { events = events h; told = told_again bytes h told; closing = c; ends = ends; text = same }
  judged c (Text l) ends none = absurd none
  judged c (AtEvent n) ends none = absurd none
  judged c (State l) ends other = record { events = events h; told = told_again bytes h told; closing = c; ends = ends; other = other.0; line = other.1 }

  pub compared : (c : Closing) (r : Result Verdict AllocError) → Ends o cs (events h) c → IfOk r (λ v. Compares c bytes v) → IfOk r (λ v. Judges o cs bytes v)
  compared c (Err e) ends told = tt
  compared c (Ok v) ends told = judged c v ends told

  pub stopped : (n : ℕ) → StopsAt o cs (events h) n → IsUnlawful o cs bytes n
  stopped n stops = record { events = events h; told = told_again bytes h told; stops = stops }
