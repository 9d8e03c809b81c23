-- What a summary counts of a history.
use Rattle.std.specs.Prelude.{◌≡◌, List, sum_by, count_by}
use Rattle.fol_model.specs.declared.events.Entry.{Entry}
use Rattle.fol_model.specs.Summary.{is_counted_load, is_posted_post, is_end_event, ran_count}
use Rattle.fol_report.specs.declared.counts.Tally.{Tally}

-- the tally is that of these entries
pub record CountsEvents (entries : List Entry) (t : Tally) : Type 0 where
  pub loads : t.loads ≡ count_by (λ e. is_counted_load e.event) entries
  pub posts : t.posts ≡ count_by (λ e. is_posted_post e.event) entries
  pub ticks : t.ticks ≡ count_by (λ e. is_end_event e.event) entries
  pub ran : t.ran ≡ sum_by (λ e. ran_count e.event) entries
