-- The summary of a made session: a line for each count, and the sum of the block numbers.
use Rattle.std.specs.Prelude.{ℕ, Bool, true, false, List, [], ◌∷◌, ◌++◌, length, sum_by, count_by, codes, decimal}
use Rattle.fol_model.specs.declared.closings.Closing.{Closing}
use Rattle.fol_model.specs.declared.events.Accept.TheVariants as accept
use Rattle.fol_model.specs.declared.events.Loaded.TheVariants as loaded
use Rattle.fol_model.specs.declared.events.Event.{Event}
use Rattle.fol_model.specs.declared.events.Event.TheVariants.{Load, Post, End}
use Rattle.fol_model.specs.LineWords.{Word, line}

abbrev pub is_counted_load : Event → Bool
is_counted_load (Load caller c loaded.Counted) = true
is_counted_load _ = false

abbrev pub is_posted_post : Event → Bool
is_posted_post (Post caller c d a (accept.Posted number)) = true
is_posted_post _ = false

abbrev pub is_end_event : Event → Bool
is_end_event (End worker r tick ran accepts) = true
is_end_event _ = false

-- how many tasks ran in the tick that the event ends
abbrev pub ran_count : Event → ℕ
ran_count (End worker r tick ran accepts) = length ran
ran_count _ = 0

abbrev pub count_line : Word → ℕ → List ℕ
count_line word n = line (word ∷ decimal n ∷ [])

abbrev pub summary_text : ℕ → Closing → List ℕ
summary_text n c =
    count_line (codes "made") n
    ++ count_line (codes "loads") (count_by (λ e. is_counted_load e.event) c.history)
    ++ count_line (codes "posts") (count_by (λ e. is_posted_post e.event) c.history)
    ++ count_line (codes "ticks") (count_by (λ e. is_end_event e.event) c.history)
    ++ count_line (codes "ran") (sum_by (λ e. ran_count e.event) c.history)
    ++ count_line (codes "regions") (length c.regions)
    ++ count_line (codes "sections") (length c.owners)
    ++ count_line (codes "blocks") (length c.blocks)
    ++ count_line (codes "sum") (sum_by (λ b. b.id) c.blocks)
    ++ codes "end\n"
