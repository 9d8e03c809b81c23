-- The answers of a tick that may end.
use Rattle.std.proofs.Common.{◌≡◌, ℕ, ◌<◌, Some, None, get_or, suc, IsTrue}
use Rattle.std.specs.List.{list_all}
use Rattle.fol_tick.specs.ListAnswers.{is_answer}
use Rattle.fol_check.specs.Asked.{IsAt}
use Rattle.fol_check.specs.Standing.{Stands}
use Rattle.fol_check.specs.declared.asks.Open.{Open}
use Rattle.fol_check.specs.declared.replay.Replay.{Replay}

pub given_in : (s : Replay) (k : ℕ) (p : Open) → k < 64 → Stands s → get_or s.workers.items k None ≡ Some p → IsTrue (list_all is_answer p.answers.items)
given_in s k p low st there =
    let at : IsAt s.core (suc k) (Some p) = rw there at (st.workers k low) in
    at.tick.given
