-- What the due tasks of a tick ask for, and the answers that they got.
use Rattle.std.specs.Prelude.{List, [], ◌∷◌, Option, Some, None}
use Rattle.fol_model.specs.declared.actions.Action.{Action}
use Rattle.fol_model.specs.declared.actions.Action.TheVariants as action
use Rattle.fol_model.specs.declared.tasks.Outcome.{Outcome}
use Rattle.fol_model.specs.declared.tasks.Outcome.TheVariants as outcome
use Rattle.fol_model.specs.declared.tasks.Ran.{Ran}
use Rattle.fol_model.specs.declared.tasks.Task.{Task}
use Rattle.fol_model.specs.Legal.{load_outcome, unload_outcome}
use Rattle.fol_tick.specs.declared.list_host.HostAnswer.{HostAnswer}
use Rattle.fol_tick.specs.declared.list_host.HostAnswer.TheVariants as answers
use Rattle.fol_check.specs.declared.asks.Ask.{Ask}
use Rattle.fol_check.specs.declared.asks.Ask.TheVariants as asks

-- what a plain action asks for
abbrev pub ask_in : Action → Option Ask
ask_in (action.Load c) = Some (asks.Load c)
ask_in (action.Unload c) = Some (asks.Unload c)
ask_in _ = None

-- the action that asks for it
abbrev pub action_asked : Ask → Action
action_asked (asks.Load c) = action.Load c
action_asked (asks.Unload c) = action.Unload c

abbrev pub outcome_answered : HostAnswer → Outcome
outcome_answered (answers.Load a) = load_outcome a
outcome_answered (answers.Unload a) = unload_outcome a
outcome_answered answers.NoMemory = outcome.Done

-- the answer is one to this ask
abbrev pub IsAnswerTo : Ask → HostAnswer → Type 0
IsAnswerTo (asks.Load c) (answers.Load a) = Unit {0}
IsAnswerTo (asks.Unload c) (answers.Unload a) = Unit {0}
IsAnswerTo _ _ = ⊥

-- the answers are those to the first asks
abbrev pub AreAnswers : List Ask → List HostAnswer → Type 0
AreAnswers asks [] = Unit {0}
AreAnswers [] (h ∷ hs) = ⊥
AreAnswers (a ∷ ks) (h ∷ hs) = IsAnswerTo a h × AreAnswers ks hs

-- what the first of the tasks came to by these answers
abbrev pub told_by : List Task → List HostAnswer → List Ran
told_by ts [] = []
told_by [] (h ∷ hs) = []
told_by (t ∷ ts) (h ∷ hs) = (record { number = t.number; outcome = outcome_answered h }) ∷ told_by ts hs
