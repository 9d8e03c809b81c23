-- What a replay of events came to.
use Rattle.std.specs.Prelude.{ℕ, ◌≡◌, ◌+◌, ◌≤◌, ◌<◌, ◌++◌, ◌∷◌, [], true, false, Bool, List, length, map, take}
use Rattle.fol_model.specs.Legal.{Legal}
use Rattle.fol_model.specs.Outputs.{Outputs}
use Rattle.fol_model.specs.SoFar.{SoFar}
use Rattle.fol_model.specs.declared.openings.Opening.{Opening}
use Rattle.fol_model.specs.declared.scripts.Command.{Command}
use Rattle.fol_model.specs.declared.closings.Closing.{Closing}
use Rattle.fol_model.specs.declared.events.Entry.{Entry}
use Rattle.fol_model.specs.declared.events.Event.{Event}
use Rattle.fol_model.specs.declared.events.Event.TheVariants.{Finish}
use Rattle.fol_check.specs.Next.{entry_of}
use Rattle.fol_check.specs.Standing.{Stands}
use Rattle.fol_check.specs.declared.replay.Replay.{Replay}
use Rattle.fol_check.specs.declared.whole.Replayed.{Replayed}
use Rattle.fol_check.specs.declared.whole.Replayed.TheVariants.{Whole, Stops}

-- the entries of these events, each as the one that it names records it
abbrev pub entries : List Event → List Entry
entries es = map entry_of es

abbrev pub is_last : Event → Bool
is_last Finish = true
is_last _ = false

-- the last entry is Finish
pub record LastFinishes (h : List Entry) : Type 0 where
  pub before : List Entry
  pub last : Entry
  pub is : h ≡ before ++ last ∷ []
  pub finish : is_last last.event ≡ true

-- the first n events are the beginning of a history of the script
abbrev pub SoFarAt : Opening → List Command → List Event → ℕ → Type 0
SoFarAt o script es n = SoFar o script 64 (entries (take n es))

-- the events before event n are the beginning of a history of the script, and with it they are not; or n is one more than there are events,
-- and they are such a beginning whose last is not Finish
pub record StopsAt (o : Opening) (script : List Command) (es : List Event) (n : ℕ) : Type 0 where
  pub before : ℕ
  pub place : n ≡ before + 1
  pub within : before ≤ length es
  pub so_far : SoFarAt o script es before
  pub no_more : before < length es → SoFarAt o script es n → ⊥
  pub unfinished : before ≡ length es → LastFinishes (entries es) → ⊥

-- the events are a legal history of the script, and the closing has the rows of the world after them
pub record Ends (o : Opening) (script : List Command) (es : List Event) (c : Closing) : Type 0 where
  pub legal : Legal o script 64 (entries es)
  pub outputs : Outputs o (entries es) c

abbrev pub Replays : Opening → List Command → List Event → Replayed → Type 0
Replays o script es (Whole c) = Ends o script es c
Replays o script es (Stops n) = StopsAt o script es n

-- a replay that is finished closes so
pub record Closes (s : Replay) (c : Closing) : Type 0 where
  pub legal : Legal s.core.opening s.script 64 s.core.history
  pub outputs : Outputs s.core.opening s.core.history c

-- the replay stands for the first n of the events, and these are left
pub record Played (s : Replay) (o : Opening) (script : List Command) (es left : List Event) (n : ℕ) : Type 0 where
  pub stands : Stands s
  pub opening : s.core.opening ≡ o
  pub commands : s.script ≡ script
  pub played : List Event
  pub split : es ≡ played ++ left
  pub history : s.core.history ≡ entries played
  pub place : n ≡ length played
