-- What opening a phase of any number of ticks answers in a world, and what it records.
use Rattle.std.specs.Prelude.{ℕ, ◌+◌, ◌||◌, nat_eq, nat_lt, if◌then◌else◌}
use Rattle.fol_model.specs.declared.events.Event.TheVariants as events
use Rattle.fol_model.specs.World.{World}
use Rattle.fol_core.specs.Meaning.{Meaning, Records, Stays}
use Rattle.fol_core.specs.Answers.{is_over}
use Rattle.fol_live.specs.declared.answers.LivePhase.{LivePhase}
use Rattle.fol_live.specs.declared.answers.LivePhase.TheVariants as phases

-- any number of ticks may be asked for
abbrev pub live_phase_result : World → ℕ → LivePhase
live_phase_result w n =
    if is_over w then phases.Over
    else (if w.in_phase then phases.InPhase else (if (nat_eq n 0 || nat_lt 10000 (w.sum + n)) then phases.TooMany w.sum else phases.Opened))

-- only Opened is recorded
abbrev pub LivePhaseRecords : Meaning → Meaning → ℕ → ℕ → LivePhase → Type 0
LivePhaseRecords old new by n phases.Opened = Records old new by (events.PhaseOpen n)
LivePhaseRecords old new by n answer = Stays old new
