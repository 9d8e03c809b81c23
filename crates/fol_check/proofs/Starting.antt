-- A replay before any event.
use Rattle.std.proofs.Common.{◌≡◌, ℕ, refl, arith, true, false, None, List, [], get_or}
use Rattle.std.specs.Prelude.{vec_len}
use Rattle.fol_model.specs.declared.openings.Opening.{Opening}
use Rattle.fol_model.specs.declared.scripts.Command.{Command}
use Rattle.fol_model.specs.GridNumbers.{IsGrid}
use Rattle.fol_core.specs.Ahead.{NonePrepared}
use Rattle.fol_check.specs.Standing.{Starts}
use Rattle.fol_check.specs.declared.replay.Replay.{Replay}

pub starts : (s : Replay) (o : Opening) (commands : List Command) → IsGrid o.grid → s.core.opening ≡ o → s.core.history ≡ [] → NonePrepared s.core → s.script ≡ commands → s.next ≡ 0 → vec_len s.workers ≡ 64
    → ((k : ℕ) → get_or s.workers.items k None ≡ None) → Starts s o commands
starts s o commands grid opening empty unprepared script next count none = record {
  stands = record {
    grid = rw opening grid;
    run = rw empty tt;
    unprepared = unprepared;
    next = rw next (omega arith);
    commands = rw (empty, next) refl;
    callers = rw empty refl;
    done = λ over. absurd (let never : false ≡ true = rw empty at over in cc);
    count = count;
    workers = λ k low. let idle = none k in rw idle (record { tick = tt; turns = rw empty refl });
  };
  opening = opening;
  script = script;
  none = empty;
}
