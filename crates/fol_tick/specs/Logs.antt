-- A log while its tick runs.
use Rattle.fol_model.specs.FlatTick.{FlatEnd}
use Rattle.fol_chunks.specs.Contents.{Contents, flat_of}
use Rattle.fol_data.specs.declared.tick.Tick.{Tick}
use Rattle.fol_tick.specs.declared.log.OpenLog.{OpenLog}

-- what a tick has come to so far, with its log open
abbrev pub stage_at : Contents → OpenLog → FlatEnd
stage_at chunks log = record { flat = flat_of chunks; ran = log.ran.items; wishes = log.wishes.items }

-- the tick with this log
abbrev pub with_log : Tick → OpenLog → Tick
with_log t log = record t { log = record { ran = log.ran.items; wishes = log.wishes.items } }
