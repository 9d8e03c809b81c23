use Rattle.std.proofs.Common.{refl, ◌∙◌}
use Rattle.fol_check.specs.declared.replay.Replay.{Replay}
use Rattle.fol_check.proofs.Carried.{unload_carried}
use Rattle.fol_check.proofs.Places.{unload_kept, unload_not_asked}
use Rattle.fol_tick_laws.proofs.Unprepared.{spares_all}
use Rattle.fol_check.proofs.replay.Replay.unload_in_tick.Goals as goal

pub returns-then-not-asks : goal.returns-then-not-asks
returns-then-not-asks c = unload_not_asked c.args.self.now c.args.caller c.args.chunk c.args.answer c.asks.result c.requires.stands c.requires.worker c.asks.ensures c.if-not-asks.true

pub unload-requires-clause-spares : goal.unload-requires-clause-spares
unload-requires-clause-spares c = spares_all c.args.self.now.core _ c.requires.stands.unprepared

pub returns : goal.returns
returns c =
    let both = c.is_unloaded.ensures.0 c.if-not-is_unloaded.false in
    let same = both.0 in
    let t : Replay = record { core = c.unload.new.self; script = c.args.self.now.script; next = c.args.self.now.next; workers = c.args.self.now.workers } in
    unload_kept c.args.self.now t c.note.new.self c.args.caller c.args.chunk c.args.answer c.requires.stands (record { script = refl; next = refl; workers = refl })
    (unload_carried c.args.self.now.core c.unload.new.self c.args.caller c.args.chunk _ c.args.answer c.is_unloaded.result c.in_ok-unload.ensures.recorded c.is_unloaded.ensures c.if-not-is_unloaded.false)
    c.in_ok-note.ensures.notes c.note.ensures.run (c.asks.ensures.0 c.if-not-asks.false) (λ over. both.1 (same ∙ over))
