use Rattle.std.proofs.Common.{refl, ◌∙◌}
use Rattle.fol_model.specs.declared.events.Event.TheVariants as events
use Rattle.fol_model.specs.Legal.{unload_chunk}
use Rattle.fol_check.specs.declared.replay.Replay.{Replay}
use Rattle.fol_check.proofs.Growing.{next_at, next_within, unordered}
use Rattle.fol_check.proofs.Carried.{carried, unload_carried}
use Rattle.fol_seat_laws.proofs.Phases.{phase_unloaded}
use Rattle.fol_tick_laws.proofs.Unprepared.{spares_all}
use Rattle.fol_check.proofs.replay.Replay.unload.Goals as goal

pub returns-then-not-unloads : goal.returns-then-not-unloads
returns-then-not-unloads c = unordered c.args.self.now (unload_chunk c.args.chunk) c.commands.result.now c.unloads.result c.commands.ensures c.unloads.ensures (events.Unload 0 c.args.chunk c.args.answer) c.if-not-unloads.true refl

pub unload-requires-clause-spares : goal.unload-requires-clause-spares
unload-requires-clause-spares c = spares_all c.args.self.now.core _ c.requires.stands.unprepared

pub carried_out-requires : goal.carried_out-requires
carried_out-requires c = record { some = next_within c.args.self.now (unload_chunk c.args.chunk) c.commands.result.now c.unloads.result c.commands.ensures c.unloads.ensures c.if-not-unloads.false }

pub returns : goal.returns
returns c =
    let t : Replay = record { core = c.unload.new.self; script = c.args.self.now.script; next = c.args.self.now.next; workers = c.args.self.now.workers } in
    carried c.args.self.now t c.carried_out.new.self (events.Unload 0 c.args.chunk c.args.answer)
    (record { script = refl; next = refl; workers = refl; then_is = c.carried_out.ensures.one; run = c.carried_out.ensures.run })
    (unload_carried c.args.self.now.core c.unload.new.self 0 c.args.chunk _ c.args.answer c.is_unloaded.result c.in_ok-unload.ensures.recorded c.is_unloaded.ensures c.if-not-is_unloaded.false)
    (unload_chunk c.args.chunk) c.requires.stands (next_at c.args.self.now (unload_chunk c.args.chunk) c.commands.result.now c.unloads.result c.commands.ensures c.unloads.ensures c.if-not-unloads.false)
    refl refl (λ w going. (phase_unloaded w c.args.chunk).finished ∙ going) refl (λ r. refl)
