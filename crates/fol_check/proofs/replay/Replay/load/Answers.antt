use Rattle.std.proofs.Common.{refl, ◌∙◌}
use Rattle.fol_model.specs.declared.events.Event.TheVariants as events
use Rattle.fol_model.specs.Legal.{load_chunk}
use Rattle.fol_check.specs.declared.replay.Replay.{Replay}
use Rattle.fol_check.proofs.Growing.{next_at, next_within, unordered}
use Rattle.fol_check.proofs.Carried.{carried, load_carried}
use Rattle.fol_seat_laws.proofs.Phases.{phase_loaded}
use Rattle.fol_tick_laws.proofs.Unprepared.{spares_all}
use Rattle.fol_check.proofs.replay.Replay.load.Goals as goal

pub returns-then-not-loads : goal.returns-then-not-loads
returns-then-not-loads c = unordered c.args.self.now (load_chunk c.args.chunk) c.commands.result.now c.loads.result c.commands.ensures c.loads.ensures (events.Load 0 c.args.chunk c.args.answer) c.if-not-loads.true refl

pub load-requires-clause-spares : goal.load-requires-clause-spares
load-requires-clause-spares c = spares_all c.args.self.now.core _ c.requires.stands.unprepared

pub carried_out-requires : goal.carried_out-requires
carried_out-requires c = record { some = next_within c.args.self.now (load_chunk c.args.chunk) c.commands.result.now c.loads.result c.commands.ensures c.loads.ensures c.if-not-loads.false }

pub returns : goal.returns
returns c =
    let t : Replay = record { core = c.load.new.self; script = c.args.self.now.script; next = c.args.self.now.next; workers = c.args.self.now.workers } in
    carried c.args.self.now t c.carried_out.new.self (events.Load 0 c.args.chunk c.args.answer)
    (record { script = refl; next = refl; workers = refl; then_is = c.carried_out.ensures.one; run = c.carried_out.ensures.run })
    (load_carried c.args.self.now.core c.load.new.self 0 c.args.chunk _ c.args.answer c.is_loaded.result c.in_ok-load.ensures.recorded c.is_loaded.ensures c.if-not-is_loaded.false)
    (load_chunk c.args.chunk) c.requires.stands (next_at c.args.self.now (load_chunk c.args.chunk) c.commands.result.now c.loads.result c.commands.ensures c.loads.ensures c.if-not-loads.false)
    refl refl (λ w going. (phase_loaded w c.args.chunk).finished ∙ going) refl (λ r. refl)
