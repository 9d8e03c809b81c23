use Rattle.std.proofs.Common.{refl}
use Rattle.fol_model.specs.declared.events.Event.TheVariants as events
use Rattle.fol_model.specs.Legal.{open_phase}
use Rattle.fol_check.specs.declared.replay.Replay.{Replay}
use Rattle.fol_check.proofs.Growing.{next_at, next_within, unordered}
use Rattle.fol_check.proofs.Carried.{carried}
use Rattle.fol_check.proofs.replay.Replay.open_phase.Goals as goal

pub returns-then-not-opens : goal.returns-then-not-opens
returns-then-not-opens c = unordered c.args.self.now (open_phase c.args.ticks) c.commands-commands.result.now c.opens.result c.commands-commands.ensures c.opens.ensures (events.PhaseOpen c.args.ticks) c.if-not-opens.true refl

pub carried_out-requires : goal.carried_out-requires
carried_out-requires c = record { some = next_within c.args.self.now (open_phase c.args.ticks) c.commands-commands.result.now c.opens.result c.commands-commands.ensures c.opens.ensures c.if-not-opens.false }

pub returns : goal.returns
returns c =
    let t : Replay = record { core = c.open_phase.new.self; script = c.args.self.now.script; next = c.args.self.now.next; workers = c.args.self.now.workers } in
    carried c.args.self.now t c.carried_out.new.self (events.PhaseOpen c.args.ticks)
    (record { script = refl; next = refl; workers = refl; then_is = c.carried_out.ensures.one; run = c.carried_out.ensures.run })
    (rw c.in-Opened.is at c.in_ok-open_phase.ensures.recorded)
    (open_phase c.args.ticks) c.requires.stands (next_at c.args.self.now (open_phase c.args.ticks) c.commands-commands.result.now c.opens.result c.commands-commands.ensures c.opens.ensures c.if-not-opens.false)
    refl refl (λ w going. going) refl (λ r. refl)
