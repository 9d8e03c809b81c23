use Rattle.std.proofs.Common.{refl, ◌∙◌, sym, inl, inr}
use Rattle.fol_model.specs.declared.events.Event.TheVariants as events
use Rattle.fol_model.specs.Legal.{close_phase}
use Rattle.fol_check.specs.declared.replay.Replay.{Replay}
use Rattle.fol_check.proofs.Growing.{next_at, next_within, unordered}
use Rattle.fol_check.proofs.Carried.{carried}
use Rattle.fol_check.proofs.Answered.{phase_closes}
use Rattle.fol_core.specs.Meaning.{world_of}
use Rattle.fol_check.proofs.replay.Replay.close_phase.Goals as goal

pub returns-then-not-closes : goal.returns-then-not-closes
returns-then-not-closes c = unordered c.args.self.now (close_phase) c.commands.result.now c.closes.result c.commands.ensures c.closes.ensures (events.PhaseClose) c.if-not-closes.true refl

pub returns-in-NotYet : goal.returns-in-NotYet
returns-in-NotYet c = λ is.
    let closed = phase_closes (world_of c.args.self.now.core) is.going is.allowed in
    let told = c.in_ok-close_phase.ensures.answer ∙ closed in
    elim c.in-NotYet.is [
      | inl busy ↦ let never = sym busy.1 ∙ told in absurd (cc)
      | inr rest ↦ elim rest [
        | inl none ↦ let never = sym none ∙ told in absurd (cc)
        | inr over ↦ let never = sym over ∙ told in absurd (cc)
      ]
    ]

pub carried_out-requires : goal.carried_out-requires
carried_out-requires c = record { some = next_within c.args.self.now (close_phase) c.commands.result.now c.closes.result c.commands.ensures c.closes.ensures c.if-not-closes.false }

pub returns : goal.returns
returns c =
    let t : Replay = record { core = c.close_phase.new.self; script = c.args.self.now.script; next = c.args.self.now.next; workers = c.args.self.now.workers } in
    carried c.args.self.now t c.carried_out.new.self (events.PhaseClose)
    (record { script = refl; next = refl; workers = refl; then_is = c.carried_out.ensures.one; run = c.carried_out.ensures.run })
    (rw c.in-Closed.is at c.in_ok-close_phase.ensures.recorded)
    (close_phase) c.requires.stands (next_at c.args.self.now (close_phase) c.commands.result.now c.closes.result c.commands.ensures c.closes.ensures c.if-not-closes.false)
    refl refl (λ w going. going) refl (λ r. refl)
