use Rattle.std.proofs.Common.{refl, ◌∙◌}
use Rattle.fol_model.specs.declared.events.Event.TheVariants as events
use Rattle.fol_model.specs.Legal.{post_task}
use Rattle.fol_check.specs.declared.replay.Replay.{Replay}
use Rattle.fol_check.proofs.Growing.{next_at, next_within, unordered}
use Rattle.fol_check.proofs.Carried.{carried, post_carried}
use Rattle.fol_seat_laws.proofs.Phases.{phase_posted}
use Rattle.fol_tick_laws.proofs.Unprepared.{spares_all}
use Rattle.fol_check.proofs.replay.Replay.post.Goals as goal

pub returns-then-not-posts : goal.returns-then-not-posts
returns-then-not-posts c = unordered c.args.self.now (post_task c.args.chunk c.args.delay c.args.action) c.commands-commands.result.now c.posts.result c.commands-commands.ensures c.posts.ensures (events.Post 0 c.args.chunk c.args.delay c.args.action c.args.answer) c.if-not-posts.true refl

pub post-requires-clause-spares : goal.post-requires-clause-spares
post-requires-clause-spares c = spares_all c.args.self.now.core _ c.requires.stands.unprepared

pub carried_out-requires : goal.carried_out-requires
carried_out-requires c = record { some = next_within c.args.self.now (post_task c.args.chunk c.args.delay c.args.action) c.commands-commands.result.now c.posts.result c.commands-commands.ensures c.posts.ensures c.if-not-posts.false }

pub returns : goal.returns
returns c =
    let t : Replay = record { core = c.post.new.self; script = c.args.self.now.script; next = c.args.self.now.next; workers = c.args.self.now.workers } in
    carried c.args.self.now t c.carried_out.new.self (events.Post 0 c.args.chunk c.args.delay c.args.action c.args.answer)
    (record { script = refl; next = refl; workers = refl; then_is = c.carried_out.ensures.one; run = c.carried_out.ensures.run })
    (post_carried c.args.self.now.core c.post.new.self c.args.chunk c.args.delay c.args.action c.in-Ok.told c.args.answer c.is_told.result c.in-Ok.ensures.recorded c.is_told.ensures c.if-not-is_told.false)
    (post_task c.args.chunk c.args.delay c.args.action) c.requires.stands (next_at c.args.self.now (post_task c.args.chunk c.args.delay c.args.action) c.commands-commands.result.now c.posts.result c.commands-commands.ensures c.posts.ensures c.if-not-posts.false)
    refl refl (λ w going. (phase_posted w c.args.chunk c.args.delay c.args.action).finished ∙ going) refl (λ r. refl)
