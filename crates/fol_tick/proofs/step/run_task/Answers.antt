use Rattle.std.proofs.Common.{◌≡◌, arith}
use Rattle.fol_chunks.specs.Contents.{flat_of, is_recorded}
use Rattle.fol_tick.specs.Prepared.{repeated_by}
use Rattle.fol_tick.specs.Logs.{stage_at}
use Rattle.fol_tick.proofs.WishRoom.{few_asked}
use Rattle.fol_tick.proofs.OneTask.{one_ran}
use Rattle.fol_tick.proofs.step.run_task.Goals as goal

pub returns-clause-ok : goal.returns-clause-ok
returns-clause-ok g c =
    let done = c.in_ok-outcome.ensures.ok in
    let call = rw c.plain_of-action.ensures at done.2 in
    let acts = rw c.plain_of-action.ensures at done.3 in
    let again : c.repeated.result ≡ repeated_by c.args.task.now.chunk c.args.task.now.action = c.repeated.ensures in (
      done.0,
      done.1,
      one_ran c.args.task.now done.0 (is_recorded c.args.recorded.now) (stage_at c.args.chunks.now c.args.log.now) (stage_at c.act.new.chunks c.record.new.self) c.in_ok-outcome.field-0 c.repeated.result call acts again c.record.ensures.ran c.record.ensures.wishes,
    )

pub record-requires-clause-room_for_wishes : goal.record-requires-clause-room_for_wishes
record-requires-clause-room_for_wishes g c =
    let acts = rw c.plain_of-action.ensures at c.in_ok-outcome.ensures.ok.3 in
    let few = few_asked (is_recorded c.args.recorded.now) (flat_of c.args.chunks.now) c.args.task.now.chunk c.args.task.now.action c.in_ok-outcome.field-0.wish c.repeated.result acts.wish c.repeated.ensures in
    omega (arith, few, c.requires.room_for_wishes)

pub returns-clause-wishes_len : goal.returns-clause-wishes_len
returns-clause-wishes_len g c =
    let acts = rw c.plain_of-action.ensures at c.in_ok-outcome.ensures.ok.3 in
    let few = few_asked (is_recorded c.args.recorded.now) (flat_of c.args.chunks.now) c.args.task.now.chunk c.args.task.now.action c.in_ok-outcome.field-0.wish c.repeated.result acts.wish c.repeated.ensures in
    omega (arith, few, c.record.ensures.wishes_len)
