use Rattle.std.proofs.Common.{◌≡◌, ◌<◌, refl, sym, ◌∙◌, Some, None, get_or, length, arith, false, true}
use Rattle.std.specs.Prelude.{◌-◌}
use Rattle.std.specs.Vec.{with_item}
use Rattle.fol_model.specs.declared.events.Entry.{Entry}
use Rattle.fol_world.specs.AtEnd.{end_event}
use Rattle.fol_core.specs.Meaning.{world_of}
use Rattle.fol_check.specs.declared.replay.Replay.{Replay}
use Rattle.fol_check.proofs.Places.{end_goes, end_needs, is_out, may_end, read_at}
use Rattle.fol_check.proofs.Ending.{given_in}
use Rattle.fol_tick_laws.proofs.Unprepared.{spares_all}
use Rattle.fol_check.proofs.replay.Replay.end.Goals as goal

pub returns-then-not-may_end : goal.returns-then-not-may_end
returns-then-not-may_end c = λ is.
    let count = c.requires.stands.count in
    let inside : c.args.worker - 1 < length c.args.self.now.workers.items = omega arith in
    let read : get_or c.args.self.now.workers.items (c.args.worker - 1) None ≡ c.index_mut.result.now = read_at c.args.self.now.workers.items (c.args.worker - 1) c.index_mut.result.now None inside c.index_mut.ensures.value in
    let there : get_or c.args.self.now.workers.items (c.args.worker - 1) None ≡ Some c.in-Some.held = read ∙ sym c.take.ensures.value ∙ c.in-Some.is in
    let needs = end_needs c.args.self.now c.args.worker (c.args.worker - 1) c.args.region c.args.tick c.args.ran.now c.args.accepts.now c.in-Some.held (omega arith) (omega arith) c.requires.stands there is in
    let passed : c.may_end.result ≡ true = c.may_end.ensures.1 needs in
    let never : false ≡ true = sym c.if-not-may_end.true ∙ passed in
    absurd (cc)

pub run-requires : goal.run-requires
run-requires c =
    let count = c.requires.stands.count in
    let inside : c.args.worker - 1 < length c.args.self.now.workers.items = omega arith in
    let read : get_or c.args.self.now.workers.items (c.args.worker - 1) None ≡ c.index_mut.result.now = read_at c.args.self.now.workers.items (c.args.worker - 1) c.index_mut.result.now None inside c.index_mut.ensures.value in
    let there : get_or c.args.self.now.workers.items (c.args.worker - 1) None ≡ Some c.in-Some.held = read ∙ sym c.take.ensures.value ∙ c.in-Some.is in
    record {
      may_run = may_end c.args.self.now (c.args.worker - 1) c.in-Some.held (omega arith) c.requires.stands there;
      answers = given_in c.args.self.now (c.args.worker - 1) c.in-Some.held (omega arith) c.requires.stands there;
    }

pub release-requires : goal.release-requires
release-requires c =
    let count = c.requires.stands.count in
    let inside : c.args.worker - 1 < length c.args.self.now.workers.items = omega arith in
    let read : get_or c.args.self.now.workers.items (c.args.worker - 1) None ≡ c.index_mut.result.now = read_at c.args.self.now.workers.items (c.args.worker - 1) c.index_mut.result.now None inside c.index_mut.ensures.value in
    let there : get_or c.args.self.now.workers.items (c.args.worker - 1) None ≡ Some c.in-Some.held = read ∙ sym c.take.ensures.value ∙ c.in-Some.is in
    let run = c.in_ok-done.ensures in
    record {
      out = is_out c.args.self.now (c.args.worker - 1) c.in-Some.held c.in_ok-done.done run.calls (omega arith) c.requires.stands there run.finishes;
      spares = spares_all c.args.self.now.core _ c.requires.stands.unprepared;
    }

pub returns : goal.returns
returns c =
    let count = c.requires.stands.count in
    let inside : c.args.worker - 1 < length c.args.self.now.workers.items = omega arith in
    let read : get_or c.args.self.now.workers.items (c.args.worker - 1) None ≡ c.index_mut.result.now = read_at c.args.self.now.workers.items (c.args.worker - 1) c.index_mut.result.now None inside c.index_mut.ensures.value in
    let there : get_or c.args.self.now.workers.items (c.args.worker - 1) None ≡ Some c.in-Some.held = read ∙ sym c.take.ensures.value ∙ c.in-Some.is in
    let run = c.in_ok-done.ensures in
    let done = c.in_ok-done.done in
    let after = c.take.ensures.after in
    let recorded = c.in-Ok.ensures.recorded in
    let needs = c.may_end.ensures.0 c.if-not-may_end.false in
    let u : Replay = record { core = c.release.new.self; script = c.args.self.now.script; next = c.args.self.now.next; workers = with_item c.args.self.now.workers (c.args.worker - 1) c.take.new.self } in
    let e : Entry = record { by = done.worker; event = end_event (world_of c.args.self.now.core) done.worker done.region done.log.ran } in
    end_goes c.args.self.now u (c.args.worker - 1) c.args.tick c.args.ran.now c.args.accepts.now c.in-Some.held done run.calls run.left (omega arith) c.requires.stands there
    needs.1 run.given run.finishes recorded c.history.ensures.run refl refl (rw after refl) count
    c.args.worker c.args.region c.ends.result (omega arith) needs.0
    (c.ends.ensures c.args.self.now.core.history e (c.history.ensures.entries ∙ recorded.history))
