use Rattle.std.proofs.Common.{[], refl, sym, subst}
use Rattle.fol_model.specs.declared.tasks.TickLog.{TickLog}
use Rattle.fol_data.specs.declared.tick.Tick.{Tick}
use Rattle.fol_tick.specs.Runs.{Runs}
use Rattle.fol_tick.specs.Logs.{with_log}
use Rattle.fol_tick.proofs.Stages.{runs_none, runs_still, runs_from}
use Rattle.fol_tick.proofs.run.run_left.Goals as goal

pub returns-in_err-first-clause-runs : goal.returns-in_err-first-clause-runs
returns-in_err-first-clause-runs g c =
    ([], g.met.H.Host.stays _, runs_none c.args.tick.now c.requires.may_run.unmoved c.requires.may_run.within)

pub returns-in_err-stock-clause-runs : goal.returns-in_err-stock-clause-runs
returns-in_err-stock-clause-runs g c =
    ([], g.met.H.Host.stays _, runs_none c.args.tick.now c.requires.may_run.unmoved c.requires.may_run.within)

-- only spare room has changed
pub returns-in_err-reserve-clause-runs : goal.returns-in_err-reserve-clause-runs
returns-in_err-reserve-clause-runs g c =
    let t = c.args.tick.now in
    let same = c.in_err-reserve.ensures.same in (
      [],
      g.met.H.Host.stays _,
      runs_still t _ c.requires.may_run.unmoved c.requires.may_run.within
          (record {
            worker = refl;
            region = refl;
            begun = refl;
            chunks = refl;
            due = refl;
            counter = refl;
            owed = refl;
            queues = refl;
          })
          refl
          (λ i. record { flat = same i; ran = t.log.ran; wishes = t.log.wishes }),
    )

pub returns-in_err-log-clause-runs : goal.returns-in_err-log-clause-runs
returns-in_err-log-clause-runs g c =
    let t = c.args.tick.now in
    let same = c.reserve.ensures.same in
    let log = c.in_err-log.ensures.err in (
      [],
      g.met.H.Host.stays _,
      runs_still t _ c.requires.may_run.unmoved c.requires.may_run.within
          (record {
            worker = refl;
            region = refl;
            begun = refl;
            chunks = refl;
            due = refl;
            counter = refl;
            owed = refl;
            queues = refl;
          })
          refl
          (λ i. record { flat = same i; ran = (log i).ran; wishes = (log i).wishes }),
    )

pub returns-clause-runs : goal.returns-clause-runs
returns-clause-runs g c =
    let t = c.args.tick.now in
    let ran = c.run_all-answer.ensures.runs in
    let same = c.reserve.ensures.same in
    let opened = c.in_ok-log.ensures in
    let begun : Tick = with_log (record t { body = record t.body { chunks = c.reserve.new.self } }) c.in_ok-log.log in
    let acted : Tick = with_log c.run_all-answer.new.tick c.run_all-answer.new.log in
    let runs : Runs t acted ran.0 =
    runs_from t begun acted ran.0
    (record {
      worker = refl;
      region = refl;
      begun = refl;
      chunks = refl;
      due = refl;
      counter = refl;
      owed = refl;
      queues = refl;
    })
    refl
    (λ i. record { flat = same i; ran = opened.ran i; wishes = opened.wishes i })
    ran.2 in
    let P : TickLog → Type 0 = λ log. Runs t (record c.run_all-answer.new.tick { log = log }) ran.0 in
    (ran.0, ran.1, subst P (sym c.close.ensures) runs)
