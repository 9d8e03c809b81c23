use Rattle.std.proofs.Common.{sym, ap, Err}
use Rattle.fol_events.specs.declared.faults.Fault.{Fault}
use Rattle.fol_events.proofs.EndLines.{UpToRan, no_region, no_tick, no_accepted, no_accepts, no_more}
use Rattle.fol_events.proofs.ends.end.Goals as goal

pub returns-in_err-region-clause-none : goal.returns-in_err-region-clause-none
returns-in_err-region-clause-none c e = no_region c.args.words.now c.small.new.self c.in_ok-worker.worker c.in_ok-worker.ensures.found c.in_err-region.ensures.none

pub returns-in_err-tick-clause-none : goal.returns-in_err-tick-clause-none
returns-in_err-tick-clause-none c e =
    no_tick c.args.words.now c.small.new.self c.wide.new.self c.pass.new.self c.in_ok-worker.worker c.in_ok-region.region c.in_ok-worker.ensures.found c.in_ok-region.ensures.found c.in_ok-pass.ensures.found c.in_err-tick.ensures.none

pub returns-in_err-pass-3-clause-none : goal.returns-in_err-pass-3-clause-none
returns-in_err-pass-3-clause-none c e =
    let up : UpToRan c.args.words.now c.pass-2.new.self c.in_ok-worker.worker c.in_ok-region.region c.in_ok-tick.tick = record {
      at_region = c.small.new.self;
      at_tick = c.wide.new.self;
      ticks = c.pass.new.self;
      at_ran = c.wide-2.new.self;
      worker_is = c.in_ok-worker.ensures.found;
      region_is = c.in_ok-region.ensures.found;
      tick_word = c.in_ok-pass.ensures.found;
      tick_is = c.in_ok-tick.ensures.found;
      ran_word = c.in_ok-pass-2.ensures.found;
    } in
    let ran = c.in_ok-ran.ensures.found in
    no_accepted c.args.words.now c.pass-2.new.self c.rans.new.words c.in_ok-worker.worker c.in_ok-region.region c.in_ok-tick.tick c.in_ok-ran.ran up ran.1 ran.0 c.in_err-pass-3.ensures.none

pub returns-in_err-accepts-clause-none : goal.returns-in_err-accepts-clause-none
returns-in_err-accepts-clause-none c e =
    let up : UpToRan c.args.words.now c.pass-2.new.self c.in_ok-worker.worker c.in_ok-region.region c.in_ok-tick.tick = record {
      at_region = c.small.new.self;
      at_tick = c.wide.new.self;
      ticks = c.pass.new.self;
      at_ran = c.wide-2.new.self;
      worker_is = c.in_ok-worker.ensures.found;
      region_is = c.in_ok-region.ensures.found;
      tick_word = c.in_ok-pass.ensures.found;
      tick_is = c.in_ok-tick.ensures.found;
      ran_word = c.in_ok-pass-2.ensures.found;
    } in
    let ran = c.in_ok-ran.ensures.found in
    let same = rw e at c.from_residual-in_err-accepts.ensures in
    let none = c.in_err-accepts.ensures.none (ap (λ (f : Fault). Err f) (sym same.1)) in
    no_accepts c.args.words.now c.pass-2.new.self c.rans.new.words c.pass-3.new.self c.in_ok-worker.worker c.in_ok-region.region c.in_ok-tick.tick c.in_ok-ran.ran up ran.1 ran.0 c.in_ok-pass-3.ensures.found none

pub returns-in_err-end-clause-none : goal.returns-in_err-end-clause-none
returns-in_err-end-clause-none c e =
    let up : UpToRan c.args.words.now c.pass-2.new.self c.in_ok-worker.worker c.in_ok-region.region c.in_ok-tick.tick = record {
      at_region = c.small.new.self;
      at_tick = c.wide.new.self;
      ticks = c.pass.new.self;
      at_ran = c.wide-2.new.self;
      worker_is = c.in_ok-worker.ensures.found;
      region_is = c.in_ok-region.ensures.found;
      tick_word = c.in_ok-pass.ensures.found;
      tick_is = c.in_ok-tick.ensures.found;
      ran_word = c.in_ok-pass-2.ensures.found;
    } in
    let ran = c.in_ok-ran.ensures.found in
    let accepts = c.in_ok-accepts.ensures.found in
    no_more c.args.words.now c.pass-2.new.self c.rans.new.words c.pass-3.new.self c.accepts.new.words c.in_ok-worker.worker c.in_ok-region.region c.in_ok-tick.tick c.in_ok-ran.ran c.in_ok-accepts.accepts up ran.1 ran.0 c.in_ok-pass-3.ensures.found
    accepts.1 accepts.0 c.in_err-end.ensures.none
