use Rattle.std.proofs.Common.{◌∙◌, ap, arith}
use Rattle.fol_data.specs.declared.region_data.RegionData.{RegionData}
use Rattle.fol_world.proofs.EndSteps as step
use Rattle.fol_world.proofs.ends.end_tick.Goals as goal

pub overflow_add-body : goal.overflow_add-body
overflow_add-body c =
    let m = c.requires.may in
    let b = step.bound c.args.tables.now c.args.tick.now m.opening m.history m.stands m.at in
    let counter = ap (λ (x : RegionData). x.tick) c.replace-body.ensures.value in
    omega (arith, b, counter)

pub accept_all-requires-clause-may : goal.accept_all-requires-clause-may
accept_all-requires-clause-may c =
    let m = c.requires.may in
    let e = c.from_vec-wishes.ensures.items ∙ c.into_vec.ensures ∙ c.replace-wishes.ensures.value in
    let body = c.replace-body.ensures.value in
    let due = c.as_slice.ensures in
    rw (e, body, due) (step.may_accept c.args.tables.now c.args.tick.now m.opening m.history m.stands m.at m.size m.memory)

pub end_region-requires : goal.end_region-requires
end_region-requires c =
    let m = c.requires.may in
    let e = c.from_vec-wishes.ensures.items ∙ c.into_vec.ensures ∙ c.replace-wishes.ensures.value in
    let body = c.replace-body.ensures.value in
    let due = c.as_slice.ensures in
    let acc = rw (e, body, due) at c.accept_all.ensures.accepted in
    let held = acc _ _ 0 (step.first c.args.tables.now c.args.tick.now m.opening m.history m.stands m.at m.size m.memory)
    (step.fits_all c.args.tables.now c.args.tick.now m.opening m.history m.stands m.at) in
    let u = step.none_holds c.args.tables.now c.args.tick.now m.opening m.history m.stands m.at c.accept_all.new.tables c.accept_all.new.chunks _ held in
    let k = c.replace-chunks.ensures.value in
    rw (k, body) (step.can_end c.args.tables.now c.args.tick.now m.opening m.history m.stands m.at c.accept_all.new.tables c.accept_all.new.chunks u held.tickets)

pub returns-clause-ended : goal.returns-clause-ended
returns-clause-ended c o h s out =
    let may = c.requires.may in
    let e = c.from_vec-wishes.ensures.items ∙ c.into_vec.ensures ∙ c.replace-wishes.ensures.value in
    let body = c.replace-body.ensures.value in
    let due = c.as_slice.ensures in
    let acc = rw (e, body, due) at c.accept_all.ensures.accepted in
    let held = acc _ _ 0 (step.first c.args.tables.now c.args.tick.now o h s out may.size may.memory)
    (step.fits_all c.args.tables.now c.args.tick.now o h s out) in
    let u = step.none_holds c.args.tables.now c.args.tick.now o h s out c.accept_all.new.tables c.accept_all.new.chunks _ held in
    let ends = rw body at c.end_region.ensures in
    step.fits_end c.args.tables.now c.args.tick.now o h s out c.accept_all.new.tables c.accept_all.new.chunks u held.tickets c.end_region.new.tables ends

pub returns-clause-event : goal.returns-clause-event
returns-clause-event c o h s out =
    let may = c.requires.may in
    let e = c.from_vec-wishes.ensures.items ∙ c.into_vec.ensures ∙ c.replace-wishes.ensures.value in
    let body = c.replace-body.ensures.value in
    let ran = c.replace-ran.ensures.value in
    let due = c.as_slice.ensures in
    let ans = rw (e, body, due) at c.accept_all.ensures.answers in
    let a = ans _ _ 0 (step.first c.args.tables.now c.args.tick.now o h s out may.size may.memory)
    (step.fits_all c.args.tables.now c.args.tick.now o h s out) in
    rw (body, ran) (step.end_is c.args.tables.now c.args.tick.now o h s out c.args.accepts.items c.accept_all.new.answers.items c.of-2.result c.requires.empty a c.of-2.ensures)

pub returns-clause-stack : goal.returns-clause-stack
returns-clause-stack c =
    let m = c.requires.may in
    let e = c.from_vec-wishes.ensures.items ∙ c.into_vec.ensures ∙ c.replace-wishes.ensures.value in
    let body = c.replace-body.ensures.value in
    let due = c.as_slice.ensures in
    let acc = rw (e, body, due) at c.accept_all.ensures.accepted in
    let held = acc _ _ 0 (step.first c.args.tables.now c.args.tick.now m.opening m.history m.stands m.at m.size m.memory)
    (step.fits_all c.args.tables.now c.args.tick.now m.opening m.history m.stands m.at) in
    let u = step.none_holds c.args.tables.now c.args.tick.now m.opening m.history m.stands m.at c.accept_all.new.tables c.accept_all.new.chunks _ held in
    let few = step.heirs_foreseen c.args.tables.now c.args.tick.now m.opening m.history m.stands m.at c.accept_all.new.tables c.accept_all.new.chunks u held.tickets in
    let wished = rw e at c.accept_all.ensures.stack in
    let ended = c.end_region.ensures.stack in
    record {
      len = omega (arith, few, wished.len, ended.len);
      capacity = ended.capacity ∙ wished.capacity;
    }

pub returns-clause-course : goal.returns-clause-course
returns-clause-course c = ap (λ k. k.size) c.end_region.ensures.course ∙ c.accept_all.ensures.size
