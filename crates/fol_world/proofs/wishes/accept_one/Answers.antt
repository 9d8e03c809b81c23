use Rattle.std.proofs.Common.{◌≡◌, ◌≢◌, ◌⊎◌, ℕ, sym, ◌∙◌, ap, inl, inr}
use Rattle.fol_regions.specs.declared.answers.AddAnswer.{AddAnswer}
use Rattle.fol_regions.specs.declared.answers.AddAnswer.TheVariants.{Full, Counted, Changed}
use Rattle.fol_model.specs.declared.events.Accept.TheVariants as accept
use Rattle.fol_world.proofs.Accepting.{can_hold}
use Rattle.fol_world.proofs.Accepted.{can_queue, full_is, full_not, full_step, posted_step, stands_nowhere}
use Rattle.fol_world.proofs.wishes.accept_one.Goals as goal

pub hold-requires : goal.hold-requires
hold-requires c = let m = c.requires in can_hold c.args.tables.now c.args.chunks.now m.world m.since m.region m.rest m.underway c.args.wish.chunk m.fit.chunk

pub put_back-requires-clause-free : goal.put_back-requires-clause-free
put_back-requires-clause-free c = let m = c.requires in stands_nowhere c.args.tables.now c.args.chunks.now m.world m.since m.region m.rest m.underway c.args.wish m.free

pub queue-requires : goal.queue-requires
queue-requires c = let m = c.requires in can_queue c.args.tables.now c.args.chunks.now m.world m.since m.region m.rest m.underway c.args.wish c.hold.new.tables c.hold.ensures.held m.fit

pub returns-in-Full-clause-accepted : goal.returns-in-Full-clause-accepted
returns-in-Full-clause-accepted c w since r n u ok free =
    let f = full_is c.args.tables.now c.args.chunks.now w since r n u c.args.wish c.in-Full.present c.in-Full.wanted c.in-Full.ensures.answer in
    full_step c.args.tables.now c.args.chunks.now w since r n u c.args.wish ok c.hold.new.tables c.hold.ensures.held c.hold.ensures.tickets c.hold.ensures.left f.0 free c.put_back.new.chunks
    c.put_back.ensures.contents c.put_back.ensures.spare

other_answer : (a : AddAnswer) → (a ≡ Counted) ⊎ (a ≡ Changed) → (p q : ℕ) → a ≢ Full p q
other_answer a (inl e) p q k = let x : Counted ≡ Full p q = sym e ∙ k in cc
other_answer a (inr e) p q k = let x : Changed ≡ Full p q = sym e ∙ k in cc

pub returns-in-Counted : goal.returns-in-Counted
returns-in-Counted c = record {
  accepted = λ w since r n u ok free.
      let f = full_not c.args.tables.now c.args.chunks.now w since r n u c.args.wish c.hold.result c.hold.ensures.answer (other_answer c.hold.result c.in-Counted.is) in
      posted_step c.args.tables.now c.args.chunks.now w since r n u c.args.wish ok c.hold.new.tables c.hold.ensures.held c.hold.ensures.tickets c.hold.ensures.left f.0 c.queue.new.tables c.queue.ensures.queued;
  answer = λ w since r n u.
      let f = full_not c.args.tables.now c.args.chunks.now w since r n u c.args.wish c.hold.result c.hold.ensures.answer (other_answer c.hold.result c.in-Counted.is) in
      ap accept.Posted (c.queue.ensures.number ∙ ap (λ k. k.next_job) c.hold.ensures.held.course ∙ u.midway.course.next_job) ∙ sym f.1;
  stack = rw c.queue.ensures.queued.agenda c.hold.ensures.left.agenda;
  size = ap (λ k. k.size) c.queue.ensures.queued.course ∙ ap (λ k. k.size) c.hold.ensures.held.course;
  tickets = c.queue.ensures.queued.tickets ∙ c.hold.ensures.tickets;
}
