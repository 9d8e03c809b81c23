use Rattle.std.proofs.Common.{◌≡◌, ◌+◌, ◌-◌, ◌≤◌, ℕ, Bool, true, false, refl, sym, ◌∙◌, ap, inl, inr, arith, Option, Some}
use Rattle.std.specs.Prelude.{nat_eq, if◌then◌else◌}
use Rattle.std.specs.Option.{option_map}
use Rattle.std.proofs.lemmas.Bool.{cases_Bool}
use Rattle.fol_model.specs.Job.{queued}
use Rattle.fol_queues.specs.Waiting.{dated, job_of}
use Rattle.fol_queues.specs.declared.dated.Dated.{Dated}
use Rattle.fol_bags.proofs.waiting.queue.Goals as goal

pub returns-clause-queued : goal.returns-clause-queued
returns-clause-queued c = record {
  tasks = λ n. ap (λ (f : ℕ → Option Dated). option_map (job_of c.args.room.now.tick) (f n)) c.accept.ensures.tasks ∙ pick n (nat_eq c.args.dated.task.number n) refl;
  contents = refl;
  tick = refl;
  owed = refl;
}
  where
    rest : c.args.room.now.tick + c.args.dated.deadline - c.args.room.now.tick ≡ c.args.dated.deadline
    rest = omega arith

    pick : (n : ℕ) (b : Bool) → nat_eq c.args.dated.task.number n ≡ b
        → option_map (job_of c.args.room.now.tick) (if nat_eq c.args.dated.task.number n then (Some (let d : Dated = record { task = c.args.dated.task; deadline = c.args.room.now.tick + c.args.dated.deadline } in d)) else dated c.args.room.now.queues n)
        ≡ (if nat_eq c.args.dated.task.number n then Some (queued c.args.dated.task.chunk c.args.dated.deadline c.args.dated.task.action) else option_map (job_of c.args.room.now.tick) (dated c.args.room.now.queues n))
    pick n true e = rw e (ap (λ m. Some (queued c.args.dated.task.chunk m c.args.dated.task.action)) rest)
    pick n false e = rw e refl

pub returns-clause-timely : goal.returns-clause-timely
returns-clause-timely c = record {
  tick = c.requires.timely.tick;
  in_time = λ n x q.
      let f : (if nat_eq c.args.dated.task.number n then (Some (let d : Dated = record { task = c.args.dated.task; deadline = c.args.room.now.tick + c.args.dated.deadline } in d)) else dated c.args.room.now.queues n) ≡ Some x = sym (ap (λ (g : ℕ → Option Dated). g n) c.accept.ensures.tasks) ∙ q in
      elim (cases_Bool (nat_eq c.args.dated.task.number n)) [
        | inl e ↦
            let g : Some (let d : Dated = record { task = c.args.dated.task; deadline = c.args.room.now.tick + c.args.dated.deadline } in d) ≡ Some x = rw e at f in
            let h : (let d : Dated = record { task = c.args.dated.task; deadline = c.args.room.now.tick + c.args.dated.deadline } in d) ≡ x = cc in
            let m : c.args.room.now.tick + c.args.dated.deadline ≡ x.deadline = ap (λ (d : Dated). d.deadline) h in
            let a : 0 + 1 ≤ c.args.dated.deadline = c.requires.in_time.low in
            let b : c.args.dated.deadline ≤ 0 + 1000000 = c.requires.in_time.high in
            let low : c.args.room.now.tick + 1 ≤ x.deadline = omega arith in
            let high : x.deadline ≤ c.args.room.now.tick + 1000000 = omega arith in
            record { low = low; high = high }
        | inr e ↦ c.requires.timely.in_time n x (rw e at f)
      ];
}
