use Rattle.std.proofs.Common.{◌≡◌, ◌+◌, ◌∙◌, ap, refl, arith, ℕ, Option}
use Rattle.std.specs.Option.{option_map, option_or}
use Rattle.std.proofs.Math.Path.{fun_ext}
use Rattle.fol_data.specs.declared.region_data.RegionData.{RegionData}
use Rattle.fol_queues.specs.declared.dated.Dated.{Dated}
use Rattle.fol_queues.specs.Waiting.{dated, job_of}
use Rattle.fol_regions.specs.Answers.{unbegun}
use Rattle.fol_regions.specs.Table.{grid_state}
use Rattle.fol_store.specs.Stock.{bag_of, jobs_of}
use Rattle.fol_core.specs.Undone.{rests_again}
use Rattle.fol_core.proofs.UndoneTicks.{are_new, back_bags, back_covers, back_owes, back_rules, back_state, can_come_back, counter_most, owed_few, rising, ticks_in}
use Rattle.fol_core.proofs.undone.undo.Goals as goal

pub overflow_add-body : goal.overflow_add-body
overflow_add-body c =
    let m = c.requires in
    let owed = ap (λ (x : RegionData). x.owed) c.replace-body.ensures.value in
    omega (arith, owed, owed_few m.opening m.history m.marks c.args.tables.now m.stands c.args.tick.now m.marked m.of)

pub give_back-due-requires-clause-begun : goal.give_back-due-requires-clause-begun
give_back-due-requires-clause-begun c = let m = c.requires in rw c.replace-body.ensures.value (counter_most m.opening m.history m.marks c.args.tables.now m.stands c.args.tick.now m.marked m.of)

pub give_back-due-requires-clause-order : goal.give_back-due-requires-clause-order
give_back-due-requires-clause-order c = let m = c.requires in rw (c.into_vec.ensures, c.replace-due.ensures.value) (rising m.opening m.history m.marks c.args.tables.now m.stands c.args.tick.now m.marked m.of)

pub give_back-due-requires-clause-fresh : goal.give_back-due-requires-clause-fresh
give_back-due-requires-clause-fresh c = let m = c.requires in rw (c.into_vec.ensures, c.replace-due.ensures.value, c.replace-body.ensures.value) (are_new m.opening m.history m.marks c.args.tables.now m.stands c.args.tick.now m.marked m.of)

pub give_back-due-requires-clause-spare : goal.give_back-due-requires-clause-spare
give_back-due-requires-clause-spare c = rw (c.into_vec.ensures, c.replace-due.ensures.value, c.replace-body.ensures.value) c.requires.spare

pub bring_back-requires : goal.bring_back-requires
bring_back-requires c =
    let m = c.requires in
    let given = rw (c.into_vec.ensures, c.replace-due.ensures.value, c.replace-body.ensures.value) at c.give_back-due.ensures.tasks in
    rw (c.replace-chunks.ensures.value, c.replace-body.ensures.value) (can_come_back m.opening m.history m.marks c.args.tables.now m.stands c.args.tick.now m.marked m.of
    (record { tick = c.args.tick.now.body.tick; owed = c.args.tick.now.body.owed + 1; queues = c.give_back-due.new.self; chunks = c.args.tick.now.body.chunks }) refl refl
    (λ n. ap (λ (f : ℕ → Option Dated). option_map (job_of c.args.tick.now.body.tick) (f n)) given))

pub unbegin-requires-clause-ticks : goal.unbegin-requires-clause-ticks
unbegin-requires-clause-ticks c = let m = c.requires in rw c.bring_back.ensures.regions (ticks_in m.opening m.history m.marks c.args.tables.now m.stands c.args.tick.now m.marked m.of)

pub unbegin-requires-clause-rules : goal.unbegin-requires-clause-rules
unbegin-requires-clause-rules c = let m = c.requires in rw c.bring_back.ensures.regions (back_rules m.opening m.history m.marks c.args.tables.now m.stands c.args.tick.now m.marked m.of)

pub add-requires-clause-state : goal.add-requires-clause-state
add-requires-clause-state c =
    let m = c.requires in
    let back = rw c.replace-body.ensures.value at c.bring_back.ensures in
    back_state m.opening m.history m.marks c.args.tables.now m.stands c.args.tick.now m.marked m.of (bag_of c.bring_back.new.tables.store) back.own back.bags
    (grid_state c.unbegin.new.self) (c.unbegin.ensures.state ∙ ap (λ k. unbegun (grid_state k) c.args.tick.now.region) back.regions)

pub add-requires-clause-bags : goal.add-requires-clause-bags
add-requires-clause-bags c =
    let m = c.requires in
    let back = rw c.replace-body.ensures.value at c.bring_back.ensures in
    back_bags m.opening m.history m.marks c.args.tables.now m.stands c.args.tick.now m.marked m.of (bag_of c.bring_back.new.tables.store) back.own back.bags
    (grid_state c.unbegin.new.self) (c.unbegin.ensures.state ∙ ap (λ k. unbegun (grid_state k) c.args.tick.now.region) back.regions)

pub add-requires-clause-covers : goal.add-requires-clause-covers
add-requires-clause-covers c =
    let m = c.requires in
    let back = rw c.replace-body.ensures.value at c.bring_back.ensures in
    rw back.agenda (back_covers m.opening m.history m.marks c.args.tables.now m.stands c.args.tick.now m.marked m.of (bag_of c.bring_back.new.tables.store) back.own back.bags
    (grid_state c.unbegin.new.self) (c.unbegin.ensures.state ∙ ap (λ k. unbegun (grid_state k) c.args.tick.now.region) back.regions))

pub returns-clause-undone : goal.returns-clause-undone
returns-clause-undone c =
    let m = c.requires in
    let back = rw c.replace-body.ensures.value at c.bring_back.ensures in
    let added = c.add.ensures in
    let given = rw (c.into_vec.ensures, c.replace-due.ensures.value, c.replace-body.ensures.value) at c.give_back-due.ensures.tasks in
    let tasks : (n : ℕ) → option_map (job_of c.args.tick.now.body.tick) (dated c.give_back-due.new.self n) ≡ rests_again c.args.tick.now n =
    λ n. ap (λ (f : ℕ → Option Dated). option_map (job_of c.args.tick.now.body.tick) (f n)) given in
    record {
      regions = c.unbegin.ensures.state ∙ ap (λ k. unbegun (grid_state k) c.args.tick.now.region) back.regions;
      contents = back.contents;
      tasks = back.tasks ∙ fun_ext (λ n. ap (option_or (jobs_of c.args.tables.now.store n)) (tasks n));
      own = back.own;
      bags = back.bags;
      next = back.next;
      agenda = added.agenda;
      top = added.top (back_owes m.opening m.history m.marks c.args.tables.now m.stands c.args.tick.now m.marked m.of (bag_of c.bring_back.new.tables.store) back.own back.bags
          (grid_state c.unbegin.new.self) (c.unbegin.ensures.state ∙ ap (λ k. unbegun (grid_state k) c.args.tick.now.region) back.regions));
      stack = rw back.agenda at added.stack;
      grid = back.grid;
      tickets = back.tickets;
      course = back.course;
    }
