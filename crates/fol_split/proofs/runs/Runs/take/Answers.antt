use Rattle.std.proofs.Common.{◌≡◌, true, false, sym, ◌∙◌, arith}
use Rattle.std.proofs.lemmas.List.{get_or_read}
use Rattle.fol_split.specs.Runs.{Marks, is_left_at}
use Rattle.fol_split.proofs.Adding.{few_runs}
use Rattle.fol_split.proofs.Taking.{room_for, marked_one, takes_one}
use Rattle.fol_split.proofs.runs.Runs.take.Goals as goal

pub invariant_of-self : goal.invariant_of-self
invariant_of-self c =
    let m : Marks = record { runs = c.self.inside.runs.items; left = c.self.inside.left.items; class = c.self.inside.class.items } in
    let marked = c.self.invariant.0 in
    let requires = rw (← c.self.view_is) at c.requires in
    let left : is_left_at m c.args.k ≡ true = sym (get_or_read m.left _ _ (omega (arith, requires, marked.flags)) c.index.ensures false) ∙ c.if-index.true in
    let room = room_for m c.args.k marked left in
    let ok = c.push.ensures.succeeds (omega (arith, room, few_runs m.runs marked.sound, c.self.invariant.1.class)) in
    let items = rw ok at c.push.ensures.items in
    rw items (
      marked_one m c.args.k marked left,
      record {
        runs = c.self.invariant.1.runs;
        left = c.self.invariant.1.left;
        class = omega (arith, c.push.ensures.capacity, c.self.invariant.1.class);
      },
    )

pub returns-then-index : goal.returns-then-index
returns-then-index c =
    let m : Marks = record { runs = c.self.inside.runs.items; left = c.self.inside.left.items; class = c.self.inside.class.items } in
    let marked = c.self.invariant.0 in
    let requires = rw (← c.self.view_is) at c.requires in
    let left : is_left_at m c.args.k ≡ true = sym (get_or_read m.left _ _ (omega (arith, requires, marked.flags)) c.index.ensures false) ∙ c.if-index.true in
    let room = room_for m c.args.k marked left in
    let ok = c.push.ensures.succeeds (omega (arith, room, few_runs m.runs marked.sound, c.self.invariant.1.class)) in
    let items = rw ok at c.push.ensures.items in
    rw (← c.self.view_is, items) (takes_one m c.args.k marked left)
