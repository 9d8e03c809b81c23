use Rattle.std.proofs.Common.{rules, ap, ◌∙◌, sym, subst, ◌+◌, arith}
use Rattle.fol_slots.specs.Steps.{made_left}
use Rattle.fol_slots.specs.Shown.{AreNew}
use Rattle.fol_slots.specs.Table.{slots_id}
use Rattle.fol_slots.proofs.SeatSteps.{makes}
use Rattle.fol_slots.proofs.News.{one_more, shows_new}
use Rattle.fol_slots.proofs.WordFacts.{word_new}
use Rattle.fol_slots.proofs.slots.Slots.deal.Goals as goal

pub split_seat-pass-requires : goal.split_seat-pass-requires
split_seat-pass-requires g c =
    let is = c.loop-made.invariant.me in
    let made = ap (λ m. m.0.made) is in
    let some = c.requires.some in
    let workers = c.requires.workers in (
      search rules,
      omega (arith, some, c.args.self.now.one_word_each),
      makes _ _ _ _ (ap (λ m. m.0.keeper) is) (ap (λ m. m.0.worker) is) (omega (arith, made, workers, c.loop-made-test.true)),
    )

pub loop-made-preserved : goal.loop-made-preserved
loop-made-preserved g c =
    let inv = c.loop-made.invariant in
    let split = c.split_seat-pass.ensures in
    let z = c.args.self.now.table.shared.table_id in
    let n = c.loop-made.made in record {
      table = split.0 ∙ inv.table;
      me = split.2 ∙ ap (λ m. (made_left m.0, m.1)) inv.me;
      new = subst (AreNew z (n + 1)) (sym c.push_reserved.ensures.items) (one_more z n _ _
          (shows_new z c.split_seat-pass.result.table_id c.split_seat-pass.result.me.0 c.loop-made.first.me.0 n (split.3 ∙ inv.table) (ap (λ m. m.0) split.4) (ap (λ m. m.0.made) inv.me)) inv.new);
      room = search rules;
    }

pub returns-clause-words : goal.returns-clause-words
returns-clause-words g c = λ i low. word_new g.T.Body.fit _ (slots_id c.args.self.now) c.args.self.now.table.shared.key.bodies.value.items c.args.workers i (search rules) low
