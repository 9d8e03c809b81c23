use Rattle.std.proofs.Common.{ℕ, true, sym, ◌∙◌, ap}
use Rattle.fol_chunks.specs.Contents.{is_recorded}
use Rattle.fol_store.specs.Bag.{Bag}
use Rattle.fol_store.specs.Stock.{bag_of}
use Rattle.fol_store.proofs.Stepping.{others_same, others_trans}
use Rattle.fol_store.proofs.Filling.{own_at, others_at, is_target, touched}
use Rattle.fol_keyed.proofs.Answers.{always_err}
use Rattle.fol_store.proofs.store.Store.fill.Goals as goal

pub draw_all-requires-clause-target : goal.draw_all-requires-clause-target
draw_all-requires-clause-target c = is_target c.args.id c.args.chunks.now c.args.self.now c.prepare.new.self c.in_ok-prepare.ensures.ok c.in_ok-prepare.ensures.empty c.requires.here c.requires.not_taken c.requires.not_listed c.requires.free

pub returns-in_err-prepare-clause-err : goal.returns-in_err-prepare-clause-err
returns-in_err-prepare-clause-err c = always_err c.from_residual.result _ (touched (bag_of c.args.self.now c.args.id) (bag_of c.prepare.new.self c.args.id) (bag_of c.args.self.now c.args.id).chunks (ap (λ (f : ℕ → Bag). f c.args.id) c.in_err-prepare.ensures.err) c.requires.not_listed)

pub returns-in_err-prepare-clause-others : goal.returns-in_err-prepare-clause-others
returns-in_err-prepare-clause-others c = others_same c.args.id c.args.chunks.now (bag_of c.args.self.now) (bag_of c.prepare.new.self) c.in_err-prepare.ensures.err

pub returns-in_err-draw_all-clause-err : goal.returns-in_err-draw_all-clause-err
returns-in_err-draw_all-clause-err c =
    let own = own_at c.args.id c.args.chunks.now (bag_of c.args.self.now) (bag_of c.prepare.new.self) _ c.in_ok-prepare.ensures.ok in
    always_err c.from_residual-in_err-draw_all.result _ (touched (bag_of c.args.self.now c.args.id) (bag_of c.draw_all.new.self c.args.id) c.args.chunks.now (c.draw_all.ensures.draws.own ∙ own) c.requires.not_listed)

pub returns-in_err-draw_all-clause-others : goal.returns-in_err-draw_all-clause-others
returns-in_err-draw_all-clause-others c =
    others_trans c.args.id c.args.chunks.now (bag_of c.args.self.now) (bag_of c.prepare.new.self) (bag_of c.draw_all.new.self)
    (others_at c.args.id c.args.chunks.now (bag_of c.args.self.now) (bag_of c.prepare.new.self) _ c.in_ok-prepare.ensures.ok) c.draw_all.ensures.draws.others

pub finish-requires-clause-here : goal.finish-requires-clause-here
finish-requires-clause-here c =
    let own = own_at c.args.id c.args.chunks.now (bag_of c.args.self.now) (bag_of c.prepare.new.self) _ c.in_ok-prepare.ensures.ok in
    ap (λ (b : Bag). b.here) (c.draw_all.ensures.draws.own ∙ own) ∙ c.requires.here

pub finish-requires-clause-gathered : goal.finish-requires-clause-gathered
finish-requires-clause-gathered c = λ q r.
    let own = own_at c.args.id c.args.chunks.now (bag_of c.args.self.now) (bag_of c.prepare.new.self) _ c.in_ok-prepare.ensures.ok in
    c.in_ok-draw_all.ensures.gathered q (sym (ap (λ (b : Bag). is_recorded b.chunks q) (c.draw_all.ensures.draws.own ∙ own)) ∙ r)

pub returns-clause-whole : goal.returns-clause-whole
returns-clause-whole c =
    let own = own_at c.args.id c.args.chunks.now (bag_of c.args.self.now) (bag_of c.prepare.new.self) _ c.in_ok-prepare.ensures.ok in
    own_at c.args.id c.args.chunks.now (bag_of c.draw_all.new.self) (bag_of c.finish.new.self) _ c.finish.ensures.bags
    ∙ ap (λ (b : Bag). let r : Bag = record b { listed = true; calm = true } in r) (c.draw_all.ensures.draws.own ∙ own)

pub returns-clause-others : goal.returns-clause-others
returns-clause-others c =
    others_trans c.args.id c.args.chunks.now (bag_of c.args.self.now) (bag_of c.draw_all.new.self) (bag_of c.finish.new.self)
    (others_trans c.args.id c.args.chunks.now (bag_of c.args.self.now) (bag_of c.prepare.new.self) (bag_of c.draw_all.new.self)
    (others_at c.args.id c.args.chunks.now (bag_of c.args.self.now) (bag_of c.prepare.new.self) _ c.in_ok-prepare.ensures.ok) c.draw_all.ensures.draws.others)
    (others_at c.args.id c.args.chunks.now (bag_of c.draw_all.new.self) (bag_of c.finish.new.self) _ c.finish.ensures.bags)
