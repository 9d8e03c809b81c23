use Rattle.std.proofs.Common.{[], sym, ◌∙◌, ap}
use Rattle.fol_chunks.specs.Contents.{is_recorded}
use Rattle.fol_store.specs.Bag.{Bag}
use Rattle.fol_store.specs.Stock.{bag_of}
use Rattle.fol_store.proofs.Filling.{own_at}
use Rattle.fol_store.proofs.store.Store.draw_noted.Goals as goal

pub finish-requires-clause-here : goal.finish-requires-clause-here
finish-requires-clause-here c =
    let own = own_at c.args.id [] (bag_of c.args.self.now) (bag_of c.reopen-touched.new.self) _ c.reopen-touched.ensures.bags in
    ap (λ (b : Bag). b.here) (c.draw_touched.ensures.draws.own ∙ own) ∙ c.requires.here

pub finish-requires-clause-gathered : goal.finish-requires-clause-gathered
finish-requires-clause-gathered c = λ q r. c.in_ok-draw_touched.ensures.gathered q (sym (ap (λ (b : Bag). is_recorded b.chunks q) c.draw_touched.ensures.draws.own) ∙ r)
