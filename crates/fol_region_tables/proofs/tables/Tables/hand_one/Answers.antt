use Rattle.std.proofs.Common.{ℕ, ◌∙◌, ap, arith, Bool}
use Rattle.fol_region_tables.proofs.BookFacts.{awaited_lives}
use Rattle.fol_region_tables.proofs.tables.Tables.hand_one.Goals as goal

pub part-requires-clause-other : goal.part-requires-clause-other
part-requires-clause-other c = awaited_lives c.args.self.now c.keeps_lists.ensures c.args.id c.args.other c.requires.pair

pub pair-requires-clause-other : goal.pair-requires-clause-other
pair-requires-clause-other c = ap (λ (f : ℕ → Bool). f c.args.other) c.part.ensures.pair.live ∙ awaited_lives c.args.self.now c.keeps_lists.ensures c.args.id c.args.other c.requires.pair

pub pair-requires-clause-region : goal.pair-requires-clause-region
pair-requires-clause-region c = ap (λ (f : ℕ → Bool). f c.args.into) c.part.ensures.pair.live ∙ c.requires.into

pub pair-requires-clause-room : goal.pair-requires-clause-room
pair-requires-clause-room c = (omega (arith, c.part.ensures.ahead.0, c.part.ensures.ahead.1, c.keeps_lists.ensures.ahead_fits), omega (arith, c.part.ensures.behind.0, c.part.ensures.behind.1, c.keeps_lists.ensures.behind_fits))
