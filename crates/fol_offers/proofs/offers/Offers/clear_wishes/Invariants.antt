use Rattle.std.proofs.Common.{◌≡◌, ℕ, take, true}
use Rattle.std.specs.Prelude.{IfSome}
use Rattle.fol_core.specs.Ahead.{may_touch}
use Rattle.fol_core.specs.Meaning.{world_of}
use Rattle.fol_offers.specs.Ends.{wishes_may_touch}
use Rattle.fol_offers.specs.Shown.{CallsBack}
use Rattle.fol_offers.proofs.offers.Offers.clear_wishes.Given as goal

abbrev pub invariant-loop-wish : goal.invariant-loop-wish
invariant-loop-wish l = record {
  back : CallsBack l.fn.self l.self l.by (wishes_may_touch (world_of l.fn.self.core) (take l.wish-index l.wishes));
  first : IfSome l.first (λ c. (r : ℕ) → may_touch (world_of l.fn.self.core) c r ≡ true → wishes_may_touch (world_of l.fn.self.core) (take l.wish-index l.wishes) r ≡ true);
  last : IfSome l.last (λ c. (r : ℕ) → may_touch (world_of l.fn.self.core) c r ≡ true → wishes_may_touch (world_of l.fn.self.core) (take l.wish-index l.wishes) r ≡ true);
}
