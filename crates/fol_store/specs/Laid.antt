-- A store before any region is there.
use Rattle.std.specs.Prelude.{ℕ, ◌≡◌, None}
use Rattle.fol_store.specs.Bag.{no_bag}
use Rattle.fol_bags.specs.Things.{Key}
use Rattle.fol_store.specs.Stock.{Stock, found, bag_of}

-- no bag is here or taken out
pub record AllClosed (s : Stock) : Type 0 where
  pub bags : (u : ℕ) → bag_of s u ≡ no_bag

-- nothing lies in it
pub record IsBare (s : Stock) : Type 0 where
  pub closed : AllClosed s
  pub nothing : (k : Key) → found s k ≡ None
