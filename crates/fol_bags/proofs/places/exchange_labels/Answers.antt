use Rattle.std.proofs.Common.{rules}
use Rattle.std.proofs.lemmas.Map.Made.{map_same_pairs}
use Rattle.fol_bags.specs.Places.{exchanged}
use Rattle.fol_bags.proofs.places.exchange_labels.Goals as goal

pub returns : goal.returns
returns c = map_same_pairs _ (exchanged c.args.a c.args.b) _ (λ k v b w f' t. search rules) _ _ c.retain.ensures.filtered
