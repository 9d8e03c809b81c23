-- An added hold of a chunk that was held already: bags and stack stay.
use Rattle.std.proofs.Common.{◌≡◌, ℕ, refl, ap, true, inl, inr, List, length}
use Rattle.std.proofs.lemmas.Bool.{cases_Bool}
use Rattle.std.proofs.lemmas.List.{append-nil}
use Rattle.fol_model.specs.declared.places.ChunkPos.{ChunkPos}
use Rattle.fol_model.specs.declared.grids.Grid.{Grid}
use Rattle.fol_model.specs.GridState.{GridState, is_loaded}
use Rattle.fol_model.specs.Add.{add, is_full}
use Rattle.fol_model.specs.Rules.{Rules}
use Rattle.fol_regions.specs.Changes.{Changes, add_change}
use Rattle.fol_regions.proofs.AddAgain.{none_wanted}
use Rattle.fol_store.specs.Bag.{Bag}
use Rattle.fol_world.specs.Agenda.{Covers, TopOwes}
use Rattle.fol_world.specs.Follows.{CanCover, Settle, followed, gaining}
use Rattle.fol_world.proofs.Added.{held_changes_none}
use Rattle.fol_world.proofs.SettledBags.{gathered_self}

module _ (n : Grid) (g : GridState) (c : ChunkPos) (f : ℕ → Bag) (rules : Rules g) (held : is_loaded g c ≡ true) where
  same_bags : followed (gaining n g c) (add_change g c) f ≡ f
  unfolding gaining
  same_bags = rw (held_changes_none g c rules held, held) refl

  pub none_made : length (add_change g c).created ≡ 0
  none_made = ap (λ (ch : Changes). length ch.created) (held_changes_none g c rules held)

  pub bags_stay : (h : GridState) → Settle h (followed (gaining n g c) (add_change g c) f) f
  bags_stay h = rw same_bags (λ r. gathered_self h r (f r))

  pub still_covers : (xs : List ℕ) (h : GridState) → CanCover xs h (add_change g c) (followed (gaining n g c) (add_change g c) f) → Covers xs h f
  still_covers xs h can = let covers = can.covers in rw (held_changes_none g c rules held, append-nil xs) at (rw same_bags at covers)

  state_stays : (add g c).state ≡ g.state
  unfolding add
  state_stays = let none = none_wanted g c rules held in elim (cases_Bool (is_full g c)) [ inl e ↦ rw e refl | inr e ↦ rw (e, none) refl ]

  pub top_stays : (xs : List ℕ) → TopOwes xs g f → TopOwes xs (add g c) f
  top_stays xs top ys r e = let same = state_stays in rw same (top ys r e)
