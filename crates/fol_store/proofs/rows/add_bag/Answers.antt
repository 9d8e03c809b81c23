use Rattle.std.proofs.Common.{◌<◌, refl, sym, subst}
use Rattle.std.proofs.lemmas.List.Elements.{All-nil}
use Rattle.std.specs.List.{IsDistinct}
use Rattle.std.specs.List.Sorted.{IsStrictlySortedBy}
use Rattle.fol_model.specs.declared.openings.BlockAt.{BlockAt}
use Rattle.fol_bags.specs.declared.slot.Slot.{Slot}
use Rattle.fol_store.specs.Lists.{IsListed}
use Rattle.fol_store.proofs.rows.add_bag.Goals as goal

pub returns-in-None-clause-listed : goal.returns-in-None-clause-listed
unfolding IsDistinct IsStrictlySortedBy
returns-in-None-clause-listed c =
    let P : Slot → Type 0 = λ b. IsListed b.body in
    subst P (sym (c.in-None.ensures.none refl)) (record {
      contents = record { blocks_differ = tt; blocks_full = All-nil (λ (x : BlockAt). 0 < x.id); entities_differ = tt };
      tasks = tt;
    })
