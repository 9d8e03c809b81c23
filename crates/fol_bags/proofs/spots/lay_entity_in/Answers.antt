use Rattle.std.proofs.Common.{◌≡◌, ◌∙◌, ap, refl, Option, Some, None}
use Rattle.std.specs.Prelude.{IsNone}
use Rattle.fol_chunks.specs.Contents.{flat_of as contents_of}
use Rattle.fol_model.specs.ActionStep.{Flat, at_id, standing_of}
use Rattle.fol_bags.specs.Things.{of_task}
use Rattle.fol_bags.proofs.spots.lay_entity_in.Goals as goal

pub returns-clause-laid : goal.returns-clause-laid
returns-clause-laid c = record {
  contents = c.put_entity.ensures.entity ∙ ap (λ (f : Flat). let g : Flat = record f { standing = at_id f.standing c.args.e.id (Some (standing_of c.args.e)) } in g) c.room_for_thing.ensures.contents;
  tasks = λ n. c.room_for_thing.ensures.same.things (of_task n);
}

pub put_entity-requires-clause-fresh : goal.put_entity-requires-clause-fresh
put_entity-requires-clause-fresh c =
    let e : (contents_of c.room_for_thing.new.room.chunks).standing c.args.e.id ≡ None = ap (λ (f : Flat). f.standing c.args.e.id) c.room_for_thing.ensures.contents ∙ c.requires.fresh in
    is_none_of ((contents_of c.room_for_thing.new.room.chunks).standing c.args.e.id) e
  where
    is_none_of : {X : Type 0} (o : Option X) → o ≡ None → IsNone o
    is_none_of o e = rw e refl
