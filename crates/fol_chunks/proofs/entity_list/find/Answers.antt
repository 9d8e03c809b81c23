use Rattle.std.proofs.Common.{refl}
use Rattle.std.specs.Prelude.{pos}
use Rattle.fol_chunks.proofs.EntityLists.{standing_at, none_stands}
use Rattle.fol_chunks.proofs.entity_list.find.Goals as goal

pub returns-in-Ok : goal.returns-in-Ok
returns-in-Ok c =
    rw (standing_at _ c.in-Ok.i c.args.id (record { id = 0; at = record { x = pos 0; y = pos 0; z = pos 0 }; vx = pos 0; vz = pos 0 }) c.requires c.in-Ok.ensures.0 c.in-Ok.ensures.1) refl

pub returns-in-Err : goal.returns-in-Err
returns-in-Err c = rw (none_stands _ c.in-Err.field-0 c.args.id c.in-Err.ensures.1) refl
