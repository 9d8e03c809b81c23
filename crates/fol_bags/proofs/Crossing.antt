-- Bags, spots and places may go to another thread.
use mathlib.Core.List.{[], ◌∷◌}
use denote.Builtin.{i32}
use denote.Hole.{as_row}
use denote.Param.Send.{IsSend, sendable}
use denote.Param.SendFields.{as_row_send, declared_send}
use denote.RattleType.{RattleType}
use denote.Struct.Tuple.{Tuple}
use Rattle.std.proofs.Crossing.{crosses, Box-send, Vec-send}
use Rattle.std.proofs.MapsCrossing.{HashMap-send}
use Rattle.std.specs.contracts.alloc.Global as Global
use Rattle.std.specs.contracts.collections.HashMap as HashMap
use Rattle.std.specs.contracts.hash.BuildHasherDefault as BuildHasherDefault
use Rattle.std.specs.contracts.hash.FoldHasher as FoldHasher
use Rattle.std.specs.contracts.impls.GlobalAllocator.TheImpl as GlobalAllocator
use Rattle.std.specs.declared.cmp.PartialEq as eq
use Rattle.std.specs.declared.hash.BuildHasher as builder
use Rattle.std.specs.declared.hash.Hash as hash
use Rattle.std.specs.declared.hash.Hasher as hasher
use Rattle.fol_data.proofs.Crossing.{RegionData-send}
use Rattle.fol_keyed.proofs.Crossing.{ChunkSet-send}
use Rattle.fol_model.proofs.Crossing.{ChunkPos-send, Sequence-send}
use Rattle.fol_bags.specs.contracts.bags.Bags as bags
use Rattle.fol_bags.specs.contracts.kept.Kept as kept
use Rattle.fol_bags.specs.contracts.labels.Labels as labels
use Rattle.fol_bags.specs.contracts.places.Place as place
use Rattle.fol_bags.specs.contracts.places.Places as places
use Rattle.fol_bags.specs.contracts.places.Places.TheInside as inside
use Rattle.fol_bags.specs.contracts.recalled.Recalled as recalled
use Rattle.fol_bags.specs.contracts.slot.Slot as slot

Recalled-send : IsSend (recalled.the_field).row
Recalled-send = search crosses depth 14

Slot-send : IsSend (slot.the_field).row
Slot-send = search (sendable, RegionData-send, Recalled-send, ChunkSet-send, Sequence-send, ChunkPos-send) depth 14

Kept-send : IsSend (kept.the_field).row
Kept-send = search (sendable, Box-send, Slot-send) depth 14

pub Bags-send : IsSend (bags.the_field).row
Bags-send = search (sendable, Vec-send, Box-send, Kept-send, Slot-send) depth 14

-- ---- maps by the place of a chunk

pub place_send : IsSend (Tuple (i32 ∷ i32 ∷ []))
place_send = search sendable depth 14

pub hasher_send : IsSend (BuildHasherDefault.the_row FoldHasher.the_row)
hasher_send = search sendable depth 14

module _ (K V S T : RattleType) (e : eq.Ghosts K.Denot) (h : hash.Ghosts K.Denot) (b : builder.Ghosts S.Denot T.Denot) (w : hasher.Ghosts T.Denot) where
  pub map_send : IsSend K → IsSend V → IsSend S → IsSend (as_row (HashMap.the_field K V S Global.the_row T e h b w GlobalAllocator.ghosts))
  map_send k v s = as_row_send (HashMap.the_field K V S Global.the_row T e h b w GlobalAllocator.ghosts) (HashMap-send K V S T e h b w k v s)

Place-send : IsSend place.the_row
Place-send = search sendable depth 14

Labels-send : IsSend (labels.the_field).row
Labels-send = search (sendable, Vec-send) depth 14

fields_send : IsSend inside.the_row
fields_send =
    declared_send inside.the_type (map_send _ _ _ FoldHasher.the_row _ _ _ _ place_send Place-send hasher_send, (as_row_send labels.the_field Labels-send, tt))

pub Places-send : IsSend (places.the_field).row
Places-send = search (sendable, fields_send) depth 14
