-- Which numbers and actions are within the limits, and which actions may be posted.
use Rattle.std.specs.Prelude.{ℕ, Bool, true, false, ◌&&◌, not, nat_le, nat_abs, length}
use Rattle.std.specs.List.{list_all}
use Rattle.fol_model.specs.declared.places.ChunkPos.{ChunkPos}
use Rattle.fol_model.specs.declared.entities.Entity.{Entity}
use Rattle.fol_model.specs.declared.actions.Action.{Action}
use Rattle.fol_model.specs.declared.actions.Action.TheVariants as action
use Rattle.fol_model.specs.Geometry.{is_chunk, is_block, same_chunk, chunk_of}
use Rattle.fol_model.specs.Deed.{Deed, Plain, Wrap, set, copy, load, unload, send, arrive, post, every}
use Rattle.fol_model.specs.Nesting.{deed_of}

-- 1 to 1,000,000
unfoldable pub is_delay : ℕ → Bool
is_delay d = nat_le 1 d && nat_le d 1000000

-- 1 to 10,000
unfoldable pub is_count : ℕ → Bool
is_count n = nat_le 1 n && nat_le n 10000

-- 1 to 1,000,000,000
unfoldable pub is_entity_id : ℕ → Bool
is_entity_id id = nat_le 1 id && nat_le id 1000000000

unfoldable pub is_entity : Entity → Bool
is_entity e = is_entity_id e.id && (is_block e.at && (nat_le (nat_abs e.vx) 16 && nat_le (nat_abs e.vz) 16))

abbrev pub is_plain : Plain → Bool
is_plain (set at id) = is_block at && nat_le id 65535
is_plain (copy at to) = is_block at && is_block to
is_plain (load c) = is_chunk c
is_plain (unload c) = is_chunk c
is_plain (send entity to) = is_block to
is_plain (arrive e) = is_block e.at

abbrev pub is_wrap : Wrap → Bool
is_wrap (post c d) = is_chunk c && is_delay d
is_wrap (every p left) = is_delay p && is_count left

-- each place in the action is within the limits, each delay and period is 1 to 1,000,000, and each count is 1 to 10,000
abbrev pub is_deed : Deed → Bool
is_deed d = list_all is_wrap d.wraps && is_plain d.plain

abbrev pub is_action : Action → Bool
is_action a = is_deed (deed_of a)

abbrev pub is_post : Wrap → Bool
is_post (post c d) = true
is_post (every p left) = false

abbrev pub is_arrival : Plain → Bool
is_arrival (arrive e) = true
is_arrival _ = false

-- at most 7 posts round what is no arrival
abbrev pub is_simple : Deed → Bool
is_simple d = list_all is_post d.wraps && (nat_le (length d.wraps) 7 && not (is_arrival d.plain))

-- what may be posted: no arrival stands in it, and an `Every` only outermost, with at most 7 posts inside; else at most 7 posts
abbrev pub may_post : Action → Bool
may_post (action.Post c d inner) = nat_le (length inner.wraps) 6 && is_simple inner
may_post (action.Every p left inner) = is_simple inner
may_post (action.Arrive e) = false
may_post _ = true

-- an arrival is a task on the chunk of its block, and stands in no other action
abbrev pub fits : ChunkPos → Action → Bool
fits c (action.Arrive e) = same_chunk c (chunk_of e.at)
fits c a = not (is_arrival (deed_of a).plain)
