-- Which event may come next in a replay.
use Rattle.std.specs.Prelude.{ℕ, ◌≡◌, ◌<◌, true, false, suc, List, [], ◌++◌, drop, map, IsTrue, Option, None, slice_get}
use Rattle.std.specs.Option.{option_map}
use Rattle.fol_model.specs.Geometry.{is_chunk}
use Rattle.fol_model.specs.Limits.{is_action, is_delay, may_post}
use Rattle.fol_model.specs.Run.{Allowed, after}
use Rattle.fol_model.specs.Legal.{IsTurn, Order, is_of, order, orders_of, worker_of}
use Rattle.fol_model.specs.declared.scripts.Command.{Command}
use Rattle.fol_model.specs.declared.events.Entry.{Entry}
use Rattle.fol_model.specs.declared.events.Event.{Event}
use Rattle.fol_model.specs.declared.events.Event.TheVariants.{Load, Unload, Post}
use Rattle.fol_core.specs.Meaning.{world_of}
use Rattle.fol_check.specs.Asked.{doing_at}
use Rattle.fol_check.specs.declared.replay.Replay.{Replay}
use Rattle.std.proofs.Common.{get_or}

-- what the next command asks for
abbrev pub next_order : List Command → ℕ → Option Order
next_order commands n = option_map order (slice_get commands n)

-- the positions, the delay and the action of the event are such as a core takes
abbrev pub MayRecord : Event → Type 0
MayRecord (Load caller c answer) = IsTrue (is_chunk c)
MayRecord (Unload caller c answer) = IsTrue (is_chunk c)
MayRecord (Post caller c d a answer) = IsTrue (is_chunk c) × IsTrue (is_delay d) × IsTrue (is_action a) × IsTrue (may_post a)
MayRecord _ = Unit {0}

-- the entry of an event, as the one that it names records it
abbrev pub entry_of : Event → Entry
entry_of e = record { by = worker_of e; event = e }

-- the event may come next
pub record IsNext (s : Replay) (e : Event) : Type 0 where
  pub going : (world_of s.core).finished ≡ false
  pub allowed : Allowed (world_of s.core) e
  -- what is left to be ordered after it
  pub later : List Order
  pub command : orders_of e ++ later ≡ drop s.next (map order s.script)
  pub finish : (after (world_of s.core) e).finished ≡ true → later ≡ []
  pub worker : IsTrue (is_of 64 e)
  pub turn : (k : ℕ) → k < 64 → worker_of e ≡ suc k → IsTurn (doing_at (get_or s.workers.items k None)) e
