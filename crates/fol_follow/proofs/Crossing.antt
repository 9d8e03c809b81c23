-- A book may be shared by threads.
use mathlib.Core.List.{[], ◌∷◌}
use denote.Builtin.{u32, u64}
use denote.Hole.{as_row}
use denote.Param.Send.{IsSend, IsSync, sendable}
use denote.Param.SendFields.{as_row_send, declared_send, declared_sync}
use denote.RattleType.{RattleType}
use denote.Struct.Tuple.{Tuple}
use Rattle.std.proofs.Crossing.{Vec-send, frees, send}
use Rattle.std.proofs.MapsCrossing.{BTreeMap-send}
use Rattle.std.proofs.MapsCrossingOver.{BTreeSet-send}
use Rattle.std.specs.contracts.alloc.Global as Global
use Rattle.std.specs.contracts.collections.BTreeMap as BTreeMap
use Rattle.std.specs.contracts.collections.BTreeSet as BTreeSet
use Rattle.std.specs.contracts.impls.GlobalAllocator.TheImpl as GlobalAllocator
use Rattle.std.specs.contracts.prelude.Tuple2PartialEq.TheImpl as pair_eq
use Rattle.std.specs.contracts.prelude.Tuple2PartialOrd.TheImpl as pair_partial
use Rattle.std.specs.contracts.prelude.U32PartialEq.TheImpl as u32_eq
use Rattle.std.specs.contracts.prelude.U32PartialOrd.TheImpl as u32_partial
use Rattle.std.specs.contracts.prelude.U64PartialEq.TheImpl as u64_eq
use Rattle.std.specs.contracts.prelude.U64PartialOrd.TheImpl as u64_partial
use Rattle.std.specs.declared.cmp.Ord as ord
use Rattle.std.specs.declared.cmp.PartialEq as eq
use Rattle.std.specs.declared.cmp.PartialOrd as partial
use Rattle.fol_lock.proofs.lock.Lock.TheSendSync as locks
use Rattle.fol_model.proofs.Crossing.{BlockPos-send, Sequence-send}
use Rattle.fol_follow.specs.contracts.asks.Asks as asks
use Rattle.fol_follow.specs.contracts.asks.Asks.TheInside as inside
use Rattle.fol_follow.specs.contracts.asks.Row as row
use Rattle.fol_follow.specs.contracts.book.Book as book
use Rattle.fol_follow.specs.contracts.entries.Asked as asked
use Rattle.fol_follow.specs.contracts.entries.BookEntry as entry
use Rattle.fol_follow.specs.contracts.entries.BookEvent as event
use Rattle.fol_follow.specs.contracts.entries.EntityAt as place
use Rattle.fol_follow.specs.contracts.entries.Visit as visit
use Rattle.fol_follow.specs.contracts.entries.Waiting as waiting
use Rattle.fol_follow.specs.contracts.ledger.Ledger as ledger
use Rattle.fol_follow.specs.contracts.ledger.Ledger.TheInside as within

EntityAt-send : IsSend (place.the_field).row
EntityAt-send = search (sendable, BlockPos-send) depth 14

Visit-send : IsSend (visit.the_field).row
Visit-send = search (sendable, BlockPos-send) depth 14

Asked-send : IsSend (asked.the_field).row
Asked-send = search sendable depth 14

BookEvent-send : IsSend (event.the_field).row
BookEvent-send = search (sendable, Sequence-send, EntityAt-send, Visit-send, Asked-send) depth 14

BookEntry-send : IsSend (entry.the_field).row
BookEntry-send = search (sendable, BookEvent-send) depth 14

Row-send : IsSend (row.the_field).row
Row-send = search sendable depth 14

Waiting-send : IsSend (waiting.the_field).row
Waiting-send = search sendable depth 14

module _ (K V : RattleType) (o : ord.Ghosts K.Denot) (e : eq.Ghosts K.Denot) (p : partial.Ghosts K.Denot) where
  map_send : IsSend K → IsSend V → IsSend (as_row (BTreeMap.the_field K V Global.the_row o e p GlobalAllocator.ghosts))
  map_send k v = as_row_send (BTreeMap.the_field K V Global.the_row o e p GlobalAllocator.ghosts) (BTreeMap-send K V o e p k v)

id_send : IsSend u32
id_send = search sendable

count_send : IsSend u64
count_send = search sendable

pair_send : IsSend (Tuple (u32 ∷ u64 ∷ []))
pair_send = search sendable depth 14

fields_send : IsSend inside.the_row
fields_send = declared_send inside.the_type (map_send _ _ _ u32_eq.ghosts u32_partial.ghosts id_send count_send, (search (sendable, as_row_send, Vec-send, Row-send) depth 14, (map_send _ _ _ (pair_eq.ghosts u32 u64 u32_eq.ghosts u32_eq.dict u64_eq.ghosts u64_eq.dict) (pair_partial.ghosts u32 u64 u32_partial.ghosts u32_partial.dict u32_eq.ghosts u32_eq.dict u64_partial.ghosts u64_partial.dict u64_eq.ghosts u64_eq.dict) pair_send count_send, tt)))

Asks-send : IsSend (asks.the_field).row
Asks-send = search (sendable, fields_send) depth 14

two_send : IsSend (Tuple (u64 ∷ u64 ∷ []))
two_send = search sendable depth 14

module _ (K : RattleType) (o : ord.Ghosts K.Denot) (e : eq.Ghosts K.Denot) (p : partial.Ghosts K.Denot) where
  set_send : IsSend K → IsSend (as_row (BTreeSet.the_field K Global.the_row o e p GlobalAllocator.ghosts))
  set_send k = as_row_send (BTreeSet.the_field K Global.the_row o e p GlobalAllocator.ghosts) (BTreeSet-send K Global.the_row o e p GlobalAllocator.ghosts k send frees)

inside_send : IsSend within.the_row
inside_send = declared_send within.the_type (
  search (sendable, as_row_send) depth 14,
  (
    as_row_send asks.the_field Asks-send,
    (
      set_send _ _ (pair_eq.ghosts u64 u64 u64_eq.ghosts u64_eq.dict u64_eq.ghosts u64_eq.dict) (pair_partial.ghosts u64 u64 u64_partial.ghosts u64_partial.dict u64_eq.ghosts u64_eq.dict u64_partial.ghosts u64_partial.dict u64_eq.ghosts u64_eq.dict) two_send,
      (search (sendable, as_row_send, Vec-send, BookEntry-send) depth 14, (search (sendable, as_row_send, Vec-send, Waiting-send) depth 14, tt)),
    ),
  ),
)

pub Ledger-send : IsSend (ledger.the_field).row
Ledger-send = search (sendable, inside_send) depth 14

pub Book-sync : IsSync book.the_row
Book-sync = declared_sync book.the_type (locks.the_sync _ _ _ _ (as_row_send ledger.the_field Ledger-send), tt)
