-- A core may go to another thread.
use denote.Builtin.{u64}
use denote.Param.Send.{IsSend, sendable}
use denote.Param.SendFields.{as_row_send, declared_send}
use Rattle.std.proofs.Crossing.{Box-send, Vec-send}
use Rattle.std.specs.contracts.hash.FoldHasher as FoldHasher
use Rattle.fol_model.proofs.Crossing.{Event-send, PackedEntry-send, Task-send}
use Rattle.fol_model.proofs.grids.Grid.TheSendSync as grids
use Rattle.fol_model.proofs.openings.Opening.TheSendSync as openings
use Rattle.fol_model.specs.contracts.grids.Grid as grid
use Rattle.fol_model.specs.contracts.openings.Opening as opening
use Rattle.fol_regions.proofs.regions.Regions.TheSendSync as sent_regions
use Rattle.fol_regions.specs.contracts.regions.Regions as regions
use Rattle.fol_store.proofs.Crossing.{Store-send}
use Rattle.fol_bags.proofs.Crossing.{hasher_send, map_send, place_send}
use Rattle.fol_store.specs.contracts.store.Store as store
use Rattle.fol_core.specs.contracts.entries.Answers as answers
use Rattle.fol_core.specs.contracts.machine.Core as core
use Rattle.fol_core.specs.contracts.machine.Core.TheInside as inside
use Rattle.fol_core.specs.contracts.machine.Room as room
use Rattle.fol_world.specs.contracts.tables.Course as course
use Rattle.fol_core.specs.contracts.marks.Marks as marks
use Rattle.fol_world.specs.contracts.tables.Tables as tables

Grid-send : IsSend (grid.the_field).row
Grid-send = grids.the_send

Opening-send : IsSend (opening.the_field).row
Opening-send = openings.the_send

Regions-send : IsSend (regions.the_field).row
Regions-send = sent_regions.the_send

Course-send : IsSend (course.the_field).row
Course-send = search sendable depth 14

Answers-send : IsSend (answers.the_field).row
Answers-send = search (sendable, Vec-send, Box-send, Event-send) depth 14

Room-send : IsSend (room.the_field).row
Room-send = search (sendable, Vec-send, Task-send, Answers-send) depth 14

Marks-send : IsSend (marks.the_field).row
Marks-send = search (sendable, Vec-send) depth 14

count_send : IsSend u64
count_send = search sendable

-- ---- the tables and the core, field by field

Tables-send : IsSend tables.the_row
Tables-send = declared_send tables.the_type (
  as_row_send grid.the_field Grid-send,
  (
    as_row_send regions.the_field Regions-send,
    (
      as_row_send store.the_field Store-send,
      (
        map_send _ _ _ FoldHasher.the_row _ _ _ _ place_send count_send hasher_send,
        (
          search (sendable, as_row_send, Vec-send) depth 14,
          (as_row_send course.the_field Course-send, tt),
        ),
      ),
    ),
  ),
)

fields_send : IsSend inside.the_row
fields_send = declared_send inside.the_type (
  as_row_send opening.the_field Opening-send,
  (
    search (sendable, as_row_send, Vec-send, PackedEntry-send) depth 14,
    (
      Tables-send,
      (
        as_row_send marks.the_field Marks-send,
        (
          search (sendable, as_row_send, Room-send) depth 14,
          (search (sendable, as_row_send, Box-send, Event-send) depth 14, (search sendable depth 14, tt)),
        ),
      ),
    ),
  ),
)

pub Core-send : IsSend (core.the_field).row
Core-send = search (sendable, fields_send) depth 14
