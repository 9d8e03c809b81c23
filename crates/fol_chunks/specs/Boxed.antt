-- What lies behind a pointer, if there is one.
use Rattle.std.specs.Prelude.{[], Option, Some, None}
use Rattle.std.specs.Global.{Box}
use Rattle.fol_chunks.specs.declared.held.Held.{Held}
use Rattle.fol_chunks.specs.Contents.{Contents}

-- nothing, and no room
abbrev pub contents_in : Option (Box Held) → Contents
contents_in None = record { blocks = []; entities = []; spare = 0 }
contents_in (Some b) = b.value
