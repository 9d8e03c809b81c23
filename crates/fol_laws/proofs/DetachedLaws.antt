-- A tick that is computed apart from the world.
use Rattle.fol_laws.specs.DetachedTick.{TickReadsItsChunks, TickChangesItsChunks, TickIsDetached}
use Rattle.fol_laws.proofs.OwnedRuns.{detached, owned}
use Rattle.fol_laws.proofs.TickReads.{only_recorded, same_tick}

pub tick_reads_its_chunks : TickReadsItsChunks
tick_reads_its_chunks = same_tick

pub tick_changes_its_chunks : TickChangesItsChunks
tick_changes_its_chunks = only_recorded

pub tick_is_detached : TickIsDetached
tick_is_detached ran o es mid rest e r ok b n run = detached _ _ r ran (owned o es mid rest e r ok b n run)
