-- What a history is read for.
use Rattle.fol_laws.specs.ByUnread.{ByIsNotRead}
use Rattle.fol_laws.proofs.SameEventRuns.{by_unread}

pub by_is_not_read : ByIsNotRead
by_is_not_read = by_unread
