-- Which book it is.
use Rattle.fol_lock.specs.Seat.{LockId}
use Rattle.fol_lock.specs.Lock.{lock_id}
use Rattle.fol_follow.specs.declared.book.Book.{Book}

-- no two books share it
abbrev pub book_id : Book → LockId
book_id book = lock_id book.lock
