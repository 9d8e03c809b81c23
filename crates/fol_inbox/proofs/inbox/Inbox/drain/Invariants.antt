use Rattle.std.proofs.Common.{◌≡◌, ◌⊎◌, None}
use Rattle.fol_inbox.specs.Drains.{IsSameDrainer, PostsMore}
use Rattle.fol_inbox.proofs.inbox.Inbox.drain.Given as goal

abbrev pub invariant-loop-done : goal.invariant-loop-done
invariant-loop-done g l = IsSameDrainer l.initial.drainer l.drainer × PostsMore l.done l.initial.drainer l.drainer × ((l.done ≡ 0) ⊎ (l.drainer.held ≡ None))
