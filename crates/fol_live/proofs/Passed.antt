-- A tick that was given back, and ticks behind it that were passed over.
use Rattle.std.proofs.Common.{◌≡◌, ℕ, ◌∙◌, sym, ap, subst, List, ◌++◌, append_assoc}
use Rattle.std.specs.Prelude.{Result, Ok, Err}
use Rattle.std.proofs.lemmas.List.Elements.{All-append}
use Rattle.fol_model.specs.declared.events.Entry.{Entry}
use Rattle.fol_data.specs.declared.tick.Tick.{Tick}
use Rattle.fol_world.specs.AtEnd.{end_event}
use Rattle.fol_core.specs.Meaning.{Meaning, world_of}
use Rattle.fol_offers.specs.PassedTicks.{quiet_entries}
use Rattle.fol_live.specs.Kept.{IsKept}
use Rattle.fol_live.specs.Shown.{Shown, meaning_of}
use Rattle.fol_live.specs.Turns.{EndsAndPasses, PassesOn, SameWorld}
use Rattle.fol_live.proofs.Grown.{Added, added_end, grew}
use Rattle.fol_live.proofs.LateBegins.{same_both}
use Rattle.fol_live.proofs.QuietEntries.{quiet_own}
use Rattle.fol_live.proofs.Taken.{Begun, Hand, SeatOfLock, Visit, late_by, visits}

added_both : (a b c : Meaning) (k : ℕ) → Added a b k → Added b c k → Added a c k
added_both a b c k p q = record {
  added = p.added ++ q.added;
  history = q.history ∙ ap (λ (es : List Entry). es ++ q.added) p.history ∙ append_assoc a.history p.added q.added;
  own = All-append (λ (e : Entry). e.by ≡ k) p.added q.added p.own q.own;
}

added_passed : (m n : Shown) (k most : ℕ) → PassesOn m n k most → Added (meaning_of m) (meaning_of n) k
added_passed m n k most p =
    let quiet : List Entry = quiet_entries k p.passes.ticks in
    record {
      added = p.learns.learnt ++ quiet;
      history = p.passes.history ∙ ap (λ (es : List Entry). es ++ quiet) p.learns.history ∙ append_assoc m.history p.learns.learnt quiet;
      own = All-append (λ (e : Entry). e.by ≡ k) p.learns.learnt quiet (late_by k p.learns.learnt p.learns.late) (quiet_own k p.passes.ticks);
    }

module _ {E : Type 0} (y n : Shown) (tick : Tick) (most : ℕ) where
  same_after : (r : Result ℕ E) → (e : EndsAndPasses y n tick most r) → SameWorld e.ends.now n
  same_after (Ok k) e = same_both e.ends.now e.ended n e.ends.same (same_both e.ended e.passed.now n e.passed.learns.same e.passed.same)
  same_after (Err x) e = subst (λ (s : Shown). SameWorld e.ends.now s) (sym e.refused) e.ends.same

  kept_after : (r : Result ℕ E) → EndsAndPasses y n tick most r → IsKept n
  kept_after (Ok k) e = e.passed.keeps
  kept_after (Err x) e = subst IsKept (sym e.refused) e.ends.keeps

  ended_added : (r : Result ℕ E) → (e : EndsAndPasses y n tick most r) → Added (meaning_of e.ends.now) (meaning_of e.ended) tick.worker
  ended_added r e =
      added_end (meaning_of e.ends.now) (meaning_of e.ended) tick.worker (end_event (world_of (meaning_of e.ends.now)) tick.worker tick.region tick.log.ran) r e.ends.recorded e.ends.refused

  added_after : (r : Result ℕ E) → (e : EndsAndPasses y n tick most r) → Added (meaning_of e.ends.now) (meaning_of n) tick.worker
  added_after (Ok k) e =
      added_both (meaning_of e.ends.now) (meaning_of e.ended) (meaning_of n) tick.worker (ended_added (Ok k) e) (added_passed e.ended n tick.worker most e.passed)
  added_after (Err x) e = subst (λ (s : Shown). Added (meaning_of e.ends.now) (meaning_of s) tick.worker) (sym e.refused) (ended_added (Err x) e)

-- the turn in which it was given back
pub ended : {E : Type 0} {s t : SeatOfLock} {hand : Hand} {z y n : Shown} (tick : Tick) (most : ℕ) (r : Result ℕ E) → Begun s t hand z y tick.worker → (e : EndsAndPasses y n tick most r)
    → Visit s t hand z e.ends.now n tick.worker
ended {E} {s} {t} {hand} {z} {y} {n} tick most r b e =
    visits b e.ends.now n e.ends.learns (grew e.ends.now n tick.worker (same_after y n tick most r e) (added_after y n tick most r e)) (kept_after y n tick most r e)
