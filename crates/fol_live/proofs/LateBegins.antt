-- Begins that a seat learns of, and records.
use Rattle.std.proofs.Common.{◌≡◌, ℕ, refl, sym, ◌∙◌, ap, List, [], ◌∷◌, ◌++◌, append_assoc, true, false}
use Rattle.std.specs.List.{AllByRecursion}
use Rattle.std.proofs.lemmas.List.{append-nil}
use Rattle.fol_model.specs.declared.events.Entry.{Entry}
use Rattle.fol_model.specs.declared.events.Event.{Event}
use Rattle.fol_model.specs.declared.events.Event.TheVariants.{Load, Unload, Post, PhaseOpen, Begin, End, PhaseClose, Finish, Stop}
use Rattle.fol_model.specs.OpenTick.{is_end}
use Rattle.fol_laws.proofs.SortedRows.{all_append}
use Rattle.fol_data.specs.declared.tick.Tick.{Tick}
use Rattle.fol_core.specs.Meaning.{Meaning, Records}
use Rattle.fol_seat_laws.specs.Signed.{is_start}
use Rattle.fol_tick_laws.specs.OpenTicks.{IsOpen, KeepsOpen}
use Rattle.fol_tick_laws.proofs.OpenTicks.{open_more, open_same}
use Rattle.fol_live.specs.Kept.{IsKept}
use Rattle.fol_live.specs.Shown.{Shown, meaning_of}
use Rattle.fol_live.specs.Turns.{IsLate, Learns, SameWorld}

pub learns_none : (s : Shown) (by : ℕ) → IsKept s → Learns s s by
learns_none s by kept = record {
  same = record { opening = refl; slots = refl; workers = refl };
  learnt = [];
  history = sym (append-nil s.history);
  late = tt;
  keeps = kept;
}

pub same_both : (a b c : Shown) → SameWorld a b → SameWorld b c → SameWorld a c
same_both a b c p q = record { opening = q.opening ∙ p.opening; slots = q.slots ∙ p.slots; workers = q.workers ∙ p.workers }

pub learns_both : (a b c : Shown) (by : ℕ) → Learns a b by → Learns b c by → Learns a c by
learns_both a b c by p q = record {
  same = same_both a b c p.same q.same;
  learnt = p.learnt ++ q.learnt;
  history = q.history ∙ ap (λ (es : List Entry). es ++ q.learnt) p.history ∙ append_assoc a.history p.learnt q.learnt;
  late = all_append (IsLate by) p.learnt q.learnt p.late q.late;
  keeps = q.keeps;
}

-- a Begin is no End
no_end : (r : ℕ) (event : Event) → is_start event ≡ true → is_end r event ≡ false
no_end r (Begin worker q) starts = refl
no_end r (Load caller c a) starts = absurd (cc)
no_end r (Unload caller c a) starts = absurd (cc)
no_end r (Post caller c d x a) starts = absurd (cc)
no_end r (PhaseOpen n) starts = absurd (cc)
no_end r (End worker q tick ran accepts) starts = absurd (cc)
no_end r PhaseClose starts = absurd (cc)
no_end r Finish starts = absurd (cc)
no_end r (Stop caller) starts = absurd (cc)

-- behind Begins an open tick is still open
open_behind : (by : ℕ) (es : List Entry) (m n : Meaning) (t : Tick) → AllByRecursion (IsLate by) es → n.opening ≡ m.opening → n.history ≡ m.history ++ es → IsOpen m t → IsOpen n t
open_behind by [] m n t late opening history is = open_same m n opening (history ∙ append-nil m.history) t is
open_behind by (e ∷ es) m n t late opening history is =
    let next : Meaning = record m { history = m.history ++ e ∷ [] } in
    let records : Records m next e.by e.event = record { opening = refl; history = refl; prepared = refl } in
    open_behind by es next n t late.1 opening (history ∙ sym (append_assoc m.history (e ∷ []) es)) (open_more m next e.by e.event t records (no_end t.region e.event late.0.begins) is)

pub late_keep_open : (old new : Shown) (by : ℕ) → Learns old new by → KeepsOpen (meaning_of old) (meaning_of new)
late_keep_open old new by did t is = open_behind by did.learnt (meaning_of old) (meaning_of new) t did.late did.same.opening did.history is
