-- One verdict at most fits a report.
use Rattle.std.proofs.Common.{◌≡◌, ℕ, ◌+◌, ◌<◌, ◌≤◌, refl, sym, ◌∙◌, ap, arith, inl, inr, List, [], ◌∷◌, ◌++◌, length}
use Rattle.std.specs.Prelude.{codes}
use Rattle.std.proofs.lemmas.Bool.{cases_lt}
use Rattle.std.proofs.lemmas.List.{append_cancel_left}
use Rattle.fol_model.specs.declared.openings.Opening.{Opening}
use Rattle.fol_model.specs.declared.scripts.Command.{Command}
use Rattle.fol_model.specs.declared.closings.Closing.{Closing}
use Rattle.fol_model.specs.declared.events.Entry.{Entry}
use Rattle.fol_model.specs.declared.events.Event.{Event}
use Rattle.fol_model.specs.LineWords.{lines_of}
use Rattle.fol_model.specs.ReportWords.{entry_words}
use Rattle.fol_model.specs.Outputs.{Outputs}
use Rattle.fol_model.specs.Report.{report_text}
use Rattle.fol_report_laws.specs.Laws.{events}
use Rattle.fol_events.specs.InRange.{AllInRange}
use Rattle.fol_events.specs.Told.{FaultInCount, FaultInEvents, IsFault, IsTold, NoEvent, count_line, events_text}
use Rattle.fol_events.proofs.OneReading.{no_fault, one_history, same_count, text_falls}
use Rattle.fol_check.specs.Replays.{Ends, entries}
use Rattle.fol_check.specs.Verdicts.{IsLegal, IsUnlawful, IsUntrue, Judges, differing_line}
use Rattle.fol_check.specs.declared.verdicts.Verdict.{Verdict}
use Rattle.fol_check.specs.declared.verdicts.Verdict.TheVariants.{Event as AtEvent, Legal, State, Text}
use Rattle.fol_check.proofs.Prefixes.{stops_once, stops_or_ends}

-- ---- bytes have one first fault

-- the event lines of a history do not end where a longer one has events
not_longer : (g h : List Entry) (r s : List ℕ) → lines_of entry_words h ++ r ≡ lines_of entry_words g ++ s → AllInRange g → AllInRange h → length h ≤ 16777216 → length g < length h → NoEvent s → ⊥
not_longer g h r s e first second few less none =
    no_fault (events_text h ++ r) (length g + 3) h r
    (inr (inr (record {
      count = length h;
      history = g;
      rest = s;
      begins = record {
        few = few;
        text = text_falls h r ∙ ap (λ (xs : List ℕ). codes "report 1\n" ++ (count_line (length h) ++ xs)) e;
        in_range = first;
      };
      more = less;
      place = refl;
      none = none;
    }))) few second refl

same_place : (bytes : List ℕ) (l m : ℕ) → FaultInEvents bytes l → FaultInEvents bytes m → l ≡ m
same_place bytes l m a b =
    let behind = append_cancel_left (codes "report 1\n") (count_line a.count ++ (lines_of entry_words a.history ++ a.rest)) (count_line b.count ++ (lines_of entry_words b.history ++ b.rest)) (sym a.begins.text ∙ b.begins.text) in
    let same = same_count a.count b.count (lines_of entry_words a.history ++ a.rest) (lines_of entry_words b.history ++ b.rest) a.begins.few b.begins.few behind in
    let a_more = a.more in
    let b_more = b.more in
    let a_few = a.begins.few in
    let b_few = b.begins.few in
    elim (cases_lt (length a.history) (length b.history)) [
      | inl less ↦ absurd (not_longer a.history b.history b.rest a.rest (sym same.1) a.begins.in_range b.begins.in_range (omega arith) less a.none)
      | inr rest ↦ elim (cases_lt (length b.history) (length a.history)) [
        | inl less ↦ absurd (not_longer b.history a.history a.rest b.rest same.1 b.begins.in_range a.begins.in_range (omega arith) less b.none)
        | inr both ↦ let first = a.place in let second = b.place in omega arith
      ]
    ]

count_or_event : (bytes : List ℕ) (l m : ℕ) → FaultInCount bytes l → FaultInEvents bytes m → ⊥
count_or_event bytes l m a b =
    a.none b.count (lines_of entry_words b.history ++ b.rest) b.begins.few
    (append_cancel_left (codes "report 1\n") a.rest (count_line b.count ++ (lines_of entry_words b.history ++ b.rest)) (sym a.text ∙ b.begins.text))

one_fault : (bytes : List ℕ) (l m : ℕ) → IsFault bytes l → IsFault bytes m → l ≡ m
one_fault bytes l m (inl a) (inl b) = a.place ∙ sym b.place
one_fault bytes l m (inl a) (inr (inl b)) = absurd (a.none b.rest b.text)
one_fault bytes l m (inl a) (inr (inr b)) = absurd (a.none (count_line b.count ++ (lines_of entry_words b.history ++ b.rest)) b.begins.text)
one_fault bytes l m (inr (inl a)) (inl b) = absurd (b.none a.rest a.text)
one_fault bytes l m (inr (inl a)) (inr (inl b)) = a.place ∙ sym b.place
one_fault bytes l m (inr (inl a)) (inr (inr b)) = absurd (count_or_event bytes l m a b)
one_fault bytes l m (inr (inr a)) (inl b) = absurd (b.none (count_line a.count ++ (lines_of entry_words a.history ++ a.rest)) a.begins.text)
one_fault bytes l m (inr (inr a)) (inr (inl b)) = absurd (count_or_event bytes m l b a)
one_fault bytes l m (inr (inr a)) (inr (inr b)) = same_place bytes l m a b

-- ---- bytes tell one list of events

events_again : (es : List Event) → events (entries es) ≡ es
events_again [] = refl
events_again (e ∷ es) = ap (λ (xs : List Event). e ∷ xs) (events_again es)

same_events : (bytes : List ℕ) (es fs : List Event) → IsTold bytes (entries es) → IsTold bytes (entries fs) → es ≡ fs
same_events bytes es fs a b =
    sym (events_again es)
    ∙ (one_history bytes (entries es) (entries fs) a.rest b.rest a.few b.few a.in_range b.in_range a.text b.text).0
    ∙ events_again fs

told_or_not : (bytes : List ℕ) (es : List Event) (l : ℕ) → IsTold bytes (entries es) → IsFault bytes l → ⊥
told_or_not bytes es l a b = no_fault bytes l (entries es) a.rest b a.few a.in_range a.text

-- ---- a history has one report

same_text : (o : Opening) (h : List Entry) (c d : Closing) → Outputs o h c → Outputs o h d → report_text c ≡ report_text d
same_text o h c d a b =
    let history : c.history ≡ d.history = a.history ∙ sym b.history in
    let regions : c.regions ≡ d.regions = a.regions ∙ sym b.regions in
    let owners : c.owners ≡ d.owners = a.owners ∙ sym b.owners in
    let tasks : c.tasks ≡ d.tasks = a.tasks ∙ sym b.tasks in
    let entities : c.entities ≡ d.entities = a.entities ∙ sym b.entities in
    let blocks : c.blocks ≡ d.blocks = a.blocks ∙ sym b.blocks in
    rw (history, regions, owners, tasks, entities, blocks) refl

module _ (o : Opening) (cs : List Command) (bytes : List ℕ) where
  text_of : (es fs : List Event) (c d : Closing) → es ≡ fs → Ends o cs es c → Ends o cs fs d → report_text c ≡ report_text d
  text_of es fs c d same a b = same_text o (entries fs) c d (let outputs = a.outputs in rw same at outputs) b.outputs

  legal_or_unlawful : (n : ℕ) → IsLegal o cs bytes → IsUnlawful o cs bytes n → ⊥
  legal_or_unlawful n a b =
      let same = same_events bytes a.events b.events a.told b.told in
      stops_or_ends o cs b.events n a.closing b.stops (let ends = a.ends in rw same at ends)

  untrue_or_unlawful : (l n : ℕ) → IsUntrue o cs bytes l → IsUnlawful o cs bytes n → ⊥
  untrue_or_unlawful l n a b =
      let same = same_events bytes a.events b.events a.told b.told in
      stops_or_ends o cs b.events n a.closing b.stops (let ends = a.ends in rw same at ends)

  legal_or_untrue : (l : ℕ) → IsLegal o cs bytes → IsUntrue o cs bytes l → ⊥
  legal_or_untrue l a b = b.other (a.text ∙ text_of a.events b.events a.closing b.closing (same_events bytes a.events b.events a.told b.told) a.ends b.ends)

  one_place : (m n : ℕ) → IsUnlawful o cs bytes m → IsUnlawful o cs bytes n → m ≡ n
  one_place m n a b =
      let same = same_events bytes a.events b.events a.told b.told in
      stops_once o cs b.events m n (let stops = a.stops in rw same at stops) b.stops

  one_line : (l m : ℕ) → IsUntrue o cs bytes l → IsUntrue o cs bytes m → l ≡ m
  one_line l m a b =
      a.line
      ∙ ap (differing_line bytes) (text_of a.events b.events a.closing b.closing (same_events bytes a.events b.events a.told b.told) a.ends b.ends)
      ∙ sym b.line

  pub one_verdict : (v w : Verdict) → Judges o cs bytes v → Judges o cs bytes w → v ≡ w
  one_verdict Legal Legal a b = refl
  one_verdict Legal (Text m) a b = absurd (told_or_not bytes a.events m a.told b)
  one_verdict Legal (AtEvent m) a b = absurd (legal_or_unlawful m a b)
  one_verdict Legal (State m) a b = absurd (legal_or_untrue m a b)
  one_verdict (Text l) Legal a b = absurd (told_or_not bytes b.events l b.told a)
  one_verdict (Text l) (Text m) a b = ap Text (one_fault bytes l m a b)
  one_verdict (Text l) (AtEvent m) a b = absurd (told_or_not bytes b.events l b.told a)
  one_verdict (Text l) (State m) a b = absurd (told_or_not bytes b.events l b.told a)
  one_verdict (AtEvent l) Legal a b = absurd (legal_or_unlawful l b a)
  one_verdict (AtEvent l) (Text m) a b = absurd (told_or_not bytes a.events m a.told b)
  one_verdict (AtEvent l) (AtEvent m) a b = ap AtEvent (one_place l m a b)
  one_verdict (AtEvent l) (State m) a b = absurd (untrue_or_unlawful m l b a)
  one_verdict (State l) Legal a b = absurd (legal_or_untrue l b a)
  one_verdict (State l) (Text m) a b = absurd (told_or_not bytes a.events m a.told b)
  one_verdict (State l) (AtEvent m) a b = absurd (untrue_or_unlawful l m a b)
  one_verdict (State l) (State m) a b = ap State (one_line l m a b)
