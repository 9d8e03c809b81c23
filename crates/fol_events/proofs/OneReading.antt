-- A line tells one event, and bytes one history.
use Rattle.std.proofs.Common.{◌≡◌, ℕ, ◌<◌, ◌≤◌, inl, inr, refl, sym, ap, ◌∙◌, arith, true, List, [], ◌∷◌, ◌++◌, length, append_assoc, length-append, decimal}
use Rattle.std.specs.Prelude.{codes}
use Rattle.std.specs.List.{list_all}
use Rattle.std.proofs.lemmas.Bool.{and_from}
use Rattle.fol_model.specs.declared.events.Event.{Event}
use Rattle.fol_model.specs.declared.events.Entry.{Entry}
use Rattle.fol_model.specs.TextLines.{words, line_of}
use Rattle.fol_model.specs.LineWords.{Word, line, lines_of}
use Rattle.fol_model.specs.ReportWords.{event_words, entry_words}
use Rattle.fol_report_laws.specs.Laws.{events}
use Rattle.fol_report_laws.proofs.Rows.{is_ink, is_ink_word, line_words}
use Rattle.fol_report_laws.proofs.InkWords.{decimal_ink}
use Rattle.fol_report_laws.proofs.Events.{event_in, event_again}
use Rattle.fol_events.specs.InRange.{InRange, AllInRange}
use Rattle.fol_events.specs.Told.{events_text, count_line}
use Rattle.fol_events.specs.Laws.{OneEvent, OneHistory, NoFault, FewEvents}
use Rattle.fol_events.proofs.Lists.{Cuts, same_number, next_of}
use Rattle.fol_events.proofs.Cuts.{line_cut, line_end, line_no_feed, event_some, event_ink}
use Rattle.fol_events.proofs.Near.{is_told}

pub one_event : OneEvent
one_event d e g h eq = sym (event_again d (is_told d g)) ∙ ap event_in eq ∙ event_again e (is_told e h)

-- ---- lines

-- lines with the same bytes, whatever follows them
same_line : (vs ws : List Word) (l m : List ℕ) → 0 < length vs → 0 < length ws → list_all is_ink_word vs ≡ true → list_all is_ink_word ws ≡ true → line vs ++ l ≡ line ws ++ m → (vs ≡ ws) × (l ≡ m)
same_line vs ws l m v w g h e =
    let c = line_cut ws (line_of vs) l m w h (line_no_feed vs v g) (sym (line_end vs l) ∙ e) in
    (sym (line_words vs v g) ∙ ap words c.0 ∙ line_words ws w h, c.1)

same_event : (d e : Event) (l m : List ℕ) → line (event_words d) ++ l ≡ line (event_words e) ++ m → (event_words d ≡ event_words e) × (l ≡ m)
same_event d e l m eq = same_line (event_words d) (event_words e) l m (event_some d) (event_some e) (event_ink d) (event_ink e) eq

-- a line of an event tells it
pub one_line : (d e : Event) (l m : List ℕ) → InRange d → InRange e → line (event_words d) ++ l ≡ line (event_words e) ++ m → (d ≡ e) × (l ≡ m)
one_line d e l m g h eq = let s = same_event d e l m eq in (one_event d e g h s.0, s.1)

abbrev entry_line : Entry → List ℕ
entry_line e = line (entry_words e)

abbrev EntryInRange : Entry → Type 0
EntryInRange e = InRange e.event

line_cuts : Cuts entry_line EntryInRange
line_cuts x y l m g h e = (same_event x.event y.event l m e).1

name_ink : is_ink_word (codes "events") ≡ true
unfolding is_ink
name_ink = refl

pub count_ink : (n : ℕ) → list_all is_ink_word (codes "events" ∷ decimal n ∷ []) ≡ true
count_ink n = and_from (is_ink_word (codes "events")) (list_all is_ink_word (decimal n ∷ [])) name_ink (and_from (is_ink_word (decimal n)) true (decimal_ink n) refl)

pub count_words : (n : ℕ) (l : List ℕ) → l ≡ line_of (codes "events" ∷ decimal n ∷ []) → words l ≡ codes "events" ∷ decimal n ∷ []
count_words n l e = ap words e ∙ line_words (codes "events" ∷ decimal n ∷ []) (omega arith) (count_ink n)

-- the line of the count tells it
pub same_count : (m n : ℕ) (l k : List ℕ) → m ≤ 16777216 → n ≤ 16777216 → count_line m ++ l ≡ count_line n ++ k → (m ≡ n) × (l ≡ k)
same_count m n l k few less e =
    let s = same_line (codes "events" ∷ decimal m ∷ []) (codes "events" ∷ decimal n ∷ []) l k (omega arith) (omega arith) (count_ink m) (count_ink n) e in
    let d : decimal m ≡ decimal n = let w = s.0 in cc in
    (same_number m n (omega arith) (omega arith) d, s.1)

-- ---- histories

behind : (head count es rest : List ℕ) → (head ++ (count ++ es)) ++ rest ≡ head ++ (count ++ (es ++ rest))
behind head count es rest = append_assoc head (count ++ es) rest ∙ ap (λ (l : List ℕ). head ++ l) (append_assoc count es rest)

pub text_falls : (h : List Entry) (rest : List ℕ) → events_text h ++ rest ≡ codes "report 1\n" ++ (count_line (length h) ++ (lines_of entry_words h ++ rest))
text_falls h rest = behind (codes "report 1\n") (count_line (length h)) (lines_of entry_words h) rest

behind_line : (x : Entry) (xs : List Entry) (l : List ℕ) → lines_of entry_words (x ∷ xs) ++ l ≡ entry_line x ++ (lines_of entry_words xs ++ l)
behind_line x xs l = append_assoc (entry_line x) (lines_of entry_words xs) l

same_lines : (g h : List Entry) (r s : List ℕ) → length g ≡ length h → AllInRange g → AllInRange h → lines_of entry_words g ++ r ≡ lines_of entry_words h ++ s → (events g ≡ events h) × (r ≡ s)
same_lines [] [] r s n g h e = (refl, e)
same_lines [] (y ∷ ys) r s n g h e = absurd (omega arith)
same_lines (x ∷ xs) [] r s n g h e = absurd (omega arith)
same_lines (x ∷ xs) (y ∷ ys) r s n g h e =
    let first = one_line x.event y.event (lines_of entry_words xs ++ r) (lines_of entry_words ys ++ s) g.0 h.0 (sym (behind_line x xs r) ∙ e ∙ behind_line y ys s) in
    let rest = same_lines xs ys r s (omega arith) g.1 h.1 first.1 in
    let a = first.0 in
    let b = rest.0 in
    (λ i. a i ∷ b i, rest.1)

same_head : (l m : List ℕ) → codes "report 1\n" ++ l ≡ codes "report 1\n" ++ m → l ≡ m
same_head l m e = cc

pub one_history : OneHistory
one_history bytes g h r s few less a b e f =
    let heads = same_head (count_line (length g) ++ (lines_of entry_words g ++ r)) (count_line (length h) ++ (lines_of entry_words h ++ s)) (sym (text_falls g r) ∙ sym e ∙ f ∙ text_falls h s) in
    let counts = same_count (length g) (length h) (lines_of entry_words g ++ r) (lines_of entry_words h ++ s) few less heads in
    same_lines g h r s counts.0 a b counts.1

pub no_fault : NoFault
no_fault bytes l h rest fault few a e = elim fault [
  | inl head ↦ head.none (count_line (length h) ++ (lines_of entry_words h ++ rest)) (e ∙ text_falls h rest)
  | inr more ↦ elim more [
    | inl count ↦ count.none (length h) (lines_of entry_words h ++ rest) few (same_head count.rest (count_line (length h) ++ (lines_of entry_words h ++ rest)) (sym count.text ∙ e ∙ text_falls h rest))
    | inr later ↦
        let heads = same_head (count_line later.count ++ (lines_of entry_words later.history ++ later.rest)) (count_line (length h) ++ (lines_of entry_words h ++ rest)) (sym later.begins.text ∙ e ∙ text_falls h rest) in
        let counts = same_count later.count (length h) (lines_of entry_words later.history ++ later.rest) (lines_of entry_words h ++ rest) later.begins.few few heads in
        let fewer : length later.history < length h = omega (arith, later.more, counts.0) in
        next_of entry_line EntryInRange line_cuts later.history h later.rest rest fewer later.begins.in_range a counts.1 (λ x after k f. later.none x.event after k f)
  ]
]

-- ---- how many events

few_lines : (h : List Entry) (l : List ℕ) → length h ≤ length (lines_of entry_words h ++ l)
few_lines [] l = omega arith
few_lines (x ∷ xs) l =
    let rest = few_lines xs l in
    let e = behind_line x xs l in
    let n = ap length e ∙ ap length (line_end (entry_words x) (lines_of entry_words xs ++ l)) ∙ length-append (line_of (entry_words x)) (10 ∷ (lines_of entry_words xs ++ l)) in
    omega (arith, rest, n)

pub few_events : FewEvents
few_events bytes h rest few e =
    let n = ap length (e ∙ text_falls h rest) ∙ length-append (codes "report 1\n") (count_line (length h) ++ (lines_of entry_words h ++ rest)) in
    let m = length-append (count_line (length h)) (lines_of entry_words h ++ rest) in
    let k = few_lines h rest in
    omega (arith, n, m, k, few)
