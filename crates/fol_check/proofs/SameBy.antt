-- Who recorded an entry makes no difference to what a report tells.
use Rattle.std.proofs.Common.{◌≡◌, ℕ, ◌≤◌, suc, zero, refl, sym, ◌∙◌, ap, subst, arith, true, List, [], ◌∷◌, ◌++◌, length, map, append_assoc, length-append}
use Rattle.std.specs.Prelude.{codes, nat_eq, if◌then◌else◌}
use Rattle.std.specs.List.{AllByRecursion, list_all}
use Rattle.std.proofs.lemmas.Bool.{and_parts, eq-eqb, leb-true}
use Rattle.std.proofs.lemmas.List.Concat.{flat_map-cons}
use Rattle.fol_model.specs.declared.openings.Opening.{Opening}
use Rattle.fol_model.specs.declared.scripts.Command.{Command}
use Rattle.fol_model.specs.declared.scripts.Command.TheVariants as commands
use Rattle.fol_model.specs.declared.closings.Closing.{Closing}
use Rattle.fol_model.specs.declared.events.Entry.{Entry}
use Rattle.fol_model.specs.declared.events.Event.{Event}
use Rattle.fol_model.specs.declared.events.Event.TheVariants as events'
use Rattle.fol_model.specs.GridNumbers.{IsGrid}
use Rattle.fol_model.specs.Legal.{Doing, Legal as IsLegalHistory, Order, WholeTicks, idle, is_of, order, orders, orders_of, post_task, turn, worker_of}
use Rattle.fol_model.specs.LineWords.{line, lines_of, part}
use Rattle.fol_model.specs.Nesting.{deed_of}
use Rattle.fol_model.specs.Report.{report_text}
use Rattle.fol_model.specs.ReportWords.{block_row_words, entity_words, entry_words, event_words, owner_words, region_words, task_words}
use Rattle.fol_model.specs.Run.{after, world}
use Rattle.fol_model.specs.World.{World, start}
use Rattle.fol_laws.specs.ByUnread.{SameEvents}
use Rattle.fol_laws.proofs.HistoryLaws.{by_is_not_read}
use Rattle.fol_report_laws.specs.Laws.{events}
use Rattle.fol_events.specs.InRange.{AllInRange, PlainInRange}
use Rattle.fol_events.specs.Told.{IsTold, count_line, events_text}
use Rattle.fol_check.specs.Laws.{CommandIsShort, IsReport, IsShortScript, PostIsShort}
use Rattle.fol_check.specs.Next.{entry_of}
use Rattle.fol_check.specs.Replays.{entries}
use Rattle.fol_check.specs.Verdicts.{IsLegal}
use Rattle.fol_check.proofs.Places.{no_turn}
use Rattle.fol_check.proofs.Ranges.{AllShort, all_in, event_least}

-- ---- the same events, each recorded by the one that it names

abbrev again : List Entry → List Entry
again h = entries (events h)

same_again : (h : List Entry) → SameEvents h (again h)
same_again [] = tt
same_again (e ∷ h) = (refl, same_again h)

lines_again : (h : List Entry) → lines_of entry_words (again h) ≡ lines_of entry_words h
lines_again [] = refl
lines_again (e ∷ h) =
    flat_map-cons (λ (x : Entry). line (entry_words x)) (entry_of e.event) (again h)
    ∙ ap (λ (xs : List ℕ). line (entry_words e) ++ xs) (lines_again h)
    ∙ sym (flat_map-cons (λ (x : Entry). line (entry_words x)) e h)

count_again : (h : List Entry) → length (again h) ≡ length h
count_again [] = refl
count_again (e ∷ h) = ap suc (count_again h)

part_again : (h : List Entry) → part (codes "events") entry_words (again h) ≡ part (codes "events") entry_words h
part_again h = let count = count_again h in let lines = lines_again h in rw (count, lines) refl

range_again : (h : List Entry) → AllInRange h → AllInRange (again h)
range_again [] range = tt
range_again (e ∷ h) range = (range.0, range_again h range.1)

pub told_again : (bytes : List ℕ) (h : List Entry) → IsTold bytes h → IsTold bytes (entries (events h))
told_again bytes h told = record {
  few = (let count = count_again h in let few = told.few in omega arith);
  in_range = range_again h told.in_range;
  rest = told.rest;
  text = told.text ∙ ap (λ (xs : List ℕ). (codes "report 1\n" ++ xs) ++ told.rest) (sym (part_again h));
}

orders_again : (h : List Entry) → orders (again h) ≡ orders h
orders_again [] = refl
orders_again (e ∷ h) =
    flat_map-cons (λ (x : Entry). orders_of x.event) (entry_of e.event) (again h)
    ∙ ap (λ (os : List Order). orders_of e.event ++ os) (orders_again h)
    ∙ sym (flat_map-cons (λ (x : Entry). orders_of x.event) e h)

workers_again : (h : List Entry) → list_all (λ (x : Entry). is_of 64 x.event) (again h) ≡ list_all (λ (x : Entry). is_of 64 x.event) h
workers_again [] = refl
workers_again (e ∷ h) = let rest = workers_again h in rw rest refl

ticks_again : (k : ℕ) (w : World) (d : Doing) (h : List Entry) → WholeTicks k w d h → WholeTicks k w d (again h)
ticks_again k w d [] whole = whole
ticks_again k w d (e ∷ h) whole = (whole.0, ticks_again k (after w e.event) (if nat_eq (worker_of e.event) k then turn w d e.event else d) h whole.1)

legal_again : (o : Opening) (cs : List Command) (h : List Entry) → IsLegalHistory o cs 64 h → IsLegalHistory o cs 64 (entries (events h))
legal_again o cs h legal = record {
  run = (by_is_not_read o h (again h) (same_again h) legal.run).0;
  commands = orders_again h ∙ legal.commands;
  workers = workers_again h ∙ legal.workers;
  ticks = λ k low high. ticks_again k (start o) idle h (legal.ticks k low high);
  others = entries (events legal.others);
  by = 0;
  finish = ap again legal.finish ∙ finish_again legal.others;
}
  where
    finish_again : (xs : List Entry) → again (xs ++ (record { by = legal.by; event = events'.Finish }) ∷ []) ≡ again xs ++ (record { by = 0; event = events'.Finish }) ∷ []
    finish_again [] = refl
    finish_again (x ∷ xs) = ap (λ (ys : List Entry). entry_of x.event ∷ ys) (finish_again xs)

-- ---- the entities that posts send

all_front : {X : Type 0} (P : X → Type 0) (xs ys : List X) → AllByRecursion P (xs ++ ys) → AllByRecursion P xs
all_front P [] ys all = tt
all_front P (x ∷ xs) ys all = (all.0, all_front P xs ys all.1)

all_behind : {X : Type 0} (P : X → Type 0) (xs ys : List X) → AllByRecursion P (xs ++ ys) → AllByRecursion P ys
all_behind P [] ys all = all
all_behind P (x ∷ xs) ys all = all_behind P xs ys all.1

abbrev OrderIsShort : Order → Type 0
OrderIsShort (post_task c d a) = PlainInRange (deed_of a).plain
OrderIsShort _ = Unit {0}

order_short : (c : Command) → CommandIsShort c → OrderIsShort (order c)
order_short (commands.Load c) short = tt
order_short (commands.Unload c) short = tt
order_short (commands.Post c d a) short = short
order_short (commands.Every c d p count a) short = short
order_short (commands.Run n) short = tt
order_short commands.End short = tt

orders_short : (cs : List Command) → IsShortScript cs → AllByRecursion OrderIsShort (map order cs)
orders_short [] short = tt
orders_short (c ∷ cs) short = (order_short c short.0, orders_short cs short.1)

-- the worker k has whole ticks from here on
record Whole (k : ℕ) (w : World) (h : List Entry) : Type 0 where
  doing : Doing
  ticks : WholeTicks k w doing h

event_short : (w : World) (e : Event) (h : List Entry) (by : ℕ) → is_of 64 e ≡ true → AllByRecursion OrderIsShort (orders_of e) → ((k : ℕ) → 1 ≤ k → k ≤ 64 → Whole k w ((record { by = by; event = e }) ∷ h)) → PostIsShort e
event_short w (events'.Load k c a) h by of short whole = tt
event_short w (events'.Unload k c a) h by of short whole = tt
event_short w (events'.Post zero c d x a) h by of short whole = short.0
event_short w (events'.Post (suc k) c d x a) h by of short whole =
    let at = whole (suc k) (omega arith) (leb-true (suc k) 64 of) in
    absurd (no_turn (suc k) c d x a at.doing (at.ticks.0 (eq-eqb (suc k) (suc k) refl)))
event_short w (events'.PhaseOpen n) h by of short whole = tt
event_short w (events'.Begin k r) h by of short whole = tt
event_short w (events'.End k r t xs ks) h by of short whole = tt
event_short w events'.PhaseClose h by of short whole = tt
event_short w events'.Finish h by of short whole = tt
event_short w (events'.Stop k) h by of short whole = tt

all_short : (w : World) (h : List Entry) → list_all (λ (x : Entry). is_of 64 x.event) h ≡ true → AllByRecursion OrderIsShort (orders h) → ((k : ℕ) → 1 ≤ k → k ≤ 64 → Whole k w h) → AllShort h
all_short w [] of short whole = tt
all_short w (e ∷ h) of short whole =
    let both = and_parts (is_of 64 e.event) (list_all (λ (x : Entry). is_of 64 x.event) h) of in
    let P : List Order → Type 0 = AllByRecursion OrderIsShort in
    let split = subst P (flat_map-cons (λ (x : Entry). orders_of x.event) e h) short in (
      event_short w e.event h e.by both.0 (all_front OrderIsShort (orders_of e.event) (orders h) split) whole,
      all_short (after w e.event) h both.1 (all_behind OrderIsShort (orders_of e.event) (orders h) split)
          (λ k low high. let at = whole k low high in record { doing = if nat_eq (worker_of e.event) k then turn w at.doing e.event else at.doing; ticks = at.ticks.1 }),
    )

-- ---- a report of a legal history is found legal

-- what follows the events in a report
abbrev behind : Closing → List ℕ
behind c =
    part (codes "regions") region_words c.regions ++ (part (codes "owners") owner_words c.owners ++ (part (codes "tasks") task_words c.tasks
    ++ (part (codes "entities") entity_words c.entities ++ (part (codes "blocks") block_row_words c.blocks ++ codes "end\n"))))

regroup : (a r o t e b d : List ℕ) → (((((a ++ r) ++ o) ++ t) ++ e) ++ b) ++ d ≡ a ++ (r ++ (o ++ (t ++ (e ++ (b ++ d)))))
regroup a r o t e b d =
    append_assoc ((((a ++ r) ++ o) ++ t) ++ e) b d
    ∙ append_assoc (((a ++ r) ++ o) ++ t) e (b ++ d)
    ∙ append_assoc ((a ++ r) ++ o) t (e ++ (b ++ d))
    ∙ append_assoc (a ++ r) o (t ++ (e ++ (b ++ d)))
    ∙ append_assoc a r (o ++ (t ++ (e ++ (b ++ d))))

report_begins : (c : Closing) → report_text c ≡ events_text c.history ++ behind c
report_begins c = regroup (events_text c.history) (part (codes "regions") region_words c.regions) (part (codes "owners") owner_words c.owners)
    (part (codes "tasks") task_words c.tasks) (part (codes "entities") entity_words c.entities) (part (codes "blocks") block_row_words c.blocks) (codes "end\n")

text_begins : (c : Closing) (h : List Entry) → c.history ≡ h → report_text c ≡ events_text h ++ behind c
text_begins c h same = report_begins c ∙ ap (λ (x : List Entry). events_text x ++ behind c) same

part_within : (before count lines after : List ℕ) → length lines ≤ length ((before ++ (count ++ lines)) ++ after)
part_within before count lines after =
    let all = length-append (before ++ (count ++ lines)) after in
    let inner = length-append before (count ++ lines) in
    let own = length-append count lines in
    omega arith

lines_within : (c : Closing) → length (lines_of entry_words c.history) ≤ length (report_text c)
lines_within c =
    let P : List ℕ → Type 0 = λ text. length (lines_of entry_words c.history) ≤ length text in
    subst P (sym (report_begins c)) (part_within (codes "report 1\n") (count_line (length c.history)) (lines_of entry_words c.history) (behind c))

text_again : (c : Closing) (h : List Entry) → c.history ≡ h → report_text (record c { history = again h }) ≡ report_text c
text_again c h same =
    report_begins (record c { history = again h })
    ∙ ap (λ (xs : List ℕ). (codes "report 1\n" ++ xs) ++ behind c) (part_again h)
    ∙ sym (text_begins c h same)

lines_least : (h : List Entry) → length h ≤ length (lines_of entry_words h)
lines_least [] = omega arith
lines_least (e ∷ h) =
    let first = event_least e.event in
    let rest = lines_least h in
    let split = ap length (flat_map-cons (λ (x : Entry). line (entry_words x)) e h) ∙ length-append (line (event_words e.event)) (lines_of entry_words h) in
    omega arith

module _ (o : Opening) (cs : List Command) (bytes : List ℕ) where
  pub is_report : IsLegal o cs bytes → IsReport o cs bytes
  is_report is = record { history = entries is.events; closing = is.closing; legal = is.ends.legal; outputs = is.ends.outputs; text = is.text }

  pub report_is : IsGrid o.grid → IsShortScript cs → length bytes ≤ 16777216 → IsReport o cs bytes → IsLegal o cs bytes
  report_is grid short size is =
      let h = is.history in
      let c = is.closing in
      let legal = is.legal in
      let outputs = is.outputs in
      let P : List Order → Type 0 = AllByRecursion OrderIsShort in
      let history = outputs.history in
      let long : length (lines_of entry_words h) ≤ 16777216 = let within = lines_within c in let same = ap length is.text in let own = ap (λ (x : List Entry). length (lines_of entry_words x)) history in omega arith in
      let range : AllInRange h = all_in o grid h [] legal.run legal.workers
      (all_short (start o) h legal.workers (subst P (sym legal.commands) (orders_short cs short)) (λ k low high. record { doing = idle; ticks = legal.ticks k low high })) (omega arith) in
      let same_world : world o (again h) ≡ world o h = (by_is_not_read o h (again h) (same_again h) legal.run).1 in
      let d : Closing = record c { history = again h } in
      let text : report_text d ≡ report_text c = text_again c h history in
      record {
        events = events h;
        told = told_again bytes h (record {
          few = (let count = lines_least h in omega arith);
          in_range = range;
          rest = behind c;
          text = is.text ∙ text_begins c h history;
        });
        closing = d;
        ends = record {
          legal = legal_again o cs h legal;
          outputs = record {
            opening = outputs.opening;
            history = refl;
            regions = rw same_world outputs.regions;
            owners = rw same_world outputs.owners;
            tasks = rw same_world outputs.tasks;
            entities = rw same_world outputs.entities;
            blocks = rw same_world outputs.blocks;
          };
        };
        text = is.text ∙ sym text;
      }
