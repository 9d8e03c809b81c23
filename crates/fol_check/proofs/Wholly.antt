-- The replay of a whole list of events.
use Rattle.std.proofs.Common.{subst, ◌≡◌, ℕ, ◌+◌, ◌<◌, ◌≤◌, refl, sym, ◌∙◌, ap, arith, true, false, inl, inr, List, [], ◌∷◌, ◌++◌, length, take, append_assoc, append-nil, length-append}
use Rattle.std.specs.Prelude.{◌⊎◌, Bool}
use Rattle.std.proofs.Math.Seq.{take-append_seam}
use Rattle.std.proofs.lemmas.List.{length-map, map-append}
use Rattle.fol_model.specs.SoFar.{SoFar}
use Rattle.fol_model.specs.declared.openings.Opening.{Opening}
use Rattle.fol_model.specs.declared.scripts.Command.{Command}
use Rattle.fol_model.specs.declared.closings.Closing.{Closing}
use Rattle.fol_model.specs.declared.events.Entry.{Entry}
use Rattle.fol_model.specs.declared.events.Event.{Event}
use Rattle.fol_model.specs.declared.events.Event.TheVariants as events
use Rattle.fol_report_laws.specs.Laws.{events as events_of}
use Rattle.fol_events.specs.InRange.{InRange}
use Rattle.fol_check.specs.Next.{MayRecord, entry_of}
use Rattle.fol_check.specs.Replays.{Closes, Ends, LastFinishes, Played, SoFarAt, StopsAt, entries, is_last}
use Rattle.fol_check.specs.Standing.{Records, Starts, Went}
use Rattle.fol_check.specs.declared.replay.Replay.{Replay}
use Rattle.fol_check.proofs.Growing.{so_far}

pub played_start : (s : Replay) (o : Opening) (cs : List Command) (es : List Event) → Starts s o cs → Played s o cs es es 0
played_start s o cs es starts = record {
  stands = starts.stands;
  opening = starts.opening;
  commands = starts.script;
  played = [];
  split = refl;
  history = starts.none;
  place = refl;
}

entries_more : (es : List Event) (e : Event) → entries (es ++ e ∷ []) ≡ entries es ++ entry_of e ∷ []
entries_more es e = map-append entry_of es (e ∷ [])

module _ (s : Replay) (o : Opening) (cs : List Command) (es left : List Event) (n : ℕ) (p : Played s o cs es left n) where
  first_taken : take n es ≡ p.played
  first_taken = let place = p.place in let split = p.split in rw (place, split) (take-append_seam p.played left)

  so_far_now : SoFarAt o cs es n
  so_far_now =
      let taken = first_taken in
      let opening = p.opening in
      let commands = p.commands in
      let history = p.history in
      rw taken (rw (opening, commands, history) at (so_far s p.stands))

  module _ (e : Event) (rest : List Event) (first : left ≡ e ∷ rest) where
    split_more : es ≡ (p.played ++ e ∷ []) ++ rest
    split_more = p.split ∙ ap (λ (xs : List Event). p.played ++ xs) first ∙ sym (append_assoc p.played (e ∷ []) rest)

    count_more : n + 1 ≡ length (p.played ++ e ∷ [])
    count_more = let place = p.place in let count = length-append p.played (e ∷ []) in omega arith

    taken_more : take (n + 1) es ≡ p.played ++ e ∷ []
    taken_more = let count = count_more in let split = split_more in rw (count, split) (take-append_seam (p.played ++ e ∷ []) rest)

    pub played_more : (u : Replay) → Records s u e → Played u o cs es rest (n + 1)
    played_more u records = record {
      stands = records.stands;
      opening = records.opening ∙ p.opening;
      commands = records.script ∙ p.commands;
      played = p.played ++ e ∷ [];
      split = split_more;
      history = records.history ∙ ap (λ (h : List Entry). h ++ entry_of e ∷ []) p.history ∙ sym (entries_more p.played e);
      place = count_more;
    }

    pub played_stops : (SoFar s.core.opening s.script 64 (s.core.history ++ entry_of e ∷ []) → ⊥) → StopsAt o cs es (n + 1)
    played_stops refused = record {
      before = n;
      place = refl;
      within = (let place = p.place in let all = ap length p.split in let count = length-append p.played left in omega arith);
      so_far = so_far_now;
      no_more = λ less so.
          let taken = taken_more in
          let opening = p.opening in
          let commands = p.commands in
          let history = p.history in
          let whole : SoFar o cs 64 (entries p.played ++ entry_of e ∷ []) = rw (taken, entries_more p.played e) at so in
          refused (rw (opening, commands, history) whole);
      unfinished = λ all. absurd (let place = p.place in let many = ap length split_more in let a = length-append (p.played ++ e ∷ []) rest in let b = length-append p.played (e ∷ []) in omega arith);
    }

module _ (s : Replay) (o : Opening) (cs : List Command) (es : List Event) (n : ℕ) (p : Played s o cs es [] n) where
  all_played : es ≡ p.played
  all_played = p.split ∙ append-nil p.played

  pub played_short : (LastFinishes s.core.history → ⊥) → StopsAt o cs es (n + 1)
  played_short refused = record {
    before = n;
    place = refl;
    within = (let place = p.place in let all = ap length all_played in omega arith);
    so_far = so_far_now s o cs es [] n p;
    no_more = λ less so. absurd (let place = p.place in let all = ap length all_played in omega arith);
    unfinished = λ all last. let same = all_played in let history = p.history in refused (rw history (rw same at last));
  }

  pub played_whole : (c : Closing) → Closes s c → Ends o cs es c
  played_whole c closes =
      let same = all_played in
      let opening = p.opening in
      let commands = p.commands in
      let history = p.history in
      record {
        legal = rw same (rw (opening, commands, history) at closes.legal);
        outputs = rw same (rw (opening, history) at closes.outputs);
      }

-- ---- the last entry

record Last (h : List Entry) : Type 0 where
  before : List Entry
  last : Entry
  is : h ≡ before ++ last ∷ []

last_or_none : (h : List Entry) → (h ≡ []) ⊎ Last h
last_or_none [] = inl refl
last_or_none (e ∷ es) = elim (last_or_none es) [
  | inl none ↦ inr (record { before = []; last = e; is = ap (λ (xs : List Entry). e ∷ xs) none })
  | inr more ↦ inr (record { before = e ∷ more.before; last = more.last; is = ap (λ (xs : List Entry). e ∷ xs) more.is })
]

module _ (h : List Entry) (b : Bool) (some : (hs : List Entry) (e : Entry) → h ≡ hs ++ e ∷ [] → b ≡ is_last e.event) (none : h ≡ [] → b ≡ false) where
  pub finishes : b ≡ true → LastFinishes h
  finishes ends = elim (last_or_none h) [
    | inl empty ↦ absurd (let never : false ≡ true = sym (none empty) ∙ ends in cc)
    | inr last ↦ record { before = last.before; last = last.last; is = last.is; finish = sym (some last.before last.last last.is) ∙ ends }
  ]

  pub goes_on : b ≡ false → LastFinishes h → ⊥
  goes_on on last = let never : false ≡ true = sym on ∙ some last.before last.last last.is ∙ last.finish in cc

-- ---- events that a reader tells

-- an event in range may be recorded
pub may_record : (e : Event) → InRange e → MayRecord e
may_record (events.Load k c a) range = range.1
may_record (events.Unload k c a) range = range.1
may_record (events.Post k c d a x) range = let post = range.1 in (post.chunk, post.delay, post.action, post.may_post)
may_record (events.PhaseOpen n) range = tt
may_record (events.Begin k r) range = tt
may_record (events.End k r t xs ks) range = tt
may_record events.PhaseClose range = tt
may_record events.Finish range = tt
may_record (events.Stop k) range = tt

-- ---- the steps of a replay

module _ (s u : Replay) (o : Opening) (cs : List Command) (h left rest : List Entry) (e : Entry) (n place : ℕ) (b : Bool)
    (p : Played s o cs (events_of h) (events_of left) n) (at : place ≡ n + 1) (first : left ≡ e ∷ rest) (went : Went s u e.event b) where
  pub stops_here : b ≡ false → StopsAt o cs (events_of h) place
  stops_here not =
      let refused : SoFar s.core.opening s.script 64 (s.core.history ++ entry_of e.event ∷ []) → ⊥ = let told = went in rw not at told in
      rw at (played_stops s o cs (events_of h) (events_of left) n p e.event (events_of rest) (ap events_of first) refused)

  pub goes_here : b ≡ true → Played u o cs (events_of h) (events_of rest) (n + 1)
  goes_here went_on =
      let records : Records s u e.event = let told = went in rw went_on at told in
      played_more s o cs (events_of h) (events_of left) n p e.event (events_of rest) (ap events_of first) u records

module _ (s : Replay) (o : Opening) (cs : List Command) (h left : List Entry) (n place : ℕ) (p : Played s o cs (events_of h) (events_of left) n) where
  pub played_few : n ≤ length h
  played_few =
      let count = p.place in
      let all = ap length p.split in
      let both = length-append p.played (events_of left) in
      let many = length-map h (λ (x : Entry). x.event) in
      omega arith

  pub none_left : left ≡ [] → Played s o cs (events_of h) [] n
  none_left none = let Q : List Event → Type 0 = λ xs. Played s o cs (events_of h) xs n in subst Q (ap events_of none) p

  pub short_here : place ≡ n + 1 → left ≡ [] → (LastFinishes s.core.history → ⊥) → StopsAt o cs (events_of h) place
  short_here at none refused = rw at (played_short s o cs (events_of h) n (none_left none) refused)

  pub whole_here : (c : Closing) → left ≡ [] → Closes s c → Ends o cs (events_of h) c
  whole_here c none closes = played_whole s o cs (events_of h) n (none_left none) c closes

-- a queue in which nothing is left
pub none_behind : {X : Type 0} (xs : List X) (n : ℕ) → length xs ≡ n → (0 < n → false ≡ true) → xs ≡ []
none_behind [] n count none = refl
none_behind (x ∷ xs) n count none = absurd (let never : false ≡ true = none (omega arith) in cc)
