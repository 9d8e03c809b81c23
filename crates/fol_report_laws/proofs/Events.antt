-- An event is read from the words of its line.
use Rattle.std.proofs.Common.{◌≡◌, ℕ, refl, ap, ◌∙◌, List, [], ◌∷◌, ◌++◌, flat_map, get_or, drop, length, decimal}
use Rattle.std.specs.Prelude.{◌+◌, codes, if◌then◌else◌}
use Rattle.std.specs.List.{AllByRecursion}
use Rattle.std.specs.Str.{bytes_eq}
use Rattle.fol_model.specs.declared.places.ChunkPos.{ChunkPos}
use Rattle.fol_model.specs.declared.tasks.Outcome.{Outcome}
use Rattle.fol_model.specs.declared.tasks.Outcome.TheVariants as outcome
use Rattle.fol_model.specs.declared.tasks.Ran.{Ran}
use Rattle.fol_model.specs.declared.events.Loaded.{Loaded}
use Rattle.fol_model.specs.declared.events.Loaded.TheVariants as loaded
use Rattle.fol_model.specs.declared.events.Unloaded.{Unloaded}
use Rattle.fol_model.specs.declared.events.Unloaded.TheVariants as unloaded
use Rattle.fol_model.specs.declared.events.Accept.{Accept}
use Rattle.fol_model.specs.declared.events.Accept.TheVariants as accept
use Rattle.fol_model.specs.declared.events.Event.{Event}
use Rattle.fol_model.specs.declared.events.Event.TheVariants.{Load, Unload, Post, PhaseOpen, Begin, End, PhaseClose, Finish, Stop}
use Rattle.fol_model.specs.LineWords.{Word}
use Rattle.fol_model.specs.ReportWords.{chunk_words, loaded_words, unloaded_words, accept_words, ran_words, outcome_word, event_words}
use Rattle.fol_report_laws.specs.Told.{IsNearChunk, IsShortLoaded, IsShortAccept, IsShortRan, IsTold}
use Rattle.fol_report_laws.proofs.Numbers.{natural_in, integer_in, natural_again, integer_again, number_no_word}
use Rattle.fol_report_laws.proofs.Actions.{action_in, action_again}

-- ---- what stands at a place

abbrev word_at : ℕ → List Word → Word
word_at n ws = get_or ws n []

abbrev natural_at : ℕ → List Word → ℕ
natural_at n ws = natural_in (word_at n ws)

abbrev chunk_at : ℕ → List Word → ChunkPos
chunk_at n ws = record { x = integer_in (word_at n ws); z = integer_in (word_at (n + 1) ws) }

chunk_again : (c : ChunkPos) → IsNearChunk c → chunk_at 0 (chunk_words c) ≡ c
chunk_again c h = let x = integer_again c.x h.0 in let z = integer_again c.z h.1 in λ i. record { x = x i; z = z i }

-- ---- answers

abbrev loaded_in : List Word → Loaded
loaded_in ws = if bytes_eq (word_at 0 ws) (codes "counted") then loaded.Counted
    else (if bytes_eq (word_at 0 ws) (codes "full") then loaded.Full (natural_at 1 ws) (natural_at 2 ws) else loaded.Over)

loaded_again : (a : Loaded) → IsShortLoaded a → loaded_in (loaded_words a) ≡ a
loaded_again loaded.Counted h = refl
loaded_again (loaded.Full present wanted) h = let p = natural_again present h.0 in let w = natural_again wanted h.1 in λ i. loaded.Full (p i) (w i)
loaded_again loaded.Over h = refl

abbrev unloaded_in : List Word → Unloaded
unloaded_in ws = if bytes_eq (word_at 0 ws) (codes "lowered") then unloaded.Lowered
    else (if bytes_eq (word_at 0 ws) (codes "noticket") then unloaded.NoTicket else unloaded.Over)

unloaded_again : (a : Unloaded) → unloaded_in (unloaded_words a) ≡ a
unloaded_again unloaded.Lowered = refl
unloaded_again unloaded.NoTicket = refl
unloaded_again unloaded.Over = refl

abbrev outcome_in : Word → Outcome
outcome_in w = if bytes_eq w (codes "done") then outcome.Done
    else (if bytes_eq w (codes "foreign") then outcome.Foreign
    else (if bytes_eq w (codes "absent") then outcome.Absent
    else (if bytes_eq w (codes "full") then outcome.Full else outcome.NoTicket)))

outcome_again : (o : Outcome) → outcome_in (outcome_word o) ≡ o
outcome_again outcome.Done = refl
outcome_again outcome.Foreign = refl
outcome_again outcome.Absent = refl
outcome_again outcome.Full = refl
outcome_again outcome.NoTicket = refl

-- ---- lists of a tick's end

-- pairs of words, up to the word `accepted`
abbrev rans_in : List Word → List Ran
rans_in (n ∷ o ∷ ws) = if bytes_eq n (codes "accepted") then [] else (record { number = natural_in n; outcome = outcome_in o }) ∷ rans_in ws
rans_in _ = []

-- what stands behind that word and the count
abbrev behind_rans : List Word → List Word
behind_rans (n ∷ o ∷ ws) = if bytes_eq n (codes "accepted") then ws else behind_rans ws
behind_rans _ = []

rans_again : (rs : List Ran) (count : Word) (ws : List Word) → AllByRecursion IsShortRan rs → rans_in (flat_map ran_words rs ++ codes "accepted" ∷ count ∷ ws) ≡ rs
rans_again [] count ws h = refl
rans_again (r ∷ rs) count ws h =
    let n = natural_again r.number h.0 in
    let o = outcome_again r.outcome in
    let rest = rans_again rs count ws h.1 in
    rw (number_no_word r.number (codes "accepted") refl) (λ i. (record { number = n i; outcome = o i }) ∷ rest i)

behind_again : (rs : List Ran) (count : Word) (ws : List Word) → AllByRecursion IsShortRan rs → behind_rans (flat_map ran_words rs ++ codes "accepted" ∷ count ∷ ws) ≡ ws
behind_again [] count ws h = refl
behind_again (r ∷ rs) count ws h = rw (number_no_word r.number (codes "accepted") refl) (behind_again rs count ws h.1)

-- an answer at each word `posted` and `full`; the other words are the numbers of these
abbrev accepts_in : List Word → List Accept
accepts_in [] = []
accepts_in (w ∷ ws) = if bytes_eq w (codes "posted") then accept.Posted (natural_at 0 ws) ∷ accepts_in ws
    else (if bytes_eq w (codes "full") then accept.Full (natural_at 0 ws) (natural_at 1 ws) ∷ accepts_in ws else accepts_in ws)

number_skipped : (n : ℕ) (ws : List Word) → accepts_in (decimal n ∷ ws) ≡ accepts_in ws
number_skipped n ws = rw (number_no_word n (codes "posted") refl, number_no_word n (codes "full") refl) refl

accepts_again : (xs : List Accept) → AllByRecursion IsShortAccept xs → accepts_in (flat_map accept_words xs) ≡ xs
accepts_again [] h = refl
accepts_again (accept.Posted number ∷ xs) h =
    let n = natural_again number h.0 in
    let rest = number_skipped number (flat_map accept_words xs) ∙ accepts_again xs h.1 in
    λ i. accept.Posted (n i) ∷ rest i
accepts_again (accept.Full present wanted ∷ xs) h =
    let p = natural_again present h.0.0 in
    let w = natural_again wanted h.0.1 in
    let rest = number_skipped present (decimal wanted ∷ flat_map accept_words xs) ∙ number_skipped wanted (flat_map accept_words xs) ∙ accepts_again xs h.1 in
    λ i. accept.Full (p i) (w i) ∷ rest i

-- ---- events

abbrev load_in : List Word → Event
load_in ws = Load (natural_at 0 ws) (chunk_at 1 ws) (loaded_in (drop 3 ws))

abbrev unload_in : List Word → Event
unload_in ws = Unload (natural_at 0 ws) (chunk_at 1 ws) (unloaded_in (drop 3 ws))

abbrev post_in : List Word → Event
post_in ws = if bytes_eq (word_at 4 ws) (codes "posted")
    then Post (natural_at 0 ws) (chunk_at 1 ws) (natural_at 3 ws) (action_in (drop 6 ws)) (accept.Posted (natural_at 5 ws))
    else Post (natural_at 0 ws) (chunk_at 1 ws) (natural_at 3 ws) (action_in (drop 7 ws)) (accept.Full (natural_at 5 ws) (natural_at 6 ws))

abbrev end_in : List Word → Event
end_in ws = End (natural_at 0 ws) (natural_at 1 ws) (natural_at 3 ws) (rans_in (drop 6 ws)) (accepts_in (behind_rans (drop 6 ws)))

abbrev event_of : Word → List Word → Event
event_of k ws = if bytes_eq k (codes "load") then load_in ws
    else (if bytes_eq k (codes "unload") then unload_in ws
    else (if bytes_eq k (codes "post") then post_in ws
    else (if bytes_eq k (codes "open") then PhaseOpen (natural_at 0 ws)
    else (if bytes_eq k (codes "begin") then Begin (natural_at 0 ws) (natural_at 1 ws)
    else (if bytes_eq k (codes "end") then end_in ws
    else (if bytes_eq k (codes "close") then PhaseClose
    else (if bytes_eq k (codes "stop") then Stop (natural_at 0 ws) else Finish)))))))

abbrev pub event_in : List Word → Event
event_in ws = event_of (word_at 0 ws) (drop 1 ws)

pub event_again : (e : Event) → IsTold e → event_in (event_words e) ≡ e
event_again (Load caller c answer) h =
    let n = natural_again caller h.0.0 in
    let at = chunk_again c h.0.1 in
    let a = loaded_again answer h.0.2 in
    λ i. Load (n i) (at i) (a i)
event_again (Unload caller c answer) h =
    let n = natural_again caller h.0.0 in
    let at = chunk_again c h.0.1 in
    let a = unloaded_again answer in
    λ i. Unload (n i) (at i) (a i)
event_again (Post caller c d a (accept.Posted number)) h =
    let n = natural_again caller h.0.0 in
    let at = chunk_again c h.0.1 in
    let delay = natural_again d h.0.2 in
    let action = action_again a h.0.3 h.1 in
    let task = natural_again number h.0.4 in
    λ i. Post (n i) (at i) (delay i) (action i) (accept.Posted (task i))
event_again (Post caller c d a (accept.Full present wanted)) h =
    let n = natural_again caller h.0.0 in
    let at = chunk_again c h.0.1 in
    let delay = natural_again d h.0.2 in
    let action = action_again a h.0.3 h.1 in
    let p = natural_again present h.0.4.0 in
    let w = natural_again wanted h.0.4.1 in
    λ i. Post (n i) (at i) (delay i) (action i) (accept.Full (p i) (w i))
event_again (PhaseOpen n) h = ap (λ k. PhaseOpen k) (natural_again n h.0)
event_again (Begin worker region) h =
    let w = natural_again worker h.0.0 in
    let r = natural_again region h.0.1 in
    λ i. Begin (w i) (r i)
event_again (End worker region tick ran accepts) h =
    let w = natural_again worker h.0.0 in
    let r = natural_again region h.0.1 in
    let t = natural_again tick h.0.2 in
    let rs = rans_again ran (decimal (length accepts)) (flat_map accept_words accepts) h.0.3 in
    let answers = ap accepts_in (behind_again ran (decimal (length accepts)) (flat_map accept_words accepts) h.0.3) ∙ accepts_again accepts h.0.4 in
    λ i. End (w i) (r i) (t i) (rs i) (answers i)
event_again PhaseClose h = refl
event_again Finish h = refl
event_again (Stop caller) h = ap (λ k. Stop k) (natural_again caller h.0)
