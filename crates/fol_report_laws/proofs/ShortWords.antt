-- A number whose word is short has few digits, and so has each number of an event whose words are short.
use Rattle.std.proofs.Common.{◌≡◌, ℕ, zero, suc, ◌+◌, ◌*◌, ◌/◌, ◌%◌, ◌^◌, ◌<◌, ◌≤◌, ◌∙◌, arith, true, false, nat_eq, inl, inr, List, [], ◌∷◌, ◌++◌, map, flat_map, length, decimal}
use Rattle.std.specs.Prelude.{codes, ℤ, pos, negsuc, nat_lt}
use Rattle.std.specs.Fmt.{digits, digits_onto, digit_glyph, signed_decimal}
use Rattle.std.specs.List.{list_all, AllByRecursion}
use Rattle.std.proofs.Math.Nat.{pow-suc, one-le-pow}
use Rattle.std.proofs.lemmas.Bool.{ltb-true, ltb-false, cases_Bool, and_parts, eqb-true}
use Rattle.fol_model.specs.declared.words.Cell.{Cell}
use Rattle.fol_model.specs.declared.words.Cell.TheVariants as cells
use Rattle.fol_model.specs.declared.actions.Action.{Action}
use Rattle.fol_model.specs.declared.tasks.Ran.{Ran}
use Rattle.fol_model.specs.declared.events.Loaded.{Loaded}
use Rattle.fol_model.specs.declared.events.Loaded.TheVariants as loaded
use Rattle.fol_model.specs.declared.events.Accept.{Accept}
use Rattle.fol_model.specs.declared.events.Accept.TheVariants as accept
use Rattle.fol_model.specs.declared.events.Event.{Event}
use Rattle.fol_model.specs.declared.events.Event.TheVariants.{Load, Unload, Post, PhaseOpen, Begin, End, PhaseClose, Finish, Stop}
use Rattle.fol_model.specs.declared.events.Entry.{Entry}
use Rattle.fol_model.specs.LineWords.{Word}
use Rattle.fol_model.specs.TextForms.{cell_spelled}
use Rattle.fol_model.specs.ActionCells.{deed_cells}
use Rattle.fol_model.specs.Nesting.{deed_of}
use Rattle.fol_model.specs.ReportWords.{action_words, loaded_words, accept_words, ran_words, event_words, entry_words}
use Rattle.fol_report_laws.specs.Told.{IsShort, IsNear, IsNearCell, IsNearAction, IsShortLoaded, IsShortAccept, IsShortRan, IsShortEvent}
use Rattle.fol_report_laws.specs.Laws.{NoArrivals, AllTold}
use Rattle.fol_report_laws.specs.ShortWords.{is_short_word}

-- ---- numbers

not_below : (m p n : ℕ) → m ≡ p * 10 → 1 ≤ p → m ≤ n → nat_eq (n / 10) 0 ≡ false
not_below m p n e one l = elim (cases_Bool (nat_eq (n / 10) 0)) [
  | inl h ↦ absurd (let z : n / 10 ≡ 0 = eqb-true (n / 10) 0 h in omega arith)
  | inr h ↦ h
]

length_onto : (k n : ℕ) (after : List ℕ) → 10 ^ k ≤ n → length (digits_onto k 10 false n after) ≡ k + length after
length_onto zero n after l = omega arith
length_onto (suc k) n after l =
    let e : 10 ^ suc k ≡ 10 ^ k * 10 = pow-suc 10 k in
    let one : 1 ≤ 10 ^ k = one-le-pow k 10 (omega arith) in
    let more : 10 ^ k ≤ n / 10 = omega arith in
    rw (not_below (10 ^ suc k) (10 ^ k) n e one l) (length_onto k (n / 10) (digit_glyph false (n % 10) ∷ after) more ∙ omega arith)

abbrev IsShortWord : Word → Type 0
IsShortWord w = length w < 64

few_digits : (k n : ℕ) → length (digits_onto k 10 false n []) < k → n < 10 ^ k
few_digits k n h = elim (cases_Bool (nat_lt n (10 ^ k))) [
  | inl e ↦ ltb-true n (10 ^ k) e
  | inr e ↦ absurd (let long = length_onto k n [] (ltb-false n (10 ^ k) e) in omega arith)
]

short_is : (n : ℕ) → IsShortWord (decimal n) → IsShort n
unfolding digits
short_is n h = few_digits 64 n h

near_is : (z : ℤ) → IsShortWord (signed_decimal z) → IsNear z
near_is (pos n) h = short_is n h
near_is (negsuc n) h = short_is (suc n) (omega arith)

-- ---- events

abbrev pub AllShort : List Word → Type 0
AllShort ws = AllByRecursion IsShortWord ws

both_short : (xs ys : List Word) → AllShort (xs ++ ys) → AllShort xs × AllShort ys
both_short [] ys h = (tt, h)
both_short (x ∷ xs) ys h = let p = both_short xs ys h.1 in ((h.0, p.0), p.1)

cells_short : (cs : List Cell) → AllShort (map cell_spelled cs) → AllByRecursion IsNearCell cs
cells_short [] h = tt
cells_short (cells.Word k ∷ cs) h = (tt, cells_short cs h.1)
cells_short (cells.Number z ∷ cs) h = (near_is z h.0, cells_short cs h.1)

action_short : (a : Action) → AllShort (action_words a) → IsNearAction a
unfolding action_words
action_short a h = cells_short (deed_cells (deed_of a)) h

loaded_short : (a : Loaded) → AllShort (loaded_words a) → IsShortLoaded a
loaded_short loaded.Counted h = tt
loaded_short (loaded.Full present wanted) h = (short_is present h.1.0, short_is wanted h.1.1.0)
loaded_short loaded.Over h = tt

accept_short : (a : Accept) → AllShort (accept_words a) → IsShortAccept a
accept_short (accept.Posted number) h = short_is number h.1.0
accept_short (accept.Full present wanted) h = (short_is present h.1.0, short_is wanted h.1.1.0)

accepts_short : (xs : List Accept) → AllShort (flat_map accept_words xs) → AllByRecursion IsShortAccept xs
accepts_short [] h = tt
accepts_short (x ∷ xs) h = let p = both_short (accept_words x) (flat_map accept_words xs) h in (accept_short x p.0, accepts_short xs p.1)

rans_short : (rs : List Ran) → AllShort (flat_map ran_words rs) → AllByRecursion IsShortRan rs
rans_short [] h = tt
rans_short (r ∷ rs) h = (short_is r.number h.0, rans_short rs h.1.1)

event_short : (e : Event) → AllShort (event_words e) → IsShortEvent e
event_short (Load caller c answer) h = (short_is caller h.1.0, (near_is c.x h.1.1.0, near_is c.z h.1.1.1.0), loaded_short answer h.1.1.1.1)
event_short (Unload caller c answer) h = (short_is caller h.1.0, (near_is c.x h.1.1.0, near_is c.z h.1.1.1.0))
event_short (Post caller c d a answer) h =
    let p = both_short (accept_words answer) (action_words a) h.1.1.1.1.1 in
    (short_is caller h.1.0, (near_is c.x h.1.1.0, near_is c.z h.1.1.1.0), short_is d h.1.1.1.1.0, action_short a p.1, accept_short answer p.0)
event_short (PhaseOpen n) h = short_is n h.1.0
event_short (Begin worker region) h = (short_is worker h.1.0, short_is region h.1.1.0)
event_short (End worker region tick ran accepts) h =
    let p = both_short (flat_map ran_words ran) (codes "accepted" ∷ decimal (length accepts) ∷ flat_map accept_words accepts) h.1.1.1.1.1.1.1 in
    (short_is worker h.1.0, short_is region h.1.1.0, short_is tick h.1.1.1.1.0, rans_short ran p.0, accepts_short accepts p.1.1.1)
event_short PhaseClose h = tt
event_short Finish h = tt
event_short (Stop caller) h = short_is caller h.1.0

all_short : (ws : List Word) → list_all is_short_word ws ≡ true → AllShort ws
all_short [] h = tt
all_short (w ∷ ws) h =
    let p = and_parts (is_short_word w) (list_all is_short_word ws) h in
    (ltb-true (length w) 64 p.0, all_short ws p.1)

-- entries whose words are short, and which post no arrival, are told
pub entries_told : (es : List Entry) → list_all (list_all is_short_word) (map entry_words es) ≡ true → NoArrivals es → AllTold es
entries_told [] h n = tt
entries_told (e ∷ es) h n =
    let p = and_parts (list_all is_short_word (entry_words e)) (list_all (list_all is_short_word) (map entry_words es)) h in
    ((event_short e.event (all_short (entry_words e) p.0), n.0), entries_told es p.1 n.1)
