-- The views, and what each atomic step tells the seat that makes it.
use Rattle.std.specs.Prelude.{◌≡◌, ◌≢◌, ℕ, ◌+◌, ◌-◌, ◌<◌, ◌≤◌, List, [], ◌∷◌, ◌++◌, map, slice_set, Option, Some, None, IsSomeAnd, Bool, true, false}
use Rattle.std.specs.Option.{ForSome}
use Rattle.atomic_table.specs.Table.{Me, Step}
use Rattle.fol_slots.specs.declared.view.Place.{Place}
use Rattle.fol_slots.specs.declared.view.View.{View}
use Rattle.fol_slots.specs.declared.word.Word.{Word}
use Rattle.fol_slots.specs.Words.{word_of}
use Rattle.fol_slots.specs.Hands.{place, place_at, FoundOnlyAt}

module _ {T : Type 0} where
  abbrev pub view : Bool → Bool → ℕ → ℕ → Option ℕ → Option T → List (ℕ × Word) → Option ℕ → List (Place T) → View T
  view keeper worker number made slot claimed found out places =
      record { keeper = keeper; worker = worker; number = number; made = made; slot = slot; claimed = claimed; found = found; out = out; places = places }

  -- the keeper keeps each slot, with these bodies
  abbrev pub all_kept : List T → List (Place T)
  all_kept bodies = map (λ b. place (Some b) None None) bodies

  abbrev pub first_view : List T → View T
  first_view bodies = view true false 0 0 None None [] None (all_kept bodies)

  -- of a seat that was joined into another
  abbrev pub spent : View T
  spent = view false false 0 0 None None [] None []

  -- the worker holds slot i with the body x, and has the slot out
  abbrev pub claiming : View T → ℕ → T → View T
  claiming v i x = view v.keeper v.worker v.number v.made (Some i) (Some x) [] (Some i) v.places

  -- a failed claim met this word at slot i
  abbrev pub missing : View T → ℕ → Word → View T
  missing v i w = view v.keeper v.worker v.number v.made v.slot v.claimed (v.found ++ (i, w) ∷ []) v.out v.places

  abbrev pub out_at : View T → Option ℕ → View T
  out_at v out = view v.keeper v.worker v.number v.made v.slot v.claimed v.found out v.places

  -- the keeper knows slot i as p, and has no slot out
  abbrev pub knows : View T → ℕ → Place T → View T
  knows v i p = view v.keeper v.worker v.number v.made v.slot v.claimed v.found None (slice_set v.places i p)

  -- the keeper has taken slot i from the worker whose number it has
  abbrev pub taking_in : View T → ℕ → Place T → View T
  taking_in v i p = view v.keeper v.worker v.number v.made None None [] None (slice_set v.places i p)

  -- the keeper gives out one number more, and the new seat has it
  abbrev pub made_left : View T → View T
  made_left v = view v.keeper v.worker v.number (v.made + 1) v.slot v.claimed v.found v.out v.places

  abbrev pub made_right : View T → View T
  made_right v = view false true (v.made + 1) 0 None None [] None []

  -- the keeper's seat gives a worker's number away, with all that belongs to it
  abbrev pub parted_left : View T → View T
  parted_left v = view v.keeper false 0 v.made None None [] v.out v.places

  abbrev pub parted_right : View T → View T
  parted_right v = view false v.worker v.number 0 v.slot v.claimed v.found None []

  -- and takes it in
  abbrev pub both_of : View T → View T → View T
  both_of v w = view v.keeper w.worker w.number v.made w.slot w.claimed w.found v.out v.places

abbrev pub Tells : Type 0 → Type 1
Tells T = Step (Option T) → Me (Option T) (View T) → ℕ → Me (Option T) (View T) → Type 0

module _ {T : Type 0} where
  -- A worker's look: nothing is noted of Ready, and another word that it met is.
  abbrev pub looks : Tells T
  looks st m r n = (r ≡ 1 → n ≡ m) × (r ≢ 1 → (r < 4294967296) × (n ≡ (missing m.0 st.word (word_of r), m.1)))

  -- A worker's claim: Ready becomes Ticking, and the slot is out; or the word that it met is noted.
  abbrev pub claims : (T → Type 0) → Tells T
  claims fit st m r n =
      (r ≡ 1 → (x : T) × (n ≡ (claiming m.0 st.word x, (st.word, Some x) ∷ m.1)) × fit x)
      × (r ≢ 1 → (r < 4294967296) × (n ≡ (missing m.0 st.word (word_of r), m.1)))

  -- The worker's slot goes home empty.
  abbrev pub empties : Tells T
  empties st m r n = n ≡ (out_at m.0 None, [])

  -- The keeper's try: Ready becomes Kept, with the body last offered; or the worker that it met is noted, which no other slot shows.
  abbrev pub keeps : (T → Type 0) → Tells T
  keeps fit st m r n =
      let p = place_at m.0.places st.word in
      (r ≡ 1 → IsSomeAnd p.offered fit × (n ≡ (knows m.0 st.word (place p.offered p.offered None), m.1)))
      × (r ≢ 1 → (1 < r) × (r < 4294967296) × (r - 1 ≤ m.0.made) × FoundOnlyAt m.0.places (r - 1) st.word × IsSomeAnd p.offered fit × (n ≡ (knows m.0 st.word (place p.kept p.offered (Some (r - 1))), m.1)))

  -- The keeper's offer: Kept becomes Ready, with the body that the slot has.
  abbrev pub offers : Tells T
  offers st m r n = let p = place_at m.0.places st.word in n ≡ (knows m.0 st.word (place None p.kept None), m.1)

  -- A kept slot comes out, with the body that the keeper shows; the one that was offered there last is fit,
  abbrev pub takes_out : (T → Type 0) → Tells T
  takes_out fit st m r n = ForSome (place_at m.0.places st.word).offered fit × (n ≡ (out_at m.0 (Some st.word), (st.word, (place_at m.0.places st.word).kept) ∷ m.1))

  -- and goes home with another.
  abbrev pub puts_back : Tells T
  puts_back st m r n = (x : T) → m.1 ≡ (st.word, Some x) ∷ [] → n ≡ (knows m.0 st.word (place (Some x) (place_at m.0.places st.word).offered None), [])

  -- What the keeper's seat learns of a slot whose worker's seat was joined into it, where the word is r.
  pub record Met (fit : T → Type 0) (v : View T) (i r : ℕ) : Type 0 where
    pub word : r ≡ v.number + 1
    pub positive : 1 ≤ v.number
    pub few : v.number ≤ v.made
    pub only : FoundOnlyAt v.places v.number i
    pub found : (k : ℕ) → (place_at v.places i).found ≡ Some k → k ≡ v.number
    pub not_kept : (place_at v.places i).kept ≡ None
    pub claimed : v.claimed ≡ (place_at v.places i).offered
    pub fits : IsSomeAnd v.claimed fit

  -- The worker of the word is noted as found.
  abbrev pub meets : (T → Type 0) → Tells T
  meets fit st m r n = let p = place_at m.0.places st.word in Met fit m.0 st.word r × (n ≡ (knows m.0 st.word (place p.kept p.offered (Some (r - 1))), m.1))

  -- The same is learnt, and the slot comes out empty,
  abbrev pub meets_out : (T → Type 0) → Tells T
  meets_out fit st m r n = Met fit m.0 st.word r × (n ≡ (out_at m.0 (Some st.word), (st.word, None) ∷ m.1))

  -- and goes home with another body: Ticking becomes Kept.
  abbrev pub takes_in : Tells T
  takes_in st m r n = (x : T) → m.1 ≡ (st.word, Some x) ∷ [] → n ≡ (taking_in m.0 st.word (place (Some x) (place_at m.0.places st.word).offered None), [])
