-- A step of one seat on one slot: what has to be shown of that seat and that slot, so that the rule holds of the whole table.
use Rattle.std.proofs.Common.{◌≡◌, ◌≢◌, ℕ, ◌+◌, ◌-◌, ◌<◌, List, length, get_or, set, sym, refl, ap, ◌∙◌, subst, arith, length-set, get_or-set_other, get_or-set_same, Option, Some, None}
use Rattle.std.proofs.lemmas.List.{set-get_or}
use mathlib.Core.Logic.{dite}
use mathlib.Core.Option.{some, none}
use mathlib.Core.Option as maybe
use native.Mathlib.Decide.{ℕ_discrete, dec_le}
use lib.ListN.{get_elem?}
use Rattle.atomic_table.specs.Table.{State}
use Rattle.atomic_table.proofs.Lists.{set_here, set_else, set_again}
use Rattle.fol_slots.specs.declared.view.Place.{Place}
use Rattle.fol_slots.specs.declared.view.View.{View}
use Rattle.fol_slots.specs.Hands.{place_at, SlotFits, SeatFits, Ruled}
use Rattle.fol_slots.proofs.Changes.{below_length, none_some}
use Rattle.fol_slots.proofs.Frames.{seats_stay, at_same, slots_at, slot_stays, seat_stays}

module _ {T : Type 0} (fit : T → Type 0) (n : ℕ) where
  abbrev V : Type 0
  V = View T

  abbrev St : Type 0
  St = State (Option T) V

  abbrev Homes : Type 0
  Homes = List (maybe.Option (Option T))

  abbrev Rule : St → Type 0
  Rule = Ruled fit n

  -- no word and no slot changes, and one seat's view
  pub same_view : (s : St) (r : Rule s) (id : ℕ) (v w : V) → get_elem? s.views id ≡ some v → SeatFits n r.keeper r.made r.owner r.hold r.outer r.ps id w → Rule record { words = s.words; homes = s.homes; views = set s.views id w }
  same_view s r id v w at ok = record {
    keeper = r.keeper;
    made = r.made;
    owner = r.owner;
    hold = r.hold;
    outer = r.outer;
    ps = r.ps;
    wide = r.wide;
    deep = r.deep;
    long = r.long;
    few = r.few;
    unmade = r.unmade;
    seated = λ i j e. subst (λ (k : ℕ). j < k) (sym (length-set s.views id w)) (r.seated i j e);
    each_slot = r.each_slot;
    each_seat = seats_stay (SeatFits n r.keeper r.made r.owner r.hold r.outer r.ps) s.views id w ok (λ j d _ there. r.each_seat j d there);
  }

  pub same_words : (s : St) (i : ℕ) (homes : Homes) (views : List V) → Rule record { words = s.words; homes = homes; views = views } → Rule record { words = set s.words i (get_or s.words i 0); homes = homes; views = views }
  same_words s i homes views r = subst (λ (ws : List ℕ). Rule record { words = ws; homes = homes; views = views }) (sym (set-get_or s.words i 0)) r

  pub same_homes : (s : St) (i : ℕ) (h : maybe.Option (Option T)) (words : List ℕ) (views : List V) → get_elem? s.homes i ≡ some h → Rule record { words = words; homes = set s.homes i h; views = views } → Rule record { words = words; homes = s.homes; views = views }
  same_homes s i h words views e r = subst (λ (hs : Homes). Rule record { words = words; homes = hs; views = views }) (set_again s.homes i h e) r

  -- The seat id, whose view was v, has the view u; slot i has the word w, the home h and the place p.
  pub at_slot : (s : St) (r : Rule s) (id : ℕ) (v u : V) (i w : ℕ) (h : maybe.Option (Option T)) (p : Place T) (ps : List (Place T)) (hold outer : ℕ → Option ℕ)
      → i < n → get_elem? s.views id ≡ some v → length ps ≡ n → place_at ps i ≡ p → ((j : ℕ) → j ≢ i → place_at ps j ≡ place_at r.ps j)
      → SlotFits fit r.keeper r.owner hold outer i w (some h) p
      → SeatFits n r.keeper r.made r.owner hold outer ps id u
      → ((j : ℕ) → j ≢ i → outer j ≡ r.outer j)
      → ((a j : ℕ) → j ≢ i → hold a ≡ Some j → r.hold a ≡ Some j) → ((a j : ℕ) → j ≢ i → r.hold a ≡ Some j → hold a ≡ Some j)
      → ((a : ℕ) → r.owner a ≢ id → hold a ≡ r.hold a)
      → ((j : ℕ) → j ≢ id → r.outer i ≡ Some j → outer i ≡ Some j) → ((j : ℕ) → j ≢ id → outer i ≡ Some j → r.outer i ≡ Some j)
      → ((a : ℕ) → r.owner a ≢ id → r.hold a ≡ Some i → p.offered ≡ (place_at r.ps i).offered)
      → ((j : ℕ) → j ≢ id → j ≡ r.keeper → ps ≡ r.ps)
      → ((a : ℕ) → r.made < a → hold a ≡ None)
      → Rule record { words = set s.words i w; homes = set s.homes i h; views = set s.views id u }
  at_slot s r id v u i w h p ps hold outer inside at long here else slot me outers back forth holds out_forth out_back offers keeper_else unmade =
      let wide = r.wide in
      let deep = r.deep in record {
        keeper = r.keeper;
        made = r.made;
        owner = r.owner;
        hold = hold;
        outer = outer;
        ps = ps;
        wide = length-set s.words i w ∙ r.wide;
        deep = length-set s.homes i h ∙ r.deep;
        long = long;
        few = r.few;
        unmade = unmade;
        seated = λ a j e. subst (λ (z : ℕ). j < z) (sym (length-set s.views id u)) (dite (ℕ_discrete j id)
            (λ same. let low = below_length s.views id v at in omega arith)
            (λ ne. dite (ℕ_discrete a i) (λ is. r.seated i j (out_back j ne (ap outer (sym is) ∙ e))) (λ other. r.seated a j (sym (outers a other) ∙ e))));
        each_slot = slots_at (SlotFits fit r.keeper r.owner hold outer) s.words (set s.words i w) s.homes (set s.homes i h) r.ps ps i n
            (at_same (SlotFits fit r.keeper r.owner hold outer i) w _ (some h) _ p _ (get_or-set_same s.words i w 0 (omega arith)) (set_here s.homes i h (omega arith)) here slot)
            (λ j other. (get_or-set_other s.words i j w 0 other, set_else s.homes i j h other, else j other))
            (λ j low other. slot_stays fit r.keeper r.owner r.owner r.hold hold r.outer outer j _ _ _ (outers j other) (λ a e. back a j other e) (λ a e. forth a j other e) (λ _ _ _ e. e) (r.each_slot j low));
        each_seat = seats_stay (SeatFits n r.keeper r.made r.owner hold outer ps) s.views id u me
            (λ j d other there. seat_stays n r.keeper r.made r.made r.owner r.owner r.hold hold r.outer outer r.ps ps j d
            (λ _ is. (keeper_else j other is, refl))
            (λ _ owned _ low. (owned, holds d.number (λ e. other (sym owned ∙ e)), low))
            (λ a e at_a. let owned = ((r.each_seat j d there).worker e).0 in dite (ℕ_discrete a i)
            (λ same. ap (λ (z : ℕ). (place_at ps z).offered) same ∙ (ap (λ (z : Place T). z.offered) here ∙ (offers d.number (λ e. other (sym owned ∙ e)) (at_a ∙ ap (λ (z : ℕ). Some z) same) ∙ ap (λ (z : ℕ). (place_at r.ps z).offered) (sym same))))
            (λ ne. ap (λ (z : Place T). z.offered) (else a ne)))
            (λ a e. dite (ℕ_discrete a i) (λ same. ap outer same ∙ out_forth j other (ap r.outer (sym same) ∙ e)) (λ ne. outers a ne ∙ e))
            (λ a e. dite (ℕ_discrete a i) (λ same. ap r.outer same ∙ out_back j other (ap outer (sym same) ∙ e)) (λ ne. sym (outers a ne) ∙ e))
            (r.each_seat j d there));
      }

  -- each word fits the type of its stored form's number
  pub small_word : (s : St) (r : Rule s) (i : ℕ) → i < n → get_or s.words i 0 < 4294967296
  small_word s r i inside = let w : ℕ = get_or s.words i 0 in let few = r.few in dite (dec_le (w + 1) 2) (λ l. omega arith)
      (λ ge. let t = (r.each_slot i inside).ticks (omega arith) in dite (dec_le (r.made + 1) (w - 1)) (λ high. let z = r.unmade (w - 1) (omega arith) in absurd (none_some i (sym z ∙ t))) (λ low. omega arith))
