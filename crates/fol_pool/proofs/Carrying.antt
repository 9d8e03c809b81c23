-- How the caller's seat goes through a script.
use Rattle.std.proofs.Common.{◌≡◌, refl, sym, ◌∙◌, true, List, [], ◌∷◌, ◌++◌, length, map, append_assoc, append-nil, arith}
use Rattle.std.specs.Prelude.{IsTrue}
use Rattle.std.specs.List.{list_all}
use Rattle.std.proofs.lemmas.Bool.{and_parts}
use Rattle.std.proofs.lemmas.List.Concat.{flat_map-append}
use Rattle.fol_model.specs.declared.events.Entry.{Entry}
use Rattle.fol_model.specs.declared.scripts.Command.{Command}
use Rattle.fol_model.specs.IsScript.{is_command}
use Rattle.fol_model.specs.Legal.{order, orders, orders_of}
use Rattle.fol_laws.proofs.SortedRows.{all_append}
use Rattle.fol_seat_laws.specs.Signed.{is_call}
use Rattle.fol_live.specs.Seat.{Shown}
use Rattle.fol_pool.specs.Script.{Carries, Finished, HasFinished, Issued}
use Rattle.fol_pool.specs.Works.{SameSeat}
use Rattle.fol_pool.proofs.Issuing.{calls_are, orders_are}

pub orders_both : (xs ys : List Entry) → orders (xs ++ ys) ≡ orders xs ++ orders ys
orders_both xs ys = flat_map-append (λ (e : Entry). orders_of e.event) xs ys

-- one command more
pub carries_on : (s u : Shown) (c : Command) (left rest all : List Command) → left ≡ c ∷ rest → Carries s left all → Issued s u c → Carries u rest all
carries_on s u c left rest all is carries did =
    let before : orders s.mine ++ order c ∷ map order rest ≡ map order all = rw is at carries.orders in
    let mine = did.goes.mine in
    let own = did.order in
    record {
      zero = did.goes.number ∙ carries.zero;
      orders = rw (mine, orders_both s.mine did.own, own) (append_assoc (orders s.mine) (order c ∷ []) (map order rest) ∙ before);
      calls = rw mine (all_append (λ (e : Entry). is_call e.event ≡ true) s.mine did.own carries.calls did.calls);
    }

-- none is left
pub carries_end : (s : Shown) (left all : List Command) → length left ≡ 0 → Carries s left all → Carries s [] all
carries_end s [] all none carries = carries
carries_end s (c ∷ rest) all none carries = absurd (omega arith)

-- and the history is finished
pub has_finished : (s u : Shown) (all : List Command) → Carries s [] all → SameSeat s u → Finished s u → HasFinished u all
has_finished s u all carries same did =
    let mine = did.does.goes.mine in
    let are = did.does.deeds_are in
    let before : orders s.mine ≡ map order all = sym (append-nil (orders s.mine)) ∙ carries.orders in
    let none : orders did.does.own ≡ [] = rw (orders_are did.does.own, are) refl in
    record {
      zero = same.number ∙ carries.zero;
      before = did.before;
      seen = did.seen;
      orders = rw (mine, orders_both s.mine did.does.own, none) (append-nil (orders s.mine) ∙ before);
      calls = rw mine (all_append (λ (x : Entry). is_call x.event ≡ true) s.mine did.does.own carries.calls (calls_are did.does.own (rw are (refl, tt))));
    }

-- ---- the limits of what is left

pub first_limit : (c : Command) (left rest : List Command) → left ≡ c ∷ rest → IsTrue (list_all is_command left) → IsTrue (is_command c)
first_limit c left rest is all = (and_parts (is_command c) (list_all is_command rest) (rw is at all)).0

pub later_limits : (c : Command) (left rest : List Command) → left ≡ c ∷ rest → IsTrue (list_all is_command left) → IsTrue (list_all is_command rest)
later_limits c left rest is all = (and_parts (is_command c) (list_all is_command rest) (rw is at all)).1
