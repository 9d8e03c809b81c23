-- What answers of a host make of the tasks that they are for, and of the tasks before and behind those.
use Rattle.std.proofs.Common.{◌≡◌, ℕ, refl, sym, ◌∙◌, ap, subst, arith, true, false, inl, inr, List, [], ◌∷◌, ◌++◌, map, append_assoc}
use Rattle.std.specs.Prelude.{nat_eq}
use Rattle.std.proofs.lemmas.Bool.{cases_Bool, eq-eqb, ne_eqb}
use Rattle.std.proofs.lemmas.List.Elements.{filter-append}
use Rattle.std.proofs.lemmas.List.{map-append}
use Rattle.fol_model.specs.ActionStep.{Flat, Recorded, act, plain_of, outcome_of, wishes_of}
use Rattle.fol_model.specs.FlatTick.{acted, outcomes, asked, AllAbove, Rising}
use Rattle.fol_model.specs.End.{outcome_in}
use Rattle.fol_model.specs.declared.actions.Action.{Action}
use Rattle.fol_model.specs.declared.actions.Action.TheVariants as action
use Rattle.fol_model.specs.declared.tasks.Outcome.{Outcome}
use Rattle.fol_model.specs.declared.tasks.Task.{Task}
use Rattle.fol_model.specs.declared.tasks.Ran.{Ran}
use Rattle.fol_tick.specs.Calls.{HostCall, action_called, outcome_told, is_hosted, hosted, AreCallsOf, told, given}

-- the same outcome for each of the tasks that ask a host
abbrev Agree : (ℕ → Outcome) → (ℕ → Outcome) → List Task → Type 0
Agree g h [] = Unit {0}
Agree g h (t ∷ ts) = (is_hosted (plain_of t.action) ≡ true → g t.number ≡ h t.number) × Agree g h ts

agree_self : (g : ℕ → Outcome) (ts : List Task) → Agree g g ts
agree_self g [] = tt
agree_self g (t ∷ ts) = (λ h. refl, agree_self g ts)

agree_along : (f g h : ℕ → Outcome) (ts : List Task) → Agree f g ts → Agree g h ts → Agree f h ts
agree_along f g h [] a b = tt
agree_along f g h (t ∷ ts) a b = (λ e. a.0 e ∙ b.0 e, agree_along f g h ts a.1 b.1)

module _ (rec : Recorded) where
  pub outcome_same : (f : Flat) (a : Action) (o p : Outcome) → (is_hosted a ≡ true → o ≡ p) → outcome_of rec f o a ≡ outcome_of rec f p a
  outcome_same f (action.Set at id) o p h = refl
  outcome_same f (action.Copy at to) o p h = refl
  outcome_same f (action.Load c) o p h = h refl
  outcome_same f (action.Unload c) o p h = h refl
  outcome_same f (action.Post c d inner) o p h = refl
  outcome_same f (action.Send id to) o p h = refl
  outcome_same f (action.Arrive e) o p h = refl
  outcome_same f (action.Every p' l inner) o p h = refl

  outcomes_same : (g h : ℕ → Outcome) (f : Flat) (ts : List Task) → Agree g h ts → outcomes rec g f ts ≡ outcomes rec h f ts
  outcomes_same g h f [] a = refl
  outcomes_same g h f (t ∷ ts) a =
      let first = outcome_same f (plain_of t.action) (g t.number) (h t.number) a.0 in
      let rest = outcomes_same g h (act rec f (plain_of t.action)) ts a.1 in cc

  -- tasks behind others
  pub acted_append : (f : Flat) (ts us : List Task) → acted rec f (ts ++ us) ≡ acted rec (acted rec f ts) us
  acted_append f [] us = refl
  acted_append f (t ∷ ts) us = acted_append (act rec f (plain_of t.action)) ts us

  outcomes_append : (g : ℕ → Outcome) (f : Flat) (ts us : List Task) → outcomes rec g f (ts ++ us) ≡ outcomes rec g f ts ++ outcomes rec g (acted rec f ts) us
  outcomes_append g f [] us = refl
  outcomes_append g f (t ∷ ts) us =
      ap (λ xs. (record { number = t.number; outcome = outcome_of rec f (g t.number) (plain_of t.action) }) ∷ xs) (outcomes_append g (act rec f (plain_of t.action)) ts us)

  pub asked_append : (f : Flat) (ts us : List Task) → asked rec f (ts ++ us) ≡ asked rec f ts ++ asked rec (acted rec f ts) us
  asked_append f [] us = refl
  asked_append f (t ∷ ts) us =
      ap (λ xs. wishes_of rec f t ++ xs) (asked_append (act rec f (plain_of t.action)) ts us)
      ∙ sym (append_assoc (wishes_of rec f t) (asked rec (act rec f (plain_of t.action)) ts) (asked rec (acted rec (act rec f (plain_of t.action)) ts) us))

-- one outcome more in front of both
agree_cons : (x : Ran) (xs ys : List Ran) (ts : List Task) → Agree (outcome_in xs) (outcome_in ys) ts → Agree (outcome_in (x ∷ xs)) (outcome_in (x ∷ ys)) ts
agree_cons x xs ys [] h = tt
agree_cons x xs ys (t ∷ ts) h =
    (λ e. elim (cases_Bool (nat_eq x.number t.number)) [ inl k ↦ rw k refl | inr k ↦ rw k (h.0 e) ], agree_cons x xs ys ts h.1)

-- an outcome of an earlier number in front of one
agree_front : (x : Ran) (xs : List Ran) (ts : List Task) → AllAbove x.number ts → Agree (outcome_in (x ∷ xs)) (outcome_in xs) ts
agree_front x xs [] h = tt
agree_front x xs (t ∷ ts) h =
    let below = h.0 in
    let other : nat_eq x.number t.number ≡ false = ne_eqb _ _ (λ k. omega arith) in
    (λ e. rw other refl, agree_front x xs ts h.1)

above_behind : (n : ℕ) (ts us : List Task) → AllAbove n (ts ++ us) → AllAbove n us
above_behind n [] us h = h
above_behind n (t ∷ ts) us h = above_behind n ts us h.1

-- the plain actions of these tasks
abbrev plains : List Task → List Action
plains ts = map (λ t. plain_of t.action) ts

-- the tasks that are called for, with one more in front
module _ (t : Task) (ts : List Task) where
  hosted_yes : is_hosted (plain_of t.action) ≡ true → hosted (t ∷ ts) ≡ t ∷ hosted ts
  hosted_yes e = rw e refl

  hosted_no : is_hosted (plain_of t.action) ≡ false → hosted (t ∷ ts) ≡ hosted ts
  hosted_no e = rw e refl

-- answers behind those of the tasks change nothing for the tasks
told_first : (hs : List Task) (xs : List HostCall) (more : List Ran) (ts : List Task) → hosted ts ≡ hs → map action_called xs ≡ plains hs → Agree (outcome_in (told hs xs ++ more)) (outcome_in (told hs xs)) ts
told_first hs xs more [] e c = tt
told_first hs xs more (t ∷ ts) e c = elim (cases_Bool (is_hosted (plain_of t.action))) [
  | inl k ↦ called hs xs (λ ks ys. told_first ks ys more ts) (sym (hosted_yes t ts k) ∙ e) c
  | inr k ↦ (λ h. absurd (let w : true ≡ false = sym h ∙ k in cc), told_first hs xs more ts (sym (hosted_no t ts k) ∙ e) c)
]
  where
    called : (hs : List Task) (xs : List HostCall)
        → ((ks : List Task) (ys : List HostCall) → hosted ts ≡ ks → map action_called ys ≡ plains ks → Agree (outcome_in (told ks ys ++ more)) (outcome_in (told ks ys)) ts)
        → t ∷ hosted ts ≡ hs → map action_called xs ≡ plains hs → Agree (outcome_in (told hs xs ++ more)) (outcome_in (told hs xs)) (t ∷ ts)
    called [] xs again e c = absurd (cc)
    called (k ∷ ks) [] again e c = absurd (cc)
    called (k ∷ ks) (x ∷ xs) again e c =
        let same : t ≡ k = cc in
        let rest : hosted ts ≡ ks = cc in
        let later : map action_called xs ≡ plains ks = cc in
        let own : nat_eq k.number t.number ≡ true = eq-eqb _ _ (ap (λ (q : Task). q.number) (sym same)) in
        (λ h. rw own refl, agree_cons (record { number = k.number; outcome = outcome_told x }) (told ks xs ++ more) (told ks xs) ts (again ks xs rest later))

-- answers of earlier tasks change nothing for later ones
told_before : (hs ts : List Task) (xs : List HostCall) (more : List Ran) (us : List Task) → hosted ts ≡ hs → Rising (ts ++ us) → Agree (outcome_in (told hs xs ++ more)) (outcome_in more) us
told_before hs [] xs more us e r = let none : hs ≡ [] = sym e in rw none (agree_self (outcome_in more) us)
told_before hs (t ∷ ts) xs more us e r = elim (cases_Bool (is_hosted (plain_of t.action))) [
  | inl k ↦ called hs xs (λ ks ys e'. told_before ks ts ys more us e' r.1) (sym (hosted_yes t ts k) ∙ e)
  | inr k ↦ told_before hs ts xs more us (sym (hosted_no t ts k) ∙ e) r.1
]
  where
    called : (hs : List Task) (xs : List HostCall) → ((ks : List Task) (ys : List HostCall) → hosted ts ≡ ks → Agree (outcome_in (told ks ys ++ more)) (outcome_in more) us)
        → t ∷ hosted ts ≡ hs → Agree (outcome_in (told hs xs ++ more)) (outcome_in more) us
    called [] xs again e = absurd (cc)
    called (k ∷ ks) [] again e = agree_self (outcome_in more) us
    called (k ∷ ks) (x ∷ xs) again e =
        let same : t ≡ k = cc in
        let rest : hosted ts ≡ ks = cc in
        let above : AllAbove k.number us = let P : Task → Type 0 = λ q. AllAbove q.number us in subst P same (above_behind t.number ts us r.0) in
        agree_along _ (outcome_in (told ks xs ++ more)) (outcome_in more) us
        (agree_front (record { number = k.number; outcome = outcome_told x }) (told ks xs ++ more) us above)
        (again ks xs rest)

told_append : (hs ks : List Task) (xs ys : List HostCall) → map action_called xs ≡ plains hs → told (hs ++ ks) (xs ++ ys) ≡ told hs xs ++ told ks ys
told_append [] ks [] ys c = refl
told_append [] ks (x ∷ xs) ys c = absurd (cc)
told_append (h ∷ hs) ks [] ys c = absurd (cc)
told_append (h ∷ hs) ks (x ∷ xs) ys c = ap (λ zs. (record { number = h.number; outcome = outcome_told x }) ∷ zs) (told_append hs ks xs ys (cc))

module _ (ts us : List Task) (xs ys : List HostCall) (served : AreCallsOf ts xs) where
  both_told : told (hosted (ts ++ us)) (xs ++ ys) ≡ told (hosted ts) xs ++ told (hosted us) ys
  both_told = ap (λ hs. told hs (xs ++ ys)) (filter-append (λ (t : Task). is_hosted (plain_of t.action)) ts us) ∙ told_append (hosted ts) (hosted us) xs ys served

  -- the calls of both
  pub calls_append : AreCallsOf us ys → AreCallsOf (ts ++ us) (xs ++ ys)
  calls_append h =
      map-append action_called xs ys
      ∙ ap (λ zs. zs ++ map action_called ys) served
      ∙ ap (λ zs. plains (hosted ts) ++ zs) h
      ∙ sym (map-append (λ (t : Task). plain_of t.action) (hosted ts) (hosted us))
      ∙ ap plains (sym (filter-append (λ (t : Task). is_hosted (plain_of t.action)) ts us))

  -- what both came to
  pub outcomes_given : (rec : Recorded) (f : Flat) → Rising (ts ++ us) → outcomes rec (given (ts ++ us) (xs ++ ys)) f (ts ++ us) ≡ outcomes rec (given ts xs) f ts ++ outcomes rec (given us ys) (acted rec f ts) us
  outcomes_given rec f r =
      ap (λ zs. outcomes rec (outcome_in zs) f (ts ++ us)) both_told
      ∙ outcomes_append rec (outcome_in (told (hosted ts) xs ++ told (hosted us) ys)) f ts us
      ∙ ap (λ zs. zs ++ outcomes rec (outcome_in (told (hosted ts) xs ++ told (hosted us) ys)) (acted rec f ts) us) (outcomes_same rec _ (given ts xs) f ts (told_first (hosted ts) xs (told (hosted us) ys) ts refl served))
      ∙ ap (λ zs. outcomes rec (given ts xs) f ts ++ zs) (outcomes_same rec _ (given us ys) (acted rec f ts) us (told_before (hosted ts) ts xs (told (hosted us) ys) us refl r))
