-- Shares that were read, one behind the other, are the text.
use Rattle.std.proofs.Common.{◌≡◌, ℕ, suc, ◌<◌, All, true, List, [], ◌∷◌, ◌++◌, length, map, flat_map, get_or, refl, sym, ap, subst, ◌∙◌, arith}
use Rattle.std.specs.Prelude.{IfOk, IsOk, Ok, Err, Result, Vec}
use denote.Ref.{Bor}
use Rattle.std.proofs.lemmas.List.{map-append}
use Rattle.std.proofs.lemmas.List.Concat.{flat_map-cons}
use Rattle.std.proofs.lemmas.List.Elements.{All-nil}
use Rattle.fol_model.specs.declared.words.TextKind.{TextKind}
use Rattle.fol_model.specs.declared.scripts.Command.{Command}
use Rattle.fol_model.specs.TextLines.{lines}
use Rattle.fol_model.specs.TextRows.{Spells}
use Rattle.fol_model.specs.Texts.{command_row}
use Rattle.fol_script.specs.ScriptBefore.{is_script}
use Rattle.fol_script.specs.Shares.{SpellEach, AreInOrder, commands_of}
use Rattle.fol_script.proofs.OneShare.{spell_both}

-- the commands of a share that was read, of which it is known that they are these lines
pub read_is : {A E : Type 0} (kind : TextKind) (ls : List (List ℕ)) (r : Result (Vec Command A) E) → IsOk r → IfOk r (λ v. SpellEach kind ls (map command_row v.items)) → SpellEach kind ls (map command_row (commands_of r))
read_is kind ls (Ok v) read is = is
read_is kind ls (Err e) read is = cc

pub all_spelled : {A E : Type 0} (kind : TextKind) (shares : List (Bor (List ℕ))) (rs : List (Result (Vec Command A) E)) → length rs ≡ length shares
    → ((i : ℕ) (d : Bor (List ℕ)) (e : Result (Vec Command A) E) → i < length rs → SpellEach kind (lines (get_or shares i d).now) (map command_row (commands_of (get_or rs i e))))
    → SpellEach kind (flat_map (λ share. lines share.now) shares) (map command_row (flat_map commands_of rs))
all_spelled kind [] [] len each = record { lines = refl; forms = All-nil _ }
all_spelled kind [] (r ∷ rs) len each = absurd (omega (arith, len))
all_spelled kind (s ∷ shares) [] len each = absurd (omega (arith, len))
all_spelled kind (s ∷ shares) (r ∷ rs) len each =
    let first = each 0 s r (omega arith) in
    let rest = all_spelled kind shares rs (omega (arith, len)) (λ i d e l. each (suc i) d e (omega (arith, l))) in
    let rows : map command_row (flat_map commands_of (r ∷ rs)) ≡ map command_row (commands_of r) ++ map command_row (flat_map commands_of rs) =
    ap (map command_row) (flat_map-cons commands_of r rs) ∙ map-append command_row (commands_of r) (flat_map commands_of rs) in
    let ls : flat_map (λ share. lines share.now) (s ∷ shares) ≡ lines s.now ++ flat_map (λ share. lines share.now) shares = flat_map-cons (λ (share : Bor (List ℕ)). lines share.now) s shares in
    subst (λ (l : List (List ℕ)). SpellEach kind l (map command_row (flat_map commands_of (r ∷ rs)))) (sym ls)
    (subst (SpellEach kind (lines s.now ++ flat_map (λ share. lines share.now) shares)) (sym rows)
    (spell_both kind (lines s.now) (flat_map (λ share. lines share.now) shares) (map command_row (commands_of r)) (map command_row (flat_map commands_of rs)) first rest))

-- in order they are a script
pub all_are_text : (kind : TextKind) (bytes : List ℕ) (ls : List (List ℕ)) (cs ds : List Command) → is_script kind ≡ true → ls ≡ lines bytes → cs ≡ ds → SpellEach kind ls (map command_row ds) → AreInOrder (map command_row cs) → Spells kind bytes (map command_row cs)
all_are_text kind bytes ls cs ds k cut same each order =
    let e : map command_row ds ≡ map command_row cs = ap (map command_row) (sym same) in
    let s : SpellEach kind (lines bytes) (map command_row cs) = subst (λ (l : List (List ℕ)). SpellEach kind l (map command_row cs)) cut (subst (SpellEach kind ls) e each) in
    record { lines = s.lines; follow = order kind k s.forms }

-- what is made of the shares that were read
pub whole_text : {A E : Type 0} (kind : TextKind) (bytes : List ℕ) (shares : List (Bor (List ℕ))) (rs : List (Result (Vec Command A) E)) (r : Result (Vec Command A) E) → is_script kind ≡ true
    → flat_map (λ share. lines share.now) shares ≡ lines bytes → length rs ≡ length shares
    → ((i : ℕ) (d : Bor (List ℕ)) (e : Result (Vec Command A) E) → i < length rs → IfOk (get_or rs i e) (λ v. SpellEach kind (lines (get_or shares i d).now) (map command_row v.items)))
    → IfOk r (λ v. v.items ≡ flat_map commands_of rs) → IfOk r (λ _. All IsOk rs) → IfOk r (λ v. AreInOrder (map command_row v.items)) → IfOk r (λ v. Spells kind bytes (map command_row v.items))
whole_text kind bytes shares rs (Err e) k cut len each items read order = tt
whole_text kind bytes shares rs (Ok v) k cut len each items read order =
    all_are_text kind bytes (flat_map (λ share. lines share.now) shares) v.items (flat_map commands_of rs) k cut items
    (all_spelled kind shares rs len (λ i d e l. read_is kind (lines (get_or shares i d).now) (get_or rs i e) (read i e l) (each i d e l))) order
