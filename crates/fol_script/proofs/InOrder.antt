-- Commands in order, one after another.
use Rattle.std.proofs.Common.{◌≡◌, Bool, true, false, List, [], ◌∷◌, ◌++◌, map, Some, None, refl, sym, ap, subst, ◌∙◌, append_assoc, arith}
use Rattle.std.proofs.lemmas.List.{map-append, append-nil}
use Rattle.std.proofs.lemmas.List.Elements.{All-pop}
use Rattle.fol_model.specs.declared.words.TextKind.{TextKind}
use Rattle.fol_model.specs.declared.words.TextKind.TheVariants as kinds
use Rattle.fol_model.specs.declared.causes.Cause.{Cause}
use Rattle.fol_model.specs.declared.causes.Cause.TheVariants as causes
use Rattle.fol_model.specs.declared.scripts.Command.{Command}
use Rattle.fol_model.specs.TextCauses.{Row, is_out_of_order, is_too_much, is_twice, is_whole, first_cause}
use Rattle.fol_model.specs.TextRows.{IsRow, Follow}
use Rattle.fol_model.specs.Texts.{command_row}
use Rattle.fol_script.specs.declared.script_lines.Before.{Before}
use Rattle.fol_script.specs.ScriptBefore.{Stands, is_script, misplaced}
use Rattle.fol_script.specs.Shares.{AreInOrder, LeadOn, MayFollow}
use Rattle.fol_script.proofs.ScriptBefore.{no_twice, order_is, running_is}

pub none_lead : LeadOn [] (record { running = false; ticks = 0; times = 0 })
none_lead = record {
  stands = record { alternate = refl; ticks = refl; times = refl; few_ticks = omega arith; few_times = omega arith };
  on = λ kind k all more f. f;
}

unmet : (b : Bool) (c : Cause) → None ≡ first_cause ((b, c) ∷ []) → b ≡ false
unmet true c e = absurd cc
unmet false c e = refl

once : (kind : TextKind) (rows : List Row) (r : Row) → is_script kind ≡ true → IsRow kind r → is_twice rows r ≡ false
once kind rows r k is = let n = no_twice kind r.key k is.is_line_word in rw (n.0, n.1) refl

pub one_leads : (rows : List Row) (r : Row) (old new : Before) → LeadOn rows old → MayFollow r old new → LeadOn (rows ++ r ∷ []) new
one_leads rows r old new l m =
    let t = m.1 rows l.stands in
    record {
      stands = t.1 refl;
      on = λ kind k all more f.
          let parts = All-pop (IsRow kind) (rows ++ r ∷ []) rows (Some r) refl all in
          let order : is_out_of_order kind rows r ≡ false = order_is kind rows r k ∙ ap (λ (b : Bool). misplaced b r.key) (running_is rows old l.stands) ∙ m.0 in
          subst (Follow kind []) (sym (append_assoc rows (r ∷ []) more)) (l.on kind k parts.0 (r ∷ more) (parts.1, order, once kind rows r k parts.1, unmet (is_too_much rows r) causes.Total t.0, f));
    }

pub command_leads : (cs ys : List Command) (c : Command) (old new : Before) → LeadOn (map command_row (cs ++ ys)) old → MayFollow (command_row c) old new → LeadOn (map command_row (cs ++ (ys ++ c ∷ []))) new
command_leads cs ys c old new l m =
    let e : map command_row (cs ++ (ys ++ c ∷ [])) ≡ map command_row (cs ++ ys) ++ command_row c ∷ [] = ap (map command_row) (sym (append_assoc cs ys (c ∷ []))) ∙ map-append command_row (cs ++ ys) (c ∷ []) in
    subst (λ (rows : List Row). LeadOn rows new) (sym e) (one_leads (map command_row (cs ++ ys)) (command_row c) old new l m)

whole : (kind : TextKind) (rows : List Row) (b : Before) → is_script kind ≡ true → b.running ≡ false → Stands rows b → is_whole kind rows ≡ true
whole kinds.World rows b k e s = absurd cc
whole kinds.ScriptOne rows b k e s = rw (running_is rows b s, e) refl
whole kinds.ScriptTwo rows b k e s = rw (running_is rows b s, e) refl

-- where no run is left open
pub lead_to_end : (rows : List Row) (b : Before) → b.running ≡ false → LeadOn rows b → AreInOrder rows
lead_to_end rows b e l = λ kind k all. subst (Follow kind []) (append-nil rows) (l.on kind k all [] (whole kind rows b k e l.stands))
