-- How the parts of the work end the whole.
use Rattle.std.proofs.Common.{◌≡◌, ℕ, refl, List, true, false, inl, inr}
use Rattle.std.specs.Prelude.{Option, Some, [], ◌∷◌, ◌++◌}
use Rattle.fol_model.specs.declared.openings.Opening.{Opening}
use Rattle.fol_model.specs.declared.scripts.Command.{Command}
use Rattle.fol_model.specs.declared.closings.Closing.{Closing}
use Rattle.fol_model.specs.declared.events.Entry.{Entry}
use Rattle.fol_model.specs.GridNumbers.{IsGrid}
use Rattle.fol_model.specs.Run.{Run, world}
use Rattle.fol_model.specs.Legal.{Legal}
use Rattle.fol_model.specs.Outputs.{Outputs}
use Rattle.fol_model.specs.Texts.{IsScriptText, IsWorldText}
use Rattle.fol_laws.proofs.DueLaws.{each_task_is_due, none_names_it_before}
use Rattle.fol_laws.proofs.RuleLaws.{live_stay_few, none_waits_alone, ready_margin_holds, recorded_margin_holds, rules_hold, ticking_stay_apart}
use Rattle.fol_gen.specs.MadeTexts as made
use Rattle.fol_top.specs.Came.{Came}
use Rattle.fol_top.specs.Checking.{CheckEnds}
use Rattle.fol_top.specs.Command.{FileNames, Request, make, request_in, run as run_request}
use Rattle.fol_top.specs.Complaint.{IsTold}
use Rattle.fol_top.specs.Inputs.{Inputs}
use Rattle.fol_top.specs.Kept.{KeepsRules}
use Rattle.fol_top.specs.Outcome.{Course}
use Rattle.fol_top.specs.Report.{IsOutput, IsReport, IsSummary, SaysLegal, Spelled, text_in}
use Rattle.fol_top.specs.Spelling.{TextsEnd}
use Rattle.fol_top.specs.Writing.{OutputEnds}
use Rattle.fol_top.specs.declared.ending.Ending.{Ending}
use Rattle.fol_top.specs.declared.ending.Ending.TheVariants as endings
use Rattle.fol_top.specs.declared.form.Form.{Form}
use Rattle.fol_top.specs.declared.form.Form.TheVariants as forms

-- ---- what is written

-- an output that may be this may be that, where each of these is one of those
module _ (This That : List ℕ → Type 0) (each : (bytes : List ℕ) → This bytes → That bytes) (before now : Option (List ℕ)) (faults later puts puts_later : ℕ) where
  pub ends_more : (e : Ending) → OutputEnds This before now faults later puts puts_later e → OutputEnds That before now faults later puts puts_later e
  ends_more endings.Written h = (h.0, each h.0 h.1, h.2)
  ends_more endings.WriteFault h = (h.0, each h.0 h.1, h.2, h.3)
  ends_more endings.NoMemory h = h
  ends_more _ h = absurd h

keeps_rules : (o : Opening) (es rest : List Entry) → IsGrid o.grid → Run o (es ++ rest) → KeepsRules (world o es)
keeps_rules o es rest grid run = record {
  rules = rules_hold o es rest grid run;
  margin = ready_margin_holds o es rest grid run;
  recorded = recorded_margin_holds o es rest grid run;
  apart = ticking_stay_apart o es rest grid run;
  none_waits = none_waits_alone o es rest grid run;
  few = live_stay_few o es rest grid run;
}

pub is_report : (form : Form) (o : Opening) (cs : List Command) (workers : ℕ) (c : Closing) → IsGrid o.grid → Legal o cs workers c.history → Outputs o c.history c
    → (bytes : List ℕ) → bytes ≡ text_in form c → IsReport form o cs workers bytes
is_report form o cs workers c grid legal outputs bytes text = record {
  history = c.history;
  closing = c;
  legal = legal;
  rules = λ es rest e. let run : Run o (es ++ rest) = rw e at legal.run in keeps_rules o es rest grid run;
  tasks = λ es rest e n ch d a is accepts. let run : Run o (es ++ e ∷ rest) = rw is at legal.run in (each_task_is_due o es rest e n ch d a grid run accepts, none_names_it_before o es rest e n ch d a grid run accepts);
  outputs = outputs;
  text = text;
}

pub is_summary : (clusters : ℕ) (o : Opening) (cs : List Command) → IsWorldText made.world_text o → IsScriptText 1 (made.script_text clusters) cs
    → (bytes : List ℕ) → IsReport (forms.Summary clusters) o cs 4 bytes → IsSummary clusters bytes
is_summary clusters o cs world script bytes r = record {
  opening = o;
  script = cs;
  world_text = world;
  script_text = script;
  report = r;
}

-- ---- the whole

module _ (v : Course) (world script : List ℕ) (others : List (List ℕ)) (inputs : Inputs v.words v.held (world ∷ script ∷ others)) where
  pub texts_came : (e : Ending) → v.received_later ≡ v.received → TextsEnd world script e → Came v e
  texts_came (endings.World line cause) same h = (record { world_bytes = world; others = script ∷ others; inputs = inputs; why = cause; told = refl; first = h }, same)
  texts_came (endings.Script line cause) same h = (
    record { world_bytes = world; script_bytes = script; others = others; inputs = inputs; opening = h.0; world_text = h.1; why = cause; told = refl; first = h.2 },
    same,
  )
  texts_came endings.NoMemory same h = (inputs.request, inputs.command, same)
  texts_came _ same h = absurd h

module _ (v : Course) (request : Request) (command : request_in v.words ≡ Some request) where
  output_came : (This : List ℕ → Type 0) → ((bytes : List ℕ) → This bytes → IsOutput v.words v.held bytes) → (e : Ending)
      → OutputEnds This v.received v.received_later v.write_faults v.write_faults_later v.puts v.puts_later e → Came v e
  output_came This each endings.Written h = record { bytes = h.0; output = each h.0 h.1; received = h.2 }
  output_came This each endings.WriteFault h = (record { bytes = h.0; output = each h.0 h.1; received = h.2 }, h.3)
  output_came This each endings.NoMemory h = (request, command, h)
  output_came This each _ h = absurd h

module _ (v : Course) (names : FileNames) (workers : ℕ) (form : Form) (command : request_in v.words ≡ Some (run_request names workers form)) where
  pub run_came : (o : Opening) (cs : List Command) (spelled : Spelled v.words v.held [] o cs) (e : Ending)
      → OutputEnds (IsReport form o cs workers) v.received v.received_later v.write_faults v.write_faults_later v.puts v.puts_later e → Came v e
  run_came o cs spelled e h =
      output_came v (run_request names workers form) command (IsReport form o cs workers) (λ bytes r. inl (record {
        names = names;
        workers = workers;
        form = form;
        command = command;
        opening = o;
        script = cs;
        spelled = spelled;
        report = r;
      })) e h

module _ (v : Course) (report : List ℕ) (o : Opening) (cs : List Command) (spelled : Spelled v.words v.held (report ∷ []) o cs) where
  abbrev Checks : Ending → Type 0
  Checks e = CheckEnds o cs report v.received v.received_later v.write_faults v.write_faults_later v.puts v.puts_later e

  says_came : (e : Ending) → OutputEnds (SaysLegal o cs report) v.received v.received_later v.write_faults v.write_faults_later v.puts v.puts_later e → Came v e
  says_came e h =
      output_came v spelled.inputs.request spelled.inputs.command (SaysLegal o cs report)
      (λ bytes s. inr (inr (record { report = report; opening = o; script = cs; spelled = spelled; says = s }))) e h

  pub check_came : (e : Ending) → Checks e → Came v e
  check_came (endings.ReportText line) h = (record { report = report; opening = o; script = cs; spelled = spelled; judges = h.0 }, h.1)
  check_came (endings.ReportEvent number) h = (record { report = report; opening = o; script = cs; spelled = spelled; judges = h.0 }, h.1)
  check_came (endings.ReportState line) h = (record { report = report; opening = o; script = cs; spelled = spelled; judges = h.0 }, h.1)
  check_came endings.Written h = says_came endings.Written h
  check_came endings.WriteFault h = says_came endings.WriteFault h
  check_came endings.NoMemory h = says_came endings.NoMemory h
  check_came _ h = absurd h

pub make_came : (v : Course) (clusters : ℕ) → request_in v.words ≡ Some (make clusters) → (e : Ending)
    → OutputEnds (IsSummary clusters) v.received v.received_later v.write_faults v.write_faults_later v.puts v.puts_later e → Came v e
make_came v clusters command e h =
    output_came v (make clusters) command (IsSummary clusters) (λ bytes s. inr (inl (record { clusters = clusters; command = command; summary = s }))) e h

-- what was told came too
pub told_came : (v : Course) (e told : Ending) → Came v e → IsTold e told → Came v told
told_came v e told came (inl same) = rw same came
told_came v (endings.World line cause) told came (inr less) = rw less.1 (_, came.0.inputs.command, came.1)
told_came v (endings.Script line cause) told came (inr less) = rw less.1 (_, came.0.inputs.command, came.1)
told_came v (endings.ReportText line) told came (inr less) = rw less.1 (_, came.0.spelled.inputs.command, came.1)
told_came v (endings.ReportEvent number) told came (inr less) = rw less.1 (_, came.0.spelled.inputs.command, came.1)
told_came v (endings.ReportState line) told came (inr less) = rw less.1 (_, came.0.spelled.inputs.command, came.1)
told_came v _ told came (inr less) = let never : false ≡ true = less.0 in absurd (cc)
