-- Each ending gives what its status says.
use Rattle.std.proofs.Common.{false, ◌≡◌, ℕ, ◌≤◌, refl, ◌∙◌, ap, inl, inr, ◌⊎◌, List, [], ◌∷◌, arith}
use Rattle.std.specs.Prelude.{◌≢◌, ◌↔◌, Some, None}
use Rattle.fol_check.specs.declared.verdicts.Verdict.{Verdict}
use Rattle.fol_check.specs.declared.verdicts.Verdict.TheVariants as verdicts
use Rattle.fol_top.specs.Came.{Came}
use Rattle.fol_io.specs.Counts.{Rose}
use Rattle.fol_top.specs.Command.{asks_for_files, make, names_of, request_in}
use Rattle.fol_top.specs.Ending.{status_of}
use Rattle.fol_top.specs.Inputs.{Faulted, Overlong}
use Rattle.fol_top.specs.Outcome.{Course, FaultedBefore, MakesWell, Outcome, TellsLong, Untouched, WorksWell}
use Rattle.fol_top.specs.Report.{BadScript, BadWorld, IsOutput, Judged, Written, WrittenInPart}
use Rattle.fol_top.specs.declared.ending.Ending.{Ending}
use Rattle.fol_top.specs.declared.ending.Ending.TheVariants as endings
use Rattle.fol_top.proofs.NamedFiles.{at_middle, ends_no_further, long_is_not_read, make_has_no_inputs, make_is_not_long, make_reads_no_files, not_overlong, same_request}
use Rattle.fol_top.proofs.GoodTexts.{no_bad_script, no_bad_world}
use Rattle.fol_top.proofs.ToldTexts.{asked_for, bad_script_is, bad_world_is, not_of_two, tells_legal_of, tells_script_of, tells_verdict_of, tells_world_of}

-- ---- where all is well

not_faulted : (v : Course) (others : List (List ℕ)) → WorksWell v others → Faulted v.words v.held v.faults v.faults_later v.reads v.reads_later → ⊥
not_faulted v others well f =
    let e = same_request v.words well.told.request f.request well.told.command f.command in
    let order = ap names_of e ∙ f.ends.order in
    at_middle (λ name. ¬ Rose (v.faults name) (v.faults_later name)) f.ends.before f.ends.name f.ends.behind (rw order at well.reads) f.ends.ends

-- a verdict that is told
record IsRefused (v : Course) (e : Ending) : Type 0 where
  verdict : Verdict
  judged : Judged v.words v.held verdict
  code : 10 ≤ (status_of e).code

works_of : (v : Course) (others : List (List ℕ)) (e : Ending) → Came v e → WorksWell v others → (((status_of e).code ≡ 0) ⊎ ((status_of e).code ≡ 7)) ⊎ IsRefused v e
works_of v others endings.Written came well = inl (inl refl)
works_of v others endings.NoMemory came well = inl (inr refl)
works_of v others endings.Words came well = absurd (asked_for v.words well.told.request well.told.command came.0)
works_of v others (endings.World line cause) came well =
    let b = bad_world_is v well.world_bytes (well.script_bytes ∷ others) well.told line (Some cause) came.0 in absurd (no_bad_world well.world_bytes well.opening line b.0 well.world_text b.2)
works_of v others (endings.Script line cause) came well =
    let b = bad_script_is v well.world_bytes well.script_bytes others well.told line (Some cause) well.opening came.0 well.world_text in
    absurd (no_bad_script well.opening.version well.script_bytes well.script line b.0 well.script_text b.2)
works_of v others endings.ReadFault came well = absurd (not_faulted v others well came.0)
works_of v others endings.WriteFault came well = absurd (well.writes came.1)
works_of v others endings.TooLong came well = absurd (not_overlong v (well.world_bytes ∷ well.script_bytes ∷ others) well.told came.0)
works_of v others (endings.ReportText line) came well = inr (record { verdict = verdicts.Text line; judged = came.0; code = omega arith })
works_of v others (endings.ReportEvent number) came well = inr (record { verdict = verdicts.Event number; judged = came.0; code = omega arith })
works_of v others (endings.ReportState line) came well = inr (record { verdict = verdicts.State line; judged = came.0; code = omega arith })

runs_of : (v : Course) (e : Ending) → Came v e → WorksWell v [] → ((status_of e).code ≡ 0) ⊎ ((status_of e).code ≡ 7)
runs_of v e came well =
    elim (works_of v [] e came well) [
      | inl h ↦ h
      | inr r ↦ absurd (not_of_two v well.world_bytes well.script_bytes well.told r.judged.report r.judged.opening r.judged.script r.judged.spelled)
    ]

checks_of : (v : Course) (report : List ℕ) (e : Ending) → Came v e → WorksWell v (report ∷ []) → (((status_of e).code ≡ 0) ⊎ ((status_of e).code ≡ 7)) ⊎ (10 ≤ (status_of e).code)
checks_of v report e came well = elim (works_of v (report ∷ []) e came well) [ inl h ↦ inl h | inr r ↦ inr r.code ]

makes_of : (v : Course) (e : Ending) → Came v e → MakesWell v → ((status_of e).code ≡ 0) ⊎ ((status_of e).code ≡ 7)
makes_of v endings.Written came well = inl refl
makes_of v endings.NoMemory came well = inr refl
makes_of v endings.Words came well = absurd (asked_for v.words (make well.clusters) well.command came.0)
makes_of v (endings.World line cause) came well = absurd (make_has_no_inputs v well.clusters well.command came.0.world_bytes came.0.others came.0.inputs)
makes_of v (endings.Script line cause) came well = absurd (make_has_no_inputs v well.clusters well.command came.0.world_bytes (came.0.script_bytes ∷ came.0.others) came.0.inputs)
makes_of v endings.ReadFault came well = absurd (make_reads_no_files v well.clusters well.command came.0.request _ came.0.command came.0.ends)
makes_of v endings.WriteFault came well = absurd (well.writes came.1)
makes_of v endings.TooLong came well = absurd (make_reads_no_files v well.clusters well.command came.0.request _ came.0.command came.0.ends)
makes_of v (endings.ReportText line) came well = absurd (make_has_no_inputs v well.clusters well.command _ _ came.0.spelled.inputs)
makes_of v (endings.ReportEvent number) came well = absurd (make_has_no_inputs v well.clusters well.command _ _ came.0.spelled.inputs)
makes_of v (endings.ReportState line) came well = absurd (make_has_no_inputs v well.clusters well.command _ _ came.0.spelled.inputs)

-- ---- where a file is too long

module _ (v : Course) (tells : TellsLong v) where
  not_out : (bytes : List ℕ) → IsOutput v.words v.held bytes → ⊥
  not_out bytes (inl r) = long_is_not_read v tells _ r.spelled.inputs
  not_out bytes (inr (inl m)) = make_is_not_long v tells m.clusters m.command
  not_out bytes (inr (inr c)) = long_is_not_read v tells _ c.spelled.inputs

  tells_long_of : (e : Ending) → Came v e → ((status_of e).code ≡ 8) ⊎ ((((status_of e).code ≡ 5) × FaultedBefore v tells) ⊎ ((status_of e).code ≡ 7))
  tells_long_of endings.TooLong came = inl refl
  tells_long_of endings.ReadFault came = inr (inl (refl, ends_no_further v tells came.0.request _ came.0.command came.0.ends))
  tells_long_of endings.NoMemory came = inr (inr refl)
  tells_long_of endings.Words came = absurd (asked_for v.words tells.request tells.command came.0)
  tells_long_of (endings.World line cause) came = absurd (long_is_not_read v tells _ came.0.inputs)
  tells_long_of (endings.Script line cause) came = absurd (long_is_not_read v tells _ came.0.inputs)
  tells_long_of endings.Written came = absurd (not_out came.bytes came.output)
  tells_long_of endings.WriteFault came = absurd (not_out came.0.bytes came.0.output)
  tells_long_of (endings.ReportText line) came = absurd (long_is_not_read v tells _ came.0.spelled.inputs)
  tells_long_of (endings.ReportEvent number) came = absurd (long_is_not_read v tells _ came.0.spelled.inputs)
  tells_long_of (endings.ReportState line) came = absurd (long_is_not_read v tells _ came.0.spelled.inputs)

-- ---- code by code

known_of : (e : Ending) → ((status_of e).code ≤ 12) × ((status_of e).code ≢ 1) × ((status_of e).code ≢ 9)
known_of endings.Written = (omega arith, λ h. omega arith, λ h. omega arith)
known_of endings.Words = (omega arith, λ h. omega arith, λ h. omega arith)
known_of (endings.World line cause) = (omega arith, λ h. omega arith, λ h. omega arith)
known_of (endings.Script line cause) = (omega arith, λ h. omega arith, λ h. omega arith)
known_of endings.ReadFault = (omega arith, λ h. omega arith, λ h. omega arith)
known_of endings.WriteFault = (omega arith, λ h. omega arith, λ h. omega arith)
known_of endings.NoMemory = (omega arith, λ h. omega arith, λ h. omega arith)
known_of endings.TooLong = (omega arith, λ h. omega arith, λ h. omega arith)
known_of (endings.ReportText line) = (omega arith, λ h. omega arith, λ h. omega arith)
known_of (endings.ReportEvent number) = (omega arith, λ h. omega arith, λ h. omega arith)
known_of (endings.ReportState line) = (omega arith, λ h. omega arith, λ h. omega arith)

module _ (v : Course) where
  ok_of : (e : Ending) → Came v e → (status_of e).code ≡ 0 → Written v.words v.held v.received v.received_later
  ok_of endings.Written came h = came
  ok_of _ came h = absurd (omega arith)

  output_asked : (bytes : List ℕ) → IsOutput v.words v.held bytes → request_in v.words ≢ None
  output_asked bytes (inl r) = asked_for v.words _ r.command
  output_asked bytes (inr (inl m)) = asked_for v.words _ m.command
  output_asked bytes (inr (inr c)) = asked_for v.words _ c.spelled.inputs.command

  command_of : (e : Ending) → Came v e → ((status_of e).code ≡ 2) ↔ (request_in v.words ≡ None)
  command_of endings.Words came = (λ h. came.0, λ h. refl)
  command_of endings.Written came = (λ h. absurd (omega arith), λ none. absurd (output_asked came.bytes came.output none))
  command_of (endings.World line cause) came = (λ h. absurd (omega arith), λ none. absurd (asked_for v.words _ came.0.inputs.command none))
  command_of (endings.Script line cause) came = (λ h. absurd (omega arith), λ none. absurd (asked_for v.words _ came.0.inputs.command none))
  command_of endings.ReadFault came = (λ h. absurd (omega arith), λ none. absurd (asked_for v.words _ came.0.command none))
  command_of endings.WriteFault came = (λ h. absurd (omega arith), λ none. absurd (output_asked came.0.bytes came.0.output none))
  command_of endings.NoMemory came = (λ h. absurd (omega arith), λ none. absurd (asked_for v.words came.0 came.1 none))
  command_of endings.TooLong came = (λ h. absurd (omega arith), λ none. absurd (asked_for v.words _ came.0.command none))
  command_of (endings.ReportText line) came = (λ h. absurd (omega arith), λ none. absurd (asked_for v.words _ came.0.spelled.inputs.command none))
  command_of (endings.ReportEvent number) came = (λ h. absurd (omega arith), λ none. absurd (asked_for v.words _ came.0.spelled.inputs.command none))
  command_of (endings.ReportState line) came = (λ h. absurd (omega arith), λ none. absurd (asked_for v.words _ came.0.spelled.inputs.command none))

  bad_world_of : (e : Ending) → Came v e → (status_of e).code ≡ 3 → BadWorld v.words v.held (status_of e).line (status_of e).cause
  bad_world_of (endings.World line cause) came h = came.0
  bad_world_of _ came h = absurd (omega arith)

  bad_script_of : (e : Ending) → Came v e → (status_of e).code ≡ 4 → BadScript v.words v.held (status_of e).line (status_of e).cause
  bad_script_of (endings.Script line cause) came h = came.0
  bad_script_of _ came h = absurd (omega arith)

  read_fault_of : (e : Ending) → Came v e → (status_of e).code ≡ 5 → Faulted v.words v.held v.faults v.faults_later v.reads v.reads_later
  read_fault_of endings.ReadFault came h = came.0
  read_fault_of _ came h = absurd (omega arith)

  write_fault_of : (e : Ending) → Came v e → (status_of e).code ≡ 6 → WrittenInPart v.words v.held v.received v.received_later v.puts v.puts_later × Rose v.write_faults v.write_faults_later
  write_fault_of endings.WriteFault came h = came
  write_fault_of _ came h = absurd (omega arith)

  too_long_of : (e : Ending) → Came v e → (status_of e).code ≡ 8 → Overlong v.words v.held v.taken v.taken_later v.reads v.reads_later
  too_long_of endings.TooLong came h = came.0
  too_long_of _ came h = absurd (omega arith)

  no_text_of : (e : Ending) → Came v e → (status_of e).code ≡ 10 → Judged v.words v.held (verdicts.Text (status_of e).line)
  no_text_of (endings.ReportText line) came h = came.0
  no_text_of _ came h = absurd (omega arith)

  no_event_of : (e : Ending) → Came v e → (status_of e).code ≡ 11 → Judged v.words v.held (verdicts.Event (status_of e).line)
  no_event_of (endings.ReportEvent number) came h = came.0
  no_event_of _ came h = absurd (omega arith)

  no_state_of : (e : Ending) → Came v e → (status_of e).code ≡ 12 → Judged v.words v.held (verdicts.State (status_of e).line)
  no_state_of (endings.ReportState line) came h = came.0
  no_state_of _ came h = absurd (omega arith)

  nothing_of : (e : Ending) → Came v e → (status_of e).code ≢ 0 → (status_of e).code ≢ 6 → v.received_later ≡ v.received
  nothing_of endings.Written came not_ok not_fault = absurd (not_ok refl)
  nothing_of endings.WriteFault came not_ok not_fault = absurd (not_fault refl)
  nothing_of endings.NoMemory came not_ok not_fault = came.2
  nothing_of endings.Words came not_ok not_fault = came.1
  nothing_of (endings.World line cause) came not_ok not_fault = came.1
  nothing_of (endings.Script line cause) came not_ok not_fault = came.1
  nothing_of endings.ReadFault came not_ok not_fault = came.1
  nothing_of endings.TooLong came not_ok not_fault = came.1
  nothing_of (endings.ReportText line) came not_ok not_fault = came.1
  nothing_of (endings.ReportEvent number) came not_ok not_fault = came.1
  nothing_of (endings.ReportState line) came not_ok not_fault = came.1

no_cause_of : (e : Ending) → (status_of e).code ≢ 3 → (status_of e).code ≢ 4 → (status_of e).cause ≡ None
no_cause_of (endings.World line cause) a b = absurd (a refl)
no_cause_of (endings.Script line cause) a b = absurd (b refl)
no_cause_of _ a b = refl

no_line_of : (e : Ending) → (status_of e).code ≢ 3 → (status_of e).code ≢ 4 → (status_of e).code ≤ 8 → (status_of e).line ≡ 0
no_line_of (endings.World line cause) a b few = absurd (a refl)
no_line_of (endings.Script line cause) a b few = absurd (b refl)
no_line_of (endings.ReportText line) a b few = absurd (omega arith)
no_line_of (endings.ReportEvent number) a b few = absurd (omega arith)
no_line_of (endings.ReportState line) a b few = absurd (omega arith)
no_line_of _ a b few = refl

pub outcome_of : (v : Course) (e : Ending) → Came v e → (asks_for_files (request_in v.words) ≡ false → Untouched v) → Outcome v (status_of e)
outcome_of v e came untouched = record {
  known = known_of e;
  ok = ok_of v e came;
  no_command = command_of v e came;
  bad_world = bad_world_of v e came;
  bad_script = bad_script_of v e came;
  read_fault = read_fault_of v e came;
  write_fault = write_fault_of v e came;
  too_long = too_long_of v e came;
  no_text = no_text_of v e came;
  no_event = no_event_of v e came;
  no_state = no_state_of v e came;
  tells_world = λ world others line why told bad. tells_world_of v world others told e came line why bad;
  tells_script = λ world script others o line why told t bad. tells_script_of v world script others told e came o line why t bad;
  tells_verdict = λ world script report o cs verdict told w s judges. tells_verdict_of v world script report told o cs w s verdict judges e came;
  tells_legal = λ world script report o cs told w s r. tells_legal_of v world script report told o cs w s r e came;
  tells_long = λ tells. tells_long_of v tells e came;
  untouched = untouched;
  nothing = nothing_of v e came;
  no_cause = no_cause_of e;
  no_line = no_line_of e;
  runs = runs_of v e came;
  checks = λ report well. checks_of v report e came well;
  makes = makes_of v e came;
}
