-- Where records are kept, each record that rises names epochs with plans: nobody wrote another.
use Rattle.std.proofs.Common.{◌≡◌, ◌≤◌, ℕ, ◌+◌, ◌==◌, Bool, true, false, cond, List, [], ◌∷◌, ◌++◌, filter, map, length}
use Rattle.std.proofs.Common.{Option, Some, None, inl, inr, refl, sym, subst}
use Rattle.std.specs.Prelude.{fold, option_to_list, MatchOption}
use Rattle.std.specs.List.{AllByRecursion as Every}
use Rattle.laws_turns.proofs.SoundClients.{IsAskableDeed}
use Rattle.laws_due.proofs.Commanded.{run_askable}
use Rattle.qc_list.proofs.Members.{every-weaker, every-append}
use Rattle.qc_core.specs.Vocabulary.{IsLawfulWithFalls}
use Rattle.qc_decl.specs.Vocabulary.{IsAccepted, actors}
use Rattle.qc_decl.specs.declared.declaration.Declaration.{Declaration}
use Rattle.laws_turns.specs.Vocabulary.{AsksDeclared}
use Rattle.qc_link.specs.Vocabulary.{most_actors}
use Rattle.laws_turns.proofs.FallKept.{clients_rise_with_own_stamps_where_records_are_kept}
use Rattle.qc_msg.specs.declared.record.Record.{Record}
use Rattle.qc_msg.specs.declared.reply.Reply.{Reply}
use Rattle.qc_msg.specs.declared.step.Control.{Control}
use Rattle.qc_msg.specs.declared.step.Fall.TheVariants as causes
use Rattle.qc_msg.specs.declared.step.Input.{Input}
use Rattle.qc_msg.specs.declared.step.Input.TheVariants as inputs
use Rattle.qc_msg.specs.declared.step.Step.{Step}
use Rattle.qc_msg.specs.declared.step.Step.TheVariants as steps
use Rattle.qc_msg.specs.declared.turn.Appended.{Appended}
use Rattle.qc_msg.specs.declared.turn.Appended.TheVariants.{Done, Failed, Stopped}
use Rattle.qc_msg.specs.declared.turn.Posting.{Posting}
use Rattle.qc_msg.specs.declared.turn.Turn.{Turn}
use Rattle.qc_msg.specs.Vocabulary.{Entry, by, deeds, fell, mail, marked, own, posted_as, sents, step_of, told, wrote}
use Rattle.qc_msg.specs.Vocabulary.{Deed, Fallen, fell_in, rose_in, wrote_in}
use Rattle.qc_promise.specs.Vocabulary.{Due, IsGivenBack, Journal, Kept, journal_of, journal_with, no_journal}
use Rattle.qc_promise.specs.Vocabulary.{pending_with}
use Rattle.qc_script.specs.Vocabulary.{RunsWithFalls, begins, control, controller_step, damaged, falls, phase, posts}
use Rattle.qc_script.specs.Vocabulary.{rises, takes, unopened}
use Rattle.qc_script.specs.declared.script.Script.{Script}
use Rattle.laws_due.specs.Vocabulary.{AllRisePlanned, IsRecordPlanned, RisesPlanned}
use Rattle.laws_due.proofs.Declaring.{first_planned}
use Rattle.laws_due.proofs.PlannedMail.{IsMailPlanned, deeds_planned}
use Rattle.qc_mailbox.proofs.Keeping.{same_mail}
use Rattle.laws_due.proofs.AllDue.{runs_with_falls_are_due}
use Rattle.laws_due.proofs.ActorsPlanned.{lawful_writes}
use Rattle.laws_due.proofs.MailPlanned.{deeds_risen, rise_askable, run_planned}
use Rattle.laws_turns.proofs.StepCases.{controller_cases, deed_cases}
use Rattle.std.specs.Option.{option_map_or}
use Rattle.qc_promise.proofs.Posts.{kept_part}

module _ (decl : Declaration) where
  -- steps that put records of epochs with plans alone into a journal

  abbrev PutsPlanned : Step → Type 0
  PutsPlanned step =
      MatchOption (wrote_in step)
      (MatchOption (fell_in step) (MatchOption (rose_in step) (Unit {0}) (Every (IsRecordPlanned decl)))
      (λ (f : Fallen). Every (IsRecordPlanned decl) (option_to_list f.pending))) (IsRecordPlanned decl)

  abbrev AllPutPlanned : List Entry → Type 0
  AllPutPlanned h = Every (λ (e : Entry). PutsPlanned e.step) h

  rises_so : (step : Step) → PutsPlanned step → RisesPlanned decl step
  rises_so step =
      deed_cases [] (λ (s : Step) (ds : List Deed). PutsPlanned s → RisesPlanned decl s)
      (λ s w m r puts. subst (λ (o : Option (List Record)). MatchOption o (Unit {0}) (Every (IsRecordPlanned decl)))
      (sym r) tt)
      (λ command puts. tt) (λ n puts. tt) (λ n puts. tt) (λ written puts. tt) (λ n to message puts. tt)
      (λ reply puts. tt) (λ cause pending puts. tt) (λ records puts. puts) step

  all_rise : (h : List Entry) → AllPutPlanned h → AllRisePlanned decl h
  all_rise h puts = every-weaker (λ (e : Entry). PutsPlanned e.step) (λ (e : Entry). RisesPlanned decl e.step)
      (λ e puts. rises_so e.step puts) h puts

  -- so an actor's journal has none but such, and so has what is given back of it

  record IsPlannedJournal (j : Journal) : Type 0 where
    records : Every (IsRecordPlanned decl) j.records
    pending : Every (IsRecordPlanned decl) (option_to_list j.pending)

  step_puts : (j : Journal) (step : Step) → PutsPlanned step → IsPlannedJournal j
      → IsPlannedJournal (journal_with j step)
  step_puts j step puts its = by (wrote_in step) (fell_in step) (rose_in step) puts
    where
      at : (o : Option Record) → Every (IsRecordPlanned decl) (option_to_list o)
          → Every (IsRecordPlanned decl) (option_to_list (pending_with j.pending o))
      at None all = its.pending
      at (Some written) all = all

      by : (w : Option Record) (f : Option Fallen) (r : Option (List Record))
          → MatchOption w
          (MatchOption f (MatchOption r (Unit {0}) (Every (IsRecordPlanned decl)))
          (λ (f : Fallen). Every (IsRecordPlanned decl) (option_to_list f.pending))) (IsRecordPlanned decl)
          → IsPlannedJournal
          (option_map_or (λ (written : Record). record j { records = j.records ++ written ∷ [] }) w
          (option_map_or (λ (f : Fallen). record j { pending = pending_with j.pending f.pending }) f
          (option_map_or (λ (records : List Record). record { records = records; pending = None }) r j)))
      by None None None all = its
      by None None (Some kept) all = record { records = all; pending = tt }
      by None (Some f) r all = record { records = its.records; pending = at f.pending all }
      by (Some written) f r all = record {
        records = every-append (IsRecordPlanned decl) j.records (written ∷ []) its.records (all, tt);
        pending = its.pending;
      }

  journal_planned : (j : Journal) (ss : List Step) → Every PutsPlanned ss → IsPlannedJournal j
      → IsPlannedJournal (fold journal_with j ss)
  journal_planned j [] puts its = its
  journal_planned j (step ∷ ss) puts its = journal_planned (journal_with j step) ss puts.1 (step_puts j step puts.0 its)

  own_puts : (a : ℕ) (h : List Entry) → AllPutPlanned h → Every PutsPlanned (own a h)
  own_puts a [] puts = tt
  own_puts a (e ∷ h) puts = at (e.actor == a) (own_puts a h puts.1)
    where
      at : (t : Bool) → Every PutsPlanned (own a h)
          → Every PutsPlanned (map (λ (k : Entry). k.step)
          (cond t (e ∷ filter (λ (k : Entry). k.actor == a) h) (filter (λ (k : Entry). k.actor == a) h)))
      at true rest = (puts.0, rest)
      at false rest = rest

  back_planned : (j : Journal) (kept : List Record) → IsPlannedJournal j → IsGivenBack j kept
      → Every (IsRecordPlanned decl) kept
  back_planned j kept its (inl same) = subst (Every (IsRecordPlanned decl)) (sym same) its.records
  back_planned j kept its (inr more) = subst (Every (IsRecordPlanned decl)) (sym more)
      (every-append (IsRecordPlanned decl) j.records (option_to_list j.pending) its.records its.pending)

  given_planned : (a : ℕ) (h : List Entry) (kept : List Record) → AllPutPlanned h
      → IsGivenBack (journal_of (own a h)) kept → Every (IsRecordPlanned decl) kept
  given_planned a h kept puts back = back_planned (journal_of (own a h)) kept
      (journal_planned no_journal (own a h) (own_puts a h puts) (record { records = tt; pending = tt })) back

  -- a post

  sents_put : (a n : ℕ) (ps : List Posting) (rest : List Step) → AllPutPlanned (by a rest)
      → AllPutPlanned (by a (sents n ps ++ rest))
  sents_put a n [] rest after = after
  sents_put a n (p ∷ ps) rest after = (tt, sents_put a (n + 1) ps rest after)

  told_puts : (a : ℕ) (reply : Option Reply) (rest : List Step) → AllPutPlanned (by a rest)
      → AllPutPlanned (by a (told reply ++ rest))
  told_puts a None rest after = after
  told_puts a (Some reply) rest after = (tt, after)

  last_puts : (a : ℕ) (reply : Option Reply) → AllPutPlanned (by a (told reply))
  last_puts a None = tt
  last_puts a (Some reply) = (tt, tt)

  post_puts : (a n : ℕ) (end : Appended) (t : Turn) → Every (IsRecordPlanned decl) (option_to_list t.write)
      → AllPutPlanned (by a (posted_as end n t))
  post_puts a n Done t writes = at t.write writes
    where
      at : (w : Option Record) → Every (IsRecordPlanned decl) (option_to_list w)
          → AllPutPlanned (by a (wrote w ++ (sents n t.sends ++ told t.told)))
      at None all = sents_put a n t.sends (told t.told) (last_puts a t.told)
      at (Some written) all = (all.0, sents_put a n t.sends (told t.told) (last_puts a t.told))
  post_puts a n Failed t writes = sents_put a n t.failed_sends (told t.failed_told ++ fell causes.Disk t.write)
      (told_puts a t.failed_told (fell causes.Disk t.write) (writes, tt))
  post_puts a n Stopped t writes = told_puts a t.failed_told (fell causes.Stop t.write) (writes, tt)

  -- each run

  input_puts : (g : Input) → PutsPlanned (step_of g)
  input_puts (inputs.Called command) = tt
  input_puts (inputs.Got e) = tt
  input_puts (inputs.Lost n) = tt

  line_puts : (line : Control) (step : Step) → controller_step line ≡ Some step → PutsPlanned step
  line_puts line step is = controller_cases PutsPlanned (λ x y. tt) (λ x y. tt) (λ x. tt) line step is

module _ (decl : Declaration) (script : Script) (fits : ℕ → List Record → Type 0) (accepted : IsAccepted decl)
    (asks : AsksDeclared decl script) where
  abbrev IsRun : List Entry → List Bool → Type 0
  IsRun h open_inputs = RunsWithFalls (IsLawfulWithFalls decl) fits decl script h open_inputs

  more : (h k : List Entry) → AllPutPlanned decl h → AllPutPlanned decl k → AllPutPlanned decl (h ++ k)
  more h k first second = every-append (λ (e : Entry). PutsPlanned decl e.step) h k first second

  turn_puts : (a n : ℕ) (h : List Entry) (turn : Turn) → IsLawfulWithFalls decl a (deeds a [] h) turn
      → IsMailPlanned decl (mail h) → AllPutPlanned decl h → Every (IsAskableDeed decl a) (deeds a [] h)
      → AllPutPlanned decl (by a (posted_as turn.append n turn))
  turn_puts a n h turn law told puts asked =
      post_puts decl a n turn.append turn
      (lawful_writes decl (first_planned decl accepted) a (deeds a [] h) turn (deeds_planned decl a [] h tt told)
      (deeds_risen decl a [] h (all_rise decl h puts)) asked law)

  mail_planned : (h : List Entry) (open_inputs : List Bool) → IsRun h open_inputs → AllPutPlanned decl h
      → IsMailPlanned decl (mail h)
  mail_planned h open_inputs run puts = run_planned decl
      (first_planned decl accepted) script fits asks h open_inputs run (all_rise decl h puts)

  run_puts : (h : List Entry) (open_inputs : List Bool) → IsRun h open_inputs → Kept h → AllPutPlanned decl h
  run_puts h open_inputs begins kept = tt
  run_puts h open_inputs (takes a g before older run free rdy) kept =
      more older _ (run_puts older before run (kept_part older _ kept)) (input_puts decl g, tt)
  run_puts h open_inputs (posts a turn before older run taken law) kept =
      let puts : AllPutPlanned decl older = run_puts older before run (kept_part older _ kept) in
      more older (by a (posted_as turn.append (length (mail older)) turn)) puts
      (turn_puts a (length (mail older)) older turn law (mail_planned older before run puts) puts
      (run_askable (IsLawfulWithFalls decl) fits decl script asks older before run a))
  run_puts h open_inputs (phase before older run none done quiet further) kept =
      more older _ (run_puts older before run (kept_part older _ kept)) (tt, tt)
  run_puts h open_inputs (control line lines step before older run left is) kept =
      more older _ (run_puts older before run (kept_part older _ kept)) (line_puts decl line step is, tt)
  run_puts h open_inputs (falls a lines before older run left) kept =
      more older _ (run_puts older before run (kept_part older _ kept)) (tt, tt)
  run_puts h open_inputs (rises a records turn lines before older run left fit has law) kept =
      let post : List Entry = by a (posted_as turn.append (length (mail older)) turn) in
      let puts : AllPutPlanned decl older = run_puts older before run
      (kept_part older (marked a (steps.Rose records) ∷ post) kept) in
      let risen : Every (IsRecordPlanned decl) records =
      given_planned decl a older records puts (kept older post (marked a (steps.Rose records)) refl) in
      more older (marked a (steps.Rose records) ∷ post) puts (
        risen,
        turn_puts a (length (mail older)) (older ++ marked a (steps.Rose records) ∷ []) turn law
            (subst (IsMailPlanned decl) (sym (same_mail older (marked a (steps.Rose records)) refl))
            (mail_planned older before run puts)) (more older (marked a (steps.Rose records) ∷ []) puts (risen, tt))
            (rise_askable decl a older records (run_askable
            (IsLawfulWithFalls decl) fits decl script asks older before run a)),
      )
  run_puts h open_inputs (damaged a offset lines before older run left) kept =
      more older _ (run_puts older before run (kept_part older _ kept)) (tt, tt)
  run_puts h open_inputs (unopened a cause lines before older run left disk) kept =
      more older _ (run_puts older before run (kept_part older _ kept)) (tt, tt)

  pub what_rises_is_planned_where_records_are_kept : (h : List Entry) (open_inputs : List Bool) → IsRun h open_inputs
      → Kept h → AllRisePlanned decl h
  what_rises_is_planned_where_records_are_kept h open_inputs run kept =
      all_rise decl h (run_puts h open_inputs run kept)

  -- each record in a journal names epochs with plans
  pub journals_planned : (h : List Entry) (open_inputs : List Bool) → IsRun h open_inputs → Kept h → (a : ℕ)
      → Every (IsRecordPlanned decl) (journal_of (own a h)).records
  journals_planned h open_inputs run kept a =
      given_planned decl a h (journal_of (own a h)).records (run_puts h open_inputs run kept) (inl refl)

  pub runs_with_falls_are_due_where_records_are_kept : actors decl ≤ most_actors
      → (h : List Entry) (open_inputs : List Bool) → IsRun h open_inputs → Kept h
      → Due decl h
  runs_with_falls_are_due_where_records_are_kept few h open_inputs run kept =
      runs_with_falls_are_due decl script fits accepted asks few h open_inputs run
      (what_rises_is_planned_where_records_are_kept h open_inputs run kept)
      (clients_rise_with_own_stamps_where_records_are_kept decl script fits few h open_inputs run kept)
