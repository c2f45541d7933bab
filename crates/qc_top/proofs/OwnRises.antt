-- What rises has a spelling: so clients rise with commit records that name stamps of their transactions' own clients.
use Rattle.std.proofs.Common.{◌≡◌, ℕ, ◌+◌, ◌==◌, Bool, true, false, cond, List, [], ◌∷◌, ◌++◌, length, Option, Some}
use Rattle.std.proofs.Common.{None, option_to_list, slice_get, subst, eqb-true}
use Rattle.std.specs.List.{AllByRecursion as Every}
use Rattle.qc_list.proofs.Members.{every-append, every-weaker}
use Rattle.qc_core.specs.Vocabulary.{IsLawfulWithFalls}
use Rattle.qc_decl.specs.declared.declaration.Declaration.{Declaration}
use Rattle.laws_turns.specs.Vocabulary.{GivesOwn, IsOwnRecord, RiseWithOwn}
use Rattle.qc_msg.specs.declared.message.Envelope.{Envelope}
use Rattle.qc_msg.specs.declared.record.Record.{Record}
use Rattle.qc_msg.specs.declared.record.Record.TheVariants as records
use Rattle.qc_msg.specs.declared.reply.Reply.{Reply}
use Rattle.qc_msg.specs.declared.step.Control.{Control}
use Rattle.qc_msg.specs.declared.step.Control.TheVariants as controls
use Rattle.qc_msg.specs.declared.step.Fall.TheVariants as causes
use Rattle.qc_msg.specs.declared.step.Input.{Input}
use Rattle.qc_msg.specs.declared.step.Input.TheVariants as inputs
use Rattle.qc_msg.specs.declared.step.Step.{Step}
use Rattle.qc_msg.specs.declared.step.Step.TheVariants as steps
use Rattle.qc_msg.specs.declared.turn.Appended.{Appended}
use Rattle.qc_msg.specs.declared.turn.Appended.TheVariants.{Done, Failed, Stopped}
use Rattle.qc_msg.specs.declared.turn.Posting.{Posting}
use Rattle.qc_msg.specs.declared.turn.Turn.{Turn}
use Rattle.qc_msg.specs.Vocabulary.{Entry, by, deed_at, deeds, envelope_of, fell, heard, mail, posted_as, sents}
use Rattle.qc_msg.specs.Vocabulary.{step_of, told, wrote}
use Rattle.qc_node.specs.Vocabulary.{fits_of}
use Rattle.qc_record.specs.Vocabulary.{has_own_stamp, is_legal}
use Rattle.qc_script.specs.Vocabulary.{RunsWithFalls, begins, control, controller_step, damaged, falls, phase, posts}
use Rattle.qc_script.specs.Vocabulary.{rises, takes, unopened}
use Rattle.qc_script.specs.declared.script.Script.{Script}
use Rattle.qc_list.proofs.Booleans.{and_first}

-- a record that has a spelling names a stamp of its transaction's own client

legal_own : (r : Record) → is_legal r ≡ true → IsOwnRecord r
legal_own records.Life is = tt
legal_own (records.Prepare p) is = tt
legal_own (records.Done tx clock) is = tt
legal_own (records.Close epoch) is = tt
legal_own (records.Install start) is = tt
legal_own (records.Commit c) is = eqb-true c.stamp.client c.tx.client (and_first (has_own_stamp c) _ is)
legal_own (records.Decide start) is = tt

-- steps in which such records alone rise

abbrev RisesOwn : Step → Type 0
RisesOwn (steps.Phase k) = Unit {0}
RisesOwn (steps.Cut x y) = Unit {0}
RisesOwn (steps.Heal x y) = Unit {0}
RisesOwn (steps.Armed actor kind at) = Unit {0}
RisesOwn (steps.Called command) = Unit {0}
RisesOwn (steps.Got n) = Unit {0}
RisesOwn (steps.Lost n) = Unit {0}
RisesOwn (steps.Wrote written) = Unit {0}
RisesOwn (steps.Sent n to message) = Unit {0}
RisesOwn (steps.Told reply) = Unit {0}
RisesOwn (steps.Fell cause pending) = Unit {0}
RisesOwn (steps.Rose kept) = Every IsOwnRecord kept
RisesOwn (steps.Damaged offset) = Unit {0}

abbrev AllRiseOwn : List Entry → Type 0
AllRiseOwn h = Every (λ (e : Entry). RisesOwn e.step) h

-- the deeds of a history of such steps

heard_gives : (o : Option Envelope) → Every GivesOwn (heard o)
heard_gives None = tt
heard_gives (Some e) = (tt, tt)

step_gives : (ms : List Envelope) (step : Step) → RisesOwn step → Every GivesOwn (deed_at ms step)
step_gives ms (steps.Phase k) is = tt
step_gives ms (steps.Cut x y) is = tt
step_gives ms (steps.Heal x y) is = tt
step_gives ms (steps.Armed actor kind at) is = tt
step_gives ms (steps.Called command) is = (tt, tt)
step_gives ms (steps.Got n) is = heard_gives (slice_get ms n)
step_gives ms (steps.Lost n) is = (tt, tt)
step_gives ms (steps.Wrote written) is = (tt, tt)
step_gives ms (steps.Sent n to message) is = (tt, tt)
step_gives ms (steps.Told reply) is = (tt, tt)
step_gives ms (steps.Fell cause pending) is = (tt, tt)
step_gives ms (steps.Rose kept) is = (is, tt)
step_gives ms (steps.Damaged offset) is = tt

mine_gives : (mine : Bool) (ms : List Envelope) (step : Step) → RisesOwn step
    → Every GivesOwn (cond mine (deed_at ms step) [])
mine_gives true ms step is = step_gives ms step is
mine_gives false ms step is = tt

deeds_give : (a : ℕ) (ms : List Envelope) (h : List Entry) → AllRiseOwn h → Every GivesOwn (deeds a ms h)
deeds_give a ms [] all = tt
deeds_give a ms (e ∷ h) all =
    every-append GivesOwn (cond (e.actor == a) (deed_at ms e.step) [])
    (deeds a (ms ++ option_to_list (envelope_of e)) h) (mine_gives (e.actor == a) ms e.step all.0)
    (deeds_give a (ms ++ option_to_list (envelope_of e)) h all.1)

-- a post: nobody rises in it

sents_rise : (a n : ℕ) (ps : List Posting) (rest : List Step) → AllRiseOwn (by a rest)
    → AllRiseOwn (by a (sents n ps ++ rest))
sents_rise a n [] rest after = after
sents_rise a n (p ∷ ps) rest after = (tt, sents_rise a (n + 1) ps rest after)

told_rises : (a : ℕ) (reply : Option Reply) (rest : List Step) → AllRiseOwn (by a rest)
    → AllRiseOwn (by a (told reply ++ rest))
told_rises a None rest after = after
told_rises a (Some reply) rest after = (tt, after)

last_rises : (a : ℕ) (reply : Option Reply) → AllRiseOwn (by a (told reply))
last_rises a None = tt
last_rises a (Some reply) = (tt, tt)

post_rises : (a n : ℕ) (end : Appended) (t : Turn) → AllRiseOwn (by a (posted_as end n t))
post_rises a n Done t = at t.write
  where
    at : (w : Option Record) → AllRiseOwn (by a (wrote w ++ (sents n t.sends ++ told t.told)))
    at None = sents_rise a n t.sends (told t.told) (last_rises a t.told)
    at (Some written) = (tt, sents_rise a n t.sends (told t.told) (last_rises a t.told))
post_rises a n Failed t = sents_rise a n t.failed_sends (told t.failed_told ++ fell causes.Disk t.write)
    (told_rises a t.failed_told (fell causes.Disk t.write) (tt, tt))
post_rises a n Stopped t = told_rises a t.failed_told (fell causes.Stop t.write) (tt, tt)

-- each run

input_rises : (g : Input) → RisesOwn (step_of g)
input_rises (inputs.Called command) = tt
input_rises (inputs.Got e) = tt
input_rises (inputs.Lost n) = tt

line_rises : (line : Control) (step : Step) → controller_step line ≡ Some step → RisesOwn step
line_rises (controls.Phase k) step is = absurd (let never : ⊥ = cc in never)
line_rises (controls.Cut x y) step is = subst RisesOwn (let same : steps.Cut x y ≡ step = cc in same) tt
line_rises (controls.Heal x y) step is = subst RisesOwn (let same : steps.Heal x y ≡ step = cc in same) tt
line_rises (controls.Armed r kind at) step is = subst RisesOwn (let same : steps.Armed r kind at ≡ step = cc in same) tt
line_rises (controls.Crash x) step is = absurd (let never : ⊥ = cc in never)
line_rises (controls.Restart x) step is = absurd (let never : ⊥ = cc in never)

module _ (decl : Declaration) (script : Script) where
  more : (h k : List Entry) → AllRiseOwn h → AllRiseOwn k → AllRiseOwn (h ++ k)
  more h k first second = every-append (λ (e : Entry). RisesOwn e.step) h k first second

  run_rises : (h : List Entry) (open_inputs : List Bool)
      → RunsWithFalls (IsLawfulWithFalls decl) (fits_of decl) decl script h open_inputs → AllRiseOwn h
  run_rises h open_inputs begins = tt
  run_rises h open_inputs (takes a g before older run free rdy) =
      more older _ (run_rises older before run) (input_rises g, tt)
  run_rises h open_inputs (posts a turn before older run taken law) =
      more older _ (run_rises older before run) (post_rises a (length (mail older)) turn.append turn)
  run_rises h open_inputs (phase before older run none done quiet further) =
      more older _ (run_rises older before run) (tt, tt)
  run_rises h open_inputs (control line lines step before older run left is) =
      more older _ (run_rises older before run) (line_rises line step is, tt)
  run_rises h open_inputs (falls a lines before older run left) = more older _ (run_rises older before run) (tt, tt)
  run_rises h open_inputs (rises a kept turn lines before older run left fit has law) =
      more older _ (run_rises older before run) (
        every-weaker (λ (r : Record). is_legal r ≡ true) IsOwnRecord legal_own kept fit.1,
        post_rises a (length (mail older)) turn.append turn,
      )
  run_rises h open_inputs (damaged a offset lines before older run left) =
      more older _ (run_rises older before run) (tt, tt)
  run_rises h open_inputs (unopened a cause lines before older run left disk) =
      more older _ (run_rises older before run) (tt, tt)

  pub run_own : (h : List Entry) (open_inputs : List Bool)
      → RunsWithFalls (IsLawfulWithFalls decl) (fits_of decl) decl script h open_inputs → RiseWithOwn decl h
  run_own h open_inputs run a client = deeds_give a [] h (run_rises h open_inputs run)
