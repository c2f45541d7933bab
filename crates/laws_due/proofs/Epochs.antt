-- A site tells and writes of epochs with plans alone: it closes, installs and tells of those that it is asked for.
use Rattle.std.proofs.Common.{ℕ, ◌==◌, nat_le, nat_lt, not, List, [], ◌∷◌, Option, Some, None, subst}
use Rattle.std.specs.Prelude.{option_to_list, MatchOption}
use Rattle.std.specs.List.{AllByRecursion as Every, fold}
use Rattle.qc_stamp.specs.declared.stamp.Stamp.{Stamp}
use Rattle.qc_stamp.specs.declared.stamp.TxId.{TxId}
use Rattle.qc_decl.specs.declared.declaration.Declaration.{Declaration}
use Rattle.qc_decl.specs.Vocabulary.{most_record_bytes}
use Rattle.qc_entry.specs.declared.line.Line.{Line}
use Rattle.qc_entry.specs.declared.line.OwnLine.{OwnLine}
use Rattle.qc_entry.specs.declared.record.Prepared.{Prepared}
use Rattle.qc_lock.specs.declared.clash.Clash.{Clash as Conflict}
use Rattle.qc_lock.specs.Vocabulary.{append_clash, is_held, read_clash}
use Rattle.qc_msg.specs.declared.message.Answer.{Answer}
use Rattle.qc_msg.specs.declared.message.Answer.TheVariants as answers
use Rattle.qc_msg.specs.declared.message.Message.{Message}
use Rattle.qc_msg.specs.declared.message.Outcome.{Outcome}
use Rattle.qc_msg.specs.declared.message.Outcome.TheVariants.{Committed, Aborted, Active}
use Rattle.qc_msg.specs.declared.message.Want.{Want}
use Rattle.qc_msg.specs.declared.message.Want.TheVariants.{Read, Append, Prepare}
use Rattle.qc_msg.specs.declared.record.Record.{Record}
use Rattle.qc_msg.specs.declared.record.Record.TheVariants as records
use Rattle.qc_msg.specs.declared.step.Input.{Input}
use Rattle.qc_msg.specs.declared.step.Input.TheVariants as inputs
use Rattle.qc_msg.specs.declared.turn.Posting.{Posting}
use Rattle.qc_msg.specs.declared.turn.Turn.{Turn}
use Rattle.qc_msg.specs.declared.payload.ReadRequest.{ReadRequest}
use Rattle.qc_msg.specs.Vocabulary.{Deed, Falls, Rises, Sends, Takes, Tells, Writes, closed_in, quiet, sending}
use Rattle.qc_msg.specs.Vocabulary.{Answered, answer_in, closing_in, installing_in, start_with}
use Rattle.qc_site.specs.Vocabulary.{SiteMove, SiteState, appends_by, closed, closed_fault, fault_of, finishes, grants}
use Rattle.qc_site.specs.Vocabulary.{is_prepared, joins, moved, names_declared, passed, prepare_length, prepared_of}
use Rattle.qc_site.specs.Vocabulary.{prepares, promise_of, promises, reads_by, recording, relation_at, requested}
use Rattle.qc_site.specs.Vocabulary.{shut_answer, site_at, site_does, site_on, site_takes}
use Rattle.qc_site.proofs.RequestCases.{close_rows, install_rows}
use Rattle.qc_site.proofs.Cases.{state_cases}
use Rattle.laws_due.specs.Vocabulary.{ArePlanned, IsPlanned, IsRecordPlanned}
use Rattle.laws_turns.proofs.SiteCases.{site_cases}
use Rattle.qc_msg.specs.declared.payload.EpochStart.{EpochStart}
use Rattle.qc_list.proofs.Booleans.{if_two}

-- an epoch that is told has a plan, and so has one that is to be closed for or installed

abbrev pub TellsPlanned : Declaration → Message → Type 0
TellsPlanned decl m =
    MatchOption (answer_in m)
    (MatchOption (closing_in m)
    (MatchOption (installing_in m) (Unit {0}) (λ (start : EpochStart). IsPlanned decl start.epoch)) (IsPlanned decl))
    (λ (a : Answered). ArePlanned decl (closed_in a.answer))

abbrev pub TellPlanned : Declaration → List Posting → Type 0
TellPlanned decl ps = Every (λ (p : Posting). TellsPlanned decl p.message) ps

pub record TurnPlanned (decl : Declaration) (t : Turn) : Type 0 where
  pub sends : TellPlanned decl t.sends
  pub failed_sends : TellPlanned decl t.failed_sends
  pub writes : Every (IsRecordPlanned decl) (option_to_list t.write)

-- a turn that writes nothing; and one that writes, which tells of no epoch where its record isn't written

says : (decl : Declaration) (ps : List Posting) → TellPlanned decl ps → TurnPlanned decl (sending ps)
says decl ps planned = record { sends = planned; failed_sends = tt; writes = tt }

pub says_nothing : (decl : Declaration) → TurnPlanned decl quiet
says_nothing decl = says decl [] tt

records_so : (decl : Declaration) (from number : ℕ) (r : Record) (answer : Answer) → IsRecordPlanned decl r
    → ArePlanned decl (closed_in answer) → TurnPlanned decl (recording from number r answer)
records_so decl from number r answer writes told =
    record { sends = (told, tt); failed_sends = (tt, tt); writes = (writes, tt) }

abbrev pub TakesPlanned : Declaration → Input → Type 0
TakesPlanned decl (inputs.Called command) = Unit {0}
TakesPlanned decl (inputs.Got e) = TellsPlanned decl e.message
TakesPlanned decl (inputs.Lost number) = Unit {0}

-- a site whose epoch has a plan, and so has the one that it has closed that for
pub record SitePlanned (decl : Declaration) (s : SiteState) : Type 0 where
  pub epoch : IsPlanned decl s.epoch
  pub closed : ArePlanned decl s.closed_for

pub site_stays_planned : (decl : Declaration) (s : SiteState) (from number : ℕ) (m : Message) → TellsPlanned decl m
    → SitePlanned decl s → SitePlanned decl (site_on decl s from number m).site
site_stays_planned decl s from number m told w =
    state_cases (SitePlanned decl) decl (passed s m) from number m (record { epoch = w.epoch; closed = w.closed })
    (λ tx epoch life r is. record { epoch = w.epoch; closed = w.closed })
    (λ tx epoch life object view own is. record { epoch = w.epoch; closed = w.closed })
    (λ tx. record { epoch = w.epoch; closed = w.closed })
    (λ tx verdict is final. record { epoch = w.epoch; closed = w.closed })
    (λ tx stamp p is. record { epoch = w.epoch; closed = w.closed })
    (λ k is. record { epoch = w.epoch; closed = subst (TellsPlanned decl) is told })
    (λ k clock lines is later. record { epoch = subst (TellsPlanned decl) is told; closed = tt })

pub takes_stay_planned : (decl : Declaration) (s : SiteState) (g : Input) → TakesPlanned decl g → SitePlanned decl s
    → SitePlanned decl (site_takes decl s g).site
takes_stay_planned decl s (inputs.Called command) told w = w
takes_stay_planned decl s (inputs.Got e) told w = site_stays_planned decl s e.from e.number e.message told w
takes_stay_planned decl s (inputs.Lost number) told w = w

abbrev pub FaultPlanned : Declaration → Option Answer → Type 0
FaultPlanned decl None = Unit {0}
FaultPlanned decl (Some a) = ArePlanned decl (closed_in a)

pub fault_planned : (decl : Declaration) (s : SiteState) (epoch life : ℕ) → SitePlanned decl s
    → FaultPlanned decl (fault_of s epoch life)
fault_planned decl s epoch life w =
    if_two (FaultPlanned decl) (nat_lt s.epoch epoch) (Some (answers.Behind s.epoch)) _ tt
    (if_two (FaultPlanned decl) (nat_lt epoch s.epoch) (Some (answers.Closed s.epoch))
    (closed_fault s life s.closed_for) w.epoch (by s.closed_for w.closed))
  where
    by : (o : Option ℕ) → ArePlanned decl o → FaultPlanned decl (closed_fault s life o)
    by None planned = if_two (FaultPlanned decl) (life == 0) None _ tt
        (if_two (FaultPlanned decl) (life == s.life) None (Some (answers.Restarted s.life)) tt tt)
    by (Some k) planned = planned

abbrev Answers : Declaration → SiteMove → Type 0
Answers decl m = TurnPlanned decl m.turn

promises_planned : (decl : Declaration) (s : SiteState) (from number : ℕ) (p : Prepared)
    → Answers decl (promises s from number p)
promises_planned decl s from number p = if_two (Answers decl) (nat_le (prepare_length p) most_record_bytes) _ _
    (records_so decl from number (records.Prepare p) (answers.Yes s.clock) tt tt) (says decl _ (tt, tt))

prepares_planned : (decl : Declaration) (s : SiteState) (from number : ℕ) (tx : TxId)
    → Answers decl (prepares s from number tx)
prepares_planned decl s from number tx =
    if_two (Answers decl) (not (is_held s.held tx)) _ _ (says decl _ (tt, tt))
    (if_two (Answers decl) (is_prepared s.prepared tx) _ (promises s from number (promise_of s tx))
    (says decl _ (tt, tt)) (promises_planned decl s from number (promise_of s tx)))

reads_planned : (decl : Declaration) (s : SiteState) (from number : ℕ) (tx : TxId) (r : ReadRequest)
    (o : Option Conflict) → Answers decl (reads_by decl s from number tx r o)
reads_planned decl s from number tx r None = says decl _ (tt, tt)
reads_planned decl s from number tx r (Some c) = says decl _ (tt, (tt, tt))

appends_planned : (decl : Declaration) (s : SiteState) (from number : ℕ) (tx : TxId) (view : List Line)
    (own : List OwnLine) (o : Option Conflict) → Answers decl (appends_by decl s from number tx view own o)
appends_planned decl s from number tx view own None = says decl _ (tt, tt)
appends_planned decl s from number tx view own (Some c) = says decl _ (tt, (tt, tt))

grants_planned : (decl : Declaration) (s : SiteState) (from number : ℕ) (tx : TxId) (want : Want)
    → Answers decl (grants decl s from number tx want)
grants_planned decl s from number tx (Read read) =
    reads_planned decl s from number tx read
    (read_clash (relation_at decl read.object) s.held tx read.object read.inv)
grants_planned decl s from number tx (Append object view own) =
    appends_planned decl s from number tx view own (append_clash (relation_at decl object) s.held tx own)
grants_planned decl s from number tx Prepare = prepares_planned decl s from number tx

requested_planned : (decl : Declaration) (s : SiteState) (from number : ℕ) (tx : TxId) (want : Want) (o : Option Answer)
    → FaultPlanned decl o → Answers decl (requested decl s from number tx want o)
requested_planned decl s from number tx want (Some refusal) planned = says decl _ (planned, tt)
requested_planned decl s from number tx want None planned = grants_planned decl s from number tx want

joins_planned : (decl : Declaration) (s : SiteState) (tx : TxId) (stamp : Stamp) (o : Option Prepared)
    → Answers decl (joins s tx stamp o)
joins_planned decl s tx stamp None = says_nothing decl
joins_planned decl s tx stamp (Some p) = record { sends = tt; failed_sends = tt; writes = (tt, tt) }

decision_planned : (decl : Declaration) (s : SiteState) (tx : TxId) (v : Outcome) → Answers decl (finishes s tx v)
decision_planned decl s tx (Committed stamp) = joins_planned decl s tx stamp (prepared_of s.prepared tx)
decision_planned decl s tx Aborted = says_nothing decl
decision_planned decl s tx Active = says_nothing decl

site_planned : (decl : Declaration) (s : SiteState) (from number : ℕ) (m : Message) → TellsPlanned decl m
    → SitePlanned decl s → Answers decl (site_at decl s from number m)
site_planned decl s from number m told w =
    site_cases decl s from number (λ (x : Message) (move : SiteMove). TellsPlanned decl x → Answers decl move)
    (λ x planned. says_nothing decl)
    (λ q planned. if_two (Answers decl) (names_declared decl q.tx q.want)
    (requested decl s from number q.tx q.want (fault_of s q.epoch q.life)) (moved s quiet)
    (requested_planned decl s from number q.tx q.want (fault_of s q.epoch q.life)
    (fault_planned decl s q.epoch q.life w)) (says_nothing decl))
    (λ tx verdict planned. decision_planned decl s tx verdict)
    (λ k planned. close_rows (Answers decl) s from number k (says decl _ (tt, tt)) (says decl _ (w.epoch, tt))
    (says decl _ (tt, tt)) (records_so decl from number (records.Close k) (shut_answer (closed s k)) planned tt))
    (λ k clock lines planned. install_rows (Answers decl) s from number k clock lines (says decl _ (tt, tt))
    (says decl _ (tt, tt))
    (records_so decl from number (records.Install (start_with k clock lines)) answers.Installed planned tt)) m told

pub takes_planned : (decl : Declaration) (s : SiteState) (g : Input) → TakesPlanned decl g → SitePlanned decl s
    → Answers decl (site_takes decl s g)
takes_planned decl s (inputs.Called command) told w = says_nothing decl
takes_planned decl s (inputs.Got e) told w =
    site_planned decl (passed s e.message) e.from e.number e.message told
    (record { epoch = w.epoch; closed = w.closed })
takes_planned decl s (inputs.Lost number) told w = says_nothing decl

-- over all deeds, where what is taken has plans

abbrev pub DeedPlanned : Declaration → Deed → Type 0
DeedPlanned decl (Takes g) = TakesPlanned decl g
DeedPlanned decl (Writes written) = Unit {0}
DeedPlanned decl (Sends number to message) = Unit {0}
DeedPlanned decl (Tells reply) = Unit {0}
DeedPlanned decl (Falls cause pending) = Unit {0}
DeedPlanned decl (Rises kept) = Unit {0}

pub folded_planned : (decl : Declaration) (ds : List Deed) (m : SiteMove) → Every (DeedPlanned decl) ds
    → SitePlanned decl m.site → Answers decl m → Answers decl (fold (site_does decl) m ds)
folded_planned decl [] m all w is = is
folded_planned decl (Takes g ∷ ds) m all w is =
    folded_planned decl ds (site_takes decl m.site g) all.1 (takes_stay_planned decl m.site g all.0 w)
    (takes_planned decl m.site g all.0 w)
folded_planned decl (Writes written ∷ ds) m all w is = folded_planned decl ds m all.1 w is
folded_planned decl (Sends number to message ∷ ds) m all w is = folded_planned decl ds m all.1 w is
folded_planned decl (Tells reply ∷ ds) m all w is = folded_planned decl ds m all.1 w is
folded_planned decl (Falls cause pending ∷ ds) m all w is = folded_planned decl ds m all.1 w is
folded_planned decl (Rises kept ∷ ds) m all w is = folded_planned decl ds m all.1 w is
