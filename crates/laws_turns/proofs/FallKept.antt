-- Where records are kept, clients rise with commit records that name stamps of their transactions' own clients: they
-- wrote no others.
use Rattle.std.proofs.Common.{◌≡◌, ℕ, ◌+◌, ◌<◌, ◌≤◌, Bool, true, false, List, [], ◌∷◌, ◌++◌, fold, length, Option, Some}
use Rattle.std.proofs.Common.{None, option_to_list, slice_get, inl, inr, refl, sym, subst, arith}
use Rattle.std.specs.List.{AllByRecursion as Every}
use Rattle.qc_decl.proofs.Clients.{client_within}
use Rattle.qc_list.proofs.Members.{every-append, every-weaker}
use Rattle.qc_core.specs.Vocabulary.{AreGivenBack, IsLawfulWithFalls, Lives, journal_after, journal_at}
use Rattle.qc_core.proofs.KeptBack.{back_first, back_second, rises_give_back_journals_where_records_are_kept}
use Rattle.qc_core.specs.Lives as lives
use Rattle.qc_decl.specs.declared.declaration.Declaration.{Declaration}
use Rattle.qc_decl.specs.Vocabulary.{actors}
use Rattle.qc_link.specs.Vocabulary.{most_actors}
use Rattle.qc_msg.specs.declared.record.Record.{Record}
use Rattle.qc_msg.specs.declared.record.Record.TheVariants as records
use Rattle.qc_msg.specs.declared.reply.Reply.{Reply}
use Rattle.qc_msg.specs.declared.step.Fall.TheVariants as causes
use Rattle.qc_msg.specs.declared.turn.Appended.{Appended}
use Rattle.qc_msg.specs.declared.turn.Appended.TheVariants.{Done, Failed, Stopped}
use Rattle.qc_msg.specs.declared.turn.Posting.{Posting}
use Rattle.qc_msg.specs.declared.turn.Turn.{Turn}
use Rattle.qc_msg.specs.Vocabulary.{Deed, Entry, Falls, Rises, Sends, Takes, Tells, Writes, deeds, deeds_as, sends_of}
use Rattle.qc_msg.specs.Vocabulary.{tells_of, writes_of}
use Rattle.qc_promise.specs.Vocabulary.{IsGivenBack, Journal, Kept, no_journal, pending_with}
use Rattle.qc_script.specs.Vocabulary.{RunsWithFalls}
use Rattle.qc_script.specs.declared.script.Script.{Script}
use Rattle.laws_turns.proofs.StampsOwn.{IsOwnWrite}
use Rattle.laws_turns.specs.Vocabulary.{GivesOwn, IsOwnRecord, LivesIn, RiseWithOwn}
use Rattle.laws_turns.proofs.FallStamps.{lawful_writes}
use Rattle.laws_turns.proofs.Lived.{actors_live_in_runs_with_falls, run_long}
use Rattle.qc_list.proofs.Places.{some_at}

-- deeds that put such records alone into a journal

abbrev PutsOwn : Deed → Type 0
PutsOwn (Takes given) = Unit {0}
PutsOwn (Writes written) = IsOwnRecord written
PutsOwn (Sends number to message) = Unit {0}
PutsOwn (Tells reply) = Unit {0}
PutsOwn (Falls cause pending) = Every IsOwnRecord (option_to_list pending)
PutsOwn (Rises records) = Every IsOwnRecord records

gives_own : (d : Deed) → PutsOwn d → GivesOwn d
gives_own (Takes given) puts = tt
gives_own (Writes written) puts = tt
gives_own (Sends number to message) puts = tt
gives_own (Tells reply) puts = tt
gives_own (Falls cause pending) puts = tt
gives_own (Rises records) puts = puts

record IsOwnJournal (j : Journal) : Type 0 where
  records : Every IsOwnRecord j.records
  pending : Every IsOwnRecord (option_to_list j.pending)

deed_puts : (j : Journal) (d : Deed) → PutsOwn d → IsOwnJournal j → IsOwnJournal (journal_at j d)
deed_puts j (Takes given) puts its = its
deed_puts j (Writes written) puts its = record
    { records = every-append IsOwnRecord j.records (written ∷ []) its.records (puts, tt); pending = its.pending }
deed_puts j (Sends number to message) puts its = its
deed_puts j (Tells reply) puts its = its
deed_puts j (Falls cause pending) puts its = record { records = its.records; pending = by pending puts }
  where
    by : (o : Option Record) → Every IsOwnRecord (option_to_list o)
        → Every IsOwnRecord (option_to_list (pending_with j.pending o))
    by None all = its.pending
    by (Some written) all = all
deed_puts j (Rises records) puts its = record { records = puts; pending = tt }

journal_own : (j : Journal) (ds : List Deed) → Every PutsOwn ds → IsOwnJournal j → IsOwnJournal (fold journal_at j ds)
journal_own j [] puts its = its
journal_own j (d ∷ ds) puts its = journal_own (journal_at j d) ds puts.1 (deed_puts j d puts.0 its)

back_own : (j : Journal) (records : List Record) → IsOwnJournal j → IsGivenBack j records → Every IsOwnRecord records
back_own j records its (inl same) = subst (Every IsOwnRecord) (sym same) its.records
back_own j records its (inr more) = subst (Every IsOwnRecord) (sym more)
    (every-append IsOwnRecord j.records (option_to_list j.pending) its.records its.pending)

-- a post

record_own : (w : Option Record) → IsOwnWrite w → Every IsOwnRecord (option_to_list w)
record_own None its = tt
record_own (Some r) its = (by r its, tt)
  where
    by : (r : Record) → IsOwnWrite (Some r) → IsOwnRecord r
    by records.Life its = tt
    by (records.Prepare p) its = tt
    by (records.Done tx clock) its = tt
    by (records.Close epoch) its = tt
    by (records.Install start) its = tt
    by (records.Commit c) its = its c refl
    by (records.Decide start) its = tt

writes_puts : (w : Option Record) → Every IsOwnRecord (option_to_list w) → Every PutsOwn (writes_of w)
writes_puts None all = tt
writes_puts (Some r) all = all

sends_puts : (n : ℕ) (ps : List Posting) → Every PutsOwn (sends_of n ps)
sends_puts n [] = tt
sends_puts n (p ∷ ps) = (tt, sends_puts (n + 1) ps)

tells_puts : (told : Option Reply) → Every PutsOwn (tells_of told)
tells_puts None = tt
tells_puts (Some reply) = (tt, tt)

post_puts : (end : Appended) (n : ℕ) (t : Turn) → Every IsOwnRecord (option_to_list t.write)
    → Every PutsOwn (deeds_as end n t)
post_puts Done n t all =
    every-append PutsOwn (writes_of t.write) (sends_of n t.sends ++ tells_of t.told) (writes_puts t.write all)
    (every-append PutsOwn (sends_of n t.sends) (tells_of t.told) (sends_puts n t.sends) (tells_puts t.told))
post_puts Failed n t all =
    every-append PutsOwn (sends_of n t.failed_sends) (tells_of t.failed_told ++ Falls causes.Disk t.write ∷ [])
    (sends_puts n t.failed_sends)
    (every-append PutsOwn (tells_of t.failed_told) (Falls causes.Disk t.write ∷ []) (tells_puts t.failed_told)
    (all, tt))
post_puts Stopped n t all = every-append PutsOwn (tells_of t.failed_told) (Falls causes.Stop t.write ∷ [])
    (tells_puts t.failed_told) (all, tt)

-- who lives, and rises with its journal, puts such records alone there

module _ (decl : Declaration) (a : ℕ) where
  more_puts : (ds : List Deed) (turn : Turn) (first : ℕ) → IsLawfulWithFalls decl a ds turn → Every PutsOwn ds
      → Every PutsOwn (ds ++ deeds_as turn.append first turn)
  more_puts ds turn first law puts =
      every-append PutsOwn ds (deeds_as turn.append first turn) puts
      (post_puts turn.append first turn (record_own turn.write
      (lawful_writes decl a ds turn law (λ client. every-weaker PutsOwn GivesOwn gives_own ds puts))))

  life_puts : (ds : List Deed) (t : Bool) (n : ℕ) → Lives decl a ds t n → AreGivenBack no_journal ds → Every PutsOwn ds
  life_puts ds t n lives.starts back = tt
  life_puts ds t n (lives.takes before g m life may comes) back =
      every-append PutsOwn before (Takes g ∷ [])
      (life_puts before false m life (back_first no_journal before (Takes g ∷ []) back)) (tt, tt)
  life_puts ds t n (lives.posts before turn m first life above law) back =
      more_puts before turn first law (life_puts before true m life
      (back_first no_journal before (deeds_as turn.append first turn) back))
  life_puts ds t n (lives.crashes before m life up) back =
      every-append PutsOwn before (Falls causes.Script None ∷ [])
      (life_puts before false m life (back_first no_journal before (Falls causes.Script None ∷ []) back)) (tt, tt)
  life_puts ds t n (lives.rises before rs turn m first life down above law) back =
      let past : AreGivenBack no_journal (before ++ Rises rs ∷ []) =
      back_first no_journal (before ++ Rises rs ∷ []) (deeds_as turn.append first turn) back in
      let puts : Every PutsOwn before = life_puts before false m life
      (back_first no_journal before (Rises rs ∷ []) past) in
      more_puts (before ++ Rises rs ∷ []) turn first law
      (every-append PutsOwn before (Rises rs ∷ []) puts (
        back_own (journal_after before) rs (journal_own no_journal before puts (record { records = tt; pending = tt }))
            (back_second no_journal before (Rises rs ∷ []) past).0,
        tt,
      ))
  life_puts ds t n (lives.unopened before cause m life down disk) back =
      every-append PutsOwn before (Falls cause None ∷ [])
      (life_puts before false m life (back_first no_journal before (Falls cause None ∷ []) back)) (tt, tt)

module _ (decl : Declaration) (script : Script) (fits : ℕ → List Record → Type 0)
    (few : actors decl ≤ most_actors) where
  pub clients_rise_with_own_stamps_where_records_are_kept : (h : List Entry) (open_inputs : List Bool)
      → RunsWithFalls (IsLawfulWithFalls decl) fits decl script h open_inputs → Kept h → RiseWithOwn decl h
  clients_rise_with_own_stamps_where_records_are_kept h open_inputs run kept a client =
      let low : a < actors decl = client_within decl a client in
      let long : length open_inputs ≡ actors decl = run_long decl script fits few h open_inputs run in
      let place : (t : Bool) × (slice_get open_inputs a ≡ Some t) = some_at open_inputs a (omega arith) in
      let lived : LivesIn decl a h place.0 =
      actors_live_in_runs_with_falls decl script fits few h open_inputs run a place.0 place.1 in
      every-weaker PutsOwn GivesOwn gives_own (deeds a [] h)
      (life_puts decl a (deeds a [] h) place.0 lived.above lived.lives
      (rises_give_back_journals_where_records_are_kept h kept a))
