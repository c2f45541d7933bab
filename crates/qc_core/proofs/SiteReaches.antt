-- A site's turns go to actors, and are short.
use Rattle.std.proofs.Common.{◌≡◌, ℕ, ◌+◌, ◌<◌, ◌≤◌, ◌&&◌, not, nat_le, nat_lt, Bool, true, false, cond, List, [], ◌∷◌}
use Rattle.std.proofs.Common.{Option, Some, None, refl, arith}
use Rattle.std.proofs.lemmas.Bool.Decides.{nat_tests}
use Rattle.qc_stamp.specs.declared.stamp.Stamp.{Stamp}
use Rattle.qc_stamp.specs.declared.stamp.TxId.{TxId}
use Rattle.qc_entry.specs.declared.line.Line.{Line}
use Rattle.qc_entry.specs.declared.line.OwnLine.{OwnLine}
use Rattle.qc_entry.specs.declared.record.Prepared.{Prepared}
use Rattle.qc_decl.specs.declared.declaration.Declaration.{Declaration}
use Rattle.qc_decl.specs.Vocabulary.{IsAccepted, most_clients, most_record_bytes}
use Rattle.qc_lock.specs.declared.clash.Clash.{Clash as Conflict}
use Rattle.qc_lock.specs.Vocabulary.{append_clash, is_held, read_clash}
use Rattle.qc_msg.specs.declared.message.Answer.{Answer}
use Rattle.qc_msg.specs.declared.message.Answer.TheVariants as answers
use Rattle.qc_msg.specs.declared.message.Message.{Message}
use Rattle.qc_msg.specs.declared.message.Message.TheVariants as messages
use Rattle.qc_msg.specs.declared.message.Outcome.{Outcome}
use Rattle.qc_msg.specs.declared.message.Outcome.TheVariants.{Committed, Aborted, Active}
use Rattle.qc_msg.specs.declared.message.Want.{Want}
use Rattle.qc_msg.specs.declared.message.Want.TheVariants.{Read, Append, Prepare}
use Rattle.qc_msg.specs.declared.step.Input.{Input}
use Rattle.qc_msg.specs.declared.step.Input.TheVariants as inputs
use Rattle.qc_msg.specs.declared.record.Record.{Record}
use Rattle.qc_msg.specs.declared.record.Record.TheVariants as records
use Rattle.qc_msg.specs.Vocabulary.{epoch_length, quiet}
use Rattle.qc_msg.specs.Vocabulary.{append_grant, start_with}
use Rattle.qc_msg.specs.declared.payload.ReadRequest.{ReadRequest}
use Rattle.qc_site.specs.Vocabulary.{AreByClients, AreOfClients, SiteMove, SiteState, answers as answered, appends_by}
use Rattle.qc_site.specs.Vocabulary.{clashing, closed, closes, dropped, fault_of, finishes, grants, installed, installs}
use Rattle.qc_site.specs.Vocabulary.{grant_told, is_closed_for, is_prepared, joins, moved, names_declared}
use Rattle.qc_site.specs.Vocabulary.{names_object, passed, prepare_length, prepared_of, prepares, promise_of, promised}
use Rattle.qc_site.specs.Vocabulary.{reads_by, recording, relation_at, requested, shut_answer, site_at, site_takes}
use Rattle.qc_site.specs.Vocabulary.{votes}
use Rattle.qc_site.proofs.Holders.{append_client, by_clients-push, by_clients-without, clients-held, clients-promised}
use Rattle.qc_site.proofs.Holders.{clients-without, read_client}
use Rattle.qc_core.specs.Vocabulary.{IsFrom, IsShort}
use Rattle.qc_core.proofs.ClientReaches.{one_short, quiet_short}
use Rattle.qc_link.specs.Vocabulary.{most_actors}

-- a site holds something, and has promised something, of clients alone
pub record IsOfClients (s : SiteState) : Type 0 where
  pub held : AreOfClients s.held
  pub prepared : AreByClients s.prepared

pub record SiteReach (m : SiteMove) : Type 0 where
  pub turn : IsShort m.turn
  pub clients : IsOfClients m.site

module _ (decl : Declaration) (accepted : IsAccepted decl) (from number : ℕ) (low : from < most_actors) where
  answers_reach : (s : SiteState) (answer : Answer) → IsOfClients s → SiteReach (moved s (answered from number answer))
  answers_reach s answer clients = record {
    turn = one_short from (messages.Answer number answer) low;
    clients = clients;
  }

  -- the turn that writes a record, and answers
  recording_short : {written : Record} {answer : Answer} → IsShort (recording from number written answer)
  recording_short = record { receivers = (low, tt); few = omega arith }

  clash_reach : (s : SiteState) (c : Conflict) → IsOfClients s → c.holder.client < most_clients
      → SiteReach (moved s (clashing decl from number c))
  clash_reach s c clients known =
      let sites : decl.sites ≤ 16 = accepted.sites in
      record { turn = record { receivers = (low, (omega arith, tt)); few = omega arith }; clients = clients }

  reads_reach : (s : SiteState) (tx : TxId) (r : ReadRequest) → tx.client < most_clients → IsOfClients s
      → SiteReach (grants decl s from number tx (Read r))
  reads_reach s tx r known clients = by (read_clash (relation_at decl r.object) s.held tx r.object r.inv) refl
    where
      by : (o : Option Conflict) → read_clash (relation_at decl r.object) s.held tx r.object r.inv ≡ o
          → SiteReach (reads_by decl s from number tx r o)
      by None is = record {
        turn = one_short from (messages.Answer number
            (answers.Granted (grant_told s r))) low;
        clients = record {
          held = clients-held s.held tx
              (record { object = r.object; inv = r.inv } ∷ []) [] clients.held known;
          prepared = clients.prepared;
        };
      }
      by (Some c) is = clash_reach s c clients
          (read_client (relation_at decl r.object) s.held tx r.object r.inv c clients.held is)

  appends_reach : (s : SiteState) (tx : TxId) (object : ℕ) (view : List Line) (own : List OwnLine)
      → tx.client < most_clients → IsOfClients s → SiteReach (grants decl s from number tx (Append object view own))
  appends_reach s tx object view own known clients = by (append_clash (relation_at decl object) s.held tx own) refl
    where
      by : (o : Option Conflict) → append_clash (relation_at decl object) s.held tx own ≡ o
          → SiteReach (appends_by decl s from number tx view own o)
      by None is = record {
        turn = one_short from (messages.Answer number (answers.Granted (append_grant s.life s.clock))) low;
        clients = record { held = clients-held s.held tx [] own clients.held known; prepared = clients.prepared };
      }
      by (Some c) is = clash_reach s c clients (append_client (relation_at decl object) s.held tx own c clients.held is)

  prepares_reach : (s : SiteState) (tx : TxId) → tx.client < most_clients → IsOfClients s
      → SiteReach (prepares s from number tx)
  prepares_reach s tx known clients = by (is_held s.held tx) (is_prepared s.prepared tx)
      (nat_le (prepare_length (promise_of s tx)) most_record_bytes)
    where
      by : (h p b : Bool) → SiteReach (cond (not h) (moved s (answered from number answers.Stale))
          (cond p (moved s (answered from number (answers.Yes s.clock)))
          (cond b (moved (promised s (promise_of s tx)) (votes s from number (promise_of s tx)))
          (moved s (answered from number answers.Stale)))))
      by false p b = answers_reach s answers.Stale clients
      by true true b = answers_reach s (answers.Yes s.clock) clients
      by true false true = record {
        turn = recording_short;
        clients = record {
          held = clients.held;
          prepared =
              by_clients-push s.prepared (promise_of s tx) clients.prepared known;
        };
      }
      by true false false = answers_reach s answers.Stale clients

  grants_reach : (s : SiteState) (tx : TxId) (want : Want) → tx.client < most_clients → IsOfClients s
      → SiteReach (grants decl s from number tx want)
  grants_reach s tx (Read read) known clients = reads_reach s tx read known clients
  grants_reach s tx (Append object view own) known clients = appends_reach s tx object view own known clients
  grants_reach s tx Prepare known clients = prepares_reach s tx known clients

  both_first : (x y : Bool) → (x && y) ≡ true → x ≡ true
  both_first true y is = refl
  both_first false y is = is

  low_client : (a n : ℕ) → nat_lt a n ≡ true → a < n
  low_client a n is = grind (arith, nat_tests)

  request_reach : (s : SiteState) (tx : TxId) (epoch life : ℕ) (want : Want) → IsOfClients s
      → SiteReach (site_at decl s from number (messages.Request tx epoch life want))
  request_reach s tx epoch life want clients = by (names_declared decl tx want) refl
    where
      faulty : tx.client < most_clients → (o : Option Answer) → SiteReach (requested decl s from number tx want o)
      faulty known (Some answer) = answers_reach s answer clients
      faulty known None = grants_reach s tx want known clients

      by : (b : Bool) → names_declared decl tx want ≡ b
          → SiteReach (cond b (requested decl s from number tx want (fault_of s epoch life)) (moved s quiet))
      by true is =
          let declared : tx.client < decl.clients =
          low_client tx.client decl.clients (both_first (nat_lt tx.client decl.clients) (names_object decl want) is)
          in
          let most : decl.clients ≤ most_clients = accepted.clients in
          faulty (omega arith) (fault_of s epoch life)
      by false is = record { turn = quiet_short; clients = clients }

  dropped_clients : (s : SiteState) (tx : TxId) → IsOfClients s → IsOfClients (dropped s tx)
  dropped_clients s tx clients = record {
    held = clients-without s.held tx clients.held;
    prepared = by_clients-without s.prepared tx clients.prepared;
  }

  joins_reach : (s : SiteState) (tx : TxId) (stamp : Stamp) (o : Option Prepared) → IsOfClients s
      → SiteReach (joins s tx stamp o)
  joins_reach s tx stamp None clients = record { turn = quiet_short; clients = dropped_clients s tx clients }
  joins_reach s tx stamp (Some p) clients =
      record {
        turn = record { receivers = tt; few = omega arith };
        clients = record {
          held = clients-without s.held tx clients.held;
          prepared = by_clients-without s.prepared tx clients.prepared;
        };
      }

  finishes_reach : (s : SiteState) (tx : TxId) (v : Outcome) → IsOfClients s → SiteReach (finishes s tx v)
  finishes_reach s tx (Committed stamp) clients = joins_reach s tx stamp (prepared_of s.prepared tx) clients
  finishes_reach s tx Aborted clients = record { turn = quiet_short; clients = dropped_clients s tx clients }
  finishes_reach s tx Active clients = record { turn = quiet_short; clients = clients }

  -- epochs

  closes_reach : (s : SiteState) (k : ℕ) → IsOfClients s → SiteReach (closes s from number k)
  closes_reach s k clients = by (nat_lt (s.epoch + 1) k) (nat_le k s.epoch) (is_closed_for k s.closed_for)
    where
      by : (far past shut : Bool) → SiteReach (cond far (moved s (answered from number (answers.Behind s.epoch)))
          (cond past (moved s (answered from number (answers.Closed s.epoch)))
          (cond shut (moved s (answered from number (shut_answer s)))
          (moved (closed s k) (recording from number (records.Close k) (shut_answer (closed s k)))))))
      by true past shut = answers_reach s (answers.Behind s.epoch) clients
      by false true shut = answers_reach s (answers.Closed s.epoch) clients
      by false false true = answers_reach s (shut_answer s) clients
      by false false false = record {
        turn = recording_short;
        clients = record { held = clients-promised s.prepared clients.prepared; prepared = clients.prepared };
      }

  installs_reach : (s : SiteState) (k clock : ℕ) (lines : List Line) → IsOfClients s
      → SiteReach (installs s from number k clock lines)
  installs_reach s k clock lines clients = by (nat_le k s.epoch) (nat_le (epoch_length lines) most_record_bytes)
    where
      by : (past short : Bool) → SiteReach (cond past (moved s (answered from number answers.Installed))
          (cond short (moved (installed s k clock lines)
          (recording from number (records.Install (start_with k clock lines)) answers.Installed))
          (moved s (answered from number (answers.Behind s.epoch)))))
      by true short = answers_reach s answers.Installed clients
      by false true = record { turn = recording_short; clients = record { held = tt; prepared = tt } }
      by false false = answers_reach s (answers.Behind s.epoch) clients

  quiet_reach : (s : SiteState) → IsOfClients s → SiteReach (moved s quiet)
  quiet_reach s clients = record { turn = quiet_short; clients = clients }

  hears_reach : (s : SiteState) (m : Message) → IsOfClients s → SiteReach (site_at decl s from number m)
  hears_reach s (messages.Request tx epoch life want) clients = request_reach s tx epoch life want clients
  hears_reach s (messages.Answer to answer) clients = quiet_reach s clients
  hears_reach s (messages.Decision tx verdict) clients = finishes_reach s tx verdict clients
  hears_reach s (messages.Inquiry tx) clients = quiet_reach s clients
  hears_reach s (messages.Ask tx) clients = quiet_reach s clients
  hears_reach s (messages.Close epoch) clients = closes_reach s epoch clients
  hears_reach s (messages.Install start) clients = installs_reach s start.epoch start.clock start.lines clients

pub site_reach : (decl : Declaration) → IsAccepted decl → (s : SiteState) (g : Input) → IsFrom g → IsOfClients s
    → SiteReach (site_takes decl s g)
site_reach decl accepted s (inputs.Called command) from clients = record { turn = quiet_short; clients = clients }
site_reach decl accepted s (inputs.Got e) from clients =
    hears_reach decl accepted e.from e.number from (passed s e.message) e.message
    (record { held = clients.held; prepared = clients.prepared })
site_reach decl accepted s (inputs.Lost number) from clients = record { turn = quiet_short; clients = clients }
