-- Each Decision Committed names a stamp of its transaction's own client: sites send no Decision, and a client names
-- its own.
use Rattle.std.proofs.Common.{◌≡◌, ℕ, ◌-◌, nat_le, not, Bool, true, false, if◌then◌else◌, List, [], ◌∷◌, Option, Some}
use Rattle.std.proofs.Common.{None, refl, subst}
use Rattle.std.specs.List.{fold}
use Rattle.qc_core.specs.Vocabulary.{IsLawful}
use Rattle.qc_decl.specs.declared.declaration.Declaration.{Declaration}
use Rattle.qc_decl.specs.Vocabulary.{is_client, is_site, most_record_bytes}
use Rattle.qc_stamp.specs.declared.stamp.Stamp.{Stamp}
use Rattle.qc_stamp.specs.declared.stamp.TxId.{TxId}
use Rattle.qc_entry.specs.declared.line.Line.{Line}
use Rattle.qc_entry.specs.declared.line.OwnLine.{OwnLine}
use Rattle.qc_entry.specs.declared.record.Prepared.{Prepared}
use Rattle.qc_lock.specs.declared.clash.Clash.{Clash as Conflict}
use Rattle.qc_lock.specs.Vocabulary.{append_clash, is_held, read_clash}
use Rattle.qc_msg.specs.declared.message.Answer.{Answer}
use Rattle.qc_msg.specs.declared.message.Message.{Message}
use Rattle.qc_msg.specs.declared.message.Outcome.{Outcome}
use Rattle.qc_msg.specs.declared.message.Outcome.TheVariants.{Committed, Aborted, Active}
use Rattle.qc_msg.specs.declared.message.Want.{Want}
use Rattle.qc_msg.specs.declared.message.Want.TheVariants.{Read, Append, Prepare}
use Rattle.qc_msg.specs.declared.step.Input.{Input}
use Rattle.qc_msg.specs.declared.step.Input.TheVariants as inputs
use Rattle.qc_msg.specs.declared.turn.Turn.{Turn}
use Rattle.qc_msg.specs.declared.payload.ReadRequest.{ReadRequest}
use Rattle.qc_msg.specs.Vocabulary.{Deed, Falls, Rises, Sends, Takes, Tells, Writes, quiet}
use Rattle.qc_client.specs.Vocabulary.{client_after}
use Rattle.qc_site.specs.Vocabulary.{SiteMove, SiteState, appends_by, fault_of, finishes, grants, is_prepared, joins}
use Rattle.qc_site.specs.Vocabulary.{names_declared, new_site, passed, prepare_length, prepared_of, prepares}
use Rattle.qc_site.specs.Vocabulary.{promise_of, promises, reads_by, relation_at, requested as site_requested}
use Rattle.qc_site.specs.Vocabulary.{site_after, site_at, site_does, site_takes}
use Rattle.qc_site.specs.Site as sites
use Rattle.qc_site.proofs.RequestCases.{close_cases}
use Rattle.qc_site.proofs.Cases.{install_cases}
use Rattle.laws_turns.proofs.StampsOwn.{AreStamped, IsOwnWrite, unwritten}
use Rattle.laws_turns.proofs.OwnStamps.{client_stamped}
use Rattle.laws_turns.proofs.SiteCases.{site_cases}
use Rattle.qc_list.proofs.Booleans.{if_two}

-- a site sends answers, and Inquiries with them

pub record IsAnswering (m : SiteMove) : Type 0 where
  pub sends : AreStamped m.turn.sends
  pub failed : AreStamped m.turn.failed_sends
  pub writes : IsOwnWrite m.turn.write
  pub told : m.turn.told ≡ None

promises_answer : (s : SiteState) (from number : ℕ) (p : Prepared) → IsAnswering (promises s from number p)
promises_answer s from number p = if_two IsAnswering (nat_le (prepare_length p) most_record_bytes) _ _
    (record { sends = (tt, tt); failed = (tt, tt); writes = λ c is. absurd (let never : ⊥ = cc in never); told = refl })
    (record { sends = (tt, tt); failed = tt; writes = unwritten None refl; told = refl })

prepares_answer : (s : SiteState) (from number : ℕ) (tx : TxId) → IsAnswering (prepares s from number tx)
prepares_answer s from number tx =
    if_two IsAnswering (not (is_held s.held tx)) _ _
    (record { sends = (tt, tt); failed = tt; writes = unwritten None refl; told = refl })
    (if_two IsAnswering (is_prepared s.prepared tx) _ (promises s from number (promise_of s tx))
    (record { sends = (tt, tt); failed = tt; writes = unwritten None refl; told = refl })
    (promises_answer s from number (promise_of s tx)))

reads_answer : (decl : Declaration) (s : SiteState) (from number : ℕ) (tx : TxId) (r : ReadRequest)
    (o : Option Conflict)
    → IsAnswering (reads_by decl s from number tx r o)
reads_answer decl s from number tx r None =
    (record { sends = (tt, tt); failed = tt; writes = unwritten None refl; told = refl })
reads_answer decl s from number tx r (Some c) =
    (record { sends = (tt, (tt, tt)); failed = tt; writes = unwritten None refl; told = refl })

appends_answer : (decl : Declaration) (s : SiteState) (from number : ℕ) (tx : TxId) (view : List Line)
    (own : List OwnLine) (o : Option Conflict) → IsAnswering (appends_by decl s from number tx view own o)
appends_answer decl s from number tx view own None =
    (record { sends = (tt, tt); failed = tt; writes = unwritten None refl; told = refl })
appends_answer decl s from number tx view own (Some c) =
    (record { sends = (tt, (tt, tt)); failed = tt; writes = unwritten None refl; told = refl })

grants_answer : (decl : Declaration) (s : SiteState) (from number : ℕ) (tx : TxId) (want : Want)
    → IsAnswering (grants decl s from number tx want)
grants_answer decl s from number tx (Read read) =
    reads_answer decl s from number tx read
    (read_clash (relation_at decl read.object) s.held tx read.object read.inv)
grants_answer decl s from number tx (Append object view own) =
    appends_answer decl s from number tx view own (append_clash (relation_at decl object) s.held tx own)
grants_answer decl s from number tx Prepare = prepares_answer s from number tx

request_answers : (decl : Declaration) (s : SiteState) (from number : ℕ) (tx : TxId) (want : Want) (o : Option Answer)
    → IsAnswering (site_requested decl s from number tx want o)
request_answers decl s from number tx want (Some refusal) =
    (record { sends = (tt, tt); failed = tt; writes = unwritten None refl; told = refl })
request_answers decl s from number tx want None = grants_answer decl s from number tx want

joins_answer : (s : SiteState) (tx : TxId) (stamp : Stamp) (o : Option Prepared) → IsAnswering (joins s tx stamp o)
joins_answer s tx stamp None = (record { sends = tt; failed = tt; writes = unwritten None refl; told = refl })
joins_answer s tx stamp (Some p) = (record
    { sends = tt; failed = tt; writes = λ c is. absurd (let never : ⊥ = cc in never); told = refl })

decision_answers : (s : SiteState) (tx : TxId) (v : Outcome) → IsAnswering (finishes s tx v)
decision_answers s tx (Committed stamp) = joins_answer s tx stamp (prepared_of s.prepared tx)
decision_answers s tx Aborted = (record { sends = tt; failed = tt; writes = unwritten None refl; told = refl })
decision_answers s tx Active = (record { sends = tt; failed = tt; writes = unwritten None refl; told = refl })

site_answers : (decl : Declaration) (s : SiteState) (from number : ℕ) (m : Message)
    → IsAnswering (site_at decl s from number m)
site_answers decl s from number m =
    site_cases decl s from number (λ m move. IsAnswering move)
    (λ m. record { sends = tt; failed = tt; writes = unwritten None refl; told = refl })
    (λ q. if_two IsAnswering (names_declared decl q.tx q.want)
    (site_requested decl s from number q.tx q.want (fault_of s q.epoch q.life)) (sites.moved s quiet)
    (request_answers decl s from number q.tx q.want (fault_of s q.epoch q.life))
    (record { sends = tt; failed = tt; writes = unwritten None refl; told = refl }))
    (decision_answers s)
    (λ k. close_cases IsAnswering s from number k
    (λ answer. record { sends = (tt, tt); failed = tt; writes = unwritten None refl; told = refl })
    (λ near later. record {
      sends = (tt, tt);
      failed = (tt, tt);
      writes = λ c is. absurd (let never : ⊥ = cc in never);
      told = refl;
    }))
    (λ k clock lines. install_cases IsAnswering s from number k clock lines
    (λ answer. record { sends = (tt, tt); failed = tt; writes = unwritten None refl; told = refl })
    (λ later fits. record {
      sends = (tt, tt);
      failed = (tt, tt);
      writes = λ c is. absurd (let never : ⊥ = cc in never);
      told = refl;
    })) m

pub takes_answer : (decl : Declaration) (s : SiteState) (g : Input) → IsAnswering (site_takes decl s g)
takes_answer decl s (inputs.Called command) =
    (record { sends = tt; failed = tt; writes = unwritten None refl; told = refl })
takes_answer decl s (inputs.Got envelope) =
    site_answers decl (passed s envelope.message) envelope.from envelope.number envelope.message
takes_answer decl s (inputs.Lost number) =
    (record { sends = tt; failed = tt; writes = unwritten None refl; told = refl })

does_answer : (decl : Declaration) (m : SiteMove) (d : Deed) → IsAnswering m → IsAnswering (site_does decl m d)
does_answer decl m (Takes g) is = takes_answer decl m.site g
does_answer decl m (Writes written) is = is
does_answer decl m (Sends number to message) is = is
does_answer decl m (Tells reply) is = is
does_answer decl m (Falls cause pending) is = is
does_answer decl m (Rises records) is = is

folded_answer : (decl : Declaration) (ds : List Deed) (m : SiteMove) → IsAnswering m
    → IsAnswering (fold (site_does decl) m ds)
folded_answer decl [] m is = is
folded_answer decl (d ∷ ds) m is = folded_answer decl ds (site_does decl m d) (does_answer decl m d is)

pub site_answering : (decl : Declaration) (site : ℕ) (ds : List Deed) → IsAnswering (site_after decl site ds)
site_answering decl site ds = folded_answer decl ds (sites.moved (new_site site) quiet)
    (record { sends = tt; failed = tt; writes = unwritten None refl; told = refl })

-- so is what any lawful turn sends
pub lawful_stamped : (decl : Declaration) (a : ℕ) (ds : List Deed) (turn : Turn) → IsLawful decl a ds turn
    → AreStamped turn.sends
lawful_stamped decl a ds turn law = by (is_site decl a) (is_client decl a) law
  where
    from : (t : Turn) → AreStamped t.sends → Some t ≡ Some turn → AreStamped turn.sends
    from t stamped is = subst (λ (v : Turn). AreStamped v.sends) (let same : t ≡ turn = cc in same) stamped

    by : (s c : Bool) → (if s then Some (site_after decl a ds).turn else
        (if c then Some (client_after decl (a - decl.sites) ds).turn else None)) ≡ Some turn → AreStamped turn.sends
    by true c is = from (site_after decl a ds).turn (site_answering decl a ds).sends is
    by false true is = from (client_after decl (a - decl.sites) ds).turn (client_stamped decl (a - decl.sites) ds) is
    by false false is = absurd (let never : ⊥ = cc in never)
