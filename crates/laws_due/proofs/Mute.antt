-- A site tells no reply and writes no commit record.
use Rattle.std.proofs.Common.{◌≡◌, ℕ, ◌+◌, not, nat_le, Bool, true, false, cond, List, [], ◌∷◌, ◌++◌, Option, Some}
use Rattle.std.proofs.Common.{None, refl, sym, subst}
use Rattle.std.specs.Prelude.{fold, MatchOption}
use Rattle.std.specs.List.{AllByRecursion as Every}
use Rattle.qc_list.proofs.Members.{every-append}
use Rattle.qc_stamp.specs.declared.stamp.TxId.{TxId}
use Rattle.qc_decl.specs.declared.declaration.Declaration.{Declaration}
use Rattle.qc_decl.specs.Vocabulary.{is_site, most_record_bytes}
use Rattle.qc_entry.specs.declared.record.Prepared.{Prepared}
use Rattle.qc_lock.specs.declared.clash.Clash.{Clash as Conflict}
use Rattle.qc_lock.specs.Vocabulary.{append_clash, is_held, read_clash}
use Rattle.qc_core.specs.Vocabulary.{Acts, posts, starts, takes}
use Rattle.laws_turns.proofs.Served.{lawful_site}
use Rattle.qc_msg.specs.declared.message.Answer.{Answer}
use Rattle.qc_msg.specs.declared.message.Answer.TheVariants as answers_of
use Rattle.qc_msg.specs.declared.message.Message.{Message}
use Rattle.qc_msg.specs.declared.message.Message.TheVariants as messages
use Rattle.qc_msg.specs.declared.message.Outcome.{Outcome}
use Rattle.qc_msg.specs.declared.message.Outcome.TheVariants as outcomes
use Rattle.qc_msg.specs.declared.message.Want.{Want}
use Rattle.qc_msg.specs.declared.message.Want.TheVariants.{Read, Append, Prepare}
use Rattle.qc_msg.specs.declared.record.Record.{Record}
use Rattle.qc_msg.specs.declared.reply.Reply.{Reply}
use Rattle.qc_msg.specs.declared.step.Input.{Input}
use Rattle.qc_msg.specs.declared.step.Input.TheVariants as inputs
use Rattle.qc_msg.specs.declared.turn.Posting.{Posting}
use Rattle.qc_msg.specs.declared.turn.Turn.{Turn}
use Rattle.qc_msg.specs.declared.payload.ReadRequest.{ReadRequest}
use Rattle.qc_msg.specs.Vocabulary.{Deed, Falls, Rises, Sends, Takes, Tells, Writes, quiet, sends_of, tells_of}
use Rattle.qc_msg.specs.Vocabulary.{turn_deeds, writes_of, commit_of}
use Rattle.qc_site.specs.Vocabulary.{SiteMove, SiteState, answers, appends_by, fault_of, finishes, grants, is_prepared}
use Rattle.qc_site.specs.Vocabulary.{joins, moved, names_declared, new_site, passed, prepare_length, prepared_of}
use Rattle.qc_site.specs.Vocabulary.{prepares, promise_of, promised, reads_by, relation_at, requested, site_at}
use Rattle.qc_site.specs.Vocabulary.{site_does, site_takes, votes}
use Rattle.qc_site.proofs.RequestCases.{close_cases}
use Rattle.qc_site.proofs.Cases.{install_cases}
use Rattle.laws_turns.proofs.SiteCases.{site_cases}
use Rattle.qc_entry.specs.declared.record.Commit.{Commit}

abbrev pub NoCommit : Record → Type 0
NoCommit r = MatchOption (commit_of r) (Unit {0}) (λ (c : Commit). ⊥)

abbrev pub NoCommitIn : Option Record → Type 0
NoCommitIn None = Unit {0}
NoCommitIn (Some w) = NoCommit w

pub record IsMute (turn : Turn) : Type 0 where
  pub told : turn.told ≡ None
  pub write : NoCommitIn turn.write

-- the turns of a site

mute_quiet : IsMute quiet
mute_quiet = record { told = refl; write = tt }

reads_mute : (decl : Declaration) (s : SiteState) (from number : ℕ) (tx : TxId) (r : ReadRequest) (o : Option Conflict)
    → IsMute (reads_by decl s from number tx r o).turn
reads_mute decl s from number tx r None = record { told = refl; write = tt }
reads_mute decl s from number tx r (Some c) = record { told = refl; write = tt }

prepares_mute : (s : SiteState) (from number : ℕ) (tx : TxId) → IsMute (prepares s from number tx).turn
prepares_mute s from number tx = by (not (is_held s.held tx)) (is_prepared s.prepared tx)
    (nat_le (prepare_length (promise_of s tx)) most_record_bytes)
  where
    by : (x y z : Bool) → IsMute (cond x (moved s (answers from number answers_of.Stale))
        (cond y (moved s (answers from number (answers_of.Yes s.clock)))
        (cond z (moved (promised s (promise_of s tx)) (votes s from number (promise_of s tx)))
        (moved s (answers from number answers_of.Stale))))).turn
    by true y z = record { told = refl; write = tt }
    by false true z = record { told = refl; write = tt }
    by false false true = record { told = refl; write = tt }
    by false false false = record { told = refl; write = tt }

grants_mute : (decl : Declaration) (s : SiteState) (from number : ℕ) (tx : TxId) (want : Want)
    → IsMute (grants decl s from number tx want).turn
grants_mute decl s from number tx (Read read) =
    reads_mute decl s from number tx read
    (read_clash (relation_at decl read.object) s.held tx read.object read.inv)
grants_mute decl s from number tx (Append object view own) = by (append_clash (relation_at decl object) s.held tx own)
  where
    by : (o : Option Conflict) → IsMute (appends_by decl s from number tx view own o).turn
    by None = record { told = refl; write = tt }
    by (Some c) = record { told = refl; write = tt }
grants_mute decl s from number tx Prepare = prepares_mute s from number tx

request_mute : (decl : Declaration) (s : SiteState) (from number : ℕ) (tx : TxId) (epoch life : ℕ) (want : Want)
    → IsMute (site_at decl s from number (messages.Request tx epoch life want)).turn
request_mute decl s from number tx epoch life want = by (names_declared decl tx want)
  where
    fault : (o : Option Answer) → IsMute (requested decl s from number tx want o).turn
    fault (Some answer) = record { told = refl; write = tt }
    fault None = grants_mute decl s from number tx want

    by : (b : Bool) → IsMute (cond b (requested decl s from number tx want (fault_of s epoch life))
        (moved s quiet)).turn
    by true = fault (fault_of s epoch life)
    by false = mute_quiet

finishes_mute : (s : SiteState) (tx : TxId) (o : Outcome) → IsMute (finishes s tx o).turn
finishes_mute s tx (outcomes.Committed stamp) = by (prepared_of s.prepared tx)
  where
    by : (o : Option Prepared) → IsMute (joins s tx stamp o).turn
    by None = mute_quiet
    by (Some p) = record { told = refl; write = tt }
finishes_mute s tx outcomes.Aborted = mute_quiet
finishes_mute s tx outcomes.Active = mute_quiet

site_mute : (decl : Declaration) (s : SiteState) (from number : ℕ) (m : Message)
    → IsMute (site_at decl s from number m).turn
site_mute decl s from number m =
    site_cases decl s from number (λ (x : Message) (move : SiteMove). IsMute move.turn) (λ x. mute_quiet)
    (λ q. request_mute decl s from number q.tx q.epoch q.life q.want) (finishes_mute s)
    (λ k. close_cases (λ (m : SiteMove). IsMute m.turn) s from number k (λ answer. record { told = refl; write = tt })
    (λ near later. record { told = refl; write = tt }))
    (λ k clock lines. install_cases (λ (m : SiteMove). IsMute m.turn) s from number k clock lines
    (λ answer. record { told = refl; write = tt }) (λ later fits. record { told = refl; write = tt })) m

takes_mute : (decl : Declaration) (s : SiteState) (g : Input) → IsMute (site_takes decl s g).turn
takes_mute decl s (inputs.Called command) = mute_quiet
takes_mute decl s (inputs.Got envelope) =
    site_mute decl (passed s envelope.message) envelope.from envelope.number envelope.message
takes_mute decl s (inputs.Lost number) = mute_quiet

does_mute : (decl : Declaration) (ds : List Deed) (move : SiteMove) → IsMute move.turn
    → IsMute (fold (site_does decl) move ds).turn
does_mute decl [] move is = is
does_mute decl (Takes g ∷ ds) move is = does_mute decl ds (site_takes decl move.site g) (takes_mute decl move.site g)
does_mute decl (Writes w ∷ ds) move is = does_mute decl ds move is
does_mute decl (Sends n to m ∷ ds) move is = does_mute decl ds move is
does_mute decl (Tells r ∷ ds) move is = does_mute decl ds move is
does_mute decl (Falls cause pending ∷ ds) move is = does_mute decl ds move is
does_mute decl (Rises records ∷ ds) move is = does_mute decl ds move is

-- so are its deeds

abbrev pub IsMuteDeed : Deed → Type 0
IsMuteDeed (Takes g) = Unit {0}
IsMuteDeed (Writes w) = NoCommit w
IsMuteDeed (Sends n to m) = Unit {0}
IsMuteDeed (Tells r) = ⊥
IsMuteDeed (Falls cause pending) = ⊥
IsMuteDeed (Rises records) = ⊥

tells_mute : (n : ℕ) (ps : List Posting) (told : Option Reply) → told ≡ None
    → Every IsMuteDeed (sends_of n ps ++ tells_of told)
tells_mute n [] None is = tt
tells_mute n [] (Some r) is = absurd (let never : ⊥ = cc in never)
tells_mute n (p ∷ ps) told is = (tt, tells_mute (n + 1) ps told is)

turn_mute : (n : ℕ) (turn : Turn) → IsMute turn → Every IsMuteDeed (turn_deeds n turn)
turn_mute n turn is = by turn.write is.write
  where
    by : (w : Option Record) → NoCommitIn w → Every IsMuteDeed
        (writes_of w ++ (sends_of n turn.sends ++ tells_of turn.told))
    by None ok = tells_mute n turn.sends turn.told is.told
    by (Some w) ok = (ok, tells_mute n turn.sends turn.told is.told)

pub sites_mute : (decl : Declaration) (a : ℕ) → is_site decl a ≡ true → (ds : List Deed) (b : Bool) (n : ℕ)
    → Acts decl a ds b n → Every IsMuteDeed ds
sites_mute decl a site ds b n starts = tt
sites_mute decl a site ds b n (takes older g m acts may) =
    every-append IsMuteDeed older (Takes g ∷ []) (sites_mute decl a site older false m acts) (tt, tt)
sites_mute decl a site ds b n (posts older turn m first acts low law) =
    every-append IsMuteDeed older (turn_deeds first turn) (sites_mute decl a site older true m acts)
    (turn_mute first turn (subst IsMute (sym (lawful_site decl a site older turn law))
    (does_mute decl older (moved (new_site a) quiet) mute_quiet)))
