-- Each Decision Committed names a stamp of its transaction's own client, through falls too, where clients rise with
-- records that do.
use Rattle.std.proofs.Common.{◌≡◌, ℕ, ◌-◌, Bool, true, false, if◌then◌else◌, List, [], ◌∷◌, ◌++◌, fold, map, take}
use Rattle.std.proofs.Common.{Option, None, refl, sym, subst, cond, ◌+◌}
use Rattle.std.specs.List.{AllByRecursion as Every}
use Rattle.std.specs.Prelude.{MatchOption, max}
use Rattle.std.specs.Option.{option_map_or}
use Rattle.qc_list.proofs.Members.{every-append, every-filter}
use Rattle.qc_core.specs.declared.actor.Actor.{Actor}
use Rattle.qc_core.specs.declared.actor.Actor.TheVariants as actor
use Rattle.qc_core.specs.Vocabulary.{ActorMove, IsLawfulWithFalls, IsStamped, actor_after, actor_does, actor_rises}
use Rattle.qc_core.specs.Vocabulary.{actor_sends, actor_takes, by_admin, by_client, by_site, down_takes, moved}
use Rattle.qc_core.specs.Vocabulary.{new_actor, with_record, IsOwnStamp}
use Rattle.qc_core.proofs.AdminTurns.{IsAdminTurn, IsOfAdmin, IsSentByAdmin, WritesDecision}
use Rattle.qc_core.proofs.AdminWrites.{admin_written}
use Rattle.qc_core.proofs.Written.{client_written}
use Rattle.qc_epoch.specs.Vocabulary.{new_admin}
use Rattle.qc_recover.specs.Vocabulary.{admin_rises, client_of, client_rises, inquiry, kept_by as site_kept}
use Rattle.qc_recover.specs.Vocabulary.{most_inquiries, site_rises, with_commit}
use Rattle.qc_decl.specs.declared.declaration.Declaration.{Declaration}
use Rattle.qc_decl.specs.Vocabulary.{is_client, is_site}
use Rattle.qc_client.specs.Vocabulary.{new_client}
use Rattle.qc_stamp.specs.declared.stamp.TxId.{TxId}
use Rattle.qc_msg.specs.declared.message.Message.{Message}
use Rattle.qc_msg.specs.declared.record.Record.{Record}
use Rattle.qc_msg.specs.declared.record.Record.TheVariants as records
use Rattle.qc_msg.specs.declared.step.Input.{Input}
use Rattle.qc_msg.specs.declared.step.Input.TheVariants as inputs
use Rattle.qc_msg.specs.declared.turn.Appended.{Appended}
use Rattle.qc_msg.specs.declared.turn.Appended.TheVariants.{Done, Failed, Stopped}
use Rattle.qc_msg.specs.declared.turn.Posting.{Posting}
use Rattle.qc_msg.specs.declared.turn.Turn.{Turn}
use Rattle.qc_msg.specs.Vocabulary.{Deed, Falls, Rises, Sends, Takes, Tells, Writes, quiet, sends_as, Decided}
use Rattle.qc_msg.specs.Vocabulary.{commit_of, is_life}
use Rattle.qc_recover.specs.Clients.{Kept, keeps, nothing_kept}
use Rattle.qc_site.specs.Vocabulary.{in_order, new_site}
use Rattle.qc_entry.specs.declared.record.Prepared.{Prepared}
use Rattle.qc_entry.specs.declared.record.Commit.{Commit}
use Rattle.laws_turns.proofs.StampsOwn.{AreStamped, IsOwnCommit, IsOwnWrite, Own, OwnMove, unwritten}
use Rattle.laws_turns.proofs.OwnStamps.{sent_own, takes_own}
use Rattle.laws_turns.proofs.Stamped.{IsAnswering, takes_answer}
use Rattle.laws_turns.specs.Vocabulary.{GivesOwn, IsOwnRecord}
use Rattle.laws_turns.proofs.MessageCases.{message_cases}
use Rattle.laws_turns.proofs.ReadingCases.{mapped_by}
use Rattle.qc_core.proofs.PostsByTurns.{called_turn}

-- what a client is by its records

keeps_own : (k : Kept) (r : Record) → Every IsOwnCommit k.commits → IsOwnRecord r
    → Every IsOwnCommit (keeps k r).commits
keeps_own k r own is =
    by (is_life r)
  where
    by : (t : Bool)
        → Every IsOwnCommit
        (cond t (record k { life = k.life + 1 }) (option_map_or (λ (c : Commit). record k {
          commits = with_commit k.commits c;
          clock = max k.clock c.stamp.clock;
        }) (commit_of r) k)).commits
    by true = own
    by false =
        mapped_by (λ (j : Kept). Every IsOwnCommit j.commits)
        (λ (c : Commit). record k { commits = with_commit k.commits c; clock = max k.clock c.stamp.clock }) k (Unit {0})
        IsOwnCommit (commit_of r)
        (λ c its. every-append IsOwnCommit _ (c ∷ []) (every-filter IsOwnCommit _ k.commits own) (its, tt))
        (λ none. own) is

kept_own : (k : Kept) (rs : List Record) → Every IsOwnCommit k.commits → Every IsOwnRecord rs
    → Every IsOwnCommit (fold keeps k rs).commits
kept_own k [] own all = own
kept_own k (r ∷ rs) own all = kept_own (keeps k r) rs (keeps_own k r own all.0) all.1

risen_own : (k : ℕ) (rs : List Record) → Every IsOwnRecord rs → Own k (client_of k rs)
risen_own k rs all = record {
  front = record { client = refl; begun = tt };
  desk = refl;
  commits = kept_own nothing_kept rs tt all;
  hand = λ tx none. absurd (let never : ⊥ = cc in never);
}

-- an actor through its deeds

abbrev OwnActor : ℕ → Actor → Type 0
OwnActor k (actor.Site s) = Unit {0}
OwnActor k (actor.Client c) = Own k c
OwnActor k (actor.Admin m) = Unit {0}
OwnActor k actor.Down = Unit {0}

pub record StampedMove (k : ℕ) (m : ActorMove) : Type 0 where
  own : OwnActor k m.actor
  pub sends : AreStamped m.turn.sends
  pub failed : AreStamped m.turn.failed_sends
  pub writes : IsOwnWrite m.turn.write

none_stamped : (ps : List Posting) → ps ≡ [] → AreStamped ps
none_stamped ps none = subst AreStamped (sym none) tt

down_stamped : (k : ℕ) (g : Input) → StampedMove k (moved actor.Down (down_takes g))
down_stamped k (inputs.Called command) = record { own = tt; sends = tt; failed = tt; writes = unwritten None refl }
down_stamped k (inputs.Got e) = record { own = tt; sends = tt; failed = tt; writes = unwritten None refl }
down_stamped k (inputs.Lost number) = record { own = tt; sends = tt; failed = tt; writes = unwritten None refl }

-- the administrator's messages have no stamps of verdicts, and his records aren't commit records

message_stamped : (m : Message) → IsOfAdmin m → IsStamped m
message_stamped m is =
    message_cases
    (λ m r a d i. IsOfAdmin m → MatchOption d (Unit {0}) (λ (v : Decided). IsOwnStamp v.tx v.verdict))
    (λ q is. tt) (λ a is. tt) (λ v is. absurd is) (λ tx is. tt) (λ m is. tt) m is

admin_stamped : (ps : List Posting) → Every IsSentByAdmin ps → AreStamped ps
admin_stamped [] are = tt
admin_stamped (p ∷ ps) are = (message_stamped p.message are.0, admin_stamped ps are.1)

decision_own : (w : Option Record) → WritesDecision w → IsOwnWrite w
decision_own w is c same = absurd (subst WritesDecision same is)

takes_stamped : (decl : Declaration) (k : ℕ) (v : Actor) (g : Input) → OwnActor k v
    → StampedMove k (actor_takes decl v g)
takes_stamped decl k (actor.Site s) g own = let m : IsAnswering _ = takes_answer decl s g in
    record { own = tt; sends = m.sends; failed = m.failed; writes = m.writes }
takes_stamped decl k (actor.Client c) g own =
    let m : OwnMove k _ = takes_own decl k c g own in
    record {
      own = m.own;
      sends = m.sends;
      failed = none_stamped _ (client_written decl c g).failed_sends;
      writes = m.writes;
    }
takes_stamped decl k (actor.Admin m) g own =
    let t : IsAdminTurn _ = admin_written decl m g in
    record {
      own = tt;
      sends = admin_stamped _ t.sends;
      failed = none_stamped _ t.failed_sends;
      writes = decision_own _ t.writes;
    }
takes_stamped decl k actor.Down g own = down_stamped k g

sends_own : (k : ℕ) (v : Actor) (number to : ℕ) (m : Message) → OwnActor k v → OwnActor k (actor_sends v number to m)
sends_own k (actor.Site s) number to m own = tt
sends_own k (actor.Client c) number to m own = sent_own k c number to m own
sends_own k (actor.Admin v) number to m own = tt
sends_own k actor.Down number to m own = tt

inquiries_stamped : (decl : Declaration) (txs : List TxId) → AreStamped (map (inquiry decl) txs)
inquiries_stamped decl [] = tt
inquiries_stamped decl (tx ∷ txs) = (tt, inquiries_stamped decl txs)

rises_stamped : (decl : Declaration) (a : ℕ) (rs : List Record) → (is_client decl a ≡ true → Every IsOwnRecord rs)
    → StampedMove (a - decl.sites) (actor_rises decl a rs)
rises_stamped decl a rs all = by (is_site decl a) (is_client decl a) all
  where
    by : (t c : Bool) → (c ≡ true → Every IsOwnRecord rs)
        → StampedMove (a - decl.sites) (if t then by_site (site_rises decl a rs) else
        (if c then by_client (client_rises (a - decl.sites) rs) else by_admin (admin_rises rs)))
    by true c all = record {
      own = tt;
      sends =
          inquiries_stamped decl
          (take most_inquiries (in_order (map (λ (p : Prepared). p.tx) (site_kept rs).promises)));
      failed = tt;
      writes = λ c is. absurd (let never : ⊥ = cc in never);
    }
    by false false all = record {
      own = tt;
      sends = tt;
      failed = tt;
      writes = λ c is. absurd (let never : ⊥ = cc in never);
    }
    by false true all = record {
      own = risen_own (a - decl.sites) (rs ++ records.Life ∷ [])
          (every-append IsOwnRecord rs (records.Life ∷ []) (all refl) (tt, tt));
      sends = tt;
      failed = tt;
      writes = λ c is. absurd (let never : ⊥ = cc in never);
    }

module _ (decl : Declaration) (a : ℕ) where
  abbrev IsGiven : List Deed → Type 0
  IsGiven ds = is_client decl a ≡ true → Every GivesOwn ds

  does_stamped : (m : ActorMove) (d : Deed) → (is_client decl a ≡ true → GivesOwn d) → StampedMove (a - decl.sites) m
      → StampedMove (a - decl.sites) (actor_does decl a m d)
  does_stamped m (Takes g) gives is = takes_stamped decl (a - decl.sites) m.actor g is.own
  does_stamped m (Writes written) gives is = is
  does_stamped m (Sends number to message) gives is =
      record {
        own = sends_own (a - decl.sites) m.actor number to message is.own;
        sends = is.sends;
        failed = is.failed;
        writes = is.writes;
      }
  does_stamped m (Tells reply) gives is = is
  does_stamped m (Falls cause pending) gives is =
      record { own = tt; sends = tt; failed = tt; writes = unwritten None refl }
  does_stamped m (Rises records) gives is = rises_stamped decl a records gives

  folded_stamped : (ds : List Deed) (m : ActorMove) → IsGiven ds → StampedMove (a - decl.sites) m
      → StampedMove (a - decl.sites) (fold (actor_does decl a) m ds)
  folded_stamped [] m gives is = is
  folded_stamped (d ∷ ds) m gives is = folded_stamped ds (actor_does decl a m d) (λ client. (gives client).1)
      (does_stamped m d (λ client. (gives client).0) is)

  first_stamped : StampedMove (a - decl.sites) (moved (new_actor decl a) quiet)
  first_stamped = record {
    own = by (is_site decl a) (is_client decl a);
    sends = tt;
    failed = tt;
    writes = unwritten None refl;
  }
    where
      by : (t c : Bool) → OwnActor (a - decl.sites)
          (if t then actor.Site (new_site a) else (if c then actor.Client
          (new_client (a - decl.sites)) else actor.Admin new_admin))
      by true c = tt
      by false false = tt
      by false true = record {
        front = record { client = refl; begun = tt };
        desk = refl;
        commits = tt;
        hand = λ tx none. absurd (let never : ⊥ = cc in never);
      }

  after_stamped : (ds : List Deed) → IsGiven ds → StampedMove (a - decl.sites) (actor_after decl a ds)
  after_stamped ds gives = folded_stamped ds (moved (new_actor decl a) quiet) gives first_stamped

  as_stamped : (end : Appended) (t : Turn) → AreStamped t.sends → AreStamped t.failed_sends
      → AreStamped (sends_as end t)
  as_stamped Done t sends failed = sends
  as_stamped Failed t sends failed = failed
  as_stamped Stopped t sends failed = tt

  -- a lawful turn is the one that its actor's deeds call for
  lawful_move : (ds : List Deed) (turn : Turn) → IsLawfulWithFalls decl a ds turn
      → (is_client decl a ≡ true → Every GivesOwn ds)
      → StampedMove (a - decl.sites) (actor_after decl a ds) × ((actor_after decl a ds).turn ≡ with_record turn)
  lawful_move ds turn law gives = (after_stamped ds gives, called_turn decl a ds turn law)

  -- so what it sends, whatever became of its record, is stamped, and so is what it writes

  pub lawful_stamped : (ds : List Deed) (turn : Turn) → IsLawfulWithFalls decl a ds turn
      → (is_client decl a ≡ true → Every GivesOwn ds) → AreStamped (sends_as turn.append turn)
  lawful_stamped ds turn law gives =
      let m : StampedMove (a - decl.sites) (actor_after decl a ds)
      × ((actor_after decl a ds).turn ≡ with_record turn) = lawful_move ds turn law gives in
      as_stamped turn.append turn (subst (λ (t : Turn). AreStamped t.sends) m.1 m.0.sends)
      (subst (λ (t : Turn). AreStamped t.failed_sends) m.1 m.0.failed)

  pub lawful_writes : (ds : List Deed) (turn : Turn) → IsLawfulWithFalls decl a ds turn
      → (is_client decl a ≡ true → Every GivesOwn ds) → IsOwnWrite turn.write
  lawful_writes ds turn law gives =
      let m : StampedMove (a - decl.sites) (actor_after decl a ds)
      × ((actor_after decl a ds).turn ≡ with_record turn) = lawful_move ds turn law gives in
      subst (λ (t : Turn). IsOwnWrite t.write) m.1 m.0.writes
